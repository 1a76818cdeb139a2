use Rattle.std.proofs.Common.{◌∙◌, sym, ap}
use Rattle.io_traits.specs.declared.stream.Stream.TheInside.{Inside}
use Rattle.io_traits.specs.Source.{random_of}
use Rattle.io_traits.proofs.Draws.{draw-keyed, draw-handed}
use Rattle.io_traits.proofs.stream.Stream.draw.Goals.{in-Handed, in-Numbered}
use Rattle.io_traits.proofs.stream.Stream.draw.Goals as goal

pub returns : goal.returns
returns c = elim c.match-self.branch [
  | in-Handed w ↦
      rw w.result-is
      (draw-handed c.args.self.now _ w.in-Handed.bytes.items w.in-Handed.at w.draw_handed.new.at w.draw_handed.result
      (sym (ap random_of w.in-Handed.is) ∙ c.self.view_is)
      (ap (λ (x : Inside). random_of x.source) w.self-inside-is)
      (rw w.deref.ensures.value at w.draw_handed.ensures.value))
  | in-Numbered w ↦
      rw w.result-is
      (draw-keyed c.args.self.now _ w.in-Numbered.rng w.draw_words.new.rng w.draw_words.result
      (sym (ap random_of w.in-Numbered.is) ∙ c.self.view_is)
      (ap (λ (x : Inside). random_of x.source) w.self-inside-is)
      w.draw_words.ensures)
]
