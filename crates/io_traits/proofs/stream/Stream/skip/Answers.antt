use Rattle.std.proofs.Common.{◌≡◌, true, false, sym, ◌∙◌, ap}
use Rattle.io_traits.specs.declared.stream.Stream.TheInside.{Inside}
use Rattle.io_traits.specs.Source.{random_of}
use Rattle.io_traits.proofs.Skips.{skips-keyed, skips-handed, skips-none}
use Rattle.io_traits.proofs.stream.Stream.skip.Goals.{in-Handed, in-Numbered}
use Rattle.io_traits.proofs.stream.Stream.skip.Goals as goal

pub returns-clause-enough : goal.returns-clause-enough
returns-clause-enough c = elim c.match-self.branch [
  | in-Handed w ↦
      rw w.result-is
      (λ yes. skips-handed c.args.self.now _ c.args.draws w.in-Handed.bytes.items w.in-Handed.at w.skip_handed.new.at
      (sym (ap random_of w.in-Handed.is) ∙ c.self.view_is)
      (ap (λ (x : Inside). random_of x.source) w.self-inside-is)
      (rw w.deref.ensures.value at (w.skip_handed.ensures.enough yes)))
  | in-Numbered w ↦
      λ yes. skips-keyed c.args.self.now _ c.args.draws w.in-Numbered.rng w.skip_words.new.rng
      (sym (ap random_of w.in-Numbered.is) ∙ c.self.view_is)
      (ap (λ (x : Inside). random_of x.source) w.self-inside-is) w.skip_words.ensures.inside w.skip_words.ensures.moved
]

pub returns-clause-too_few : goal.returns-clause-too_few
returns-clause-too_few c = elim c.match-self.branch [
  | in-Handed w ↦
      rw w.result-is
      (λ no. skips-none c.args.self.now _ c.args.draws w.in-Handed.bytes.items w.in-Handed.at w.skip_handed.new.at
      (sym (ap random_of w.in-Handed.is) ∙ c.self.view_is)
      (ap (λ (x : Inside). random_of x.source) w.self-inside-is)
      (rw w.deref.ensures.value at (w.skip_handed.ensures.too_few no)))
  | in-Numbered w ↦ rw w.result-is (λ no. absurd (let never : true ≡ false = no in cc))
]
