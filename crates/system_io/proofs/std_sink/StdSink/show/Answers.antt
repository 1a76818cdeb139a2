use Rattle.std.proofs.Common.{◌++◌, List, ℕ, Option, sym, ◌∙◌, ap}
use Rattle.std.specs.Io.KnownBytes.{append_known}
use Rattle.system_io.specs.Files.{OutputState}
use Rattle.system_io.proofs.Writes.{append_known-append, append_known-back}
use Rattle.system_io.proofs.std_sink.StdSink.show.Goals as goal

pub returns-then-gather-clause-taken : goal.returns-then-gather-clause-taken
returns-then-gather-clause-taken g c =
    append_known-back c.args.self.now.taken (g.O.Output.shown c.self-then-gather.inside.out)
    c.self-then-gather.inside.gathered c.args.piece.now c.take_back.new.self c.take_back.result
    (ap (λ (s : OutputState). s.taken) c.self-then-gather.view_is ∙ c.write_out.ensures.taken
    ∙ ap (λ (l : List ℕ). append_known (g.O.Output.shown c.self.inside.out) l) (c.gather.ensures.taken c.if-gather.true)
    ∙ sym (append_known-append (g.O.Output.shown c.self.inside.out) c.self.inside.gathered c.args.piece.now)
    ∙ ap (λ (o : Option (List ℕ)). append_known o c.args.piece.now) (ap (λ (s : OutputState). s.taken) c.self.view_is))
    c.take_back.ensures.left c.take_back.ensures.written
