use Rattle.std.proofs.Common.{None, ap, ◌∙◌}
use Rattle.cloak_model.specs.Memory.{with_mark}
use Rattle.cloaked_side.proofs.Marking.{holds_remarked}
use Rattle.cloaked_side.proofs.memory.Memory.unmark.Goals as goal

pub returns-clause-holds : goal.returns-clause-holds
returns-clause-holds c m h =
    holds_remarked c.args.self.now c.unmark.new.self (with_mark c.args.hart None m.marks) m
    (c.unmark.ensures ∙ ap (λ marks. with_mark c.args.hart None marks) h.marks) h
