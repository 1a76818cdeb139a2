use Rattle.std.proofs.Common.{◌∙◌, refl, ap, sym, false}
use Rattle.cloak_pager.specs.State.{owed_under, page_of, right_at}
use Rattle.joint_machine.proofs.Freezes.{held_if_owed, resealed_stands, undrawn, unowed}
use Rattle.joint_machine.proofs.freezing.reseal.Goals as goal

pub returns-then-not-owed-clause-owed : goal.returns-then-not-owed-clause-owed
returns-then-not-owed-clause-owed c =
    ap owed_under c.touch.ensures.outside ∙ sym (unowed _ false c.if-not-owed.ensures.1 refl)

pub returns-then-not-owed-clause-held : goal.returns-then-not-owed-clause-held
returns-then-not-owed-clause-held c =
    ap page_of c.touch.ensures.outside ∙ sym (unowed _ false c.if-not-owed.ensures.1 refl)

pub returns-then-not-owed-clause-stream : goal.returns-then-not-owed-clause-stream
returns-then-not-owed-clause-stream c =
    undrawn (right_at c.args.pager.now c.args.f.0) _ c.args.s.now c.touch.new.s
    (unowed _ false c.if-not-owed.ensures.1 refl) c.touch.ensures.drawn

pub returns-then-not-owed-clause-stands : goal.returns-then-not-owed-clause-stands
returns-then-not-owed-clause-stands c =
    resealed_stands c.args.pager.now c.touch.new.self c.args.s.now c.touch.new.s c.touch.result c.args.f.0
    c.touch.ensures.model (unowed _ false c.if-not-owed.ensures.1 refl)

pub returns-else-not-owed-clause-held : goal.returns-else-not-owed-clause-held
returns-else-not-owed-clause-held c =
    held_if_owed (right_at c.args.pager.now c.args.f.0) (c.if-not-owed.ensures.0 refl)
