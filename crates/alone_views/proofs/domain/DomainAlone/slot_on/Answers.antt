use Rattle.std.proofs.Common.{◌∙◌, sym, arith, refl}
use Rattle.alone_views.proofs.DomainHarts.{slot_on-runs, slot_on-other, slot_on-none}
use Rattle.alone_views.proofs.domain.DomainAlone.slot_on.Goals as goal

pub loop-slot-init : goal.loop-slot-init
loop-slot-init c = λ eight. refl

pub loop-slot-preserved : goal.loop-slot-preserved
loop-slot-preserved c = λ eight.
    c.loop-slot.invariant eight ∙ slot_on-other c.args.hart c.loop-slot.slot _ (omega arith) (sym c.runs_on.ensures ∙ c.if-runs_on.false)

pub returns-then-runs_on : goal.returns-then-runs_on
returns-then-runs_on c = λ eight.
    sym (c.loop-slot.invariant eight ∙ slot_on-runs c.args.hart c.loop-slot.slot _ (omega arith) (sym c.runs_on.ensures ∙ c.if-runs_on.true))

pub returns : goal.returns
returns c = λ eight. sym (c.loop-slot.invariant eight ∙ slot_on-none c.args.hart c.loop-slot.slot _ (omega arith))
