use Rattle.std.proofs.Common.{◌≡◌, length, drop}
use Rattle.cloak_model.specs.DomainAlone.{slot_on}
use Rattle.hypercalls.specs.Standing.{control_of}
use Rattle.alone_views.proofs.domain.DomainAlone.slot_on.Given as goal

abbrev pub invariant-loop-slot : goal.invariant-loop-slot
invariant-loop-slot l =
    let contexts = (control_of l.self.domain).contexts in
    length contexts ≡ 8 → slot_on l.hart 0 contexts ≡ slot_on l.hart l.slot (drop l.slot contexts)
