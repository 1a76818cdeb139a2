use Rattle.std.proofs.Common.{◌∙◌, sym, ap}
use Rattle.cloak_model.specs.Hart.{Hart}
use Rattle.host_calls.proofs.WholeAccess.{release_steps, keep_steps}
use Rattle.host_calls.proofs.plain_step.release.Goals as goal

pub returns-then-ends_reservation : goal.returns-then-ends_reservation
returns-then-ends_reservation g c disk =
    let unmarked = c.unmark.ensures in
    release_steps g.M.Ram _ _ (record { hart = c.args.h.now; disk = disk; ending = c.args.ending.now }) _
    (sym c.ends_reservation.ensures ∙ c.if-ends_reservation.true) (ap (λ (h : Hart). h.id) c.h.view_is)
    (record { follows = unmarked.follows; keeps = unmarked.keeps; same_count = unmarked.same_count })

pub returns-else-ends_reservation : goal.returns-else-ends_reservation
returns-else-ends_reservation g c disk =
    keep_steps g.M.Ram _ _ (sym c.ends_reservation.ensures ∙ c.if-ends_reservation.false)
