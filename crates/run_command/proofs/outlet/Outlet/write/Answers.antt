use Rattle.std.proofs.Common.{refl, sym, ◌∙◌}
use Rattle.run_command.proofs.OutletFacts.{emits_failed, emits_recorded, recorded_as}
use Rattle.run_command.proofs.outlet.Outlet.write.Goals as goal

pub returns-then-has_failed : goal.returns-then-has_failed
returns-then-has_failed g c = emits_failed _ _ _ _ (sym c.has_failed.ensures.failed ∙ c.if-has_failed.true)

pub returns-then-matches : goal.returns-then-matches
returns-then-matches g c =
    let fresh = sym c.has_failed.ensures.failed ∙ c.if-has_failed.false in
    recorded_as c.write_item-n.ensures.front
    (emits_recorded _ _ _ _ _ fresh c.append_end.ensures.same_shelf refl c.append_end.ensures.same_name
    c.append_end.ensures.adds)

pub returns-else-matches : goal.returns-else-matches
returns-else-matches g c =
    let fresh = sym c.has_failed.ensures.failed ∙ c.if-has_failed.false in
    recorded_as c.write_item-n.ensures.front
    (emits_recorded _ _ _ _ _ fresh c.append.ensures.same_shelf refl c.append.ensures.same_name c.append.ensures.adds)
