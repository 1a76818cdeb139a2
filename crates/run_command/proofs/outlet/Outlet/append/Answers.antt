use Rattle.std.proofs.Common.{refl, sym, ◌∙◌}
use Rattle.run_command.proofs.OutletFacts.{emits_failed, emits_recorded}
use Rattle.run_command.proofs.outlet.Outlet.append.Goals as goal

pub returns-then-has_failed-clause-emits : goal.returns-then-has_failed-clause-emits
returns-then-has_failed-clause-emits g c = emits_failed _ _ _ _ (sym c.has_failed.ensures.failed ∙ c.if-has_failed.true)

pub returns-clause-emits : goal.returns-clause-emits
returns-clause-emits g c =
    let fresh = sym c.has_failed.ensures.failed ∙ c.if-has_failed.false in
    emits_recorded _ _ _ _ _ fresh c.append.ensures.same_shelf refl c.append.ensures.same_name c.append.ensures.adds
