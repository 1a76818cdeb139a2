use Rattle.std.proofs.Common.{refl, sym, ◌∙◌}
use Rattle.run_command.proofs.OutletFacts.{emits_failed, emits_shown, Puts-parts}
use Rattle.run_command.proofs.outlet.Outlet.report.Goals as goal

pub returns-then-has_failed-clause-emits : goal.returns-then-has_failed-clause-emits
returns-then-has_failed-clause-emits g c = emits_failed _ _ _ _ (sym c.has_failed.ensures.failed ∙ c.if-has_failed.true)

pub returns-clause-emits : goal.returns-clause-emits
returns-clause-emits g c =
    let fresh = sym c.has_failed.ensures.failed ∙ c.if-has_failed.false in
    let parts = Puts-parts _ _ _ _ _ _ c.report.ensures in
    emits_shown _ _ _ _ _ c.report.result fresh c.is_err-self.ensures.value refl refl refl parts.0 parts.1 parts.2
