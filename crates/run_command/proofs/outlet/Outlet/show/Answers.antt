use Rattle.std.proofs.Common.{refl, sym, ◌∙◌}
use Rattle.run_command.proofs.OutletFacts.{emits_failed, emits_shown}
use Rattle.run_command.proofs.outlet.Outlet.show.Goals as goal

pub returns-then-has_failed-clause-emits : goal.returns-then-has_failed-clause-emits
returns-then-has_failed-clause-emits g c = emits_failed _ _ _ _ (sym c.has_failed.ensures.failed ∙ c.if-has_failed.true)

pub returns-clause-emits : goal.returns-clause-emits
returns-clause-emits g c =
    let fresh = sym c.has_failed.ensures.failed ∙ c.if-has_failed.false in
    emits_shown _ _ _ _ _ c.put_all.result fresh c.is_err-self.ensures.value refl refl refl c.put_all.ensures.ok
    c.put_all.ensures.err c.put_all.ensures.faults
