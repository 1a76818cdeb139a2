use Rattle.std.proofs.Common.{refl, sym, ◌∙◌, [], ◌∷◌}
use Rattle.command_parts.proofs.PutFacts.{put_one, put_none}
use Rattle.run_command.proofs.OutletFacts.{emits_failed, emits_shown}
use Rattle.run_command.proofs.outlet.OutletEmit.console.Goals as goal

pub returns-then-has_failed : goal.returns-then-has_failed
returns-then-has_failed g c = emits_failed _ _ _ _ (sym c.has_failed.ensures.failed ∙ c.if-has_failed.true)

pub returns : goal.returns
returns g c =
    let fresh = sym c.has_failed.ensures.failed ∙ c.if-has_failed.false in
    emits_shown _ _ _ _ _ c.put.result fresh c.is_err-self.ensures.value refl refl refl
    (put_one c.put.result _ _ c.args.b c.put.ensures.count c.put.ensures.progress c.put.ensures.ok)
    (put_none c.put.result _ _ (c.args.b ∷ []) c.put.ensures.err)
    c.put.ensures.faults
