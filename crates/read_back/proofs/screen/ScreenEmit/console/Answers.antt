use Rattle.std.proofs.Common.{refl, [], ◌∷◌}
use Rattle.command_parts.proofs.PutFacts.{put_one, put_none}
use Rattle.read_back.proofs.ScreenFacts.{emits_none, emits_shown}
use Rattle.read_back.proofs.screen.ScreenEmit.console.Goals as goal

pub returns-then-self : goal.returns-then-self
returns-then-self g c = emits_none _ _ _ c.if-self.true

pub returns : goal.returns
returns g c =
    emits_shown _ _ _ _ c.put.result c.if-self.false c.is_err-self.ensures.value refl
    (put_one c.put.result _ _ c.args.b c.put.ensures.count c.put.ensures.progress c.put.ensures.ok)
    (put_none c.put.result _ _ (c.args.b ∷ []) c.put.ensures.err) c.put.ensures.faults
