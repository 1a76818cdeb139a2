use Rattle.std.proofs.Common.{◌≡◌, ℕ, subst, Err}
use Rattle.cloak_base.specs.Random.{Random, numbered}
use Rattle.cloak_model.specs.declared.image.Bundle.{Bundle}
use Rattle.cloak_model.specs.Opening.{NoKey, NoPageDraw, opening}
use Rattle.cloak_machine.specs.Standing.{Opens}
use Rattle.joint_machine.specs.declared.opened.OpenFault.{OpenFault}
use Rattle.joint_machine.specs.declared.opened.OpenFault.TheVariants as fault
use Rattle.image_commands.proofs.Draws.{lacks_nothing}
use Rattle.image_commands.proofs.demonstrating.open_image.Goals as goal

lacks_no_key : (b : Bundle) (n : ℕ) (stream : Random) (f : OpenFault) → stream ≡ numbered n → f ≡ fault.NoKey →
    Opens b stream (Err f) → ⊥
lacks_no_key b n stream f same is opens =
    let lacks : opening b stream ≡ Err NoKey = subst (λ (x : OpenFault). Opens b stream (Err x)) is opens in
    lacks_nothing b n NoKey (subst (λ (s : Random). opening b s ≡ Err NoKey) same lacks)

lacks_no_page_draw : (b : Bundle) (n : ℕ) (stream : Random) (f : OpenFault) → stream ≡ numbered n →
    f ≡ fault.NoRandom → Opens b stream (Err f) → ⊥
lacks_no_page_draw b n stream f same is opens =
    let lacks : opening b stream ≡ Err NoPageDraw = subst (λ (x : OpenFault). Opens b stream (Err x)) is opens in
    lacks_nothing b n NoPageDraw (subst (λ (s : Random). opening b s ≡ Err NoPageDraw) same lacks)

pub unreachable-requires : goal.unreachable-requires
unreachable-requires c =
    lacks_no_key _ c.args.number _ _ c.numbered.ensures c.in-Err-NoKey.field-0-is c.in-Err-NoKey.ensures.opens

pub unreachable-requires-in-Err-NoRandom : goal.unreachable-requires-in-Err-NoRandom
unreachable-requires-in-Err-NoRandom c =
    lacks_no_page_draw _ c.args.number _ _ c.numbered.ensures c.in-Err-NoRandom.field-0-is
    c.in-Err-NoRandom.ensures.opens
