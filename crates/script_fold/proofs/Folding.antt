-- What each question of a script keeps, a script keeps; and so does a step of a program.
use Rattle.std.proofs.Common.{ℕ}
use Rattle.cloak_base.specs.declared.names.PageId.{PageId}
use Rattle.cloak_model.specs.AskPages.{ask_read}
use Rattle.cloak_model.specs.DomainState.{Domain}
use Rattle.cloak_model.specs.DomainStep.{domain_step}
use Rattle.cloak_model.specs.Script.{Question, Change, Script, Gives, Asks, Reads, Changes, asked, changed, played}
use Rattle.cloak_model.specs.World.{World}
use Rattle.script_fold.proofs.Scripts.{IsOf, Alters, IsOwn, EndClaims, Scripted}
use Rattle.script_fold.proofs.StepScripts.{step_scripted}

pub record Keeps (d : ℕ) (R : World → World → Type 0) : Type 0 where
  pub same : (w : World) → R w w
  pub chained : (u v w : World) → R u v → R v w → R u w
  pub ask : (question : Question) → IsOf d question → (w : World) → R w (asked question w).world
  pub read : (q : PageId) (at width : ℕ) (w : World) → R w (ask_read q at width w).world
  pub change : (change : Change) → Alters d change → (w : World) → R w (changed change w).world

pub script_keeps : {d : ℕ} {A : Type 0} (R : World → World → Type 0) (k : Keeps d R) (s : Script A) → IsOwn d s →
    (w : World) → R w (played s w).world
unfolding IsOwn
script_keeps R k (Gives a) own w = k.same w
script_keeps R k (Asks question more) own w =
    let told = asked question w in
    k.chained _ _ _ (k.ask question own.0 w) (script_keeps R k (more told.answer) (own.1 told.answer) told.world)
script_keeps R k (Reads q at width more) own w =
    let told = ask_read q at width w in
    k.chained _ _ _ (k.read q at width w) (script_keeps R k (more told.answer) (own.1 told.answer) told.world)
script_keeps R k (Changes change more) own w =
    k.chained _ _ _ (k.change change own.0 w) (script_keeps R k more own.1 (changed change w).world)

pub scripted_keeps : {d : ℕ} {A : Type 0} {e : EndClaims A} {s : Script A} (R : World → World → Type 0) → Keeps d R →
    Scripted d e s → (w : World) → R w (played s w).world
scripted_keeps R k is w = script_keeps R k _ is.own w

pub step_keeps : (R : World → World → Type 0) (slot : ℕ) (d : Domain) → Keeps d.control.number R → (w : World) →
    R w (domain_step slot d w).world
unfolding domain_step
step_keeps R slot d k w = scripted_keeps R k (step_scripted slot d) w
