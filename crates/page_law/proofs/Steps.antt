-- What a program's step shows: pages as it found them. It asks first, and then changes pages.
use Rattle.std.proofs.Common.{◌≡◌, ◌<◌, ℕ, List, sym, subst}
use Rattle.cloak_model.specs.declared.inside.Went.TheVariants as went
use Rattle.cloak_model.specs.Asking.{Told}
use Rattle.cloak_model.specs.AskPages.{ask_read}
use Rattle.cloak_model.specs.DomainState.{Domain}
use Rattle.cloak_model.specs.DomainStep.{DomainStepped, domain_script, domain_step}
use Rattle.cloak_model.specs.Fork.{forget_each}
use Rattle.cloak_model.specs.World.{World}
use Rattle.script_fold.proofs.Endings.{keeps_forgets}
use Rattle.cloak_model.specs.Script.{Question, Reach, Get, Put, Clear, Change, Write, Copy, Forget, Script, Gives, Asks, Reads, Changes, asked, changed, played}
use Rattle.script_fold.proofs.Scripts.{IsOf, IsOwn, ChangesOnly, ChangesLast}
use Rattle.script_fold.proofs.StepScripts.{HasGone, step_scripted}
use Rattle.page_law.proofs.Worlds.{OnlyShows, OnlyChanges, Shows, Shows-refl, Shows-behind, Shows-changes, OnlyChanges-refl, OnlyChanges-trans}
use Rattle.page_law.proofs.Questions.{shows_reach, shows_read, shows_get, shows_put, shows_clear, changes_write, changes_copy, changes_forget}

pub shows_asked : {count : ℕ} (d : ℕ) (question : Question) → IsOf d question → (w : World) → d < count →
    OnlyShows count w (asked question w).world
shows_asked {count} d (Reach q va kind) own w low = shows_reach q va kind w (subst (λ (n : ℕ). n < count) (sym own) low)
shows_asked d (Get va width) own w low = shows_get va width w
shows_asked d (Put va width value) own w low = shows_put va width value w
shows_asked d (Clear domain marked) own w low = shows_clear domain marked w

changes_changed : (change : Change) (w : World) → OnlyChanges w (changed change w).world
changes_changed (Write q at width value) w = changes_write q at width value w
changes_changed (Copy domain from to) w = changes_copy domain from to w
changes_changed (Forget domain resource) w = changes_forget domain resource w

pub changes_forgets : (domain : ℕ) (numbers : List ℕ) (w : World) →
    OnlyChanges w (played (forget_each domain numbers) w).world
changes_forgets domain numbers w =
    keeps_forgets OnlyChanges OnlyChanges-refl OnlyChanges-trans changes_forget domain numbers w

-- Changes that are left show nothing, and the end is one after a change.
record Changed {A : Type 0} (C : A → Type 0) (w : World) (t : Told A) : Type 0 where
  pub only : OnlyChanges w t.world
  pub end : C t.answer

changes_script : {A : Type 0} (C : A → Type 0) (s : Script A) (w : World) → ChangesOnly C s →
    Changed C w (played s w)
unfolding ChangesOnly
changes_script C (Gives a) w only = record { only = OnlyChanges-refl w; end = only }
changes_script C (Changes change more) w only =
    let rest = changes_script C more (changed change w).world only in
    record { only = OnlyChanges-trans _ _ _ (changes_changed change w) rest.only; end = rest.end }
changes_script C _ w only = absurd only

-- a script shows what it found, and if it was stopped, which no end after a change says, it has changed nothing
shows_script : {count : ℕ} (d : ℕ) {A : Type 0} (C P : A → Type 0) → ((a : A) → C a → P a → ⊥) → (s : Script A)
    (w : World) → d < count → IsOwn d s → ChangesLast C s → Shows count (P (played s w).answer) w (played s w).world
unfolding IsOwn ChangesLast
shows_script d C P apart (Gives a) w low own last = Shows-refl w
shows_script d C P apart (Asks question more) w low own last =
    let t = asked question w in
    Shows-behind w t.world _ (shows_asked d question own.0 w low)
    (shows_script d C P apart (more t.answer) t.world low (own.1 t.answer) (last t.answer))
shows_script d C P apart (Reads q at width more) w low own last =
    let t = ask_read q at width w in
    Shows-behind w t.world _ (shows_read q at width w)
    (shows_script d C P apart (more t.answer) t.world low (own.1 t.answer) (last t.answer))
shows_script d C P apart (Changes change more) w low own last =
    let rest = changes_script C more (changed change w).world last in
    Shows-changes w _ (OnlyChanges-trans _ _ _ (changes_changed change w) rest.only) (apart _ rest.end)

-- a step of a program shows pages as it found them, and if it was stopped it has changed none
pub ends_domain_step : {count : ℕ} (slot : ℕ) (d : Domain) (w : World) → d.control.number < count →
    let t = domain_step slot d w in Shows count (t.answer.went ≡ went.Stopped) w t.world
unfolding domain_step
ends_domain_step slot d w low =
    let s = step_scripted slot d in
    shows_script d.control.number (λ (x : DomainStepped). HasGone x.went)
    (λ (x : DomainStepped). x.went ≡ went.Stopped) (λ x goes is. subst HasGone is goes) (domain_script slot d) w low
    s.own s.last
