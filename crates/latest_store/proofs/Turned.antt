-- What a step of the joint machine does to the pages and the completed loads of programs, but for the end of a domain
-- after it.
use Rattle.std.proofs.Common.{◌≡◌, ◌∙◌, ℕ, zero, suc, Bool, true, false, cond, List, [], ◌∷◌, ◌++◌, slice_get, slice_set, Option, Some, None, Result, Ok, Err, refl, sym, ap, subst, append-nil, ◌≢◌, inl, inr, eq-eqb, ne_eqb}
use Rattle.std.specs.Prelude.{◌==◌}
use Rattle.std.proofs.lemmas.List.Elements.{filter-append}
use Rattle.cloak_base.specs.declared.causes.Shown.{Shown}
use Rattle.cloak_base.specs.declared.names.PageId.{PageId}
use Rattle.cloak_model.specs.declared.context.Phase.{Phase}
use Rattle.cloak_model.specs.declared.context.Phase.TheVariants.{Plain}
use Rattle.cloak_model.specs.declared.context.ResumeFault.{ResumeFault}
use Rattle.cloak_model.specs.declared.inside.Went.{Went}
use Rattle.cloak_model.specs.declared.inside.Went.TheVariants as went
use Rattle.cloak_model.specs.Items.{Item}
use Rattle.cloak_model.specs.Items as item
use Rattle.cloak_model.specs.declared.outcome.Kernel.{Kernel}
use Rattle.cloak_model.specs.declared.outcome.Kernel.TheVariants.{Put, Resume}
use Rattle.cloak_model.specs.Ahead.{settled_step, made_after}
use Rattle.cloak_model.specs.Asking.{Told}
use Rattle.cloak_model.specs.Contexts.{Context, Admitted, context_at, domain_of, slot_of}
use Rattle.cloak_model.specs.DomainState.{Control, Domain}
use Rattle.cloak_model.specs.DomainStep.{DomainStepped, domain_step, interrupt}
use Rattle.cloak_model.specs.Halves.{is_inward, inward_half}
use Rattle.cloak_model.specs.Hart.{Hart}
use Rattle.cloak_model.specs.Joint.{Turn, cloak_of, memory_of, outside_ended, after_outside, outside_step, domain_ended, after_domain_step, pages_for, interrupt_ended, after_interrupt, by_interrupt, by_running, inside_step, turn_of}
use Rattle.cloak_model.specs.KernelStep.{ticked}
use Rattle.cloak_model.specs.Parts.{Joint}
use Rattle.cloak_model.specs.Resuming.{resume}
use Rattle.cloak_model.proofs.ResumeParts.{by_root, by_context, by_domain, resume_slot_resources, interrupt_if_resources}
use Rattle.cloak_model.specs.World.{World, MidStep, Cloaked, items_of}
use Rattle.domain_isolation.proofs.InOrder.{decided}
use Rattle.kernel_isolation.proofs.Numbers.{AreFrom, number_at}
use Rattle.page_law.proofs.Settlings.{touched_draws}
use Rattle.latest_store.specs.Moves.{Move}
use Rattle.latest_store.specs.Deeds.{phase_moves, context_moves, program_moves, step_moves}
use Rattle.latest_store.proofs.Moved.{Agrees, moved_by, given_by, AreSound}
use Rattle.latest_store.proofs.Numbers.{follows_same, follows_equal}
use Rattle.latest_store.proofs.Fits.{FreeZero, Fits, fits_none}
use Rattle.latest_store.proofs.Heard.{Heard, Did}
use Rattle.latest_store.proofs.CopyDeeds.{step_did}
use Rattle.latest_store.proofs.Sound.{context_sound}
use Rattle.page_law.proofs.OwnPages.{memory_plain}
use Rattle.domain_isolation.proofs.InsideSteps.{with_leave}

-- Programs.

-- Program d of a list was there before, and these moves gave its new loads and fit it.
pub record Grew (domains : List Domain) (d : ℕ) (moves : List Move) (plain : PageId → List ℕ) (now : Domain) : Type 0
  where
    pub was : Domain
    pub there : slice_get domains d ≡ Some was
    pub loads : now.loads ≡ was.loads ++ given_by moves plain
    pub fits : Fits d was.control.resources moves now.control.resources

-- each program of the second list was there before, and did these moves if it is this one
abbrev pub GrowBy : ℕ → List Move → (PageId → List ℕ) → List Domain → List Domain → Type 0
GrowBy e moves plain domains domains' =
    (d : ℕ) (now : Domain) → slice_get domains' d ≡ Some now → Grew domains d (cond (e == d) moves []) plain now

stays : (domains : List Domain) (d : ℕ) (moves : List Move) (plain : PageId → List ℕ) (now : Domain) → moves ≡ [] →
    slice_get domains d ≡ Some now → Grew domains d moves plain now
stays domains d moves plain now none there = record {
  was = now;
  there = there;
  loads = sym (append-nil now.loads) ∙ ap (λ (ms : List Move). now.loads ++ given_by ms plain) (sym none);
  fits = fits_none d now.control.resources moves now.control.resources none (follows_same now.control.resources);
}

none_either : (b : Bool) → ◌≡◌ {A = List Move} (cond b [] []) []
none_either true = refl
none_either false = refl

same_grow : (e : ℕ) (plain : PageId → List ℕ) (domains : List Domain) → GrowBy e [] plain domains domains
same_grow e plain domains d now there = stays domains d _ plain now (none_either (e == d)) there

pub set_same : (domains : List Domain) (e : ℕ) (found made now : Domain) → slice_get domains e ≡ Some found →
    slice_get (slice_set domains e made) e ≡ Some now → made ≡ now
set_same [] zero found made now there is = absurd cc
set_same [] (suc e) found made now there is = absurd cc
set_same (x ∷ domains) zero found made now there is = cc
set_same (x ∷ domains) (suc e) found made now there is = set_same domains e found made now there is

pub set_other : (domains : List Domain) (e d : ℕ) (made now : Domain) → e ≢ d →
    slice_get (slice_set domains e made) d ≡ Some now → slice_get domains d ≡ Some now
set_other [] e d made now other is = is
set_other (x ∷ domains) zero zero made now other is = absurd (other refl)
set_other (x ∷ domains) zero (suc d) made now other is = is
set_other (x ∷ domains) (suc e) zero made now other is = is
set_other (x ∷ domains) (suc e) (suc d) made now other is =
    set_other domains e d made now (λ same. other (ap (λ (k : ℕ). suc k) same)) is

set_grows : (domains : List Domain) (e : ℕ) (found made : Domain) (moves : List Move) (plain : PageId → List ℕ) →
    slice_get domains e ≡ Some found → made.loads ≡ found.loads ++ given_by moves plain →
    Fits e found.control.resources moves made.control.resources →
    GrowBy e moves plain domains (slice_set domains e made)
set_grows domains e found made moves plain there loads fits d now is = elim (decided e d) [
  | inl same ↦
      let here : made ≡ now = set_same domains e found made now there
      (subst (λ (k : ℕ). slice_get (slice_set domains e made) k ≡ Some now) (sym same) is) in
      let one : Grew domains e moves plain made =
      record { was = found; there = there; loads = loads; fits = fits } in
      let all : cond (e == d) moves [] ≡ moves = ap (λ (b : Bool). cond b moves []) (eq-eqb e d same) in
      subst (λ (ms : List Move). Grew domains d ms plain now) (sym all)
      (subst (λ (k : ℕ). Grew domains k moves plain now) same
      (subst (λ (x : Domain). Grew domains e moves plain x) here one))
  | inr other ↦
      stays domains d (cond (e == d) moves []) plain now (ap (λ (b : Bool). cond b moves []) (ne_eqb e d other))
      (set_other domains e d made now other is)
]

-- These moves, of one program, were done after a history.
pub record TurnDid (history moves : List Move) (j : Joint) (t : Turn) : Type 0 where
  pub program : ℕ
  pub sound : AreSound program history moves
  pub pages : (q : PageId) → t.joint.memory.plain q ≡ moved_by moves j.memory.plain q
  pub programs : GrowBy program moves j.memory.plain j.domains t.joint.domains

-- the pages under the free numbers of each program are zeros
abbrev pub FreeInAll : List Move → Joint → Type 0
FreeInAll history j =
    (d : ℕ) (program : Domain) → slice_get j.domains d ≡ Some program → FreeZero history d program.control.resources

-- A hart outside does nothing.

record Keeps (j j' : Joint) : Type 0 where
  pub pages : j'.memory.plain ≡ j.memory.plain
  pub programs : (plain : PageId → List ℕ) → GrowBy 0 [] plain j.domains j'.domains

kept : (j j' : Joint) → j'.memory.plain ≡ j.memory.plain → j'.domains ≡ j.domains → Keeps j j'
kept j j' pages domains = record {
  pages = pages;
  programs = λ plain. subst (GrowBy 0 [] plain j.domains) (sym domains) (same_grow 0 plain j.domains);
}

-- a program's contexts are others
set_none : (plain : PageId → List ℕ) (domains : List Domain) (e : ℕ) (found made : Domain) →
    slice_get domains e ≡ Some found → made.loads ≡ found.loads →
    made.control.resources ≡ found.control.resources → GrowBy 0 [] plain domains (slice_set domains e made)
set_none plain domains e found made there loads same d now is =
    subst (λ (ms : List Move). Grew domains d ms plain now) (none_either (e == d) ∙ sym (none_either (0 == d)))
    (set_grows domains e found made [] plain there (loads ∙ sym (append-nil found.loads))
    (fits_none e _ [] _ refl (follows_equal _ _ same)) d now is)

root_keeps : (j : Joint) (satp ctx reply : ℕ) (w : Domain) (control : Control) (a : Admitted)
    (answer : Result (Unit {0}) ResumeFault) → slice_get j.domains (domain_of ctx) ≡ Some w →
    control.resources ≡ w.control.resources → Keeps j (by_root j satp ctx reply w control a answer).joint
unfolding by_root
root_keeps j satp ctx reply w control a (Err fault) there same = kept j j refl refl
root_keeps j satp ctx reply w control a (Ok done) there same = record {
  pages = refl;
  programs = λ plain.
      set_none plain j.domains (domain_of ctx) w (record w { control = control }) there refl same;
}

context_keeps : (j : Joint) (satp ctx reply : ℕ) (w : Domain) (control : Control)
    (answer : Result (Unit {0}) ResumeFault) → slice_get j.domains (domain_of ctx) ≡ Some w →
    control.resources ≡ w.control.resources → Keeps j (by_context j satp ctx reply w control answer).joint
unfolding by_context
context_keeps j satp ctx reply w control (Err fault) there same = kept j j refl refl
context_keeps j satp ctx reply w control (Ok done) there same =
    root_keeps j satp ctx reply w control _ _ there same

domain_keeps : (j : Joint) (hart satp ctx reply : ℕ) (found : Option Domain) →
    slice_get j.domains (domain_of ctx) ≡ found → Keeps j (by_domain j hart satp ctx reply found).joint
unfolding by_domain
domain_keeps j hart satp ctx reply None there = kept j j refl refl
domain_keeps j hart satp ctx reply (Some w) there =
    context_keeps j satp ctx reply w _ _ there (resume_slot_resources (slot_of ctx) hart reply w.control)

resume_keeps : (j : Joint) (hart satp ctx reply : ℕ) → Keeps j (resume j hart satp ctx reply).joint
unfolding resume by_domain by_context by_root
resume_keeps j hart satp ctx reply = domain_keeps j hart satp ctx reply _ refl

ended_keeps : (j : Joint) (number : ℕ) (items : List Item) (k : Kernel) →
    Keeps j (outside_ended j number items k).joint
unfolding outside_ended
ended_keeps j number items (Put b) = kept j _ refl refl
ended_keeps j number items (Resume ctx answer) = resume_keeps j number _ ctx answer
ended_keeps j number items _ = kept j j refl refl

outside_keeps : (j : Joint) (number : ℕ) (h : Hart) → Keeps j (outside_step j number h).joint
unfolding outside_step after_outside settled_step made_after
outside_keeps j number h =
    let ended = ended_keeps _ number _ _ in
    record { pages = ended.pages ∙ (touched_draws {count = 0} h j.disk j.memory).plain; programs = ended.programs }

-- A hart inside.

pub record EndsSo (e : ℕ) (j : Joint) (items : List Item) (t : Turn) : Type 0 where
  pub told : inward_half e t.items ≡ inward_half e items
  pub pages : t.joint.memory.plain ≡ j.memory.plain
  pub domains : t.joint.domains ≡ j.domains

pub domain_ended_so : (e : ℕ) (j : Joint) (number : ℕ) (h : Hart) (d : ℕ) (w : World) (how : Went) →
    EndsSo e j (items_of w) (domain_ended j number h d w how)
unfolding domain_ended
domain_ended_so e j number h d w (went.Leave s) =
    record { told = with_leave e (items_of w) s; pages = refl; domains = refl }
domain_ended_so e j number h d w (went.SpaceGone space s) =
    record { told = with_leave e (items_of w) s; pages = refl; domains = refl }
domain_ended_so e j number h d w _ = record { told = refl; pages = refl; domains = refl }

pub interrupt_ended_so : (e : ℕ) (j : Joint) (number : ℕ) (h : Hart) (items : List Item) (how : Went) →
    EndsSo e j items (interrupt_ended j number h items how)
unfolding interrupt_ended
interrupt_ended_so e j number h items (went.Leave s) =
    record { told = with_leave e items s; pages = refl; domains = refl }
interrupt_ended_so e j number h items _ = record { told = refl; pages = refl; domains = refl }

-- the step of a program, by what it was told
built : (history : List Move) (j : Joint) (e slot : ℕ) (found made : Domain) (t : Turn) (answers : List Item) →
    slice_get j.domains e ≡ Some found → found.control.number ≡ e → inward_half e t.items ≡ answers →
    let moves = context_moves (context_at found.control.contexts slot) history found.control answers in
    t.joint.memory.plain ≡ moved_by moves j.memory.plain → t.joint.domains ≡ slice_set j.domains e made →
    made.loads ≡ found.loads ++ given_by moves j.memory.plain →
    Fits found.control.number found.control.resources moves made.control.resources →
    FreeZero history e found.control.resources →
    TurnDid history (program_moves (Some found) history slot (inward_half e t.items)) j t
unfolding program_moves
built history j e slot found made t answers there own told pages domains loads fits zeros =
    let of : List Item → List Move = context_moves (context_at found.control.contexts slot) history found.control in
    subst (λ (l : List Item). TurnDid history (of l) j t) (sym told) (record {
      program = e;
      sound = subst (λ (n : ℕ). AreSound n history (of answers)) own
          (context_sound (context_at found.control.contexts slot) history found.control answers
          (subst (λ (n : ℕ). FreeZero history n found.control.resources) (sym own) zeros));
      pages = λ q. ap (λ (p : PageId → List ℕ). p q) pages;
      programs = subst (GrowBy e (of answers) j.memory.plain j.domains) (sym domains)
          (set_grows j.domains e found made (of answers) j.memory.plain there loads
          (subst (λ (n : ℕ). Fits n found.control.resources (of answers) made.control.resources) own fits));
    })

-- an interrupt is told of by one item, and nothing is done

pub timer_phase : (p : Phase) (history : List Move) (d : Control) (c : Context) (e : ℕ) →
    phase_moves p history d c (item.Timer e ∷ []) ≡ []
unfolding phase_moves
timer_phase Plain history d c e = refl
timer_phase _ history d c e = refl

pub timer_none : (o : Option Context) (history : List Move) (d : Control) (e : ℕ) →
    context_moves o history d (item.Timer e ∷ []) ≡ []
unfolding context_moves
timer_none None history d e = refl
timer_none (Some c) history d e = timer_phase c.phase history d c e

-- nothing is told of, and nothing is done

pub silent_phase : (p : Phase) (history : List Move) (d : Control) (c : Context) → phase_moves p history d c [] ≡ []
unfolding phase_moves
silent_phase Plain history d c = refl
silent_phase _ history d c = refl

pub silent_none : (o : Option Context) (history : List Move) (d : Control) → context_moves o history d [] ≡ []
unfolding context_moves
silent_none None history d = refl
silent_none (Some c) history d = silent_phase c.phase history d c

pub timer_told : (e : ℕ) → inward_half e (item.Timer e ∷ []) ≡ item.Timer e ∷ []
timer_told e = ap (λ (b : Bool). cond b (item.Timer e ∷ []) []) (eq-eqb e e refl)

interrupt_same : (slot : ℕ) (d : Control) → (interrupt slot d).control.resources ≡ d.resources
unfolding interrupt
interrupt_same slot d = interrupt_if_resources _ slot d

-- a step of its context
stepped_did : (history : List Move) (j : Joint) (number : ℕ) (h : Hart) (e slot : ℕ) (found : Domain)
    (t : Told DomainStepped) → slice_get j.domains e ≡ Some found → found.control.number ≡ e →
    FreeZero history e found.control.resources →
    Did j.memory.plain found
    (context_moves (context_at found.control.contexts slot) history found.control) t →
    TurnDid history (program_moves (Some found) history slot
    (inward_half e (after_domain_step j number h e t).items)) j (after_domain_step j number h e t)
unfolding after_domain_step
stepped_did history j number h e slot found t there own zeros did =
    let j' : Joint = record j {
      domains = slice_set j.domains e t.answer.domain;
      memory = memory_of t.world j.memory;
    } in
    let ended = domain_ended_so e j' number h e t.world t.answer.went in
    built history j e slot found t.answer.domain (domain_ended j' number h e t.world t.answer.went) did.answers there
    own (ended.told ∙ subst (λ (n : ℕ). inward_half n (items_of t.world) ≡ did.answers) own did.told)
    (ended.pages ∙ sym (memory_plain t.world j.memory did.form) ∙ did.pages)
    ended.domains did.loads did.fits zeros

by_did : (due : Bool) (history : List Move) (j : Joint) (number : ℕ) (h : Hart) (e slot : ℕ) (found : Domain) →
    slice_get j.domains e ≡ Some found → found.control.number ≡ e → FreeZero history e found.control.resources →
    Agrees history j.memory.plain →
    let t = by_interrupt due j number h e slot found in
    TurnDid history (program_moves (Some found) history slot (inward_half e t.items)) j t
unfolding by_interrupt after_interrupt
by_did true history j number h e slot found there own zeros agrees =
    let o = context_at found.control.contexts slot in
    let made : Control → Domain = λ control. record found { control = control } in
    let none = timer_none o history found.control e in
    let ended = interrupt_ended_so e _ number h (item.Timer e ∷ []) _ in
    built history j e slot found (made _) _ (item.Timer e ∷ []) there own (ended.told ∙ timer_told e)
    (ended.pages ∙ ap (λ (ms : List Move). moved_by ms j.memory.plain) (sym none)) ended.domains
    (sym (append-nil found.loads) ∙ ap (λ (ms : List Move). found.loads ++ given_by ms j.memory.plain) (sym none))
    (fits_none found.control.number _ _ _ none (follows_equal _ _ (interrupt_same slot found.control))) zeros
by_did false history j number h e slot found there own zeros agrees =
    let c : MidStep = cloak_of j.memory h e (pages_for found (context_at found.control.contexts slot)) in
    let heard : Heard found.control.number j.memory.plain [] (Cloaked c) =
    record { form = refl; regime = sym own; pages = refl; told = refl } in
    stepped_did history j number h e slot found (domain_step slot found (Cloaked c)) there own zeros
    (step_did slot found history j.memory.plain (Cloaked c) agrees heard)

nothing_did : (history : List Move) (j : Joint) (t : Turn) → t.joint.memory.plain ≡ j.memory.plain →
    t.joint.domains ≡ j.domains → TurnDid history [] j t
nothing_did history j t pages domains = record {
  program = 0;
  sound = tt;
  pages = λ q. ap (λ (p : PageId → List ℕ). p q) pages;
  programs = subst (GrowBy 0 [] j.memory.plain j.domains) (sym domains) (same_grow 0 j.memory.plain j.domains);
}

-- a context that does not run on the hart is left
running_did : (runs : Bool) (history : List Move) (j : Joint) (number : ℕ) (h : Hart) (ctx : ℕ) (found : Domain) →
    slice_get j.domains (domain_of ctx) ≡ Some found → found.control.number ≡ domain_of ctx →
    FreeZero history (domain_of ctx) found.control.resources → Agrees history j.memory.plain →
    let t = by_running runs j number h ctx found in
    TurnDid history (program_moves (Some found) history (slot_of ctx) (inward_half (domain_of ctx) t.items)) j t
unfolding by_running program_moves
running_did false history j number h ctx found there own zeros agrees =
    subst (λ (ms : List Move). TurnDid history ms j (by_running false j number h ctx found))
    (sym (silent_none (context_at found.control.contexts (slot_of ctx)) history found.control))
    (nothing_did history j _ refl refl)
running_did true history j number h ctx found there own zeros agrees =
    by_did _ history j number h (domain_of ctx) (slot_of ctx) found there own zeros agrees

inside_did : (history : List Move) (j : Joint) (number : ℕ) (h : Hart) (ctx : ℕ) (found : Option Domain) →
    slice_get j.domains (domain_of ctx) ≡ found → AreFrom 0 j.domains → FreeInAll history j →
    Agrees history j.memory.plain →
    let t = inside_step j number h ctx found in
    TurnDid history (program_moves found history (slot_of ctx) (inward_half (domain_of ctx) t.items)) j t
unfolding inside_step program_moves
inside_did history j number h ctx None there programs zeros agrees = nothing_did history j _ refl refl
inside_did history j number h ctx (Some found) there programs zeros agrees =
    running_did _ history j number h ctx found there (number_at (domain_of ctx) j.domains found programs there)
    (zeros (domain_of ctx) found there) agrees

-- Every step.

pub turn_did : (history : List Move) (j : Joint) (number : ℕ) (h : Hart) (inside : Option ℕ) → AreFrom 0 j.domains →
    FreeInAll history j → Agrees history j.memory.plain →
    let t = turn_of j number h inside in TurnDid history (step_moves history j.domains inside t.items) j t
unfolding turn_of step_moves
turn_did history j number h None programs zeros agrees =
    let keeps = outside_keeps j number h in
    record {
      program = 0;
      sound = tt;
      pages = λ q. ap (λ (p : PageId → List ℕ). p q) keeps.pages;
      programs = keeps.programs j.memory.plain;
    }
turn_did history j number h (Some ctx) programs zeros agrees =
    inside_did history j number (ticked h) ctx _ refl programs zeros agrees
