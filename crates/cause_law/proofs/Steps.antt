-- A step of the joint machine: the violation with which it ends is of something that was presented in it, and so is
-- refused what is presented.
use Rattle.std.proofs.Common.{◌≡◌, ◌∙◌, ◌⊎◌, ℕ, Bool, true, false, cond, List, length, Option, Some, None, Ok, is_some, eq-eqb, refl, sym, ap, subst, inl, inr}
use Rattle.std.specs.Prelude.{slice_get, slice_index_or, is_none}
use Rattle.std.proofs.lemmas.Bool.{false≢true}
use Rattle.cloak_base.specs.declared.causes.Violation.{Violation}
use Rattle.cloak_base.specs.declared.causes.Violation.TheVariants as violation
use Rattle.cloak_base.specs.declared.names.PageId.{PageId}
use Rattle.cloak_model.specs.declared.inside.Went.{Went}
use Rattle.cloak_model.specs.declared.inside.Went.TheVariants as went
use Rattle.cloak_model.specs.Items.{Item}
use Rattle.cloak_model.specs.declared.outcome.Kernel.{Kernel}
use Rattle.cloak_model.specs.declared.outcome.Kernel.TheVariants as kernel
use Rattle.cloak_model.specs.declared.regime.InsideRegime.{InsideRegime}
use Rattle.cloak_model.specs.Ahead.{settle_touched, settled_step, made_after}
use Rattle.cloak_model.specs.Asking.{Told}
use Rattle.cloak_model.specs.Cloaking.{CloakedMemory, seen_in}
use Rattle.cloak_model.specs.Contexts.{Context, context_at, domain_of, slot_of, is_root}
use Rattle.cloak_model.specs.Csr.{satp_of, interrupt_due}
use Rattle.cloak_model.specs.DomainAlone.{runs_on}
use Rattle.cloak_model.specs.DomainState.{Domain}
use Rattle.cloak_model.specs.DomainStep.{domain_script, step_if, domain_step, interrupt}
use Rattle.cloak_model.specs.Hart.{Hart, started}
use Rattle.cloak_model.specs.HostCalls.{SteppedKernel}
use Rattle.cloak_model.specs.Joint.{Moment, Turn, next_hart, hart_in, cloak_of, cloak_outside, memory_of, after_kernel_step, outside_ended, after_outside, outside_step, without_mark, domain_ended, with_domain, after_domain_step, pages_for, interrupt_ended, after_interrupt, by_interrupt, by_running, inside_step, turn_of, step_before_end}
use Rattle.cloak_model.specs.KernelStep.{kernel_step, ticked}
use Rattle.cloak_model.specs.Parts.{Joint}
use Rattle.cloak_model.specs.Resuming.{resume}
use Rattle.cloak_model.specs.Walk.{walk}
use Rattle.cloak_model.specs.World.{World, MidStep, Flat, Cloaked, Alone, items_of}
use Rattle.cloak_model.specs.Script.{played}
use Rattle.settling_ahead.proofs.Laws.{keeps_rest}
use Rattle.settling_ahead.proofs.Touching.{writes_touched_alone}
use Rattle.kernel_isolation.proofs.Ahead.{touched_keeps}
use Rattle.kernel_isolation.proofs.Accounts.{ram_seen}
use Rattle.kernel_isolation.proofs.Numbers.{number_at}
use Rattle.kernel_isolation.proofs.Turns.{IsSteady}
use Rattle.script_fold.proofs.InstructionScripts.{IsOwnPage, own_page}
use Rattle.cause_law.specs.Causes.{kernel_ending, AsksToResume, context_running, can_run, presented_root, Presents, table_leads, IsLeft}
use Rattle.cause_law.specs.Presented.{hart_of_step, StepsInside, world_inside, Differs, PresentsPage}
use Rattle.cause_law.proofs.Kept.{IsKept, kept_settled}
use Rattle.cause_law.proofs.Accessed.{MetIn, phase_meets}
use Rattle.cause_law.proofs.Asked.{IsCalm, Calm}
use Rattle.cause_law.proofs.Leading.{access_of}
use Rattle.cause_law.proofs.Resumed.{space_id, refusal, resume_refuses, resume_leaves}

no_violation : {P : Type 0} (v : Violation) → None ≡ Some v → P
no_violation v is = absurd cc

same_violation : (v w : Violation) → Some v ≡ Some w → v ≡ w
same_violation v w is = cc

-- A program's step found a page in another frame.
record PageMet (m : Moment) (t : Turn) (v : Violation) : Type 0 where
  pub page : PageId
  pub frame : ℕ
  pub is : v ≡ violation.Page page (record { 0 = frame })
  pub presents : PresentsPage m page frame
  pub own : page.domain ≡ domain_of presents.step.ctx
  pub leads : table_leads (ticked (hart_of_step m)) t.joint.memory.ram presents.kind presents.va
      ≡ Ok presents.finds.walked
  pub differs : Differs page frame t.joint.memory

record Meets (m : Moment) (t : Turn) : Type 0 where
  pub kept : IsKept t.joint.memory
  pub met : (v : Violation) → t.violation ≡ Some v → PageMet m t v

quiet_meets : (m : Moment) (t : Turn) → IsKept t.joint.memory → t.violation ≡ None → Meets m t
quiet_meets m t kept none = record { kept = kept; met = λ v is. no_violation v (sym none ∙ is) }

-- A hart inside.

-- a reservation less changes nothing of it
unmarked_kept : (number : ℕ) (m : CloakedMemory) → IsKept m → IsKept (without_mark number m)
unmarked_kept number m kept = record { places = kept.places; once = kept.once }

ended_calm : (m : Moment) (j : Joint) (number : ℕ) (h : Hart) (e : ℕ) (c : MidStep) (g : Went) → IsKept j.memory →
    IsCalm c → Meets m (domain_ended j number h e (Cloaked c) g)
unfolding domain_ended
ended_calm m j number h e c went.Stopped kept calm = quiet_meets m _ kept calm.none
ended_calm m j number h e c (went.Leave s) kept calm = quiet_meets m _ (unmarked_kept number j.memory kept) refl
ended_calm m j number h e c (went.SpaceGone space s) kept calm =
    quiet_meets m _ (record { places = kept.places; once = kept.once }) refl
ended_calm m j number h e c _ kept calm = quiet_meets m _ kept refl

-- the page is of the program whose context made the step
pub own_at : (d : Domain) (c : Context) (va : ℕ) (q : PageId) → pages_for d (Some c) va ≡ Some q →
    q.domain ≡ d.control.number
own_at d c va q lies =
    subst (IsOwnPage d.control.number) lies (own_page d.control.number d.control.resources c.space va)

ended_met : (m : Moment) (s : StepsInside m) (j : Joint) (number : ℕ) (h : Hart) (e : ℕ) (c : MidStep) (g : Went) →
    j.memory ≡ c.memory → s.domain.control.number ≡ domain_of s.ctx → g ≡ went.Stopped →
    MetIn s.domain s.context (world_inside m s) (Cloaked c) → Meets m (domain_ended j number h e (Cloaked c) g)
unfolding domain_ended
ended_met m s j number h e c went.Stopped same owner is at =
    let met = at.met in
    record {
      kept = subst IsKept (sym same) met.kept;
      met = λ v violates. record {
        page = at.page;
        frame = met.frame;
        is = same_violation v _ (sym violates ∙ met.violation);
        presents = record {
          step = s;
          va = at.va;
          kind = at.kind;
          lies = at.asked.lies;
          at = at.at;
          asks = at.asked.asks;
          finds = met.finds;
        };
        own = own_at s.domain s.context at.va at.page at.asked.lies ∙ owner;
        leads = subst (λ (x : CloakedMemory).
            table_leads (ticked (hart_of_step m)) x.ram at.kind at.va ≡ Ok met.finds.walked) (sym same)
            (subst (λ (regime : InsideRegime).
            walk c.memory.ram regime.satp (access_of regime at.kind at.va) ≡ Ok met.finds.walked) at.asked.regime
            met.leads);
        differs = subst (Differs at.page met.frame) (sym same) met.differs;
      };
    }
ended_met m s j number h e c went.Stay same owner is at = absurd cc
ended_met m s j number h e c (went.Remapped space) same owner is at = absurd cc
ended_met m s j number h e c (went.Leave shown) same owner is at = absurd cc
ended_met m s j number h e c (went.SpaceGone space shown) same owner is at = absurd cc

told_meets : (m : Moment) (s : StepsInside m) (j : Joint) (number : ℕ) (h : Hart) (e : ℕ) (v : World) (g : Went)
    (new : Domain) → s.domain.control.number ≡ domain_of s.ctx →
    Calm v ⊎ ((g ≡ went.Stopped) × MetIn s.domain s.context (world_inside m s) v) →
    Meets m (domain_ended (record (with_domain e new j) { memory = memory_of v j.memory }) number h e v g)
told_meets m s j number h e (Flat seen) g new owner (inl calm) = absurd calm
told_meets m s j number h e (Flat seen) g new owner (inr met) = absurd met.1.met
told_meets m s j number h e (Cloaked c) g new owner (inl calm) = ended_calm m _ number h e c g calm.kept calm
told_meets m s j number h e (Cloaked c) g new owner (inr met) =
    ended_met m s _ number h e c g refl owner met.0 met.1
told_meets m s j number h e (Alone x) g new owner (inl calm) = absurd calm
told_meets m s j number h e (Alone x) g new owner (inr met) = absurd met.1.met

interrupt_meets : (m : Moment) (j : Joint) (number : ℕ) (h : Hart) (items : List Item) (g : Went) → IsKept j.memory →
    Meets m (interrupt_ended j number h items g)
unfolding interrupt_ended
interrupt_meets m j number h items (went.Leave s) kept = quiet_meets m _ (unmarked_kept number j.memory kept) refl
interrupt_meets m j number h items _ kept = quiet_meets m _ kept refl

-- What is known of a step of a hart that runs a context of this program.
record Running (m : Moment) (ctx : ℕ) (was : Domain) : Type 0 where
  pub runs : (hart_of_step m).inside ≡ Some ctx
  pub program : slice_get m.joint.domains (domain_of ctx) ≡ Some was
  pub owner : was.control.number ≡ domain_of ctx
  pub kept : IsKept m.joint.memory

context_meets : (m : Moment) (ctx : ℕ) (was : Domain) (o : Option Context) → Running m ctx was →
    runs_on (next_hart m) o ≡ true →
    interrupt_due (ticked (hart_of_step m)).mode (ticked (hart_of_step m)).csrs ≡ false →
    context_at was.control.contexts (slot_of ctx) ≡ o →
    let h = ticked (hart_of_step m) in
    Meets m (after_domain_step m.joint (next_hart m) h (domain_of ctx)
    (played (step_if o (slot_of ctx) was) (Cloaked (cloak_of m.joint.memory h (domain_of ctx) (pages_for was o)))))
unfolding after_domain_step step_if domain_ended
context_meets m ctx was None r here goes there = quiet_meets m _ r.kept refl
context_meets m ctx was (Some c) r here goes there =
    let s : StepsInside m = record {
      ctx = ctx;
      runs = r.runs;
      goes = goes;
      domain = was;
      program = r.program;
      context = c;
      there = there;
      here = here;
    } in
    told_meets m s m.joint (next_hart m) (ticked (hart_of_step m)) (domain_of ctx) _ _ _ r.owner
    (phase_meets c.phase (slot_of ctx) was c (world_inside m s) refl (record { kept = r.kept; none = refl }))

due_meets : (m : Moment) (ctx : ℕ) (was : Domain) (due : Bool) → Running m ctx was →
    runs_on (next_hart m) (context_at was.control.contexts (slot_of ctx)) ≡ true →
    interrupt_due (ticked (hart_of_step m)).mode (ticked (hart_of_step m)).csrs ≡ due →
    Meets m (by_interrupt due m.joint (next_hart m) (ticked (hart_of_step m)) (domain_of ctx) (slot_of ctx) was)
unfolding by_interrupt after_interrupt domain_step domain_script
due_meets m ctx was true r here is =
    interrupt_meets m _ (next_hart m) _ _ (interrupt (slot_of ctx) was.control).went r.kept
due_meets m ctx was false r here is =
    context_meets m ctx was (context_at was.control.contexts (slot_of ctx)) r here is refl

running_meets : (m : Moment) (ctx : ℕ) (was : Domain) (runs : Bool) → Running m ctx was →
    runs_on (next_hart m) (context_at was.control.contexts (slot_of ctx)) ≡ runs →
    Meets m (by_running runs m.joint (next_hart m) (ticked (hart_of_step m)) ctx was)
unfolding by_running
running_meets m ctx was false r is = quiet_meets m _ (unmarked_kept (next_hart m) m.joint.memory r.kept) refl
running_meets m ctx was true r is = due_meets m ctx was _ r is refl

inside_meets : (m : Moment) (ctx : ℕ) (found : Option Domain) → (hart_of_step m).inside ≡ Some ctx →
    IsSteady m.joint → IsKept m.joint.memory → slice_get m.joint.domains (domain_of ctx) ≡ found →
    Meets m (inside_step m.joint (next_hart m) (ticked (hart_of_step m)) ctx found)
unfolding inside_step
inside_meets m ctx None runs steady kept is =
    quiet_meets m _ (unmarked_kept (next_hart m) m.joint.memory kept) refl
inside_meets m ctx (Some was) runs steady kept is =
    running_meets m ctx was _
    (record {
      runs = runs;
      program = is;
      owner = number_at (domain_of ctx) m.joint.domains was steady.programs is;
      kept = kept;
    }) refl

-- A hart outside.

-- the machine after the plain step of a hart outside
abbrev pub told_outside : Moment → Told SteppedKernel
told_outside m = settled_step (hart_of_step m) m.joint.disk (cloak_outside m.joint.memory (hart_of_step m))

abbrev pub joint_outside : Moment → Joint
joint_outside m = after_kernel_step m.joint (next_hart m) (told_outside m)

record Outside (m : Moment) : Type 0 where
  pub kept : IsKept (joint_outside m).memory
  pub root : (joint_outside m).memory.ledger.root ≡ m.joint.memory.ledger.root

outside_leaves : (m : Moment) → IsKept m.joint.memory → Outside m
unfolding settled_step made_after
outside_leaves m kept =
    let h = hart_of_step m in
    let s = settle_touched h m.joint.disk m.joint.memory in
    let there = touched_keeps IsKept kept_settled h m.joint.disk m.joint.memory kept in
    record {
      kept = record {
        places = there.places ∙ sym (writes_touched_alone h m.joint.disk (seen_in s.memory)).count
            ∙ ap (λ (ram : List (List ℕ)). length ram)
            (ram_seen (kernel_step h m.joint.disk (Flat (seen_in s.memory))).world);
        once = there.once;
      };
      root = (keeps_rest h m.joint.disk m.joint.memory).root;
    }

-- the step, by its ending
pub outside_turn : (m : Moment) (e : Kernel) → (hart_of_step m).inside ≡ None → kernel_ending m ≡ e →
    step_before_end m ≡ outside_ended (joint_outside m) (next_hart m) (items_of (told_outside m).world) e
unfolding turn_of outside_step after_outside
outside_turn m e outside is =
    ap (turn_of m.joint (next_hart m) (hart_of_step m)) outside
    ∙ ap (outside_ended (joint_outside m) (next_hart m) (items_of (told_outside m).world)) is

-- Every step.

-- a violation was presented, and is left so
pub record Cause (m : Moment) (v : Violation) : Type 0 where
  pub presents : Presents m v
  pub left : IsLeft m v presents

pub record TurnPresents (m : Moment) : Type 0 where
  pub kept : IsKept (step_before_end m).joint.memory
  pub presents : (v : Violation) → (step_before_end m).violation ≡ Some v → Cause m v

inside_turn : (m : Moment) (ctx : ℕ) → (hart_of_step m).inside ≡ Some ctx → IsSteady m.joint →
    IsKept m.joint.memory → Meets m (step_before_end m)
unfolding turn_of
inside_turn m ctx inside steady kept =
    subst (Meets m) (sym (ap (turn_of m.joint (next_hart m) (hart_of_step m)) inside))
    (inside_meets m ctx _ inside steady kept refl)

inside_presents : (m : Moment) (ctx : ℕ) → (hart_of_step m).inside ≡ Some ctx → IsSteady m.joint →
    IsKept m.joint.memory → TurnPresents m
inside_presents m ctx inside steady kept =
    let meets = inside_turn m ctx inside steady kept in
    record {
      kept = meets.kept;
      presents = λ v violates.
          let met = meets.met v violates in
          subst (Cause m) (sym met.is)
          (record {
            presents = met.presents;
            left = record {
              own = met.own;
              leads = met.leads;
              differs = met.differs;
            };
          });
    }

-- resuming, as the step's ending
pub record ResumedSo (m : Moment) (ctx : ℕ) : Type 0 where
  pub kept : IsKept (step_before_end m).joint.memory
  pub violates : (step_before_end m).violation ≡ refusal m.joint (presented_root m) ctx (context_running m.joint ctx)
  pub domains : is_some (step_before_end m).violation ≡ true → (step_before_end m).joint.domains ≡ m.joint.domains

refusal_root : (j j' : Joint) (satp ctx : ℕ) (o : Option Context) → j'.memory.ledger.root ≡ j.memory.ledger.root →
    refusal j' satp ctx o ≡ refusal j satp ctx o
refusal_root j j' satp ctx None same = refl
refusal_root j j' satp ctx (Some c) same =
    ap (λ (root : _ → Option ℕ). cond (is_some c.on) (Some (violation.Context ctx))
    (cond (is_root satp (root (space_id ctx c))) None (Some (violation.Mapping ctx satp)))) same

pub resumed_so : (m : Moment) (ctx reply : ℕ) → (hart_of_step m).inside ≡ None →
    kernel_ending m ≡ kernel.Resume ctx reply → IsKept m.joint.memory → ResumedSo m ctx
unfolding outside_ended
resumed_so m ctx reply outside is kept =
    let j = joint_outside m in
    let number = next_hart m in
    let before = outside_leaves m kept in
    let satp : ℕ = satp_of (hart_in j number).csrs in
    let r = resume j number satp ctx reply in
    let leaves = resume_leaves j number satp ctx reply in
    let turn : step_before_end m ≡ outside_ended j number (items_of (told_outside m).world) (kernel.Resume ctx reply) =
    outside_turn m (kernel.Resume ctx reply) outside is in
    let joint : (step_before_end m).joint ≡ r.joint = ap (λ (t : Turn). t.joint) turn in
    let root : satp ≡ presented_root m =
    ap (λ (harts : List Hart). satp_of (slice_index_or harts number (started 0 0)).csrs)
    (sym (ap (λ (x : Joint). x.harts) joint ∙ leaves.harts)) in
    record {
      kept = subst (λ (x : Joint). IsKept x.memory) (sym joint) (leaves.kept before.kept);
      violates = ap (λ (t : Turn). t.violation) turn
          ∙ (resume_refuses j number satp ctx reply
          ∙ (refusal_root m.joint j satp ctx (context_running m.joint ctx) before.root
          ∙ ap (λ (x : ℕ). refusal m.joint x ctx (context_running m.joint ctx)) root));
      domains = λ some. ap (λ (x : Joint). x.domains) joint
          ∙ leaves.domains (ap (λ (t : Turn). is_some t.violation) (sym turn) ∙ some);
    }

-- what the refusal is of
refused_root : (m : Moment) (ctx : ℕ) (asks : AsksToResume m ctx) (c : Context) (v : Violation) (first : Option ℕ)
    (b : Bool) → context_running m.joint ctx ≡ Some c → c.on ≡ None →
    m.joint.memory.ledger.root (space_id ctx c) ≡ first → is_root (presented_root m) first ≡ b →
    cond b None (Some (violation.Mapping ctx (presented_root m))) ≡ Some v → Cause m v
refused_root m ctx asks c v first true there rests recorded is violates = no_violation v violates
refused_root m ctx asks c v None false there rests recorded is violates = absurd (false≢true (sym is))
refused_root m ctx asks c v (Some first) false there rests recorded is violates =
    subst (Cause m) (same_violation (violation.Mapping ctx (presented_root m)) v violates)
    (record {
      presents = record {
        asks = asks;
        context = c;
        there = there;
        rests = rests;
        presented = refl;
        first = first;
        recorded = recorded;
        other = λ same. absurd (false≢true (sym is ∙ eq-eqb first (presented_root m) same));
      };
      left = tt;
    })

refused_on : (m : Moment) (ctx : ℕ) (asks : AsksToResume m ctx) (c : Context) (v : Violation) (on : Option _) →
    context_running m.joint ctx ≡ Some c → c.on ≡ on →
    cond (is_some on) (Some (violation.Context ctx))
    (cond (is_root (presented_root m) (m.joint.memory.ledger.root (space_id ctx c))) None
    (Some (violation.Mapping ctx (presented_root m)))) ≡ Some v → Cause m v
refused_on m ctx asks c v (Some h) there is violates =
    subst (Cause m) (same_violation (violation.Context ctx) v violates)
    (record { presents = record { asks = asks; cannot = ap can_run there ∙ ap is_none is }; left = tt })
refused_on m ctx asks c v None there is violates = refused_root m ctx asks c v _ _ there is refl refl violates

refused : (m : Moment) (ctx : ℕ) (asks : AsksToResume m ctx) (v : Violation) (o : Option Context) →
    context_running m.joint ctx ≡ o → refusal m.joint (presented_root m) ctx o ≡ Some v → Cause m v
refused m ctx asks v None there violates =
    subst (Cause m) (same_violation (violation.Context ctx) v violates)
    (record { presents = record { asks = asks; cannot = ap can_run there }; left = tt })
refused m ctx asks v (Some c) there violates = refused_on m ctx asks c v c.on there refl violates

plain_presents : (m : Moment) (t : Turn) → step_before_end m ≡ t → IsKept t.joint.memory → t.violation ≡ None →
    TurnPresents m
plain_presents m t is kept none = record {
  kept = subst (λ (x : Turn). IsKept x.joint.memory) (sym is) kept;
  presents = λ v violates. no_violation v (sym (ap (λ (x : Turn). x.violation) is ∙ none) ∙ violates);
}

outside_by : (m : Moment) (e : Kernel) → (hart_of_step m).inside ≡ None → kernel_ending m ≡ e →
    IsKept m.joint.memory → TurnPresents m
unfolding outside_ended
outside_by m kernel.Stay outside is kept =
    plain_presents m _ (outside_turn m kernel.Stay outside is) (outside_leaves m kept).kept refl
outside_by m kernel.Trapped outside is kept =
    plain_presents m _ (outside_turn m kernel.Trapped outside is) (outside_leaves m kept).kept refl
outside_by m (kernel.Put b) outside is kept =
    plain_presents m _ (outside_turn m (kernel.Put b) outside is) (outside_leaves m kept).kept refl
outside_by m (kernel.Halt value) outside is kept =
    plain_presents m _ (outside_turn m (kernel.Halt value) outside is) (outside_leaves m kept).kept refl
outside_by m (kernel.Resume ctx reply) outside is kept =
    let r = resumed_so m ctx reply outside is kept in
    record {
      kept = r.kept;
      presents = λ v violates.
          refused m ctx (record { answer = reply; outside = outside; asks = is }) v (context_running m.joint ctx) refl
          (sym r.violates ∙ violates);
    }

turn_by : (m : Moment) (o : Option ℕ) → (hart_of_step m).inside ≡ o → IsSteady m.joint → IsKept m.joint.memory →
    TurnPresents m
turn_by m None is steady kept = outside_by m (kernel_ending m) is refl kept
turn_by m (Some ctx) is steady kept = inside_presents m ctx is steady kept

pub turn_presents : (m : Moment) → IsSteady m.joint → IsKept m.joint.memory → TurnPresents m
turn_presents m steady kept = turn_by m _ refl steady kept
