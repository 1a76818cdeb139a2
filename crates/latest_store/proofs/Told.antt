-- What a step told programs: no domain ends in it, but for the end after it; and if it met a violation, the last
-- answer of its context was that it stops. So the end of the domain takes nothing back that the step did.
use Rattle.std.proofs.Common.{◌≡◌, ◌∙◌, ◌%◌, ℕ, Bool, true, false, ◌||◌, cond, List, [], ◌∷◌, ◌++◌, slice_get, Option, Some, None, Result, Ok, Err, refl, sym, ap, subst, eq-eqb}
use Rattle.std.specs.Prelude.{is_some, ◌==◌}
use Rattle.std.proofs.lemmas.Bool.{false≢true}
use Rattle.std.proofs.lemmas.List.Folds.{list_any-append}
use Rattle.cloak_base.specs.declared.names.PageId.{PageId}
use Rattle.cloak_base.specs.Registers.{register}
use Rattle.rv_isa.specs.declared.instr.Instr.{Instr}
use Rattle.rv_isa.specs.declared.instr.Instr.TheVariants as instr
use Rattle.rv_atomic.specs.Table.{atomic_instruction}
use Rattle.rv_atomic.specs.declared.atomic.Atomic.{Atomic}
use Rattle.cloak_model.specs.declared.answer.Answer.{Answer}
use Rattle.cloak_model.specs.declared.answer.Answer.TheVariants as told
use Rattle.cloak_model.specs.declared.context.Phase.{Phase}
use Rattle.cloak_model.specs.declared.context.Phase.TheVariants.{Plain, CopyIn, Waiting, CopyOut}
use Rattle.cloak_model.specs.declared.context.ResumeFault.{ResumeFault}
use Rattle.cloak_model.specs.declared.inside.Went.{Went}
use Rattle.cloak_model.specs.declared.inside.Went.TheVariants as went
use Rattle.cloak_model.specs.Items.{Item}
use Rattle.cloak_model.specs.Items as item
use Rattle.cloak_model.specs.declared.outcome.Effect.{Effect}
use Rattle.cloak_model.specs.declared.outcome.Effect.TheVariants as does
use Rattle.cloak_model.specs.declared.outcome.Kernel.{Kernel}
use Rattle.cloak_model.specs.declared.outcome.Kernel.TheVariants.{Resume}
use Rattle.cloak_model.specs.Ahead.{settle_touched, settled_step, made_after}
use Rattle.cloak_model.specs.AskPages.{answer_item}
use Rattle.cloak_model.specs.Asking.{Told}
use Rattle.cloak_model.specs.Contexts.{Context, Admitted, context_at, domain_of, slot_of}
use Rattle.cloak_model.specs.Csr.{interrupt_due}
use Rattle.cloak_model.specs.DomainAlone.{runs_on}
use Rattle.cloak_model.specs.DomainState.{Control, Domain}
use Rattle.cloak_model.specs.DomainStep.{domain_script, DomainStepped, domain_step}
use Rattle.cloak_model.specs.Effect.{effect}
use Rattle.cloak_model.specs.Halves.{is_inward, inward_half}
use Rattle.cloak_model.specs.Hart.{Hart}
use Rattle.cloak_model.specs.Hypercalls as hyper
use Rattle.cloak_model.specs.Hypercalls.{Hypercall, New, ForkSpace, Exit, hypercall_of}
use Rattle.cloak_model.specs.Joint.{Turn, cloak_of, memory_of, outside_ended, after_outside, outside_step, domain_ended, after_domain_step, interrupt_ended, after_interrupt, by_interrupt, by_running, inside_step, turn_of, with_domain}
use Rattle.cloak_model.specs.KernelStep.{ticked}
use Rattle.cloak_model.specs.Parts.{Joint}
use Rattle.cloak_model.specs.Resuming.{resume}
use Rattle.cloak_model.proofs.ResumeParts.{by_root, by_context, by_domain}
use Rattle.cloak_model.specs.World.{World, Cloaked, items_of, cipher_items}
use Rattle.domain_isolation.proofs.Answers.{IsServing}
use Rattle.domain_isolation.proofs.Played.{answers_of, answer_items, last_stopped, played_items, played_met}
use Rattle.cloak_model.specs.Script.{played}
use Rattle.domain_isolation.proofs.Steady.{ciphers_told}
use Rattle.script_fold.proofs.StepScripts.{of_domain, step_scripted}
use Rattle.kernel_isolation.proofs.Numbers.{AreFrom, number_at}
use Rattle.page_law.specs.OwnPages.{is_end_of, ends_in}
use Rattle.latest_store.specs.Moves.{Move, latest_value}
use Rattle.latest_store.specs.Deeds.{first_granted, both_granted, page_for, hypercall_moves, ecall_moves, effect_moves, atomic_moves, word_moves, fetched_moves, byte_moves, phase_moves, context_moves, program_moves}
use Rattle.domain_isolation.proofs.InsideSteps.{ended_items, ended_met}

-- No domain ends in a step itself.

-- no domain ends among these items
abbrev pub EndsNone : List Item → Type 0
EndsNone items = (d : ℕ) → ends_in d items ≡ false

outward_ends : (d : ℕ) (i : Item) → is_inward d i ≡ false → is_end_of d i ≡ false
outward_ends d (item.Ended e) out = out
outward_ends d _ out = refl

one_half : (d : ℕ) (i : Item) (b : Bool) (items half : List Item) → is_inward d i ≡ b →
    ends_in d items ≡ ends_in d half →
    is_end_of d i || ends_in d items ≡ ends_in d (cond b (i ∷ half) half)
one_half d i true items half is same = ap (λ (b : Bool). is_end_of d i || b) same
one_half d i false items half is same = λ k. outward_ends d i is k || same k

-- that a domain ends is told to it
pub half_ends : (d : ℕ) (items : List Item) → ends_in d items ≡ ends_in d (inward_half d items)
half_ends d [] = refl
half_ends d (i ∷ items) = one_half d i (is_inward d i) items (inward_half d items) refl (half_ends d items)

pub ends_append : (xs ys : List Item) → EndsNone xs → EndsNone ys → EndsNone (xs ++ ys)
ends_append xs ys here there d = list_any-append (is_end_of d) xs ys ∙ (λ i. here d i || there d i)

-- what no program is told ends none
pub unheard_ends : (items : List Item) → ((d : ℕ) → inward_half d items ≡ []) → EndsNone items
unheard_ends items unheard d = half_ends d items ∙ ap (ends_in d) (unheard d)

answer_ends : (d n : ℕ) (a : Answer) → is_end_of d (answer_item n a) ≡ false
answer_ends d n told.Ok = refl
answer_ends d n _ = refl

answers_end : (n : ℕ) (answers : List Answer) → EndsNone (answer_items n answers)
answers_end n [] d = refl
answers_end n (a ∷ answers) d = λ i. answer_ends d n a i || answers_end n answers d i

-- What its own domain is told.

answer_inward : (n : ℕ) (a : Answer) → is_inward n (answer_item n a) ≡ true
answer_inward n told.Ok = eq-eqb n n refl
answer_inward n _ = eq-eqb n n refl

own_items : (n : ℕ) (answers : List Answer) → inward_half n (answer_items n answers) ≡ answer_items n answers
own_items n [] = refl
own_items n (a ∷ answers) =
    ap (λ (b : Bool). cond b (answer_item n a ∷ inward_half n (answer_items n answers))
    (inward_half n (answer_items n answers)))
    (answer_inward n a)
    ∙ ap (λ (l : List Item). answer_item n a ∷ l) (own_items n answers)

-- answers, the last of which stops
pub record StoppedLast (items : List Item) : Type 0 where
  pub domain : ℕ
  pub answers : List Answer
  pub is : items ≡ answer_items domain answers
  pub last : last_stopped answers ≡ true

-- of a step of a hart that was inside this context, or in none
pub record TurnTold (inside : Option ℕ) (t : Turn) : Type 0 where
  pub ends : EndsNone t.items
  pub stopped : (ctx : ℕ) → inside ≡ Some ctx → is_some t.violation ≡ true →
      StoppedLast (inward_half (domain_of ctx) t.items)

-- A hart outside.

root_ends : (j : Joint) (satp ctx reply : ℕ) (w : Domain) (control : Control) (a : Admitted)
    (answer : Result (Unit {0}) ResumeFault) → EndsNone (by_root j satp ctx reply w control a answer).items
unfolding by_root
root_ends j satp ctx reply w control a (Err fault) d = refl
root_ends j satp ctx reply w control a (Ok done) d = refl

context_ends : (j : Joint) (satp ctx reply : ℕ) (w : Domain) (control : Control)
    (answer : Result (Unit {0}) ResumeFault) → EndsNone (by_context j satp ctx reply w control answer).items
unfolding by_context
context_ends j satp ctx reply w control (Err fault) d = refl
context_ends j satp ctx reply w control (Ok done) d = root_ends j satp ctx reply w control _ _ d

domain_ends : (j : Joint) (hart satp ctx reply : ℕ) (found : Option Domain) →
    EndsNone (by_domain j hart satp ctx reply found).items
unfolding by_domain
domain_ends j hart satp ctx reply None d = refl
domain_ends j hart satp ctx reply (Some w) d = context_ends j satp ctx reply w _ _ d

resume_ends : (j : Joint) (hart satp ctx reply : ℕ) → EndsNone (resume j hart satp ctx reply).items
unfolding resume by_domain by_context by_root
resume_ends j hart satp ctx reply d = domain_ends j hart satp ctx reply _ d

kernel_ends : (j : Joint) (number : ℕ) (items : List Item) (k : Kernel) → EndsNone items →
    EndsNone (outside_ended j number items k).items
unfolding outside_ended
kernel_ends j number items (Resume ctx answer) ends = ends_append items _ ends (resume_ends j number _ ctx answer)
kernel_ends j number items _ ends = ends

outside_told : (j : Joint) (number : ℕ) (h : Hart) → TurnTold None (outside_step j number h)
unfolding outside_step after_outside settled_step made_after
outside_told j number h = record {
  ends = kernel_ends _ number _ _
      (unheard_ends ([] ++ cipher_items (settle_touched h j.disk j.memory).ciphers)
      (λ d. ciphers_told d [] (settle_touched h j.disk j.memory).ciphers));
  stopped = λ ctx is some. absurd cc;
}

-- A hart inside.

went_ends : (j : Joint) (number : ℕ) (h : Hart) (e : ℕ) (w : World) (how : Went) → EndsNone (items_of w) →
    EndsNone (domain_ended j number h e w how).items
unfolding domain_ended
went_ends j number h e w (went.Leave s) ends = ends_append (items_of w) (item.Leave s ∷ []) ends (λ d. refl)
went_ends j number h e w (went.SpaceGone space s) ends =
    ends_append (items_of w) (item.Leave s ∷ []) ends (λ d. refl)
went_ends j number h e w _ ends = ends

interrupt_told : (inside : Option ℕ) (j : Joint) (number : ℕ) (h : Hart) (e : ℕ) (how : Went) →
    TurnTold inside (interrupt_ended j number h (item.Timer e ∷ []) how)
unfolding interrupt_ended
interrupt_told inside j number h e (went.Leave s) =
    record { ends = λ d. refl; stopped = λ ctx is some. absurd (false≢true some) }
interrupt_told inside j number h e _ =
    record { ends = λ d. refl; stopped = λ ctx is some. absurd (false≢true some) }

same_context : (a b : ℕ) → Some a ≡ Some b → a ≡ b
same_context a b is = cc

-- a step of its context
stepped_told : (j : Joint) (number : ℕ) (h : Hart) (ctx : ℕ) (found : Domain) (pages : ℕ → Option PageId) →
    found.control.number ≡ domain_of ctx →
    TurnTold (Some ctx) (after_domain_step j number h (domain_of ctx)
    (domain_step (slot_of ctx) found (Cloaked (cloak_of j.memory h (domain_of ctx) pages))))
unfolding after_domain_step domain_step
stepped_told j number h ctx found pages own =
    let e = domain_of ctx in
    let n = found.control.number in
    let w : World = Cloaked (cloak_of j.memory h e pages) in
    let script = domain_script (slot_of ctx) found in
    let s = step_scripted (slot_of ctx) found in
    let serving : IsServing n w = record { form = refl; regime = sym own } in
    let t : Told DomainStepped = played script w in
    let j' : Joint = record (with_domain e t.answer.domain j) { memory = memory_of t.world j.memory } in
    let answers = answers_of script w in
    let half : (d : ℕ) → inward_half d (items_of t.world) ≡ inward_half d (answer_items n answers) =
    played_items n script s.own w serving in
    record {
      ends = went_ends j' number h e t.world t.answer.went
          (λ d. half_ends d (items_of t.world) ∙ ap (ends_in d) (half d)
          ∙ sym (half_ends d (answer_items n answers)) ∙ answers_end n answers d);
      stopped = λ other is some. record {
        domain = n;
        answers = answers;
        is = ended_items (domain_of other) j' number h e t.world t.answer.went ∙ half (domain_of other)
            ∙ ap (λ (d : ℕ). inward_half d (answer_items n answers))
            (sym (own ∙ ap domain_of (same_context ctx other is))) ∙ own_items n answers;
        last = played_met n (of_domain (slot_of ctx) found) script s.own w s.ends serving refl
            (ended_met j' number h e t.world t.answer.went some);
      };
    }

due_told : (due : Bool) (j : Joint) (number : ℕ) (h : Hart) (ctx : ℕ) (found : Domain) →
    found.control.number ≡ domain_of ctx →
    TurnTold (Some ctx) (by_interrupt due j number h (domain_of ctx) (slot_of ctx) found)
unfolding by_interrupt after_interrupt
due_told true j number h ctx found own = interrupt_told (Some ctx) _ number h (domain_of ctx) _
due_told false j number h ctx found own = stepped_told j number h ctx found _ own

running_told : (runs : Bool) (j : Joint) (number : ℕ) (h : Hart) (ctx : ℕ) (found : Domain) →
    found.control.number ≡ domain_of ctx → TurnTold (Some ctx) (by_running runs j number h ctx found)
unfolding by_running
running_told false j number h ctx found own =
    record { ends = λ d. refl; stopped = λ other is some. absurd (false≢true some) }
running_told true j number h ctx found own = due_told (interrupt_due h.mode h.csrs) j number h ctx found own

inside_told : (j : Joint) (number : ℕ) (h : Hart) (ctx : ℕ) (found : Option Domain) →
    slice_get j.domains (domain_of ctx) ≡ found → AreFrom 0 j.domains →
    TurnTold (Some ctx) (inside_step j number h ctx found)
unfolding inside_step
inside_told j number h ctx None there programs =
    record { ends = λ d. refl; stopped = λ other is some. absurd (false≢true some) }
inside_told j number h ctx (Some found) there programs =
    running_told (runs_on number (context_at found.control.contexts (slot_of ctx))) j number h ctx found
    (number_at (domain_of ctx) j.domains found programs there)

pub turn_told : (j : Joint) (number : ℕ) (h : Hart) (inside : Option ℕ) → AreFrom 0 j.domains →
    TurnTold inside (turn_of j number h inside)
unfolding turn_of
turn_told j number h None programs = outside_told j number h
turn_told j number h (Some ctx) programs = inside_told j number (ticked h) ctx _ refl programs

-- With the end of its domain after it, a step is told of as the same.

record SameDeeds (items items' : List Item) : Type 0 where
  pub first : first_granted items' ≡ first_granted items
  pub both : both_granted items' ≡ both_granted items
  pub byte : (address : ℕ) (place : Option PageId) → byte_moves address place items' ≡ byte_moves address place items

stopped_same : (n e : ℕ) (answers : List Answer) → last_stopped answers ≡ true →
    SameDeeds (answer_items n answers) (answer_items n answers ++ item.Ended e ∷ [])
stopped_same n e [] last = absurd (false≢true last)
stopped_same n e (told.Stopped ∷ []) last = record { first = refl; both = refl; byte = λ address place. refl }
stopped_same n e (_ ∷ []) last = absurd (false≢true last)
stopped_same n e (told.Word value ∷ told.Stopped ∷ []) last =
    record { first = refl; both = refl; byte = λ address place. refl }
stopped_same n e (_ ∷ told.Stopped ∷ []) last = record { first = refl; both = refl; byte = λ address place. refl }
stopped_same n e (a ∷ _ ∷ []) last = absurd (false≢true last)
stopped_same n e (told.Word value ∷ told.Ok ∷ c ∷ answers) last =
    record { first = refl; both = refl; byte = λ address place. refl }
stopped_same n e (told.Word value ∷ _ ∷ c ∷ answers) last =
    record { first = refl; both = refl; byte = λ address place. refl }
stopped_same n e (_ ∷ b ∷ c ∷ answers) last = record { first = refl; both = refl; byte = λ address place. refl }

module _ (items items' : List Item) (same : SameDeeds items items') where
  granted_same : (moves : List Move) → cond (both_granted items') moves [] ≡ cond (both_granted items) moves []
  granted_same moves = ap (λ (b : Bool). cond b moves []) same.both

  hypercall_same : (h : Hypercall) (d : Control) (c : Context) →
      hypercall_moves h d c items' ≡ hypercall_moves h d c items
  unfolding hypercall_moves
  hypercall_same New d c = refl
  hypercall_same hyper.File d c = refl
  hypercall_same ForkSpace d c = granted_same _
  hypercall_same Exit d c = granted_same _
  hypercall_same _ d c = refl

  ecall_same : (d : Control) (c : Context) (i : Instr) → ecall_moves d c i items' ≡ ecall_moves d c i items
  unfolding ecall_moves
  ecall_same d c instr.Ecall = hypercall_same (hypercall_of c) d c
  ecall_same d c _ = refl

  effect_same : (d : Control) (c : Context) (i : Instr) (e : Effect) →
      effect_moves d c i e items' ≡ effect_moves d c i e items
  unfolding effect_moves
  effect_same d c i (does.Load rd address width signed) = granted_same _
  effect_same d c i (does.Store address width value) = granted_same _
  effect_same d c i does.System = ecall_same d c i
  effect_same d c i _ = refl

  atomic_same : (d : Control) (c : Context) (o : Option Atomic) → atomic_moves d c o items' ≡ atomic_moves d c o items
  unfolding atomic_moves
  atomic_same d c None = refl
  atomic_same d c (Some a) =
      ap (λ (moves : List Move). cond (register c.regs a.rs1 % 4 == 0) moves []) (granted_same _)

  word_same : (d : Control) (c : Context) (word : ℕ) (o : Option Instr) →
      word_moves d c word o items' ≡ word_moves d c word o items
  unfolding word_moves
  word_same d c word None = atomic_same d c (atomic_instruction word)
  word_same d c word (Some i) = effect_same d c i (effect i c.regs c.pc)

  fetched_same : (history : List Move) (d : Control) (c : Context) (place : Option PageId) →
      fetched_moves history d c place items' ≡ fetched_moves history d c place items
  unfolding fetched_moves
  fetched_same history d c None = refl
  fetched_same history d c (Some q) = word_same d c (latest_value history q (c.pc % 4096) 4) _

  phase_same : (p : Phase) (history : List Move) (d : Control) (c : Context) →
      phase_moves p history d c items' ≡ phase_moves p history d c items
  unfolding phase_moves
  phase_same Plain history d c = λ i. cond (same.first i) (fetched_same history d c (page_for d c c.pc) i) []
  phase_same (CopyIn done) history d c = granted_same _
  phase_same Waiting history d c = refl
  phase_same (CopyOut done total) history d c = same.byte _ _

  context_same : (o : Option Context) (history : List Move) (d : Control) →
      context_moves o history d items' ≡ context_moves o history d items
  unfolding context_moves
  context_same None history d = refl
  context_same (Some c) history d = phase_same c.phase history d c

  program_same : (found : Option Domain) (history : List Move) (slot : ℕ) →
      program_moves found history slot items' ≡ program_moves found history slot items
  unfolding program_moves
  program_same None history slot = refl
  program_same (Some d) history slot = context_same (context_at d.control.contexts slot) history d.control

-- the end of its own domain after a step that was stopped
pub ended_same : (found : Option Domain) (history : List Move) (slot e : ℕ) (items : List Item) → StoppedLast items →
    program_moves found history slot (items ++ item.Ended e ∷ []) ≡ program_moves found history slot items
ended_same found history slot e items stopped =
    subst (λ (l : List Item).
    program_moves found history slot (l ++ item.Ended e ∷ []) ≡ program_moves found history slot l)
    (sym stopped.is)
    (program_same (answer_items stopped.domain stopped.answers) _
    (stopped_same stopped.domain e stopped.answers stopped.last)
    found history slot)
