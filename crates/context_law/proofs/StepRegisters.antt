-- The registers of a context after a step that it makes.
use Rattle.std.proofs.Common.{◌≡◌, ◌∙◌, inl, inr, ℕ, Bool, true, false, cond, List, [], ◌∷◌, Option, Some, None, refl, sym, ap, subst}
use Rattle.std.specs.Prelude.{nat_le}
use Rattle.cloak_base.specs.declared.names.PageId.{PageId}
use Rattle.cloak_model.specs.declared.answer.Answer.{Answer}
use Rattle.cloak_model.specs.declared.answer.Answer.TheVariants as told
use Rattle.cloak_model.specs.declared.context.Phase.{Phase}
use Rattle.cloak_model.specs.declared.context.Phase.TheVariants.{Plain, CopyIn, Waiting, CopyOut}
use Rattle.cloak_model.specs.declared.context.PageWord.{PageWord}
use Rattle.cloak_model.specs.declared.inside.Copied.{Copied}
use Rattle.cloak_model.specs.declared.inside.Copied.TheVariants as copied
use Rattle.cloak_model.specs.declared.inside.Ran.{Ran}
use Rattle.cloak_model.specs.declared.inside.Ran.TheVariants as ran
use Rattle.cloak_model.specs.Items.{Item}
use Rattle.cloak_model.specs.Items as item
use Rattle.cloak_model.specs.Asking.{Told, answered, then_ask}
use Rattle.cloak_model.specs.Calls as calls
use Rattle.cloak_model.specs.Calls.{Copy, buffer, area, call_length, byte_address, is_cloaked, copy_in_step, copy_out_step}
use Rattle.cloak_model.specs.Contexts.{Context, context_at, suspended}
use Rattle.cloak_model.specs.DomainState.{Control, Domain}
use Rattle.cloak_model.specs.DomainStep.{DomainStepped, domain_script, instruction_ended, copy_ended, after_write, phase_step, step_if, domain_step}
use Rattle.cloak_model.specs.Halves.{inward_half}
use Rattle.cloak_model.specs.Hypercalls.{hypercall_of}
use Rattle.cloak_model.specs.InsideStep.{AfterInstruction, instruction_inside}
use Rattle.cloak_model.specs.Resources.{page_at}
use Rattle.cloak_model.specs.Script.{Script, played}
use Rattle.cloak_model.specs.World.{World, items_of}
use Rattle.cloak_model.proofs.CallParts.{in_step, out_step}
use Rattle.cloak_model.proofs.Playing.{by_plain, by_copy_in, by_copy_out, by_ecall}
use Rattle.latest_store.specs.Moves.{Move}
use Rattle.latest_store.specs.Deeds.{first_granted}
use Rattle.latest_store.proofs.Heard.{Heard}
use Rattle.latest_store.proofs.Moved.{Agrees}
use Rattle.context_law.specs.Registers.{with_some, hypercall_word, system_registers, apart_registers, copied_registers, registers_after}
use Rattle.context_law.proofs.Answered.{EndsBy, EndBy, end_by}
use Rattle.context_law.proofs.InstructionRegisters.{if_first, LeavesRegisters, instruction_leaves}
use Rattle.context_law.proofs.HypercallRegisters.{Has, has_same, set_has, there_has, written_has, hypercall_leaves, hypercall_first}
use Rattle.context_law.proofs.StepMarks.{is_ecall, ended_world}

-- a step of the context of this slot, by what its program was told
pub record Registers (slot : ℕ) (d : Domain) (regs : List Item → List ℕ) (t : Told DomainStepped) : Type 0 where
  pub answers : List Item
  pub told : inward_half d.control.number (items_of t.world) ≡ answers
  pub has : Has (regs answers) (context_at t.answer.domain.control.contexts slot)

pub after_written : (wrote : Option PageWord) (s : DomainStepped) (slot : ℕ) (regs : List ℕ) →
    Has regs (context_at s.domain.control.contexts slot) →
    Has regs (context_at (after_write wrote s).domain.control.contexts slot)
after_written None s slot regs has = has
after_written (Some place) s slot regs has = written_has place s.domain.control.contexts slot regs has

-- A copying step, whatever is answered.

pub record CopyLeaves (c : Context) (regs : List ℕ) (k : Copy) : Type 0 where
  pub registers : k.context.regs ≡ regs
  pub stopped : k.ending ≡ copied.Stopped → regs ≡ c.regs

abbrev Copies : ℕ → (PageId → List ℕ) → Context → List ℕ → List Item → Script Copy → Type 0
Copies n plain c regs answers s = EndsBy n (λ answers'. CopyLeaves c regs) plain answers s

keeps : (c : Context) (k : Copy) → k.context.regs ≡ c.regs → CopyLeaves c c.regs k
keeps c k same = record { registers = same; stopped = λ is. refl }

module _ (n : ℕ) (c : Context) where
  copy_reached : (plain : PageId → List ℕ) (answers : List Item) (va : ℕ) (a : Answer) (next : Script Copy) →
      Copies n plain c c.regs answers next → Copies n plain c c.regs answers (calls.if_reached c va a next)
  copy_reached plain answers va told.Ok next more = more
  copy_reached plain answers va _ next more = keeps c _ refl

  copy_got : (plain : PageId → List ℕ) (answers : List Item) (va : ℕ) (a : Answer) (next : ℕ → Script Copy) →
      ((byte : ℕ) → Copies n plain c c.regs answers (next byte)) →
      Copies n plain c c.regs answers (calls.if_got c va a next)
  copy_got plain answers va (told.Word byte) next more = more byte
  copy_got plain answers va _ next more = keeps c _ refl

  copy_apart : (plain : PageId → List ℕ) (place : Option PageId) (cloaked : Bool) (next : PageId → Script Copy) →
      ((q : PageId) → Copies n plain c c.regs [] (next q)) →
      Copies n plain c (apart_registers c place cloaked) [] (calls.if_apart c place cloaked next)
  copy_apart plain (Some q) false next more = more q
  copy_apart plain (Some q) true next more = record { registers = refl; stopped = λ is. absurd cc }
  copy_apart plain None cloaked next more = record { registers = refl; stopped = λ is. absurd cc }

module _ (d : Control) (plain : PageId → List ℕ) (c : Context) where
  abbrev page_in : ℕ → Option PageId
  page_in done = page_at d.number d.resources c.space (byte_address (buffer c) done)

  abbrev cloaked_out : ℕ → Bool
  cloaked_out done = is_cloaked d.resources c (byte_address (area c) done)

  in_by : (over : Bool) (done : ℕ) →
      Copies d.number plain c (cond over c.regs (apart_registers c (page_in done) (cloaked_out done))) []
      (in_step over d.number d.resources c done)
  in_by true done = keeps c _ refl
  in_by false done =
      copy_apart d.number c plain (page_in done) (cloaked_out done) _
      (λ q a. copy_reached d.number c plain _ (byte_address (buffer c) done) a _
      (λ b. copy_reached d.number c plain _ (byte_address (area c) done) b _ (keeps c _ refl)))

  copy_in_leaves : (done : ℕ) (w : World) → Heard d.number plain [] w →
      EndBy d.number (λ answers. CopyLeaves c (copied_registers d c done (call_length c)))
      (played (copy_in_step d.number d.resources c done) w)
  unfolding copy_in_step copied_registers
  copy_in_leaves done w heard =
      end_by d.number _ (copy_in_step d.number d.resources c done) plain [] w
      (in_by (nat_le (call_length c) done) done) heard

  out_by : (over : Bool) (done total : ℕ) →
      Copies d.number plain c (cond over c.regs (apart_registers c (page_in done) (cloaked_out done))) []
      (out_step over d.number d.resources c done total)
  out_by true done total = keeps c _ refl
  out_by false done total =
      copy_apart d.number c plain (page_in done) (cloaked_out done) _
      (λ q a. copy_got d.number c plain _ (byte_address (area c) done) a _
      (λ byte b. copy_reached d.number c plain _ (byte_address (buffer c) done) b _ (λ written. keeps c _ refl)))

  copy_out_leaves : (done total : ℕ) (w : World) → Heard d.number plain [] w →
      EndBy d.number (λ answers. CopyLeaves c (copied_registers d c done total))
      (played (copy_out_step d.number d.resources c done total) w)
  unfolding copy_out_step copied_registers
  copy_out_leaves done total w heard =
      end_by d.number _ (copy_out_step d.number d.resources c done total) plain [] w
      (out_by (nat_le total done) done total) heard

module _ (slot : ℕ) (d : Domain) (c : Context) (there : context_at d.control.contexts slot ≡ Some c) where
  ended_has : (k : Context) (e : Ran) (w : World) (regs : List ℕ) → (e ≡ ran.Ecall → ⊥) → k.regs ≡ regs →
      (e ≡ ran.Stopped → k.regs ≡ c.regs) →
      Has regs (context_at (played (instruction_ended slot d k e) w).answer.domain.control.contexts slot)
  unfolding instruction_ended
  ended_has k (ran.Trap cause address) w regs other same stop =
      has_same _ _ _ same (set_has d.control.contexts slot (suspended k))
  ended_has k ran.Ecall w regs other same stop = absurd (other refl)
  ended_has k ran.Stopped w regs other same stop =
      has_same _ _ _ (sym (stop refl) ∙ same) (there_has d.control.contexts slot c there)
  ended_has k _ w regs other same stop = has_same _ _ _ same (set_has d.control.contexts slot k)

  -- what an instruction's end leaves
  abbrev EndsIn : (List Item → List ℕ) → Told AfterInstruction → Ran → Type 0
  EndsIn regs t e =
      Registers slot d (if_first c regs)
      (then_ask (played (instruction_ended slot d t.answer.context e))
      (λ s. answered (after_write t.answer.wrote s)) t.world)

  first_if : (regs : List Item → List ℕ) (answers : List Item) → first_granted answers ≡ true →
      if_first c regs answers ≡ regs answers
  first_if regs answers is = ap (λ (b : Bool). cond b (regs answers) c.regs) is

  called_has : (regs : List Item → List ℕ) (t : Told AfterInstruction) →
      EndBy d.control.number (LeavesRegisters d.control c regs) t → t.answer.ending ≡ ran.Ecall →
      EndsIn regs t ran.Ecall
  unfolding system_registers
  called_has regs t deed is =
      let n = d.control.number in
      let calling = deed.ends.calls is in
      let k = t.answer.context in
      let u = played (instruction_ended slot d k ran.Ecall) t.world in
      let final : List Item = inward_half n (items_of u.world) in
      let heard : Heard n deed.pages (item.Ok n ∷ []) t.world =
      subst (λ (l : List Item). Heard n deed.pages l t.world) calling.asked deed.heard in
      let has : Has (with_some k.regs 10 (hypercall_word (hypercall_of k) d.control k final))
      (context_at u.answer.domain.control.contexts slot) =
      by_ecall (λ v. Has (with_some k.regs 10 (hypercall_word (hypercall_of k) d.control k
      (inward_half n (items_of v.world)))) (context_at v.answer.domain.control.contexts slot)) slot d k t.world
      (hypercall_leaves slot k d.control deed.pages t.world
      (there ∙ ap (λ (x : Context). Some x) (sym calling.same)) heard (hypercall_of k)) in
      let first : first_granted final ≡ true =
      by_ecall (λ v. first_granted (inward_half n (items_of v.world)) ≡ true) slot d k t.world
      (hypercall_first slot k d.control deed.pages t.world
      (there ∙ ap (λ (x : Context). Some x) (sym calling.same)) heard (hypercall_of k)) in
      let same : with_some k.regs 10 (hypercall_word (hypercall_of k) d.control k final) ≡ if_first c regs final =
      ap (λ (x : Context). with_some x.regs 10 (hypercall_word (hypercall_of x) d.control x final)) calling.same
      ∙ sym (calling.leaves final) ∙ sym (first_if regs final first) in
      record {
        answers = final;
        told = refl;
        has = after_written t.answer.wrote u.answer slot (if_first c regs final) (has_same _ _ _ same has);
      }

  ended_other : (regs : List Item → List ℕ) (t : Told AfterInstruction) →
      EndBy d.control.number (LeavesRegisters d.control c regs) t → (t.answer.ending ≡ ran.Ecall → ⊥) →
      EndsIn regs t t.answer.ending
  ended_other regs t deed other =
      let u = played (instruction_ended slot d t.answer.context t.answer.ending) t.world in
      record {
        answers = deed.answers;
        told = ap (λ (w : World). inward_half d.control.number (items_of w))
            (ended_world slot d t.answer.context t.answer.ending t.world other) ∙ deed.heard.told;
        has = after_written t.answer.wrote u.answer slot _
            (ended_has t.answer.context t.answer.ending t.world (if_first c regs deed.answers) other
            (deed.ends.registers other) deed.ends.stopped);
      }

  instruction_has : (regs : List Item → List ℕ) (t : Told AfterInstruction) →
      EndBy d.control.number (LeavesRegisters d.control c regs) t → EndsIn regs t t.answer.ending
  instruction_has regs t deed = elim (is_ecall t.answer.ending) [
    | inl call ↦ subst (EndsIn regs t) (sym call) (called_has regs t deed call)
    | inr other ↦ ended_other regs t deed other
  ]

  copied_has : (k : Context) (e : Copied) (regs : List ℕ) → k.regs ≡ regs → (e ≡ copied.Stopped → regs ≡ c.regs) →
      Has regs (context_at (copy_ended slot d k e).domain.control.contexts slot)
  unfolding copy_ended
  copied_has k copied.CallReady regs same stop = has_same _ _ _ same (set_has d.control.contexts slot (suspended k))
  copied_has k (copied.Absent cause address) regs same stop =
      has_same _ _ _ same (set_has d.control.contexts slot (suspended k))
  copied_has k copied.Stopped regs same stop =
      has_same _ _ _ (sym (stop refl)) (there_has d.control.contexts slot c there)
  copied_has k _ regs same stop = has_same _ _ _ same (set_has d.control.contexts slot k)

  abbrev Leaves : Phase → List Move → Told DomainStepped → Type 0
  Leaves p history t = Registers slot d (registers_after p history d.control c) t

  phase_has : (p : Phase) (history : List Move) (plain : PageId → List ℕ) (w : World) → Agrees history plain →
      Heard d.control.number plain [] w → Leaves p history (played (phase_step p slot c d) w)
  unfolding phase_step registers_after
  phase_has Plain history plain w agrees heard =
      by_plain (Leaves Plain history) slot c d w
      (instruction_has _ (played (instruction_inside d.control.number d.control.resources c) w)
      (instruction_leaves d.control plain c history agrees w heard))
  phase_has (CopyIn done) history plain w agrees heard =
      let t = played (copy_in_step d.control.number d.control.resources c done) w in
      let deed = copy_in_leaves d.control plain c done w heard in
      by_copy_in (Leaves (CopyIn done) history) done slot c d w (record {
        answers = deed.answers;
        told = deed.heard.told;
        has = copied_has t.answer.context t.answer.ending _ deed.ends.registers deed.ends.stopped;
      })
  phase_has Waiting history plain w agrees heard =
      record { answers = []; told = heard.told; has = set_has d.control.contexts slot c }
  phase_has (CopyOut done total) history plain w agrees heard =
      let t = played (copy_out_step d.control.number d.control.resources c done total) w in
      let deed = copy_out_leaves d.control plain c done total w heard in
      by_copy_out (Leaves (CopyOut done total) history) done total slot c d w (record {
        answers = deed.answers;
        told = deed.heard.told;
        has = after_written t.answer.wrote (copy_ended slot d t.answer.context t.answer.ending) slot _
            (copied_has t.answer.context t.answer.ending _ deed.ends.registers deed.ends.stopped);
      })

  step_if_has : (o : Option Context) (history : List Move) (plain : PageId → List ℕ) (w : World) → o ≡ Some c →
      Agrees history plain → Heard d.control.number plain [] w →
      Leaves c.phase history (played (step_if o slot d) w)
  unfolding step_if
  step_if_has None history plain w is agrees heard = absurd cc
  step_if_has (Some x) history plain w is agrees heard =
      let same : x ≡ c = cc in
      subst (λ (y : Context). Leaves c.phase history (played (phase_step y.phase slot y d) w)) (sym same)
      (phase_has c.phase history plain w agrees heard)

  pub step_has : (history : List Move) (plain : PageId → List ℕ) (w : World) → Agrees history plain →
      Heard d.control.number plain [] w → Leaves c.phase history (domain_step slot d w)
  unfolding domain_step domain_script
  step_has history plain w agrees heard =
      step_if_has (context_at d.control.contexts slot) history plain w there agrees heard
