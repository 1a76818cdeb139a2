-- How an SC ends that reached its word.
use Rattle.std.proofs.Common.{◌≡◌, ◌≢◌, ◌<◌, ◌∙◌, ℕ, ◌/◌, ◌*◌, ◌%◌, Bool, true, false, cond, List, [], ◌∷◌, length, slice_get, slice_set, Option, Some, None, refl, sym, ap, subst, arith}
use Rattle.std.specs.Prelude.{IfSome, ◌==◌, ◌&&◌}
use Rattle.std.proofs.lemmas.List.{get_or-set_same}
use Rattle.std.proofs.lemmas.Bool.{false≢true, eqb-true}
use Rattle.cloak_base.specs.Registers.{register, with_register}
use Rattle.cloak_base.specs.declared.names.PageId.{PageId}
use Rattle.cloak_base.proofs.Pages.{same_numbers}
use Rattle.rv_isa.specs.Table.{instruction}
use Rattle.rv_isa.specs.declared.instr.Instr.{Instr}
use Rattle.rv_isa.specs.Fields.{opcode, funct3}
use Rattle.rv_atomic.specs.Table.{atomic_of, operation, with_operation, atomic_instruction}
use Rattle.rv_atomic.specs.declared.atomic.Atomic.{Atomic}
use Rattle.rv_atomic.specs.declared.atomic.AtomicOp.{AtomicOp}
use Rattle.rv_atomic.specs.declared.atomic.AtomicOp.TheVariants.{Sc}
use Rattle.cloak_model.specs.declared.context.Phase.{Phase}
use Rattle.cloak_model.specs.declared.context.Phase.TheVariants.{Plain, CopyIn, Waiting, CopyOut}
use Rattle.cloak_model.specs.declared.context.PageWord.{PageWord}
use Rattle.cloak_model.specs.declared.image.Bundle.{Bundle}
use Rattle.cloak_model.specs.Beginning.{Beginning}
use Rattle.cloak_model.specs.Contexts.{Context, context_at, domain_of, slot_of, word_of_page, is_reserved}
use Rattle.cloak_model.specs.DomainState.{Control, Domain}
use Rattle.cloak_model.specs.Halves.{inward_half}
use Rattle.cloak_model.specs.Items.{Item}
use Rattle.cloak_model.specs.Joint.{Moment}
use Rattle.cloak_model.specs.Run.{Run}
use Rattle.script_fold.proofs.InstructionScripts.{IsOwnPage, own_page}
use Rattle.kernel_isolation.proofs.Numbers.{number_at}
use Rattle.frozen_state.specs.Limits.{IsContext}
use Rattle.limit_law.proofs.Runs.{runs_keep_limits}
use Rattle.page_law.specs.Ciphers.{items_of_turn}
use Rattle.page_law.specs.OwnPages.{context_of_step}
use Rattle.page_law.proofs.OwnDraws.{is_step}
use Rattle.latest_store.specs.Moves.{Move, Stores, latest_value}
use Rattle.latest_store.specs.Deeds.{first_granted, both_granted, page_for, atomic_at, atomic_moves, word_moves, fetched_moves, phase_moves, context_moves, program_moves, step_moves}
use Rattle.latest_store.specs.LatestStore.{history_until}
use Rattle.cause_law.specs.Causes.{moment_at}
use Rattle.load_law.proofs.Runs.{steps_made}
use Rattle.context_law.specs.Inside.{Reached, page_of, placed_reached, atomic_reached, word_reached, fetched_reached, phase_reached, context_reached, program_reached, step_reached, moves_of_step, stored_with, stored_by, WasReservedInside, ConditionalEnds, Succeeds, Fails, ConditionalTells, ConditionalsEnd}
use Rattle.context_law.specs.Registers.{placed_registers, atomic_registers, word_registers, fetched_registers, registers_after}
use Rattle.context_law.proofs.Runs.{contexts_store_reserved}
use Rattle.context_law.proofs.RunRegisters.{runs_have_registers}

-- By whether the word is reserved: what an SC does to pages, and what it writes to its register.
record IsConditional (n : ℕ) (c : Context) (it : Reached) (moves : List Move) (regs : List ℕ) : Type 0 where
  pub mark : it.mark ≡ c.mark
  pub low : it.rd < 32
  pub does : moves
      ≡ cond (is_reserved it.place it.mark) (Stores (page_of n it.place) it.place.at 4 it.operand ∷ []) []
  pub registers : regs ≡ with_register c.regs it.rd (cond (is_reserved it.place it.mark) 0 1)

-- what an atomic instruction did that reached its word
abbrev DoesSo : ℕ → Context → Option Reached → List Move → List ℕ → Type 0
DoesSo n c reached moves regs =
    (it : Reached) → reached ≡ Some it → it.op ≡ Sc → IsConditional n c it moves regs

same_some : (x y : Reached) → Some x ≡ Some y → x ≡ y
same_some x y is = cc

-- the page of its own domain, and its word
page_is : (n va : ℕ) (q : PageId) → q.domain ≡ n → page_of n (word_of_page q va) ≡ q
page_is n va q own = same_numbers (page_of n (word_of_page q va)) q (sym own) refl refl

word_at : (va : ℕ) → va % 4 ≡ 0 → va % 4096 / 4 * 4 ≡ va % 4096
word_at va even = omega (arith, even)

-- a register of an instruction is one of 32

with_low : (w : ℕ) (o : Option AtomicOp) (a : Atomic) → with_operation w o ≡ Some a → a.rd < 32
with_low w None a is = absurd cc
with_low w (Some op) a is =
    let same : atomic_of w op ≡ a = cc in subst (λ (x : Atomic). x.rd < 32) same (omega arith)

cond_low : (b : Bool) (w : ℕ) (o : Option AtomicOp) (a : Atomic) → cond b (with_operation w o) None ≡ Some a →
    a.rd < 32
cond_low true w o a is = with_low w o a is
cond_low false w o a is = absurd cc

rd_low : (w : ℕ) (a : Atomic) → atomic_instruction w ≡ Some a → a.rd < 32
unfolding atomic_instruction
rd_low w a is = cond_low ((opcode w == 0b0101111) && (funct3 w == 0b010)) w (operation w) a is

module _ (history : List Move) (d : Control) (c : Context) where
  operation_does : (a : Atomic) (op : AtomicOp) (q : PageId) → a.op ≡ op → op ≡ Sc → q.domain ≡ d.number →
      register c.regs a.rs1 % 4 ≡ 0 → a.rd < 32 →
      let va = register c.regs a.rs1 in
      let it : Reached = record {
        op = a.op;
        rd = a.rd;
        operand = register c.regs a.rs2;
        place = word_of_page q va;
        mark = c.mark;
      } in
      IsConditional d.number c it (atomic_at c op va (register c.regs a.rs2) (Some q))
      (placed_registers history c a.rd op va (Some q))
  operation_does a Sc q is sc own even low =
      let va = register c.regs a.rs1 in
      let reserved = is_reserved (word_of_page q va) c.mark in
      record {
        mark = refl;
        low = low;
        does = ap (λ (p : PageId). cond reserved (Stores p (va % 4096) 4 (register c.regs a.rs2) ∷ []) [])
            (sym (page_is d.number va q own))
            ∙ ap (λ (at : ℕ). cond reserved
            (Stores (page_of d.number (word_of_page q va)) at 4 (register c.regs a.rs2) ∷ []) [])
            (sym (word_at va even));
        registers = refl;
      }
  operation_does a _ q is sc own even low = absurd cc

  placed_does : (a : Atomic) (place : Option PageId) → IsOwnPage d.number place → register c.regs a.rs1 % 4 ≡ 0 → a.rd < 32 →
      let va = register c.regs a.rs1 in
      DoesSo d.number c (placed_reached c a place) (atomic_at c a.op va (register c.regs a.rs2) place)
      (placed_registers history c a.rd a.op va place)
  placed_does a None own even low it is sc = absurd cc
  placed_does a (Some q) own even low it is sc =
      let va = register c.regs a.rs1 in
      let here : Reached = record {
        op = a.op;
        rd = a.rd;
        operand = register c.regs a.rs2;
        place = word_of_page q va;
        mark = c.mark;
      } in
      let same : here ≡ it = same_some here it is in
      subst (λ (x : Reached). IsConditional d.number c x (atomic_at c a.op va (register c.regs a.rs2) (Some q))
      (placed_registers history c a.rd a.op va (Some q))) same
      (operation_does a a.op q refl (ap (λ (x : Reached). x.op) same ∙ sc) own even low)

  aligned_does : (aligned : Bool) (a : Atomic) (both : Bool) → both ≡ true →
      (aligned ≡ true → register c.regs a.rs1 % 4 ≡ 0) → a.rd < 32 →
      let va = register c.regs a.rs1 in
      let place = page_for d c va in
      DoesSo d.number c (cond aligned (placed_reached c a place) None)
      (cond aligned (cond both (atomic_at c a.op va (register c.regs a.rs2) place) []) [])
      (cond aligned (cond both (placed_registers history c a.rd a.op va place) c.regs) c.regs)
  aligned_does true a true granted even low =
      placed_does a (page_for d c (register c.regs a.rs1))
      (own_page d.number d.resources c.space (register c.regs a.rs1)) (even refl) low
  aligned_does true a false granted even low = absurd cc
  aligned_does false a both granted even low = λ it is sc. absurd cc

  atomic_does : (a : Option Atomic) (told : List Item) → ((x : Atomic) → a ≡ Some x → x.rd < 32) →
      both_granted told ≡ true →
      DoesSo d.number c (atomic_reached d c a) (atomic_moves d c a told) (atomic_registers history d c a told)
  unfolding atomic_moves atomic_registers
  atomic_does None told low granted = λ it is sc. absurd cc
  atomic_does (Some a) told low granted =
      let va = register c.regs a.rs1 in
      aligned_does (va % 4 == 0) a (both_granted told) granted (λ test. eqb-true (va % 4) 0 test)
      (low a refl)

  word_does : (word : ℕ) (i : Option Instr) (told : List Item) → both_granted told ≡ true →
      DoesSo d.number c (word_reached d c word i) (word_moves d c word i told) (word_registers history d c word i told)
  unfolding word_moves word_registers
  word_does word None told granted = atomic_does (atomic_instruction word) told (rd_low word) granted
  word_does word (Some i) told granted = λ it is sc. absurd cc

  fetched_does : (place : Option PageId) (told : List Item) → both_granted told ≡ true →
      DoesSo d.number c (fetched_reached history d c place) (fetched_moves history d c place told)
      (fetched_registers history d c place told)
  unfolding fetched_moves fetched_registers
  fetched_does None told granted = λ it is sc. absurd cc
  fetched_does (Some q) told granted =
      let word : ℕ = latest_value history q (c.pc % 4096) 4 in word_does word (instruction word) told granted

  -- both questions were granted, so the first was
  both_first : (told : List Item) → both_granted told ≡ true → first_granted told ≡ true
  both_first [] is = absurd cc
  both_first (x ∷ []) is = absurd cc
  both_first (x ∷ y ∷ []) is = first_of _ _ is
    where
      first_of : (a b : Bool) → cond a b false ≡ true → a ≡ true
      first_of true b is = refl
      first_of false b is = absurd cc
  both_first (x ∷ y ∷ z ∷ told) is = absurd cc

  granted_does : (both first : Bool) (told : List Item) → both_granted told ≡ both → first_granted told ≡ first →
      let place = page_for d c c.pc in
      DoesSo d.number c (cond both (fetched_reached history d c place) None)
      (cond first (fetched_moves history d c place told) [])
      (cond first (fetched_registers history d c place told) c.regs)
  granted_does true true told is was = fetched_does (page_for d c c.pc) told is
  granted_does true false told is was = absurd (false≢true (sym was ∙ both_first told is))
  granted_does false first told is was = λ it none sc. absurd cc

  phase_does : (p : Phase) (told : List Item) →
      DoesSo d.number c (phase_reached p history d c told) (phase_moves p history d c told)
      (registers_after p history d c told)
  unfolding phase_moves registers_after
  phase_does Plain told = granted_does (both_granted told) (first_granted told) told refl refl
  phase_does (CopyIn done) told = λ it is sc. absurd cc
  phase_does Waiting told = λ it is sc. absurd cc
  phase_does (CopyOut done total) told = λ it is sc. absurd cc

-- A step of a run.

abbrev StepDoes : List Move → List Domain → Option ℕ → List Item → ℕ → Context → List ℕ → Type 0
StepDoes history domains inside items n c regs =
    DoesSo n c (step_reached history domains inside items) (step_moves history domains inside items) regs

step_does : (history : List Move) (domains : List Domain) (ctx : ℕ) (items : List Item) (found : Domain) (c : Context) →
    slice_get domains (domain_of ctx) ≡ Some found → context_at found.control.contexts (slot_of ctx) ≡ Some c →
    StepDoes history domains (Some ctx) items found.control.number c
    (registers_after c.phase history found.control c (inward_half (domain_of ctx) items))
unfolding step_moves program_moves context_moves
step_does history domains ctx items found c there has =
    let told : List Item = inward_half (domain_of ctx) items in
    let regs = registers_after c.phase history found.control c told in
    subst (λ (o : Option Domain). DoesSo found.control.number c (program_reached o history (slot_of ctx) told)
    (program_moves o history (slot_of ctx) told) regs) (sym there)
    (subst (λ (o : Option Context). DoesSo found.control.number c (context_reached o history found.control told)
    (context_moves o history found.control told) regs) (sym has) (phase_does history found.control c c.phase told))

module _ (b : Bundle) (from : Beginning) (r : Run) (n ctx : ℕ) (c after : Context) (it : Reached) where
  ends_by : (reserved : Bool) → is_reserved it.place it.mark ≡ reserved →
      after.regs ≡ with_register c.regs it.rd (cond reserved 0 1) →
      moves_of_step b from r n
      ≡ cond reserved (Stores (page_of (domain_of ctx) it.place) it.place.at 4 it.operand ∷ []) [] →
      (is_reserved it.place it.mark ≡ true → WasReservedInside b from r n ctx it.place) →
      ConditionalEnds b from r n ctx c it after
  ends_by true is regs moves was = Succeeds regs (was is) moves
  ends_by false is regs moves was = Fails regs moves

stored_is : (op : AtomicOp) (place : PageWord) (mark : Option PageWord) → op ≡ Sc → is_reserved place mark ≡ true →
    stored_with op place mark ≡ Some place
stored_is Sc place mark sc is = ap (λ (b : Bool). cond b (Some place) None) is
stored_is _ place mark sc is = absurd cc

-- what a register has that was written

written_by : (b : Bool) (regs : List ℕ) (rd value : ℕ) → (rd == 0) ≡ b → rd ≢ 0 → rd < length regs →
    register (cond b regs (slice_set regs rd value)) rd ≡ value
written_by true regs rd value is other low = absurd (other (eqb-true rd 0 is))
written_by false regs rd value is other low = get_or-set_same regs rd value 0 low

written_is : (regs : List ℕ) (rd value : ℕ) → rd ≢ 0 → rd < length regs →
    register (with_register regs rd value) rd ≡ value
written_is regs rd value other low = written_by (rd == 0) regs rd value refl other low

module _ (b : Bundle) (from : Beginning) (r : Run) (n ctx : ℕ) (c after : Context) (it : Reached)
    (low : it.rd < length c.regs)
  where
    has : (value : ℕ) → after.regs ≡ with_register c.regs it.rd value → it.rd ≢ 0 →
        register after.regs it.rd ≡ value
    has value is other =
        ap (λ (regs : List ℕ). register regs it.rd) is ∙ written_is c.regs it.rd value other low

    zero_tells : ConditionalEnds b from r n ctx c it after → it.rd ≢ 0 → register after.regs it.rd ≡ 0 →
        WasReservedInside b from r n ctx it.place
    zero_tells (Succeeds regs was moves) other zero = was
    zero_tells (Fails regs none) other zero =
        let one : 1 ≡ 0 = sym (has 1 regs other) ∙ zero in absurd (omega (arith, one))

    one_tells : ConditionalEnds b from r n ctx c it after → it.rd ≢ 0 → register after.regs it.rd ≡ 1 →
        moves_of_step b from r n ≡ []
    one_tells (Succeeds regs was moves) other one =
        let zero : 0 ≡ 1 = sym (has 0 regs other) ∙ one in absurd (omega (arith, zero))
    one_tells (Fails regs none) other one = none

    tells : ConditionalEnds b from r n ctx c it after → ConditionalTells b from r n ctx c it after
    tells ends = record { ends = ends; zero = zero_tells ends; one = one_tells ends }

pub conditionals_end : ConditionalsEnd
conditionals_end b from budget r grammar begins runs n t is s it after reached sc there =
    let m : Moment = moment_at b r n in
    let made = steps_made b from budget r runs n t is in
    let within = is_step r.turns n t is in
    let history : List Move = history_until b from n r in
    let own : s.domain.control.number ≡ domain_of s.ctx =
    number_at (domain_of s.ctx) m.joint.domains s.domain made.steady.programs s.program in
    let inside : context_of_step b r n ≡ Some s.ctx = s.runs in
    let items : items_of_turn (slice_get r.turns n) ≡ t.items = ap items_of_turn is in
    let at : Option ℕ → List Item → Type 0 = λ o l. StepDoes history m.joint.domains o l s.domain.control.number
    s.context (registers_after s.context.phase history s.domain.control s.context (inward_half (domain_of s.ctx) t.items)) in
    let here : at (Some s.ctx) t.items =
    step_does history m.joint.domains s.ctx t.items s.domain s.context s.program s.there in
    let does = subst (λ (o : Option ℕ). at o (items_of_turn (slice_get r.turns n))) (sym inside)
    (subst (λ (l : List Item). at (Some s.ctx) l) (sym items) here) it reached sc in
    let regs = runs_have_registers b from budget r grammar begins runs n t is s after there in
    let steady = subst (λ (o : Option Context). IfSome o (IsContext s.domain.control.resources)) s.there
    ((runs_keep_limits b from budget r grammar runs n (domain_of s.ctx) s.domain s.program).contexts (slot_of s.ctx)) in
    let long = steady.steady.registers in
    let low = does.low in
    tells b from r n s.ctx s.context after it (omega (arith, long, low))
    (ends_by b from r n s.ctx s.context after it (is_reserved it.place it.mark) refl (regs.registers ∙ does.registers)
    (does.does ∙ ap (λ (k : ℕ). cond (is_reserved it.place it.mark)
    (Stores (page_of k it.place) it.place.at 4 it.operand ∷ []) []) own)
    (λ reserved. contexts_store_reserved b from budget r grammar begins runs n s.ctx it.place (omega (arith, within))
    inside (ap stored_by reached ∙ stored_is it.op it.place it.mark sc reserved)))
