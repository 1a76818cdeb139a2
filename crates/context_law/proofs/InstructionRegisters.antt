-- The registers that an instruction leaves, by what its program was told.
use Rattle.std.proofs.Common.{◌≡◌, ◌∙◌, ℕ, ◌%◌, Bool, true, false, cond, List, [], ◌∷◌, Option, Some, None, refl, ap, subst}
use Rattle.std.specs.Prelude.{◌==◌}
use Rattle.cloak_base.specs.Registers.{register, with_register}
use Rattle.cloak_base.specs.declared.names.PageId.{PageId}
use Rattle.rv_isa.specs.Table.{instruction}
use Rattle.rv_isa.specs.declared.instr.Instr.{Instr}
use Rattle.rv_isa.specs.declared.instr.Instr.TheVariants as instr
use Rattle.rv_atomic.specs.Table.{atomic_instruction}
use Rattle.rv_atomic.specs.declared.atomic.Atomic.{Atomic}
use Rattle.rv_atomic.specs.declared.atomic.AtomicOp.{AtomicOp}
use Rattle.rv_atomic.specs.declared.atomic.AtomicOp.TheVariants.{Lr, Sc}
use Rattle.cloak_model.specs.declared.answer.Answer.{Answer}
use Rattle.cloak_model.specs.declared.answer.Answer.TheVariants as told
use Rattle.cloak_model.specs.declared.inside.Ran.TheVariants as ran
use Rattle.cloak_model.specs.declared.outcome.Effect.{Effect}
use Rattle.cloak_model.specs.declared.outcome.Effect.TheVariants as does
use Rattle.cloak_model.specs.Items.{Item}
use Rattle.cloak_model.specs.Items as item
use Rattle.cloak_model.specs.AskPages.{answer_item}
use Rattle.cloak_model.specs.Contexts.{Context, word_of_page, is_reserved}
use Rattle.cloak_model.specs.DomainState.{Control}
use Rattle.cloak_model.specs.Effect.{effect}
use Rattle.cloak_model.specs.InsideStep as inside
use Rattle.cloak_model.specs.InsideStep.{AfterInstruction}
use Rattle.cloak_model.specs.KernelStep.{extended, misaligned}
use Rattle.cloak_model.specs.Memory.{value_in}
use Rattle.cloak_model.specs.Resources.{page_at}
use Rattle.cloak_model.specs.Script.{Script, played}
use Rattle.cloak_model.specs.World.{World}
use Rattle.cloak_model.proofs.InsideParts as inside_parts
use Rattle.latest_store.specs.Moves.{Move}
use Rattle.latest_store.specs.Deeds.{first_granted, both_granted}
use Rattle.latest_store.proofs.Heard.{Heard}
use Rattle.latest_store.proofs.InstructionDeeds.{second_answer}
use Rattle.latest_store.proofs.Moved.{Agrees}
use Rattle.latest_store.proofs.Values.{read_value}
use Rattle.context_law.specs.Registers.{loaded_registers, placed_registers, atomic_registers, system_registers, effect_registers, word_registers, fetched_registers}
use Rattle.context_law.proofs.Answered.{EndsBy, EndBy, end_by}

-- these registers, if the first question was granted
abbrev pub if_first : Context → (List Item → List ℕ) → List Item → List ℕ
if_first c regs answers = cond (first_granted answers) (regs answers) c.regs

-- At a hypercall nothing was done so far, and its registers are what it will leave.
pub record IsCalled (d : Control) (c : Context) (regs : List Item → List ℕ) (answers : List Item) (k : Context) : Type 0
  where
    pub same : k ≡ c
    pub asked : answers ≡ item.Ok d.number ∷ []
    pub leaves : (final : List Item) → regs final ≡ system_registers d c instr.Ecall final

-- An instruction, by what its program was told.
pub record LeavesRegisters (d : Control) (c : Context) (regs : List Item → List ℕ) (answers : List Item)
    (after : AfterInstruction) : Type 0 where
  pub registers : (after.ending ≡ ran.Ecall → ⊥) → after.context.regs ≡ if_first c regs answers
  pub stopped : after.ending ≡ ran.Stopped → after.context.regs ≡ c.regs
  pub calls : after.ending ≡ ran.Ecall → IsCalled d c regs answers after.context

abbrev Leaves : Control → (PageId → List ℕ) → Context → (List Item → List ℕ) → List Item → Script AfterInstruction →
    Type 0
Leaves d plain c regs answers s = EndsBy d.number (LeavesRegisters d c regs) plain answers s

-- it is no hypercall, and was not stopped
ends : (d : Control) (c : Context) (regs : List Item → List ℕ) (answers : List Item) (after : AfterInstruction) →
    after.context.regs ≡ if_first c regs answers → (after.ending ≡ ran.Ecall → ⊥) →
    (after.ending ≡ ran.Stopped → ⊥) → LeavesRegisters d c regs answers after
ends d c regs answers after same call stop = record {
  registers = λ other. same;
  stopped = λ is. absurd (stop is);
  calls = λ is. absurd (call is);
}

-- nor changed a register
stays : (d : Control) (c : Context) (regs : List Item → List ℕ) (answers : List Item) (after : AfterInstruction) →
    after.context.regs ≡ c.regs → c.regs ≡ if_first c regs answers → (after.ending ≡ ran.Ecall → ⊥) →
    LeavesRegisters d c regs answers after
stays d c regs answers after same none call = record {
  registers = λ other. same ∙ none;
  stopped = λ is. same;
  calls = λ is. absurd (call is);
}

module _ (d : Control) (plain : PageId → List ℕ) (c : Context) (history : List Move) (agrees : Agrees history plain) where
  -- a question that is not granted leaves registers as they were
  reached_leaves : (regs : List Item → List ℕ) (va : ℕ) (a : Answer) (next : Script AfterInstruction) →
      ((b : Answer) → (b ≡ told.Ok → ⊥) → c.regs ≡ regs (second_answer d.number b)) →
      Leaves d plain c regs (second_answer d.number told.Ok) next →
      Leaves d plain c regs (second_answer d.number a) (inside.if_reached c va a next)
  reached_leaves regs va told.Ok next none more = more
  reached_leaves regs va (told.Absent cause) next none more =
      stays d c regs _ _ refl (none (told.Absent cause) (λ is. cc)) (λ is. cc)
  reached_leaves regs va (told.Word value) next none more =
      stays d c regs _ _ refl (none (told.Word value) (λ is. cc)) (λ is. cc)
  reached_leaves regs va told.Stopped next none more =
      stays d c regs _ _ refl (none told.Stopped (λ is. cc)) (λ is. cc)

  got_leaves : (regs : List Item → List ℕ) (va : ℕ) (a : Answer) (next : ℕ → Script AfterInstruction) →
      ((b : Answer) → ((value : ℕ) → b ≡ told.Word value → ⊥) → c.regs ≡ regs (second_answer d.number b)) →
      ((value : ℕ) → Leaves d plain c regs (second_answer d.number (told.Word value)) (next value)) →
      Leaves d plain c regs (second_answer d.number a) (inside.if_got c va a next)
  got_leaves regs va (told.Word value) next none more = more value
  got_leaves regs va told.Ok next none more = stays d c regs _ _ refl (none told.Ok (λ value is. cc)) (λ is. cc)
  got_leaves regs va (told.Absent cause) next none more =
      stays d c regs _ _ refl (none (told.Absent cause) (λ value is. cc)) (λ is. cc)
  got_leaves regs va told.Stopped next none more =
      stays d c regs _ _ refl (none told.Stopped (λ value is. cc)) (λ is. cc)

  not_reached : (rd va width : ℕ) (signed : Bool) (q : PageId) (b : Answer) → (b ≡ told.Ok → ⊥) →
      c.regs ≡ loaded_registers history c rd va width signed (Some q) (second_answer d.number b)
  unfolding loaded_registers
  not_reached rd va width signed q told.Ok other = absurd (other refl)
  not_reached rd va width signed q _ other = refl

  not_got : (rd va width : ℕ) (signed : Bool) (b : Answer) → ((value : ℕ) → b ≡ told.Word value → ⊥) →
      c.regs ≡ loaded_registers history c rd va width signed None (second_answer d.number b)
  unfolding loaded_registers
  not_got rd va width signed (told.Word value) other = absurd (other value refl)
  not_got rd va width signed _ other = refl

  load_leaves : (rd va width : ℕ) (signed : Bool) (place : Option PageId) →
      Leaves d plain c (loaded_registers history c rd va width signed place) (item.Ok d.number ∷ [])
      (inside.load_inside c rd va width signed place)
  unfolding inside.load_inside loaded_registers
  load_leaves rd va width signed None =
      λ a. got_leaves (loaded_registers history c rd va width signed None) va a _ (not_got rd va width signed)
      (λ value. ends d c _ _ _ refl (λ is. cc) (λ is. cc))
  load_leaves rd va width signed (Some q) =
      λ a. reached_leaves (loaded_registers history c rd va width signed (Some q)) va a _
      (not_reached rd va width signed q)
      (ends d c _ _ _
      (ap (λ (value : ℕ). with_register c.regs rd (extended signed width value))
      (read_value history q (plain q) (va % 4096) width (agrees q)))
      (λ is. cc) (λ is. cc))

  still : (answers : List Item) (b : Bool) → c.regs ≡ cond b c.regs c.regs
  still answers true = refl
  still answers false = refl

  store_leaves : (va width value : ℕ) (place : Option PageId) →
      Leaves d plain c (λ answers. c.regs) (item.Ok d.number ∷ []) (inside.store_inside c va width value place)
  unfolding inside.store_inside
  store_leaves va width value None =
      λ a. reached_leaves (λ answers. c.regs) va a _ (λ b other. refl) (ends d c _ _ _ refl (λ is. cc) (λ is. cc))
  store_leaves va width value (Some q) =
      λ a. reached_leaves (λ answers. c.regs) va a _ (λ b other. refl)
      (λ written. ends d c _ _ _ refl (λ is. cc) (λ is. cc))

  system_leaves : (i : Instr) →
      Leaves d plain c (system_registers d c i) (item.Ok d.number ∷ []) (inside.system_inside c i)
  unfolding inside.system_inside system_registers
  system_leaves instr.Ecall = record {
    registers = λ other. absurd (other refl);
    stopped = λ is. absurd cc;
    calls = λ is. record { same = refl; asked = refl; leaves = λ final. refl };
  }
  system_leaves instr.Ebreak = ends d c _ _ _ refl (λ is. cc) (λ is. cc)
  system_leaves i = ends d c _ _ _ refl (λ is. cc) (λ is. cc)

  done_leaves : (i : Instr) (e : Effect) →
      Leaves d plain c (effect_registers history d c i e) (item.Ok d.number ∷ [])
      (inside.done_inside d.number d.resources c i e)
  unfolding inside.done_inside effect_registers
  done_leaves i (does.Load rd va width signed) =
      load_leaves rd va width signed (page_at d.number d.resources c.space va)
  done_leaves i (does.Store va width value) = store_leaves va width value (page_at d.number d.resources c.space va)
  done_leaves i does.System = system_leaves i
  done_leaves i _ = ends d c _ _ _ refl (λ is. cc) (λ is. cc)

  -- Atomic instructions.

  abbrev placed : ℕ → AtomicOp → ℕ → Option PageId → List Item → List ℕ
  placed rd op va place answers = cond (both_granted answers) (placed_registers history c rd op va place) c.regs

  conditional_leaves : (reserved : Bool) (rd : ℕ) (q : PageId) (va operand : ℕ) →
      Leaves d plain c (λ answers. cond (both_granted answers) (with_register c.regs rd (cond reserved 0 1)) c.regs)
      (second_answer d.number told.Ok) (inside_parts.conditional_inside reserved c rd q va operand)
  conditional_leaves true rd q va operand = λ written. ends d c _ _ _ refl (λ is. cc) (λ is. cc)
  conditional_leaves false rd q va operand = ends d c _ _ _ refl (λ is. cc) (λ is. cc)

  granted_leaves : (rd : ℕ) (op : AtomicOp) (q : PageId) (va operand : ℕ) →
      Leaves d plain c (placed rd op va (Some q)) (second_answer d.number told.Ok)
      (inside.atomic_granted c rd op q va operand)
  unfolding inside.atomic_granted
  granted_leaves rd Lr q va operand =
      ends d c _ _ _ (ap (with_register c.regs rd) (read_value history q (plain q) (va % 4096) 4 (agrees q)))
      (λ is. cc) (λ is. cc)
  granted_leaves rd Sc q va operand = conditional_leaves (is_reserved (word_of_page q va) c.mark) rd q va operand
  granted_leaves rd op q va operand =
      λ written. ends d c _ _ _ (ap (with_register c.regs rd) (read_value history q (plain q) (va % 4096) 4 (agrees q)))
      (λ is. cc) (λ is. cc)

  not_placed : (rd : ℕ) (op : AtomicOp) (va : ℕ) (place : Option PageId) (b : Answer) → (b ≡ told.Ok → ⊥) →
      c.regs ≡ placed rd op va place (second_answer d.number b)
  not_placed rd op va place told.Ok other = absurd (other refl)
  not_placed rd op va place _ other = refl

  placed_leaves : (rd : ℕ) (op : AtomicOp) (va operand : ℕ) (place : Option PageId) →
      Leaves d plain c (placed rd op va place) (item.Ok d.number ∷ []) (inside.atomic_placed c rd op va operand place)
  unfolding inside.atomic_placed
  placed_leaves rd op va operand None = ends d c _ _ _ refl (λ is. cc) (λ is. cc)
  placed_leaves rd op va operand (Some q) =
      λ a. reached_leaves (placed rd op va (Some q)) va a _ (not_placed rd op va (Some q))
      (granted_leaves rd op q va operand)

  aligned_leaves : (aligned : Bool) (a : Atomic) (va : ℕ) →
      let place = page_at d.number d.resources c.space va in
      Leaves d plain c (λ answers. cond aligned (placed a.rd a.op va place answers) c.regs) (item.Ok d.number ∷ [])
      (cond aligned (inside.atomic_placed c a.rd a.op va (register c.regs a.rs2) place)
      (inside.traps c (misaligned a.op) va))
  aligned_leaves true a va =
      placed_leaves a.rd a.op va (register c.regs a.rs2) (page_at d.number d.resources c.space va)
  aligned_leaves false a va = ends d c _ _ _ refl (λ is. cc) (λ is. cc)

  atomic_leaves : (a : Option Atomic) →
      Leaves d plain c (atomic_registers history d c a) (item.Ok d.number ∷ [])
      (inside.atomic_inside d.number d.resources c a)
  unfolding inside.atomic_inside atomic_registers
  atomic_leaves None = ends d c _ _ _ refl (λ is. cc) (λ is. cc)
  atomic_leaves (Some a) = let va = register c.regs a.rs1 in aligned_leaves (va % 4 == 0) a va

  -- Every word.

  decoded_leaves : (word : ℕ) (i : Option Instr) →
      Leaves d plain c (word_registers history d c word i) (item.Ok d.number ∷ [])
      (inside.decoded_inside d.number d.resources c word i)
  unfolding inside.decoded_inside word_registers
  decoded_leaves word None = atomic_leaves (atomic_instruction word)
  decoded_leaves word (Some i) = done_leaves i (effect i c.regs c.pc)

  fetched_leaves : (q : PageId) (a : Answer) →
      Leaves d plain c (fetched_registers history d c (Some q)) (answer_item d.number a ∷ [])
      (inside_parts.fetched_inside d.number d.resources c q a)
  unfolding fetched_registers
  fetched_leaves q told.Ok =
      let word : ℕ = value_in (plain q) (c.pc % 4096) 4 in
      subst (λ (x : ℕ).
      Leaves d plain c (word_registers history d c x (instruction x)) (item.Ok d.number ∷ [])
      (inside_parts.executed_inside d.number d.resources c word))
      (read_value history q (plain q) (c.pc % 4096) 4 (agrees q)) (decoded_leaves word (instruction word))
  fetched_leaves q _ = stays d c _ _ _ refl refl (λ is. cc)

  fetch_leaves : (place : Option PageId) →
      Leaves d plain c (fetched_registers history d c place) [] (inside.fetch d.number d.resources c place)
  unfolding inside.fetch
  fetch_leaves None = ends d c _ _ _ refl (λ is. cc) (λ is. cc)
  fetch_leaves (Some q) = λ a. fetched_leaves q a

  pub instruction_leaves : (w : World) → Heard d.number plain [] w →
      EndBy d.number (LeavesRegisters d c (fetched_registers history d c (page_at d.number d.resources c.space c.pc)))
      (played (inside.instruction_inside d.number d.resources c) w)
  unfolding inside.instruction_inside
  instruction_leaves w heard =
      let place = page_at d.number d.resources c.space c.pc in
      end_by d.number _ (inside.fetch d.number d.resources c place) plain [] w (fetch_leaves place) heard
