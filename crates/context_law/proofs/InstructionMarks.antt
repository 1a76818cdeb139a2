-- What an instruction makes of its context's reservation, and that it stores only in the word that it wrote in.
use Rattle.std.proofs.Common.{◌≡◌, ◌⊎◌, inl, inr, ℕ, ◌%◌, Bool, true, false, cond, List, [], ◌∷◌, Option, Some, None, refl, ap, ◌∙◌, subst}
use Rattle.std.specs.Prelude.{◌==◌}
use Rattle.std.proofs.lemmas.Bool.{eqb-true}
use Rattle.cloak_base.specs.Registers.{register}
use Rattle.cloak_base.specs.declared.names.PageId.{PageId}
use Rattle.rv_isa.specs.Table.{instruction}
use Rattle.rv_isa.specs.declared.instr.Instr.{Instr}
use Rattle.rv_isa.specs.declared.instr.Instr.TheVariants as instr
use Rattle.rv_atomic.specs.Table.{atomic_instruction}
use Rattle.rv_atomic.specs.declared.atomic.Atomic.{Atomic}
use Rattle.rv_atomic.specs.declared.atomic.AtomicOp.{AtomicOp}
use Rattle.rv_atomic.specs.declared.atomic.AtomicOp.TheVariants.{Lr, Sc}
use Rattle.cloak_model.specs.declared.answer.Answer.{Answer}
use Rattle.cloak_model.specs.declared.answer.Answer.TheVariants as told
use Rattle.cloak_model.specs.declared.context.PageWord.{PageWord}
use Rattle.cloak_model.specs.declared.inside.Ran.TheVariants as ran
use Rattle.cloak_model.specs.Items.{Item}
use Rattle.cloak_model.specs.Items as item
use Rattle.cloak_model.specs.declared.outcome.Effect.{Effect}
use Rattle.cloak_model.specs.declared.outcome.Effect.TheVariants as does
use Rattle.cloak_model.specs.AskPages.{answer_item}
use Rattle.cloak_model.specs.Contexts.{Context, word_of_page, same_word, is_reserved}
use Rattle.cloak_model.specs.DomainState.{Control}
use Rattle.cloak_model.specs.Effect.{effect}
use Rattle.cloak_model.specs.Hypercalls.{hypercall_of}
use Rattle.cloak_model.specs.InsideStep as inside
use Rattle.cloak_model.proofs.InsideParts as inside_parts
use Rattle.cloak_model.specs.InsideStep.{AfterInstruction, made}
use Rattle.cloak_model.specs.KernelStep.{misaligned}
use Rattle.cloak_model.specs.Memory.{value_in}
use Rattle.cloak_model.specs.Resources.{page_at}
use Rattle.cloak_model.specs.World.{World}
use Rattle.script_fold.proofs.Aligned.{IsAligned, StoresAligned, effect_aligned}
use Rattle.cloak_model.specs.Script.{Script, played}
use Rattle.latest_store.specs.Moves.{Move, Stores}
use Rattle.latest_store.specs.Deeds.{both_granted, load_at, store_at, atomic_at, hypercall_moves, ecall_moves, effect_moves, atomic_moves, word_moves, fetched_moves}
use Rattle.latest_store.proofs.Values.{read_value}
use Rattle.latest_store.proofs.Moved.{Agrees}
use Rattle.latest_store.proofs.Heard.{Heard, if_fetched, if_granted}
use Rattle.context_law.specs.Inside as law
use Rattle.context_law.specs.Inside.{Reached, reserved_with, reserved_by}
use Rattle.context_law.proofs.Answered.{EndsBy, EndBy, end_by}
use Rattle.context_law.proofs.Stores.{or_none, misses_word, on_word}
use Rattle.context_law.proofs.Others.{Misses}
use Rattle.latest_store.proofs.InstructionDeeds.{second_answer}

-- the word was written in
abbrev pub writes_word : PageWord → Option PageWord → Bool
writes_word word None = false
writes_word word (Some place) = same_word word place

-- the atomic instruction that was reached, if both questions were granted
abbrev pub if_reached : Option Reached → List Item → Option Reached
if_reached reached answers = cond (both_granted answers) reached None

-- At a hypercall nothing was done so far, and its moves are all that it will do.
pub record IsCalling (d : Control) (c : Context) (moves : List Item → List Move) (answers : List Item) (k : Context) :
    Type 0 where
  pub same : k ≡ c
  pub asked : answers ≡ item.Ok d.number ∷ []
  pub deeds : (final : List Item) → moves final ≡ hypercall_moves (hypercall_of c) d c final

-- An instruction, by what its program was told.
pub record DoneByInstruction (d : Control) (c : Context) (moves : List Item → List Move) (reached : Option Reached)
    (answers : List Item) (after : AfterInstruction) : Type 0 where
  pub stores : (after.ending ≡ ran.Ecall → ⊥) → (word : PageWord) → word.at % 4 ≡ 0 →
      writes_word word after.wrote ≡ false → Misses d.number word (if_fetched moves answers)
  pub mark : (word : PageWord) → after.context.mark ≡ Some word →
      (c.mark ≡ Some word) ⊎ (reserved_by (if_reached reached answers) ≡ Some word)
  pub calls : after.ending ≡ ran.Ecall → IsCalling d c moves answers after.context

abbrev Deed : Control → (PageId → List ℕ) → Context → (List Item → List Move) → Option Reached → List Item →
    Script AfterInstruction → Type 0
Deed d plain c moves reached answers s = EndsBy d.number (DoneByInstruction d c moves reached) plain answers s

-- it is no hypercall, and made no reservation
ended : (d : Control) (c : Context) (moves : List Item → List Move) (reached : Option Reached) (answers : List Item)
    (after : AfterInstruction) →
    ((word : PageWord) → word.at % 4 ≡ 0 → writes_word word after.wrote ≡ false →
    Misses d.number word (if_fetched moves answers)) →
    ((word : PageWord) → after.context.mark ≡ Some word → c.mark ≡ Some word) → (after.ending ≡ ran.Ecall → ⊥) →
    DoneByInstruction d c moves reached answers after
ended d c moves reached answers after stores kept other = record {
  stores = λ no. stores;
  mark = λ word is. inl (kept word is);
  calls = λ is. absurd (other is);
}

module _ (d : Control) (plain : PageId → List ℕ) (c : Context) (reached : Option Reached) where
  reached_deed : (list : List Move) (va : ℕ) (a : Answer) (next : Script AfterInstruction) →
      Deed d plain c (if_granted list) reached (second_answer d.number told.Ok) next →
      Deed d plain c (if_granted list) reached (second_answer d.number a) (inside.if_reached c va a next)
  reached_deed list va told.Ok next more = more
  reached_deed list va _ next more =
      ended d c _ reached _ _ (λ word aligned free. refl) (λ word is. is) (λ is. cc)

  got_deed : (va : ℕ) (a : Answer) (next : ℕ → Script AfterInstruction) →
      ((value : ℕ) → Deed d plain c (if_granted []) reached (second_answer d.number (told.Word value)) (next value)) →
      Deed d plain c (if_granted []) reached (second_answer d.number a) (inside.if_got c va a next)
  got_deed va (told.Word value) next more = more value
  got_deed va _ next more = ended d c _ reached _ _ (λ word aligned free. refl) (λ word is. is) (λ is. cc)

  load_deed : (rd va width : ℕ) (signed : Bool) (place : Option PageId) →
      Deed d plain c (if_granted (load_at va width place)) reached (item.Ok d.number ∷ [])
      (inside.load_inside c rd va width signed place)
  unfolding inside.load_inside
  load_deed rd va width signed None =
      λ a. got_deed va a _
      (λ value. ended d c _ reached _ _ (λ word aligned free. refl) (λ word is. is) (λ is. cc))
  load_deed rd va width signed (Some q) =
      λ a. reached_deed (load_at va width (Some q)) va a _
      (ended d c _ reached _ _ (λ word aligned free. refl) (λ word is. is) (λ is. cc))

  store_deed : (va width value : ℕ) (place : Option PageId) → IsAligned va width →
      Deed d plain c (if_granted (store_at va width value place)) reached (item.Ok d.number ∷ [])
      (inside.store_inside c va width value place)
  unfolding inside.store_inside
  store_deed va width value None at =
      λ a. reached_deed [] va a _
      (ended d c _ reached _ _ (λ word aligned free. refl) (λ word is. is) (λ is. cc))
  store_deed va width value (Some q) at =
      λ a. reached_deed (store_at va width value (Some q)) va a _ (λ written.
      ended d c _ reached _ _
      (λ word aligned free. or_none _ (misses_word d.number word q va width aligned (on_word va width at) free))
      (λ word is. is) (λ is. cc))

module _ (d : Control) (plain : PageId → List ℕ) (c : Context) (reached : Option Reached) where
  system_deed : (i : Instr) →
      Deed d plain c (ecall_moves d c i) reached (item.Ok d.number ∷ []) (inside.system_inside c i)
  unfolding inside.system_inside ecall_moves
  system_deed instr.Ecall = record {
    stores = λ no. absurd (no refl);
    mark = λ word is. inl is;
    calls = λ is. record { same = refl; asked = refl; deeds = λ final. refl };
  }
  system_deed instr.Ebreak = ended d c _ reached _ _ (λ word aligned free. refl) (λ word is. is) (λ is. cc)
  system_deed i = ended d c _ reached _ _ (λ word aligned free. refl) (λ word is. is) (λ is. cc)

  done_deed : (i : Instr) (e : Effect) → StoresAligned e →
      Deed d plain c (effect_moves d c i e) reached (item.Ok d.number ∷ [])
      (inside.done_inside d.number d.resources c i e)
  unfolding inside.done_inside effect_moves
  done_deed i (does.Load rd va width signed) on =
      load_deed d plain c reached rd va width signed (page_at d.number d.resources c.space va)
  done_deed i (does.Store va width value) on =
      store_deed d plain c reached va width value (page_at d.number d.resources c.space va) on
  done_deed i does.System on = system_deed i
  done_deed i _ on = ended d c _ reached _ _ (λ word aligned free. refl) (λ word is. is) (λ is. cc)

-- Atomic instructions.

module _ (d : Control) (plain : PageId → List ℕ) (c : Context) where
  conditional_deed : (reserved : Bool) (reached : Option Reached) (rd : ℕ) (q : PageId) (va operand : ℕ) → va % 4 ≡ 0 →
      Deed d plain c (if_granted (cond reserved (Stores q (va % 4096) 4 operand ∷ []) [])) reached
      (second_answer d.number told.Ok) (inside_parts.conditional_inside reserved c rd q va operand)
  conditional_deed true reached rd q va operand even =
      λ written. ended d c _ reached _ _
      (λ word aligned free. or_none _ (misses_word d.number word q va 4 aligned (inr (inr (refl, even))) free))
      (λ word is. absurd cc) (λ is. cc)
  conditional_deed false reached rd q va operand even =
      ended d c _ reached _ _ (λ word aligned free. refl) (λ word is. absurd cc) (λ is. cc)

  granted_deed : (a : Atomic) (op : AtomicOp) (q : PageId) (va operand : ℕ) → a.op ≡ op →
      register c.regs a.rs1 ≡ va → va % 4 ≡ 0 →
      Deed d plain c (if_granted (atomic_at c op va operand (Some q))) (law.placed_reached c a (Some q))
      (second_answer d.number told.Ok) (inside.atomic_granted c a.rd op q va operand)
  unfolding inside.atomic_granted
  granted_deed a Lr q va operand is at even = record {
    stores = λ call word aligned free. refl;
    mark = λ word marked. inr (ap (λ (op : AtomicOp). reserved_with op (word_of_page q (register c.regs a.rs1))) is
        ∙ ap (λ (x : ℕ). Some (word_of_page q x)) at ∙ marked);
    calls = λ call. absurd cc;
  }
  granted_deed a Sc q va operand is at even =
      conditional_deed (is_reserved (word_of_page q va) c.mark) _ a.rd q va operand even
  granted_deed a op q va operand is at even =
      λ written. ended d c _ _ _ _
      (λ word aligned free. or_none _ (misses_word d.number word q va 4 aligned (inr (inr (refl, even))) free))
      (λ word marked. marked) (λ call. cc)

  placed_deed : (a : Atomic) (va operand : ℕ) (place : Option PageId) → register c.regs a.rs1 ≡ va → va % 4 ≡ 0 →
      Deed d plain c (if_granted (atomic_at c a.op va operand place)) (law.placed_reached c a place)
      (item.Ok d.number ∷ []) (inside.atomic_placed c a.rd a.op va operand place)
  unfolding inside.atomic_placed
  placed_deed a va operand None at even =
      ended d c _ _ _ _ (λ word aligned free. refl) (λ word marked. marked) (λ call. cc)
  placed_deed a va operand (Some q) at even =
      λ answer. reached_deed d plain c _ (atomic_at c a.op va operand (Some q)) va answer _
      (granted_deed a a.op q va operand refl at even)

module _ (d : Control) (plain : PageId → List ℕ) (c : Context) where
  aligned_deed : (aligned : Bool) (a : Atomic) → (aligned ≡ true → register c.regs a.rs1 % 4 ≡ 0) →
      let va = register c.regs a.rs1 in
      let operand = register c.regs a.rs2 in
      let place = page_at d.number d.resources c.space va in
      Deed d plain c (λ answers. cond aligned (if_granted (atomic_at c a.op va operand place) answers) [])
      (cond aligned (law.placed_reached c a place) None) (item.Ok d.number ∷ [])
      (cond aligned (inside.atomic_placed c a.rd a.op va operand place) (inside.traps c (misaligned a.op) va))
  aligned_deed true a even =
      let va = register c.regs a.rs1 in
      placed_deed d plain c a va (register c.regs a.rs2) (page_at d.number d.resources c.space va) refl (even refl)
  aligned_deed false a even = ended d c _ _ _ _ (λ word aligned free. refl) (λ word is. is) (λ is. cc)

  atomic_deed : (a : Option Atomic) →
      Deed d plain c (atomic_moves d c a) (law.atomic_reached d c a) (item.Ok d.number ∷ [])
      (inside.atomic_inside d.number d.resources c a)
  unfolding inside.atomic_inside atomic_moves
  atomic_deed None = ended d c _ _ _ _ (λ word aligned free. refl) (λ word is. is) (λ is. cc)
  atomic_deed (Some a) =
      let va = register c.regs a.rs1 in aligned_deed (va % 4 == 0) a (λ test. eqb-true (va % 4) 0 test)

  -- Every word.

  decoded_deed : (word : ℕ) (i : Option Instr) →
      Deed d plain c (word_moves d c word i) (law.word_reached d c word i)
      (item.Ok d.number ∷ []) (inside.decoded_inside d.number d.resources c word i)
  unfolding inside.decoded_inside word_moves
  decoded_deed word None = atomic_deed (atomic_instruction word)
  decoded_deed word (Some i) =
      done_deed d plain c None i (effect i c.regs c.pc)
      (effect_aligned i c.regs c.pc)

  fetched_deed : (history : List Move) (q : PageId) (a : Answer) → Agrees history plain →
      Deed d plain c (fetched_moves history d c (Some q)) (law.fetched_reached history d c (Some q))
      (answer_item d.number a ∷ []) (inside_parts.fetched_inside d.number d.resources c q a)
  unfolding fetched_moves
  fetched_deed history q told.Ok agrees =
      let word : ℕ = value_in (plain q) (c.pc % 4096) 4 in
      subst (λ (x : ℕ).
      Deed d plain c (word_moves d c x (instruction x)) (law.word_reached d c x (instruction x))
      (item.Ok d.number ∷ []) (inside_parts.executed_inside d.number d.resources c word))
      (read_value history q (plain q) (c.pc % 4096) 4 (agrees q)) (decoded_deed word (instruction word))
  fetched_deed history q _ agrees =
      ended d c _ _ _ _ (λ word aligned free. refl) (λ word is. is) (λ is. cc)

  fetch_deed : (history : List Move) (place : Option PageId) → Agrees history plain →
      Deed d plain c (fetched_moves history d c place) (law.fetched_reached history d c place) []
      (inside.fetch d.number d.resources c place)
  unfolding inside.fetch
  fetch_deed history None agrees =
      ended d c _ _ _ _ (λ word aligned free. refl) (λ word is. is) (λ is. cc)
  fetch_deed history (Some q) agrees = λ a. fetched_deed history q a agrees

  pub instruction_deed : (history : List Move) (w : World) → Agrees history plain → Heard d.number plain [] w →
      let place = page_at d.number d.resources c.space c.pc in
      EndBy d.number
      (DoneByInstruction d c (fetched_moves history d c place) (law.fetched_reached history d c place))
      (played (inside.instruction_inside d.number d.resources c) w)
  unfolding inside.instruction_inside
  instruction_deed history w agrees heard =
      let place = page_at d.number d.resources c.space c.pc in
      end_by d.number _ (inside.fetch d.number d.resources c place) plain [] w (fetch_deed history place agrees) heard
