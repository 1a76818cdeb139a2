-- Moves that write in no word: loads, and, of a word of another domain, all that a program does.
use Rattle.std.proofs.Common.{◌≡◌, ◌≢◌, ◌∙◌, ℕ, ◌%◌, Bool, true, false, cond, List, [], ◌∷◌, map, Option, Some, None, Result, Ok, Err, refl, sym}
use Rattle.std.specs.Prelude.{◌==◌}
use Rattle.std.specs.List.{list_any}
use Rattle.cloak_base.specs.Registers.{register}
use Rattle.cloak_base.specs.Pages.{is_of}
use Rattle.cloak_base.proofs.Pages.{is_of-other}
use Rattle.cloak_base.specs.declared.names.PageId.{PageId}
use Rattle.rv_isa.specs.Table.{instruction}
use Rattle.rv_isa.specs.declared.instr.Instr.{Instr}
use Rattle.rv_isa.specs.declared.instr.Instr.TheVariants as instr
use Rattle.rv_atomic.specs.Table.{atomic_instruction}
use Rattle.rv_atomic.specs.declared.atomic.Atomic.{Atomic}
use Rattle.rv_atomic.specs.declared.atomic.AtomicOp.{AtomicOp}
use Rattle.rv_atomic.specs.declared.atomic.AtomicOp.TheVariants.{Lr, Sc}
use Rattle.cloak_model.specs.declared.context.Phase.{Phase}
use Rattle.cloak_model.specs.declared.context.Phase.TheVariants.{Plain, CopyIn, Waiting, CopyOut}
use Rattle.cloak_model.specs.declared.context.PageWord.{PageWord}
use Rattle.cloak_model.specs.Items.{Item}
use Rattle.cloak_model.specs.Items as item
use Rattle.cloak_model.specs.declared.outcome.Effect.{Effect}
use Rattle.cloak_model.specs.declared.outcome.Effect.TheVariants as does
use Rattle.cloak_model.specs.declared.resource.MapFault.{MapFault}
use Rattle.cloak_model.specs.Calls.{buffer, byte_address}
use Rattle.cloak_model.specs.Contexts.{Context, word_of_page, is_reserved}
use Rattle.cloak_model.specs.DomainState.{Control}
use Rattle.cloak_model.specs.Effect.{effect}
use Rattle.cloak_model.specs.Fork.{copies, private_numbers}
use Rattle.cloak_model.specs.Hypercalls as hyper
use Rattle.cloak_model.specs.Hypercalls.{Hypercall, New, ForkSpace, Exit, hypercall_of}
use Rattle.cloak_model.specs.Resources.{page_at}
use Rattle.script_fold.proofs.InstructionScripts.{IsOwnPage, own_page}
use Rattle.latest_store.specs.Moves.{Move, Stores, Copies, Drops, latest_value}
use Rattle.latest_store.specs.Deeds.{first_granted, both_granted, load_at, store_at, atomic_at, made_moves, file_moves, hypercall_moves, ecall_moves, effect_moves, atomic_moves, word_moves, fetched_moves, byte_moves, phase_moves, context_moves}
use Rattle.latest_store.specs.Sums.{writes_in}
use Rattle.context_law.specs.Inside.{page_of}
use Rattle.context_law.proofs.Stores.{or_none, both_none, misses_domain}

-- none of the moves writes in the word of the domain
abbrev pub Misses : ℕ → PageWord → List Move → Type 0
Misses e word moves = list_any (writes_in (page_of e word) word.at) moves ≡ false

pub misses_if : (e : ℕ) (word : PageWord) (test : Bool) (moves : List Move) → Misses e word moves →
    Misses e word (cond test moves [])
misses_if e word true moves none = none
misses_if e word false moves none = refl

-- Another domain's.

pub load_misses : (e : ℕ) (word : PageWord) (va width : ℕ) (place : Option PageId) →
    Misses e word (load_at va width place)
load_misses e word va width None = refl
load_misses e word va width (Some q) = refl

module _ (e : ℕ) (word : PageWord) (d : Control) (other : d.number ≢ e) where
  -- it does not make, copy over or drop its page
  of_other : (resource : ℕ) → is_of d.number resource (page_of e word) ≡ false
  of_other resource = is_of-other d.number resource (page_of e word) (λ is. other (sym is.0))

  made_misses : (made : Result ℕ MapFault) → Misses e word (made_moves d.number made)
  made_misses (Ok k) = or_none _ (of_other k)
  made_misses (Err fault) = refl

  file_misses : (c : Context) (place : Option ℕ) → Misses e word (file_moves d c place)
  file_misses c None = made_misses _
  file_misses c (Some n) = refl

  copies_miss : (list : List (ℕ × ℕ)) → Misses e word (map (λ (copy : ℕ × ℕ). Copies d.number copy.0 copy.1) list)
  copies_miss [] = refl
  copies_miss (copy ∷ list) = both_none _ _ (of_other copy.1) (copies_miss list)

  drops_miss : (list : List ℕ) → Misses e word (map (λ (resource : ℕ). Drops d.number resource) list)
  drops_miss [] = refl
  drops_miss (resource ∷ list) = both_none _ _ (of_other resource) (drops_miss list)

  hypercall_misses : (h : Hypercall) (c : Context) (answers : List Item) → Misses e word (hypercall_moves h d c answers)
  unfolding hypercall_moves
  hypercall_misses New c answers = made_misses _
  hypercall_misses hyper.File c answers = file_misses c _
  hypercall_misses ForkSpace c answers =
      misses_if e word (both_granted answers) _ (copies_miss (copies c.space d.resources))
  hypercall_misses Exit c answers =
      misses_if e word (both_granted answers) _ (drops_miss (private_numbers c.space d.resources))
  hypercall_misses _ c answers = refl

  ecall_misses : (c : Context) (i : Instr) (answers : List Item) → Misses e word (ecall_moves d c i answers)
  unfolding ecall_moves
  ecall_misses c instr.Ecall answers = hypercall_misses (hypercall_of c) c answers
  ecall_misses c _ answers = refl

  own_other : (q : PageId) → q.domain ≡ d.number → q.domain ≢ e
  own_other q own is = other (sym own ∙ is)

  store_misses : (va width value : ℕ) (place : Option PageId) → IsOwnPage d.number place →
      Misses e word (store_at va width value place)
  store_misses va width value None own = refl
  store_misses va width value (Some q) own = or_none _ (misses_domain e word q (va % 4096) width (own_other q own))

  atomic_at_misses : (c : Context) (op : AtomicOp) (va operand : ℕ) (place : Option PageId) → IsOwnPage d.number place →
      Misses e word (atomic_at c op va operand place)
  atomic_at_misses c op va operand None own = refl
  atomic_at_misses c Lr va operand (Some q) own = refl
  atomic_at_misses c Sc va operand (Some q) own =
      misses_if e word (is_reserved (word_of_page q va) c.mark) (Stores q (va % 4096) 4 operand ∷ [])
      (or_none _ (misses_domain e word q (va % 4096) 4 (own_other q own)))
  atomic_at_misses c op va operand (Some q) own = or_none _ (misses_domain e word q (va % 4096) 4 (own_other q own))

  effect_misses : (c : Context) (i : Instr) (f : Effect) (answers : List Item) →
      Misses e word (effect_moves d c i f answers)
  unfolding effect_moves
  effect_misses c i (does.Load rd va width signed) answers =
      misses_if e word (both_granted answers) _ (load_misses e word va width _)
  effect_misses c i (does.Store va width value) answers =
      misses_if e word (both_granted answers) _
      (store_misses va width value _ (own_page d.number d.resources c.space va))
  effect_misses c i does.System answers = ecall_misses c i answers
  effect_misses c i _ answers = refl

  atomic_misses : (c : Context) (a : Option Atomic) (answers : List Item) → Misses e word (atomic_moves d c a answers)
  unfolding atomic_moves
  atomic_misses c None answers = refl
  atomic_misses c (Some a) answers =
      let va = register c.regs a.rs1 in
      misses_if e word (va % 4 == 0) _
      (misses_if e word (both_granted answers) _
      (atomic_at_misses c a.op va (register c.regs a.rs2) _ (own_page d.number d.resources c.space va)))

  word_misses : (c : Context) (value : ℕ) (i : Option Instr) (answers : List Item) →
      Misses e word (word_moves d c value i answers)
  unfolding word_moves
  word_misses c value None answers = atomic_misses c (atomic_instruction value) answers
  word_misses c value (Some i) answers = effect_misses c i (effect i c.regs c.pc) answers

  fetched_misses : (history : List Move) (c : Context) (place : Option PageId) (answers : List Item) →
      Misses e word (fetched_moves history d c place answers)
  unfolding fetched_moves
  fetched_misses history c None answers = refl
  fetched_misses history c (Some q) answers =
      let value = latest_value history q (c.pc % 4096) 4 in word_misses c value (instruction value) answers

  byte_misses : (va : ℕ) (place : Option PageId) (answers : List Item) → IsOwnPage d.number place →
      Misses e word (byte_moves va place answers)
  byte_misses va place (item.Word domain byte ∷ item.Ok domain' ∷ []) own = store_misses va 1 byte place own
  byte_misses va place _ own = refl

  phase_misses : (p : Phase) (history : List Move) (c : Context) (answers : List Item) →
      Misses e word (phase_moves p history d c answers)
  unfolding phase_moves
  phase_misses Plain history c answers =
      misses_if e word (first_granted answers) _
      (fetched_misses history c (page_at d.number d.resources c.space c.pc) answers)
  phase_misses (CopyIn done) history c answers =
      misses_if e word (both_granted answers) _ (load_misses e word (byte_address (buffer c) done) 1 _)
  phase_misses Waiting history c answers = refl
  phase_misses (CopyOut done total) history c answers =
      let va = byte_address (buffer c) done in
      byte_misses va _ answers (own_page d.number d.resources c.space va)

  pub context_misses : (o : Option Context) (history : List Move) (answers : List Item) →
      Misses e word (context_moves o history d answers)
  unfolding context_moves
  context_misses None history answers = refl
  context_misses (Some c) history answers = phase_misses c.phase history c answers
