-- Reservations of contexts of programs: SC stores only if no byte of its word was written since the context's LR. As in
-- the law of the latest store, what a step does is told by the contexts and regions of its program, by what the program
-- was answered in the step, and by the history before it.
use Rattle.std.specs.Prelude.{ℕ, suc, ◌≡◌, ◌≢◌, ◌≤◌, ◌%◌, ◌==◌, true, false, List, [], ◌∷◌, ◌++◌, length, slice_get, Option, Some, None, is_some, Ok, if◌then◌else◌}
use Rattle.std.specs.List.{list_any}
use Rattle.cloak_base.specs.Registers.{register, with_register}
use Rattle.cloak_base.specs.declared.names.PageId.{PageId}
use Rattle.rv_isa.specs.Table.{instruction}
use Rattle.rv_isa.specs.declared.instr.Instr.{Instr}
use Rattle.rv_atomic.specs.Table.{atomic_instruction}
use Rattle.rv_atomic.specs.declared.atomic.Atomic.{Atomic}
use Rattle.rv_atomic.specs.declared.atomic.AtomicOp.{AtomicOp}
use Rattle.rv_atomic.specs.declared.atomic.AtomicOp.TheVariants.{Lr, Sc}
use Rattle.cloak_model.specs.declared.context.Phase.{Phase}
use Rattle.cloak_model.specs.declared.context.Phase.TheVariants.{Plain}
use Rattle.cloak_model.specs.declared.context.PageWord.{PageWord}
use Rattle.cloak_model.specs.declared.image.Bundle.{Bundle}
use Rattle.cloak_model.specs.Items.{Item}
use Rattle.cloak_model.specs.Beginning.{Beginning, IsBeginning}
use Rattle.cloak_model.specs.Bundle.{IsInGrammar}
use Rattle.cloak_model.specs.Contexts.{Context, context_at, context_number, domain_of, slot_of, word_of_page, is_reserved}
use Rattle.cloak_model.specs.DomainState.{Control, Domain}
use Rattle.cloak_model.specs.Halves.{inward_half}
use Rattle.cloak_model.specs.Joint.{Turn}
use Rattle.cloak_model.specs.Resources.{resource_at, size_for}
use Rattle.cloak_model.specs.Run.{Run, run_from}
use Rattle.kernel_isolation.specs.Isolation.{joint_until}
use Rattle.page_law.specs.Ciphers.{items_of_turn}
use Rattle.page_law.specs.OwnPages.{context_of_step}
use Rattle.latest_store.specs.Moves.{Move, Stores, latest_value}
use Rattle.latest_store.specs.Deeds.{both_granted, page_for, step_moves, end_moves}
use Rattle.latest_store.specs.Sums.{writes_in}
use Rattle.latest_store.specs.LatestStore.{history_until}
use Rattle.cause_law.specs.Causes.{moment_at, context_running}
use Rattle.cause_law.specs.Presented.{StepsInside}

-- An atomic instruction that reached its word: its operation, its register, its operand, the word, and what its context
-- had reserved before.
pub record Reached : Type 0 where
  pub op : AtomicOp
  pub rd : ℕ
  pub operand : ℕ
  pub place : PageWord
  pub mark : Option PageWord

-- by the page in which its word lies
abbrev pub placed_reached : Context → Atomic → Option PageId → Option Reached
placed_reached c a None = None
placed_reached c a (Some q) =
    Some (record {
      op = a.op;
      rd = a.rd;
      operand = register c.regs a.rs2;
      place = word_of_page q (register c.regs a.rs1);
      mark = c.mark;
    })

-- an atomic instruction of a context, at an address that is a multiple of 4
abbrev pub atomic_reached : Control → Context → Option Atomic → Option Reached
atomic_reached d c None = None
atomic_reached d c (Some a) =
    let va = register c.regs a.rs1 in if va % 4 == 0 then placed_reached c a (page_for d c va) else None

-- a word, which may be an instruction
abbrev pub word_reached : Control → Context → ℕ → Option Instr → Option Reached
word_reached d c word None = atomic_reached d c (atomic_instruction word)
word_reached d c word (Some i) = None

-- the word at the program counter
abbrev pub fetched_reached : List Move → Control → Context → Option PageId → Option Reached
fetched_reached earlier d c None = None
fetched_reached earlier d c (Some q) =
    let word = latest_value earlier q (c.pc % 4096) 4 in word_reached d c word (instruction word)

-- a step by the context's phase: its instruction and its word were granted
abbrev pub phase_reached : Phase → List Move → Control → Context → List Item → Option Reached
phase_reached Plain earlier d c told = if both_granted told then fetched_reached earlier d c (page_for d c c.pc) else None
phase_reached _ earlier d c told = None

abbrev pub context_reached : Option Context → List Move → Control → List Item → Option Reached
context_reached None earlier d told = None
context_reached (Some c) earlier d told = phase_reached c.phase earlier d c told

abbrev pub program_reached : Option Domain → List Move → ℕ → List Item → Option Reached
program_reached None earlier slot told = None
program_reached (Some d) earlier slot told = context_reached (context_at d.control.contexts slot) earlier d.control told

-- a step of a hart that is inside this context, or in none
abbrev pub step_reached : List Move → List Domain → Option ℕ → List Item → Option Reached
step_reached earlier domains None items = None
step_reached earlier domains (Some ctx) items =
    program_reached (slice_get domains (domain_of ctx)) earlier (slot_of ctx) (inward_half (domain_of ctx) items)

-- Step n of a run, counted from 0.

abbrev pub reached_of_step : Bundle → Beginning → Run → ℕ → Option Reached
reached_of_step b from r n =
    step_reached (history_until b from n r) (joint_until n r).domains (context_of_step b r n)
    (items_of_turn (slice_get r.turns n))

abbrev pub moves_of_step : Bundle → Beginning → Run → ℕ → List Move
moves_of_step b from r n =
    step_moves (history_until b from n r) (joint_until n r).domains (context_of_step b r n)
    (items_of_turn (slice_get r.turns n))

-- with the ends of domains in it
abbrev pub all_moves_of_step : Bundle → Beginning → Run → ℕ → List Move
all_moves_of_step b from r n = moves_of_step b from r n ++ end_moves (items_of_turn (slice_get r.turns n))

-- the word that LR reserves

abbrev pub reserved_with : AtomicOp → PageWord → Option PageWord
reserved_with Lr place = Some place
reserved_with _ place = None

abbrev pub reserved_by : Option Reached → Option PageWord
reserved_by None = None
reserved_by (Some it) = reserved_with it.op it.place

-- the word that SC stores: the one that its context has reserved

abbrev pub stored_with : AtomicOp → PageWord → Option PageWord → Option PageWord
stored_with Sc place mark = if is_reserved place mark then Some place else None
stored_with _ place mark = None

abbrev pub stored_by : Option Reached → Option PageWord
stored_by None = None
stored_by (Some it) = stored_with it.op it.place it.mark

-- the page of a domain in which a word lies
abbrev pub page_of : ℕ → PageWord → PageId
page_of d word = record { domain = d; resource = word.resource; page = word.page }

-- none of these moves writes a byte of this word of a domain: its page is not made, copied over or dropped, and no store,
-- operation or SC reaches the word
abbrev pub NoneWrites : ℕ → PageWord → List Move → Type 0
NoneWrites d word moves = list_any (writes_in (page_of d word) word.at) moves ≡ false

-- The context reserved the word with LR, in a step before step n, and from then on to step n no step wrote a byte of it,
-- nor did the end of a domain.
pub record WasReservedInside (b : Bundle) (from : Beginning) (r : Run) (n ctx : ℕ) (word : PageWord) : Type 0 where
  pub step : ℕ
  pub before : suc step ≤ n
  pub own : context_of_step b r step ≡ Some ctx
  pub reserved : reserved_by (reached_of_step b from r step) ≡ Some word
  pub unwritten : (k : ℕ) → suc step ≤ k → suc k ≤ n → NoneWrites (domain_of ctx) word (all_moves_of_step b from r k)

-- How an SC ends that reached its word, by context c, of which this is there after it: it writes 0 to its register, and
-- then it stored the word, which was not written since its LR; or it writes 1, and then it did nothing to pages.
pub data ConditionalEnds (b : Bundle) (from : Beginning) (r : Run) (n ctx : ℕ) (c : Context) (it : Reached)
    (after : Context) : Type 0 where
  Succeeds : after.regs ≡ with_register c.regs it.rd 0 → WasReservedInside b from r n ctx it.place →
      moves_of_step b from r n ≡ Stores (page_of (domain_of ctx) it.place) it.place.at 4 it.operand ∷ [] →
      ConditionalEnds b from r n ctx c it after
  Fails : after.regs ≡ with_register c.regs it.rd 1 → moves_of_step b from r n ≡ [] →
      ConditionalEnds b from r n ctx c it after

-- An SC ends so, and its register, if this is not x0, says how: if it has 0, the word was not written since its LR, and
-- if it has 1, nothing was done to pages.
pub record ConditionalTells (b : Bundle) (from : Beginning) (r : Run) (n ctx : ℕ) (c : Context) (it : Reached)
    (after : Context) : Type 0 where
  pub ends : ConditionalEnds b from r n ctx c it after
  pub zero : it.rd ≢ 0 → register after.regs it.rd ≡ 0 → WasReservedInside b from r n ctx it.place
  pub one : it.rd ≢ 0 → register after.regs it.rd ≡ 1 → moves_of_step b from r n ≡ []

-- What a run keeps to.

-- each reservation that a context has, at each moment, was made so and kept
abbrev pub KeepsContextReservations : Bundle → Beginning → Run → Type 0
KeepsContextReservations b from r =
    (n : ℕ) → n ≤ length r.turns → (d slot : ℕ) (program : Domain) (c : Context) (word : PageWord) →
    slice_get (joint_until n r).domains d ≡ Some program → context_at program.control.contexts slot ≡ Some c →
    c.mark ≡ Some word → WasReservedInside b from r n (context_number d slot) word

-- each reservation that a context has, at each moment, is of a page of a resource that the context's space may map: so the
-- resource is in use
abbrev pub ReservesUsed : Run → Type 0
ReservesUsed r =
    (n d slot : ℕ) (program : Domain) (c : Context) (word : PageWord) →
    slice_get (joint_until n r).domains d ≡ Some program → context_at program.control.contexts slot ≡ Some c →
    c.mark ≡ Some word → is_some (size_for c.space (resource_at program.control.resources word.resource)) ≡ true

-- SC stores only so
abbrev pub StoresOnlyReservedInside : Bundle → Beginning → Run → Type 0
StoresOnlyReservedInside b from r =
    (n ctx : ℕ) (word : PageWord) → suc n ≤ length r.turns → context_of_step b r n ≡ Some ctx →
    stored_by (reached_of_step b from r n) ≡ Some word → WasReservedInside b from r n ctx word

-- and each SC that reached its word ends so
abbrev pub EndsConditionals : Bundle → Beginning → Run → Type 0
EndsConditionals b from r =
    (n : ℕ) (t : Turn) → slice_get r.turns n ≡ Some t → (s : StepsInside (moment_at b r n)) (it : Reached)
    (after : Context) → reached_of_step b from r n ≡ Some it → it.op ≡ Sc →
    context_running t.joint s.ctx ≡ Some after → ConditionalTells b from r n s.ctx s.context it after

-- The laws: every run of an image in the grammar does, from whatever beginning.

abbrev pub ContextsKeepReservations : Type 0
ContextsKeepReservations =
    (b : Bundle) (from : Beginning) (budget : ℕ) (r : Run) → IsInGrammar b → IsBeginning b from →
    run_from b from budget ≡ Ok r → KeepsContextReservations b from r

abbrev pub ContextsReserveUsed : Type 0
ContextsReserveUsed =
    (b : Bundle) (from : Beginning) (budget : ℕ) (r : Run) → IsInGrammar b → run_from b from budget ≡ Ok r →
    ReservesUsed r

abbrev pub ContextsStoreReserved : Type 0
ContextsStoreReserved =
    (b : Bundle) (from : Beginning) (budget : ℕ) (r : Run) → IsInGrammar b → IsBeginning b from →
    run_from b from budget ≡ Ok r → StoresOnlyReservedInside b from r

abbrev pub ConditionalsEnd : Type 0
ConditionalsEnd =
    (b : Bundle) (from : Beginning) (budget : ℕ) (r : Run) → IsInGrammar b → IsBeginning b from →
    run_from b from budget ≡ Ok r → EndsConditionals b from r
