-- What an instruction of a context does to the pages of its program.
use Rattle.std.proofs.Common.{◌≡◌, ◌∙◌, ℕ, ◌%◌, Bool, true, false, cond, List, [], ◌∷◌, ◌++◌, Option, Some, None, refl, sym, ap, subst, append-nil}
use Rattle.std.specs.Prelude.{◌==◌}
use Rattle.cloak_base.specs.Pages.{with_page}
use Rattle.cloak_base.specs.Registers.{register}
use Rattle.cloak_base.specs.declared.names.Kind.TheVariants.{Fetch, Load, Store}
use Rattle.cloak_base.specs.declared.names.PageId.{PageId}
use Rattle.rv_isa.specs.declared.instr.Instr.{Instr}
use Rattle.rv_isa.specs.declared.instr.Instr.TheVariants as instr
use Rattle.rv_isa.specs.Table.{instruction}
use Rattle.rv_atomic.specs.Combine.{combined}
use Rattle.rv_atomic.specs.Table.{atomic_instruction}
use Rattle.rv_atomic.specs.declared.atomic.Atomic.{Atomic}
use Rattle.rv_atomic.specs.declared.atomic.AtomicOp.{AtomicOp}
use Rattle.rv_atomic.specs.declared.atomic.AtomicOp.TheVariants.{Lr, Sc}
use Rattle.cloak_model.specs.declared.answer.Answer.{Answer}
use Rattle.cloak_model.specs.declared.answer.Answer.TheVariants as told
use Rattle.cloak_model.specs.Items.{Item}
use Rattle.cloak_model.specs.Items as item
use Rattle.cloak_model.specs.declared.outcome.Effect.{Effect}
use Rattle.cloak_model.specs.declared.outcome.Effect.TheVariants as does
use Rattle.cloak_model.specs.Asking.{then_ask}
use Rattle.cloak_model.specs.AskPages.{answer_item, ask_read, ask_write}
use Rattle.cloak_model.specs.Contexts.{Context, set_word, moved_on, word_of_page}
use Rattle.cloak_model.specs.DomainState.{Domain}
use Rattle.cloak_model.specs.DomainStep.{instruction_ended}
use Rattle.cloak_model.specs.Effect.{effect}
use Rattle.cloak_model.specs.Hypercalls.{hypercall_of}
use Rattle.cloak_model.specs.InsideStep.{AfterInstruction, made_writing, ends_as, goes_on, if_reached, if_got, load_inside, store_inside, atomic_granted, atomic_placed, traps, atomic_inside, system_inside, done_inside, decoded_inside, fetch, instruction_inside}
use Rattle.cloak_model.specs.declared.inside.Ran.TheVariants as ran
use Rattle.cloak_model.proofs.InsideParts.{conditional_inside, executed_inside, fetched_inside}
use Rattle.cloak_model.specs.KernelStep.{extended, atomic_kind, misaligned}
use Rattle.cloak_model.specs.Memory.{value_in, with_value_in}
use Rattle.cloak_model.specs.Resources.{page_at}
use Rattle.cloak_model.specs.World.{World, plain_of}
use Rattle.cloak_model.specs.Script.{Question, Reach, Get, Put, Write, Script, Gives, Asks, Reads, Changes, asked, played}
use Rattle.cloak_model.proofs.Playing.{by_ecall}
use Rattle.latest_store.specs.Moves.{Move, Stores, Loads, latest_value}
use Rattle.latest_store.specs.Deeds.{load_at, store_at, atomic_at, ecall_moves, effect_moves, atomic_moves, word_moves, fetched_moves}
use Rattle.latest_store.proofs.Values.{read_value}
use Rattle.latest_store.proofs.Moved.{Agrees}
use Rattle.latest_store.proofs.Numbers.{MapsHeld, HeldPlace, held_page, follows_same}
use Rattle.latest_store.proofs.Fits.{fits_load, fits_store, fits_combine}
use Rattle.latest_store.proofs.Heard.{Heard, heard_asked, Did, quiet, rewritten, if_fetched, if_granted}
use Rattle.latest_store.proofs.HypercallDeeds.{hypercall_did}

-- the answers so far
abbrev pub first_answer : ℕ → Answer → List Item
first_answer n a = answer_item n a ∷ []

abbrev pub second_answer : ℕ → Answer → List Item
second_answer n a = item.Ok n ∷ answer_item n a ∷ []

module _ (slot : ℕ) (d : Domain) (plain : PageId → List ℕ) (c : Context) where
  -- an instruction, and then its end, does these moves, if the first question was granted
  abbrev pub Does : (List Item → List Move) → Script AfterInstruction → World → Type 0
  Does moves s w =
      Did plain d (if_fetched moves)
      (then_ask (played s) (λ made. played (instruction_ended slot d made.context made.ending)) w)

  -- it was fetched
  abbrev Fetched : World → Type 0
  Fetched w = Heard d.control.number plain (item.Ok d.control.number ∷ []) w

  -- and its own question was answered
  abbrev Answered : Answer → World → Type 0
  Answered a w = Heard d.control.number plain (second_answer d.control.number a) w

  abbrev Held : Option PageId → Type 0
  Held place = MapsHeld d.control.resources → HeldPlace d.control.resources place

  reached_did : (moves : List Move) (va : ℕ) (next : Script AfterInstruction) (a : Answer) (w : World) →
      Answered a w → (Answered told.Ok w → Does (if_granted moves) next w) →
      Does (if_granted moves) (if_reached c va a next) w
  unfolding instruction_ended
  reached_did moves va next told.Ok w heard granted = granted heard
  reached_did moves va next _ w heard granted = quiet _ _ _ _ _ w heard refl refl (follows_same _)

  -- a question, and then the rest, if it is granted
  asks_did : (question : Question) (moves : List Move) (va : ℕ) (next : Script AfterInstruction) (w : World) →
      Fetched w → ((v : World) → Answered told.Ok v → Does (if_granted moves) next v) →
      Does (if_granted moves) (Asks question (λ a. if_reached c va a next)) w
  asks_did question moves va next w heard granted =
      let t = asked question w in
      reached_did moves va next t.answer t.world
      (heard_asked d.control.number plain (item.Ok d.control.number ∷ []) question w heard) (granted t.world)

  -- a value of a page is loaded
  loaded_did : (q : PageId) (va width : ℕ) (after : ℕ → Context) (w : World) → Answered told.Ok w →
      Does (if_granted (Loads q va width ∷ []))
      (Reads q (va % 4096) width (λ value. ends_as (after value) (ran.Loaded va value))) w
  unfolding ask_read instruction_ended
  loaded_did q va width after w heard = record {
    answers = second_answer d.control.number told.Ok;
    form = heard.form;
    told = heard.told;
    pages = heard.pages;
    loads = ap (λ (p : PageId → List ℕ). d.loads ++ (va, value_in (p q) (va % 4096) width) ∷ []) heard.pages;
    fits = fits_load d.control.number d.control.resources q va width;
  }

  -- a value is stored in a page
  stored_did : (q : PageId) (va width value : ℕ) (after : Context) (w : World) → Held (Some q) → Answered told.Ok w →
      Does (if_granted (Stores q (va % 4096) width value ∷ []))
      (Changes (Write q (va % 4096) width value) (Gives (made_writing after ran.Stay (word_of_page q va)))) w
  unfolding ask_write instruction_ended
  stored_did q va width value after w held heard =
      rewritten plain d _ _ _ q.domain (λ p. with_page p q (with_value_in (p q) (va % 4096) width value)) w heard refl
      (sym (append-nil d.loads)) (fits_store d.control.number d.control.resources q (va % 4096) width value held)

  load_got_did : (va : ℕ) (after : ℕ → Context) (a : Answer) (w : World) → Answered a w →
      Does (if_granted []) (if_got c va a (λ value. goes_on (after value))) w
  unfolding instruction_ended
  load_got_did va after told.Ok w heard = quiet _ _ _ _ _ w heard refl refl (follows_same _)
  load_got_did va after told.Stopped w heard = quiet _ _ _ _ _ w heard refl refl (follows_same _)
  load_got_did va after _ w heard = quiet _ _ _ _ _ w heard refl refl (follows_same _)

  load_did : (rd va width : ℕ) (signed : Bool) (place : Option PageId) (w : World) → Fetched w →
      Does (if_granted (load_at va width place)) (load_inside c rd va width signed place) w
  unfolding load_inside
  load_did rd va width signed None w heard =
      load_got_did va (λ value. set_word c rd (extended signed width value)) _ _
      (heard_asked d.control.number plain (item.Ok d.control.number ∷ []) (Get va width) w heard)
  load_did rd va width signed (Some q) w heard =
      asks_did (Reach q va Load) (Loads q va width ∷ []) va _ w heard
      (loaded_did q va width (λ value. moved_on (set_word c rd (extended signed width value))))

  store_did : (va width value : ℕ) (place : Option PageId) (w : World) → Held place → Fetched w →
      Does (if_granted (store_at va width value place)) (store_inside c va width value place) w
  unfolding store_inside instruction_ended
  store_did va width value None w held heard =
      asks_did (Put va width value) [] va (goes_on c) w heard
      (λ v heard'. quiet _ _ _ _ _ v heard' refl refl (follows_same _))
  store_did va width value (Some q) w held heard =
      asks_did (Reach q va Store) (Stores q (va % 4096) width value ∷ []) va _ w heard
      (λ v heard'. stored_did q va width value (moved_on c) v held heard')

  system_did : (i : Instr) (w : World) → Fetched w → Does (ecall_moves d.control c i) (system_inside c i) w
  unfolding system_inside ecall_moves instruction_ended
  system_did instr.Ecall w heard =
      by_ecall (Did plain d (if_fetched (ecall_moves d.control c instr.Ecall))) slot d c w
      (hypercall_did (hypercall_of c) slot d plain c w heard)
  system_did instr.Ebreak w heard = quiet _ _ _ _ _ w heard refl refl (follows_same _)
  system_did _ w heard = quiet _ _ _ _ _ w heard refl refl (follows_same _)

  done_did : (i : Instr) (e : Effect) (w : World) → Fetched w →
      Does (effect_moves d.control c i e) (done_inside d.control.number d.control.resources c i e) w
  unfolding done_inside effect_moves instruction_ended
  done_did i (does.Load rd va width signed) w heard =
      load_did rd va width signed (page_at d.control.number d.control.resources c.space va) w heard
  done_did i (does.Store va width value) w heard =
      store_did va width value (page_at d.control.number d.control.resources c.space va) w
      (held_page d.control.number d.control.resources c.space va) heard
  done_did i does.System w heard = system_did i w heard
  done_did i _ w heard = quiet _ _ _ _ _ w heard refl refl (follows_same _)

  -- Atomic instructions.

  conditional_did : (reserved : Bool) (rd : ℕ) (q : PageId) (va operand : ℕ) (w : World) → Held (Some q) →
      Answered told.Ok w →
      Does (if_granted (cond reserved (Stores q (va % 4096) 4 operand ∷ []) []))
      (conditional_inside reserved c rd q va operand) w
  unfolding instruction_ended
  conditional_did true rd q va operand w held heard =
      stored_did q va 4 operand (moved_on (record (set_word c rd 0) { mark = None })) w held heard
  conditional_did false rd q va operand w held heard = quiet _ _ _ _ _ w heard refl refl (follows_same _)

  granted_did : (rd : ℕ) (op : AtomicOp) (q : PageId) (va operand : ℕ) (w : World) → Held (Some q) →
      Answered told.Ok w →
      Does (if_granted (atomic_at c op va operand (Some q))) (atomic_granted c rd op q va operand) w
  unfolding atomic_granted ask_read ask_write instruction_ended
  granted_did rd Lr q va operand w held heard =
      loaded_did q va 4 (λ old. moved_on (record (set_word c rd old) { mark = Some (word_of_page q va) })) w heard
  granted_did rd Sc q va operand w held heard = conditional_did _ rd q va operand w held heard
  granted_did rd op q va operand w held heard =
      rewritten plain d _ _ _ q.domain
      (λ p. with_page p q (with_value_in (p q) (va % 4096) 4 (combined op (value_in (p q) (va % 4096) 4) operand))) w
      heard refl
      (ap (λ (p : PageId → List ℕ). d.loads ++ (va, value_in (p q) (va % 4096) 4) ∷ []) heard.pages)
      (fits_combine d.control.number d.control.resources q va (va % 4096) op operand held)

  placed_did : (rd : ℕ) (op : AtomicOp) (va operand : ℕ) (place : Option PageId) (w : World) → Held place → Fetched w →
      Does (if_granted (atomic_at c op va operand place)) (atomic_placed c rd op va operand place) w
  unfolding atomic_placed instruction_ended
  placed_did rd op va operand None w held heard = quiet _ _ _ _ _ w heard refl refl (follows_same _)
  placed_did rd op va operand (Some q) w held heard =
      asks_did (Reach q va (atomic_kind op)) (atomic_at c op va operand (Some q)) va _ w heard
      (λ v heard'. granted_did rd op q va operand v held heard')

  aligned_did : (aligned : Bool) (a : Atomic) (va : ℕ) (w : World) → Fetched w →
      let operand = register c.regs a.rs2 in
      let place = page_at d.control.number d.control.resources c.space va in
      Does (λ answers. cond aligned (if_granted (atomic_at c a.op va operand place) answers) [])
      (cond aligned (atomic_placed c a.rd a.op va operand place) (traps c (misaligned a.op) va)) w
  unfolding instruction_ended
  aligned_did true a va w heard =
      placed_did a.rd a.op va (register c.regs a.rs2) (page_at d.control.number d.control.resources c.space va) w
      (held_page d.control.number d.control.resources c.space va) heard
  aligned_did false a va w heard = quiet _ _ _ _ _ w heard refl refl (follows_same _)

  atomic_did : (a : Option Atomic) (w : World) → Fetched w →
      Does (atomic_moves d.control c a) (atomic_inside d.control.number d.control.resources c a) w
  unfolding atomic_inside atomic_moves instruction_ended
  atomic_did None w heard = quiet _ _ _ _ _ w heard refl refl (follows_same _)
  atomic_did (Some a) w heard = let va = register c.regs a.rs1 in aligned_did (va % 4 == 0) a va w heard

  -- Every word.

  decoded_did : (word : ℕ) (i : Option Instr) (w : World) → Fetched w →
      Does (word_moves d.control c word i) (decoded_inside d.control.number d.control.resources c word i) w
  unfolding decoded_inside word_moves
  decoded_did word None w heard = atomic_did (atomic_instruction word) w heard
  decoded_did word (Some i) w heard = done_did i (effect i c.regs c.pc) w heard

  fetched_did : (history : List Move) (q : PageId) (a : Answer) (w : World) → Agrees history plain →
      Heard d.control.number plain (first_answer d.control.number a) w →
      Does (fetched_moves history d.control c (Some q))
      (fetched_inside d.control.number d.control.resources c q a) w
  unfolding fetched_moves ask_read instruction_ended
  fetched_did history q told.Ok w agrees heard =
      let word : ℕ = value_in (plain_of w q) (c.pc % 4096) 4 in
      let same : word ≡ latest_value history q (c.pc % 4096) 4 =
      ap (λ (p : PageId → List ℕ). value_in (p q) (c.pc % 4096) 4) heard.pages
      ∙ read_value history q (plain q) (c.pc % 4096) 4 (agrees q) in
      subst (λ (x : ℕ). Does (word_moves d.control c x (instruction x))
      (executed_inside d.control.number d.control.resources c word) w) same
      (decoded_did word (instruction word) w heard)
  fetched_did history q _ w agrees heard = quiet _ _ _ _ _ w heard refl refl (follows_same _)

  fetch_did : (history : List Move) (place : Option PageId) (w : World) → Agrees history plain →
      Heard d.control.number plain [] w →
      Does (fetched_moves history d.control c place) (fetch d.control.number d.control.resources c place) w
  unfolding fetch instruction_ended
  fetch_did history None w agrees heard = quiet _ _ _ _ _ w heard refl refl (follows_same _)
  fetch_did history (Some q) w agrees heard =
      fetched_did history q _ _ agrees (heard_asked d.control.number plain [] (Reach q c.pc Fetch) w heard)

  pub instruction_did : (history : List Move) (w : World) → Agrees history plain →
      Heard d.control.number plain [] w →
      Does (fetched_moves history d.control c (page_at d.control.number d.control.resources c.space c.pc))
      (instruction_inside d.control.number d.control.resources c) w
  unfolding instruction_inside
  instruction_did history w agrees heard =
      fetch_did history (page_at d.control.number d.control.resources c.space c.pc) w agrees heard
