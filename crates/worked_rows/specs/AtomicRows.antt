-- Rows of atomic instructions: their words, what operations store, and reservations of harts and of contexts.
use Rattle.std.specs.Prelude.{◌≡◌, ℕ, List, [], ◌∷◌, ◌++◌, map, replicate, slice_index_or, Option, Some, None}
use Rattle.rv_atomic.specs.Table.{atomic_instruction}
use Rattle.rv_atomic.specs.Combine.{combined}
use Rattle.rv_atomic.specs.declared.atomic.AtomicOp.TheVariants as op
use Rattle.cloak_base.specs.Pages.{zero_page, with_page}
use Rattle.cloak_base.specs.Registers.{register}
use Rattle.cloak_model.specs.declared.answer.Answer.{Answer}
use Rattle.cloak_model.specs.declared.answer.Answer.TheVariants as told
use Rattle.cloak_base.specs.declared.names.PageId.{PageId}
use Rattle.cloak_model.specs.declared.context.PageWord.{PageWord}
use Rattle.cloak_model.specs.declared.context.Phase.TheVariants as phase
use Rattle.cloak_model.specs.Items as item
use Rattle.cloak_model.specs.Chain.{cbc}
use Rattle.cloak_model.specs.Memory.{value_at, value_in}
use Rattle.cloak_model.specs.Hart.{Hart}
use Rattle.cloak_model.specs.World.{World, Flat, ram_of, items_of, marks_of, plain_of}
use Rattle.cloak_model.specs.Asking.{Told}
use Rattle.cloak_model.specs.HostCalls.{SteppedKernel}
use Rattle.cloak_model.specs.KernelStep.{kernel_step}
use Rattle.cloak_model.specs.Contexts.{Context}
use Rattle.cloak_model.specs.DomainState.{Domain, started_domain}
use Rattle.cloak_model.specs.DomainStep.{domain_step}
use Rattle.cloak_model.specs.Parts.{Joint}
use Rattle.cloak_model.specs.Run.{turns_from, joint_after}
use Rattle.worked_rows.specs.Images.{page_with, program_start}
use Rattle.worked_rows.specs.Runs.{ProgramRun, run, run_after, alone, one_page, AllUsed, running, registers_from, call_registers, with_first, with_child, resumed_first, context_in_slot, small}
use Rattle.worked_rows.specs.JointRuns.{key, draw_1, csrs_of, outside_hart, inside_hart}
use Rattle.worked_rows.specs.DomainRows.{page, shown_trap, stays_then}
use Rattle.worked_rows.specs.MemoryRows.{memory, world_of}

-- Words.

-- The words of AMOADD x7, x6, (x5), of LR x7, (x5), and of SC x8, x6, (x5). LR with another second operand than x0 is
-- no instruction.
pub record TableWords : Type 0 where
  pub add : atomic_instruction 0x0062A3AF ≡ Some (record { op = op.Add; rd = 7; rs1 = 5; rs2 = 6; order = 0 })
  pub reserve : atomic_instruction 0x1002A3AF ≡ Some (record { op = op.Lr; rd = 7; rs1 = 5; rs2 = 0; order = 0 })
  pub conditional : atomic_instruction 0x1862A42F ≡ Some (record { op = op.Sc; rd = 8; rs1 = 5; rs2 = 6; order = 0 })
  pub none : atomic_instruction 0x1062A3AF ≡ None

-- What is stored over 0x80000000, the least signed word, when the operand is 1.
pub record Operations : Type 0 where
  pub add : combined op.Add 0x80000000 1 ≡ 0x80000001
  pub xor : combined op.Xor 0x80000000 1 ≡ 0x80000001
  pub or : combined op.Or 0x80000000 1 ≡ 0x80000001
  pub and : combined op.And 0x80000000 1 ≡ 0
  pub swap : combined op.Swap 0x80000000 1 ≡ 1
  pub min : combined op.Min 0x80000000 1 ≡ 0x80000000
  pub max : combined op.Max 0x80000000 1 ≡ 1
  pub minu : combined op.Minu 0x80000000 1 ≡ 1
  pub maxu : combined op.Maxu 0x80000000 1 ≡ 0x80000000

-- Reservations of harts.

-- what both harts run; the word at 0x80000800 is 0
abbrev pub outside_words : List ℕ
outside_words =
    0x1002A3AF ∷  -- lr.w x7, (x5)
    0x1862A42F ∷  -- sc.w x8, x6, (x5)
    0x0002A023 ∷  -- sw x0, 0(x5)
    0x000281A3 ∷  -- sb x0, 3(x5)
    0x0002A223 ∷  -- sw x0, 4(x5)
    0x00000000 ∷  -- no instruction
    []

-- one frame, and two harts with no reservation
abbrev pub two_harts : World
two_harts = Flat (record { ram = page_with outside_words ∷ []; marks = None ∷ None ∷ [] })

-- x5 has the address of a word, and x6 a 9
abbrev pub word_registers : ℕ → List ℕ
word_registers address = registers_from 5 (address ∷ 9 ∷ []) (replicate 32 0)

-- a hart of this number at this address
abbrev pub hart_at : ℕ → ℕ → Hart
hart_at number pc = record (outside_hart pc (word_registers 0x80000800) (csrs_of 0 0 0 0)) { id = number }

abbrev pub made_at : ℕ → ℕ → World → Told SteppedKernel
made_at number pc w = kernel_step (hart_at number pc) [] w

-- hart 0 makes LR
abbrev pub hart_reserved : Told SteppedKernel
hart_reserved = made_at 0 0x80000000 two_harts

-- hart 0 makes SC then, after a step at another address by this hart, and at once
abbrev pub conditional_after : ℕ → ℕ → Told SteppedKernel
conditional_after number pc = made_at 0 0x80000004 (made_at number pc hart_reserved.world).world

abbrev pub conditional_at_once : Told SteppedKernel
conditional_at_once = made_at 0 0x80000004 hart_reserved.world

-- what SC gives, the word that then stands, and the reservations
abbrev pub told_of : Told SteppedKernel → ℕ × (ℕ × List (Option ℕ))
told_of t = (register t.answer.hart.regs 8, (value_at (ram_of t.world) 0x80000800 4, marks_of t.world))

abbrev pub unreserved : List (Option ℕ)
unreserved = None ∷ None ∷ []

-- hart 0 makes SC at the next word
abbrev pub conditional_at_next : Told SteppedKernel
conditional_at_next =
    kernel_step (record (hart_at 0 0x80000004) { regs = word_registers 0x80000804 }) [] hart_reserved.world

-- Hart 0 reserves the word. After a store by hart 1 of the 0 that stands there, its SC gives 1, and the word stays; so
-- it does after a store of one byte of the word, after a trap of its own, at another word, and when nothing was
-- reserved. At once, after a store of the next word, and after a trap of hart 1, SC gives 0 and stores. It ends the
-- reservation either way.
pub record HartReserves : Type 0 where
  pub loaded : register hart_reserved.answer.hart.regs 7 ≡ 0
  pub reserved : marks_of hart_reserved.world ≡ Some 0x80000800 ∷ None ∷ []
  pub behind_store : told_of (conditional_after 1 0x80000008) ≡ (1, (0, unreserved))
  pub behind_byte : told_of (conditional_after 1 0x8000000C) ≡ (1, (0, unreserved))
  pub behind_trap : told_of (conditional_after 0 0x80000014) ≡ (1, (0, unreserved))
  pub at_next_word : told_of conditional_at_next ≡ (1, (0, unreserved))
  pub nothing_reserved : told_of (made_at 0 0x80000004 two_harts) ≡ (1, (0, unreserved))
  pub at_once : told_of conditional_at_once ≡ (0, (9, unreserved))
  pub behind_next_word : told_of (conditional_after 1 0x80000010) ≡ (0, (9, unreserved))
  pub behind_other_trap : told_of (conditional_after 1 0x80000014) ≡ (0, (9, unreserved))
  pub again : told_of (made_at 0 0x80000004 conditional_at_once.world) ≡ (1, (9, unreserved))

-- Cloaked pages in frames that a hart reserves.

-- hart 0 has reserved a word of frame 8, which is owed a page of 7s or nothing
abbrev pub reserved_frame : Option PageId → World
reserved_frame owed =
    world_of 0
    (record (memory (page_with outside_words ∷ replicate 63 zero_page) (λ q. replicate 4096 7) (λ q. None)
    (replicate 8 None ++ owed ∷ replicate 55 None)) { marks = Some 0x80008800 ∷ [] })

-- it makes SC there
abbrev pub conditional_in : Option PageId → Told SteppedKernel
conditional_in owed =
    kernel_step (record (hart_at 0 0x80000004) { regs = word_registers 0x80008800 }) [] (reserved_frame owed)

-- the page as the kernel is shown it
abbrev pub sevens_cipher : List ℕ
sevens_cipher = cbc key draw_1 (replicate 4096 7)

-- SC reads its word before it looks at the reservation. If the frame is owed a page, the read settles it, which writes
-- it: SC gives 1, and the frame has the ciphertext. If it is not, SC gives 0.
pub record SettledFrame : Type 0 where
  pub settled : register (conditional_in (Some (page 0 0))).answer.hart.regs 8 ≡ 1
  pub items : items_of (conditional_in (Some (page 0 0))).world ≡ item.Cipher 8 sevens_cipher ∷ []
  pub frame : slice_index_or (ram_of (conditional_in (Some (page 0 0))).world) 8 [] ≡ sevens_cipher
  pub marks : marks_of (conditional_in (Some (page 0 0))).world ≡ None ∷ []
  pub not_owed : register (conditional_in None).answer.hart.regs 8 ≡ 0
  pub stored : value_at (ram_of (conditional_in None).world) 0x80008800 4 ≡ 9

-- Reservations of contexts.

-- what both contexts run, from 0x00400000 on; the word at 0x00400800 is 0
abbrev pub inside_words : List ℕ
inside_words =
    0x1002A3AF ∷  -- lr.w x7, (x5)
    0x1862A42F ∷  -- sc.w x8, x6, (x5)
    0x0002A023 ∷  -- sw x0, 0(x5)
    0x0062A3AF ∷  -- amoadd.w x7, x6, (x5)
    0x1002A02F ∷  -- lr.w x0, (x5)
    0x0062A02F ∷  -- amoadd.w x0, x6, (x5)
    []

-- a context at this address, with this in x5
abbrev pub context_at_word : ℕ → ℕ → Context
context_at_word pc address = running pc (word_registers address)

-- context 0 on hart 0, and context 1 on hart 1
abbrev pub two_contexts : ℕ → ℕ → Domain
two_contexts first second =
    with_child (record (context_at_word second 0x00400800) { on = Some (record { 0 = 1 }) })
    (with_first (context_at_word first 0x00400800) (started_domain 0 (small 1)))

-- its pages, and these answers to its questions; or n of them, all granted
abbrev pub with_answers : List Answer → World
with_answers answers = alone (one_page 0 0 (page_with inside_words)) answers

abbrev pub granted_all : ℕ → World
granted_all n = with_answers (replicate n told.Ok)

-- a step of the context of each of these slots, one after another
unfoldable pub steps_of : List ℕ → ProgramRun → ProgramRun
steps_of [] r = r
steps_of (slot ∷ slots) r = steps_of slots (run_after r.wents (domain_step slot r.domain r.world))

abbrev pub stepped : List ℕ → Domain → World → ProgramRun
stepped slots d w = steps_of slots (record { domain = d; world = w; wents = [] })

-- the word at 0x00400800
abbrev pub shared_place : PageWord
shared_place = record { resource = 0; page = 0; at = 0x800 }

abbrev pub shared_word : World → ℕ
shared_word w = value_in (plain_of w (page 0 0)) 0x800 4

-- what context 0 has reserved
abbrev pub reserved_by_first : Domain → Option PageWord
reserved_by_first d = (context_in_slot 0 d).mark

-- what SC of context 0 gave, the word that then stands, and what it has reserved
abbrev pub conditional_gave : ProgramRun → ℕ × (ℕ × Option PageWord)
conditional_gave r = (register (context_in_slot 0 r.domain).regs 8, (shared_word r.world, reserved_by_first r.domain))

-- context 0 makes LR, context 1 stores the 0 that stands there, and context 0 makes SC
abbrev pub stored_between : ProgramRun
stored_between = stepped (0 ∷ 1 ∷ 0 ∷ []) (two_contexts 0x00400000 0x00400008) (granted_all 6)

-- the same without the store
abbrev pub nothing_between : ProgramRun
nothing_between = stepped (0 ∷ 0 ∷ []) (two_contexts 0x00400000 0x00400008) (granted_all 4)

-- the same with an AMOADD by context 1
abbrev pub added_between : ProgramRun
added_between = stepped (0 ∷ 1 ∷ 0 ∷ []) (two_contexts 0x00400000 0x0040000C) (granted_all 6)

-- the same when context 1 copies a byte of a READ there, a 0
abbrev pub copied_between : ProgramRun
copied_between = stepped (0 ∷ 1 ∷ 0 ∷ [])
    (with_child (record
    (running 0x00400004 (call_registers 3 (1 ∷ 0x00400803 ∷ 1 ∷ 0x00600000 ∷ []))) {
      phase =
          phase.CopyOut 0 1;
      on = Some (record { 0 = 1 });
    }) (two_contexts 0x00400000 0x00400000))
    (with_answers (told.Ok ∷ told.Ok ∷ told.Word 0 ∷ replicate 3 told.Ok))

-- context 0 has reserved the word, and makes SC at the next one
abbrev pub at_next_between : ProgramRun
at_next_between = stepped (0 ∷ [])
    (with_first (record (context_at_word 0x00400004 0x00400804) { mark = Some shared_place })
    (two_contexts 0x00400000 0x00400000)) (granted_all 2)

-- If context 1 writes the word, by a store of what stood there, by an operation, or by a byte that it copies, the SC of
-- context 0 gives 1 and stores nothing; so does an SC at another word. If it does not write it, SC gives 0 and stores.
-- LR is told of as a load, and SC is not.
pub record ContextReserves : Type 0 where
  pub reserved : reserved_by_first
      (stepped (0 ∷ []) (two_contexts 0x00400000 0x00400008) (granted_all 2)).domain ≡ Some shared_place
  pub behind_store : conditional_gave stored_between ≡ (1, (0, None))
  pub at_once : conditional_gave nothing_between ≡ (0, (9, None))
  pub behind_operation : conditional_gave added_between ≡ (1, (9, None))
  pub behind_copy : conditional_gave copied_between ≡ (1, (0, None))
  pub at_next_word : conditional_gave at_next_between ≡ (1, (0, None))
  pub answers : AllUsed stored_between.world
  pub copy_answers : AllUsed copied_between.world
  pub loads : nothing_between.domain.loads ≡ (0x00400800, 0) ∷ []
  pub all_loads : added_between.domain.loads ≡ (0x00400800, 0) ∷ (0x00400800, 0) ∷ []

-- context 0 makes LR, and the kernel has no page for its next fetch
abbrev pub trapped : ProgramRun
trapped = stepped (0 ∷ 0 ∷ []) (two_contexts 0x00400000 0x00400008)
    (with_answers (told.Ok ∷ told.Ok ∷ told.Absent 12 ∷ []))

-- it is resumed, and makes SC
abbrev pub behind_own_trap : ProgramRun
behind_own_trap = stepped (0 ∷ []) (resumed_first 0 0 trapped.domain) (granted_all 2)

-- instead of its store, context 1 makes a fetch for which the kernel has no page
abbrev pub behind_other_trap : ProgramRun
behind_other_trap = stepped (0 ∷ 1 ∷ 0 ∷ []) (two_contexts 0x00400000 0x00400008)
    (with_answers (told.Ok ∷ told.Ok ∷ told.Absent 12 ∷ told.Ok ∷ told.Ok ∷ []))

-- A trap of its own ends a context's reservation, and that of another does not.
pub record ContextTraps : Type 0 where
  pub wents : trapped.wents ≡ stays_then 1 (shown_trap 12 0x00400000)
  pub left : reserved_by_first trapped.domain ≡ None
  pub own : conditional_gave behind_own_trap ≡ (1, (0, None))
  pub other : conditional_gave behind_other_trap ≡ (0, (9, None))

-- one instruction of context 0 at this address
abbrev pub loads_at : ℕ → List (ℕ × ℕ)
loads_at pc = (stepped (0 ∷ []) (two_contexts pc 0x00400000) (granted_all 2)).domain.loads

-- LR and AMOADD complete a load of the word that stood, also with rd 0. SC completes none, and here stores nothing.
pub record AtomicLoads : Type 0 where
  pub reserve : loads_at 0x00400000 ≡ (0x00400800, 0) ∷ []
  pub conditional : loads_at 0x00400004 ≡ []
  pub add : loads_at 0x0040000C ≡ (0x00400800, 0) ∷ []
  pub reserve_to_zero : loads_at 0x00400010 ≡ (0x00400800, 0) ∷ []
  pub add_to_zero : loads_at 0x00400014 ≡ (0x00400800, 0) ∷ []

-- one instruction of a context alone, with this in x5, whose fetch is granted
abbrev pub faulting : ℕ → ℕ → ProgramRun
faulting pc address =
    run 1 0 (with_first (context_at_word pc address) (started_domain 0 (small 1))) (granted_all 1)

-- it leaves with this cause, about this page, and has asked nothing but its fetch
pub record AtomicLeaves (pc address cause shown : ℕ) : Type 0 where
  pub wents : (faulting pc address).wents ≡ stays_then 0 (shown_trap cause shown)
  pub answers : AllUsed (faulting pc address).world

-- LR, SC and AMOADD at an address that is not cloaked, and at one that is no multiple of 4, which goes first.
pub record AtomicFaults : Type 0 where
  pub reserve : AtomicLeaves 0x00400000 0x00600800 5 0x00600000
  pub conditional : AtomicLeaves 0x00400004 0x00600800 7 0x00600000
  pub add : AtomicLeaves 0x0040000C 0x00600800 7 0x00600000
  pub reserve_misaligned : AtomicLeaves 0x00400000 0x00400802 4 0x00400000
  pub conditional_misaligned : AtomicLeaves 0x00400004 0x00400801 6 0x00400000
  pub add_misaligned : AtomicLeaves 0x0040000C 0x00400803 6 0x00400000
  pub misaligned_first : AtomicLeaves 0x00400000 0x00600802 4 0x00600000

-- A sum.

-- what both contexts run, from 0x80008000 on: x5 has the address of a word, and x6 a 1
abbrev pub adding_words : List ℕ
adding_words =
    0x0062A02F ∷  -- amoadd.w x0, x6, (x5)
    0x0062A02F ∷  -- amoadd.w x0, x6, (x5)
    0x0062A02F ∷  -- amoadd.w x0, x6, (x5)
    0x0002A383 ∷  -- lw x7, 0(x5)
    0x0002A383 ∷  -- lw x7, 0(x5)
    0x0002A383 ∷  -- lw x7, 0(x5)
    0x0002A383 ∷  -- lw x7, 0(x5)
    []

abbrev pub adding_context : ℕ → Context
adding_context hart =
    record (running 0x80008000 (registers_from 5 (0x80008800 ∷ 1 ∷ []) (replicate 32 0))) {
      on = Some (record { 0 = hart });
    }

-- two harts run a context each of one program, and frame 8 is owed its page
abbrev pub adding_machine : Joint
adding_machine = record {
  harts =
      inside_hart 0 (csrs_of 0x80000014 0 0 0)
      ∷ record (inside_hart 1 (csrs_of 0x80000014 0 0 0)) { id = 1 } ∷ [];
  disk = [];
  console = [];
  memory =
      record
      (memory (replicate 64 zero_page) (with_page (λ q. zero_page) (page 0 0) (page_with adding_words)) (λ q. None)
      (replicate 8 None ++ Some (page 0 0) ∷ replicate 55 None)) { marks = None ∷ None ∷ [] };
  domains =
      with_child (adding_context 1) (with_first (adding_context 0) (started_domain 0 program_start)) ∷ [];
  ended = replicate 4 None;
  refused = 0;
}

-- the machine after n steps under a schedule
abbrev pub added_by : List ℕ → ℕ → Joint
added_by schedule n =
    joint_after adding_machine (turns_from n (record { schedule = schedule; steps = 0; joint = adding_machine }))

-- the first program
abbrev pub first_domain : Joint → Domain
first_domain j = slice_index_or j.domains 0 (started_domain 0 program_start)

-- what the context of a slot of the first program has loaded into x7
abbrev pub loaded_by : ℕ → Joint → ℕ
loaded_by slot j = register (context_in_slot slot (first_domain j)).regs 7

-- the loads that the first program has completed at the word, by their values
abbrev pub loads_of : List ℕ → List (ℕ × ℕ)
loads_of values = map (λ value. (0x80008800, value)) values

-- Each context adds 1 three times. If the harts take turns, the step after these six is a load of the first, which
-- finds 6. If the second hart makes two steps for each of the first, it loads a 5 before the first one's last addition,
-- and both load a 6 after it.
pub record AddedSums : Type 0 where
  pub by_turns : loaded_by 0 (added_by (0 ∷ 1 ∷ []) 7) ≡ 6
  pub loads_by_turns : (first_domain (added_by (0 ∷ 1 ∷ []) 7)).loads ≡ loads_of (0 ∷ 1 ∷ 2 ∷ 3 ∷ 4 ∷ 5 ∷ 6 ∷ [])
  pub twice_as_fast : loaded_by 0 (added_by (0 ∷ 1 ∷ 1 ∷ []) 10) ≡ 6
  pub loads_twice_as_fast : (first_domain (added_by (0 ∷ 1 ∷ 1 ∷ []) 10)).loads ≡
      loads_of (0 ∷ 1 ∷ 2 ∷ 3 ∷ 4 ∷ 5 ∷ 5 ∷ 6 ∷ 6 ∷ 6 ∷ [])
