-- Rows of a cloaked program alone: what its steps do when its questions find these answers.
--
-- Of a READ of 4096 bytes the first byte, the one at the end of a page and the last are computed, and not all in a row:
-- that many steps take too long. What is settled and drawn in a fork is among the rows of memory, since a program alone
-- sees none of it.
use Rattle.std.specs.Prelude.{◌≡◌, ℕ, zero, suc, ◌+◌, ◌-◌, List, [], ◌∷◌, ◌++◌, length, replicate, slice_set, Some, None, Ok, Err}
use Rattle.std.specs.List.{concat}
use Rattle.cloak_base.specs.declared.names.PageId.{PageId}
use Rattle.cloak_base.specs.declared.names.SpaceId.{SpaceId}
use Rattle.cloak_base.specs.declared.causes.Shown.{Shown}
use Rattle.cloak_model.specs.declared.answer.Answer.{Answer}
use Rattle.cloak_model.specs.declared.answer.Answer.TheVariants as told
use Rattle.cloak_model.specs.declared.inside.Went.{Went}
use Rattle.cloak_model.specs.declared.inside.Went.TheVariants as went
use Rattle.cloak_model.specs.declared.context.Phase.TheVariants as phase
use Rattle.cloak_model.specs.declared.context.ResumeFault.TheVariants as resume_fault
use Rattle.cloak_model.specs.declared.resource.Owner.TheVariants as owner
use Rattle.cloak_model.specs.Bits.{word}
use Rattle.cloak_base.specs.Pages.{zero_page}
use Rattle.cloak_base.specs.Registers.{register}
use Rattle.cloak_model.specs.Memory.{value_in}
use Rattle.cloak_model.specs.World.{World, plain_of}
use Rattle.cloak_model.specs.Asking.{Told}
use Rattle.cloak_model.specs.AskPages.{ask_write}
use Rattle.cloak_model.specs.Resources.{Resources, lookup}
use Rattle.cloak_model.specs.Contexts.{Context, admit}
use Rattle.cloak_model.specs.DomainState.{Domain, started_domain, state_bytes}
use Rattle.cloak_model.specs.DomainStep.{DomainStepped, domain_step, interrupt}
use Rattle.worked_rows.specs.Images.{program_start, words_page, share_words, page_with}
use Rattle.worked_rows.specs.Runs.{ProgramRun, run, alone, one_page, AllUsed, running, registers, registers_from, call_registers, with_first, with_child, resumed_first, context_in_slot, answer_and_pc, phase_of, small, ecalls, at_ecall, made_hypercall}

-- What a context shows as it leaves.

-- a cause and an address, and nothing of a call
abbrev pub shown_trap : ℕ → ℕ → Shown
shown_trap cause address = record { cause = cause; stval = address; ctx = 0; number = 0; args = replicate 6 0 }

-- a call and its arguments
abbrev pub shown_call : ℕ → List ℕ → Shown
shown_call number arguments = record { cause = 8; stval = 0; ctx = 0; number = number; args = arguments }

-- n steps that go on, and then one that leaves with this
abbrev pub stays_then : ℕ → Shown → List Went
stays_then n s = replicate n went.Stay ++ went.Leave s ∷ []

-- The whole cloaked program.

-- it runs for the first time, on hart 0
abbrev pub program_alone : Domain
program_alone = resumed_first 0 0 (started_domain 0 program_start)

abbrev pub granted : ProgramRun
granted = run 7 0 program_alone (alone (one_page 0 0 words_page) (replicate 9 told.Ok))

-- its state at the end, of which the report gives a digest
abbrev pub whole_state : List ℕ
whole_state = concat (
    (1 ∷ 255 ∷ []) ∷  -- slot 0 has a context, which is on no hart
    (2 ∷ replicate 8 0) ∷  -- it waits for an answer
    word 0 ∷  -- in space 0
    word 0x8000801C ∷  -- after its ecall
    word 0 ∷ word 0x80008100 ∷ replicate 28 0 ∷  -- x1, x2, x3 to x9
    word 7 ∷ word 7 ∷ replicate 16 0 ∷  -- x10, x11, x12 to x15
    word 9 ∷ word 0x4F560008 ∷ replicate 56 0 ∷  -- x16, x17, x18 to x31
    replicate 7 0 ∷  -- seven slots are free
    (1 ∷ word 1) ∷  -- space 0 has one region
    word 0x80008000 ∷ word 1 ∷ word 0 ∷ word 0 ∷  -- from there on one page of resource 0, from its page 0 on
    replicate 7 0 ∷  -- seven spaces are free
    (1 ∷ word 0) ∷ word 1 ∷  -- resource 0 is private to space 0, and has one page
    replicate 15 0 ∷  -- fifteen numbers are free
    [])

-- If all is granted, six steps go on and the seventh leaves with call 9, whose arguments are the 7 that was stored and
-- the 7 that was loaded.
pub record WholeProgram : Type 0 where
  pub wents : granted.wents ≡ stays_then 6 (shown_call 9 (7 ∷ 7 ∷ 0 ∷ 0 ∷ 0 ∷ 0 ∷ []))
  pub answers : AllUsed granted.world
  pub loads : granted.domain.loads ≡ (0x80008100, 7) ∷ []
  pub stored : value_in (plain_of granted.world (record { domain = 0; resource = 0; page = 0 })) 0x100 4 ≡ 7
  pub state : state_bytes granted.domain.control ≡ whole_state
  pub size : length whole_state ≡ 202

abbrev pub faulted : ProgramRun
faulted = run 3 0 program_alone (alone (one_page 0 0 words_page) (replicate 4 told.Ok ++ told.Absent 13 ∷ []))

-- If the second question of the load finds no page, that step leaves with the page's address and the cause of loads.
-- The context is as it was after the two steps before.
pub record LoadFault : Type 0 where
  pub wents : faulted.wents ≡ stays_then 2 (shown_trap 13 0x80008000)
  pub answers : AllUsed faulted.world
  pub context : faulted.domain.control.contexts ≡
      Some (record {
        pc = 0x80008008;
        regs =
            registers_from 2 (0x80008100 ∷ []) (registers_from 10 (7 ∷ []) (replicate 32 0));
        phase = phase.Plain;
        space = 0;
        on = None;
        mark = None;
      }) ∷ replicate 7 None
  pub loads : faulted.domain.loads ≡ []

abbrev pub lost : ProgramRun
lost = run 1 0 (with_first (running 0x00500004 (replicate 32 0)) (started_domain 0 (small 1))) (alone ecalls [])

-- At an address that is not cloaked nothing is fetched, and nothing is asked.
pub record FetchFault : Type 0 where
  pub wents : lost.wents ≡ stays_then 0 (shown_trap 1 0x00500000)
  pub answers : AllUsed lost.world

-- The timer interrupts a context: of its registers and its address nothing is shown.
pub record TimerShows : Type 0 where
  pub went : (interrupt 0
      (with_first (running 0x00400000 (replicate 32 1)) (started_domain 0 (small 1))).control).went ≡
      went.Leave (shown_trap 0x80000005 0)

-- Calls with a buffer.

-- the bytes `abc` at 0x00400100
abbrev pub texts : ℕ → ℕ → List ℕ
texts = one_page 0 0 (0x73 ∷ replicate 255 0 ++ (97 ∷ 98 ∷ 99 ∷ replicate 3837 0))

-- a WRITE of n bytes from 0x00400100 on, with an area at 0x00600000
abbrev pub writer : ℕ → Domain
writer n = with_first (running 0x00400000 (call_registers 1 (0 ∷ 0x00400100 ∷ n ∷ 0x00600000 ∷ [])))
    (started_domain 0 (small 1))

abbrev pub three_written : ProgramRun
three_written = run 5 0 (writer 3) (alone texts (replicate 7 told.Ok))

-- WRITE of three bytes: the ecall's step, one for each byte, and one that leaves. The area stands for the buffer in
-- what is shown, and each byte counts as a load.
pub record WriteThree : Type 0 where
  pub wents : three_written.wents ≡ stays_then 4 (shown_call 1 (0 ∷ 0x00600000 ∷ 3 ∷ 0x00600000 ∷ 0 ∷ 0 ∷ []))
  pub answers : AllUsed three_written.world
  pub loads : three_written.domain.loads ≡ (0x00400100, 97) ∷ (0x00400101, 98) ∷ (0x00400102, 99) ∷ []
  pub phase : phase_of 0 three_written.domain ≡ phase.Waiting

abbrev pub none_written : ProgramRun
none_written = run 2 0 (writer 0) (alone texts (told.Ok ∷ []))

-- WRITE of no byte: the ecall's step, and one that leaves.
pub record WriteNone : Type 0 where
  pub wents : none_written.wents ≡ stays_then 1 (shown_call 1 (0 ∷ 0x00600000 ∷ 0 ∷ 0x00600000 ∷ 0 ∷ 0 ∷ []))
  pub answers : AllUsed none_written.world
  pub loads : none_written.domain.loads ≡ []

-- a READ of n bytes into 0x00402800, with an area at 0x00600000, by a program of four pages
abbrev pub reader : ℕ → Domain
reader n = with_first (running 0x00400000 (call_registers 3 (0 ∷ 0x00402800 ∷ n ∷ 0x00600000 ∷ [])))
    (started_domain 0 (small 4))

abbrev pub long : ProgramRun
long = run 1 0 (reader 4097) (alone ecalls (told.Ok ∷ []))

-- A READ of 4097 bytes is refused, and does not leave.
pub record ReadTooLong : Type 0 where
  pub wents : long.wents ≡ went.Stay ∷ []
  pub answer : answer_and_pc 0 long.domain ≡ (0xFFFFFFFE, 0x00400004)
  pub answers : AllUsed long.world

abbrev pub waits : ProgramRun
waits = run 1 0 (reader 4096) (alone ecalls (told.Ok ∷ []))

abbrev pub read_begun : ProgramRun
read_begun = run 1 0 (resumed_first 0 4096 waits.domain) (alone ecalls (told.Word 5 ∷ told.Ok ∷ []))

-- the same after the first bytes
abbrev pub copying : ℕ → Domain
copying done =
    with_first (record
    (running 0x00400004 (call_registers 3 (4096 ∷ 0x00402800 ∷ 4096 ∷ 0x00600000 ∷ []))) {
      phase =
          phase.CopyOut done 4096;
    }) (started_domain 0 (small 4))

abbrev pub crossing : ProgramRun
crossing = run 2 0 (copying 2047) (alone ecalls (told.Word 9 ∷ told.Ok ∷ told.Word 8 ∷ told.Absent 15 ∷ []))

abbrev pub mended : ProgramRun
mended = run 1 0 (resumed_first 1 77 crossing.domain) (alone ecalls (told.Word 8 ∷ told.Ok ∷ []))

abbrev pub final : ProgramRun
final = run 2 0 (copying 4095) (alone ecalls (told.Word 7 ∷ told.Ok ∷ []))

-- A READ of 4096 bytes leaves at once. Its answer is a count, and bytes are copied one a step, each got from the area
-- and stored in the buffer. If the kernel has no page for the next one, the context leaves and nothing is lost: resumed
-- with any answer it goes on with that byte. When all are there, one more step ends the call, whose answer is the first
-- one.
pub record ReadCrossing : Type 0 where
  pub leaves : waits.wents ≡ stays_then 0 (shown_call 3 (0 ∷ 0x00600000 ∷ 4096 ∷ 0x00600000 ∷ 0 ∷ 0 ∷ []))
  pub begins : phase_of 0 read_begun.domain ≡ phase.CopyOut 1 4096
  pub first : value_in (plain_of read_begun.world (record { domain = 0; resource = 0; page = 2 })) 0x800 1 ≡ 5
  pub wents : crossing.wents ≡ stays_then 1 (shown_trap 15 0x00403000)
  pub stored : value_in (plain_of crossing.world (record { domain = 0; resource = 0; page = 2 })) 0xFFF 1 ≡ 9
  pub done : phase_of 0 crossing.domain ≡ phase.CopyOut 2048 4096
  pub used : AllUsed crossing.world
  pub goes_on : phase_of 0 mended.domain ≡ phase.CopyOut 2049 4096
  pub next : value_in (plain_of mended.world (record { domain = 0; resource = 0; page = 3 })) 0 1 ≡ 8
  pub last : final.wents ≡ went.Stay ∷ went.Stay ∷ []
  pub ended : phase_of 0 final.domain ≡ phase.Plain
  pub answer : answer_and_pc 0 final.domain ≡ (4096, 0x00400004)
  pub loads : final.domain.loads ≡ []

-- a WRITE of three bytes, one of which is done, from a buffer that is mapped no more
abbrev pub copy_cut : ProgramRun
copy_cut = run 1 0
    (with_first (record
    (running 0x00400004 (call_registers 1 (0 ∷ 0x00500000 ∷ 3 ∷ 0x00600000 ∷ []))) { phase = phase.CopyIn 1 })
    (started_domain 0 (small 1))) (alone ecalls [])

abbrev pub behind_copy_cut : ProgramRun
behind_copy_cut = run 1 0 copy_cut.domain (alone ecalls (told.Ok ∷ []))

-- Another context unmaps the buffer in the middle of a copy: the next step asks nothing and refuses the call, and the
-- one after it fetches the instruction after the ecall.
pub record UnmappedBuffer : Type 0 where
  pub wents : copy_cut.wents ≡ went.Stay ∷ []
  pub answers : AllUsed copy_cut.world
  pub answer : answer_and_pc 0 copy_cut.domain ≡ (0xFFFFFFFE, 0x00400004)
  pub phase : phase_of 0 copy_cut.domain ≡ phase.Plain
  pub loads : copy_cut.domain.loads ≡ []
  pub next : AllUsed behind_copy_cut.world

-- Refused hypercalls.

-- A hypercall asks only for its instruction, returns this word, and goes on after its ecall. Nothing else changes.
abbrev pub HypercallRefuses : ℕ → List ℕ → ℕ → Domain → Type 0
HypercallRefuses number arguments word d = made_hypercall number arguments (told.Ok ∷ []) d ≡ record {
  answer = record {
    domain = with_first (running 0x00400004 (slice_set (registers number arguments) 10 word)) d;
    went = went.Stay;
  };
  world = alone ecalls [];
}

-- a program of one page after a hypercall
abbrev pub program_behind : ℕ → List ℕ → Domain → Domain
program_behind number arguments d = (made_hypercall number arguments (told.Ok ∷ []) d).answer.domain

abbrev pub one_page_domain : Domain
one_page_domain = started_domain 0 (small 1)

-- with a resource 1 of 1023 pages
abbrev pub two_resources : Domain
two_resources = program_behind 0x4F560001 (1023 ∷ []) one_page_domain

-- NEW of 0 or of 1025 pages, and of 1024 when the domain has one page already; of 1023 it returns resource 1.
pub record NewRefused : Type 0 where
  pub no_page : HypercallRefuses 0x4F560001 (0 ∷ []) 0xFFFFFFFE one_page_domain
  pub too_many : HypercallRefuses 0x4F560001 (1025 ∷ []) 0xFFFFFFFE one_page_domain
  pub full : HypercallRefuses 0x4F560001 (1024 ∷ []) 0xFFFFFFFF one_page_domain
  pub made : answer_and_pc 0 two_resources ≡ (1, 0x00400004)
  pub held : two_resources.control.resources.held ≡ Some (record { owner = owner.Space 0; pages = 1 }) ∷
      Some (record { owner = owner.Space 0; pages = 1023 }) ∷ replicate 14 None

-- MAP of resource 1 at an address that begins no page, or over the program's region; of a resource 9 that does not
-- exist, which goes before a bad address; in a good place it returns 0.
pub record MapRefused : Type 0 where
  pub unaligned : HypercallRefuses 0x4F560002 (1 ∷ 0x00001001 ∷ 0 ∷ 1 ∷ []) 0xFFFFFFFE two_resources
  pub overlap : HypercallRefuses 0x4F560002 (1 ∷ 0x00400000 ∷ 0 ∷ 1 ∷ []) 0xFFFFFFFD two_resources
  pub unknown : HypercallRefuses 0x4F560002 (9 ∷ 0x00500000 ∷ 0 ∷ 1 ∷ []) 0xFFFFFFFC two_resources
  pub unknown_first : HypercallRefuses 0x4F560002 (9 ∷ 0x00001001 ∷ 0 ∷ 1 ∷ []) 0xFFFFFFFC two_resources
  pub mapped : answer_and_pc 0 (program_behind 0x4F560002 (1 ∷ 0x00500000 ∷ 0 ∷ 1023 ∷ []) two_resources) ≡ (0, 0x00400004)

-- UNMAP where no region starts; a number that is no hypercall, and that of resuming.
pub record OthersRefused : Type 0 where
  pub unmap : HypercallRefuses 0x4F560003 (0x00005000 ∷ []) 0xFFFFFFFC two_resources
  pub unknown : HypercallRefuses 0x4F560009 [] 0xFFFFFFFB two_resources
  pub resuming : HypercallRefuses 0x4F560000 [] 0xFFFFFFFB two_resources

-- Files and contexts.

-- with file 4 of one page
abbrev pub filed : Domain
filed = program_behind 0x4F560004 (4 ∷ 1 ∷ []) one_page_domain

-- FILE returns a resource, returns the same one again, and refuses another size. Another number is another resource. A
-- file has at least one page, and no more than are left.
pub record FileRows : Type 0 where
  pub made : answer_and_pc 0 filed ≡ (1, 0x00400004)
  pub again : answer_and_pc 0 (program_behind 0x4F560004 (4 ∷ 1 ∷ []) filed) ≡ (1, 0x00400004)
  pub same : (program_behind 0x4F560004 (4 ∷ 1 ∷ []) filed).control.resources ≡ filed.control.resources
  pub other_size : HypercallRefuses 0x4F560004 (4 ∷ 2 ∷ []) 0xFFFFFFFE filed
  pub other_number : answer_and_pc 0 (program_behind 0x4F560004 (5 ∷ 1022 ∷ []) filed) ≡ (2, 0x00400004)
  pub no_page : HypercallRefuses 0x4F560004 (5 ∷ 0 ∷ []) 0xFFFFFFFE filed
  pub full : HypercallRefuses 0x4F560004 (5 ∷ 1023 ∷ []) 0xFFFFFFFF filed

-- the registers of a new thread: its stack pointer and its argument
abbrev pub thread_registers : List ℕ
thread_registers = registers_from 2 (5 ∷ []) (registers_from 10 (6 ∷ []) (replicate 32 0))

abbrev pub thread : Context
thread = record { pc = 0x00400000; regs = thread_registers; phase = phase.Plain; space = 0; on = None; mark = None }

-- THREAD at the program's first word, with stack pointer 5 and argument 6
abbrev pub new_thread : List ℕ
new_thread = 0x00400000 ∷ 5 ∷ 6 ∷ []

-- n times, one after another
abbrev pub threads : ℕ → Domain
threads zero = filed
threads (suc n) = program_behind 0x4F560005 new_thread (threads n)

-- a domain whose first context was told that it has n threads now
abbrev pub with_threads : ℕ → Domain
with_threads n = record filed {
  control = record filed.control {
    contexts = Some (running 0x00400004 (slice_set (registers 0x4F560005 new_thread) 10 n)) ∷
        (replicate n (Some thread) ++ replicate (7 - n) None);
  };
}

-- THREAD returns contexts 1 to 7. There is no ninth context, by THREAD or by FORK. A thread at an address that holds no
-- instruction is refused.
pub record Threads : Type 0 where
  pub first : threads 1 ≡ with_threads 1
  pub seventh : threads 7 ≡ with_threads 7
  pub full : HypercallRefuses 0x4F560005 new_thread 0xFFFFFFFF (with_threads 7)
  pub fork_full : HypercallRefuses 0x4F560006 [] 0xFFFFFFFF (with_threads 7)
  pub unaligned : HypercallRefuses 0x4F560005 (0x00400002 ∷ 5 ∷ 6 ∷ []) 0xFFFFFFFE filed

abbrev pub exited : Told DomainStepped
exited = made_hypercall 0x4F560007 [] (told.Ok ∷ told.Ok ∷ []) filed

abbrev pub exit_stopped : Told DomainStepped
exit_stopped = made_hypercall 0x4F560007 [] (told.Ok ∷ told.Stopped ∷ []) filed

-- The last context ends: its space and the private resource are gone, and the file stays. If the clearing of frames is
-- stopped, the domain is as it was.
pub record LastExit : Type 0 where
  pub ending : exited.answer.went ≡ went.SpaceGone 0 (shown_call 0x4F560007 (replicate 6 0))
  pub answers : AllUsed exited.world
  pub held : exited.answer.domain.control.resources.held ≡ None ∷ Some (record { owner = owner.File 4; pages = 1 }) ∷
      replicate 14 None
  pub spaces : exited.answer.domain.control.resources.spaces ≡ replicate 8 None
  pub contexts : exited.answer.domain.control.contexts ≡ replicate 8 None
  pub page : plain_of exited.world (record { domain = 0; resource = 0; page = 0 }) ≡ zero_page
  pub stopped : exit_stopped.answer ≡ record { domain = at_ecall 0x4F560007 [] filed; went = went.Stopped }

abbrev pub left_one : Told DomainStepped
left_one = made_hypercall 0x4F560007 [] (told.Ok ∷ []) (with_threads 1)

-- A context that is not the last of its space ends alone, and clears nothing.
pub record OtherExit : Type 0 where
  pub went : left_one.answer.went ≡ went.Leave (shown_call 0x4F560007 (replicate 6 0))
  pub answers : AllUsed left_one.world
  pub resources : left_one.answer.domain.control.resources ≡ filed.control.resources

-- Forking.

-- three pages at 0x00400000, and file 4 of one page at 0x00500000
abbrev pub parent : Domain
parent = program_behind 0x4F560002 (1 ∷ 0x00500000 ∷ 0 ∷ 1 ∷ []) (program_behind 0x4F560004 (4 ∷ 1 ∷ []) (started_domain 0 (small 3)))

abbrev pub fork_made : Told DomainStepped
fork_made = made_hypercall 0x4F560006 [] (told.Ok ∷ told.Ok ∷ []) parent

abbrev pub fork_resources : Resources
fork_resources = fork_made.answer.domain.control.resources

abbrev pub page : ℕ → ℕ → PageId
page resource n = record { domain = 0; resource = resource; page = n }

-- after a store by the child
abbrev pub child_stored : World
child_stored = (ask_write (page 2 0) 0 4 0x99 fork_made.world).world

-- FORK returns context 1 to the parent, and 0 to context 1. The private resource 0 is copied to resource 2 of space 1,
-- page by page, and the file is shared. What the child stores, the parent does not load.
pub record ForkedSpace : Type 0 where
  pub went : fork_made.answer.went ≡ went.Stay
  pub answers : AllUsed fork_made.world
  pub parent : answer_and_pc 0 fork_made.answer.domain ≡ (1, 0x00400004)
  pub child : answer_and_pc 1 fork_made.answer.domain ≡ (0, 0x00400004)
  pub held : fork_resources.held ≡
      Some (record { owner = owner.Space 0; pages = 3 }) ∷ Some (record { owner = owner.File 4; pages = 1 }) ∷
      Some (record { owner = owner.Space 1; pages = 3 }) ∷ replicate 13 None
  pub own_page : lookup fork_resources 0 0x00401004 ≡ Some (0, 1)
  pub own_copy : lookup fork_resources 1 0x00401004 ≡ Some (2, 1)
  pub file : lookup fork_resources 0 0x00500000 ≡ Some (1, 0)
  pub same_file : lookup fork_resources 1 0x00500000 ≡ Some (1, 0)
  pub copied : plain_of fork_made.world (page 2 0) ≡ plain_of fork_made.world (page 0 0)
  pub instruction : value_in (plain_of fork_made.world (page 2 0)) 4 4 ≡ 0x73
  pub stored : value_in (plain_of child_stored (page 2 0)) 0 4 ≡ 0x99
  pub kept : value_in (plain_of child_stored (page 0 0)) 0 4 ≡ 0x73

-- the pages of domain 0 in a world
abbrev pub pages_in : World → ℕ → ℕ → List ℕ
pages_in w resource n = plain_of w (page resource n)

-- a program of three pages forks, with the file's address in x2
abbrev pub sharing : Told DomainStepped
sharing =
    domain_step 0 (with_first (running 0x00400000 (slice_set (registers 0x4F560006 []) 2 0x00500000)) parent)
    (alone (one_page 0 0 (page_with share_words)) (told.Ok ∷ told.Ok ∷ []))

-- the parent stores its answer into the file's page, and then the child loads from there
abbrev pub parent_stored : ProgramRun
parent_stored =
    run 2 0 sharing.answer.domain (alone (pages_in sharing.world) (told.Ok ∷ told.Ok ∷ told.Ok ∷ []))

abbrev pub child_loaded : ProgramRun
child_loaded =
    run 2 1 parent_stored.domain (alone (pages_in parent_stored.world) (told.Ok ∷ told.Ok ∷ told.Ok ∷ []))

-- What the parent stores in the file the child loads, at once.
pub record SharedFile : Type 0 where
  pub stored : AllUsed parent_stored.world
  pub loaded : AllUsed child_loaded.world
  pub word : register (context_in_slot 1 child_loaded.domain).regs 11 ≡ 1
  pub loads : child_loaded.domain.loads ≡ (0x00500000, 1) ∷ []

-- a program of one page with n more resources of one page
abbrev pub with_news : ℕ → Domain
with_news n = record one_page_domain {
  control = record one_page_domain.control {
    resources = record one_page_domain.control.resources {
      held = replicate (n + 1) (Some (record { owner = owner.Space 0; pages = 1 })) ++ replicate (15 - n) None;
    };
  };
}

-- a program of one page with a resource of n pages
abbrev pub with_pages : ℕ → Domain
with_pages n = program_behind 0x4F560001 (n ∷ []) one_page_domain

-- a domain after a fork that is granted
abbrev pub behind_fork : Domain → Domain
behind_fork d = (made_hypercall 0x4F560006 [] (told.Ok ∷ told.Ok ∷ []) d).answer.domain

-- FORK with nine resources, the last of which NEW made, whose copies have too few numbers, and with 513 pages, whose
-- copies are too many; with one less it is granted. If the clearing of frames is stopped, the domain is as it was.
pub record ForkRefused : Type 0 where
  pub made : (program_behind 0x4F560001 (1 ∷ []) (with_news 7)).control.resources ≡ (with_news 8).control.resources
  pub numbers : HypercallRefuses 0x4F560006 [] 0xFFFFFFFF (with_news 8)
  pub enough_numbers : answer_and_pc 0 (behind_fork (with_news 7)) ≡ (1, 0x00400004)
  pub pages : HypercallRefuses 0x4F560006 [] 0xFFFFFFFF (with_pages 512)
  pub enough_pages : answer_and_pc 0 (behind_fork (with_pages 511)) ≡ (1, 0x00400004)
  pub stopped : (made_hypercall 0x4F560006 [] (told.Ok ∷ told.Stopped ∷ []) parent).answer ≡
      record { domain = at_ecall 0x4F560006 [] parent; went = went.Stopped }

-- the child runs on hart 1, at its first ecall
abbrev pub child_running : ℕ → List ℕ → Context
child_running number arguments =
    record (running 0x00400000 (registers number arguments)) { space = 1; on = Some (record { 0 = 1 }) }

abbrev pub child_at : ℕ → List ℕ → Domain
child_at number arguments = with_child (child_running number arguments) fork_made.answer.domain

-- its pages are those that the fork left
abbrev pub child_makes : ℕ → List ℕ → List Answer → Told DomainStepped
child_makes number arguments answers =
    domain_step 1 (child_at number arguments) (alone (pages_in fork_made.world) answers)

abbrev pub child_gone : Told DomainStepped
child_gone = child_makes 0x4F560007 [] (told.Ok ∷ told.Ok ∷ [])

abbrev pub grandchild : Told DomainStepped
grandchild = child_makes 0x4F560006 [] (told.Ok ∷ told.Ok ∷ [])

-- The child may not map the parent's resource; its own and the file it may. It forks too: context 2, in space 2, with
-- resource 3. It ends with its space and its copy; the parent's space and the file stay as they are.
pub record ForkedChild : Type 0 where
  pub other_space : answer_and_pc 1
      (child_makes 0x4F560002 (0 ∷ 0x00600000 ∷ 0 ∷ 1 ∷ []) (told.Ok ∷ [])).answer.domain ≡
      (0xFFFFFFFC, 0x00400004)
  pub own : answer_and_pc 1 (child_makes 0x4F560002 (2 ∷ 0x00600000 ∷ 0 ∷ 1 ∷ []) (told.Ok ∷ [])).answer.domain ≡
      (0, 0x00400004)
  pub file : answer_and_pc 1 (child_makes 0x4F560002 (1 ∷ 0x00600000 ∷ 0 ∷ 1 ∷ []) (told.Ok ∷ [])).answer.domain ≡
      (0, 0x00400004)
  pub forks : answer_and_pc 1 grandchild.answer.domain ≡ (2, 0x00400004)
  pub new_child : answer_and_pc 2 grandchild.answer.domain ≡ (0, 0x00400004)
  pub third_copy : lookup grandchild.answer.domain.control.resources 2 0x00401004 ≡ Some (3, 1)
  pub ending : child_gone.answer.went ≡ went.SpaceGone 1 (record (shown_call 0x4F560007 (replicate 6 0)) { ctx = 1 })
  pub held : child_gone.answer.domain.control.resources.held ≡
      Some (record { owner = owner.Space 0; pages = 3 }) ∷ Some (record { owner = owner.File 4; pages = 1 })
      ∷ replicate 14 None
  pub parents : lookup child_gone.answer.domain.control.resources 0 0x00401004 ≡ Some (0, 1)
  pub childs : lookup child_gone.answer.domain.control.resources 1 0x00401004 ≡ None
  pub dropped : plain_of child_gone.world (page 2 0) ≡ zero_page

-- Page tables of a space.

abbrev pub space : SpaceId
space = record { domain = 0; number = 0 }

-- The first page table that a space is resumed with is recorded, and another one is refused.
pub record FirstRoot : Type 0 where
  pub first : (admit space 5 (λ s. None)).answer ≡ Ok tt
  pub other : (admit space 6 (admit space 5 (λ s. None)).root).answer ≡ Err resume_fault.WrongRoot
  pub same : (admit space 5 (admit space 5 (λ s. None)).root).answer ≡ Ok tt
