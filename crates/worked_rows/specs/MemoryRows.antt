-- Rows of cloaked memory in the middle of a step: walks through a frame that is owed a page, forks, and bytes that a
-- program stores where the kernel sees them.
use Rattle.std.specs.Prelude.{◌≡◌, ℕ, List, [], ◌∷◌, ◌++◌, replicate, drop, Option, Some, None, true, false}
use Rattle.cloak_base.specs.Random.{handed}
use Rattle.cloak_base.specs.Pages.{zero_page, with_page}
use Rattle.cloak_base.specs.declared.names.Kind.TheVariants.{Load}
use Rattle.cloak_base.specs.declared.names.Mode.TheVariants.{U}
use Rattle.cloak_base.specs.declared.names.PageId.{PageId}
use Rattle.cloak_model.specs.declared.access.Access.{Access}
use Rattle.cloak_model.specs.declared.answer.Answer.{Answer}
use Rattle.cloak_model.specs.declared.answer.Answer.TheVariants as told
use Rattle.cloak_model.specs.declared.inside.Went.TheVariants as went
use Rattle.cloak_model.specs.Items as item
use Rattle.cloak_model.specs.Chain.{cbc}
use Rattle.cloak_model.specs.Memory.{value_in}
use Rattle.cloak_model.specs.Cloaking.{CloakedMemory, offer, with_shown_frame}
use Rattle.cloak_model.specs.Events.{Touch}
use Rattle.cloak_model.specs.World.{World, Cloaked, items_of, noted}
use Rattle.cloak_model.specs.Asking.{Told}
use Rattle.cloak_model.specs.Ask.{ask_word, ask_walk}
use Rattle.cloak_model.specs.AskPages.{ask_reach, ask_read}
use Rattle.cloak_model.specs.Walk.{second_leaf}
use Rattle.cloak_model.specs.DomainState.{started_domain}
use Rattle.cloak_model.specs.Hypercalls.{Stepped, fork_call}
use Rattle.cloak_model.specs.Joint.{memory_of}
use Rattle.cloak_model.specs.Opening.{numbers_below}
use Rattle.cloak_model.specs.Script.{played}
use Rattle.worked_rows.specs.Images.{page_with, program_start}
use Rattle.worked_rows.specs.Runs.{ProgramRun, run, running, registers, call_registers, with_first}
use Rattle.worked_rows.specs.DomainRows.{page, parent, shown_call, stays_then}
use Rattle.worked_rows.specs.JointRuns.{one_key, key, draw_1, draw_2}

-- Memory.

-- 64 frames, of which some are owed pages, with these pages and what was last shown of them, without the vectors, which no
-- row reads; a key was drawn, and one hart reserves nothing
abbrev pub memory : List (List ℕ) → (PageId → List ℕ) → (PageId → Option (List ℕ)) → List (Option PageId) →
    CloakedMemory
memory ram plain recorded owed = record {
  ram = ram;
  plain = plain;
  ledger = record {
    keys = one_key;
    stream = handed (drop 16 (numbers_below 256));
    draws = 0;
    recorded = recorded;
    iv = λ page. None;
    owed = owed;
    root = λ space. None;
    missed = false;
    clashed = false;
  };
  marks = None ∷ [];
}

-- a step for domain 0 begins in this memory, with this page table
abbrev pub world_of : ℕ → CloakedMemory → World
world_of satp m = Cloaked (record {
  memory = m;
  items = [];
  events = [];
  violation = None;
  regime = record { satp = satp; sum = false; mxr = false; domain = 0 };
  pages = λ va. None;
})

abbrev pub memory_in : World → CloakedMemory
memory_in w = memory_of w (memory [] (λ q. []) (λ q. None) [])

-- A page in its own table.

-- frame 1 is the first table, and points to frame 2; the entry there for 0x00401000 leads to frame 2 itself
abbrev pub tables : List (List ℕ)
tables = zero_page ∷ page_with (0 ∷ 0x20000801 ∷ []) ∷ page_with (0 ∷ 0x200008D7 ∷ []) ∷ replicate 61 zero_page

abbrev pub fresh : World
fresh = world_of 0x80080001 (memory tables (λ q. zero_page) (λ q. None) (replicate 64 None))

-- the page is reached
abbrev pub reached_fresh : Told Answer
reached_fresh = ask_reach (page 0 0) 0x00401000 Load fresh

-- what frame 2 shows then
abbrev pub table_cipher : List ℕ
table_cipher = cbc key draw_1 zero_page

-- the next access walks through frame 2
abbrev pub table_access : Access
table_access = record { mode = U; sum = false; mxr = false; va = 0x00401000; kind = Load }

-- the frame has shown the page, and is owed nothing
abbrev pub held : World
held = world_of 0x80080001
    (memory (zero_page ∷ page_with (0 ∷ 0x20000801 ∷ []) ∷ table_cipher ∷ replicate 61 zero_page) (λ q. zero_page)
    (with_page (λ q. None) (page 0 0) (Some table_cipher)) (replicate 64 None))

-- A fresh page is reached in the frame of its own table: it is zeros, and the frame is owed it. The next walk reads its
-- entry there: the frame is settled first, by one draw, and the entry is bytes 4 to 7 of the ciphertext. If the frame
-- holds the page unchanged, nothing is drawn and no item is written.
pub record OwnTable : Type 0 where
  pub answer : reached_fresh.answer ≡ told.Ok
  pub items : items_of reached_fresh.world ≡ item.Ok 0 ∷ []
  pub owed : (memory_in reached_fresh.world).ledger.owed ≡ None ∷ None ∷ Some (page 0 0) ∷ replicate 61 None
  pub value : (ask_read (page 0 0) 0 4 reached_fresh.world).answer ≡ 0
  pub entry : (ask_walk 0x80080001 table_access reached_fresh.world).answer ≡
      second_leaf table_access 0x80001004 0x80002004 (value_in table_cipher 4 4)
  pub shown : items_of (ask_walk 0x80080001 table_access reached_fresh.world).world ≡ item.Ok 0 ∷
      item.Cipher 2 table_cipher ∷ []
  pub draws : (memory_in (ask_walk 0x80080001 table_access reached_fresh.world).world).ledger.draws ≡ 1
  pub settled : (memory_in (ask_walk 0x80080001 table_access reached_fresh.world).world).ledger.owed ≡ replicate 64 None
  pub unchanged : ask_word 0x80002004 held ≡ record {
    answer = Some (value_in table_cipher 4 4);
    world = noted (Touch 2 ∷ []) held;
  }

-- A fork.

-- bytes of a page
abbrev pub first_page : List ℕ
first_page = page_with (0x11111111 ∷ [])

abbrev pub second_page : List ℕ
second_page = page_with (0x22222222 ∷ [])

-- what was shown of page 1, and what frame 5 shows of page 0
abbrev pub second_cipher : List ℕ
second_cipher = cbc key draw_2 second_page

abbrev pub first_cipher : List ℕ
first_cipher = cbc key draw_1 first_page

-- Of the program's three pages page 0 was changed in frame 5, page 1 is unchanged in frame 6, and page 2 is fresh.
-- Frame 7 is owed the page of its file.
abbrev pub before_fork : World
before_fork = world_of 0 (memory
    (replicate 6 zero_page ++ (second_cipher ∷ replicate 57 zero_page))
    (with_page (with_page (λ q. zero_page) (page 0 0) first_page) (page 0 1) second_page)
    (with_page (λ q. None) (page 0 1) (Some second_cipher))
    (replicate 5 None ++ (Some (page 0 0) ∷ None ∷ Some (page 1 0) ∷ replicate 56 None)))

abbrev pub fork_settled : Told Stepped
fork_settled = played (fork_call 0 (running 0x00400000 (registers 0x4F560006 [])) parent.control) before_fork

abbrev pub after_fork : CloakedMemory
after_fork = memory_in fork_settled.world

-- the bytes of frame 5 in frame 9, where the copy of page 0 is offered
abbrev pub copied : CloakedMemory
copied = with_shown_frame 9 first_cipher after_fork

-- FORK settles the frame of the private page that is owed, and no other: one draw. Pages and records are copied; a
-- fresh page has a fresh copy. The copy of page 0 is ready in a frame with the bytes that were shown of page 0.
pub record ForkFrames : Type 0 where
  pub went : fork_settled.answer.went ≡ went.Stay
  pub items : items_of fork_settled.world ≡ item.Cipher 5 first_cipher ∷ item.Ok 0 ∷ []
  pub draws : after_fork.ledger.draws ≡ 1
  pub owed : after_fork.ledger.owed ≡ replicate 7 None ++ Some (page 1 0) ∷ replicate 56 None
  pub ram : after_fork.ram ≡ replicate 5 zero_page ++ first_cipher ∷ second_cipher ∷ replicate 57 zero_page
  pub first_plain : after_fork.plain (page 2 0) ≡ first_page
  pub second_plain : after_fork.plain (page 2 1) ≡ second_page
  pub first_record : after_fork.ledger.recorded (page 2 0) ≡ Some first_cipher
  pub second_record : after_fork.ledger.recorded (page 2 1) ≡ Some second_cipher
  pub fresh_record : after_fork.ledger.recorded (page 2 2) ≡ None
  pub file_record : after_fork.ledger.recorded (page 1 0) ≡ None
  pub accepted : (offer (page 2 0) 9 false copied).granted ≡ true

-- A WRITE.

-- the program's page: an ecall, and `abc` at 0x80008100
abbrev pub text_page : List ℕ
text_page = 0x73 ∷ replicate 255 0 ++ (97 ∷ 98 ∷ 99 ∷ replicate 3837 0)

-- frame 8 is owed it; the area at 0x80005000 is not cloaked
abbrev pub before_write : World
before_write =
    world_of 0 (memory (replicate 64 zero_page) (with_page (λ q. zero_page) (page 0 0) text_page) (λ q. None)
    (replicate 8 None ++ Some (page 0 0) ∷ replicate 55 None))

abbrev pub wrote : ProgramRun
wrote = run 5 0
    (with_first (running 0x80008000 (call_registers 1 (0 ∷ 0x80008100 ∷ 3 ∷ 0x80005000 ∷ [])))
    (started_domain 0 program_start)) before_write

-- WRITE of three bytes where the kernel sees them: each is a Put of one byte, after the answer for the buffer's page
-- and before its own. The kernel finds the bytes in the area.
pub record WriteArea : Type 0 where
  pub wents : wrote.wents ≡ stays_then 4 (shown_call 1 (0 ∷ 0x80005000 ∷ 3 ∷ 0x80005000 ∷ 0 ∷ 0 ∷ []))
  pub items : items_of wrote.world ≡
      item.Ok 0
      ∷ item.Ok 0 ∷ item.Put 0x80005000 1 97 ∷ item.Ok 0
      ∷ item.Ok 0 ∷ item.Put 0x80005001 1 98 ∷ item.Ok 0
      ∷ item.Ok 0 ∷ item.Put 0x80005002 1 99 ∷ item.Ok 0 ∷ []
  pub loads : wrote.domain.loads ≡ (0x80008100, 97) ∷ (0x80008101, 98) ∷ (0x80008102, 99) ∷ []
  pub area : (memory_in wrote.world).ram ≡ replicate 5 zero_page ++ (97 ∷ 98 ∷ 99 ∷ replicate 4093 0) ∷
      replicate 58 zero_page
