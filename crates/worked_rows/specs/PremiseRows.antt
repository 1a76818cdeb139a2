-- Rows of premises: what the laws on runs ask of a run, met at once by worked runs.
use Rattle.std.specs.Prelude.{◌≡◌, ◌≤◌, ◌<◌, ◌%◌, ℕ, pos, Bool, true, false, List, [], ◌∷◌, ◌++◌, length, map, replicate, take, slice_get, slice_index, Option, Some, None, is_some, option_map, Ok}
use Rattle.rv_isa.specs.Table.{instruction}
use Rattle.rv_isa.specs.declared.instr.Instr.TheVariants.{Auipc, Addi, Sw}
use Rattle.cloak_base.specs.Random.{numbered}
use Rattle.cloak_base.specs.declared.causes.Stop.TheVariants as stop
use Rattle.cloak_base.specs.declared.causes.Violation.{Violation}
use Rattle.cloak_base.specs.declared.causes.Violation.TheVariants as violation
use Rattle.cloak_model.specs.declared.context.PageWord.{PageWord}
use Rattle.cloak_model.specs.declared.fault.RecordFault.TheVariants.{Short}
use Rattle.cloak_model.specs.declared.image.Bundle.{Bundle}
use Rattle.cloak_model.specs.Items.{Item}
use Rattle.cloak_model.specs.Items as item
use Rattle.cloak_model.specs.Beginning.{Beginning, Fresh, Stored, IsBeginning}
use Rattle.cloak_model.specs.Bundle.{IsInGrammar}
use Rattle.cloak_model.specs.Chain.{cbc}
use Rattle.cloak_model.specs.Cloaking.{is_clash, owed_in}
use Rattle.cloak_model.specs.Contexts.{Context}
use Rattle.cloak_model.specs.DomainState.{Domain}
use Rattle.cloak_model.specs.Exchange.{record_of}
use Rattle.cloak_model.specs.Halves.{inward_half}
use Rattle.cloak_model.specs.Joint.{Turn, joint_step, hart_in}
use Rattle.cloak_model.specs.Memory.{value_at, value_in}
use Rattle.cloak_model.specs.Record.{IsRecord}
use Rattle.cloak_model.specs.RecordFault.{HasFault}
use Rattle.cloak_model.specs.Run.{Run, run_from, turns_from, first_moment, last_stop, most_steps}
use Rattle.cloak_model.specs.StoredFiles.{PageContent, FileContents}
use Rattle.cloak_model.specs.StoredRun.{contents_of}
use Rattle.frozen_state.specs.FrozenState.{frozen_of}
use Rattle.kernel_isolation.specs.Isolation.{joint_until}
use Rattle.range_law.specs.Writing.{IsOfBytes, IsBeginningOfBytes}
use Rattle.worked_rows.specs.Images.{boot, halt, flip_and_resume, remap_and_resume, resume_words, resume_third, letter_words, program_words, words_page, page_with, program_of, image, image_of, lone_image}
use Rattle.worked_rows.specs.Runs.{running, registers_from}
use Rattle.worked_rows.specs.JointRuns.{counted, key, draw_1, draw_2, draw_3, seen_of}
use Rattle.worked_rows.specs.DomainRows.{page}
use Rattle.worked_rows.specs.JointRows.{whole, whole_image, whole_items, opening_cipher, closing_cipher, other_opening, other_closing, letter, program_with, flipped_frame}

-- All that laws ask of a run as a whole: an image in the grammar, of bytes; a beginning of bytes, over files that are
-- contents; at most the most steps; and that there is the run.
pub record MeetsPremises (b : Bundle) (from : Beginning) (budget : ℕ) (r : Run) : Type 0 where
  pub in_grammar : IsInGrammar b
  pub image_bytes : IsOfBytes b
  pub beginning_bytes : IsBeginningOfBytes b from
  pub beginning : IsBeginning b from
  pub few_steps : budget ≤ most_steps
  pub runs : run_from b from budget ≡ Ok r

-- The premise of what `run` promises: in the whole run no two different pages that were compared had one digest.
abbrev pub NoClash : Run → Type 0
NoClash r = r.closed.joint.memory.ledger.clashed ≡ false

-- The whole program.

-- the context that the hart of the step after n steps runs
abbrev pub context_at_step : Bundle → Run → ℕ → Option ℕ
context_at_step b r n =
    (hart_in (joint_until n r) (slice_index b.kernel.schedule (n % length b.kernel.schedule))).inside

-- the loads of each program at a moment
abbrev pub loads_until : ℕ → Run → List (List (ℕ × ℕ))
loads_until n r = map (λ (d : Domain). d.loads) (joint_until n r).domains

-- Its run, which `WholeRun` tells, meets all, and has what laws speak of: a page that is shown as it opens and again as
-- it closes; a step of the kernel; a resume, which records a page table; a page that is recorded and owed by no frame;
-- a step of the program that completes a load; a frame that is owed a page; a moment to which no step stopped it, at
-- which it can be frozen; and a step that did.
pub record WholePremises : Type 0 where
  pub run : Run
  pub meets : MeetsPremises (whole_image 0) (Fresh (counted 256)) 100 run
  pub no_clash : NoClash run
  pub seen : seen_of run ≡ whole
  pub program : slice_get (whole_image 0).programs 0 ≡ Some (program_of words_page)
  pub first_shown : slice_get run.opened.items 0 ≡ Some (item.Cipher 8 opening_cipher)
  pub last_shown : slice_get run.closed.items 0 ≡ Some (item.Cipher 8 closing_cipher)
  pub kernel_step : context_at_step (whole_image 0) run 0 ≡ None
  pub program_step : context_at_step (whole_image 0) run 7 ≡ Some 0
  pub root : (joint_until 5 run).memory.ledger.root (record { domain = 0; number = 0 }) ≡ Some 0
  pub recorded : (joint_until 5 run).memory.ledger.recorded (page 0 0) ≡ Some opening_cipher
  pub vector : (joint_until 5 run).memory.ledger.iv (page 0 0) ≡ Some draw_1
  pub none_owed : (joint_until 5 run).memory.ledger.owed ≡ replicate 64 None
  pub no_load : loads_until 7 run ≡ [] ∷ []
  pub one_load : loads_until 8 run ≡ ((0x80008100, 7) ∷ []) ∷ []
  pub owed : owed_in (joint_until 12 run).memory 8 ≡ Some (page 0 0)
  pub goes_on : last_stop None (take 12 run.turns) ≡ None
  pub no_clash_yet : (joint_until 12 run).memory.ledger.clashed ≡ false
  pub frozen : is_some (frozen_of (joint_until 12 run) 12 (counted 256)) ≡ true
  pub first_part : last_stop None (turns_from 12 (first_moment (whole_image 0) run.opened.joint)) ≡ None
  pub stopped : last_stop None (turns_from 14 (first_moment (whole_image 0) run.opened.joint)) ≡ Some (stop.Halt 7)

-- Under two keys the program has one half of the exchange.
abbrev pub OneHalf : Type 0
OneHalf =
    inward_half 0 (whole_items opening_cipher closing_cipher)
    ≡ inward_half 0 (whole_items other_opening other_closing)

-- The smallest run.
pub record SmallestPremises : Type 0 where
  pub run : Run
  pub meets : MeetsPremises (lone_image letter_words) (Fresh (numbered 0)) 10 run
  pub no_clash : NoClash run
  pub seen : seen_of run ≡ letter

-- Over files.

-- a page that was shown under a key of an earlier run
abbrev pub kept_page : PageContent
kept_page = record {
  plain = page_with (7 ∷ []);
  iv = replicate 16 5;
  cipher = cbc key (replicate 16 5) (page_with (7 ∷ []));
}

-- file 4 of the first domain, whose second page was never shown
abbrev pub kept_files : List FileContents
kept_files = record { domain = 0; number = 4; pages = Some kept_page ∷ None ∷ [] } ∷ []

abbrev pub over_files : Beginning
over_files = Stored (key ∷ draw_1 ∷ draw_2 ∷ draw_3 ∷ []) (counted 256) kept_files

-- Up to the first resume, over a file of an earlier run. It leaves the file as it was and no draw was missing, so a run
-- from the same beginning goes on from it: it is a chain of runs, of any length.
pub record StoredPremises : Type 0 where
  pub run : Run
  pub meets : MeetsPremises (whole_image 0) over_files 5 run
  pub no_clash : NoClash run
  pub ends : run.stop ≡ stop.Budget
  pub held : run.opened.joint.memory.plain (page 1 0) ≡ kept_page.plain
  pub leaves : contents_of run.closed.joint ≡ kept_files

-- Reservations.

-- LR and SC of the word at x5
abbrev pub reserve_words : List ℕ
reserve_words =
    0x1002A3AF ∷  -- lr.w x7, (x5)
    0x1862A42F ∷  -- sc.w x8, x6, (x5)
    []

-- A kernel reserves its own first word, and stores a 0 there.
abbrev pub reserving_kernel : List ℕ
reserving_kernel =
    0x00000297 ∷  -- auipc x5, 0
    reserve_words ++ halt

-- Its LR is the second step, and its SC the third.
pub record HartPremises : Type 0 where
  pub run : Run
  pub meets : MeetsPremises (lone_image reserving_kernel) (Fresh (counted 256)) 5 run
  pub no_clash : NoClash run
  pub reserved : (joint_until 2 run).memory.marks ≡ Some 0x80000000 ∷ []
  pub stands : value_at (joint_until 2 run).memory.ram 0x80000000 4 ≡ 0x00000297
  pub stored : value_at (joint_until 3 run).memory.ram 0x80000000 4 ≡ 0

-- A program stores a 0 at its stack pointer, reserves that word and stores a 9, and adds 9 to it.
abbrev pub reserving_words : List ℕ
reserving_words =
    0x00A12023 ∷  -- sw x10, 0(x2)
    0x00010293 ∷  -- addi x5, x2, 0
    0x00900313 ∷  -- addi x6, x0, 9
    reserve_words ++ 0x0062A3AF ∷ []  -- amoadd.w x7, x6, (x5)

abbrev pub reserving_program : Bundle
reserving_program = image_of 1 (0 ∷ []) (boot ++ halt) reserving_words

-- the program after its LR or later, with this in x7
abbrev pub reserving_context : ℕ → ℕ → Option PageWord → Context
reserving_context pc loaded mark =
    record (running pc (registers_from 2 (0x80008100 ∷ [])
    (registers_from 5 (0x80008100 ∷ 9 ∷ loaded ∷ []) (replicate 32 0)))) {
      mark = mark;
    }

abbrev pub reserved_place : PageWord
reserved_place = record { resource = 0; page = 0; at = 0x100 }

-- the word in the program's page at a moment
abbrev pub word_until : ℕ → Run → ℕ
word_until n r = value_in ((joint_until n r).memory.plain (page 0 0)) 0x100 4

-- what program 0 was told in the step after n steps
abbrev pub told_in : ℕ → Run → Option (List Item)
told_in n r = option_map (λ (t : Turn). inward_half 0 t.items) (slice_get r.turns n)

-- Its LR is the ninth step, which completes a load; its SC is the tenth, which its context makes and in which both
-- questions are granted; and AMOADD the eleventh, which completes one.
pub record ContextPremises : Type 0 where
  pub run : Run
  pub meets : MeetsPremises reserving_program (Fresh (counted 256)) 11 run
  pub no_clash : NoClash run
  pub reserved : (joint_until 9 run).domains ≡
      program_with (reserving_context 0x80008010 0 (Some reserved_place)) ((0x80008100, 0) ∷ []) ∷ []
  pub program_step : context_at_step reserving_program run 9 ≡ Some 0
  pub granted : told_in 9 run ≡ Some (item.Ok 0 ∷ item.Ok 0 ∷ [])
  pub conditional : (joint_until 10 run).domains ≡
      program_with (reserving_context 0x80008014 0 None) ((0x80008100, 0) ∷ []) ∷ []
  pub stored : word_until 10 run ≡ 9
  pub combined : (joint_until 11 run).domains ≡
      program_with (reserving_context 0x80008018 9 None) ((0x80008100, 0) ∷ (0x80008100, 9) ∷ []) ∷ []
  pub added : word_until 11 run ≡ 18

-- (`TableWords` has the words of atomic instructions.)
pub record ReservingWords : Type 0 where
  pub kernel : map instruction (take 1 reserving_kernel) ≡ Some (Auipc 5 0) ∷ []
  pub program : map instruction (take 3 reserving_words) ≡
      Some (Sw 2 10 (pos 0)) ∷ Some (Addi 5 2 (pos 0)) ∷ Some (Addi 6 0 (pos 9)) ∷ []

-- Violations.

-- what the step after n steps of a run meets
abbrev pub met_after : Bundle → Run → ℕ → Option Violation
met_after b r n =
    (joint_step (record { schedule = b.kernel.schedule; steps = n; joint = joint_until n r })).violation

-- The run of this image with this budget: its step after n steps meets this violation, and pages clashed in it or not.
pub record MeetsViolation (b : Bundle) (budget n : ℕ) (v : Violation) (clashed : Bool) : Type 0 where
  pub run : Run
  pub meets : MeetsPremises b (Fresh (counted 256)) budget run
  pub clashes : run.closed.joint.memory.ledger.clashed ≡ clashed
  pub within : n < length run.turns
  pub met : met_after b run n ≡ Some v

-- The kernel presents a page with another bit, another page table, a context that there is not, one that runs on
-- another hart, and one of no program, so that there is none to end. Only in the first of these runs are two different
-- pages compared: they clash if they have one digest.
pub record Violations : Type 0 where
  pub other_bit : MeetsViolation (image (boot ++ flip_and_resume)) 20 18
      (violation.Page (page 0 0) (record { 0 = 8 })) (is_clash flipped_frame closing_cipher)
  pub other_table : MeetsViolation (image (boot ++ remap_and_resume)) 17 15 (violation.Mapping 0 0x00400000) false
  pub no_context : MeetsViolation (image resume_third) 3 2 (violation.Context 3) false
  pub two_harts : MeetsViolation (image_of 2 (0 ∷ 1 ∷ []) (boot ++ halt) program_words) 11 9 (violation.Context 0) false
  pub no_program : MeetsViolation (lone_image resume_words) 2 1 (violation.Context 0) false

-- Records.

-- What the smallest run writes is a record, and its first seven bytes are none.
pub record RecordPremises : Type 0 where
  pub is_record : IsRecord (record_of letter.items) letter.items
  pub has_fault : HasFault (take 7 (record_of letter.items)) (Short 7)
