-- What is told in words: of pages, of what a frame has, of who runs, and of marks.
use Rattle.std.specs.Prelude.{ℕ, ◌+◌, ◌-◌, ◌%◌, ◌==◌, Bool, true, false, ◌||◌, nat_lt, List, ◌++◌, Option, Some, None, codes, decimal, if◌then◌else◌}
use Rattle.cloak_base.specs.declared.names.PageId.{PageId}
use Rattle.run_notes.specs.Sights.{is_cipher}
use Rattle.run_notes.specs.declared.look.Look.{Look}
use Rattle.run_notes.specs.declared.look.Look.TheVariants as look
use Rattle.run_notes.specs.declared.look.Sight.{Sight}
use Rattle.run_notes.specs.declared.marks.Mark.{Mark}
use Rattle.run_notes.specs.declared.turns.Turn.{Turn}

-- Pages.

abbrev pub resource_words : ℕ → List ℕ
resource_words resource = if resource == 0 then codes "" else codes " of resource " ++ decimal resource

abbrev pub page_words : PageId → List ℕ
page_words q =
    codes "program " ++ (decimal q.domain ++ (codes ", page " ++ (decimal q.page ++ resource_words q.resource)))

-- Steps, from the one after the first number to the second.
abbrev pub step_words : (from to : ℕ) → List ℕ
step_words from to =
    if nat_lt (from + 1) to
    then codes "steps " ++ (decimal (from + 1) ++ (codes " to " ++ decimal to))
    else codes "step " ++ decimal to

-- What a frame or a block has.

abbrev pub look_words : Look → (is_numbered : Bool) → List ℕ
look_words look.Zeros n = codes "zeros"
look_words look.Open n = codes "memory that is not cloaked"
look_words look.Lost n = codes "not known: the items of its program do not fit"
look_words look.Cipher n = codes "ciphertext"
look_words look.Old n = codes "ciphertext that no page takes any more,"
look_words look.Altered n = codes "ciphertext into which was stored since,"
look_words look.OldAltered n = codes "ciphertext into which was stored, and that no page takes any more,"
look_words look.Used true = codes "in use by its program, not changed since ciphertext"
look_words look.Used false = codes "in use by its program, not changed since it was made"
look_words look.Changed true = codes "in use by its program, newer than ciphertext"
look_words look.Changed false = codes "in use by its program, not shown so far"

abbrev pub between_words : Look → List ℕ
between_words look.Zeros = codes ""
between_words look.Open = codes ""
between_words look.Lost = codes ""
between_words look.Cipher = codes " of "
between_words look.Old = codes " of "
between_words look.Altered = codes " of "
between_words look.OldAltered = codes " of "
between_words look.Used = codes ": "
between_words look.Changed = codes ": "

abbrev pub number_words : ℕ → List ℕ
number_words number = if number == 0 then codes "" else codes " no. " ++ decimal number

abbrev pub sight_words_of : Sight → Option PageId → List ℕ
sight_words_of s (Some q) =
    look_words s.look (nat_lt 0 s.number) ++ (number_words s.number ++ (between_words s.look ++ page_words q))
sight_words_of s None =
    if is_cipher s.look then codes "ciphertext of a page that is not known" else look_words s.look (nat_lt 0 s.number)

abbrev pub sight_words : Sight → List ℕ
sight_words s = sight_words_of s s.page

-- Why a context left.

abbrev pub call_words : ℕ → List ℕ
call_words number =
    if number == 0x4F560007 then codes "EXIT" else
    if number == 1 then codes "WRITE" else
    if number == 2 then codes "OPEN" else
    if number == 3 then codes "READ" else
    codes "call " ++ decimal number

abbrev pub cause_words : ℕ → List ℕ
cause_words cause =
    if cause == 0x80000005 then codes "timer" else
    if cause == 1 || cause == 12 then codes "fault: fetch" else
    if cause == 5 || cause == 13 then codes "fault: load" else
    if cause == 7 || cause == 15 then codes "fault: store" else
    if cause == 24 then codes "not there" else
    codes "trap " ++ decimal cause

abbrev pub leave_words : Mark → List ℕ
leave_words mark = if mark.cause == 8 then call_words mark.number else cause_words mark.cause

-- Who has the place of a number among the times of a turn: the kernel, or a program, with its context if it is one turn.

abbrev pub context_words : Turn → List ℕ
context_words turn = if turn.count == 1 then codes ", context " ++ decimal (turn.ctx % 8) else codes ""

abbrev pub party_words : ℕ → Turn → List ℕ
party_words place turn =
    if place == 0 then codes "kernel" else
    codes "program " ++ (decimal (place - 1) ++ context_words turn)

-- How the run went: how many steps there are, how it was halted, and how many programs ended by a violation.

abbrev pub steps_words : ℕ → List ℕ
steps_words steps = decimal steps ++ (if steps == 1 then codes " step" else codes " steps")

abbrev pub halt_words : Option ℕ → List ℕ
halt_words None = codes ""
halt_words (Some value) = codes ", halt " ++ decimal value

abbrev pub ended_words : ℕ → List ℕ
ended_words count =
    if count == 0 then codes "" else
    codes ", " ++ (decimal count ++
    (if count == 1 then codes " program ended by a violation" else codes " programs ended by violations"))

-- a program ended in a step
abbrev pub ended_sentence : (program step : ℕ) → List ℕ
ended_sentence program step =
    codes "Program " ++ (decimal program ++ (codes " ends by a violation in step " ++ (decimal step ++
    codes ". (./tools explain tells what was presented.)")))
