-- What a step of a program did, as texts: by what its context was about to do, by the last answer, and by what the context
-- is after it.
use Rattle.std.specs.Prelude.{ℕ, ◌-◌, Bool, true, false, ◌==◌, List, [], ◌∷◌, ◌++◌, codes, decimal, length, slice_index, Option, Some, None, is_some, if◌then◌else◌}
use Rattle.cloak_model.specs.Contexts.{Context, exit_number}
use Rattle.cloak_model.specs.declared.context.Phase.{Phase}
use Rattle.cloak_model.specs.declared.context.Phase.TheVariants.{Plain, CopyIn, Waiting, CopyOut}
use Rattle.cloak_model.specs.Report.{hexadecimal}
use Rattle.record_text.specs.Names.{cause_name}
use Rattle.step_lines.specs.declared.contexts.ContextAhead.{ContextAhead}
use Rattle.step_lines.specs.declared.contexts.ContextSight.{ContextSight}
use Rattle.step_lines.specs.declared.contexts.ReachedPage.{ReachedPage}
use Rattle.step_lines.specs.declared.contexts.LastAnswer.{LastAnswer}
use Rattle.step_lines.specs.declared.contexts.LastAnswer.TheVariants as last
use Rattle.step_lines.specs.Changes.{jump, register_changes, value_text}
use Rattle.step_lines.specs.Columns.{front}
use Rattle.step_lines.specs.Effects.{pad}
use Rattle.step_lines.specs.Endings.{is_ecall_word}
use Rattle.step_lines.specs.Lines.{instruction_line}

-- program counter and registers of a context, and whether it runs on a hart
abbrev pub context_sight : Context → ContextSight
context_sight c = record { pc = c.pc; regs = c.regs; runs = is_some c.on }

-- one text
abbrev pub one_text : List ℕ → List (List ℕ)
one_text words = words ∷ []

-- Hypercalls, by the number in x17, with x10 to x13, and x16.

unfoldable pub hypercall_name : ℕ → List ℕ
hypercall_name number =
    if number == 0x4F560001 then codes "NEW" else
    if number == 0x4F560002 then codes "MAP" else
    if number == 0x4F560003 then codes "UNMAP" else
    if number == 0x4F560004 then codes "FILE" else
    if number == 0x4F560005 then codes "THREAD" else
    if number == 0x4F560006 then codes "FORK" else
    if number == exit_number then codes "EXIT" else
    if number == 0x4F560008 then codes "CALL" else codes "that is none:"

abbrev pub register_word : List ℕ → ℕ → List ℕ
register_word regs i = codes " " ++ hexadecimal (slice_index regs i)

abbrev pub hypercall_text : List ℕ → List ℕ
hypercall_text regs =
    codes "hypercall " ++ (hypercall_name (slice_index regs 17)
    ++ (register_word regs 10 ++ (register_word regs 11 ++ (register_word regs 12 ++ (register_word regs 13
    ++ (codes ", number" ++ register_word regs 16))))))

abbrev pub hypercall_if : Bool → List ℕ → List (List ℕ)
hypercall_if made regs = if made then one_text (hypercall_text regs) else []

abbrev pub hypercalls : ContextAhead → List (List ℕ)
hypercalls a = hypercall_if (is_ecall_word a.word) a.sight.regs

-- Memory: of a page both values are known, of memory that is not cloaked the one that was loaded or stored.

-- the value that was answered
abbrev pub answered_value : LastAnswer → ℕ
answered_value (last.Word value) = value
answered_value last.Nothing = 0
answered_value last.Granted = 0
answered_value (last.Absent cause) = 0
answered_value last.Stopped = 0
answered_value last.Timer = 0

abbrev pub loaded_value : ReachedPage → LastAnswer → ℕ
loaded_value r answer = if r.is_cloaked then r.value else answered_value answer

abbrev pub load_text : ReachedPage → LastAnswer → List ℕ
load_text r answer = codes "is " ++ value_text r.width (loaded_value r answer)

-- what a store found in a page, and left there; elsewhere what it stored
abbrev pub store_text : ReachedPage → ℕ → List ℕ
store_text r now =
    if r.is_cloaked then value_text r.width r.value ++ (codes " -> " ++ value_text r.width now)
    else codes "-> " ++ value_text r.width r.stored

abbrev pub way_text : ReachedPage → LastAnswer → ℕ → List ℕ
way_text r answer now = if r.is_store then store_text r now else load_text r answer

abbrev pub access_text : ReachedPage → LastAnswer → ℕ → List ℕ
access_text r answer now =
    codes "[" ++ (hexadecimal r.address ++ (codes "] " ++ way_text r answer now))

abbrev pub accesses : Option ReachedPage → LastAnswer → ℕ → List (List ℕ)
accesses None answer now = []
accesses (Some r) answer now = one_text (access_text r answer now)

abbrev pub instruction_effects : ContextAhead → LastAnswer → ℕ → List (List ℕ)
instruction_effects a answer now = hypercalls a ++ accesses a.reached answer now

-- What was done, by the phase: an instruction, a byte of a call's buffer, or nothing.

abbrev pub copy_text : List ℕ → ℕ → List ℕ
copy_text words done = words ++ decimal done

unfoldable pub phase_effects : Phase → ContextAhead → LastAnswer → ℕ → List (List ℕ)
phase_effects Plain a answer now = instruction_effects a answer now
phase_effects (CopyIn done) a answer now = one_text (copy_text (codes "copies from its buffer, after byte ") done)
phase_effects Waiting a answer now = one_text (codes "waits for an answer")
phase_effects (CopyOut done total) a answer now = one_text (copy_text (codes "copies to its buffer, after byte ") done)

-- What the context then is.

abbrev pub is_plain : Phase → Bool
is_plain Plain = true
is_plain (CopyIn done) = false
is_plain Waiting = false
is_plain (CopyOut done total) = false

-- where it goes on after an instruction
abbrev pub goes_on : Bool → ℕ → ℕ → List (List ℕ)
goes_on plain was now = if plain then jump was now else []

abbrev pub left_or_on : ContextAhead → ContextSight → List (List ℕ)
left_or_on a now = if now.runs then goes_on (is_plain a.phase) a.sight.pc now.pc else one_text (codes "leaves")

abbrev pub context_after : ContextAhead → Option ContextSight → List (List ℕ)
context_after a None = one_text (codes "ends")
context_after a (Some now) = register_changes a.sight.regs now.regs 32 ++ left_or_on a now

abbrev pub done_inside : ContextAhead → LastAnswer → Option ContextSight → ℕ → List (List ℕ)
done_inside a answer now value = phase_effects a.phase a answer value ++ context_after a now

abbrev pub absent_text : ℕ → List ℕ
absent_text cause = codes "absent: " ++ cause_name cause

-- What a step did, by the last answer that it got.
unfoldable pub context_effects : ContextAhead → LastAnswer → Option ContextSight → ℕ → List (List ℕ)
context_effects a (last.Absent cause) now value = one_text (absent_text cause)
context_effects a last.Stopped now value = one_text (codes "stopped")
context_effects a last.Timer now value = one_text (codes "interrupted by the timer")
context_effects a last.Nothing now value = done_inside a last.Nothing now value
context_effects a last.Granted now value = done_inside a last.Granted now value
context_effects a (last.Word w) now value = done_inside a (last.Word w) now value

-- a context that was interrupted made no instruction
abbrev pub word_meant : ContextAhead → LastAnswer → Option ℕ
word_meant a last.Timer = None
word_meant a last.Nothing = a.word
word_meant a last.Granted = a.word
word_meant a (last.Absent cause) = a.word
word_meant a (last.Word value) = a.word
word_meant a last.Stopped = a.word

-- The line of a step of a program: step, hart, context, program counter, word, instruction, and what it did. The value is
-- the one that then stands where a store went.

-- digits, and blanks up to the end of their column
abbrev pub context_digits : List ℕ → List ℕ
context_digits digits = codes "c" ++ (digits ++ pad (5 - length digits))

abbrev pub context_column : ℕ → List ℕ
context_column ctx = context_digits (decimal ctx)

abbrev pub context_step_line : ℕ → ℕ → ℕ → ContextAhead → LastAnswer → Option ContextSight → ℕ → List ℕ
context_step_line step hart ctx a answer now value =
    front step (Some hart) ++ (context_column ctx
    ++ instruction_line (word_meant a answer) a.sight.pc (context_effects a answer now value))
