-- How a step of a hart outside ended, beside what changed: a host call, a trap, or a context that is resumed.
use Rattle.std.specs.Prelude.{ℕ, ◌==◌, ◌||◌, Bool, true, false, List, [], ◌∷◌, ◌++◌, codes, decimal, slice_index, Option, Some, None, if◌then◌else◌}
use Rattle.cloak_model.specs.Csr.{timer_cause}
use Rattle.cloak_model.specs.Report.{hexadecimal}
use Rattle.cloak_model.specs.declared.outcome.Kernel.{Kernel}
use Rattle.cloak_model.specs.declared.outcome.Kernel.TheVariants.{Stay, Put, Halt, Resume, Trapped}
use Rattle.record_text.specs.Names.{cause_name}
use Rattle.step_lines.specs.declared.ahead.HartAhead.{HartAhead}
use Rattle.step_lines.specs.declared.sight.HartSight.{HartSight}
use Rattle.step_lines.specs.Changes.{changes}
use Rattle.step_lines.specs.Sights.{cause_in, value_in}

-- Host calls, by the number in x17, with x10 and x11.

unfoldable pub host_name : ℕ → List ℕ
host_name number =
    if number == 0 then codes "PUT" else
    if number == 1 then codes "TIMER" else
    if number == 2 then codes "READ" else
    if number == 3 then codes "WRITE" else
    if number == 4 then codes "HALT" else codes "that is none:"

abbrev pub host_text : List ℕ → List ℕ
host_text regs =
    codes "host " ++ (host_name (slice_index regs 17) ++ (codes " " ++ (hexadecimal (slice_index regs 10)
    ++ (codes " " ++ hexadecimal (slice_index regs 11)))))

-- the word is that of ECALL
abbrev pub is_ecall_word : Option ℕ → Bool
is_ecall_word None = false
is_ecall_word (Some word) = word == 0x73

abbrev pub host_if : Bool → List ℕ → List (List ℕ)
host_if made regs = if made then host_text regs ∷ [] else []

-- An ECALL in S mode that resumes no context is a host call. (In U mode it traps.)
abbrev pub host_calls : HartAhead → List (List ℕ)
host_calls a = host_if (is_ecall_word a.word) a.sight.regs

-- Traps.

-- a breakpoint, a call and the timer tell nothing in stval
abbrev pub tells_value : ℕ → Bool
tells_value cause = if (cause == 3) || ((cause == 8) || (cause == timer_cause)) then false else true

abbrev pub trap_value : Bool → ℕ → List ℕ
trap_value tells value = if tells then codes ", stval " ++ hexadecimal value else []

-- cause, value and trap vector, as the hart has them after the step
abbrev pub trap_text : HartSight → List ℕ
trap_text now =
    codes "trap: " ++ (cause_name (cause_in now) ++ (trap_value (tells_value (cause_in now)) (value_in now)
    ++ (codes ", to " ++ hexadecimal now.pc)))

abbrev pub resume_text : ℕ → ℕ → List ℕ
resume_text ctx answer = codes "RESUME context " ++ (decimal ctx ++ (codes ", answer " ++ hexadecimal answer))

-- a host call, if there was one, and what changed
abbrev pub done_effects : HartAhead → HartSight → List (List ℕ) → List (List ℕ)
done_effects a now ram = host_calls a ++ changes a.reached a.sight now ram

-- What a step did, by how it ended: what it was about to do, the hart after it, and the frames after it.
unfoldable pub step_effects : HartAhead → HartSight → List (List ℕ) → Kernel → List (List ℕ)
step_effects a now ram Stay = done_effects a now ram
step_effects a now ram (Put b) = done_effects a now ram
step_effects a now ram (Halt value) = done_effects a now ram
step_effects a now ram Trapped = trap_text now ∷ []
step_effects a now ram (Resume ctx answer) = resume_text ctx answer ∷ []

-- the step took the timer interrupt, and made no instruction
abbrev pub is_interrupt : HartSight → Kernel → Bool
is_interrupt now Trapped = cause_in now == timer_cause
is_interrupt now other = false

-- the word that was executed, or would have been
abbrev pub executed_word : HartAhead → HartSight → Kernel → Option ℕ
executed_word a now ending = if is_interrupt now ending then None else a.word
