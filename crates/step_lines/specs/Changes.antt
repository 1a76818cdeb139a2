-- What changed of a hart and of memory by a step.
use Rattle.std.specs.Prelude.{ℕ, zero, suc, ◌+◌, ◌-◌, ◌*◌, ◌%◌, ◌^◌, ◌==◌, Bool, List, [], ◌∷◌, ◌++◌, codes, decimal, drop, slice_index, Option, Some, None, if◌then◌else◌}
use Rattle.cloak_model.specs.Report.{hexadecimal}
use Rattle.step_lines.specs.declared.ahead.ReachedMemory.{ReachedMemory}
use Rattle.step_lines.specs.declared.sight.HartSight.{HartSight}
use Rattle.step_lines.specs.Leading.{value_there}

-- a text, unless nothing changed
abbrev pub unless : Bool → List ℕ → List (List ℕ)
unless same text = if same then [] else text ∷ []

-- a word under its name
abbrev pub word_text : List ℕ → ℕ → List ℕ
word_text name word = name ++ (codes "=" ++ hexadecimal word)

-- Registers, by their numbers.

abbrev pub register_text : ℕ → ℕ → List ℕ
register_text i word = codes "x" ++ (decimal i ++ (codes "=" ++ hexadecimal word))

abbrev pub register_change : List ℕ → List ℕ → ℕ → List (List ℕ)
register_change was now i = unless (slice_index was i == slice_index now i) (register_text i (slice_index now i))

-- those below a number
abbrev pub register_changes : List ℕ → List ℕ → ℕ → List (List ℕ)
register_changes was now zero = []
register_changes was now (suc i) = register_changes was now i ++ register_change was now i

-- Control and status registers.

abbrev pub csr_change : List ℕ → List ℕ → List ℕ → ℕ → List (List ℕ)
csr_change name was now i = unless (slice_index was i == slice_index now i) (word_text name (slice_index now i))

abbrev pub csr_changes : List ℕ → List ℕ → List (List ℕ)
csr_changes was now =
    csr_change (codes "sstatus") was now 0 ++ (csr_change (codes "sie") was now 1
    ++ (csr_change (codes "stvec") was now 2 ++ (csr_change (codes "sscratch") was now 3
    ++ (csr_change (codes "sepc") was now 4 ++ (csr_change (codes "scause") was now 5
    ++ (csr_change (codes "stval") was now 6 ++ (csr_change (codes "sip") was now 7
    ++ csr_change (codes "satp") was now 8)))))))

abbrev pub is_next : ℕ → ℕ → Bool
is_next was now = now == (was + 4) % 2 ^ 32

abbrev pub jump_text : ℕ → List ℕ
jump_text now = codes "to " ++ hexadecimal now

-- where it goes on, unless that is the next instruction
abbrev pub jump : ℕ → ℕ → List (List ℕ)
jump was now = unless (is_next was now) (jump_text now)

-- Memory.

-- a value of so many bytes
abbrev pub value_text : ℕ → ℕ → List ℕ
value_text width value = drop (8 - 2 * width) (hexadecimal value)

-- where an address leads, unless that is the same
abbrev pub other_text : Bool → ℕ → List ℕ
other_text same place = if same then [] else codes "=" ++ hexadecimal place

-- an address, and where it leads
abbrev pub place_text : ℕ → ℕ → List ℕ
place_text address place =
    codes "[" ++ (hexadecimal address ++ (other_text (address == place) place ++ codes "] "))

-- what was loaded; what a store found and left
abbrev pub reached_text : ReachedMemory → ℕ → List ℕ
reached_text r now =
    place_text r.address r.place
    ++ (if r.is_store then value_text r.width r.value ++ (codes " -> " ++ value_text r.width now)
    else codes "is " ++ value_text r.width r.value)

abbrev pub memory_change : List (List ℕ) → Option ReachedMemory → List (List ℕ)
memory_change ram None = []
memory_change ram (Some r) = reached_text r (value_there ram r.place r.width) ∷ []

-- All, over the frames after the step.
abbrev pub changes : Option ReachedMemory → HartSight → HartSight → List (List ℕ) → List (List ℕ)
changes reached was now ram =
    memory_change ram reached
    ++ (register_changes was.regs now.regs 32 ++ (csr_changes was.csrs now.csrs ++ jump was.pc now.pc))
