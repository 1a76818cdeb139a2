-- What a hart outside is about to do: the word at its program counter, and where its instruction reaches memory.
use Rattle.std.specs.Prelude.{ℕ, ◌%◌, ◌==◌, Bool, true, false, List, Option, Some, None, option_map, option_and_then, if◌then◌else◌}
use Rattle.cloak_base.specs.Registers.{register}
use Rattle.cloak_base.specs.declared.names.Kind.{Kind}
use Rattle.cloak_base.specs.declared.names.Kind.TheVariants.{Fetch, Load, Store}
use Rattle.rv_isa.specs.Table.{instruction}
use Rattle.rv_isa.specs.declared.instr.Instr.{Instr}
use Rattle.rv_atomic.specs.Table.{atomic_instruction}
use Rattle.rv_atomic.specs.declared.atomic.Atomic.{Atomic}
use Rattle.rv_atomic.specs.declared.atomic.AtomicOp.{AtomicOp}
use Rattle.rv_atomic.specs.declared.atomic.AtomicOp.TheVariants.{Lr}
use Rattle.cloak_model.specs.Effect.{effect}
use Rattle.cloak_model.specs.declared.outcome.Effect.{Effect}
use Rattle.cloak_model.specs.declared.outcome.Effect.TheVariants as does
use Rattle.cloak_model.specs.Hart.{Hart}
use Rattle.step_lines.specs.declared.ahead.HartAhead.{HartAhead}
use Rattle.step_lines.specs.declared.ahead.ReachedMemory.{ReachedMemory}
use Rattle.step_lines.specs.declared.reach.MemoryReach.{MemoryReach}
use Rattle.step_lines.specs.Leading.{led, value_there}
use Rattle.step_lines.specs.Sights.{sight_of}

-- Where an instruction reaches memory, with how many bytes.

abbrev pub reach : Bool → Bool → ℕ → ℕ → ℕ → Option MemoryReach
reach is_store is_atomic address width stored = Some (record {
  is_store = is_store;
  is_atomic = is_atomic;
  address = address;
  width = width;
  stored = stored;
})

-- by its effect
abbrev pub reach_of_effect : Effect → Option MemoryReach
reach_of_effect (does.Load rd address width is_signed) = reach false false address width 0
reach_of_effect (does.Store address width value) = reach true false address width value
reach_of_effect other = None

-- LR loads; SC and the operations are stores
abbrev pub is_atomic_store : AtomicOp → Bool
is_atomic_store Lr = false
is_atomic_store other = true

-- a word that is an atomic instruction, or none at all
abbrev pub reach_of_atomic : List ℕ → Option Atomic → Option MemoryReach
reach_of_atomic regs None = None
reach_of_atomic regs (Some a) =
    if register regs a.rs1 % 4 == 0 then reach (is_atomic_store a.op) true (register regs a.rs1) 4 0 else None

abbrev pub reach_by : List ℕ → ℕ → ℕ → Option Instr → Option MemoryReach
reach_by regs pc word None = reach_of_atomic regs (atomic_instruction word)
reach_by regs pc word (Some i) = reach_of_effect (effect i regs pc)

-- by the word, the registers and the program counter
abbrev pub reach_of : List ℕ → ℕ → ℕ → Option MemoryReach
reach_of regs pc word = reach_by regs pc word (instruction word)

-- What it reaches.

abbrev pub reach_kind : MemoryReach → Kind
reach_kind r = if r.is_store then Store else Load

-- the address in RAM, and the value that stands there
abbrev pub reached_at : List (List ℕ) → MemoryReach → ℕ → ReachedMemory
reached_at ram r pa = record {
  is_store = r.is_store;
  address = r.address;
  place = pa;
  width = r.width;
  value = value_there ram pa r.width;
}

abbrev pub reached_by : List (List ℕ) → Hart → MemoryReach → Option ReachedMemory
reached_by ram h r = option_map (reached_at ram r) (led ram h (reach_kind r) r.address)

abbrev pub reached_of : List (List ℕ) → Hart → ℕ → Option ReachedMemory
reached_of ram h word = option_and_then (reached_by ram h) (reach_of h.regs h.pc word)

-- if there is a word
abbrev pub reached_if : List (List ℕ) → Hart → Option ℕ → Option ReachedMemory
reached_if ram h word = option_and_then (reached_of ram h) word

-- the word at the program counter, if one can be fetched
abbrev pub word_ahead : List (List ℕ) → Hart → Option ℕ
word_ahead ram h = option_map (λ pa. value_there ram pa 4) (led ram h Fetch h.pc)

abbrev pub ahead_with : List (List ℕ) → Hart → Option ℕ → HartAhead
ahead_with ram h word =
    record { sight = sight_of h; word = word; reached = reached_if ram h word }

abbrev pub ahead_of : List (List ℕ) → Hart → HartAhead
ahead_of ram h = ahead_with ram h (word_ahead ram h)
