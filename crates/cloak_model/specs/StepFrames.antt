-- The frames that the next step of a hart outside cloaked mode reads or writes, in order.
use Rattle.std.specs.Prelude.{ℕ, ◌%◌, ◌==◌, Bool, true, false, ◌&&◌, ◌||◌, List, [], ◌∷◌, ◌++◌, Option, Some, None, Ok, Err, length, if◌then◌else◌}
use Rattle.cloak_base.specs.declared.names.Kind.{Kind}
use Rattle.cloak_base.specs.declared.names.Kind.TheVariants.{Fetch, Load, Store}
use Rattle.cloak_base.specs.declared.names.Mode.{Mode}
use Rattle.cloak_base.specs.declared.names.Mode.TheVariants.{U, S}
use Rattle.rv_isa.specs.Table.{instruction}
use Rattle.rv_isa.specs.declared.instr.Instr.{Instr}
use Rattle.cloak_base.specs.Registers.{register}
use Rattle.cloak_model.specs.declared.outcome.Effect.{Effect}
use Rattle.cloak_model.specs.declared.outcome.Effect.TheVariants as does
use Rattle.cloak_model.specs.Csr.{satp_of, interrupt_due}
use Rattle.cloak_model.specs.Effect.{effect}
use Rattle.cloak_model.specs.Hart.{Hart}
use Rattle.cloak_base.specs.Constants.{frame_of}
use Rattle.cloak_model.specs.Memory.{is_in_ram, value_at}
use Rattle.cloak_model.specs.Walk.{Walk, walk, walk_tables}
use Rattle.cloak_model.specs.HostCalls.{is_transfer}
use Rattle.rv_atomic.specs.Table.{atomic_instruction}
use Rattle.rv_atomic.specs.declared.atomic.Atomic.{Atomic}
use Rattle.cloak_model.specs.KernelStep.{access, is_ecall, atomic_kind, ticked}

-- the frame that an access leads to, if it leads to one
abbrev pub target_frames : List (List ℕ) → Walk → List ℕ
target_frames ram (Ok walked) = if is_in_ram ram walked.pa then frame_of walked.pa ∷ [] else []
target_frames ram (Err cause) = []

-- the table frames of an access, also if it faults, and then its frame
unfoldable pub access_frames : Hart → List (List ℕ) → Kind → ℕ → List ℕ
access_frames h ram kind va =
    let satp = satp_of h.csrs in
    let a = access h kind va in
    walk_tables ram satp a ++ target_frames ram (walk ram satp a)

-- the frame of a disk transfer that is accepted: host calls 2 and 3 of S mode
unfoldable pub transfer_frames : Mode → Hart → List (List ℕ) → List ℕ → List ℕ
transfer_frames U h ram disk = []
transfer_frames S h ram disk =
    if (register h.regs 17 == 2 || register h.regs 17 == 3) && is_transfer (length ram) disk (register h.regs 10) (register h.regs 11)
    then frame_of (register h.regs 11) ∷ [] else []

-- what an instruction reaches after its fetch
unfoldable pub effect_frames : Hart → List (List ℕ) → List ℕ → Instr → Effect → List ℕ
effect_frames h ram disk i (does.Load rd va width is_signed) = access_frames h ram Load va
effect_frames h ram disk i (does.Store va width value) = access_frames h ram Store va
effect_frames h ram disk i does.System = if is_ecall i then transfer_frames h.mode h ram disk else []
effect_frames h ram disk i (does.Write rd value) = []
effect_frames h ram disk i (does.Jump rd link target) = []
effect_frames h ram disk i (does.Go target) = []
effect_frames h ram disk i does.Nothing = []
effect_frames h ram disk i (does.Raise cause value) = []

-- an atomic instruction reaches one word, also if SC stores nothing
abbrev pub atomic_frames : Hart → List (List ℕ) → Option Atomic → List ℕ
atomic_frames h ram None = []
atomic_frames h ram (Some a) =
    let va = register h.regs a.rs1 in if va % 4 == 0 then access_frames h ram (atomic_kind a.op) va else []

abbrev pub instruction_frames : Hart → List (List ℕ) → List ℕ → ℕ → Option Instr → List ℕ
instruction_frames h ram disk w None = atomic_frames h ram (atomic_instruction w)
instruction_frames h ram disk w (Some i) = effect_frames h ram disk i (effect i h.regs h.pc)

-- what follows the fetch: nothing if it faults
abbrev pub fetched_frames : Hart → List (List ℕ) → List ℕ → Walk → List ℕ
fetched_frames h ram disk (Ok walked) =
    if is_in_ram ram walked.pa then (let w = value_at ram walked.pa 4 in instruction_frames h ram disk w (instruction w)) else []
fetched_frames h ram disk (Err cause) = []

-- the frames of a step whose timer has fallen: none if it takes an interrupt
unfoldable pub step_frames_after : Bool → Hart → List (List ℕ) → List ℕ → List ℕ
step_frames_after true h ram disk = []
step_frames_after false h ram disk =
    access_frames h ram Fetch h.pc ++ fetched_frames h ram disk (walk ram (satp_of h.csrs) (access h Fetch h.pc))

unfoldable pub step_frames : Hart → List (List ℕ) → List ℕ → List ℕ
step_frames h ram disk = let h' = ticked h in step_frames_after (interrupt_due h'.mode h'.csrs) h' ram disk
