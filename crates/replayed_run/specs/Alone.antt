-- What the machines that run alone make of a record: the kernel, and each program of the image.
use Rattle.std.specs.Prelude.{ℕ, ◌≡◌, ◌⊎◌, ◌+◌, ◌*◌, Bool, false, nat_lt, List, length, slice_get, slice_index, Option, Some, None, is_some}
use Rattle.cloak_model.specs.declared.image.Bundle.{Bundle}
use Rattle.cloak_model.specs.declared.image.Program.{Program}
use Rattle.cloak_model.specs.Items.{Item}
use Rattle.cloak_model.specs.Contexts.{Context, context_at, domain_of, slot_of}
use Rattle.cloak_model.specs.Resources.{resource_at}
use Rattle.cloak_model.specs.Csr.{satp_of}
use Rattle.cloak_model.specs.Hart.{Hart}
use Rattle.cloak_model.specs.DomainAlone.{domain_alone}
use Rattle.cloak_model.specs.KernelAlone.{kernel_alone}
use Rattle.replayed_run.specs.declared.machines.HartWords.{HartWords}
use Rattle.replayed_run.specs.declared.machines.StandingContext.{StandingContext}

-- Each item fits the kernel alone, and each program alone.
pub record FitsAlone (b : Bundle) (items : List Item) : Type 0 where
  pub kernel : (kernel_alone b.kernel items).unfit ≡ None
  pub programs : (d : ℕ) (p : Program) → slice_get b.programs d ≡ Some p →
      (domain_alone d b.kernel.schedule p items).unfit ≡ None

-- an item does not fit a program alone, at this step
pub record IsUnfitForProgram (b : Bundle) (items : List Item) (step : ℕ) : Type 0 where
  pub d : ℕ
  pub p : Program
  pub program : slice_get b.programs d ≡ Some p
  pub unfit : (domain_alone d b.kernel.schedule p items).unfit ≡ Some step

-- an item does not fit one of these machines, at this step
abbrev pub IsUnfitAlone : Bundle → List Item → ℕ → Type 0
IsUnfitAlone b items step =
    ((kernel_alone b.kernel items).unfit ≡ Some step) ⊎ IsUnfitForProgram b items step

-- there is a program of this number
abbrev pub has_program : Bundle → ℕ → Bool
has_program b d = nat_lt d (length b.programs)

-- the context of a number, as its program alone has it
abbrev pub context_in : Bundle → List Item → ℕ → Option Program → Option Context
context_in b items ctx None = None
context_in b items ctx (Some p) =
    context_at (domain_alone (domain_of ctx) b.kernel.schedule p items).part.domain.control.contexts (slot_of ctx)

abbrev pub context_told : Bundle → List Item → ℕ → Option Context
context_told b items ctx = context_in b items ctx (slice_get b.programs (domain_of ctx))

-- its space, counted from 8 times the number of its program on, and the hart on which it runs
abbrev pub standing : ℕ → Option Context → Option StandingContext
standing ctx None = None
standing ctx (Some c) = Some (record { space = domain_of ctx * 8 + c.space; on = c.on })

abbrev pub standing_told : Bundle → List Item → ℕ → Option StandingContext
standing_told b items ctx = standing ctx (context_told b items ctx)

-- there is a resource of this number in a program, as that alone has it
abbrev pub resource_in : Bundle → List Item → ℕ → ℕ → Option Program → Bool
resource_in b items d n None = false
resource_in b items d n (Some p) =
    is_some (resource_at (domain_alone d b.kernel.schedule p items).part.domain.control.resources n)

abbrev pub has_resource : Bundle → List Item → ℕ → ℕ → Bool
has_resource b items d n = resource_in b items d n (slice_get b.programs d)

-- the context that a hart names as it asks to resume one, and its page table
abbrev pub words_of : Hart → HartWords
words_of h = record { ctx = slice_index h.regs 5; satp = satp_of h.csrs }
