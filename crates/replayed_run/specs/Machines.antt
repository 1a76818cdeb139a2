-- What the machines that run alone stand for after the items of a record.
use Rattle.std.specs.Prelude.{ℕ, ◌≡◌, true, List, [], ◌∷◌, ◌++◌, length, slice_get, slice_index_or, Some, None, Result, Ok, Err}
use Rattle.cloak_model.specs.declared.image.Bundle.{Bundle}
use Rattle.cloak_model.specs.declared.image.Program.{Program}
use Rattle.cloak_model.specs.Items.{Item}
use Rattle.cloak_model.specs.DomainAlone.{domain_alone}
use Rattle.cloak_model.specs.KernelAlone as model
use Rattle.cloak_model.specs.KernelAlone.{kernel_alone}
use Rattle.alone_views.specs.declared.domain.DomainAlone.{DomainAlone}
use Rattle.alone_views.specs.declared.unfit.Unfit.{Unfit}
use Rattle.alone_views.specs.DomainStanding.{StandsForDomain}
use Rattle.alone_views.specs.KernelEnding.{ending_in, is_end, plain_ending}
use Rattle.alone_views.specs.KernelStanding.{StandsForKernel}
use Rattle.replayed_run.specs.Alone.{FitsAlone, IsUnfitAlone, IsUnfitForProgram}
use Rattle.replayed_run.specs.declared.machines.Machines.{Machines}

-- A machine stands for a program alone after these items, which fit it.
pub record ProgramStands (b : Bundle) (items : List Item) (d : ℕ) (p : Program) (machine : DomainAlone) : Type 0 where
  pub stands : StandsForDomain d b.kernel.schedule machine (domain_alone d b.kernel.schedule p items)
  pub fits : (domain_alone d b.kernel.schedule p items).unfit ≡ None

-- There is a machine for each program of the image.
pub record ProgramsStand (b : Bundle) (items : List Item) (machines : List DomainAlone) : Type 0 where
  pub count : length machines ≡ length b.programs
  pub each : (d : ℕ) (p : Program) (other : DomainAlone) → slice_get b.programs d ≡ Some p →
      ProgramStands b items d p (slice_index_or machines d other)

-- Each program took the last of these items, or one did not.
abbrev pub ProgramsTake : Bundle → List Item → List DomainAlone → Result (Unit {0}) Unfit → Type 0
ProgramsTake b items machines (Ok done) = ProgramsStand b items machines
ProgramsTake b items machines (Err unfit) = IsUnfitForProgram b items unfit.step

-- The kernel alone and each program alone took these items, which fit them.
pub record StandAlone (b : Bundle) (items : List Item) (machines : Machines) : Type 0 where
  pub kernel : StandsForKernel machines.kernel b.kernel.schedule (kernel_alone b.kernel items)
  pub programs : ProgramsStand b items machines.programs.items
  pub fits : FitsAlone b items

-- If this item ends a step of a hart outside, the last plain step is the one that the hart then makes.
pub record EndsStep (b : Bundle) (items : List Item) (i : Item) (machines : Machines) : Type 0 where
  pub ends : is_end i ≡ true → (number : ℕ) → (kernel_alone b.kernel items).stage ≡ model.Outside number →
      ending_in machines.kernel ≡ plain_ending number (kernel_alone b.kernel items)

-- After these items the machines took one more.
pub record TookItem (b : Bundle) (items : List Item) (i : Item) (machines : Machines) : Type 0 where
  pub stands : StandAlone b (items ++ i ∷ []) machines
  pub step : EndsStep b items i machines

-- After these items each machine took one more, or one did not.
abbrev pub TakeAlone : Bundle → List Item → Item → Machines → Result (Unit {0}) Unfit → Type 0
TakeAlone b items i machines (Ok done) = TookItem b items i machines
TakeAlone b items i machines (Err unfit) = IsUnfitAlone b (items ++ i ∷ []) unfit.step
