-- How far a record is read by a machine, and what the machine and the screen then are.
use Rattle.std.specs.Prelude.{ℕ, ◌≡◌, ◌<◌, ◌≤◌, ◌^◌, true, List, [], length, Option, Some, None, Result, Ok, Err}
use Rattle.io_traits.specs.declared.sink.Sink as sinks
use Rattle.cloak_model.specs.declared.image.KernelImage.{KernelImage}
use Rattle.cloak_model.specs.Parts.{DomainPart}
use Rattle.cloak_model.specs.Items.{Item}
use Rattle.cloak_model.specs.Exchange.{Piece, Emits, shown_each}
use Rattle.cloak_model.specs.KernelAlone.{kernel_alone, opened_kernel}
use Rattle.cloak_model.specs.DomainAlone.{domain_alone_from, opened_with_part}
use Rattle.alone_views.specs.declared.kernel.KernelAlone.{KernelAlone}
use Rattle.alone_views.specs.declared.domain.DomainAlone.{DomainAlone}
use Rattle.alone_views.specs.KernelStanding.{StandsForKernel}
use Rattle.alone_views.specs.DomainStanding.{StandsForDomain}
use Rattle.alone_views.specs.declared.unfit.Unfit.{Unfit}
use Rattle.read_back.specs.declared.ending.Ending.{Ending}
use Rattle.read_back.specs.declared.ending.Ending.TheVariants as ending
use Rattle.read_back.specs.declared.view.Viewing.{Viewing}
use Rattle.read_back.specs.Reading.{FitsAs, IsReadTo}
use Rattle.read_back.specs.Screen.{GaveScreen}
use Rattle.read_back.specs.Answering.{viewed_unfit, program_unfit}

-- reading ends with an item that is unfit
abbrev pub unfit_ends : Result (Unit {0}) Unfit → Option Ending
unfit_ends (Ok u) = None
unfit_ends (Err unfit) = Some (ending.Unfit unfit.step)

-- or it breaks off, if the output failed
abbrev pub unfit_or_failed : Result (Unit {0}) (Option Unfit) → Option Ending
unfit_or_failed (Ok u) = None
unfit_or_failed (Err None) = None
unfit_or_failed (Err (Some unfit)) = Some (ending.Unfit unfit.step)

-- these items were given to the kernel alone, and reading ended so with the last of them, or goes on
pub record KernelItems (k : KernelImage) (machine : KernelAlone) (items : List Item) (ended : Option Ending) : Type 0 where
  pub fits : FitsAs (viewed_unfit k) items ended
  pub stands : StandsForKernel machine k.schedule (kernel_alone k items)

-- and the console was shown
pub record ViewsItems {E : Type 0} (gave : E → E → List Piece → Type 0) (e e' : E) (k : KernelImage)
    (machine : KernelAlone) (items : List Item) (ended : Option Ending) : Type 0 where
  pub given : KernelItems k machine items ended
  pub shows : Emits gave e e' (shown_each (kernel_alone k items).kernel.console)
  pub few : length (kernel_alone k items).kernel.console ≤ length items

-- what becomes of a kernel and its screen with these items
pub record TookInView {O : Type 0} (sink : sinks.Ghosts O) (first now : Viewing O) (items : List Item)
    (given : Result (Unit {0}) (Option Unfit)) : Type 0 where
  pub views : (k : KernelImage) → StandsForKernel first.kernel.now k.schedule (opened_kernel k) →
      ViewsItems (GaveScreen sink) first.screen.now now.screen.now k now.kernel.now items (unfit_or_failed given)
  pub failed : given ≡ Err None → now.screen.now.failed ≡ true
  pub same_kernel : now.kernel.ghost_name ≡ first.kernel.ghost_name
  pub same_screen : now.screen.ghost_name ≡ first.screen.ghost_name
  pub same_out : now.screen.now.out.ghost_name ≡ first.screen.now.out.ghost_name

-- these items were given to a program alone, and reading ended so with the last of them, or goes on
pub record ProgramItems (d : ℕ) (k : KernelImage) (p : DomainPart) (machine : DomainAlone) (items : List Item)
    (ended : Option Ending) : Type 0 where
  pub fits : FitsAs (program_unfit d k p) items ended
  pub stands : StandsForDomain d k.schedule machine (domain_alone_from d k.schedule p items)

-- and its loads can be counted
pub record SolosItems (d : ℕ) (k : KernelImage) (p : DomainPart) (machine : DomainAlone) (items : List Item)
    (ended : Option Ending) : Type 0 where
  pub given : ProgramItems d k p machine items ended
  pub few : length (domain_alone_from d k.schedule p items).part.domain.loads ≤ length items

-- A program that has completed no load begins as this part.
pub record Begins (d : ℕ) (k : KernelImage) (p : DomainPart) (machine : DomainAlone) : Type 0 where
  pub stands : StandsForDomain d k.schedule machine (opened_with_part p)
  pub no_loads : p.domain.loads ≡ []

-- what becomes of a program with these items
abbrev pub TookAlone : DomainAlone → DomainAlone → List Item → Result (Unit {0}) Unfit → Type 0
TookAlone first now items given =
    (d : ℕ) (k : KernelImage) (p : DomainPart) → Begins d k p first →
    SolosItems d k p now items (unfit_ends given)

-- the kernel alone was given the items of a record, and showed its console
pub record ViewsTo {E : Type 0} (gave : E → E → List Piece → Type 0) (e e' : E) (k : KernelImage) (machine : KernelAlone)
    (told : Option (List ℕ)) (reading reads : ℕ) (ended : Option Ending) : Type 0 where
  pub items : List Item
  pub read : IsReadTo (viewed_unfit k) told reading reads items ended
  pub stands : StandsForKernel machine k.schedule (kernel_alone k items)
  pub shows : Emits gave e e' (shown_each (kernel_alone k items).kernel.console)
  -- so its console can be counted
  pub few : length (kernel_alone k items).kernel.console < 2 ^ 64

-- a program alone was given the items of a record
pub record SolosTo (d : ℕ) (k : KernelImage) (p : DomainPart) (machine : DomainAlone) (told : Option (List ℕ))
    (reading reads : ℕ) (ended : Option Ending) : Type 0 where
  pub items : List Item
  pub read : IsReadTo (program_unfit d k p) told reading reads items ended
  pub stands : StandsForDomain d k.schedule machine (domain_alone_from d k.schedule p items)
  -- so its loads can be counted
  pub few : length (domain_alone_from d k.schedule p items).part.domain.loads < 2 ^ 64
