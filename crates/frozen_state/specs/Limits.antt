-- What is kept by programs, and of them, at every moment of a run: the limits of a program (its contexts, its resources and
-- the regions of its spaces), and how the rest of the joint machine agrees with its programs.
use Rattle.std.specs.Prelude.{ℕ, ◌≡◌, ◌<◌, ◌≤◌, ◌+◌, ◌%◌, ◌^◌, ◌⊎◌, Bool, false, List, length, slice_get, slice_index_or, All, AllPairs, IfSome, IsSomeAnd, Option, Some, None, is_some}
use Rattle.cloak_base.specs.Registers.{register}
use Rattle.cloak_base.specs.declared.names.HartId.{HartId}
use Rattle.cloak_base.specs.declared.names.PageId.{PageId}
use Rattle.cloak_base.specs.declared.names.SpaceId.{SpaceId}
use Rattle.cloak_model.specs.declared.context.Phase.{Phase}
use Rattle.cloak_model.specs.declared.context.Phase.TheVariants.{Plain, CopyIn, Waiting, CopyOut}
use Rattle.cloak_model.specs.declared.context.PageWord.{PageWord}
use Rattle.cloak_model.specs.declared.resource.Region.{Region}
use Rattle.cloak_model.specs.Contexts.{Context, context_at}
use Rattle.cloak_model.specs.DomainState.{Control, Domain}
use Rattle.cloak_model.specs.Parts.{Joint}
use Rattle.cloak_model.specs.Resources.{Resources, regions_in}
use Rattle.resource_map.specs.Kept.{IsInUse, IsSound, IsSoundRegion, EndsBelow}

-- Contexts.

-- A call with a buffer: buffer (x11) and area (x13) have as many bytes as x12 says. These are at most 4096, and neither
-- buffer nor area goes past the end of the addresses.
pub record IsCall (regs : List ℕ) : Type 0 where
  pub few : register regs 12 ≤ 4096
  pub buffer : register regs 11 + register regs 12 ≤ 2 ^ 32
  pub area : register regs 13 + register regs 12 ≤ 2 ^ 32

-- A call whose bytes go in is a WRITE or an OPEN, and no more bytes went in than it has.
pub record IsCopyIn (regs : List ℕ) (done : ℕ) : Type 0 where
  pub number : (register regs 16 ≡ 1) ⊎ (register regs 16 ≡ 2)
  pub part : done ≤ register regs 12
  pub call : IsCall regs

-- A call whose bytes come out is a READ. No more came out than are to come, and these are no more than its length.
pub record IsCopyOut (regs : List ℕ) (done total : ℕ) : Type 0 where
  pub number : register regs 16 ≡ 3
  pub part : done ≤ total
  pub whole : total ≤ register regs 12
  pub call : IsCall regs

-- The registers are those that the phase needs. A call that waits has them if it has a buffer: its number is 1 to 3.
abbrev pub IsPhase : List ℕ → Phase → Type 0
IsPhase regs Plain = Unit {0}
IsPhase regs (CopyIn done) = IsCopyIn regs done
IsPhase regs Waiting = 1 ≤ register regs 16 → register regs 16 ≤ 3 → IsCall regs
IsPhase regs (CopyOut done total) = IsCopyOut regs done total

-- A context whose call waits for its answer runs on no hart.
abbrev pub WaitsOnNoHart : Phase → Option HartId → Type 0
WaitsOnNoHart Plain on = Unit {0}
WaitsOnNoHart (CopyIn done) on = Unit {0}
WaitsOnNoHart Waiting on = on ≡ None
WaitsOnNoHart (CopyOut done total) on = Unit {0}

-- A word of a page that a program can have: there are 16 numbers of resources, and a resource has 1024 pages at most.
pub record IsPageWord (word : PageWord) : Type 0 where
  pub resource : word.resource < 16
  pub page : word.page < 1024
  pub inside : word.at < 4096
  pub aligned : word.at % 4 ≡ 0

-- A context, whatever its hart and its space are: 32 registers, of which register 0 is 0, a program counter that is a
-- multiple of 4, a phase that has the registers that it needs, and, if it has reserved a word, such a place of that.
pub record IsSteady (c : Context) : Type 0 where
  pub registers : length c.regs ≡ 32
  pub zero_register : register c.regs 0 ≡ 0
  pub aligned : c.pc % 4 ≡ 0
  pub phase : IsPhase c.regs c.phase
  pub mark : IfSome c.mark IsPageWord

-- A context of a program. If it runs, its hart is one of four. Its space is in use.
pub record IsContext (r : Resources) (c : Context) : Type 0 where
  pub steady : IsSteady c
  pub waiting : WaitsOnNoHart c.phase c.on
  pub hart : IfSome c.on (λ hart. hart.0 < 4)
  pub space : IsInUse r c.space

-- Spaces, resources, programs.

-- The regions of one space: at most 16. Each begins at a page, is not empty, and ends at the end of the addresses at the
-- latest. Each ends at or below the start of every later one.
pub record IsSpace (regions : List Region) : Type 0 where
  pub few : length regions ≤ 16
  pub each : All IsSoundRegion regions
  pub apart : AllPairs EndsBelow regions

-- A program: 8 slots, each free or with a context; its resources fit together, and the regions of each space do. IsSound
-- says of resources: there are 16 numbers and 8 spaces; each resource has a page at least, and all have 1024 at most; no
-- two files have one number; the space of a private one is in use; and a region is of a resource that its space may map,
-- and within the pages of that.
pub record KeepsLimits (d : Control) : Type 0 where
  pub slots : length d.contexts ≡ 8
  pub contexts : (slot : ℕ) → IfSome (context_at d.contexts slot) (IsContext d.resources)
  pub resources : IsSound d.resources
  pub regions : (space : ℕ) → IsSpace (regions_in d.resources space)

-- The joint machine.

-- there is such a program, and it has ended
abbrev pub has_ended : Option Domain → Bool
has_ended None = false
has_ended (Some d) = d.control.ended

-- There are four places for what ended a program. That of a number is taken exactly if there is such a program and it has
-- ended.
pub record TellsEnded (j : Joint) : Type 0 where
  pub four : length j.ended ≡ 4
  pub taken : (d : ℕ) → is_some (slice_index_or j.ended d None) ≡ has_ended (slice_get j.domains d)

-- There is such a program, and this space of it is in use.
abbrev pub IsThere : Joint → SpaceId → Type 0
IsThere j s = IsSomeAnd (slice_get j.domains s.domain) (λ d. IsInUse d.control.resources s.number)

-- Each page stands at most once among the pages that the frames are owed.
abbrev pub IsOnce : List (Option PageId) → Type 0
IsOnce owed = (f g : ℕ) (q : PageId) → slice_index_or owed f None ≡ Some q → slice_index_or owed g None ≡ Some q → f ≡ g
