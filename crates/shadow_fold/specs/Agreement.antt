-- A live entry agrees with what a fresh walk gives.
use Rattle.std.specs.Prelude.{ℕ, ◌≡◌, ◌+◌, ◌*◌, List, Option, Some, None, Ok, IfSome}
use Rattle.cloak_base.specs.declared.names.Kind.{Kind}
use Rattle.cloak_base.specs.declared.names.Kind.TheVariants.{Store}
use Rattle.cloak_base.specs.declared.names.Mode.TheVariants.{U}
use Rattle.cloak_base.specs.declared.names.PageId.{PageId}
use Rattle.cloak_base.specs.declared.names.SpaceId.{SpaceId}
use Rattle.cloak_model.specs.declared.access.Access.{Access}
use Rattle.cloak_base.specs.Constants.{ram_start}
use Rattle.cloak_model.specs.Walk.{walk}
use Rattle.shadow_fold.specs.declared.entry.Entry.{Entry}
use Rattle.shadow_fold.specs.declared.entry.Regime.{Regime}
use Rattle.shadow_fold.specs.declared.entry.Regime.TheVariants.{Outside, Inside}

-- What agreement speaks of: the frames as the kernel sees them, the page that each frame holds, and the page that it is
-- owed.
pub record Present : Type 0 where
  pub ram : List (List ℕ)
  pub held : ℕ → Option PageId
  pub owed : ℕ → Option PageId

abbrev pub satp_in : Regime → ℕ
satp_in (Outside satp mode sum mxr) = satp
satp_in (Inside satp sum mxr space) = satp

-- an access of a regime
abbrev pub access_in : Regime → ℕ → Kind → Access
access_in (Outside satp mode sum mxr) va kind = record { mode = mode; sum = sum; mxr = mxr; va = va; kind = kind }
access_in (Inside satp sum mxr space) va kind = record { mode = U; sum = sum; mxr = mxr; va = va; kind = kind }

-- where an entry leads: the start of its frame
abbrev pub start_of : ℕ → ℕ
start_of f = ram_start + 4096 * f

-- An entry without a cloaked page has an outside target. One with a page has a target that holds it, and that is owed
-- it if the entry is for stores.
abbrev pub TargetAgrees : Present → Entry → Option PageId → Type 0
TargetAgrees p e None = p.held e.frame.0 ≡ None
TargetAgrees p e (Some q) = (p.held e.frame.0 ≡ Some q) × (e.kind ≡ Store → p.owed e.frame.0 ≡ Some q)

pub record EntryAgrees (p : Present) (e : Entry) : Type 0 where
  -- the walk of its page gives its frame and its table frames
  pub walks : walk p.ram (satp_in e.regime) (access_in e.regime (4096 * e.page) e.kind)
      ≡ Ok (record { pa = start_of e.frame.0; pt1 = e.pt1; pt0 = e.pt0 })
  -- no table frame is plain
  pub first : IfSome e.pt1 (λ f. p.held f.0 ≡ None)
  pub second : IfSome e.pt0 (λ f. p.held f.0 ≡ None)
  pub target : TargetAgrees p e e.cloaked

-- A program's regions are no part of memory: beside that, the space of a regime has the cloaked page of an entry at its
-- address.

abbrev pub HasInSpace : (SpaceId → ℕ → Option PageId) → Regime → ℕ → PageId → Type 0
HasInSpace mapped (Outside satp mode sum mxr) va q = ⊥
HasInSpace mapped (Inside satp sum mxr space) va q = mapped space va ≡ Some q

abbrev pub IsMapped : (SpaceId → ℕ → Option PageId) → Entry → Type 0
IsMapped mapped e = IfSome e.cloaked (HasInSpace mapped e.regime (4096 * e.page))
