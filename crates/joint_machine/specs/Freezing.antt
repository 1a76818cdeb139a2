-- How a machine is frozen.
use Rattle.std.specs.Prelude.{ℕ, ◌≡◌, ◌<◌, ◌≤◌, ◌*◌, List, [], ◌∷◌, length, Option, Some, None, slice_index_or, vec_capacity}
use Rattle.std.specs.List.{flat_map}
use Rattle.cloak_base.specs.Random.{Random}
use Rattle.cloak_base.specs.declared.causes.Violation.{Violation}
use Rattle.cloak_base.specs.declared.names.Meta.{Meta}
use Rattle.cloak_base.specs.declared.names.PageId.{PageId}
use Rattle.cloak_model.specs.Cloaking.{CloakedMemory, owed_in}
use Rattle.cloak_model.specs.DomainState as program
use Rattle.cloak_model.specs.Sealing.{Chained}
use Rattle.cloak_model.specs.Parts as model
use Rattle.protect_meta.specs.Table.{MetaRow, meta_at}
use Rattle.cloak_pager.specs.State.{PagerState, bytes_in, held_in, owed_at}
use Rattle.frozen_state.specs.FrozenState.{Drawn}
use Rattle.frozen_state.specs.declared.frozen.FrozenPage.{FrozenPage}
use Rattle.frozen_state.specs.declared.room.FrozenRoom.{FrozenRoom}
use Rattle.hypercalls.specs.declared.domain.Domain.{Domain}
use Rattle.hypercalls.specs.Standing.{control_of}
use Rattle.joint_machine.specs.Standing.{AreDomains}
use Rattle.joint_machine.specs.Turning.{AreRoots}

-- A call made what is told, and left these vectors; or there were too few.
abbrev pub DrawsAs : {A : Type 0} → Option A → Random → Drawn A → Type 0
DrawsAs None left told = told ≡ None
DrawsAs (Some x) left told = told ≡ Some (x, left)

-- Frames.

-- each frame is outside, or holds a page that it is owed
abbrev pub AreOwedOrOutside : PagerState → Type 0
AreOwedOrOutside p = (k : ℕ) → held_in p k ≡ owed_at p k

-- what a frame has that is owed this: what the kernel sees, or the newest bytes of the page that it is owed
abbrev pub newest_in : CloakedMemory → ℕ → Option PageId → List ℕ
newest_in m f None = slice_index_or m.ram f []
newest_in m f (Some q) = m.plain q

-- frame f of a pager is that of a memory
pub record TellsFrame (p : PagerState) (m : CloakedMemory) (f : ℕ) : Type 0 where
  pub owed : owed_in m f ≡ owed_at p f
  pub bytes : bytes_in p f ≡ newest_in m f (owed_in m f)

-- the pager has the keys of the memory, under which pages are sealed by chained AES
pub record TellsKeys (p : PagerState) (m : CloakedMemory) : Type 0 where
  pub keys : m.ledger.keys ≡ p.keys
  pub chained : p.keys.seal ≡ Chained

-- all frames are, and the keys
pub record TellsFrames (p : PagerState) (m : CloakedMemory) : Type 0 where
  pub keys : TellsKeys p m
  pub count : length m.ram ≡ length p.frames
  pub each : (f : ℕ) → f < length p.frames → TellsFrame p m f

-- Pages.

-- a page, if something is known of it
abbrev pub page_known : PageId → Option Meta → List FrozenPage
page_known q None = []
page_known q (Some t) = record { page = q; meta = t } ∷ []

-- those of these pages of which something is known
unfoldable pub pages_known : MetaRow → List PageId → List FrozenPage
pages_known t pages = flat_map (λ (q : PageId). page_known q (meta_at t q)) pages

-- Domains.

-- of a state of the joint machine this is the program of this number, with keys, page tables and its violation
pub record TellsDomain (p : PagerState) (roots : List (List (Option ℕ))) (violation : Option Violation) (number : ℕ)
    (domain : Domain) (d : program.Domain) (j : model.Joint) : Type 0 where
  pub keys : j.memory.ledger.keys ≡ p.keys
  pub roots_are : AreRoots roots j.memory.ledger.root
  pub ended : violation ≡ slice_index_or j.ended number None
  pub control : d.control ≡ control_of domain

-- of a state of the joint machine these are the programs with keys, page tables and violations
pub record TellsDomains (p : PagerState) (roots : List (List (Option ℕ))) (ended : List (Option Violation))
    (domains : List Domain) (j : model.Joint) : Type 0 where
  pub keys : j.memory.ledger.keys ≡ p.keys
  pub roots_are : AreRoots roots j.memory.ledger.root
  pub ended_are : ended ≡ j.ended
  pub domains_are : AreDomains domains j.domains

-- Room.

-- Nothing is in these lists yet, and there is room for this many harts, frames and programs, and for each page that
-- this many programs can have.
pub record HasRoom (harts frames domains : ℕ) (room : FrozenRoom) : Type 0 where
  pub no_domain : room.domains.items ≡ []
  pub no_hart : room.harts.items ≡ []
  pub no_frame : room.frames.items ≡ []
  pub no_page : room.recorded.items ≡ []
  pub for_domains : domains ≤ vec_capacity room.domains
  pub for_harts : harts ≤ vec_capacity room.harts
  pub for_frames : frames ≤ vec_capacity room.frames
  pub for_pages : domains * 16384 ≤ vec_capacity room.recorded
