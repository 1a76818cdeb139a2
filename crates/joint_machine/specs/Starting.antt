-- How far a machine is as it opens.
use Rattle.std.specs.Prelude.{ℕ, ◌≡◌, ◌≢◌, ◌<◌, ◌≤◌, Bool, true, false, List, [], Option, Some, None, All, length, map, filter, replicate, slice_index_or}
use Rattle.cloak_base.specs.declared.names.PageId.{PageId}
use Rattle.cloak_base.specs.Random.{Random}
use Rattle.cloak_model.specs.Items.{Item}
use Rattle.cloak_model.specs.Items.{Cipher}
use Rattle.cloak_model.specs.Cloaking.{CloakedMemory}
use Rattle.cloak_model.specs.declared.image.Bundle.{Bundle}
use Rattle.cloak_model.specs.Beginning.{stored_keys}
use Rattle.cloak_model.specs.Opening.{drawn_keys, filled_up, started_domains, started_harts, started_memory}
use Rattle.protect_meta.specs.Table.{meta_at}
use Rattle.cloak_pager.specs.State.{PagerState, held_in}
use Rattle.cloak_pager.specs.Turns.{Turns}
use Rattle.cloaked_side.specs.Holding.{Holds, domains_in, frames_of}
use Rattle.cloaked_side.specs.declared.memory.Memory.{Memory}
use Rattle.joint_machine.specs.Placings.{covers}
use Rattle.joint_machine.specs.declared.joint.Joint.{Joint}
use Rattle.joint_machine.specs.declared.placings.Placing.{Placing}
use Rattle.joint_machine.specs.declared.reading.JointParts.{JointParts}
use Rattle.joint_machine.specs.Programs.{AreNumbered}
use Rattle.joint_machine.specs.Standing.{AreDomains}

-- Keys.

-- Keys were drawn: these are the first draws of the stream, in order, and zeros for the others. This is left of it.
pub record DrawsKeys (count : ℕ) (stream left : Random) (keys : List (List ℕ)) : Type 0 where
  pub drawn : List (List ℕ)
  pub are : drawn_keys count stream ≡ Some (drawn, left)
  pub filled : keys ≡ filled_up (replicate 16 0) drawn

-- RAM.

-- each frame has the length of a page
abbrev pub ArePages : List (List ℕ) → Type 0
ArePages frames = All (λ page. length page ≡ 4096) frames

-- the pager has these frames now, and all else is as it was
abbrev pub HasFrames : PagerState → PagerState → List (List ℕ) → Type 0
HasFrames old new frames = Turns old new frames old.rights (meta_at old.table)

-- Pages of programs.

-- No frame holds a page, and from page n of domain d on no page was shown.
pub record IsReady (p : PagerState) (d n : ℕ) : Type 0 where
  pub outside : (k : ℕ) → held_in p k ≡ None
  pub rest : (q : PageId) → q.domain ≡ d → n ≤ q.page → meta_at p.table q ≡ None
  pub later : (q : PageId) → d < q.domain → meta_at p.table q ≡ None

-- what is known of pages stays, but for those of the first resource of a domain
abbrev pub KeepsUnplaced : PagerState → PagerState → Type 0
KeepsUnplaced old new = (q : PageId) → q.resource ≢ 0 → meta_at new.table q ≡ meta_at old.table q

-- the memory is the one in which pages were placed, or a draw was missing
abbrev pub PlacesTo : Memory → Bool → Option CloakedMemory → Type 0
PlacesTo memory true None = ⊥
PlacesTo memory true (Some m) = Holds memory m
PlacesTo memory false None = Unit {0}
PlacesTo memory false (Some m) = ⊥

-- What is shown.

-- the item of a frame
abbrev pub frame_item : List (List ℕ) → ℕ → Item
frame_item frames f = Cipher f (slice_index_or frames f [])

-- the items of those of these frames in which a page is placed
abbrev pub placed_among : List Placing → List (List ℕ) → List ℕ → List Item
placed_among placings frames numbers = map (frame_item frames) (filter (covers placings) numbers)

-- Only reads were made, and counted: they have no part in what a memory stands for.
pub record IsReadOnly (old new : Memory) : Type 0 where
  pub frames : new.pager.frames ≡ old.pager.frames
  pub rights : new.pager.rights ≡ old.pager.rights
  pub domains : domains_in new ≡ domains_in old
  pub shadows : new.shadows ≡ old.shadows
  pub holds : (m : CloakedMemory) → Holds old m → Holds new m

-- Parts.

-- the parts of a machine under these keys before any page is placed
pub record StartsParts (b : Bundle) (keys : List (List ℕ)) (stream : Random) (parts : JointParts) : Type 0 where
  pub harts : parts.harts.items ≡ started_harts b.kernel.entry b.kernel.harts
  pub memory : Holds parts.memory (started_memory b.kernel (stored_keys b keys) stream)
  pub frames : frames_of parts.memory ≡ b.kernel.frames
  pub served : domains_in parts.memory ≡ length b.programs
  pub ready : IsReady parts.memory.pager 0 0
  pub empty : parts.memory.shadows.live ≡ []
  pub domains : AreDomains parts.domains.items (started_domains 0 b.programs)
  pub count : length parts.domains.items ≡ length b.programs
  pub numbered : AreNumbered parts.domains.items
  pub disk : parts.disk ≡ b.kernel.disk
  pub ended : parts.ended ≡ replicate 4 None
  pub refused : parts.refused ≡ 0

-- a machine has these parts
pub record IsOfParts (joint : Joint) (parts : JointParts) : Type 0 where
  pub harts : joint.harts ≡ parts.harts
  pub memory : joint.memory ≡ parts.memory
  pub domains : joint.domains ≡ parts.domains
  pub disk : joint.disk ≡ parts.disk
  pub ended : joint.ended ≡ parts.ended
  pub refused : joint.refused ≡ parts.refused
