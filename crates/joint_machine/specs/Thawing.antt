-- How a machine is thawed.
use Rattle.std.specs.Prelude.{ℕ, ◌≡◌, ◌<◌, ◌%◌, true, List, [], ◌∷◌, All, length, slice_get, slice_index, slice_index_or, is_some, IfSome, Option, Some, None, if◌then◌else◌}
use Rattle.cloak_base.specs.Pages.{same_page}
use Rattle.cloak_base.specs.Random.{Random}
use Rattle.cloak_base.specs.declared.causes.Violation.{Violation}
use Rattle.cloak_base.specs.declared.names.Meta.{Meta}
use Rattle.cloak_base.specs.declared.names.PageId.{PageId}
use Rattle.cloak_model.specs.declared.image.Bundle.{Bundle}
use Rattle.cloak_model.specs.DomainState as program
use Rattle.cloak_model.specs.Hart.{Hart}
use Rattle.cloak_model.specs.Ledger.{Keys}
use Rattle.cloak_model.specs.Parts as model
use Rattle.cloak_model.specs.Resources.{Resources}
use Rattle.resource_map.specs.Kept.{IsInUse}
use Rattle.page_states.specs.Opening.{IsPlain}
use Rattle.protect_meta.specs.Table.{domains_of, meta_at}
use Rattle.frozen_state.specs.Continuing.{without_past}
use Rattle.frozen_state.specs.Refusing.{HasChangedDomain, HasChangedFrame, HasWrongPage, IsFirstChanged, IsFirstWrong, IsProgramOf, IsWholeDomain, IsWholeFrame, LacksDraws, LacksKeys, LiesIn}
use Rattle.frozen_state.specs.Ranges.{has_only, kept_bits, owed_page}
use Rattle.frozen_state.specs.Thawing.{CanGoOn, IsHart, keys_and_rest}
use Rattle.frozen_state.specs.declared.frozen.Frozen.{Frozen}
use Rattle.frozen_state.specs.declared.frozen.FrozenDomain.{FrozenDomain}
use Rattle.frozen_state.specs.declared.frozen.FrozenFrame.{FrozenFrame}
use Rattle.frozen_state.specs.declared.frozen.FrozenHart.{FrozenHart}
use Rattle.frozen_state.specs.declared.frozen.FrozenPage.{FrozenPage}
use Rattle.cloak_pager.specs.State.{PagerState, bytes_in, key_for, right_at}
use Rattle.cloak_pager.specs.Turns.{frame_numbered, holding}
use Rattle.cloak_pager.specs.declared.frame_right.FrameRight.TheVariants.{Outside, Changed}
use Rattle.hypercalls.specs.declared.domain.Domain.{Domain}
use Rattle.hypercalls.specs.Standing.{StandsFor, control_of, number_of}
use Rattle.joint_machine.specs.declared.joint.Joint.{Joint}
use Rattle.joint_machine.specs.declared.thaw_fault.ThawFault.{ThawFault}
use Rattle.joint_machine.specs.declared.thaw_fault.ThawFault.TheVariants as fault
use Rattle.joint_machine.specs.Freezing.{AreOwedOrOutside}
use Rattle.joint_machine.specs.Standing.{StandsForJoint}

-- Frames and pages.

-- a frame as it is thawed: it shows its bytes, or holds the page that it is owed, which seals to them
abbrev pub IsThawedFrame : PagerState → ℕ → FrozenFrame → Option (PageId × Meta) → Type 0
IsThawedFrame p f frame None = (right_at p f ≡ Outside (frame_numbered f)) × (bytes_in p f ≡ frame.bytes)
IsThawedFrame p f frame (Some owed) =
    (right_at p f ≡ Changed (holding f owed.0)) × IsPlain (key_for p owed.0) owed.1.iv frame.bytes (bytes_in p f)

-- what these tell of a page
abbrev pub meta_among : List FrozenPage → PageId → Option Meta
meta_among [] q = None
meta_among (p ∷ pages) q = if same_page q p.page then Some p.meta else meta_among pages q

-- A pager of which each frame is thawed, and that knows of pages what is recorded.
pub record IsThawedPager (p : PagerState) (keys : Keys) (domains : ℕ) (frames : List FrozenFrame)
    (recorded : List FrozenPage) : Type 0 where
  pub keys_are : p.keys ≡ keys
  pub domains_are : domains_of p.table ≡ domains
  pub count : length p.frames ≡ length frames
  pub each : (f : ℕ) (frame : FrozenFrame) → slice_get frames f ≡ Some frame → IsThawedFrame p f frame frame.owed
  pub metas : (q : PageId) → meta_at p.table q ≡ meta_among recorded q

-- each frame has these bytes now, and all else is as it was
pub record FillsFrames (old new : PagerState) (frames : List FrozenFrame) : Type 0 where
  pub count : length new.frames ≡ length old.frames
  pub rights : new.rights ≡ old.rights
  pub domains : domains_of new.table ≡ domains_of old.table
  pub keys : new.keys ≡ old.keys
  pub metas : (q : PageId) → meta_at new.table q ≡ meta_at old.table q
  pub bytes : (f : ℕ) (frame : FrozenFrame) → slice_get frames f ≡ Some frame → bytes_in new f ≡ frame.bytes

-- of pages these are recorded now, and all else is as it was
pub record Restores (old new : PagerState) (recorded : List FrozenPage) : Type 0 where
  pub frames : new.frames ≡ old.frames
  pub rights : new.rights ≡ old.rights
  pub domains : domains_of new.table ≡ domains_of old.table
  pub keys : new.keys ≡ old.keys
  pub metas : (q : PageId) → meta_at new.table q ≡ meta_among recorded q

-- each frame is outside and has these bytes
pub record AreFilled (p : PagerState) (frames : List FrozenFrame) : Type 0 where
  pub count : length p.rights ≡ length frames
  pub rights : (f : ℕ) → f < length frames → right_at p f ≡ Outside (frame_numbered f)
  pub bytes : (f : ℕ) (frame : FrozenFrame) → slice_get frames f ≡ Some frame → bytes_in p f ≡ frame.bytes

-- Each frame was thawed. What is known of pages stays, and the keys.
pub record AreThawedFrames (old new : PagerState) (frames : List FrozenFrame) : Type 0 where
  pub count : length new.frames ≡ length old.frames
  pub domains : domains_of new.table ≡ domains_of old.table
  pub keys : new.keys ≡ old.keys
  pub metas : (q : PageId) → meta_at new.table q ≡ meta_at old.table q
  pub each : (f : ℕ) (frame : FrozenFrame) → slice_get frames f ≡ Some frame → IsThawedFrame new f frame frame.owed

-- Harts.

-- the number of a control and status register with its word
abbrev pub number_of_entry : ℕ × ℕ → ℕ
number_of_entry entry = entry.0

-- a hart has its place for its number
abbrev pub AreNumberedHarts : List Hart → Type 0
AreNumberedHarts harts = (n : ℕ) → IfSome (slice_get harts n) (IsHart n)

-- its program counter is a multiple of 4, and its registers have only the bits that they keep
pub record IsSteadyHart (h : FrozenHart) : Type 0 where
  pub aligned : h.pc % 4 ≡ 0
  pub csrs : (i : ℕ) → i < 9 → has_only (slice_index kept_bits i) (slice_index h.csrs i) ≡ true

abbrev pub AreHarts : List FrozenHart → Type 0
AreHarts harts = All IsSteadyHart harts

-- Programs.

-- what else is shown of a domain is of these resources
pub record FitsResources (f : Frozen) (number : ℕ) (shown : FrozenDomain) (r : Resources) : Type 0 where
  pub owed : All (λ (frame : FrozenFrame). IfSome (owed_page frame) (LiesIn r number)) f.frames
  pub recorded : All (λ (p : FrozenPage). LiesIn r number p.page) f.recorded
  pub roots : (space : ℕ) → is_some (slice_index_or shown.roots space None) ≡ true → IsInUse r space

-- The program that is shown as this domain: it is one, it is the only one, and no load of it is known.
pub record IsThawedDomain (keys : Keys) (f : Frozen) (d : ℕ) (shown : FrozenDomain) (domain : Domain) : Type 0 where
  pub is : IsProgramOf keys f d shown (control_of domain)
  pub number : number_of domain ≡ d
  pub only : (control : program.Control) → IsProgramOf keys f d shown control →
      StandsFor domain (record { control = control; loads = [] })

-- all of them, in order
pub record AreThawedDomains (keys : Keys) (f : Frozen) (domains : List Domain) : Type 0 where
  pub count : length domains ≡ length f.domains
  pub each : (d : ℕ) (shown : FrozenDomain) (domain : Domain) → slice_get f.domains d ≡ Some shown →
      slice_get domains d ≡ Some domain → IsThawedDomain keys f d shown domain

-- the page table that is shown of a space
abbrev pub root_shown : Option FrozenDomain → ℕ → Option ℕ
root_shown None space = None
root_shown (Some shown) space = slice_index_or shown.roots space None

-- what ended a domain, if it ended
abbrev pub violation_shown : Option FrozenDomain → Option Violation
violation_shown None = None
violation_shown (Some shown) = shown.violation

-- What is met on the way.

-- why a pager is not thawed
abbrev pub IsFrameFault : List FrozenFrame → ThawFault → Type 0
IsFrameFault frames fault.NoMemory = Unit {0}
IsFrameFault frames (fault.Frame n) = IsFirstChanged IsWholeFrame frames n
IsFrameFault frames other = ⊥

-- why programs are not thawed
abbrev pub IsDomainFault : Keys → Frozen → ThawFault → Type 0
IsDomainFault keys f fault.NoMemory = Unit {0}
IsDomainFault keys f (fault.Form at) = IsFirstWrong keys f at
IsDomainFault keys f other = ⊥

-- The whole.

-- Under these keys each page that is shown has its digest, and each domain a program.
pub record IsThawable (keys : Keys) (f : Frozen) : Type 0 where
  pub domains : All IsWholeDomain f.domains
  pub frames : All IsWholeFrame f.frames
  pub programs : (d : ℕ) → IfSome (slice_get f.domains d) (λ shown. (control : program.Control) × IsProgramOf keys f d shown control)

-- The machine stands for each state with this value that can go on under these keys and with this rest of the stream, but
-- for its past.
pub record ThawsUnder (keys : Keys) (rest : Random) (f : Frozen) (joint : Joint) : Type 0 where
  pub frames : All IsWholeFrame f.frames
  pub programs : (d : ℕ) → IfSome (slice_get f.domains d) (λ shown. (control : program.Control) × IsProgramOf keys f d shown control)
  pub stands : (b : Bundle) (stream : Random) (j : model.Joint) → CanGoOn b stream f j → j.memory.ledger.keys ≡ keys →
      j.memory.ledger.stream ≡ rest → StandsForJoint joint (without_past j)
  pub harts : length joint.harts.items ≡ length f.harts
  pub settled : AreOwedOrOutside joint.memory.pager
  pub empty : joint.memory.shadows.live ≡ []

-- why there is none
abbrev pub IsFaultUnder : Keys → Frozen → ThawFault → Type 0
IsFaultUnder keys f fault.NoMemory = Unit {0}
IsFaultUnder keys f (fault.Frame n) = IsFirstChanged IsWholeFrame f.frames n
IsFaultUnder keys f (fault.Form at) = All IsWholeFrame f.frames × IsFirstWrong keys f at
IsFaultUnder keys f other = ⊥

-- The machine stands for each state with this value that can go on, but for its past.
pub record ThawsJoint (b : Bundle) (stream : Random) (f : Frozen) (joint : Joint) : Type 0 where
  pub keys : Keys
  pub rest : Random
  pub drawn : keys_and_rest b f.draws stream ≡ Some (keys, rest)
  pub thawable : IsThawable keys f
  pub stands : (j : model.Joint) → CanGoOn b stream f j → StandsForJoint joint (without_past j)

-- why there is no machine: the first test that fails
abbrev pub IsThawFault : Bundle → Random → Frozen → ThawFault → Type 0
IsThawFault b stream f fault.NoKey = LacksKeys b stream
IsThawFault b stream f fault.NoRandom = LacksDraws b stream f
IsThawFault b stream f (fault.Domain d) = HasChangedDomain b stream f d
IsThawFault b stream f (fault.Frame n) = HasChangedFrame b stream f n
IsThawFault b stream f (fault.Form at) = HasWrongPage b stream f at
IsThawFault b stream f fault.NoMemory = Unit {0}
