-- What the rules of cloaking tell of each call, and when a call of the pager follows it: questions of a memory, in the
-- words of those of a world (`cloak_model`, `specs/Asking`).
use Rattle.std.specs.Prelude.{ℕ, ◌≡◌, Bool, true, false, ◌&&◌, ◌||◌, List, [], ◌∷◌, Option, Some, None, is_some}
use Rattle.std.specs.Prelude.{option_map, replicate, slice_index_or, unwrap_or}
use Rattle.cloak_base.specs.declared.names.PageId.{PageId}
use Rattle.cloak_base.specs.Pages.{zero_page, with_page, is_of, page_in}
use Rattle.cloak_base.specs.Random.{Random}
use Rattle.cloak_model.specs.Ledger.{Keys, key_of}
use Rattle.cloak_model.specs.Memory.{value_in, with_value_in}
use Rattle.cloak_model.specs.Cloaking.{CloakedMemory}
use Rattle.cloak_model.specs.Cloaking.{settle, offer, owed_in, with_shown_frame}
use Rattle.cloak_model.specs.PageMoves.{place, with_newest, copy_pages, drop_pages}
use Rattle.cloak_model.specs.StoredFiles.{PageContent, IsSealed, IsSealedIfShown, meta_of}
use Rattle.cloak_model.specs.Beginning.{with_content}
use Rattle.cloak_model.specs.StoredRun.{content_of}
use Rattle.cloak_base.specs.declared.names.Meta.{Meta}
use Rattle.cloak_pager.specs.State.{PagerState, bytes_in}
use Rattle.cloak_pager.specs.Relation.{StandsForMemory, IsUnowed}
use Rattle.cloak_pager.specs.declared.touching.Touched.{Touched}
use Rattle.cloak_pager.specs.declared.touching.Touched.TheVariants.{Quiet, Resealed, Sealed, Wiped}
use Rattle.cloak_pager.specs.declared.offering.Offered.{Offered}
use Rattle.cloak_pager.specs.declared.offering.Offered.TheVariants.{Ready, Mismatch}

-- an answer, and what there is after it: the pages whose newest bytes are lost, and the memory
pub record ToldCall (A : Type 0) : Type 0 where
  pub answer : A
  pub wiped : PageId → Bool
  pub memory : CloakedMemory

-- what the rules tell of a call, by the pages whose newest bytes are lost and the memory before it
abbrev pub AskingCall : Type 0 → Type 0
AskingCall A = (PageId → Bool) → CloakedMemory → ToldCall A

-- A call that left the pager like this, and this much of the stream, and returned this answer did what the rules tell.
pub record FollowsCallFrom {A : Type 0} (new : PagerState) (left : Random) (given : A) (told : ToldCall A) : Type 0 where
  pub answer : given ≡ told.answer
  pub stands : StandsForMemory new told.wiped told.memory
  pub drawn : told.memory.ledger.stream ≡ left

-- the call does what the rules tell, for every memory that the pager stood for and whose stream it was handed
abbrev pub FollowsCall : {A : Type 0} → PagerState → Random → PagerState → Random → A → AskingCall A → Type 0
FollowsCall {A} old stream new left given ask =
    (wiped : PageId → Bool) (m : CloakedMemory) → StandsForMemory old wiped m →
    m.ledger.stream ≡ stream → FollowsCallFrom new left given (ask wiped m)

-- the same of a call that takes no stream
abbrev pub FollowsCallStill : {A : Type 0} → PagerState → PagerState → A → AskingCall A → Type 0
FollowsCallStill {A} old new given ask =
    (wiped : PageId → Bool) (m : CloakedMemory) → StandsForMemory old wiped m →
    FollowsCallFrom new m.ledger.stream given (ask wiped m)

-- the same if no two different pages with one digest were compared
abbrev pub FollowsCallUnclashed : {A : Type 0} → PagerState → PagerState → A → AskingCall A → Type 0
FollowsCallUnclashed {A} old new given ask =
    (wiped : PageId → Bool) (m : CloakedMemory) → StandsForMemory old wiped m →
    (ask wiped m).memory.ledger.clashed ≡ false → FollowsCallFrom new m.ledger.stream given (ask wiped m)

-- Touching.

-- the page that was due is wiped if its draw was missing
abbrev pub wiped_with : Bool → Option PageId → (PageId → Bool) → PageId → Bool
wiped_with false owed wiped = wiped
wiped_with true None wiped = wiped
wiped_with true (Some q) wiped = with_page wiped q true

-- what the kernel is shown new, and whether a draw was missing
abbrev pub after_touch : ℕ → AskingCall (List (ℕ × List ℕ) × Bool)
after_touch f wiped m =
    let s = settle f m in
    record { answer = (s.ciphers, s.missed); wiped = wiped_with s.missed (owed_in m f) wiped; memory = s.memory }

-- what a touch of frame f that ended so tells of these
abbrev pub shown_by : Touched → ℕ → PagerState → List (ℕ × List ℕ) × Bool
shown_by Quiet f p = ([], false)
shown_by Resealed f p = ([], false)
shown_by Sealed f p = ((f, bytes_in p f) ∷ [], false)
shown_by Wiped f p = ((f, bytes_in p f) ∷ [], true)

-- Offering.

-- what the kernel is shown on the way, and whether the page was granted
abbrev pub after_offer : PageId → ℕ → Bool → AskingCall (List (ℕ × List ℕ) × Bool)
after_offer q g write wiped m =
    let o = offer q g write m in record { answer = (o.ciphers, o.granted); wiped = wiped; memory = o.memory }

-- what an offer tells of these: the frames were settled before
abbrev pub answer_of : Offered → List (ℕ × List ℕ) × Bool
answer_of Ready = ([], true)
answer_of Mismatch = ([], false)

-- Placing and restoring.

-- whether the page was placed; if no draw was left, nothing changes
abbrev pub after_place : PageId → ℕ → List ℕ → AskingCall Bool
after_place q f bytes wiped m =
    let o = place q f bytes m in record { answer = is_some o; wiped = wiped; memory = unwrap_or o m }

-- the pager stands for every memory in which the page goes on with a content that is sealed under the page's key, and of
-- which this is the metadata
abbrev pub StandsRestored : PagerState → PagerState → PageId → Meta → Type 0
StandsRestored old new q t =
    (wiped : PageId → Bool) (m : CloakedMemory) (c : PageContent) → StandsForMemory old wiped m →
    IsSealed (key_of m.ledger q) c → meta_of c ≡ t → StandsForMemory new wiped (with_content q (Some c) m)

-- Metadata.

-- This metadata tells of the content of page q: none exactly if the page has no content. The content is sealed under the
-- page's key, unless its newest bytes are lost or a frame is owed them.
pub record TellsContent (lost : Bool) (m : CloakedMemory) (q : PageId) (t : Option Meta) : Type 0 where
  pub tells : option_map meta_of (content_of m q) ≡ t
  pub sealed : lost ≡ false → IsUnowed m q → IsSealedIfShown (key_of m.ledger q) (content_of m q)

-- it does in every memory that the pager stands for
abbrev pub KnowsContent : PagerState → PageId → Option Meta → Type 0
KnowsContent p q t =
    (wiped : PageId → Bool) (m : CloakedMemory) → StandsForMemory p wiped m → TellsContent (wiped q) m q t

-- Reading and writing. The answer of a call that returns nothing is `tt`.

-- a page whose newest bytes are not lost is read as these
abbrev pub ReadsNewest : PagerState → PageId → ℕ → ℕ → ℕ → Type 0
ReadsNewest p q at width value =
    (wiped : PageId → Bool) (m : CloakedMemory) → StandsForMemory p wiped m →
    wiped q ≡ false → value ≡ value_in (m.plain q) at width

-- these are the bytes that the kernel sees in a frame
abbrev pub SeesFrame : PagerState → ℕ → List ℕ → Type 0
SeesFrame p f bytes =
    (wiped : PageId → Bool) (m : CloakedMemory) → StandsForMemory p wiped m → bytes ≡ slice_index_or m.ram f []

-- the lowest `width` bytes of a value, to be written at a place of a page
pub record PageWrite : Type 0 where
  pub at : ℕ
  pub width : ℕ
  pub value : ℕ

-- a page with these bytes written
abbrev pub with_write : PageWrite → List ℕ → List ℕ
with_write x page = with_value_in page x.at x.width x.value

abbrev pub after_write_plain : PageId → PageWrite → AskingCall (Unit {0})
after_write_plain q x wiped m =
    record { answer = tt; wiped = wiped; memory = with_newest q (with_write x (m.plain q)) m }

abbrev pub after_write_outside : ℕ → PageWrite → AskingCall (Unit {0})
after_write_outside f x wiped m =
    record { answer = tt; wiped = wiped; memory = with_shown_frame f (with_write x (slice_index_or m.ram f [])) m }

abbrev pub after_fill_outside : ℕ → List ℕ → AskingCall (Unit {0})
after_fill_outside f bytes wiped m = record { answer = tt; wiped = wiped; memory = with_shown_frame f bytes m }

-- Moving pages.

-- a page whose newest bytes are lost has none to copy
abbrev pub wiped_copies : ℕ → ℕ → ℕ → (PageId → Bool) → PageId → Bool
wiped_copies domain from to wiped o = wiped o || (is_of domain to o && wiped (page_in from o))

abbrev pub after_copy_pages : ℕ → ℕ → ℕ → AskingCall (Unit {0})
after_copy_pages domain from to wiped m =
    record { answer = tt; wiped = wiped_copies domain from to wiped; memory = copy_pages domain from to m }

abbrev pub after_drop_pages : ℕ → ℕ → AskingCall (Unit {0})
after_drop_pages domain resource wiped m =
    record { answer = tt; wiped = wiped; memory = drop_pages domain resource m }

-- Closing changes no memory.
abbrev pub after_close : AskingCall (Unit {0})
after_close wiped m = record { answer = tt; wiped = wiped; memory = m }

-- Opening.

-- the memory of this many frames at first, under these keys: nothing recorded, nothing owed, all zeros
pub record IsBlank (frames : ℕ) (keys : Keys) (m : CloakedMemory) : Type 0 where
  pub keys_are : m.ledger.keys ≡ keys
  pub ram : m.ram ≡ replicate frames zero_page
  pub owed : m.ledger.owed ≡ replicate frames None
  pub recorded : (q : PageId) → m.ledger.recorded q ≡ None
  pub vectors : (q : PageId) → m.ledger.iv q ≡ None
  pub plain : (q : PageId) → m.plain q ≡ zero_page

-- no page is wiped
abbrev pub none_wiped : PageId → Bool
none_wiped q = false

abbrev pub StandsBlank : ℕ → Keys → PagerState → Type 0
StandsBlank frames keys p = (m : CloakedMemory) → IsBlank frames keys m → StandsForMemory p none_wiped m
