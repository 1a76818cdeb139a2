-- What making room for a page, and offering it, results in.
use Rattle.std.specs.Prelude.{ℕ, ◌≡◌, Bool, true, false, IsTrue, Option, Some, List, [], ◌++◌, length}
use Rattle.cloak_base.specs.declared.names.PageId.{PageId}
use Rattle.cloak_base.specs.declared.names.SpaceId.{SpaceId}
use Rattle.cloak_model.specs.AskPages.{offer_events}
use Rattle.cloak_model.specs.Cloaking.{CloakedMemory, AfterOffer, offer}
use Rattle.cloak_model.specs.World.{cipher_items}
use Rattle.cloak_model.specs.Exchange.{Piece, Emits, EmitsSome, item_pieces}
use Rattle.cloak_pager.specs.State.{held_in, owed_at}
use Rattle.shadow_fold.specs.Fold.{after_events}
use Rattle.shadow_fold.specs.Reads.{Spends}
use Rattle.cloaked_side.specs.Holding.{Holds, HoldsNoOther, SameSize}
use Rattle.cloaked_side.specs.Tracking.{TracksBy, MapsStill, spent_in}
use Rattle.cloaked_side.specs.declared.memory.Memory.{Memory}

-- an offer before which this was shown
abbrev pub behind_ciphers : List (ℕ × List ℕ) → AfterOffer → AfterOffer
behind_ciphers ciphers o = record { memory = o.memory; ciphers = ciphers ++ o.ciphers; granted = o.granted }

-- what remains of an offer once there is room; nothing if a draw was missing
abbrev pub offer_left : Bool → PageId → ℕ → Bool → CloakedMemory → AfterOffer
offer_left true q g write m = offer q g write m
offer_left false q g write m = record { memory = m; ciphers = []; granted = false }

-- the memory after it, what was shown on the way, and that the offer results in what remains of it
pub record Rooms {E : Type 0} (gave : E → E → List Piece → Type 0) (e e' : E) (new : Memory) (room : Bool)
    (q : PageId) (g : ℕ) (m : CloakedMemory) : Type 0 where
  pub memory : CloakedMemory
  pub ciphers : List (ℕ × List ℕ)
  pub holds : Holds new memory
  pub emits : Emits gave e e' (item_pieces (cipher_items ciphers))
  pub offers : (write : Bool) → offer q g write m ≡ behind_ciphers ciphers (offer_left room q g write memory)

-- a page was offered so, and what the kernel was shown on the way was emitted
pub record Offers {E : Type 0} (gave : E → E → List Piece → Type 0) (e e' : E) (new : Memory) (granted : Bool)
    (o : AfterOffer) : Type 0 where
  pub answer : granted ≡ o.granted
  pub holds : Holds new o.memory
  pub emits : Emits gave e e' (item_pieces (cipher_items o.ciphers))

-- Page q was offered in frame g: as is defined, unless two pages with one digest were compared. The fold follows the
-- event of an offer that was granted or not, and frames were read no more often than is due for what was shown.
pub record OffersPage {E : Type 0} (gave : E → E → List Piece → Type 0) (e e' : E) (old new : Memory) (q : PageId)
    (g : ℕ) (write : Bool) (granted : Bool) : Type 0 where
  pub offers : (m : CloakedMemory) → Holds old m → (offer q g write m).memory.ledger.clashed ≡ false →
      Offers gave e e' new granted (offer q g write m)
  pub tracks : (m : CloakedMemory) → Holds old m → (space : Option SpaceId) →
      TracksBy old new (after_events space (offer_events q g m granted))
  pub spends : (m : CloakedMemory) → Holds old m →
      Spends 0 (length (offer q g write m).ciphers) (spent_in old) (spent_in new)
  pub maps : MapsStill old new

-- What the offer left, whatever the memory stands for. If the page was granted, no draw was missing, the frame holds it,
-- and is owed it if it was offered for writing.
pub record OfferLeaves {E : Type 0} (gave : E → E → List Piece → Type 0) (e e' : E) (old new : Memory) (q : PageId)
    (g : ℕ) (write : Bool) (granted : Bool) : Type 0 where
  pub same : SameSize old new
  pub emits_some : EmitsSome gave e e'
  pub counting : new.counting ≡ old.counting
  pub again : held_in old.pager g ≡ Some q → new.shadows ≡ old.shadows
  pub others : HoldsNoOther q old.pager new.pager
  pub held : IsTrue granted → held_in new.pager g ≡ Some q
  pub owed : IsTrue granted → IsTrue write → owed_at new.pager g ≡ Some q
  pub drawn : IsTrue granted → new.missed ≡ false
