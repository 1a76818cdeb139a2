-- What stays of a pager in a call, for those who call next. That a pager is whole a caller has from `Pager::whole`.
use Rattle.std.proofs.Common.{◌≡◌, ℕ, Bool, true, false, List, [], Option, None, Some, length, get_or, slice_set}
use Rattle.std.proofs.Common.{ap}
use Rattle.std.proofs.lemmas.List.{get_or-set_other, length-set}
use Rattle.cloak_base.specs.declared.names.PageId.{PageId}
use Rattle.cloak_base.specs.declared.names.Meta.{Meta}
use Rattle.protect_meta.specs.Table.{domains_of}
use Rattle.cloak_pager.specs.State.{PagerState, right_at, bytes_in}
use Rattle.cloak_pager.specs.Turns.{Turns, OfferTurns, OfferedTurns, HoldsNow, StaysBut}
use Rattle.cloak_pager.specs.declared.frame_right.FrameRight.{FrameRight}
use Rattle.cloak_pager.specs.declared.frame_right.FrameRight.TheVariants.{Outside, Clean, Changed, Spent}
use Rattle.cloak_pager.specs.declared.offering.Offered.{Offered}
use Rattle.cloak_pager.specs.declared.offering.Offered.TheVariants.{Ready, Mismatch}

pub stays_same : (f : ℕ) (old new : PagerState) → new ≡ old → StaysBut f old new
stays_same f old new is = record {
  count = ap (λ (x : PagerState). length x.frames) is;
  domains = ap (λ (x : PagerState). domains_of x.table) is;
  keys = ap (λ (x : PagerState). x.keys) is;
  rights = λ k n. ap (λ (x : PagerState). right_at x k) is;
  bytes = λ k n. ap (λ (x : PagerState). bytes_in x k) is;
}

-- a frame that turned
pub turned_stays : (f : ℕ) (old new : PagerState) (bytes : List ℕ) (h : FrameRight) (metas : PageId → Option Meta) →
    Turns old new (slice_set old.frames f bytes) (slice_set old.rights f h) metas → StaysBut f old new
turned_stays f old new bytes h metas t = record {
  count = rw t.frames_are (length-set old.frames f bytes);
  domains = t.domains_stay;
  keys = t.keys_stay;
  rights = λ k n. rw t.rights_are (get_or-set_other old.rights f k h Spent n);
  bytes = λ k n. rw t.frames_are (get_or-set_other old.frames f k bytes [] n);
}

-- a frame whose bytes alone changed
pub written_stays : (f : ℕ) (old new : PagerState) (bytes : List ℕ) (metas : PageId → Option Meta) →
    Turns old new (slice_set old.frames f bytes) old.rights metas → StaysBut f old new
written_stays f old new bytes metas t = record {
  count = rw t.frames_are (length-set old.frames f bytes);
  domains = t.domains_stay;
  keys = t.keys_stay;
  rights = λ k n. ap (λ (x : List FrameRight). get_or x k Spent) t.rights_are;
  bytes = λ k n. rw t.frames_are (get_or-set_other old.frames f k bytes [] n);
}

-- Offering.

held_now : (old new : PagerState) (q : PageId) (g : ℕ) (write : Bool) (plain : List ℕ) →
    HoldsNow old new q g write plain → StaysBut g old new
held_now old new q g write plain t = turned_stays g old new _ _ _ t

offered_if : (h : FrameRight) (shown : Option Meta) (write : Bool) (old new : PagerState) (q : PageId) (g : ℕ) →
    OfferTurns h shown write old new q g → StaysBut g old new
offered_if (Outside r) (Some t) write old new q g o = held_now old new q g write o.0 o.2
offered_if (Outside r) None write old new q g o = turned_stays g old new _ _ _ o
offered_if (Clean r) shown true old new q g o = turned_stays g old new _ _ _ o
offered_if (Clean r) shown false old new q g o = stays_same g old new o
offered_if (Changed r) shown write old new q g o = stays_same g old new o
offered_if Spent shown write old new q g o = absurd o

pub offer_stays : (result : Offered) (h : FrameRight) (shown : Option Meta) (write : Bool) (old new : PagerState) (q : PageId)
    (g : ℕ) →
    OfferedTurns result h shown write old new q g → StaysBut g old new
offer_stays Ready h shown write old new q g o = offered_if h shown write old new q g o
offer_stays Mismatch h shown write old new q g o = stays_same g old new o
