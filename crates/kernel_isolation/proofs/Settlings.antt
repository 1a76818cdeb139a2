-- What the kernel is shown by settling and by offers: RAM is then as it was shown, and a frame that was shown is there.
use Rattle.std.proofs.Common.{◌≡◌, ◌∙◌, ℕ, ◌<◌, Bool, List, [], ◌∷◌, ◌++◌, length, Option, None, Some, slice_set, slice_index_or, refl, sym, ap, subst, inl, inr}
use Rattle.std.specs.Prelude.{◌==◌}
use Rattle.std.proofs.lemmas.Bool.{cases_lt}
use Rattle.std.proofs.lemmas.List.{length-set, map-set, get_or_past}
use Rattle.cloak_base.specs.declared.names.PageId.{PageId}
use Rattle.cloak_base.specs.Constants.{frame_of}
use Rattle.cloak_base.specs.Random.{Random}
use Rattle.cloak_model.specs.Ahead.{settle_touched, with_shown}
use Rattle.cloak_model.specs.Cloaking.{CloakedMemory, settle_owed, settle, offer, seen_in}
use Rattle.cloak_model.specs.Hart.{Hart}
use Rattle.cloak_model.specs.Ledger.{next_vector}
use Rattle.kernel_isolation.proofs.Shown.{AreFrames, frames_stay}
use Rattle.kernel_isolation.proofs.Showing.{settle_shows, Shows, touched_shows, offer_shows}
use Rattle.cloak_model.specs.Memory.{Seen, filled, unless_written}
use Rattle.settling_ahead.proofs.Planning.{unmarked}
use Rattle.settling_ahead.proofs.Plans.{with_shown-append}

-- each frame of RAM has its place among what is owed
abbrev pub HasPlaces : CloakedMemory → Type 0
HasPlaces m = length m.ledger.owed ≡ length m.ram

-- A memory after the kernel was shown these Ciphers.
pub record ShownBy (m : CloakedMemory) (ciphers : List (ℕ × List ℕ)) (after : CloakedMemory) : Type 0 where
  pub frames : AreFrames m.ram ciphers
  pub seen : seen_in after ≡ with_shown ciphers (seen_in m)
  pub places : HasPlaces after

pub length-with_shown : (ciphers : List (ℕ × List ℕ)) (seen : Seen) →
    length (with_shown ciphers seen).ram ≡ length seen.ram
length-with_shown [] seen = refl
length-with_shown (c ∷ ciphers) seen = length-with_shown ciphers (filled c.0 c.1 seen) ∙ length-set seen.ram c.0 c.1

filled_unmarked : (hart f : ℕ) (bytes : List ℕ) (seen : Seen) →
    filled f bytes (unmarked hart seen) ≡ unmarked hart (filled f bytes seen)
filled_unmarked hart f bytes seen =
    ap (λ (marks : List (Option ℕ)). let s : Seen = record { ram = slice_set seen.ram f bytes; marks = marks } in s)
    (map-set (unless_written (λ mark. frame_of mark == f)) seen.marks hart None)

-- it may as well end before something is shown
pub shown_unmarked : (hart : ℕ) (ciphers : List (ℕ × List ℕ)) (seen : Seen) →
    with_shown ciphers (unmarked hart seen) ≡ unmarked hart (with_shown ciphers seen)
shown_unmarked hart [] seen = refl
shown_unmarked hart (c ∷ ciphers) seen =
    ap (with_shown ciphers) (filled_unmarked hart c.0 c.1 seen) ∙ shown_unmarked hart ciphers (filled c.0 c.1 seen)

pub frames-append : (ram : List (List ℕ)) (a b : List (ℕ × List ℕ)) → AreFrames ram a → AreFrames ram b →
    AreFrames ram (a ++ b)
frames-append ram [] b here there = there
frames-append ram (c ∷ a) b here there = (here.0, frames-append ram a b here.1 there)

pub ShownBy-none : (m : CloakedMemory) → HasPlaces m → ShownBy m [] m
ShownBy-none m places = record { frames = tt; seen = refl; places = places }

pub ShownBy-append : (m n o : CloakedMemory) (a b : List (ℕ × List ℕ)) → ShownBy m a n → ShownBy n b o →
    ShownBy m (a ++ b) o
ShownBy-append m n o a b first second = record {
  frames = frames-append m.ram a b first.frames
      (frames_stay n.ram m.ram b
      (sym (ap (λ (x : Seen). length x.ram) first.seen ∙ length-with_shown a (seen_in m))) second.frames);
  seen = second.seen ∙ (ap (with_shown b) first.seen ∙ sym (with_shown-append a b (seen_in m)));
  places = second.places;
}

-- Settling.

-- what is owed a page has its place
within : (xs : List (Option PageId)) (f : ℕ) (q : PageId) → slice_index_or xs f None ≡ Some q → f < length xs
within xs f q some = elim (cases_lt f (length xs)) [
  | inl h ↦ h
  | inr h ↦ let clash : None ≡ Some q = sym (get_or_past xs f None h) ∙ some in absurd cc
]

one_shown : (m after : CloakedMemory) (f : ℕ) (bytes : List ℕ) → HasPlaces m → f < length m.ram →
    seen_in after ≡ filled f bytes (seen_in m) → after.ledger.owed ≡ slice_set m.ledger.owed f None →
    ShownBy m ((f, bytes) ∷ []) after
one_shown m after f bytes places lt seen owed = record {
  frames = (lt, tt);
  seen = seen;
  places = ap length owed
      ∙ (length-set m.ledger.owed f None
      ∙ (places ∙ (sym (length-set m.ram f bytes) ∙ sym (ap (λ (x : Seen). length x.ram) seen))));
}

owed_shown : (f : ℕ) (q : PageId) (draw : Option (List ℕ × Random)) (m : CloakedMemory) → HasPlaces m →
    f < length m.ram →
    let s = settle_owed f q draw m in ShownBy m s.ciphers s.memory
unfolding settle_owed
owed_shown f q None m places lt = one_shown m _ f _ places lt refl refl
owed_shown f q (Some draw) m places lt = one_shown m _ f _ places lt refl refl

pub settle_shown : (f : ℕ) (m : CloakedMemory) → HasPlaces m → ShownBy m (settle f m).ciphers (settle f m).memory
settle_shown =
    settle_shows HasPlaces ShownBy ShownBy-none (λ f q m is places.
    owed_shown f q (next_vector m.ledger) m places
    (subst (λ (n : ℕ). f < n) places (within m.ledger.owed f q is)))

shows : Shows HasPlaces ShownBy
shows = record {
  none = ShownBy-none;
  both = ShownBy-append;
  after = λ m n a shown. shown.places;
  settles = settle_shown;
}

-- ahead of a step
pub touched_shown : (h : Hart) (disk : List ℕ) (m : CloakedMemory) → HasPlaces m →
    let s = settle_touched h disk m in ShownBy m s.ciphers s.memory
touched_shown = touched_shows HasPlaces ShownBy shows

-- Offers.

pub offer_shown : (q : PageId) (g : ℕ) (write : Bool) (m : CloakedMemory) → HasPlaces m →
    let o = offer q g write m in ShownBy m o.ciphers o.memory
offer_shown q =
    offer_shows HasPlaces ShownBy shows q (λ g m places. record {
      frames = tt;
      seen = refl;
      places = length-set m.ledger.owed g (Some q) ∙ places;
    }) (λ a b m places. record { frames = tt; seen = refl; places = places })
