-- Settling and offering: no page becomes fresh by them, and a page that was offered is not fresh.
use Rattle.std.proofs.Common.{◌≡◌, ◌≢◌, ◌∙◌, ◌<◌, inl, inr, ℕ, Bool, true, false, cond, List, [], length, Option, Some, None, is_some, refl, sym, ap, subst}
use Rattle.std.specs.Prelude.{slice_index_or}
use Rattle.std.specs.Str.{bytes_eq}
use Rattle.std.proofs.lemmas.Bool.{false≢true}
use Rattle.std.proofs.lemmas.List.{get_or-set_same, get_or-set_other, length-set}
use Rattle.cloak_base.specs.Pages.{same_page}
use Rattle.cloak_base.specs.Random.{Random}
use Rattle.cloak_base.specs.declared.names.PageId.{PageId}
use Rattle.cloak_base.proofs.Pages.{same_page-self}
use Rattle.cloak_model.specs.Cloaking.{CloakedMemory, AfterSettling, AfterOffer, owed_in, settle_owed, settle_if, settle, settle_frame_if, owing_frame, owes, with_owed, with_comparison, taken, compared, unless_missed, offer}
use Rattle.cloak_model.specs.Ledger.{next_vector}
use Rattle.domain_isolation.proofs.InOrder.{decided}
use Rattle.kernel_isolation.proofs.Settlings.{HasPlaces}
use Rattle.chain_law.specs.Zeros.{IsFresh, HaveVectors}
use Rattle.cloak_base.proofs.Choices.{either}
use Rattle.cloak_model.proofs.Offering.{SettlesKept, settle_keeps, settle_frame_keeps, settle_cleans, frame_stays_clean}
use Rattle.cloak_model.proofs.Owing.{owes_page}
use Rattle.std.proofs.lemmas.Option.{same_Some}

-- No page becomes fresh.
pub record FreshStay (m n : CloakedMemory) : Type 0 where
  pub frames : length n.ram ≡ length m.ram
  pub places : length n.ledger.owed ≡ length m.ledger.owed
  pub vectors : HaveVectors m → HaveVectors n
  pub drawn : n.ledger.missed ≡ false → m.ledger.missed ≡ false
  pub fresh : n.ledger.missed ≡ false → (q : PageId) → IsFresh q n → IsFresh q m

pub fresh_same : (m : CloakedMemory) → FreshStay m m
fresh_same m = record {
  frames = refl;
  places = refl;
  vectors = λ vectors. vectors;
  drawn = λ drawn. drawn;
  fresh = λ drawn q fresh. fresh;
}

pub fresh_then : (l m n : CloakedMemory) → FreshStay l m → FreshStay m n → FreshStay l n
fresh_then l m n first second = record {
  frames = second.frames ∙ first.frames;
  places = second.places ∙ first.places;
  vectors = λ vectors. second.vectors (first.vectors vectors);
  drawn = λ drawn. first.drawn (second.drawn drawn);
  fresh = λ drawn q fresh. first.fresh (second.drawn drawn) q (second.fresh drawn q fresh);
}

pub keeps_places : (m n : CloakedMemory) → FreshStay m n → HasPlaces m → HasPlaces n
keeps_places m n stay places = stay.places ∙ (places ∙ sym stay.frames)

pub both_some : (b : Bool) (x y : List ℕ) (o p : Option (List ℕ)) → is_some o ≡ is_some p →
    is_some (cond b (Some x) o) ≡ is_some (cond b (Some y) p)
both_some true x y o p same = refl
both_some false x y o p same = same

pub record WasNone (b : Bool) (o : Option (List ℕ)) : Type 0 where
  pub test : b ≡ false
  pub none : o ≡ None

pub was_none : (b : Bool) (x : List ℕ) (o : Option (List ℕ)) → cond b (Some x) o ≡ None → WasNone b o
was_none true x o is = absurd cc
was_none false x o is = record { test = refl; none = is }

-- Settling.

settle_owed_fresh : (f : ℕ) (p : PageId) (draw : Option (List ℕ × Random)) (m : CloakedMemory) → owed_in m f ≡ Some p →
    FreshStay m (settle_owed f p draw m).memory
unfolding settle_owed
settle_owed_fresh f p None m owed = record {
  frames = length-set m.ram f _;
  places = length-set m.ledger.owed f None;
  vectors = λ vectors. vectors;
  drawn = λ drawn. absurd (false≢true (sym drawn));
  fresh = λ drawn q fresh. absurd (false≢true (sym drawn));
}
settle_owed_fresh f p (Some draw) m owed = record {
  frames = length-set m.ram f _;
  places = length-set m.ledger.owed f None;
  vectors = λ vectors q. both_some (same_page q p) _ _ _ _ (vectors q);
  drawn = λ drawn. drawn;
  fresh = λ drawn q fresh.
      let was = was_none (same_page q p) _ (m.ledger.recorded q) fresh.0 in (
        was.none,
        (λ g is. elim (decided g f) [
          | inl same ↦
              let is_p : p ≡ q = same_Some p q (sym owed ∙ (sym (ap (owed_in m) same) ∙ is)) in
              false≢true (sym was.test ∙ (ap (λ (x : PageId). same_page q x) is_p ∙ same_page-self q))
          | inr other ↦ fresh.1 g (get_or-set_other m.ledger.owed f g None None other ∙ is)
        ]),
      );
}

-- after a settling
stay_settled : (m : CloakedMemory) → SettlesKept (FreshStay m)
stay_settled m f p x owed stay = fresh_then m x _ stay (settle_owed_fresh f p (next_vector x.ledger) x owed)

pub settle_fresh : (f : ℕ) (m : CloakedMemory) → FreshStay m (settle f m).memory
settle_fresh f m = settle_keeps (FreshStay m) (stay_settled m) f m (fresh_same m)

settle_frame_fresh : (o : Option ℕ) (m : CloakedMemory) → FreshStay m (settle_frame_if o m).memory
settle_frame_fresh o m = settle_frame_keeps (FreshStay m) (stay_settled m) o m (fresh_same m)

-- What other frames are owed stays.

owed_others : (f : ℕ) (p : PageId) (draw : Option (List ℕ × Random)) (m : CloakedMemory) (g : ℕ) → g ≢ f →
    owed_in (settle_owed f p draw m).memory g ≡ owed_in m g
unfolding settle_owed
owed_others f p None m g other = get_or-set_other m.ledger.owed f g None None other
owed_others f p (Some draw) m g other = get_or-set_other m.ledger.owed f g None None other

if_others : (f : ℕ) (o : Option PageId) (m : CloakedMemory) (g : ℕ) → g ≢ f →
    owed_in (settle_if f o m).memory g ≡ owed_in m g
unfolding settle_if
if_others f None m g other = refl
if_others f (Some p) m g other = owed_others f p (next_vector m.ledger) m g other

pub settle_others : (f : ℕ) (m : CloakedMemory) (g : ℕ) → g ≢ f → owed_in (settle f m).memory g ≡ owed_in m g
unfolding settle
settle_others f m = if_others f (owed_in m f) m

-- Offering.

-- a frame that is owed nothing gets a page
owed_fresh : (g : ℕ) (p : PageId) (m : CloakedMemory) → owed_in m g ≡ None → FreshStay m (with_owed g (Some p) m)
owed_fresh g p m clean = record {
  frames = refl;
  places = length-set m.ledger.owed g (Some p);
  vectors = λ vectors. vectors;
  drawn = λ drawn. drawn;
  fresh = λ drawn q fresh. (
    fresh.0,
    (λ f is.
        fresh.1 f (get_or-set_other m.ledger.owed g f (Some p) None (λ same.
        let clash : None ≡ Some q = sym clean ∙ (sym (ap (owed_in m) same) ∙ is) in cc) ∙ is)),
  );
}

-- the page is not fresh, unless a draw was missing
abbrev pub IsAtHand : PageId → CloakedMemory → Type 0
IsAtHand q m = m.ledger.missed ≡ false → IsFresh q m → ⊥

-- What an offer of a page leaves: if it is granted, the page is at hand.
pub record OfferLeaves (q : PageId) (g : ℕ) (m : CloakedMemory) (o : AfterOffer) : Type 0 where
  pub stay : FreshStay m o.memory
  pub granted : g < length m.ledger.owed → o.granted ≡ true → IsAtHand q o.memory

owed_at_hand : (g : ℕ) (q : PageId) (m : CloakedMemory) → owed_in m g ≡ Some q → IsAtHand q m
owed_at_hand g q m owed drawn fresh = fresh.1 g owed

recorded_at_hand : (q : PageId) (c : List ℕ) (m : CloakedMemory) → m.ledger.recorded q ≡ Some c → IsAtHand q m
recorded_at_hand q c m recorded drawn fresh = let clash : None ≡ Some c = sym fresh.0 ∙ recorded in cc

compared_same : (a b : List ℕ) (m : CloakedMemory) → FreshStay m (with_comparison a b m)
compared_same a b m = record {
  frames = refl;
  places = refl;
  vectors = λ vectors. vectors;
  drawn = λ drawn. drawn;
  fresh = λ drawn q fresh. fresh;
}

compared_offered : (q : PageId) (g : ℕ) (write : Bool) (o : Option (List ℕ)) (m : CloakedMemory) →
    owed_in m g ≡ None → m.ledger.recorded q ≡ o → OfferLeaves q g m (compared q g write o m)
unfolding compared
compared_offered q g write None m clean recorded = record {
  stay = owed_fresh g q m clean;
  granted = λ low is. owed_at_hand g q (with_owed g (Some q) m) (get_or-set_same m.ledger.owed g (Some q) None low);
}
compared_offered q g write (Some c) m clean recorded =
    let there = slice_index_or m.ram g [] in
    let m' : CloakedMemory = with_comparison there c m in
    let same : FreshStay m m' = compared_same there c m in
    let took : FreshStay m' (taken q g write m') =
    either (λ (x : CloakedMemory). FreshStay m' x) write (with_owed g (Some q) m') m' (owed_fresh g q m' clean)
    (fresh_same m') in
    let known : (taken q g write m').ledger.recorded q ≡ Some c =
    either (λ (x : CloakedMemory). x.ledger.recorded q ≡ Some c) write (with_owed g (Some q) m') m' recorded recorded in
    either (OfferLeaves q g m) (bytes_eq there c) (record { memory = taken q g write m'; ciphers = []; granted = true })
    (record { memory = m'; ciphers = []; granted = false })
    (record {
      stay = fresh_then m m' (taken q g write m') same took;
      granted = λ low is. recorded_at_hand q c (taken q g write m') known;
    })
    (record { stay = same; granted = λ low is. absurd (false≢true is) })

unless_offered : (q : PageId) (g : ℕ) (m : CloakedMemory) (s : AfterSettling) (next : CloakedMemory → AfterOffer) →
    FreshStay m s.memory → OfferLeaves q g s.memory (next s.memory) → OfferLeaves q g m (unless_missed s next)
unfolding unless_missed
unless_offered q g m s next stay later =
    either (OfferLeaves q g m) s.missed _ _
    (record { stay = stay; granted = λ low is. absurd (false≢true is) })
    (record {
      stay = fresh_then m s.memory (next s.memory).memory stay later.stay;
      granted = λ low. later.granted (subst (λ (k : ℕ). g < k) (sym stay.places) low);
    })

pub offer_offered : (q : PageId) (g : ℕ) (write : Bool) (m : CloakedMemory) → OfferLeaves q g m (offer q g write m)
unfolding offer
offer_offered q g write m = by (owes q (owed_in m g)) refl
  where
    m' : CloakedMemory
    m' = (settle g m).memory

    s' : AfterSettling
    s' = settle_frame_if (owing_frame m' q) m'

    next : CloakedMemory → AfterOffer
    next x = unless_missed (settle_frame_if (owing_frame x q) x) (λ y. compared q g write (y.ledger.recorded q) y)

    last : OfferLeaves q g s'.memory (compared q g write (s'.memory.ledger.recorded q) s'.memory)
    last = compared_offered q g write (s'.memory.ledger.recorded q) s'.memory
        (frame_stays_clean g (owing_frame m' q) m' (settle_cleans g m)) refl

    by : (b : Bool) → owes q (owed_in m g) ≡ b →
        OfferLeaves q g m (cond b (record { memory = m; ciphers = []; granted = true })
        (unless_missed (settle g m) next))
    by true is = record { stay = fresh_same m; granted = λ low yes. owed_at_hand g q m (owes_page q (owed_in m g) is) }
    by false is =
        unless_offered q g m (settle g m) next (settle_fresh g m)
        (unless_offered q g m' s' _ (settle_frame_fresh (owing_frame m' q) m') last)
