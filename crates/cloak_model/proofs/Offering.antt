-- What settling and offering keep of a memory, from what their parts keep of it.
use Rattle.std.proofs.Common.{◌≡◌, ℕ, zero, suc, Bool, true, false, List, [], ◌∷◌, Option, Some, None, refl, slice_index_or, slice_set}
use Rattle.std.specs.Str.{bytes_eq}
use Rattle.cloak_base.specs.Random.{Random}
use Rattle.cloak_base.specs.declared.names.PageId.{PageId}
use Rattle.cloak_base.proofs.Choices.{either}
use Rattle.cloak_base.proofs.Lists.{emptied}
use Rattle.cloak_model.specs.Ledger.{next_vector}
use Rattle.cloak_model.specs.Cloaking.{CloakedMemory, AfterSettling, AfterOffer, owed_in, owing_frame, owes, settle_owed, settle_if, settle, settle_frame_if, with_owed, with_comparison, taken, compared, unless_missed, offer}

-- Settling.

-- a frame that is owed a page keeps this when it is settled
abbrev pub SettlesKept : (CloakedMemory → Type 0) → Type 0
SettlesKept P =
    (f : ℕ) (q : PageId) (m : CloakedMemory) → owed_in m f ≡ Some q → P m →
    P (settle_owed f q (next_vector m.ledger) m).memory

module _ (P : CloakedMemory → Type 0) (settles : SettlesKept P) where
  by_owed : (f : ℕ) (o : Option PageId) (m : CloakedMemory) → owed_in m f ≡ o → P m → P (settle_if f o m).memory
  unfolding settle_if
  by_owed f None m is here = here
  by_owed f (Some q) m is here = settles f q m is here

  pub settle_keeps : (f : ℕ) (m : CloakedMemory) → P m → P (settle f m).memory
  unfolding settle
  settle_keeps f m here = by_owed f (owed_in m f) m refl here

  pub settle_frame_keeps : (o : Option ℕ) (m : CloakedMemory) → P m → P (settle_frame_if o m).memory
  settle_frame_keeps None m here = here
  settle_frame_keeps (Some f) m here = settle_keeps f m here

-- A frame that is owed nothing stays so, and a frame that was settled is owed nothing.

still_empty : {A : Type 0} (xs : List (Option A)) (f g : ℕ) → slice_index_or xs g None ≡ None →
    slice_index_or (slice_set xs f None) g None ≡ None
still_empty [] f g clean = clean
still_empty (x ∷ xs) zero zero clean = refl
still_empty (x ∷ xs) zero (suc g) clean = clean
still_empty (x ∷ xs) (suc f) zero clean = clean
still_empty (x ∷ xs) (suc f) (suc g) clean = still_empty xs f g clean

clean_by : (g f : ℕ) (q : PageId) (draw : Option (List ℕ × Random)) (m : CloakedMemory) → owed_in m g ≡ None →
    owed_in (settle_owed f q draw m).memory g ≡ None
unfolding settle_owed
clean_by g f q None m clean = still_empty m.ledger.owed f g clean
clean_by g f q (Some draw) m clean = still_empty m.ledger.owed f g clean

pub frame_stays_clean : (g : ℕ) (o : Option ℕ) (m : CloakedMemory) → owed_in m g ≡ None →
    owed_in (settle_frame_if o m).memory g ≡ None
frame_stays_clean g o m clean =
    settle_frame_keeps (λ x. owed_in x g ≡ None) (λ f q x is here. clean_by g f q (next_vector x.ledger) x here) o m clean

cleans_by : (f : ℕ) (q : PageId) (draw : Option (List ℕ × Random)) (m : CloakedMemory) →
    owed_in (settle_owed f q draw m).memory f ≡ None
unfolding settle_owed
cleans_by f q None m = emptied m.ledger.owed f
cleans_by f q (Some draw) m = emptied m.ledger.owed f

cleans_if : (f : ℕ) (o : Option PageId) (m : CloakedMemory) → owed_in m f ≡ o → owed_in (settle_if f o m).memory f ≡ None
unfolding settle_if
cleans_if f None m is = is
cleans_if f (Some q) m is = cleans_by f q (next_vector m.ledger) m

pub settle_cleans : (f : ℕ) (m : CloakedMemory) → owed_in (settle f m).memory f ≡ None
unfolding settle
settle_cleans f m = cleans_if f (owed_in m f) m refl

-- Offering.

-- what is so before an offer of a page, and what is so after it
pub record OfferKeeps (q : PageId) (P Q : CloakedMemory → Type 0) : Type 0 where
  pub settles : SettlesKept P
  pub compares : (a b : List ℕ) (m : CloakedMemory) → P m → P (with_comparison a b m)
  pub takes : (g : ℕ) (m : CloakedMemory) → owed_in m g ≡ None → P m → Q (with_owed g (Some q) m)
  pub stays : (m : CloakedMemory) → P m → Q m

module _ {q : PageId} {P Q : CloakedMemory → Type 0} (keeps : OfferKeeps q P Q) where
  abbrev Kept : AfterOffer → Type 0
  Kept o = Q o.memory

  compared_keeps : (g : ℕ) (write : Bool) (recorded : Option (List ℕ)) (m : CloakedMemory) → owed_in m g ≡ None → P m →
      Kept (compared q g write recorded m)
  unfolding compared
  compared_keeps g write None m clean here = keeps.takes g m clean here
  compared_keeps g write (Some c) m clean here =
      let there = slice_index_or m.ram g [] in
      let m' : CloakedMemory = with_comparison there c m in
      let here' : P m' = keeps.compares there c m here in
      either Kept (bytes_eq there c) (record { memory = taken q g write m'; ciphers = []; granted = true })
      (record { memory = m'; ciphers = []; granted = false })
      (either Q write (with_owed g (Some q) m') m' (keeps.takes g m' clean here') (keeps.stays m' here'))
      (keeps.stays m' here')

  unless_keeps : (s : AfterSettling) (next : CloakedMemory → AfterOffer) → P s.memory → Kept (next s.memory) →
      Kept (unless_missed s next)
  unfolding unless_missed
  unless_keeps s next here later = either Kept s.missed _ _ (keeps.stays s.memory here) later

  pub offer_keeps : (g : ℕ) (write : Bool) (m : CloakedMemory) → P m → Q (offer q g write m).memory
  unfolding offer
  offer_keeps g write m here =
      let m' : CloakedMemory = (settle g m).memory in
      let here' : P m' = settle_keeps P keeps.settles g m here in
      let s = settle_frame_if (owing_frame m' q) m' in
      let here'' : P s.memory = settle_frame_keeps P keeps.settles (owing_frame m' q) m' here' in
      either Kept (owes q (owed_in m g)) _ _ (keeps.stays m here)
      (unless_keeps (settle g m) _ here'
      (unless_keeps s _ here''
      (compared_keeps g write (s.memory.ledger.recorded q) s.memory
      (frame_stays_clean g (owing_frame m' q) m' (settle_cleans g m)) here'')))
