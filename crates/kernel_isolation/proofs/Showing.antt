-- What settling and offering show to the kernel on the way, from what each frame shows that is settled.
use Rattle.std.proofs.Common.{◌≡◌, ℕ, zero, suc, Bool, true, false, List, [], ◌++◌, find, Option, Some, None, refl, slice_index_or}
use Rattle.std.specs.Str.{bytes_eq}
use Rattle.cloak_base.specs.declared.names.PageId.{PageId}
use Rattle.cloak_base.proofs.Choices.{either}
use Rattle.cloak_model.specs.Ahead.{is_owed, settle_found, settle_while, settle_touched}
use Rattle.cloak_model.specs.Cloaking.{CloakedMemory, AfterSettling, AfterOffer, owed_in, owing_frame, owes, settle_owed, settle_if, settle, settle_frame_if, with_owed, with_comparison, taken, compared, unless_missed, offer}
use Rattle.cloak_model.specs.Hart.{Hart}
use Rattle.cloak_model.specs.Ledger.{next_vector}

-- of a memory, of what is shown from it on, and of the memory then
abbrev pub Showing : Type 1
Showing = CloakedMemory → List (ℕ × List ℕ) → CloakedMemory → Type 0

-- nothing is asked of the memory
abbrev pub AnyMemory : CloakedMemory → Type 0
AnyMemory m = Unit {0}

abbrev pub SettlingShows : Showing → CloakedMemory → AfterSettling → Type 0
SettlingShows R m s = R m s.ciphers s.memory

abbrev pub OfferShows : Showing → CloakedMemory → AfterOffer → Type 0
OfferShows R m o = R m o.ciphers o.memory

module _ (P : CloakedMemory → Type 0) (R : Showing) (none : (m : CloakedMemory) → P m → R m [] m)
    (owed : (f : ℕ) (q : PageId) (m : CloakedMemory) → owed_in m f ≡ Some q → P m →
    SettlingShows R m (settle_owed f q (next_vector m.ledger) m))
  where
    by_owed : (f : ℕ) (o : Option PageId) (m : CloakedMemory) → owed_in m f ≡ o → P m → SettlingShows R m (settle_if f o m)
    unfolding settle_if
    by_owed f None m is here = none m here
    by_owed f (Some q) m is here = owed f q m is here

    pub settle_shows : (f : ℕ) (m : CloakedMemory) → P m → SettlingShows R m (settle f m)
    unfolding settle
    settle_shows f m here = by_owed f (owed_in m f) m refl here

-- What holds of nothing that is shown, of two parts if it holds of each, and of what settling a frame shows.
pub record Shows (P : CloakedMemory → Type 0) (R : Showing) : Type 0 where
  pub none : (m : CloakedMemory) → P m → R m [] m
  pub both : (l m n : CloakedMemory) (a b : List (ℕ × List ℕ)) → R l a m → R m b n → R l (a ++ b) n
  pub after : (m n : CloakedMemory) (a : List (ℕ × List ℕ)) → R m a n → P n
  pub settles : (f : ℕ) (m : CloakedMemory) → P m → SettlingShows R m (settle f m)

module _ (P : CloakedMemory → Type 0) (R : Showing) (k : Shows P R) where
  -- Settling ahead of a step.

  found_shows : (o : Option ℕ) (next : CloakedMemory → AfterSettling) (m : CloakedMemory) → P m →
      ((n : CloakedMemory) → P n → SettlingShows R n (next n)) → SettlingShows R m (settle_found o next m)
  found_shows None next m here more = k.none m here
  found_shows (Some f) next m here more =
      let n : CloakedMemory = (settle f m).memory in
      let first = k.settles f m here in
      k.both m n (next n).memory (settle f m).ciphers (next n).ciphers first (more n (k.after m n _ first))

  while_shows : (frames : List (List ℕ) → List ℕ) (n : ℕ) (m : CloakedMemory) → P m →
      SettlingShows R m (settle_while frames n m)
  unfolding settle_while
  while_shows frames zero m here = k.none m here
  while_shows frames (suc n) m here =
      found_shows (find (is_owed m) (frames m.ram)) (settle_while frames n) m here
      (λ x there. while_shows frames n x there)

  pub touched_shows : (h : Hart) (disk : List ℕ) (m : CloakedMemory) → P m → SettlingShows R m (settle_touched h disk m)
  unfolding settle_touched
  touched_shows h disk m here = while_shows _ _ m here

  -- Offers, of a page that a frame may be owed.

  frame_shows : (o : Option ℕ) (m : CloakedMemory) → P m → SettlingShows R m (settle_frame_if o m)
  frame_shows None m here = k.none m here
  frame_shows (Some f) m here = k.settles f m here

  unless_shows : (m : CloakedMemory) (s : AfterSettling) (next : CloakedMemory → AfterOffer) → SettlingShows R m s →
      ((n : CloakedMemory) → P n → OfferShows R n (next n)) → OfferShows R m (unless_missed s next)
  unfolding unless_missed
  unless_shows m s next shown more =
      let o : AfterOffer = next s.memory in
      either (OfferShows R m) s.missed (record { memory = s.memory; ciphers = s.ciphers; granted = false })
      (record { memory = o.memory; ciphers = s.ciphers ++ o.ciphers; granted = o.granted }) shown
      (k.both m s.memory o.memory s.ciphers o.ciphers shown (more s.memory (k.after m s.memory s.ciphers shown)))

  module _ (q : PageId) (takes : (g : ℕ) (m : CloakedMemory) → P m → R m [] (with_owed g (Some q) m))
      (compares : (a b : List ℕ) (m : CloakedMemory) → P m → R m [] (with_comparison a b m))
    where
      taken_shows : (g : ℕ) (write : Bool) (m n : CloakedMemory) → R m [] n → R m [] (taken q g write n)
      taken_shows g true m n here = k.both m n (with_owed g (Some q) n) [] [] here (takes g n (k.after m n [] here))
      taken_shows g false m n here = here

      compared_shows : (g : ℕ) (write : Bool) (recorded : Option (List ℕ)) (m : CloakedMemory) → P m →
          OfferShows R m (compared q g write recorded m)
      unfolding compared
      compared_shows g write None m here = takes g m here
      compared_shows g write (Some c) m here =
          let there = slice_index_or m.ram g [] in
          let m' : CloakedMemory = with_comparison there c m in
          let first : R m [] m' = compares there c m here in
          either (OfferShows R m) (bytes_eq there c) (record { memory = taken q g write m'; ciphers = []; granted = true })
          (record { memory = m'; ciphers = []; granted = false }) (taken_shows g write m m' first) first

      pub offer_shows : (g : ℕ) (write : Bool) (m : CloakedMemory) → P m → OfferShows R m (offer q g write m)
      unfolding offer
      offer_shows g write m here =
          either (OfferShows R m) (owes q (owed_in m g)) (record { memory = m; ciphers = []; granted = true }) _
          (k.none m here)
          (unless_shows m (settle g m) _ (k.settles g m here)
          (λ n there. unless_shows n (settle_frame_if (owing_frame n q) n) _ (frame_shows (owing_frame n q) n there)
          (λ o last. compared_shows g write (o.ledger.recorded q) o last)))
