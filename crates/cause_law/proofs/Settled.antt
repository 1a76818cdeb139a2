-- What settling a frame leaves: it owes nothing, every other frame stays, and it is shown if it was owed a page.
use Rattle.std.proofs.Common.{◌≡◌, ◌≢◌, ◌∙◌, ◌<◌, ℕ, Bool, false, cond, List, [], ◌∷◌, length, Option, Some, None, is_some, refl, sym, ap, subst}
use Rattle.std.specs.Prelude.{slice_index_or, slice_set}
use Rattle.std.proofs.lemmas.Bool.{false≢true}
use Rattle.std.proofs.lemmas.List.{get_or-set_same, get_or-set_other, length-set}
use Rattle.cloak_base.specs.declared.names.PageId.{PageId}
use Rattle.cloak_base.specs.Random.{Random}
use Rattle.cloak_model.specs.Ahead.{is_owed}
use Rattle.cloak_model.specs.Cloaking.{CloakedMemory, AfterSettling, owed_in, settle_owed, settle_if, settle}
use Rattle.cloak_model.specs.Ledger.{next_vector}
use Rattle.kernel_isolation.proofs.Settlings.{HasPlaces}
use Rattle.cloak_model.proofs.Owing.{owed_within}

-- the frames that the kernel is shown by settling one: itself, if it was owed a page
abbrev pub shown_if : Bool → ℕ → List ℕ → List (ℕ × List ℕ)
shown_if owed f bytes = cond owed ((f, bytes) ∷ []) []

pub record Settles (f : ℕ) (m : CloakedMemory) (s : AfterSettling) : Type 0 where
  pub clean : owed_in s.memory f ≡ None
  pub places : HasPlaces s.memory
  pub count : length s.memory.ram ≡ length m.ram
  pub owed : (g : ℕ) → g ≢ f → owed_in s.memory g ≡ owed_in m g
  pub ram : (g : ℕ) → g ≢ f → slice_index_or s.memory.ram g [] ≡ slice_index_or m.ram g []
  pub spared : is_owed m f ≡ false → slice_index_or s.memory.ram f [] ≡ slice_index_or m.ram f []
  pub shown : s.ciphers ≡ shown_if (is_owed m f) f (slice_index_or s.memory.ram f [])

settles_so : (f : ℕ) (q : PageId) (bytes : List ℕ) (m : CloakedMemory) (s : AfterSettling) → HasPlaces m →
    owed_in m f ≡ Some q → s.memory.ram ≡ slice_set m.ram f bytes →
    s.memory.ledger.owed ≡ slice_set m.ledger.owed f None → s.ciphers ≡ (f, bytes) ∷ [] → Settles f m s
settles_so f q bytes m s places is ram owed shown =
    let low = owed_within m f q is in
    let in_ram : f < length m.ram = subst (λ (n : ℕ). f < n) places low in
    let count : length s.memory.ram ≡ length m.ram = ap length ram ∙ length-set m.ram f bytes in
    let there : slice_index_or s.memory.ram f [] ≡ bytes =
    ap (λ (l : List (List ℕ)). slice_index_or l f []) ram ∙ get_or-set_same m.ram f bytes [] in_ram in
    record {
      clean = ap (λ (l : List (Option PageId)). slice_index_or l f None) owed
          ∙ get_or-set_same m.ledger.owed f None None low;
      places = ap length owed ∙ (length-set m.ledger.owed f None ∙ (places ∙ sym count));
      count = count;
      owed = λ g other. ap (λ (l : List (Option PageId)). slice_index_or l g None) owed
          ∙ get_or-set_other m.ledger.owed f g None None other;
      ram = λ g other. ap (λ (l : List (List ℕ)). slice_index_or l g []) ram
          ∙ get_or-set_other m.ram f g bytes [] other;
      spared = λ none. absurd (false≢true (sym none ∙ ap is_some is));
      shown = shown ∙ (ap (λ (l : List ℕ). (f, l) ∷ []) (sym there)
          ∙ ap (λ (o : Option PageId). shown_if (is_some o) f (slice_index_or s.memory.ram f [])) (sym is));
    }

owed_settles : (f : ℕ) (q : PageId) (draw : Option (List ℕ × Random)) (m : CloakedMemory) → HasPlaces m →
    owed_in m f ≡ Some q → Settles f m (settle_owed f q draw m)
unfolding settle_owed
owed_settles f q None m places is = settles_so f q _ m _ places is refl refl refl
owed_settles f q (Some draw) m places is = settles_so f q _ m _ places is refl refl refl

if_settles : (f : ℕ) (o : Option PageId) (m : CloakedMemory) → HasPlaces m → owed_in m f ≡ o →
    Settles f m (settle_if f o m)
unfolding settle_if
if_settles f None m places is = record {
  clean = is;
  places = places;
  count = refl;
  owed = λ g other. refl;
  ram = λ g other. refl;
  spared = λ none. refl;
  shown = ap (λ (o : Option PageId). shown_if (is_some o) f (slice_index_or m.ram f [])) (sym is);
}
if_settles f (Some q) m places is = owed_settles f q (next_vector m.ledger) m places is

pub settles : (f : ℕ) (m : CloakedMemory) → HasPlaces m → Settles f m (settle f m)
unfolding settle
settles f m places = if_settles f (owed_in m f) m places refl
