-- The pages under free numbers are zeros in a history, whatever a step does.
use Rattle.std.proofs.Common.{◌≡◌, ◌≢◌, ◌∙◌, ◌⊎◌, inl, inr, ℕ, Bool, true, false, ◌&&◌, cond, List, [], ◌∷◌, map, Some, None, Result, Ok, Err, refl, sym, ap, subst, All, is_some, slice_index}
use Rattle.std.specs.Prelude.{nat_eq, ◌-◌}
use Rattle.std.specs.Int.{w32, to_le_bytes}
use Rattle.std.specs.List.{list_any}
use Rattle.std.proofs.lemmas.Bool.{false≢true, or_cases, eqb-true}
use Rattle.std.proofs.lemmas.List.Elements.{All-head, All-tail}
use Rattle.cloak_base.specs.Pages.{is_of, page_in}
use Rattle.cloak_base.proofs.Pages.{same_page-other, is_of-other, is_of-here}
use Rattle.cloak_base.specs.declared.names.PageId.{PageId}
use Rattle.rv_atomic.specs.Combine.{combined}
use Rattle.rv_atomic.specs.declared.atomic.AtomicOp.{AtomicOp}
use Rattle.cloak_model.specs.declared.resource.MapFault.{MapFault}
use Rattle.cloak_model.specs.Fork.{private_numbers, copies, forked_resources}
use Rattle.cloak_model.specs.Resources.{Resources, resource_at, drop_space}
use Rattle.latest_store.specs.Moves.{Move, Makes, Stores, Combines, Copies, Zeros, Drops, Loads, covers, latest, latest_value, with_moves}
use Rattle.latest_store.specs.Deeds.{made_moves}
use Rattle.latest_store.proofs.Moved.{IsSound, AreSound}
use Rattle.latest_store.proofs.Numbers.{MapsHeld, HasFew, ResourcesFollow, HeldPlace, dropped_free, drop_few, Enough, fork_maps, fork_few, fork_free, fork_apart, dropped_maps}

-- the pages of a domain under its free numbers are zeros
abbrev pub FreeZero : List Move → ℕ → Resources → Type 0
FreeZero history d r =
    (q : PageId) → q.domain ≡ d → resource_at r q.resource ≡ None → (at : ℕ) → latest history q at ≡ 0

-- these moves leave that true if regions are of resources that are there, and leave this true too
pub record Fits (d : ℕ) (r : Resources) (moves : List Move) (r' : Resources) : Type 0 where
  pub maps : MapsHeld r → MapsHeld r'
  pub few : HasFew r → HasFew r'
  pub free : MapsHeld r → (history : List Move) → FreeZero history d r → FreeZero (with_moves moves history) d r'

pub fits_none : (d : ℕ) (r : Resources) (moves : List Move) (r' : Resources) → moves ≡ [] → ResourcesFollow r r' →
    Fits d r moves r'
fits_none d r moves r' none follows =
    subst (λ (ms : List Move). Fits d r ms r') (sym none) (record {
      maps = follows.maps;
      few = follows.few;
      free = λ maps history zero q own free at. zero q own (follows.free q.resource free) at;
    })

pub fits_load : (d : ℕ) (r : Resources) (q : PageId) (address width : ℕ) → Fits d r (Loads q address width ∷ []) r
unfolding latest
fits_load d r q address width = record { maps = λ maps. maps; few = λ few. few; free = λ maps history zero. zero }

-- a store to another page
other_store : (p q : PageId) (from width value at : ℕ) (history : List Move) → q ≢ p →
    latest (Stores p from width value ∷ history) q at ≡ latest history q at
unfolding latest
other_store p q from width value at history other =
    ap (λ (b : Bool). cond (b && covers from width at) (slice_index (to_le_bytes w32 value) (at - from))
    (latest history q at)) (same_page-other q p other)

pub fits_store : (d : ℕ) (r : Resources) (p : PageId) (from width value : ℕ) → (MapsHeld r → HeldPlace r (Some p)) →
    Fits d r (Stores p from width value ∷ []) r
fits_store d r p from width value held = record {
  maps = λ maps. maps;
  few = λ few. few;
  free = λ maps history zero q own free at.
      other_store p q from width value at history (λ same.
      false≢true (ap is_some (sym free) ∙ ap (λ (x : PageId). is_some (resource_at r x.resource)) same ∙ held maps))
      ∙ zero q own free at;
}

other_combine : (p q : PageId) (from : ℕ) (op : AtomicOp) (operand at : ℕ) (history : List Move) → q ≢ p →
    latest (Combines p from op operand ∷ history) q at ≡ latest history q at
unfolding latest
other_combine p q from op operand at history other =
    ap (λ (b : Bool). cond (b && covers from 4 at)
    (slice_index (to_le_bytes w32 (combined op (latest_value history p from 4) operand)) (at - from))
    (latest history q at)) (same_page-other q p other)

-- an operation, after the load of the word that stood
pub fits_combine : (d : ℕ) (r : Resources) (p : PageId) (address from : ℕ) (op : AtomicOp) (operand : ℕ) →
    (MapsHeld r → HeldPlace r (Some p)) →
    Fits d r (Loads p address 4 ∷ Combines p from op operand ∷ []) r
unfolding latest
fits_combine d r p address from op operand held = record {
  maps = λ maps. maps;
  few = λ few. few;
  free = λ maps history zero q own free at.
      other_combine p q from op operand at (Loads p address 4 ∷ history) (λ same.
      false≢true (ap is_some (sym free) ∙ ap (λ (x : PageId). is_some (resource_at r x.resource)) same ∙ held maps))
      ∙ zero q own free at;
}

-- copies for other numbers
copies_latest : (d : ℕ) (list : List (ℕ × ℕ)) (history : List Move) (q : PageId) (at : ℕ) →
    All (λ (copy : ℕ × ℕ). q.resource ≢ copy.1) list →
    latest (with_moves (map (λ (copy : ℕ × ℕ). Copies d copy.0 copy.1) list) history) q at ≡ latest history q at
unfolding latest
copies_latest d [] history q at other = refl
copies_latest d (copy ∷ list) history q at other =
    copies_latest d list (Copies d copy.0 copy.1 ∷ history) q at
    (All-tail (λ (copy : ℕ × ℕ). q.resource ≢ copy.1) copy list other)
    ∙ ap (λ (b : Bool). cond b (latest history (page_in copy.0 q) at) (latest history q at))
    (is_of-other d copy.1 q (λ is. All-head (λ (copy : ℕ × ℕ). q.resource ≢ copy.1) copy list other is.1))

pub fits_fork : (d space new : ℕ) (r : Resources) → Enough space new r →
    Fits d r (map (λ (copy : ℕ × ℕ). Copies d copy.0 copy.1) (copies space r)) (forked_resources space new r)
fits_fork d space new r enough = record {
  maps = fork_maps space new r enough;
  few = fork_few space new r;
  free = λ maps history zero q own free at.
      copies_latest d (copies space r) history q at (fork_apart space new r q.resource free)
      ∙ zero q own (fork_free space new r q.resource free) at;
}

-- dropped, or zero before
either_zero : (b : Bool) (x : ℕ) → x ≡ 0 → cond b 0 x ≡ 0
either_zero true x is = refl
either_zero false x is = is

-- a resource is made
pub fits_make : (d : ℕ) (r : Resources) (made : Result ℕ MapFault) (r' : Resources) → ResourcesFollow r r' →
    Fits d r (made_moves d made) r'
unfolding latest
fits_make d r (Err fault) r' follows = fits_none d r [] r' refl follows
fits_make d r (Ok n) r' follows = record {
  maps = follows.maps;
  few = follows.few;
  free = λ maps history zero q own free at.
      either_zero (is_of d n q) (latest history q at) (zero q own (follows.free q.resource free) at);
}

pub drops_zero : (d : ℕ) (list : List ℕ) (history : List Move) (q : PageId) (at : ℕ) → q.domain ≡ d →
    ((latest history q at ≡ 0) ⊎ (list_any (λ m. nat_eq m q.resource) list ≡ true)) →
    latest (with_moves (map (λ (n : ℕ). Drops d n) list) history) q at ≡ 0
unfolding latest
drops_zero d [] history q at own (inl zero) = zero
drops_zero d [] history q at own (inr listed) = absurd (false≢true listed)
drops_zero d (n ∷ list) history q at own (inl zero) =
    drops_zero d list (Drops d n ∷ history) q at own (inl (either_zero (is_of d n q) (latest history q at) zero))
drops_zero d (n ∷ list) history q at own (inr listed) =
    elim (or_cases (nat_eq n q.resource) (list_any (λ m. nat_eq m q.resource) list) listed) [
      | inl here ↦
          drops_zero d list (Drops d n ∷ history) q at own
          (inl (ap (λ (b : Bool). cond b 0 (latest history q at))
          (is_of-here d n q own (sym (eqb-true n q.resource here)))))
      | inr later ↦ drops_zero d list (Drops d n ∷ history) q at own (inr later)
    ]

pub fits_drop : (d space : ℕ) (r : Resources) →
    Fits d r (map (λ (n : ℕ). Drops d n) (private_numbers space r)) (drop_space space r)
fits_drop d space r = record {
  maps = dropped_maps space r;
  few = drop_few space r;
  free = λ maps history zero q own free at.
      drops_zero d (private_numbers space r) history q at own
      (elim (dropped_free space r q.resource free) [
        | inl was ↦ inl (zero q own was at)
        | inr listed ↦ inr listed
      ]);
}

-- Moves of another domain.

other_latest : (d : ℕ) (m : Move) (history : List Move) (q : PageId) (at : ℕ) → IsSound d history m → q.domain ≢ d →
    latest (m ∷ history) q at ≡ latest history q at
unfolding latest
other_latest d (Makes p bytes) history q at sound other =
    ap (λ (b : Bool). cond b (slice_index bytes at) (latest history q at))
    (same_page-other q p (λ same. other (ap (λ (x : PageId). x.domain) same ∙ sound.0)))
other_latest d (Stores p from width value) history q at sound other =
    other_store p q from width value at history (λ same. other (ap (λ (x : PageId). x.domain) same ∙ sound.0))
other_latest d (Combines p from op operand) history q at sound other =
    other_combine p q from op operand at history (λ same. other (ap (λ (x : PageId). x.domain) same ∙ sound.0))
other_latest d (Copies domain from to) history q at sound other =
    ap (λ (b : Bool). cond b (latest history (page_in from q) at) (latest history q at))
    (is_of-other domain to q (λ is. other (is.0 ∙ sound)))
other_latest d (Zeros domain resource) history q at sound other =
    ap (λ (b : Bool). cond b 0 (latest history q at))
    (is_of-other domain resource q (λ is. other (is.0 ∙ sound.0)))
other_latest d (Drops domain resource) history q at sound other =
    ap (λ (b : Bool). cond b 0 (latest history q at))
    (is_of-other domain resource q (λ is. other (is.0 ∙ sound)))
other_latest d (Loads p address width) history q at sound other = refl

pub others_latest : (d : ℕ) (moves history : List Move) (q : PageId) (at : ℕ) → AreSound d history moves →
    q.domain ≢ d → latest (with_moves moves history) q at ≡ latest history q at
others_latest d [] history q at sound other = refl
others_latest d (m ∷ moves) history q at sound other =
    others_latest d moves (m ∷ history) q at sound.1 other ∙ other_latest d m history q at sound.0 other
