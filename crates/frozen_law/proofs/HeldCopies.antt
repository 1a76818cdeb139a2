-- Copies of a space's private resources have as many pages, and what was there stays; so a copied page is held.
use Rattle.std.proofs.Common.{◌≡◌, ◌≢◌, ◌∙◌, inl, inr, ℕ, ◌<◌, true, false, List, [], ◌∷◌, length, slice_index_or, Option, Some, None, refl, sym, ap, subst, arith}
use Rattle.std.specs.Prelude.{All, AllPairs, IsSomeAnd, is_none}
use Rattle.std.proofs.lemmas.Bool.{false≢true}
use Rattle.std.proofs.lemmas.List.{get_or-set_same, get_or-set_other, length-set}
use Rattle.std.proofs.lemmas.List.Elements.{All-nil, All-cons, All-head, All-tail, All-weaker}
use Rattle.cloak_base.specs.Pages.{is_of, page_in}
use Rattle.cloak_base.specs.declared.names.PageId.{PageId}
use Rattle.cloak_base.proofs.Pages.{is_of_tells}
use Rattle.cloak_model.specs.declared.resource.Owner.TheVariants.{Space}
use Rattle.cloak_model.specs.declared.resource.Resource.{Resource}
use Rattle.cloak_model.specs.Fork.{private_numbers, free_numbers, copies, with_copies, with_copy, forked_resources}
use Rattle.cloak_model.specs.Resources.{Resources, resource_at, pages_of, is_private_to}
use Rattle.resource_map.specs.Copying.{IsCopy}
use Rattle.resource_map.specs.Kept.{IsSound}
use Rattle.resource_map.proofs.Copies.{Rises, AllPairs-zip, IsCopy-all}
use Rattle.resource_map.proofs.Lists.{get_or-map_all}
use Rattle.resource_map.proofs.Places.{places_rise}
use Rattle.resource_map.proofs.RegionLists.{AllPairs-head, AllPairs-tail}
use Rattle.frozen_law.specs.Held.{IsHeldBy}
use Rattle.frozen_law.proofs.HeldPages.{IsKind, HeldStay}

module _ (new : ℕ) (r : Resources) where
  made : ℕ × ℕ → Resource
  made copy = record { owner = Space new; pages = pages_of (resource_at r copy.0) }

  -- no other number changes
  others_stay : (list : List (ℕ × ℕ)) (held : List (Option Resource)) (n : ℕ) →
      All (λ (copy : ℕ × ℕ). n ≢ copy.1) list →
      slice_index_or (with_copies new held list r) n None ≡ slice_index_or held n None
  others_stay [] held n other = refl
  others_stay (copy ∷ rest) held n other =
      others_stay rest (with_copy new held copy r) n (All-tail (λ (copy : ℕ × ℕ). n ≢ copy.1) copy rest other)
      ∙ get_or-set_other held copy.1 n _ None (All-head (λ (copy : ℕ × ℕ). n ≢ copy.1) copy rest other)

  copies_are : (list : List (ℕ × ℕ)) (held : List (Option Resource)) →
      All (λ (copy : ℕ × ℕ). copy.1 < length held) list → AllPairs Rises list →
      All (λ (copy : ℕ × ℕ). slice_index_or (with_copies new held list r) copy.1 None ≡ Some (made copy)) list
  unfolding made
  copies_are [] held inside rise = All-nil _
  copies_are (copy ∷ rest) held inside rise =
      let held' = with_copy new held copy r in
      let long : length held' ≡ length held = length-set held copy.1 _ in
      let above : All (Rises copy) rest = AllPairs-head Rises copy rest rise in
      let here : slice_index_or held' copy.1 None ≡ Some (made copy) =
      get_or-set_same held copy.1 _ None (All-head (λ (copy : ℕ × ℕ). copy.1 < length held) copy rest inside) in
      let later = copies_are rest held'
      (subst (λ (n : ℕ). All (λ (copy : ℕ × ℕ). copy.1 < n) rest) (sym long)
      (All-tail (λ (copy : ℕ × ℕ). copy.1 < length held) copy rest inside)) (AllPairs-tail Rises copy rest rise) in
      All-cons (λ (one : ℕ × ℕ). slice_index_or (with_copies new held' rest r) one.1 None ≡ Some (made one)) copy rest
      (others_stay rest held' copy.1
      (All-weaker (Rises copy) (λ (one : ℕ × ℕ). copy.1 ≢ one.1) (λ one low same. absurd (omega (arith, low, same))) rest above)
      ∙ here) later

some_there : (o : Option Resource) (P : Resource → Type 0) → IsSomeAnd o P → o ≡ None → ⊥
some_there None P there none = there
some_there (Some x) P there none = absurd cc

private_some : (space : ℕ) (o : Option Resource) → is_private_to space o ≡ true → o ≡ None → ⊥
private_some space None private none = absurd (false≢true private)
private_some space (Some x) private none = absurd cc

module _ (space new : ℕ) (r : Resources) (sound : IsSound r) where
  are_copies : All (IsCopy space r) (copies space r)
  are_copies = IsCopy-all space r sound.numbers

  rise : AllPairs Rises (copies space r)
  rise = AllPairs-zip (private_numbers space r) (free_numbers r) (places_rise is_none 0 r.held)

  -- a number that is in use is no copy's
  in_use : (n : ℕ) → (resource_at r n ≡ None → ⊥) →
      resource_at (forked_resources space new r) n ≡ resource_at r n
  unfolding forked_resources
  in_use n some =
      others_stay new r (copies space r) r.held n
      (All-weaker (IsCopy space r) (λ (copy : ℕ × ℕ). n ≢ copy.1)
      (λ copy is same. some (ap (resource_at r) same ∙ is.free)) (copies space r) are_copies)

  pub fork_stay : HeldStay r (forked_resources space new r)
  fork_stay q here =
      subst (λ (o : Option Resource). IsSomeAnd o (λ held. q.page < held.pages))
      (sym (in_use q.resource (some_there (resource_at r q.resource) _ here))) here

  -- A copied page is of the kind, if the page is that it is copied from.
  abbrev pub IsClosed : (PageId → Type 0) → ℕ → ℕ × ℕ → Type 0
  IsClosed P d copy = (q : PageId) → is_of d copy.1 q ≡ true → P (page_in copy.0 q) → P q

  below_all : (page : ℕ) (o : Option Resource) → IsSomeAnd o (λ held. page < held.pages) → page < pages_of o
  below_all page None there = absurd there
  below_all page (Some x) there = there

  copy_held : (copy : ℕ × ℕ) (q : PageId) → IsCopy space r copy →
      resource_at (forked_resources space new r) copy.1 ≡ Some (made new r copy) → q.resource ≡ copy.1 →
      IsHeldBy (forked_resources space new r) (page_in copy.0 q) → IsHeldBy (forked_resources space new r) q
  unfolding made
  copy_held copy q is there own from =
      let private : is_private_to space (resource_at r copy.0) ≡ true =
      sym (get_or-map_all (is_private_to space) None false r.held copy.0 refl) ∙ is.marked in
      let stays = in_use copy.0 (private_some space (resource_at r copy.0) private) in
      let here : q.page < pages_of (resource_at r copy.0) =
      below_all q.page (resource_at r copy.0)
      (subst (λ (o : Option Resource). IsSomeAnd o (λ held. q.page < held.pages)) stays from) in
      subst (λ (o : Option Resource). IsSomeAnd o (λ held. q.page < held.pages))
      (sym (ap (resource_at (forked_resources space new r)) own ∙ there)) here

  of_parts : (d n : ℕ) (q : PageId) → is_of d n q ≡ true → (q.domain ≡ d) × (q.resource ≡ n)
  of_parts d n q is = elim (is_of_tells d n q) [
    | inl of ↦ of.1
    | inr differs ↦ absurd (false≢true (sym differs.0 ∙ is))
  ]

  there_all : All (λ (copy : ℕ × ℕ). resource_at (forked_resources space new r) copy.1 ≡ Some (made new r copy))
      (copies space r)
  unfolding forked_resources made
  there_all =
      copies_are new r (copies space r) r.held
      (All-weaker (IsCopy space r) (λ (copy : ℕ × ℕ). copy.1 < length r.held)
      (λ copy is. let to = is.to in let count = sound.numbers in omega (arith, to, count)) (copies space r) are_copies) rise

  pub closed_all : (d : ℕ) (Other : PageId → Type 0) →
      All (IsClosed (IsKind d (forked_resources space new r) Other) d) (copies space r)
  closed_all d Other k default low =
      λ q of from.
      let parts = of_parts d _ q of in
      record {
        own = λ same. copy_held _ q (are_copies k default low) (there_all k default low) parts.1 (from.own same);
        other = λ apart. absurd (apart parts.0);
      }
