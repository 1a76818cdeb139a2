-- The recent entries, as one is looked for, as entries end, and as one comes.
use Rattle.std.proofs.Common.{◌≡◌, ℕ, Bool, true, false, not, cond, List, [], ◌∷◌, ◌++◌, filter, find, Option, Some, None, IfSome, if◌then◌else◌, refl, sym, ap, subst, ◌∙◌}
use Rattle.std.specs.List.Sorted.{IsPermutation}
use Rattle.std.proofs.lemmas.List.Elements.{filter-append}
use Rattle.std.proofs.lemmas.List.Sorted.{IsPermutation-refl, IsPermutation-trans, IsPermutation-sym, IsPermutation-middle, IsPermutation-append_left, IsPermutation-append_right}
use Rattle.chain_arena.specs.Arena.{Arena}
use Rattle.cloak_base.specs.declared.names.Kind.{Kind}
use Rattle.cloak_base.specs.declared.names.Kind.TheVariants.{Fetch, Load, Store}
use Rattle.shadow_fold.specs.declared.entry.Entry.{Entry}
use Rattle.shadow_fold.specs.declared.entry.Regime.{Regime}
use Rattle.shadow_fold.specs.Entries.{is_for}
use Rattle.shadow_fold.proofs.Keys.{is_for-key}
use Rattle.multi_shadow.specs.declared.recent.Recent.{Recent}
use Rattle.multi_shadow.specs.Placed.{live_in}
use Rattle.multi_shadow.specs.Recent.{places, recent_entries, live_of, place_of, with_place, left_in, left_of, AreOfKind}
use Rattle.multi_shadow.proofs.Pruning.{not_true}
use Rattle.multi_shadow.proofs.Slots.{exchange, left_first}

-- Looking for one.

module _ (p : Entry → Bool) where
  -- a place whose entry does not pass is no matter
  skip : (o : Option Entry) (os : List (Option Entry)) → IfSome o (λ e. p e ≡ false)
      → find p (live_in (o ∷ os)) ≡ find p (live_in os)
  skip None os miss = refl
  skip (Some e) os miss = ap (λ b. cond b (Some e) (find p (live_in os))) miss

  here : (o : Option Entry) (os : List (Option Entry)) (e : Entry) → o ≡ Some e → p e ≡ true
      → find p (live_in (o ∷ os)) ≡ Some e
  here o os e is passes =
      ap (λ o. find p (live_in (o ∷ os))) is ∙ ap (λ b. cond b (Some e) (find p (live_in os))) passes

  none_passes : (r : Recent) → IfSome r.fetch (λ e. p e ≡ false) → IfSome r.load (λ e. p e ≡ false)
      → IfSome r.store (λ e. p e ≡ false) → find p (recent_entries r) ≡ None
  none_passes r fetch load store =
      skip r.fetch (r.load ∷ r.store ∷ []) fetch ∙ skip r.load (r.store ∷ []) load ∙ skip r.store [] store

module _ (r : Recent) (of_kind : AreOfKind r) (regime : Regime) (page : ℕ) where
  -- an entry in the place of another kind does not pass
  other : (kind k : Kind) → (k ≡ kind → ⊥) → IfSome (place_of k r) (λ e. is_for regime page kind e ≡ false)
  other kind k differs = by_place (place_of k r) (of_kind k)
    where
      by_place : (o : Option Entry) → IfSome o (λ e. e.kind ≡ k) → IfSome o (λ e. is_for regime page kind e ≡ false)
      by_place None is = is
      by_place (Some e) is = not_true _ (λ passes. differs (sym is ∙ (is_for-key regime page kind e passes).2))

  pub recent_hit : (kind : Kind) (e : Entry) → place_of kind r ≡ Some e → is_for regime page kind e ≡ true
      → find (is_for regime page kind) (recent_entries r) ≡ Some e
  recent_hit Fetch e is passes = here (is_for regime page Fetch) r.fetch (r.load ∷ r.store ∷ []) e is passes
  recent_hit Load e is passes =
      skip (is_for regime page Load) r.fetch (r.load ∷ r.store ∷ []) (other Load Fetch (λ k. cc))
      ∙ here (is_for regime page Load) r.load (r.store ∷ []) e is passes
  recent_hit Store e is passes =
      skip (is_for regime page Store) r.fetch (r.load ∷ r.store ∷ []) (other Store Fetch (λ k. cc))
      ∙ skip (is_for regime page Store) r.load (r.store ∷ []) (other Store Load (λ k. cc))
      ∙ here (is_for regime page Store) r.store [] e is passes

  pub recent_miss : (kind : Kind) → IfSome (place_of kind r) (λ e. is_for regime page kind e ≡ false)
      → find (is_for regime page kind) (recent_entries r) ≡ None
  recent_miss Fetch miss =
      none_passes (is_for regime page Fetch) r miss (other Fetch Load (λ k. cc)) (other Fetch Store (λ k. cc))
  recent_miss Load miss =
      none_passes (is_for regime page Load) r (other Load Fetch (λ k. cc)) miss (other Load Store (λ k. cc))
  recent_miss Store miss =
      none_passes (is_for regime page Store) r (other Store Fetch (λ k. cc)) (other Store Load (λ k. cc)) miss

-- Some end.

in_place : (Q : Entry → Type 0) (ends : Entry → Bool) (o : Option Entry) → IfSome o Q → IfSome (left_in ends o) Q
in_place Q ends None h = h
in_place Q ends (Some e) h = by_test (ends e)
  where
    by_test : (b : Bool) → IfSome (if b then None else Some e) Q
    by_test true = tt
    by_test false = h

-- what holds of the entry of each place still does
pub still_in : (P : Kind → Entry → Type 0) (ends : Entry → Bool) (r : Recent)
    → ((k : Kind) → IfSome (place_of k r) (P k)) → (k : Kind) → IfSome (place_of k (left_of ends r)) (P k)
still_in P ends r all Fetch = in_place (P Fetch) ends r.fetch (all Fetch)
still_in P ends r all Load = in_place (P Load) ends r.load (all Load)
still_in P ends r all Store = in_place (P Store) ends r.store (all Store)

pub recent_left : (ends : Entry → Bool) (r : Recent)
    → recent_entries (left_of ends r) ≡ filter (λ e. not (ends e)) (recent_entries r)
recent_left ends r =
    left_first ends r.fetch (left_in ends r.load ∷ left_in ends r.store ∷ []) (r.load ∷ r.store ∷ [])
    (left_first ends r.load (left_in ends r.store ∷ []) (r.store ∷ []) (left_first ends r.store [] [] refl))

-- entries end among the recent ones and in the arena
pub live_left : (ends : Entry → Bool) (r : Recent) (A B : Arena Entry)
    → live_in B.payloads ≡ filter (λ e. not (ends e)) (live_in A.payloads)
    → live_of (left_of ends r) B ≡ filter (λ e. not (ends e)) (live_of r A)
live_left ends r A B same =
    (λ i. recent_left ends r i ++ same i)
    ∙ sym (filter-append (λ e. not (ends e)) (recent_entries r) (live_in A.payloads))

-- One comes.

exchanged : (kind : Kind) (e : Entry) (r : Recent)
    → IsPermutation (e ∷ recent_entries r) (live_in (place_of kind r ∷ places (with_place kind e r)))
exchanged Fetch e r = exchange (places r) 0 r.fetch e refl
exchanged Load e r = exchange (places r) 1 r.load e refl
exchanged Store e r = exchange (places r) 2 r.store e refl

split_first : (o : Option Entry) (os : List (Option Entry)) → live_in (o ∷ os) ≡ live_in (o ∷ []) ++ live_in os
split_first None os = refl
split_first (Some e) os = refl

-- what stood in its place is put into the arena
pub displaced : (kind : Kind) (e : Entry) (r : Recent) (A B : Arena Entry)
    → IsPermutation (live_in (place_of kind r ∷ A.payloads)) (live_in B.payloads)
    → IsPermutation (e ∷ live_of r A) (live_of (with_place kind e r) B)
displaced kind e r A B put =
    let now = recent_entries (with_place kind e r) in
    IsPermutation-trans _ _ _ (IsPermutation-append_left (live_in A.payloads) _ _ (exchanged kind e r))
    (IsPermutation-trans _ _ _ (behind (place_of kind r) (places (with_place kind e r)) (live_in A.payloads))
    (IsPermutation-append_right now _ _
    (subst (λ l. IsPermutation l (live_in B.payloads)) (split_first (place_of kind r) A.payloads) put)))
  where
    -- what is in front goes after some others
    behind : (o : Option Entry) (os : List (Option Entry)) (es : List Entry)
        → IsPermutation (live_in (o ∷ os) ++ es) (live_in os ++ (live_in (o ∷ []) ++ es))
    behind None os es = IsPermutation-refl (live_in os ++ es)
    behind (Some d) os es = IsPermutation-sym _ _ (IsPermutation-middle (live_in os) d es)
