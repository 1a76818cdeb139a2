-- After the end of a domain none of its pages is owed or recorded.
use Rattle.std.proofs.Common.{◌≡◌, ◌≢◌, ◌∙◌, inl, inr, ℕ, zero, suc, ◌+◌, ◌-◌, ◌<◌, true, false, [], ◌∷◌, ◌++◌, length, slice_index_or, Option, Some, None, refl, sym, ap, subst, arith}
use Rattle.std.specs.Prelude.{All, IsSome, IsSomeAnd}
use Rattle.std.proofs.lemmas.Bool.{cases_lt}
use Rattle.std.proofs.lemmas.List.{get_or_append_left, get_or-append_right, length-append}
use Rattle.cloak_base.specs.declared.names.PageId.{PageId}
use Rattle.cloak_model.specs.declared.resource.Resource.{Resource}
use Rattle.cloak_model.specs.AskPages.{settled_if_marked}
use Rattle.cloak_model.specs.Cloaking.{CloakedMemory}
use Rattle.cloak_model.specs.Ending.{all_marked, settled_for, ask_end, cloak_for}
use Rattle.cloak_model.specs.Opening.{numbers_below}
use Rattle.cloak_model.specs.Resources.{Resources, resource_at}
use Rattle.cloak_model.specs.World.{World, MidStep, Cloaked, settled}
use Rattle.kernel_isolation.proofs.Settlings.{HasPlaces}
use Rattle.resource_map.proofs.Lists.{inside_from_some}
use Rattle.frozen_law.specs.Held.{IsHeldBy}
use Rattle.chain_law.proofs.ZeroWorlds.{Stay, kept, ClearBelow, marked_below, cleared_world, owed_low}
use Rattle.script_fold.proofs.Endings.{keeps_settled_for}
use Rattle.script_fold.proofs.Questions.{settles_of}
use Rattle.frozen_law.proofs.HeldCalls.{OfIn, IsApart, forgets_in}
use Rattle.frozen_law.proofs.Owned.{PagesAreOf, settle_of}
use Rattle.cloak_model.proofs.Marks.{is_marked_all}

-- The numbers below 16.

count_below : (n : ℕ) → length (numbers_below n) ≡ n
count_below zero = refl
count_below (suc n) =
    let rest = count_below n in
    let more = length-append (numbers_below n) (n ∷ []) in
    omega (arith, rest, more)

number_index : (k n default : ℕ) → n < k → slice_index_or (numbers_below k) n default ≡ n
number_index zero n default low = absurd (omega (arith, low))
number_index (suc k) n default low =
    let count = count_below k in
    elim (cases_lt n k) [
      | inl inside ↦
          get_or_append_left (numbers_below k) (k ∷ []) default n (omega (arith, inside, count))
          ∙ number_index k n default inside
      | inr past ↦
          let same : k ≡ n = omega (arith, low, past) in
          subst (λ (i : ℕ). slice_index_or (numbers_below k ++ k ∷ []) i default ≡ i) same
          (get_or-append_right (numbers_below k) (k ∷ []) k k default count (omega arith)
          ∙ ap (λ (i : ℕ). slice_index_or (k ∷ []) i default) (let none : k - k ≡ 0 = omega arith in none))
    ]

-- All frames are settled that are owed its pages.

module _ (P : PageId → Type 0) where
  settled_in : (f : ℕ) (w : World) → OfIn P w → OfIn P (settled f w)
  settled_in f (Cloaked c) of = settle_of P f c.memory of
  settled_in f _ of = tt

  settled_for_in : (d f n : ℕ) (w : World) → OfIn P w → OfIn P (settled_for d f n w)
  settled_for_in d f n w =
      keeps_settled_for (λ v x. OfIn P v → OfIn P x) (record {
        same = λ v of. of;
        chained = λ u v x first second of. second (first of);
        settled = settled_in;
      }) d f n w

settled_for_below : (d f n : ℕ) (w : World) → ClearBelow f d all_marked w →
    ClearBelow (f + n) d all_marked (settled_for d f n w)
unfolding settled_for
settled_for_below d f zero w clear =
    let same : f ≡ f + 0 = omega arith in subst (λ (k : ℕ). ClearBelow k d all_marked w) same clear
settled_for_below d f (suc n) w clear =
    let v = settled_if_marked d all_marked f w in
    let same : f + 1 + n ≡ f + suc n = omega arith in
    subst (λ (k : ℕ). ClearBelow k d all_marked (settled_for d (f + 1) n v)) same
    (settled_for_below d (f + 1) n v (marked_below d all_marked f w clear))

-- what the end leaves of pages of a kind: those of other domains, or of numbers that there are not
pub end_of : (P : PageId → Type 0) (d : ℕ) (m : CloakedMemory) → HasPlaces m → PagesAreOf P m →
    OfIn (λ q. P q × IsApart d (numbers_below 16) q) (ask_end d (Cloaked (cloak_for m d))).world
unfolding ask_end
end_of P d m places of =
    let n = length m.ram in
    let c : MidStep = cloak_for m d in
    let w : World = Cloaked c in
    let v : World = settled_for d 0 n w in
    let clear = cleared_world d all_marked (0 + n) v
    (owed_low c v (keeps_settled_for Stay (settles_of Stay kept) d 0 n w) places)
    (settled_for_below d 0 n w (λ f low. absurd (omega (arith, low)))) in
    let long = count_below 16 in
    forgets_in P d (numbers_below 16) v
    (λ k default low.
    let below : k < 16 = omega (arith, low, long) in
    clear _ (subst (λ (i : ℕ). slice_index_or all_marked i false ≡ true) (sym (number_index 16 k default below))
    (is_marked_all k below))) (settled_for_in P d 0 n w of)

is_there : (P : Resource → Type 0) (o : Option Resource) → IsSomeAnd o P → IsSome o
is_there P None there = absurd there
is_there P (Some x) there = refl

held_number : (r : Resources) (q : PageId) → length r.held ≡ 16 → IsHeldBy r q → q.resource < 16
held_number r q count here =
    let inside = inside_from_some r.held q.resource (is_there (λ held. q.page < held.pages) (resource_at r q.resource) here) in
    omega (arith, inside, count)

-- a page of the domain is held no more
pub none_apart : (r : Resources) (q : PageId) → length r.held ≡ 16 → IsHeldBy r q →
    All (λ n. q.resource ≢ n) (numbers_below 16) → ⊥
none_apart r q count here apart =
    let low = held_number r q count here in
    let long = count_below 16 in
    apart q.resource 0 (omega (arith, low, long)) (sym (number_index 16 q.resource 0 low))
