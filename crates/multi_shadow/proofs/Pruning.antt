-- One step of a walk over a chain that ends entries.
use Rattle.std.proofs.Common.{◌≡◌, ℕ, ◌+◌, ◌<◌, ◌≤◌, inl, inr, Bool, true, false, ◌&&◌, ◌∷◌, length, slice_get, Option, Some, None, refl, sym, ap, ◌∙◌, subst, arith}
use Rattle.std.proofs.lemmas.Bool.{false≢true, cases_eq, eq-eqb, and_parts}
use Rattle.std.proofs.lemmas.Option.{same_Some}
use Rattle.chain_arena.specs.declared.chain.Chain.{Chain}
use Rattle.chain_arena.specs.declared.chain.Chain.TheVariants as chain
use Rattle.chain_arena.specs.Arena.{Arena, chain_at, chain_rest, next_behind, IsTidyArena}
use Rattle.chain_arena.specs.Chains.{IsMemberOf, IsOnce}
use Rattle.chain_arena.proofs.Callers.{behind_in_list, rest_more}
use Rattle.cloak_base.specs.declared.names.SpaceId.{SpaceId}
use Rattle.shadow_fold.specs.declared.entry.Entry.{Entry}
use Rattle.shadow_fold.proofs.Keys.{eqb_equal}
use Rattle.multi_shadow.specs.Placed.{ArePlaced, LiesAt, bucket_of, head_of, is_head, hangs_on, is_wanted, is_hit, without_if, emptied_if}
use Rattle.multi_shadow.proofs.Placing.{same_is_head}
use Rattle.multi_shadow.proofs.Removing.{emptied_left, emptied_stays, without_stays}
use Rattle.multi_shadow.proofs.Rests.{rest_if, behind_other}

pub same_entry : (A : Arena Entry) (s : ℕ) (e x : Entry) → LiesAt A s e → LiesAt A s x → e ≡ x
same_entry A s e x a b = same_Some _ _ (same_Some _ _ (sym a ∙ b))

pub chain_once : (A : Arena Entry) (c : Chain) (h : ℕ) → IsTidyArena A → h < A.heads → IsOnce (chain_at A c h)
chain_once A c h tidy l = (tidy.tidy c).once h (subst (λ k. h < k) (sym (tidy.heads c)) l)

-- the slot at hand, and then what the next step has left
pub step : (A : Arena Entry) (c : Chain) (h s : ℕ) (at next : Option ℕ) → IsTidyArena A → h < A.heads → IsMemberOf s (chain_at A c h)
    → at ≡ Some s → next ≡ next_behind s (chain_at A c h) → chain_rest at (chain_at A c h) ≡ s ∷ chain_rest next (chain_at A c h)
step A c h s at next tidy head stands is now =
    let all = chain_at A c h in
    ap (λ o. chain_rest o all) is ∙ rest_more all s (chain_once A c h tidy head) stands ∙ ap (λ o. s ∷ chain_rest o all) (sym now)

module _ (n : ℕ) (c : Chain) (h : ℕ) (space : Option SpaceId) (A B : Arena Entry) (s : ℕ) (e : Entry) (at next : Option ℕ)
    (placed : ArePlaced A) (heads : A.heads ≡ n) (head : h < A.heads) (lies : LiesAt A s e)
    (stands : IsMemberOf s (chain_at A c h)) (is : at ≡ Some s) (now : next ≡ next_behind s (chain_at A c h))
    (paid : B.payloads ≡ emptied_if (is_wanted space e) s A.payloads)
    (chain : chain_at B c h ≡ without_if (is_wanted space e) s (chain_at A c h)) where
  once : IsOnce (chain_at A c h)
  once = chain_once A c h placed.tidy head

  pub rest_now : chain_rest next (chain_at B c h) ≡ chain_rest next (chain_at A c h)
  rest_now =
      ap (chain_rest next) chain ∙ ap (λ o. chain_rest o (without_if (is_wanted space e) s (chain_at A c h))) now
      ∙ rest_if (is_wanted space e) (chain_at A c h) s once stands ∙ ap (λ o. chain_rest o (chain_at A c h)) (sym now)

  rest_then : chain_rest at (chain_at A c h) ≡ s ∷ chain_rest next (chain_at A c h)
  rest_then = step A c h s at next placed.tidy head stands is now

  pub smaller : length (chain_rest next (chain_at B c h)) < length (chain_rest at (chain_at A c h))
  smaller =
      let a = ap length rest_now in let b = ap length rest_then in
      omega (arith, a, b)

  pub inside_now : (t : ℕ) → next ≡ Some t → IsMemberOf t (chain_at B c h)
  inside_now t e =
      let behind = sym now ∙ e in
      subst (IsMemberOf t) (sym chain)
      (without_stays (is_wanted space _) s t (chain_at A c h) (behind_other (chain_at A c h) s t once stands behind) (behind_in_list (chain_at A c h) s t behind))

  -- an entry that lies there still did before, and elsewhere if the slot was emptied
  was : (t : ℕ) (x : Entry) → LiesAt B t x → (is_wanted space e ≡ true → t ≡ s → ⊥) × LiesAt A t x
  was t x l = emptied_left (is_wanted space e) A.payloads s t x (sym (ap (λ ps. slice_get ps t) paid) ∙ l)

  pub fewer_now : (t : ℕ) (x : Entry) → LiesAt B t x → LiesAt A t x
  fewer_now t x l = (was t x l).1

  hit_wanted : (x : Entry) → is_hit n c h space x ≡ true → is_wanted space x ≡ true
  hit_wanted x e = by_test (is_wanted space x) refl
    where
      by_test : (b : Bool) → is_wanted space x ≡ b → is_wanted space x ≡ true
      by_test true p = p
      by_test false p = absurd (false≢true (sym (ap (λ b. b && hangs_on n c h x) p) ∙ e))

  pub left_now : ((t : ℕ) (x : Entry) → LiesAt A t x → is_hit n c h space x ≡ true → IsMemberOf t (chain_rest at (chain_at A c h)))
      → (t : ℕ) (x : Entry) → LiesAt B t x → is_hit n c h space x ≡ true → IsMemberOf t (chain_rest next (chain_at B c h))
  left_now left t x l hit =
      let w = was t x l in
      let p : IsMemberOf t (s ∷ chain_rest next (chain_at A c h)) = subst (IsMemberOf t) rest_then (left t x w.1 hit) in
      subst (IsMemberOf t) (sym rest_now) (elim p [
        | inl same ↦
            let this : x ≡ e = same_entry A s x e (ap (slice_get A.payloads) (sym same) ∙ w.1) lies in
            absurd (w.0 (ap (is_wanted space) (sym this) ∙ hit_wanted x hit) same)
        | inr r ↦ r
      ])

  pub kept_now : (t : ℕ) (x : Entry) → LiesAt A t x → is_hit n c h space x ≡ false → LiesAt B t x
  kept_now t x l miss =
      ap (λ ps. slice_get ps t) paid ∙ emptied_stays (is_wanted space e) A.payloads s t x (λ wanted same.
      let this : x ≡ e = same_entry A s x e (ap (slice_get A.payloads) (sym same) ∙ l) lies in
      let hangs : hangs_on n c h e ≡ true = same_is_head h (head_of n c e) (ap (λ m. head_of m c e) (sym heads) ∙ placed.only c s h e head stands lies) in
      let hit : is_hit n c h space x ≡ true = ap (is_hit n c h space) this ∙ (λ i. wanted i && hangs i) in
      false≢true (sym miss ∙ hit)) l

-- an entry that hangs on a head stands in its chain
pub hit_stands : (n : ℕ) (c : Chain) (h : ℕ) (space : Option SpaceId) (A : Arena Entry) → ArePlaced A → A.heads ≡ n
    → (t : ℕ) (x : Entry) → LiesAt A t x → is_hit n c h space x ≡ true → IsMemberOf t (chain_at A c h)
hit_stands n c h space A placed heads t x l hit =
    (placed.there c t h x l (ap (λ m. head_of m c x) heads ∙ hangs (is_wanted space x) (head_of n c x) hit)).1
  where
    eqb_to : (g : ℕ) → is_head h (Some g) ≡ true → Some g ≡ Some h
    eqb_to g e = ap Some (eqb_equal g h e)

    hangs : (b : Bool) (o : Option ℕ) → (b && is_head h o) ≡ true → o ≡ Some h
    hangs true None e = absurd (false≢true e)
    hangs true (Some g) e = eqb_to g e
    hangs false o e = absurd (false≢true e)

-- what does not hold is false
pub not_true : (b : Bool) → (b ≡ true → ⊥) → b ≡ false
not_true true n = absurd (n refl)
not_true false n = refl

-- Over all buckets, by rising number.

-- what hangs on no bucket before this one, and not on this one, hangs on a later one
pub past_head : (n h : ℕ) (space : Option SpaceId) (e : Entry) → (is_wanted space e ≡ true → h ≤ bucket_of n e.regime e.page e.kind)
    → is_hit n chain.Bucket h space e ≡ false → is_wanted space e ≡ true → h + 1 ≤ bucket_of n e.regime e.page e.kind
past_head n h space e later miss wanted =
    let b = bucket_of n e.regime e.page e.kind in let more = later wanted in
    elim (cases_eq b h) [
      | inl same ↦ absurd (false≢true (sym miss ∙ (λ i. wanted i && eq-eqb b h same i)))
      | inr other ↦ omega (arith, more, other)
    ]

pub not_yet : (n h : ℕ) (space : Option SpaceId) (e : Entry) → (is_wanted space e ≡ true → h + 1 ≤ bucket_of n e.regime e.page e.kind)
    → is_hit n chain.Bucket h space e ≡ false
not_yet n h space e later = not_true _ (λ hit.
    let both = and_parts (is_wanted space e) (hangs_on n chain.Bucket h e) hit in
    let more = later both.0 in let same = eqb_equal _ h both.1 in
    omega (arith, more, same))

pub not_false : (b : Bool) → (b ≡ false → ⊥) → b ≡ true
not_false true n = refl
not_false false n = absurd (n refl)
