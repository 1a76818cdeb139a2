-- An arena after the slot of an entry was put into all its chains.
use Rattle.std.proofs.Common.{◌≡◌, ℕ, ◌<◌, ◌⊎◌, inl, inr, Bool, true, false, ◌&&◌, List, [], ◌∷◌, length, get_or, slice_get, slice_set, Option, Some, None, IfSome, refl, sym, ap, ◌∙◌, subst, arith}
use Rattle.std.proofs.lemmas.Bool.{cases_eq, false≢true, eq-eqb, ne_eqb}
use Rattle.std.proofs.lemmas.List.{get_or-set_same, get_or-set_other}
use Rattle.std.proofs.lemmas.Option.{none-some, same_Some, slice_get_within}
use Rattle.chain_arena.specs.declared.chain.Chain.{Chain}
use Rattle.chain_arena.specs.declared.chain.Chain.TheVariants as chain
use Rattle.chain_arena.specs.Chains.{IsMemberOf}
use Rattle.chain_arena.specs.Arena.{Arena, IsFree, Stands, chains, chain_at, with_payload, IsTidyArena}
use Rattle.chain_arena.proofs.Callers.{chains_here, chains_there, chains_paid, heads_kept, payloads_kept, long_hooked, not_both}
use Rattle.cloak_base.specs.declared.names.Frame.{Frame}
use Rattle.shadow_fold.specs.declared.entry.Entry.{Entry}
use Rattle.shadow_fold.specs.Entries.{IsWithin}
use Rattle.shadow_fold.proofs.Keys.{eqb_equal}
use Rattle.multi_shadow.specs.Placed.{ArePlaced, LiesAt, bucket_of, number_of, head_of, is_head, entered, all_entered}
use Rattle.cloak_base.proofs.Lists.{slice_get-set_same, slice_get-set_other}

abbrev Not : Type 0 → Type 0
Not A = A → ⊥

abbrev pub joined : Bool → ℕ → List ℕ → List ℕ
joined true s xs = s ∷ xs
joined false s xs = xs

abbrev same_chain : Chain → Chain → Bool
same_chain chain.Bucket chain.Bucket = true
same_chain chain.Target chain.Target = true
same_chain chain.First chain.First = true
same_chain chain.Second chain.Second = true
same_chain _ _ = false

pub heads_entered : (A : Arena Entry) (c : Chain) (o : Option ℕ) (s : ℕ) → (let B : Arena Entry = entered A c o s in B.heads) ≡ A.heads
heads_entered A c None s = refl
heads_entered A c (Some h) s = heads_kept A c (slice_set (chains A c) h (s ∷ chain_at A c h))

pub paid_entered : (A : Arena Entry) (c : Chain) (o : Option ℕ) (s : ℕ) → (let B : Arena Entry = entered A c o s in B.payloads) ≡ A.payloads
paid_entered A c None s = refl
paid_entered A c (Some h) s = payloads_kept A c (slice_set (chains A c) h (s ∷ chain_at A c h))

pub other_entered : (A : Arena Entry) (c d : Chain) (o : Option ℕ) (s : ℕ) → Not (d ≡ c) → chains (entered A c o s) d ≡ chains A d
other_entered A c d None s n = refl
other_entered A c d (Some h) s n = chains_there A c d (slice_set (chains A c) h (s ∷ chain_at A c h)) n

pub apart_entered : (A : Arena Entry) (c d : Chain) (o : Option ℕ) (s : ℕ) → Not (d ≡ c) → Not (Stands A d s) → Not (Stands (entered A c o s) d s)
apart_entered A c d o s n out st = out (
  st.0,
  subst (λ k. st.0 < k) (heads_entered A c o s) st.1,
  subst (λ z. IsMemberOf s (get_or z st.0 [])) (other_entered A c d o s n) st.2,
)

pub long_entered : (A : Arena Entry) (c : Chain) (o : Option ℕ) (s : ℕ) → ((d : Chain) → length (chains A d) ≡ A.heads) → IfSome o (λ h. h < A.heads)
    → (d : Chain) → length (chains (entered A c o s) d) ≡ (let B : Arena Entry = entered A c o s in B.heads)
long_entered A c None s long within d = long d
long_entered A c (Some h) s long within d =
    long_hooked A c h s (subst (λ k. h < k) (sym (long c)) within) d ∙ long d ∙ sym (heads_entered A c (Some h) s)

-- the chain of one head, whether the slot is put in or not
chain_here : (A : Arena Entry) (c : Chain) (o : Option ℕ) (s : ℕ) → ((d : Chain) → length (chains A d) ≡ A.heads) → IfSome o (λ h. h < A.heads) → (h : ℕ)
    → chain_at (entered A c o s) c h ≡ joined (is_head h o) s (chain_at A c h)
chain_here A c None s long within h = refl
chain_here A c (Some g) s long within h =
    let new = slice_set (chains A c) g (s ∷ chain_at A c g) in
    ap (λ z. get_or z h []) (chains_here A c new) ∙ elim (cases_eq h g) [
      | inl e ↦
          ap (λ k. get_or new k []) e ∙ get_or-set_same (chains A c) g (s ∷ chain_at A c g) [] (subst (λ k. g < k) (sym (long c)) within)
          ∙ ap (λ k. s ∷ chain_at A c k) (sym e) ∙ ap (λ b. joined b s (chain_at A c h)) (sym (eq-eqb g h (sym e)))
      | inr d ↦ get_or-set_other (chains A c) g h (s ∷ chain_at A c g) [] d
          ∙ ap (λ b. joined b s (chain_at A c h)) (sym (ne_eqb g h (λ e. d (sym e))))
    ]

entered_chain : (A : Arena Entry) (c : Chain) (o : Option ℕ) (s : ℕ) → ((d : Chain) → length (chains A d) ≡ A.heads) → IfSome o (λ h. h < A.heads) → (d : Chain) (h : ℕ)
    → chain_at (entered A c o s) d h ≡ joined (same_chain c d && is_head h o) s (chain_at A d h)
entered_chain A chain.Bucket o s long within chain.Bucket h = chain_here A chain.Bucket o s long within h
entered_chain A chain.Target o s long within chain.Target h = chain_here A chain.Target o s long within h
entered_chain A chain.First o s long within chain.First h = chain_here A chain.First o s long within h
entered_chain A chain.Second o s long within chain.Second h = chain_here A chain.Second o s long within h
entered_chain A chain.Bucket o s long within chain.Target h = ap (λ z. get_or z h []) (other_entered A chain.Bucket chain.Target o s (λ e. cc))
entered_chain A chain.Bucket o s long within chain.First h = ap (λ z. get_or z h []) (other_entered A chain.Bucket chain.First o s (λ e. cc))
entered_chain A chain.Bucket o s long within chain.Second h = ap (λ z. get_or z h []) (other_entered A chain.Bucket chain.Second o s (λ e. cc))
entered_chain A chain.Target o s long within chain.Bucket h = ap (λ z. get_or z h []) (other_entered A chain.Target chain.Bucket o s (λ e. cc))
entered_chain A chain.Target o s long within chain.First h = ap (λ z. get_or z h []) (other_entered A chain.Target chain.First o s (λ e. cc))
entered_chain A chain.Target o s long within chain.Second h = ap (λ z. get_or z h []) (other_entered A chain.Target chain.Second o s (λ e. cc))
entered_chain A chain.First o s long within chain.Bucket h = ap (λ z. get_or z h []) (other_entered A chain.First chain.Bucket o s (λ e. cc))
entered_chain A chain.First o s long within chain.Target h = ap (λ z. get_or z h []) (other_entered A chain.First chain.Target o s (λ e. cc))
entered_chain A chain.First o s long within chain.Second h = ap (λ z. get_or z h []) (other_entered A chain.First chain.Second o s (λ e. cc))
entered_chain A chain.Second o s long within chain.Bucket h = ap (λ z. get_or z h []) (other_entered A chain.Second chain.Bucket o s (λ e. cc))
entered_chain A chain.Second o s long within chain.Target h = ap (λ z. get_or z h []) (other_entered A chain.Second chain.Target o s (λ e. cc))
entered_chain A chain.Second o s long within chain.First h = ap (λ z. get_or z h []) (other_entered A chain.Second chain.First o s (λ e. cc))

-- Heads are below n.

pub first_within : (n : ℕ) (f : Option Frame) → IfSome f (λ g. g.0 < n) → IfSome (number_of f) (λ h. h < n)
first_within n None w = w
first_within n (Some g) w = w

within_at : (n h : ℕ) (o : Option ℕ) → IfSome o (λ h. h < n) → o ≡ Some h → h < n
within_at n h None w e = absurd (none-some h e)
within_at n h (Some g) w e = subst (λ k. k < n) (same_Some g h e) w

module _ (A : Arena Entry) (long : (d : Chain) → length (chains A d) ≡ A.heads) (s : ℕ) (e : Entry)
    (bucket : bucket_of A.heads e.regime e.page e.kind < A.heads) (within : IsWithin A.heads e) where
  abbrev n : ℕ
  n = A.heads

  pub heads_within : (c : Chain) → IfSome (head_of n c e) (λ h. h < n)
  heads_within chain.Bucket = bucket
  heads_within chain.Target = within.target
  heads_within chain.First = first_within n e.pt1 within.first
  heads_within chain.Second = first_within n e.pt0 within.second

  abbrev a1 : Arena Entry
  a1 = entered A chain.Bucket (head_of n chain.Bucket e) s

  abbrev a2 : Arena Entry
  a2 = entered a1 chain.Target (head_of n chain.Target e) s

  abbrev a3 : Arena Entry
  a3 = entered a2 chain.First (head_of n chain.First e) s

  heads1 : a1.heads ≡ n
  heads1 = heads_entered A chain.Bucket (head_of n chain.Bucket e) s

  heads2 : a2.heads ≡ n
  heads2 = heads_entered a1 chain.Target (head_of n chain.Target e) s ∙ heads1

  heads3 : a3.heads ≡ n
  heads3 = heads_entered a2 chain.First (head_of n chain.First e) s ∙ heads2

  within1 : IfSome (head_of n chain.Target e) (λ h. h < a1.heads)
  within1 = subst (λ k. IfSome (head_of n chain.Target e) (λ h. h < k)) (sym heads1) (heads_within chain.Target)

  within2 : IfSome (head_of n chain.First e) (λ h. h < a2.heads)
  within2 = subst (λ k. IfSome (head_of n chain.First e) (λ h. h < k)) (sym heads2) (heads_within chain.First)

  within3 : IfSome (head_of n chain.Second e) (λ h. h < a3.heads)
  within3 = subst (λ k. IfSome (head_of n chain.Second e) (λ h. h < k)) (sym heads3) (heads_within chain.Second)

  long1 : (d : Chain) → length (chains a1 d) ≡ a1.heads
  long1 = long_entered A chain.Bucket (head_of n chain.Bucket e) s long (heads_within chain.Bucket)

  long2 : (d : Chain) → length (chains a2 d) ≡ a2.heads
  long2 = long_entered a1 chain.Target (head_of n chain.Target e) s long1 within1

  long3 : (d : Chain) → length (chains a3 d) ≡ a3.heads
  long3 = long_entered a2 chain.First (head_of n chain.First e) s long2 within2

  pub all_heads : (all_entered A s e).heads ≡ n
  all_heads = heads_entered a3 chain.Second (head_of n chain.Second e) s ∙ heads3

  pub all_paid : (all_entered A s e).payloads ≡ A.payloads
  all_paid = paid_entered a3 chain.Second (head_of n chain.Second e) s ∙ paid_entered a2 chain.First (head_of n chain.First e) s
      ∙ paid_entered a1 chain.Target (head_of n chain.Target e) s ∙ paid_entered A chain.Bucket (head_of n chain.Bucket e) s

  to_a1 : (d : Chain) (h : ℕ) → chain_at a1 d h ≡ joined (same_chain chain.Bucket d && is_head h (head_of n chain.Bucket e)) s (chain_at A d h)
  to_a1 = entered_chain A chain.Bucket (head_of n chain.Bucket e) s long (heads_within chain.Bucket)

  to_a2 : (d : Chain) (h : ℕ) → chain_at a2 d h ≡ joined (same_chain chain.Target d && is_head h (head_of n chain.Target e)) s (chain_at a1 d h)
  to_a2 = entered_chain a1 chain.Target (head_of n chain.Target e) s long1 within1

  to_a3 : (d : Chain) (h : ℕ) → chain_at a3 d h ≡ joined (same_chain chain.First d && is_head h (head_of n chain.First e)) s (chain_at a2 d h)
  to_a3 = entered_chain a2 chain.First (head_of n chain.First e) s long2 within2

  to_all : (d : Chain) (h : ℕ) → chain_at (all_entered A s e) d h ≡ joined (same_chain chain.Second d && is_head h (head_of n chain.Second e)) s (chain_at a3 d h)
  to_all = entered_chain a3 chain.Second (head_of n chain.Second e) s long3 within3

  -- each chain has the slot first if its head is the entry's
  pub all_chain : (d : Chain) (h : ℕ) → chain_at (all_entered A s e) d h ≡ joined (is_head h (head_of n d e)) s (chain_at A d h)
  all_chain chain.Bucket h = to_all chain.Bucket h ∙ to_a3 chain.Bucket h ∙ to_a2 chain.Bucket h ∙ to_a1 chain.Bucket h
  all_chain chain.Target h = to_all chain.Target h ∙ to_a3 chain.Target h ∙ to_a2 chain.Target h
      ∙ ap (joined (is_head h (head_of n chain.Target e)) s) (to_a1 chain.Target h)
  all_chain chain.First h = to_all chain.First h ∙ to_a3 chain.First h
      ∙ ap (joined (is_head h (head_of n chain.First e)) s) (to_a2 chain.First h ∙ to_a1 chain.First h)
  all_chain chain.Second h = to_all chain.Second h
      ∙ ap (joined (is_head h (head_of n chain.Second e)) s) (to_a3 chain.Second h ∙ to_a2 chain.Second h ∙ to_a1 chain.Second h)

-- The arena with the new entry.

lies_same : (ps : List (Option Entry)) (s : ℕ) (e x : Entry) → slice_get ps s ≡ Some None
    → slice_get (slice_set ps s (Some e)) s ≡ Some (Some x) → x ≡ e
lies_same ps s e x free is = same_Some _ _ (same_Some _ _ (sym is ∙ slice_get-set_same ps s (Some e) (slice_get_within ps s None free)))

-- what lies in a slot is the new entry, or an old one elsewhere
pub new_or_old : (ps : List (Option Entry)) (s t : ℕ) (e x : Entry) → slice_get ps s ≡ Some None
    → slice_get (slice_set ps s (Some e)) t ≡ Some (Some x) → ((t ≡ s) × (x ≡ e)) ⊎ (Not (t ≡ s) × (slice_get ps t ≡ Some (Some x)))
new_or_old ps s t e x free is = elim (cases_eq t s) [
  | inl f ↦ inl (f, lies_same ps s e x free (sym (ap (slice_get (slice_set ps s (Some e))) f) ∙ is))
  | inr d ↦ inr (d, sym (slice_get-set_other ps s t (Some e) d) ∙ is)
]

in_joined : (b : Bool) (s t : ℕ) (xs : List ℕ) → IsMemberOf t (joined b s xs) → ((b ≡ true) × (t ≡ s)) ⊎ IsMemberOf t xs
in_joined true s t xs (inl e) = inl (refl, e)
in_joined true s t xs (inr p) = inr p
in_joined false s t xs p = inr p

still_in : (b : Bool) (s t : ℕ) (xs : List ℕ) → IsMemberOf t xs → IsMemberOf t (joined b s xs)
still_in true s t xs p = inr p
still_in false s t xs p = p

pub is_head_same : (h : ℕ) (o : Option ℕ) → is_head h o ≡ true → o ≡ Some h
is_head_same h None e = absurd (false≢true e)
is_head_same h (Some g) e = ap Some (eqb_equal g h e)

pub same_is_head : (h : ℕ) (o : Option ℕ) → o ≡ Some h → is_head h o ≡ true
same_is_head h None e = absurd (none-some h e)
same_is_head h (Some g) e = eq-eqb g h (same_Some g h e)

pub now_placed : (A B : Arena Entry) (s : ℕ) (e : Entry) → ArePlaced A → IsFree A s → IsTidyArena B → B.heads ≡ A.heads
    → B.payloads ≡ slice_set A.payloads s (Some e) → ((c : Chain) → IfSome (head_of A.heads c e) (λ h. h < A.heads))
    → ((c : Chain) (h : ℕ) → chain_at B c h ≡ joined (is_head h (head_of A.heads c e)) s (chain_at A c h)) → ArePlaced B
now_placed A B s e placed free tidy heads paid within all = record { tidy = tidy; there = there; only = only }
  where
    at_A : (t : ℕ) (x : Entry) → LiesAt B t x → ((t ≡ s) × (x ≡ e)) ⊎ (Not (t ≡ s) × LiesAt A t x)
    at_A t x lies = new_or_old A.payloads s t e x free (sym (ap (λ ps. slice_get ps t) paid) ∙ lies)

    there : (c : Chain) (t h : ℕ) (x : Entry) → LiesAt B t x → head_of B.heads c x ≡ Some h → (h < B.heads) × IsMemberOf t (chain_at B c h)
    there c t h x lies k = elim (at_A t x lies) [
      | inl o ↦
          let is : head_of A.heads c e ≡ Some h = ap (head_of A.heads c) (sym o.1) ∙ ap (λ m. head_of m c x) (sym heads) ∙ k in (
            subst (λ m. h < m) (sym heads) (within_at A.heads h (head_of A.heads c e) (within c) is),
            subst (IsMemberOf t) (sym (all c h))
                (subst (λ b. IsMemberOf t (joined b s (chain_at A c h))) (sym (same_is_head h (head_of A.heads c e) is)) (inl o.0)),
          )
      | inr o ↦
          let p = placed.there c t h x o.1 (ap (λ m. head_of m c x) (sym heads) ∙ k) in (
            subst (λ m. h < m) (sym heads) p.0,
            subst (IsMemberOf t) (sym (all c h)) (still_in (is_head h (head_of A.heads c e)) s t (chain_at A c h) p.1),
          )
    ]

    only : (c : Chain) (t h : ℕ) (x : Entry) → h < B.heads → IsMemberOf t (chain_at B c h) → LiesAt B t x → head_of B.heads c x ≡ Some h
    only c t h x l p lies =
        let l' : h < A.heads = subst (λ m. h < m) heads l in
        ap (λ m. head_of m c x) heads ∙ elim (in_joined (is_head h (head_of A.heads c e)) s t (chain_at A c h) (subst (IsMemberOf t) (all c h) p)) [
          | inl o ↦ elim (at_A t x lies) [
            | inl q ↦ ap (head_of A.heads c) q.1 ∙ is_head_same h (head_of A.heads c e) o.0
            | inr q ↦ absurd (q.0 o.1)
          ]
          | inr o ↦ elim (at_A t x lies) [
            | inl q ↦ absurd (not_both A t s free (placed.tidy.in_use c h t l' o) (sym q.0))
            | inr q ↦ placed.only c t h x l' o q.1
          ]
        ]

-- Step by step, as the slot goes into one kind of chains after another.

pub lies_on : (A B : Arena Entry) (c : Chain) (o : Option ℕ) (s : ℕ) (e : Entry) → B ≡ entered A c o s → LiesAt A s e → LiesAt B s e
lies_on A B c o s e now lies =
    ap (λ (D : Arena Entry). slice_get D.payloads s) now ∙ ap (λ ps. slice_get ps s) (paid_entered A c o s) ∙ lies

pub out_on : (A B : Arena Entry) (c d : Chain) (o : Option ℕ) (s : ℕ) → Not (d ≡ c) → B ≡ entered A c o s → Not (Stands A d s)
    → Not (Stands B d s)
out_on A B c d o s n now out st = apart_entered A c d o s n out (subst (λ (D : Arena Entry). Stands D d s) now st)

bucket_below : (n : ℕ) (e : Entry) → 0 < n → bucket_of n e.regime e.page e.kind < n
unfolding bucket_of
bucket_below n e some = omega arith

-- an entry that was put into a free slot and into its chains
pub put_placed : (A T B : Arena Entry) (s : ℕ) (e : Entry) → ArePlaced A → IsFree A s → T ≡ with_payload A s (Some e)
    → B ≡ all_entered T s e → IsTidyArena B → 0 < A.heads → IsWithin A.heads e → ArePlaced B
put_placed A T B s e placed free taken entered tidy some within =
    now_placed A B s e placed free tidy
    (ap (λ (D : Arena Entry). D.heads) entered' ∙ all_heads P long s e bucket within)
    (ap (λ (D : Arena Entry). D.payloads) entered' ∙ all_paid P long s e bucket within)
    (heads_within P long s e bucket within)
    (λ c h. ap (λ D. chain_at D c h) entered' ∙ all_chain P long s e bucket within c h
    ∙ ap (λ z. joined (is_head h (head_of A.heads c e)) s (get_or z h [])) (chains_paid A s (Some e) c))
  where
    P : Arena Entry
    P = with_payload A s (Some e)

    entered' : B ≡ all_entered P s e
    entered' = entered ∙ ap (λ D. all_entered D s e) taken

    long : (d : Chain) → length (chains P d) ≡ P.heads
    long d = ap length (chains_paid A s (Some e) d) ∙ placed.tidy.heads d

    bucket : bucket_of P.heads e.regime e.page e.kind < P.heads
    bucket = bucket_below A.heads e some
