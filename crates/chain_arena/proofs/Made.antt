-- The chains of all kinds, as the links of the nodes make them.
use Rattle.std.proofs.Common.{◌≡◌, ℕ, ◌+◌, ◌<◌, ◌≤◌, inl, inr, Bool, List, [], ◌∷◌, map, length, get_or, slice_set, refl, sym, ap, ◌∙◌, subst, arith}
use Rattle.std.proofs.lemmas.List.{length-set, length-map}
use Rattle.chain_arena.specs.declared.node.Node.{Node}
use Rattle.chain_arena.specs.declared.node.Link.{Link}
use Rattle.chain_arena.specs.declared.node.Link.TheVariants as link
use Rattle.chain_arena.specs.Chains.{IsMemberOf, without, IsTidy, AreLinked}
use Rattle.chain_arena.specs.Nodes.{next_of, previous_of, linked_in, taken_out, with_content}
use Rattle.chain_arena.specs.Inside.{base_of, heads_of, held, AreMade, AreSorted}
use Rattle.chain_arena.proofs.Chains.{first_in, after_in, before_in}
use Rattle.chain_arena.proofs.AllChains.{chains_are, linked_same, in_ring, tidy_hooked, linked_hooked, tidy_unhooked, linked_unhooked}
use Rattle.chain_arena.proofs.Nodes.{cases_link, length-linked_in, in-next-other, in-previous-other, in-next-a, in-next-s, in-next, in-previous-f, in-previous-s, in-previous, length-taken_out, out-next-other, out-previous-other, out-next-p, out-next, out-previous-n, out-previous, length-with_content, next-with_content, previous-with_content}

abbrev Not : Type 0 → Type 0
Not A = A → ⊥

pub base_over : (n m : ℕ) (k : Link) → n ≤ base_of n m k
base_over n m link.Bucket = omega arith
base_over n m link.Target = omega arith
base_over n m link.First = omega arith
base_over n m link.Second = omega arith
base_over n m link.Free = omega arith

pub head_node : (n m : ℕ) (k : Link) (h : ℕ) → h < heads_of m k → base_of n m k + h < n + m + 1
head_node n m link.Bucket h l = omega arith
head_node n m link.Target h l = omega arith
head_node n m link.First h l = omega arith
head_node n m link.Second h l = omega arith
head_node n m link.Free h l = omega arith

-- the lists of the kinds, with other ones for one kind
abbrev pub put : Link → List (List ℕ) → (Link → List (List ℕ)) → Link → List (List ℕ)
put c y css k = elim (cases_link k c) [ inl e ↦ y | inr d ↦ css k ]

pub put_here : (c : Link) (y : List (List ℕ)) (css : Link → List (List ℕ)) (k : Link) → k ≡ c → put c y css k ≡ y
put_here c y css k e = elim (cases_link k c) as (λ t. elim t [ inl e ↦ y | inr d ↦ css k ]
    ≡ y) [ inl _ ↦ refl | inr d ↦ absurd (d e) ]

pub put_other : (c : Link) (y : List (List ℕ)) (css : Link → List (List ℕ)) (k : Link) → Not (k ≡ c)
    → put c y css k ≡ css k
put_other c y css k d = elim (cases_link k c) as (λ t. elim t [ inl e ↦ y | inr d ↦ css k ]
    ≡ css k) [ inl e ↦ absurd (d e) | inr _ ↦ refl ]

module _ {X : Type 0} where
  pub held_is : (xs : List (Node X)) (n m : ℕ) (css : Link → List (List ℕ)) → AreMade xs n m css → (k : Link)
      → held xs n m k ≡ css k
  held_is xs n m css made k = chains_are (next_of k xs) (previous_of k xs) n (base_of n m k) (heads_of m k) (css k)
      (base_over n m k) (made.tidy k) (made.linked k) (made.heads k)

  pub settled : (xs : List (Node X)) (n m : ℕ) (css : Link → List (List ℕ)) → AreMade xs n m css
      → AreMade xs n m (held xs n m)
  settled xs n m css made = record {
    long = made.long;
    heads = λ k. ap length (held_is xs n m css made k) ∙ made.heads k;
    linked = λ k. subst (AreLinked (next_of k xs) (previous_of k xs) (base_of n m k))
        (sym (held_is xs n m css made k)) (made.linked k);
    tidy = λ k. subst (IsTidy n) (sym (held_is xs n m css made k)) (made.tidy k);
  }

  pub sorted_settled : (xs : List (Node X)) (n m : ℕ) (css ds : Link → List (List ℕ)) → AreSorted xs n m css
      → ((k : Link) → ds k ≡ css k) → AreSorted xs n m ds
  sorted_settled xs n m css ds sorted same = record {
    free = λ i l e. subst (λ c. IsMemberOf i (get_or c 0 [])) (sym (same link.Free)) (sorted.free i l e);
    spare = λ i p. sorted.spare i (subst (λ c. IsMemberOf i (get_or c 0 [])) (same link.Free) p);
    in_use = λ k h i d l p. sorted.in_use k h i d l (subst (λ c. IsMemberOf i (get_or c h [])) (same k) p);
  }

  module _ (xs : List (Node X)) (n m : ℕ) (css : Link → List (List ℕ)) (made : AreMade xs n m css) (c : Link) where
    abbrev base : ℕ
    base = base_of n m c

    abbrev nx : ℕ → ℕ
    nx = next_of c xs

    abbrev pv : ℕ → ℕ
    pv = previous_of c xs

    within : (h : ℕ) → h < heads_of m c → h < length (css c)
    within h l = subst (λ k. h < k) (sym (made.heads c)) l

    -- the nodes of a chain, its head included, are nodes
    pub ring_below : (h i : ℕ) → h < heads_of m c → IsMemberOf i ((base + h) ∷ get_or (css c) h []) → i < length xs
    ring_below h i l (inl e) = let b = head_node n m c h l in omega (arith, made.long)
    ring_below h i l (inr p) = let tidy = made.tidy c in let b = tidy.below h i (within h l) p in
        omega (arith, made.long)

    pub next_in : (h : ℕ) → h < heads_of m c → IsMemberOf (nx (base + h)) ((base + h) ∷ get_or (css c) h [])
    next_in h l = in_ring n base (css c) (base_over n m c) (made.tidy c) h (nx (base + h))
        (first_in nx pv (base + h) (get_or (css c) h []) (base + h) (made.linked c h (within h l)))

    pub after_is_in : (h s : ℕ) → h < heads_of m c → IsMemberOf s (get_or (css c) h [])
        → IsMemberOf (nx s) ((base + h) ∷ get_or (css c) h [])
    after_is_in h s l p = in_ring n base (css c) (base_over n m c) (made.tidy c) h (nx s)
        (after_in nx pv (base + h) (get_or (css c) h []) (base + h) s (made.linked c h (within h l)) p)

    pub before_is_in : (h s : ℕ) → h < heads_of m c → IsMemberOf s (get_or (css c) h [])
        → IsMemberOf (pv s) ((base + h) ∷ get_or (css c) h [])
    before_is_in h s l p = before_in nx pv (base + h) (get_or (css c) h []) (base + h) s
        (made.linked c h (within h l)) p

    module _ (s h : ℕ) (slot : s < n) (head : h < heads_of m c) (out : (g : ℕ) → g < heads_of m c
        → Not (IsMemberOf s (get_or (css c) g []))) where
      abbrev a : ℕ
      a = base + h

      abbrev pub with_hook : List (List ℕ)
      with_hook = slice_set (css c) h (s ∷ get_or (css c) h [])

      abbrev ys : List (Node X)
      ys = linked_in c s a xs

      not_head : Not (s ≡ a)
      not_head e = let o = base_over n m c in absurd (omega arith)

      not_next : Not (s ≡ nx a)
      not_next e = elim (next_in h head) [
        | inl f ↦ not_head (e
            ∙ f)
        | inr p ↦ out h head (subst (λ i. IsMemberOf i (get_or (css c) h [])) (sym e) p)
      ]

      out_all : (g : ℕ) → g < length (css c) → Not (IsMemberOf s (get_or (css c) g []))
      out_all g l = out g (subst (λ k. g < k) (made.heads c) l)

      hook_linked : AreLinked (next_of c ys) (previous_of c ys) base with_hook
      hook_linked =
          let s_node : s < length xs = omega (arith, made.long) in
          linked_hooked n base (css c) (base_over n m c) (made.tidy c) s h slot (within h head) out_all nx pv
          (next_of c ys) (previous_of c ys) (made.linked c)
          (in-next-s c s a xs s_node not_head) (in-next-a c s a xs (ring_below h a head (inl refl)))
          (λ i. in-next c s a xs i)
          (in-previous-s c s a xs s_node not_next)
          (in-previous-f c s a xs (ring_below h (nx a) head (next_in h head))) (λ i. in-previous c s a xs i)

      pub made_hooked : AreMade ys n m (put c with_hook css)
      made_hooked = record {
        long = length-linked_in c s a xs ∙ made.long;
        heads = λ k. elim (cases_link k c) [
          | inl e ↦ ap length (put_here c with_hook css k e) ∙ length-set (css c) h (s ∷ get_or (css c) h [])
              ∙ made.heads c ∙ ap (heads_of m) (sym e)
          | inr d ↦ ap length (put_other c with_hook css k d) ∙ made.heads k
        ];
        linked = λ k. elim (cases_link k c) [
          | inl e ↦ subst (λ (j : Link). AreLinked (next_of j ys) (previous_of j ys) (base_of n m j)
              (put c with_hook css j)) (sym e)
              (subst (AreLinked (next_of c ys) (previous_of c ys) base)
              (sym (put_here c with_hook css c refl)) hook_linked)
          | inr d ↦ subst (AreLinked (next_of k ys) (previous_of k ys) (base_of n m k))
              (sym (put_other c with_hook css k d))
              (linked_same (next_of k xs) (previous_of k xs) (next_of k ys) (previous_of k ys) (base_of n m k) (css k)
              (made.linked k) (λ i. in-next-other c s a xs k i d) (λ i. in-previous-other c s a xs k i d))
        ];
        tidy = λ k. elim (cases_link k c) [
          | inl e ↦ subst (IsTidy n) (sym (put_here c with_hook css k e))
              (tidy_hooked n base (css c) (base_over n m c) (made.tidy c) s h slot (within h head) out_all)
          | inr d ↦ subst (IsTidy n) (sym (put_other c with_hook css k d)) (made.tidy k)
        ];
      }

    module _ (s h : ℕ) (head : h < heads_of m c) (stands : IsMemberOf s (get_or (css c) h [])) where
      abbrev pub with_unhook : List (List ℕ)
      with_unhook = map (without s) (css c)

      abbrev zs : List (Node X)
      zs = taken_out c s xs

      unhook_linked : AreLinked (next_of c zs) (previous_of c zs) base with_unhook
      unhook_linked =
          linked_unhooked n base (css c) (base_over n m c) (made.tidy c) s h (within h head) stands nx pv
          (next_of c zs) (previous_of c zs) (made.linked c)
          (out-next-p c s xs (ring_below h (pv s) head (before_is_in h s head stands))) (λ i. out-next c s xs i)
          (out-previous-n c s xs (ring_below h (nx s) head (after_is_in h s head stands)))
          (λ i. out-previous c s xs i)

      pub made_unhooked : AreMade zs n m (put c with_unhook css)
      made_unhooked = record {
        long = length-taken_out c s xs ∙ made.long;
        heads = λ k. elim (cases_link k c) [
          | inl e ↦ ap length (put_here c with_unhook css k e) ∙ length-map (css c) (without s) ∙ made.heads c
              ∙ ap (heads_of m) (sym e)
          | inr d ↦ ap length (put_other c with_unhook css k d) ∙ made.heads k
        ];
        linked = λ k. elim (cases_link k c) [
          | inl e ↦ subst (λ (j : Link). AreLinked (next_of j zs) (previous_of j zs) (base_of n m j)
              (put c with_unhook css j)) (sym e)
              (subst (AreLinked (next_of c zs) (previous_of c zs) base)
              (sym (put_here c with_unhook css c refl)) unhook_linked)
          | inr d ↦ subst (AreLinked (next_of k zs) (previous_of k zs) (base_of n m k))
              (sym (put_other c with_unhook css k d))
              (linked_same (next_of k xs) (previous_of k xs) (next_of k zs) (previous_of k zs) (base_of n m k) (css k)
              (made.linked k) (λ i. out-next-other c s xs k i d) (λ i. out-previous-other c s xs k i d))
        ];
        tidy = λ k. elim (cases_link k c) [
          | inl e ↦ subst (IsTidy n) (sym (put_here c with_unhook css k e))
              (tidy_unhooked n base (css c) (base_over n m c) (made.tidy c) s)
          | inr d ↦ subst (IsTidy n) (sym (put_other c with_unhook css k d)) (made.tidy k)
        ];
      }

  pub made_payload : (xs : List (Node X)) (n m : ℕ) (css : Link → List (List ℕ)) → AreMade xs n m css
      → (i : ℕ) (used : Bool) (value : X) → AreMade (with_content i used value xs) n m css
  made_payload xs n m css made i used value = record {
    long = length-with_content i used value xs ∙ made.long;
    heads = made.heads;
    linked = λ k. linked_same (next_of k xs) (previous_of k xs) (next_of k (with_content i used value xs))
        (previous_of k (with_content i used value xs)) (base_of n m k) (css k) (made.linked k)
        (λ j. next-with_content k i used value j xs) (λ j. previous-with_content k i used value j xs);
    tidy = made.tidy;
  }
