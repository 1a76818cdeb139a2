-- How an arena comes to be: nodes that are their own neighbours, and then one slot after another put into the chain
-- of the free ones.
use Rattle.std.proofs.Common.{◌≡◌, ℕ, zero, suc, ◌+◌, ◌^◌, ◌<◌, inl, inr, false, cond, List, [], ◌∷◌, length, replicate, get_or, slice_set, Some, None, refl, sym, ap, ◌∙◌, subst, arith}
use Rattle.std.proofs.lemmas.Bool.{cases_eq}
use Rattle.std.proofs.lemmas.List.{length-replicate, same_lists, get_or-replicate}
use Rattle.std.proofs.lemmas.List.FromFn.{length-map-range_with_len, get_or-map-range_with_len}
use Rattle.chain_arena.specs.declared.node.Node.{Node}
use Rattle.chain_arena.specs.declared.node.Link.{Link}
use Rattle.chain_arena.specs.declared.node.Link.TheVariants as link
use Rattle.chain_arena.specs.declared.arena.ChainArena.TheInside.{Inside}
use Rattle.chain_arena.specs.Links.{leads_to}
use Rattle.chain_arena.specs.Chains.{IsMemberOf, IsOnce, IsTidy, IsLinked, AreLinked}
use Rattle.chain_arena.specs.Nodes.{payload_of, next_of, previous_of, linked_in, AreAlone}
use Rattle.chain_arena.specs.Arena.{arena, empty_arena}
use Rattle.chain_arena.specs.Inside.{base_of, heads_of, held, payloads_of, AreMade, AreSorted, IsArena}
use Rattle.chain_arena.proofs.Counts.{lying, none_lying}
use Rattle.chain_arena.proofs.Made.{head_node, put, put_here, put_other, held_is, settled, sorted_settled, ring_below, next_in, made_hooked}
use Rattle.chain_arena.proofs.Arenas.{shown}

abbrev Not : Type 0 → Type 0
Not A = A → ⊥

-- the slots below i, from the last to the first
abbrev pub down : ℕ → List ℕ
down zero = []
down (suc i) = i ∷ down i

in_down : (j i : ℕ) → IsMemberOf j (down i) → j < i
in_down j zero p = absurd p
in_down j (suc i) (inl e) = omega arith
in_down j (suc i) (inr p) = let b = in_down j i p in omega arith

down_in : (j i : ℕ) → j < i → IsMemberOf j (down i)
down_in j zero l = absurd (omega arith)
down_in j (suc i) l = elim (cases_eq j i) [ inl e ↦ inl e | inr d ↦ inr (down_in j i (omega arith)) ]

-- no chain has a slot, but that of the free ones has those below i
abbrev pub begun : ℕ → ℕ → Link → List (List ℕ)
begun m i link.Bucket = replicate m []
begun m i link.Target = replicate m []
begun m i link.First = replicate m []
begun m i link.Second = replicate m []
begun m i link.Free = down i ∷ []

empty_chain : (m h : ℕ) → get_or {A = List ℕ} (replicate m []) h [] ≡ []
empty_chain zero h = refl
empty_chain (suc m) zero = refl
empty_chain (suc m) (suc h) = empty_chain m h

begun_empty : (m i : ℕ) (k : Link) (h : ℕ) → Not (k ≡ link.Free) → get_or (begun m i k) h [] ≡ []
begun_empty m i link.Bucket h d = empty_chain m h
begun_empty m i link.Target h d = empty_chain m h
begun_empty m i link.First h d = empty_chain m h
begun_empty m i link.Second h d = empty_chain m h
begun_empty m i link.Free h d = absurd (d refl)

none_begun : (m : ℕ) (k : Link) (h : ℕ) → get_or (begun m 0 k) h [] ≡ []
none_begun m link.Bucket h = empty_chain m h
none_begun m link.Target h = empty_chain m h
none_begun m link.First h = empty_chain m h
none_begun m link.Second h = empty_chain m h
none_begun m link.Free zero = refl
none_begun m link.Free (suc h) = refl

begun_heads : (m i : ℕ) (k : Link) → length (begun m i k) ≡ heads_of m k
begun_heads m i link.Bucket = length-replicate m []
begun_heads m i link.Target = length-replicate m []
begun_heads m i link.First = length-replicate m []
begun_heads m i link.Second = length-replicate m []
begun_heads m i link.Free = refl

more_same : (m i : ℕ) (k : Link) → begun m (suc i) k ≡ put link.Free ((i ∷ down i) ∷ []) (begun m i) k
more_same m i link.Bucket = sym (put_other link.Free ((i ∷ down i) ∷ []) (begun m i) link.Bucket (λ e. cc))
more_same m i link.Target = sym (put_other link.Free ((i ∷ down i) ∷ []) (begun m i) link.Target (λ e. cc))
more_same m i link.First = sym (put_other link.Free ((i ∷ down i) ∷ []) (begun m i) link.First (λ e. cc))
more_same m i link.Second = sym (put_other link.Free ((i ∷ down i) ∷ []) (begun m i) link.Second (λ e. cc))
more_same m i link.Free = sym (put_here link.Free ((i ∷ down i) ∷ []) (begun m i) link.Free refl)

module _ {X : Type 0} where
  -- a block of like nodes, and one node of it written

  pub replicate_empty : (n : ℕ) (x : Node X) → x.used ≡ false → (j : ℕ) → payload_of (replicate n x) j ≡ None
  replicate_empty zero x e j = refl
  replicate_empty (suc n) x e zero = ap (λ b. cond b (Some x.value) None) e
  replicate_empty (suc n) x e (suc j) = replicate_empty n x e j

  pub set_empty : (xs : List (Node X)) (i : ℕ) (x : Node X) → x.used ≡ false → (j : ℕ) → payload_of xs j ≡ None
      → payload_of (slice_set xs i x) j ≡ None
  set_empty [] i x e j h = refl
  set_empty (y ∷ xs) zero x e zero h = ap (λ b. cond b (Some x.value) None) e
  set_empty (y ∷ xs) zero x e (suc j) h = h
  set_empty (y ∷ xs) (suc i) x e zero h = h
  set_empty (y ∷ xs) (suc i) x e (suc j) h = set_empty xs i x e j h

  pub set_next_here : (k : Link) (xs : List (Node X)) (i : ℕ) (x : Node X) → i < length xs
      → next_of k (slice_set xs i x) i ≡ leads_to k x.next
  set_next_here k [] i x h = absurd (omega arith)
  set_next_here k (y ∷ xs) zero x h = refl
  set_next_here k (y ∷ xs) (suc i) x h = set_next_here k xs i x (omega arith)

  pub set_previous_here : (k : Link) (xs : List (Node X)) (i : ℕ) (x : Node X) → i < length xs
      → previous_of k (slice_set xs i x) i ≡ leads_to k x.previous
  set_previous_here k [] i x h = absurd (omega arith)
  set_previous_here k (y ∷ xs) zero x h = refl
  set_previous_here k (y ∷ xs) (suc i) x h = set_previous_here k xs i x (omega arith)

  pub set_next_other : (k : Link) (xs : List (Node X)) (i j : ℕ) (x : Node X) → Not (j ≡ i)
      → next_of k (slice_set xs i x) j ≡ next_of k xs j
  set_next_other k [] i j x d = refl
  set_next_other k (y ∷ xs) zero zero x d = absurd (d refl)
  set_next_other k (y ∷ xs) zero (suc j) x d = refl
  set_next_other k (y ∷ xs) (suc i) zero x d = refl
  set_next_other k (y ∷ xs) (suc i) (suc j) x d = set_next_other k xs i j x (λ e. d (ap suc e))

  pub set_previous_other : (k : Link) (xs : List (Node X)) (i j : ℕ) (x : Node X) → Not (j ≡ i)
      → previous_of k (slice_set xs i x) j ≡ previous_of k xs j
  set_previous_other k [] i j x d = refl
  set_previous_other k (y ∷ xs) zero zero x d = absurd (d refl)
  set_previous_other k (y ∷ xs) zero (suc j) x d = refl
  set_previous_other k (y ∷ xs) (suc i) zero x d = refl
  set_previous_other k (y ∷ xs) (suc i) (suc j) x d = set_previous_other k xs i j x (λ e. d (ap suc e))

  -- the chains

  pub alone_made : (xs : List (Node X)) (n m : ℕ) → AreAlone xs (n + m + 1) → AreMade xs n m (begun m 0)
  alone_made xs n m alone = record {
    long = alone.long;
    heads = begun_heads m 0;
    linked = λ k h lt. let head = head_node n m k h (subst (λ j. h < j) (begun_heads m 0 k) lt) in
        subst (λ l. IsLinked (next_of k xs) (previous_of k xs) (base_of n m k + h) l (base_of n m k + h))
        (sym (none_begun m k h)) (alone.next k (base_of n m k + h) head, alone.previous k (base_of n m k + h) head);
    tidy = λ k. record {
      below = λ h i lt p. absurd (subst (IsMemberOf i) (none_begun m k h) p);
      once = λ h lt. subst IsOnce (sym (none_begun m k h)) tt;
      apart = λ g h i lg lh p q. absurd (subst (IsMemberOf i) (none_begun m k g) p);
    };
  }

  made_same : (xs : List (Node X)) (n m : ℕ) (css ds : Link → List (List ℕ)) → ((k : Link) → ds k ≡ css k)
      → AreMade xs n m css → AreMade xs n m ds
  made_same xs n m css ds same made = record {
    long = made.long;
    heads = λ k. ap length (same k) ∙ made.heads k;
    linked = λ k. subst (AreLinked (next_of k xs) (previous_of k xs) (base_of n m k)) (sym (same k)) (made.linked k);
    tidy = λ k. subst (IsTidy n) (sym (same k)) (made.tidy k);
  }

  pub begun_more : (xs ys : List (Node X)) (n m i : ℕ) → AreMade xs n m (begun m i) → i < n
      → ys ≡ linked_in link.Free i (n + m) xs → AreMade ys n m (begun m (suc i))
  begun_more xs ys n m i made slot now =
      let more : List (List ℕ) = slice_set (begun m i link.Free) 0 (i ∷ get_or (begun m i link.Free) 0 []) in
      let at_zero : n + m ≡ n + m + 0 = omega arith in
      let all = made_hooked xs n m (begun m i) made link.Free i 0 slot (omega arith) (λ g l p.
      let head : g ≡ 0 = omega arith in let b =
      in_down i i (subst (λ h. IsMemberOf i (get_or (down i ∷ []) h [])) head p) in absurd (omega arith)) in
      subst (λ l. AreMade l n m (begun m (suc i))) (sym (now ∙ ap (λ b. linked_in link.Free i b xs) at_zero))
      (made_same (linked_in link.Free i (n + m + 0) xs) n m (put link.Free more (begun m i)) (begun m (suc i))
      (more_same m i) all)

  pub free_next : (xs : List (Node X)) (n m i : ℕ) → AreMade xs n m (begun m i)
      → next_of link.Free xs (n + m) < length xs
  free_next xs n m i made =
      let at_zero : n + m + 0 ≡ n + m = omega arith in
      subst (λ b. next_of link.Free xs b < length xs) at_zero
      (ring_below xs n m (begun m i) made link.Free 0 (next_of link.Free xs (n + m + 0)) (omega arith)
      (next_in xs n m (begun m i) made link.Free 0 (omega arith)))

  module _ (xs : List (Node X)) (n m : ℕ) (made : AreMade xs n m (begun m n)) (empty : (j : ℕ)
      → payload_of xs j ≡ None) where
    begun_sorted : AreSorted xs n m (begun m n)
    begun_sorted = record {
      free = λ i l e. down_in i n l;
      spare = λ i p. empty i;
      in_use = λ k h i d l p. absurd (subst (IsMemberOf i) (begun_empty m n k h d) p);
    }

    no_payloads : payloads_of xs n ≡ replicate n None
    no_payloads =
        same_lists (payloads_of xs n) (replicate n None) (length-map-range_with_len (payload_of xs) 0 n
        ∙ sym (length-replicate n None)) (λ i d lt.
        let within : i < n = subst (λ k. i < k) (length-map-range_with_len (payload_of xs) 0 n) lt in
        get_or-map-range_with_len (payload_of xs) 0 n i i d within (omega arith) ∙ empty i
        ∙ sym (get_or-replicate n i None d within))

    pub opened : n + m + 1 < 2 ^ 64
        → IsArena (let b : Inside X = record { block = xs; nodes = n; heads = m; used = 0 } in b)
    opened small = record {
      made = settled xs n m (begun m n) made;
      sorted = sorted_settled xs n m (begun m n) (held xs n m) begun_sorted (held_is xs n m (begun m n) made);
      small = small;
      counted = sym (ap (λ ps. length (lying ps)) no_payloads ∙ ap length (none_lying n));
    }

    pub opened_shows : shown xs n m ≡ empty_arena n m
    opened_shows =
        let b = held_is xs n m (begun m n) made link.Bucket in let t = held_is xs n m (begun m n) made link.Target in
        let f = held_is xs n m (begun m n) made link.First in let s = held_is xs n m (begun m n) made link.Second in
        λ i. arena (no_payloads i) m (b i) (t i) (f i) (s i)
