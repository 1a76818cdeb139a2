-- What `take` and `give_back` do to an arena, and what holds of every arena.
use Rattle.std.proofs.Common.{◌≡◌, ℕ, ◌+◌, ◌-◌, ◌<◌, ◌≤◌, inl, inr, true, false, List, [], ◌∷◌, map, length, get_or, slice_set, Option, Some, None, refl, sym, ap, ◌∙◌, subst, arith}
use Rattle.std.proofs.lemmas.Bool.{cases_eq}
use Rattle.std.proofs.lemmas.Option.{none-some}
use Rattle.std.proofs.lemmas.List.{length-set, same_lists, get_or-set_same, get_or-set_other}
use Rattle.std.proofs.lemmas.List.FromFn.{length-map-range_with_len, get_or-map-range_with_len}
use Rattle.chain_arena.specs.declared.node.Node.{Node}
use Rattle.chain_arena.specs.declared.node.Link.{Link}
use Rattle.chain_arena.specs.declared.node.Link.TheVariants as link
use Rattle.chain_arena.specs.declared.chain.Chain.{Chain}
use Rattle.chain_arena.specs.declared.chain.Chain.TheVariants as chain
use Rattle.chain_arena.specs.declared.arena.ChainArena.TheInside.{Inside}
use Rattle.chain_arena.specs.Links.{link_of}
use Rattle.chain_arena.specs.Chains.{IsMemberOf, without, IsTidy, IsLinked}
use Rattle.chain_arena.specs.Nodes.{payload_of, next_of, previous_of, linked_in, taken_out}
use Rattle.chain_arena.specs.Nodes as nodes
use Rattle.chain_arena.specs.Arena.{Arena, arena, chains, IsFree, IsInUse, Stands, with_payload, IsTidyArena}
use Rattle.chain_arena.specs.Inside.{held, payloads_of, AreMade, AreSorted, arena_of, IsArena}
use Rattle.chain_arena.proofs.Counts.{lying, fewer_lying, one_taken, one_given}
use Rattle.chain_arena.proofs.Chains.{first_in, in_push, in_without, in_still, get_or-without}
use Rattle.chain_arena.proofs.Nodes.{payload-linked_in, payload-taken_out, payload-here, payload-elsewhere, length-taken_out, length-with_content}
use Rattle.chain_arena.proofs.Made.{put, put_here, put_other, held_is, settled, sorted_settled, ring_below, next_in, after_is_in, before_is_in, made_hooked, made_unhooked, made_payload}
use Rattle.chain_arena.proofs.Arenas.{heads_is, not_free, payload_in, payload_is, shown, chains_held, in_block}

abbrev Not : Type 0 → Type 0
Not A = A → ⊥

chain_of : (k : Link) → Not (k ≡ link.Free) → (c : Chain) × (link_of c ≡ k)
chain_of link.Bucket d = (chain.Bucket, refl)
chain_of link.Target d = (chain.Target, refl)
chain_of link.First d = (chain.First, refl)
chain_of link.Second d = (chain.Second, refl)
chain_of link.Free d = absurd (d refl)

-- the head's link leads past the slots exactly if the chain is empty

none_past : (nx pv : ℕ → ℕ) (n a : ℕ) (xs : List ℕ) (b i : ℕ) → IsLinked nx pv a xs b → ((i : ℕ) → IsMemberOf i xs → i < n)
    → n ≤ nx a → Not (IsMemberOf i xs)
none_past nx pv n a [] b i l below past p = p
none_past nx pv n a (x ∷ xs) b i l below past p = let q = below x (inl refl) in absurd (omega (arith, l.0))

first_slot : (nx pv : ℕ → ℕ) (n a : ℕ) (xs : List ℕ) (b : ℕ) → IsLinked nx pv a xs b → n ≤ b → nx a < n
    → IsMemberOf (nx a) xs
first_slot nx pv n a xs b l over slot = elim
    (in_push (nx a) b xs (first_in nx pv a xs b l)) [ inl p ↦ p | inr e ↦ absurd (omega arith) ]

module _ {X : Type 0} where
  pub stands_paid : (A : Arena X) (c : Chain) (s t : ℕ) (p : Option X) → Stands (with_payload A t p) c s
      → Stands A c s
  stands_paid A chain.Bucket s t p st = (st.0, st.1, st.2)
  stands_paid A chain.Target s t p st = (st.0, st.1, st.2)
  stands_paid A chain.First s t p st = (st.0, st.1, st.2)
  stands_paid A chain.Second s t p st = (st.0, st.1, st.2)

  -- one payload is changed
  payload_set : (xs ws : List (Node X)) (n s : ℕ) (p : Option X) → s < n → payload_of ws s ≡ p
      → ((i : ℕ) → Not (i ≡ s) → payload_of ws i ≡ payload_of xs i)
      → payloads_of ws n ≡ slice_set (payloads_of xs n) s p
  payload_set xs ws n s p slot here others =
      let long = length-map-range_with_len (payload_of xs) 0 n in
      let long' = length-map-range_with_len (payload_of ws) 0 n in
      same_lists (payloads_of ws n) (slice_set (payloads_of xs n) s p) (long'
      ∙ sym (length-set (payloads_of xs n) s p ∙ long)) (λ i d lt.
      let within : i < n = subst (λ k. i < k) long' lt in
      get_or-map-range_with_len (payload_of ws) 0 n i i d within (omega arith) ∙ elim (cases_eq i s) [
        | inl e ↦ ap (payload_of ws) e ∙ here ∙ sym (ap (λ k. get_or (slice_set (payloads_of xs n) s p) k d) e
            ∙ get_or-set_same (payloads_of xs n) s p d (subst (λ k. s < k) (sym long) slot))
        | inr f ↦ others i f ∙ sym (get_or-set_other (payloads_of xs n) s i p d f
            ∙ get_or-map-range_with_len (payload_of xs) 0 n i i d within (omega arith))
      ])

  paid : (xs ws : List (Node X)) (n m s : ℕ) (p : Option X) → s < n → payload_of ws s ≡ p
      → ((i : ℕ) → Not (i ≡ s) → payload_of ws i ≡ payload_of xs i)
      → ((k : Link) → Not (k ≡ link.Free) → held ws n m k ≡ held xs n m k)
      → shown ws n m ≡ with_payload (shown xs n m) s p
  paid xs ws n m s p slot here others same =
      let ps = payload_set xs ws n s p slot here others in
      let b = same link.Bucket (λ e. cc) in let t = same link.Target (λ e. cc) in let f = same link.First (λ e. cc) in
      let z = same link.Second (λ e. cc) in
      λ i. arena (ps i) m (b i) (t i) (f i) (z i)

  module _ (a : Inside X) (is : IsArena a) where
    abbrev xs : List (Node X)
    xs = a.block

    abbrev n : ℕ
    n = a.nodes

    abbrev m : ℕ
    m = a.heads

    abbrev css : Link → List (List ℕ)
    css = held xs n m

    abbrev fs : List ℕ
    fs = get_or (css link.Free) 0 []

    abbrev nx : ℕ → ℕ
    nx = next_of link.Free xs

    -- the free slots' head

    at_zero : n + m + 0 ≡ n + m
    at_zero = omega arith

    one_head : 0 < length (css link.Free)
    one_head = let h = is.made.heads link.Free in omega (arith, h)

    free_linked : IsLinked nx (previous_of link.Free xs) (n + m) fs (n + m)
    free_linked = subst (λ b. IsLinked nx (previous_of link.Free xs) b fs b) at_zero
        (is.made.linked link.Free 0 one_head)

    free_below : (i : ℕ) → IsMemberOf i fs → i < n
    free_below i p = (is.made.tidy link.Free).below 0 i one_head p

    pub all_taken : n ≤ nx (n + m) → (s : ℕ) → Not (IsFree (arena_of a) s)
    all_taken past s f =
        let p = payload_in xs n s None f in
        none_past nx (previous_of link.Free xs) n (n + m) fs (n + m) s free_linked free_below past
        (is.sorted.free s p.0 p.1)

    pub free_next_in_block : next_of link.Free xs (n + m) < length xs
    free_next_in_block = subst (λ b. nx b < length xs) at_zero
        (ring_below xs n m css is.made link.Free 0 (nx (n + m + 0)) (omega arith)
        (next_in xs n m css is.made link.Free 0 (omega arith)))

    -- a slot that stands in a chain is in use
    pub stands_used : (c : Chain) (s : ℕ) → Stands (arena_of a) c s → Not (payload_of xs s ≡ None)
    stands_used c s st = is.sorted.in_use (link_of c) st.0 s (not_free c) st.1
        (subst (λ z. IsMemberOf s (get_or z st.0 [])) (chains_held xs n m c) st.2)

    pub every_tidy : IsTidyArena (arena_of a)
    every_tidy = record {
      heads = λ c. ap length (chains_held xs n m c) ∙ is.made.heads (link_of c) ∙ heads_is m c;
      tidy = λ c. subst (λ k. IsTidy k (chains (arena_of a) c)) (sym (length-map-range_with_len (payload_of xs) 0 n))
          (subst (IsTidy n) (sym (chains_held xs n m c)) (is.made.tidy (link_of c)));
      in_use = λ c h s l p.
          let used = stands_used c s (h, l, p) in
          let q : IsMemberOf s (get_or (css (link_of c)) h []) =
          subst (λ z. IsMemberOf s (get_or z h [])) (chains_held xs n m c) p in
          let slot : s < n = (is.made.tidy (link_of c)).below h s
          (subst (λ z. h < z) (sym (is.made.heads (link_of c) ∙ heads_is m c)) l) q in
          some_of (payload_of xs s) (payload_is xs n s slot) used;
    } where
      some_of : {P : Option (Option X)} (o : Option X) → P ≡ Some o → Not (o ≡ None) → (x : X) × (P ≡ Some (Some x))
      some_of None e d = absurd (d refl)
      some_of (Some x) e d = (x, e)

    -- take

    module _ (s : ℕ) (is_first : s ≡ nx (n + m)) (slot : s < n) where
      pub is_free_in : IsMemberOf s fs
      is_free_in = subst (λ i. IsMemberOf i fs) (sym is_first)
          (first_slot nx (previous_of link.Free xs) n (n + m) fs (n + m) free_linked (omega arith)
          (subst (λ i. i < n) is_first slot))

      pub was_free : IsFree (arena_of a) s
      was_free = payload_is xs n s slot ∙ ap Some (is.sorted.spare s is_free_in)

      pub take_after : next_of link.Free xs s < length xs
      take_after = ring_below xs n m css is.made link.Free 0 (next_of link.Free xs s) (omega arith)
          (after_is_in xs n m css is.made link.Free 0 s (omega arith) is_free_in)

      pub take_before : previous_of link.Free xs s < length xs
      take_before = ring_below xs n m css is.made link.Free 0 (previous_of link.Free xs s) (omega arith)
          (before_is_in xs n m css is.made link.Free 0 s (omega arith) is_free_in)

      pub fewer_used : a.used < n
      fewer_used =
          let fewer = fewer_lying (payloads_of xs n) s was_free in
          let long = length-map-range_with_len (payload_of xs) 0 n in
          let was = is.counted in
          omega (arith, fewer, long, was)

      pub slot_in_block : s < length xs
      slot_in_block = omega (arith, is.made.long)

      module _ (value : X) (ws : List (Node X)) (now : ws
          ≡ nodes.with_content s true value (taken_out link.Free s xs)) where
        abbrev es : Link → List (List ℕ)
        es = put link.Free (map (without s) (css link.Free)) css

        made : AreMade ws n m es
        made = subst (λ l. AreMade l n m es) (sym now)
            (made_payload (taken_out link.Free s xs) n m es
            (made_unhooked xs n m css is.made link.Free s 0 (omega arith) is_free_in) s true value)

        here : payload_of ws s ≡ Some value
        here = ap (λ l. payload_of l s) now ∙ payload-here s true value (taken_out link.Free s xs)
            (subst (λ k. s < k) (sym (length-taken_out link.Free s xs)) slot_in_block)

        elsewhere : (i : ℕ) → Not (i ≡ s) → payload_of ws i ≡ payload_of xs i
        elsewhere i d = ap (λ l. payload_of l i) now ∙ payload-elsewhere s true value i (taken_out link.Free s xs) d
            ∙ payload-taken_out link.Free s xs i

        free_list : get_or (es link.Free) 0 [] ≡ without s fs
        free_list = ap (λ z. get_or z 0 []) (put_here link.Free (map (without s) (css link.Free)) css link.Free refl)
            ∙ get_or-without s (css link.Free) 0

        other : (i : ℕ) → payload_of ws i ≡ None → Not (i ≡ s)
        other i e f = none-some value (sym e ∙ ap (payload_of ws) f ∙ here)

        sorted : AreSorted ws n m es
        sorted = record {
          free = λ i l e. subst (IsMemberOf i) (sym free_list)
              (in_still s i fs (is.sorted.free i l (sym (elsewhere i (other i e)) ∙ e)) (other i e));
          spare = λ i p. let q = in_without s i fs (subst (IsMemberOf i) free_list p) in
              elsewhere i q.1 ∙ is.sorted.spare i q.0;
          in_use = λ k h i d l p e. is.sorted.in_use k h i d l
              (subst (λ z. IsMemberOf i (get_or z h [])) (put_other link.Free (map (without s) (css link.Free)) css k d) p)
              (sym (elsewhere i (other i e)) ∙ e);
        }

        pub take_shows : shown ws n m ≡ with_payload (arena_of a) s (Some value)
        take_shows = paid xs ws n m s (Some value) slot here elsewhere (λ k d. held_is ws n m es made k
            ∙ put_other link.Free (map (without s) (css link.Free)) css k d)

        pub take_keeps : IsArena (let b : Inside X = record a { block = ws; used = a.used + 1 } in b)
        take_keeps = record {
          made = settled ws n m es made;
          sorted = sorted_settled ws n m es (held ws n m) sorted (held_is ws n m es made);
          small = is.small;
          counted = ap (λ k. k + 1) is.counted ∙ sym (one_taken (payloads_of xs n) s value was_free)
              ∙ ap (λ (A : Arena X). length (lying A.payloads)) (sym take_shows);
        }

        pub take_apart : (c : Chain) → Not (Stands (shown ws n m) c s)
        take_apart c st = stands_used c s (stands_paid (arena_of a) c s s (Some value)
            (subst (λ A. Stands A c s) take_shows st)) (is.sorted.spare s is_free_in)

    -- give back

    module _ (s : ℕ) (used : IsInUse (arena_of a) s) (apart : (c : Chain)
        → Not (Stands (arena_of a) c s)) (value : X) where
      abbrev us : List (Node X)
      us = nodes.with_content s false value xs

      pub some_used : 0 < a.used
      some_used = let one = one_given (payloads_of xs n) s used.0 used.1 in let was = is.counted in omega (arith, one, was)

      slot_back : s < n
      slot_back = (payload_in xs n s (Some used.0) used.1).0

      back_made : AreMade us n m css
      back_made = made_payload xs n m css is.made s false value

      back_out : (g : ℕ) → g < 1 → Not (IsMemberOf s (get_or (css link.Free) g []))
      back_out g l p =
          let zero_head : g ≡ 0 = omega arith in
          none-some used.0 (sym (is.sorted.spare s (subst (λ h. IsMemberOf s (get_or (css link.Free) h [])) zero_head p))
          ∙ (payload_in xs n s (Some used.0) used.1).1)

      pub back_long : length us ≡ length xs
      back_long = length-with_content s false value xs

      pub back_next : next_of link.Free us (n + m) < length us
      back_next = subst (λ b. next_of link.Free us b < length us) at_zero
          (ring_below us n m css back_made link.Free 0 (next_of link.Free us (n + m + 0)) (omega arith)
          (next_in us n m css back_made link.Free 0 (omega arith)))

      module _ (ys : List (Node X)) (now : ys ≡ linked_in link.Free s (n + m) us) where
        abbrev more : List (List ℕ)
        more = slice_set (css link.Free) 0 (s ∷ fs)

        abbrev ds : Link → List (List ℕ)
        ds = put link.Free more css

        given : AreMade ys n m ds
        given = subst (λ l. AreMade l n m ds) (sym (now ∙ ap (λ b. linked_in link.Free s b us) (sym at_zero)))
            (made_hooked us n m css back_made link.Free s 0 slot_back (omega arith) back_out)

        none_here : payload_of ys s ≡ None
        none_here = ap (λ l. payload_of l s) now ∙ payload-linked_in link.Free s (n + m) us s
            ∙ payload-here s false value xs (in_block a is s used)

        same_elsewhere : (i : ℕ) → Not (i ≡ s) → payload_of ys i ≡ payload_of xs i
        same_elsewhere i d = ap (λ l. payload_of l i) now ∙ payload-linked_in link.Free s (n + m) us i
            ∙ payload-elsewhere s false value i xs d

        more_list : get_or (ds link.Free) 0 [] ≡ s ∷ fs
        more_list = ap (λ z. get_or z 0 []) (put_here link.Free more css link.Free refl)
            ∙ get_or-set_same (css link.Free) 0 (s ∷ fs) [] one_head

        still_used : (k : Link) (h i : ℕ) → Not (k ≡ link.Free) → h < m → IsMemberOf i (get_or (ds k) h [])
            → Not (payload_of ys i ≡ None)
        still_used k h i d l p e =
            let q : IsMemberOf i (get_or (css k) h []) = subst (λ z. IsMemberOf i (get_or z h []))
            (put_other link.Free more css k d) p in
            elim (cases_eq i s) [
              | inl f ↦ let c = chain_of k d in
                  apart c.0 (
                    h,
                    l,
                    subst (λ z. IsMemberOf s (get_or z h [])) (sym (chains_held xs n m c.0))
                        (subst (λ j. IsMemberOf s (get_or (css j) h [])) (sym c.1)
                        (subst (λ j. IsMemberOf j (get_or (css k) h [])) f q)),
                  )
              | inr f ↦ is.sorted.in_use k h i d l q (sym (same_elsewhere i f) ∙ e)
            ]

        given_sorted : AreSorted ys n m ds
        given_sorted = record {
          free = λ i l e. subst (IsMemberOf i) (sym more_list)
              (elim (cases_eq i s) [
                | inl f ↦ inl f
                | inr f ↦ inr (is.sorted.free i l (sym (same_elsewhere i f)
                    ∙ e))
              ]);
          spare = λ i p. elim (cases_eq i s) [
            | inl f ↦ ap (payload_of ys) f ∙ none_here
            | inr f ↦ let q : IsMemberOf i (s ∷ fs) = subst (IsMemberOf i) more_list p in
                same_elsewhere i f ∙ is.sorted.spare i (elim q [ inl g ↦ absurd (f g) | inr g ↦ g ])
          ];
          in_use = still_used;
        }

        pub back_shows : shown ys n m ≡ with_payload (arena_of a) s None
        back_shows = paid xs ys n m s None slot_back none_here same_elsewhere (λ k d. held_is ys n m ds given k
            ∙ put_other link.Free more css k d)

        pub back_keeps : IsArena (let b : Inside X = record a { block = ys; used = a.used - 1 } in b)
        back_keeps = record {
          made = settled ys n m ds given;
          sorted = sorted_settled ys n m ds (held ys n m) given_sorted (held_is ys n m ds given);
          small = is.small;
          counted =
              let now = ap (λ (A : Arena X). length (lying A.payloads)) back_shows in
              let one = one_given (payloads_of xs n) s used.0 used.1 in
              let was = is.counted in
              omega (arith, now, one, was);
        }
