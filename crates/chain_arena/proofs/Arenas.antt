-- What each method does to an arena, over its fields.
use Rattle.std.proofs.Common.{◌≡◌, ℕ, zero, suc, ◌+◌, ◌<◌, ◌≤◌, inl, inr, cond, List, [], ◌∷◌, map, length, get_or, slice_get, slice_set, Option, Some, None, refl, sym, ap, ◌∙◌, subst, arith}
use Rattle.std.specs.List.{filter_map, range_with_len}
use Rattle.std.proofs.lemmas.Bool.{cases_eq, eq-eqb, ne_eqb}
use Rattle.std.proofs.lemmas.Option.{slice_get_within, get_or_from_slice_get, slice_get-get_or, none-some}
use Rattle.std.proofs.lemmas.List.FromFn.{length-map-range_with_len, get_or-map-range_with_len}
use Rattle.chain_arena.specs.declared.node.Node.{Node}
use Rattle.chain_arena.specs.declared.node.Link.{Link}
use Rattle.chain_arena.specs.declared.node.Link.TheVariants as link
use Rattle.chain_arena.specs.declared.chain.Chain.{Chain}
use Rattle.chain_arena.specs.declared.chain.Chain.TheVariants as chain
use Rattle.chain_arena.specs.declared.arena.ChainArena.TheInside.{Inside}
use Rattle.chain_arena.specs.Links.{link_of}
use Rattle.chain_arena.specs.Chains.{IsMemberOf, without, IsLinked}
use Rattle.chain_arena.specs.Nodes.{payload_of, next_of, previous_of, linked_in, taken_out}
use Rattle.chain_arena.specs.Arena.{Arena, arena, chains, chain_at, with_chains, IsInUse, Stands, hooked, unhooked, next_behind}
use Rattle.chain_arena.specs.Inside.{base_of, heads_of, held, payloads_of, AreMade, AreSorted, arena_of, IsArena}
use Rattle.chain_arena.proofs.AllChains.{was, had}
use Rattle.chain_arena.proofs.Nodes.{cases_link, payload-linked_in, payload-taken_out}
use Rattle.chain_arena.proofs.Made.{base_over, put, put_here, put_other, held_is, settled, sorted_settled, ring_below, next_in, after_is_in, before_is_in, made_hooked, made_unhooked}

abbrev Not : Type 0 → Type 0
Not A = A → ⊥

-- a fact on what callers see of two values is one on the values
pub carried : {A B : Type 0} (P : A → B → Type 0) {a v : A} {b w : B} → a ≡ v → b ≡ w → P v w → P a b
carried P {a} {v} {b} {w} e f p = subst (λ x. P x b) (sym e) (subst (P v) (sym f) p)

pub in_some_chain : (css : List (List ℕ)) (h s : ℕ) → IsMemberOf s (get_or css h []) → h < length css
in_some_chain [] h s p = absurd p
in_some_chain (c ∷ css) zero s p = omega arith
in_some_chain (c ∷ css) (suc h) s p = let more = in_some_chain css h s p in omega arith

pub base_is : (n m : ℕ) (c : Chain) → base_of n m (link_of c) ≡ n
base_is n m chain.Bucket = refl
base_is n m chain.Target = refl
base_is n m chain.First = refl
base_is n m chain.Second = refl

pub heads_is : (m : ℕ) (c : Chain) → heads_of m (link_of c) ≡ m
heads_is m chain.Bucket = refl
heads_is m chain.Target = refl
heads_is m chain.First = refl
heads_is m chain.Second = refl

pub not_free : (c : Chain) → Not (link_of c ≡ link.Free)
not_free chain.Bucket e = cc
not_free chain.Target e = cc
not_free chain.First e = cc
not_free chain.Second e = cc

-- readers of a chain

pub first_is : (nx pv : ℕ → ℕ) (n a : ℕ) (xs : List ℕ) (b : ℕ) → IsLinked nx pv a xs b → ((i : ℕ) → IsMemberOf i xs → i < n)
    → n ≤ b → (nx a < n → Some (nx a) ≡ slice_get xs 0) × (n ≤ nx a → None ≡ slice_get xs 0)
first_is nx pv n a [] b l below over = ((λ h. absurd (omega (arith, l.0))), (λ h. refl))
first_is nx pv n a (x ∷ xs) b l below over = (
  (λ h. ap Some l.0),
  (λ h. let q = below x (inl refl) in
      absurd (omega (arith, l.0))),
)

pub behind_is : (nx pv : ℕ → ℕ) (n a s : ℕ) (xs : List ℕ) (b : ℕ) → IsLinked nx pv a xs b
    → ((i : ℕ) → IsMemberOf i xs → i < n) → n ≤ b → IsMemberOf s xs
    → (nx s < n → Some (nx s) ≡ next_behind s xs) × (n ≤ nx s → None ≡ next_behind s xs)
behind_is nx pv n a s [] b l below over h = absurd h
behind_is nx pv n a s (x ∷ xs) b l below over h = elim (cases_eq s x) [
  | inl e ↦
      let is : next_behind s (x ∷ xs) ≡ slice_get xs 0 = ap (λ t. cond t (slice_get xs 0) (next_behind s xs)) (eq-eqb s x e) in
      let f = first_is nx pv n s xs b (subst (λ j. IsLinked nx pv j xs b) (sym e) l.2)
      (λ i p. below i (inr p)) over in
      ((λ k. f.0 k ∙ sym is), (λ k. f.1 k ∙ sym is))
  | inr d ↦
      let is : next_behind s (x ∷ xs) ≡ next_behind s xs = ap (λ t. cond t (slice_get xs 0) (next_behind s xs)) (ne_eqb s x d) in
      let rest : IsMemberOf s xs = elim h [ inl e ↦ absurd (d e) | inr p ↦ p ] in
      let f = behind_is nx pv n x s xs b l.2 (λ i p. below i (inr p)) over rest in
      ((λ k. f.0 k ∙ sym is), (λ k. f.1 k ∙ sym is))
]

pub map_same : {Y : Type 0} (f g : ℕ → Y) (xs : List ℕ) → ((i : ℕ) → f i ≡ g i) → map f xs ≡ map g xs
map_same f g [] e = refl
map_same f g (x ∷ xs) e = λ i. e x i ∷ map_same f g xs e i

module _ {X : Type 0} where
  pub payload_in : (xs : List (Node X)) (n s : ℕ) (p : Option X) → slice_get (payloads_of xs n) s ≡ Some p
      → (s < n) × (payload_of xs s ≡ p)
  payload_in xs n s p e =
      let all = payload_of xs in
      let within : s < n = subst (λ k. s < k) (length-map-range_with_len all 0 n)
      (slice_get_within (payloads_of xs n) s p e) in (
        within,
        sym (get_or-map-range_with_len all 0 n s s p within (omega arith))
            ∙ get_or_from_slice_get (payloads_of xs n) s p p e,
      )

  pub payload_is : (xs : List (Node X)) (n s : ℕ) → s < n → slice_get (payloads_of xs n) s ≡ Some (payload_of xs s)
  payload_is xs n s h =
      let all = payload_of xs in
      slice_get-get_or (payloads_of xs n) s None (subst (λ k. s < k) (sym (length-map-range_with_len all 0 n)) h)
      ∙ ap Some (get_or-map-range_with_len all 0 n s s None h (omega arith))

  -- as many slots are in use as before
  pub still_counted : (xs ys : List (Node X)) (n used : ℕ) → ((i : ℕ) → payload_of ys i ≡ payload_of xs i)
      → used ≡ length (filter_map (λ o. o) (payloads_of xs n)) → used ≡ length (filter_map (λ o. o) (payloads_of ys n))
  still_counted xs ys n used same counted =
      counted ∙ ap (λ ps. length (filter_map (λ (o : Option X). o) ps))
      (sym (map_same (payload_of ys) (payload_of xs) (range_with_len 0 n) same))

  abbrev pub shown : List (Node X) → ℕ → ℕ → Arena X
  shown xs n m = arena (payloads_of xs n) m (held xs n m link.Bucket) (held xs n m link.Target)
      (held xs n m link.First) (held xs n m link.Second)

  pub chains_held : (xs : List (Node X)) (n m : ℕ) (c : Chain) → chains (shown xs n m) c ≡ held xs n m (link_of c)
  chains_held xs n m chain.Bucket = refl
  chains_held xs n m chain.Target = refl
  chains_held xs n m chain.First = refl
  chains_held xs n m chain.Second = refl

  -- the chains of one kind are changed
  pub changed : (xs ys : List (Node X)) (n m : ℕ) (c : Chain) (css : List (List ℕ))
      → ((i : ℕ) → payload_of ys i ≡ payload_of xs i) → held ys n m (link_of c) ≡ css
      → ((k : Link) → Not (k ≡ link_of c) → held ys n m k ≡ held xs n m k)
      → shown ys n m ≡ with_chains (shown xs n m) c css
  changed xs ys n m chain.Bucket css same here others =
      let ps = map_same (payload_of ys) (payload_of xs) (range_with_len 0 n) same in
      let t = others link.Target (λ e. cc) in let f = others link.First (λ e. cc) in
      let s = others link.Second (λ e. cc) in
      λ i. arena (ps i) m (here i) (t i) (f i) (s i)
  changed xs ys n m chain.Target css same here others =
      let ps = map_same (payload_of ys) (payload_of xs) (range_with_len 0 n) same in
      let b = others link.Bucket (λ e. cc) in let f = others link.First (λ e. cc) in
      let s = others link.Second (λ e. cc) in
      λ i. arena (ps i) m (b i) (here i) (f i) (s i)
  changed xs ys n m chain.First css same here others =
      let ps = map_same (payload_of ys) (payload_of xs) (range_with_len 0 n) same in
      let b = others link.Bucket (λ e. cc) in let t = others link.Target (λ e. cc) in
      let s = others link.Second (λ e. cc) in
      λ i. arena (ps i) m (b i) (t i) (here i) (s i)
  changed xs ys n m chain.Second css same here others =
      let ps = map_same (payload_of ys) (payload_of xs) (range_with_len 0 n) same in
      let b = others link.Bucket (λ e. cc) in let t = others link.Target (λ e. cc) in
      let f = others link.First (λ e. cc) in
      λ i. arena (ps i) m (b i) (t i) (f i) (here i)

  module _ (a : Inside X) (is : IsArena a) where
    abbrev xs : List (Node X)
    xs = a.block

    abbrev n : ℕ
    n = a.nodes

    abbrev m : ℕ
    m = a.heads

    abbrev css : Link → List (List ℕ)
    css = held xs n m

    pub in_block : (s : ℕ) → IsInUse (arena_of a) s → s < length xs
    in_block s u = let p = (payload_in xs n s (Some u.0) u.1).0 in omega (arith, is.made.long)

    taken : (s : ℕ) → IsInUse (arena_of a) s → Not (payload_of xs s ≡ None)
    taken s u e = none-some u.0 (sym e ∙ (payload_in xs n s (Some u.0) u.1).1)

    pub head_in_block : (h : ℕ) → h < m → n + h < length xs
    head_in_block h l = omega (arith, is.made.long)

    module _ (c : Chain) where
      abbrev k : Link
      k = link_of c

      head_of : (h : ℕ) → h < m → h < heads_of m k
      head_of h l = subst (λ j. h < j) (sym (heads_is m c)) l

      head_in : (h : ℕ) → h < heads_of m k → h < m
      head_in h l = subst (λ j. h < j) (heads_is m c) l

      stands_in : (s h : ℕ) → IsMemberOf s (chain_at (arena_of a) c h) → IsMemberOf s (get_or (css k) h [])
      stands_in s h p = subst (λ ds. IsMemberOf s (get_or ds h [])) (chains_held xs n m c) p

      pub next_in_block : (h : ℕ) → h < m → next_of k xs (n + h) < length xs
      next_in_block h l =
          subst (λ b. next_of k xs (b + h) < length xs) (base_is n m c)
          (ring_below xs n m css is.made k h (next_of k xs (base_of n m k + h)) (head_of h l)
          (next_in xs n m css is.made k h (head_of h l)))

      pub after_in_block : (s : ℕ) → Stands (arena_of a) c s → next_of k xs s < length xs
      after_in_block s st =
          ring_below xs n m css is.made k st.0 (next_of k xs s) (head_of st.0 st.1)
          (after_is_in xs n m css is.made k st.0 s (head_of st.0 st.1) (stands_in s st.0 st.2))

      pub before_in_block : (s : ℕ) → Stands (arena_of a) c s → previous_of k xs s < length xs
      before_in_block s st =
          ring_below xs n m css is.made k st.0 (previous_of k xs s) (head_of st.0 st.1)
          (before_is_in xs n m css is.made k st.0 s (head_of st.0 st.1) (stands_in s st.0 st.2))

      linked_at : (h : ℕ) → h < m → IsLinked (next_of k xs) (previous_of k xs) (n + h) (get_or (css k) h []) (n + h)
      linked_at h l = subst (λ b. IsLinked (next_of k xs) (previous_of k xs) (b + h) (get_or (css k) h []) (b + h))
          (base_is n m c) (is.made.linked k h (subst (λ j. h < j) (sym (is.made.heads k)) (head_of h l)))

      below_at : (h i : ℕ) → h < m → IsMemberOf i (get_or (css k) h []) → i < n
      below_at h i l p = (is.made.tidy k).below h i (subst (λ j. h < j) (sym (is.made.heads k)) (head_of h l)) p

      pub first_of : (h : ℕ) → h < m → (next_of k xs (n + h) < n
          → Some (next_of k xs (n + h)) ≡ slice_get (chain_at (arena_of a) c h) 0) × (n ≤ next_of k xs (n + h)
          → None ≡ slice_get (chain_at (arena_of a) c h) 0)
      first_of h l =
          let f = first_is (next_of k xs) (previous_of k xs) n (n + h) (get_or (css k) h []) (n + h) (linked_at h l)
          (λ i p. below_at h i l p) (omega arith) in
          let same = ap (λ ds. slice_get (get_or ds h []) 0) (sym (chains_held xs n m c)) in
          ((λ q. f.0 q ∙ same), (λ q. f.1 q ∙ same))

      pub behind_of : (s h : ℕ) → h < m → IsMemberOf s (chain_at (arena_of a) c h)
          → (next_of k xs s < n → Some (next_of k xs s) ≡ next_behind s (chain_at (arena_of a) c h)) × (n ≤ next_of k xs s
          → None ≡ next_behind s (chain_at (arena_of a) c h))
      behind_of s h l p =
          let f = behind_is (next_of k xs) (previous_of k xs) n (n + h) s (get_or (css k) h []) (n + h)
          (linked_at h l) (λ i q. below_at h i l q) (omega arith) (stands_in s h p) in
          let same = ap (λ ds. next_behind s (get_or ds h [])) (sym (chains_held xs n m c)) in
          ((λ q. f.0 q ∙ same), (λ q. f.1 q ∙ same))

      -- hook

      module _ (s h : ℕ) (used : IsInUse (arena_of a) s) (head : h < m) (apart : Not (Stands (arena_of a) c s))
          (ys : List (Node X)) (now : ys ≡ linked_in k s (n + h) xs) where
        slot : s < n
        slot = (payload_in xs n s (Some used.0) used.1).0

        out : (g : ℕ) → g < heads_of m k → Not (IsMemberOf s (get_or (css k) g []))
        out g l p = apart (g, head_in g l, subst (λ ds. IsMemberOf s (get_or ds g [])) (sym (chains_held xs n m c)) p)

        abbrev ds : Link → List (List ℕ)
        ds = put k (slice_set (css k) h (s ∷ get_or (css k) h [])) css

        at : ys ≡ linked_in k s (base_of n m k + h) xs
        at = now ∙ ap (λ b. linked_in k s (b + h) xs) (sym (base_is n m c))

        made : AreMade ys n m ds
        made = subst (λ l. AreMade l n m ds) (sym at) (made_hooked xs n m css is.made k s h slot (head_of h head) out)

        payloads : (i : ℕ) → payload_of ys i ≡ payload_of xs i
        payloads i = ap (λ l. payload_of l i) now ∙ payload-linked_in k s (n + h) xs i

        free_same : ds link.Free ≡ css link.Free
        free_same = put_other k (slice_set (css k) h (s ∷ get_or (css k) h [])) css link.Free
            (λ e. not_free c (sym e))

        still_used : (j : Link) (g i : ℕ) → Not (j ≡ link.Free) → g < m → IsMemberOf i (get_or (ds j) g [])
            → Not (payload_of ys i ≡ None)
        still_used j g i d l p e = let none = sym (payloads i) ∙ e in elim (cases_link j k) [
          | inl f ↦
              let long = is.made.heads k in let g_in : g < length (css k) =
              subst (λ z. g < z) (sym long) (head_of g l) in
              let h_in : h < length (css k) = subst (λ z. h < z) (sym long) (head_of h head) in
              elim (was n (base_of n m k) (css k) (base_over n m k) (is.made.tidy k) s h slot h_in
              (λ q r. out q (subst (λ z. q < z) long r)) g i g_in
              (subst (λ z. IsMemberOf i (get_or z g [])) (put_here k
              (slice_set (css k) h (s ∷ get_or (css k) h [])) css j f) p)) [
                | inl q ↦ taken s used (ap (payload_of xs) (sym q.0) ∙ none)
                | inr q ↦ is.sorted.in_use k g i (not_free c) l q none
              ]
          | inr f ↦ is.sorted.in_use j g i d l (subst (λ z. IsMemberOf i (get_or z g []))
              (put_other k (slice_set (css k) h (s ∷ get_or (css k) h [])) css j f) p) none
        ]

        sorted : AreSorted ys n m ds
        sorted = record {
          free = λ i l e. subst (λ z. IsMemberOf i (get_or z 0 [])) (sym free_same) (is.sorted.free i l (sym (payloads i)
              ∙ e));
          spare = λ i p. payloads i ∙ is.sorted.spare i (subst (λ z. IsMemberOf i (get_or z 0 [])) free_same p);
          in_use = still_used;
        }

        pub hook_keeps : IsArena (let b : Inside X = record a { block = ys } in b)
        hook_keeps = record {
          made = settled ys n m ds made;
          sorted = sorted_settled ys n m ds (held ys n m) sorted (held_is ys n m ds made);
          small = is.small;
          counted = still_counted xs ys n a.used payloads is.counted;
        }

        pub hook_shows : shown ys n m ≡ hooked (arena_of a) c h s
        hook_shows =
            changed xs ys n m c (slice_set (css k) h (s ∷ get_or (css k) h [])) payloads
            (held_is ys n m ds made k ∙ put_here k (slice_set (css k) h (s ∷ get_or (css k) h [])) css k refl)
            (λ j d. held_is ys n m ds made j ∙ put_other k (slice_set (css k) h (s ∷ get_or (css k) h [])) css j d)
            ∙ ap (λ z. with_chains (arena_of a) c (slice_set z h (s ∷ get_or z h []))) (sym (chains_held xs n m c))

      -- unhook

      module _ (s : ℕ) (st : Stands (arena_of a) c s) (zs : List (Node X)) (now : zs ≡ taken_out k s xs) where
        abbrev es : Link → List (List ℕ)
        es = put k (map (without s) (css k)) css

        less_made : AreMade zs n m es
        less_made = subst (λ l. AreMade l n m es) (sym now)
            (made_unhooked xs n m css is.made k s st.0 (head_of st.0 st.1) (stands_in s st.0 st.2))

        same_payloads : (i : ℕ) → payload_of zs i ≡ payload_of xs i
        same_payloads i = ap (λ l. payload_of l i) now ∙ payload-taken_out k s xs i

        same_free : es link.Free ≡ css link.Free
        same_free = put_other k (map (without s) (css k)) css link.Free (λ e. not_free c (sym e))

        used_still : (j : Link) (g i : ℕ) → Not (j ≡ link.Free) → g < m → IsMemberOf i (get_or (es j) g [])
            → Not (payload_of zs i ≡ None)
        used_still j g i d l p e = let none = sym (same_payloads i) ∙ e in elim (cases_link j k) [
          | inl f ↦ is.sorted.in_use k g i (not_free c) l
              (had n (base_of n m k) (css k) (base_over n m k) (is.made.tidy k) s g i
              (subst (λ z. IsMemberOf i (get_or z g [])) (put_here k (map (without s) (css k)) css j f) p)) none
          | inr f ↦ is.sorted.in_use j g i d l (subst (λ z. IsMemberOf i (get_or z g []))
              (put_other k (map (without s) (css k)) css j f) p) none
        ]

        less_sorted : AreSorted zs n m es
        less_sorted = record {
          free = λ i l e. subst (λ z. IsMemberOf i (get_or z 0 [])) (sym same_free)
              (is.sorted.free i l (sym (same_payloads i) ∙ e));
          spare = λ i p. same_payloads i ∙ is.sorted.spare i (subst (λ z. IsMemberOf i (get_or z 0 [])) same_free p);
          in_use = used_still;
        }

        pub unhook_keeps : IsArena (let b : Inside X = record a { block = zs } in b)
        unhook_keeps = record {
          made = settled zs n m es less_made;
          sorted = sorted_settled zs n m es (held zs n m) less_sorted (held_is zs n m es less_made);
          small = is.small;
          counted = still_counted xs zs n a.used same_payloads is.counted;
        }

        pub unhook_shows : shown zs n m ≡ unhooked (arena_of a) c s
        unhook_shows =
            changed xs zs n m c (map (without s) (css k)) same_payloads
            (held_is zs n m es less_made k ∙ put_here k (map (without s) (css k)) css k refl)
            (λ j d. held_is zs n m es less_made j ∙ put_other k (map (without s) (css k)) css j d)
            ∙ ap (λ z. with_chains (arena_of a) c (map (without s) z)) (sym (chains_held xs n m c))
