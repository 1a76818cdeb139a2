-- What the links and payloads are after one write.
use Rattle.std.proofs.Common.{◌≡◌, ℕ, zero, suc, ◌<◌, ◌⊎◌, inl, inr, Bool, cond, List, [], ◌∷◌, length, Some, None, slice_get, slice_set, refl, sym, ap, ◌∙◌, subst, arith}
use Rattle.chain_arena.specs.declared.node.Node.{Node}
use Rattle.chain_arena.specs.declared.node.Links.{Links}
use Rattle.chain_arena.specs.declared.node.Link.{Link}
use Rattle.chain_arena.specs.declared.node.Link.TheVariants as link
use Rattle.chain_arena.specs.Links.{leads_to, with_link}
use Rattle.chain_arena.specs.Nodes.{payload_of, next_of, previous_of, with_next, with_previous, with_content, linked_in, taken_out}

abbrev Not : Type 0 → Type 0
Not A = A → ⊥

pub link_same : (k : Link) (i : ℕ) (l : Links) → leads_to k (with_link k i l) ≡ i
link_same link.Bucket i l = refl
link_same link.Target i l = refl
link_same link.First i l = refl
link_same link.Second i l = refl
link_same link.Free i l = refl

pub link_other : (j k : Link) (i : ℕ) (l : Links) → Not (j ≡ k) → leads_to j (with_link k i l) ≡ leads_to j l
link_other link.Bucket link.Bucket i l d = absurd (d refl)
link_other link.Bucket link.Target i l d = refl
link_other link.Bucket link.First i l d = refl
link_other link.Bucket link.Second i l d = refl
link_other link.Bucket link.Free i l d = refl
link_other link.Target link.Bucket i l d = refl
link_other link.Target link.Target i l d = absurd (d refl)
link_other link.Target link.First i l d = refl
link_other link.Target link.Second i l d = refl
link_other link.Target link.Free i l d = refl
link_other link.First link.Bucket i l d = refl
link_other link.First link.Target i l d = refl
link_other link.First link.First i l d = absurd (d refl)
link_other link.First link.Second i l d = refl
link_other link.First link.Free i l d = refl
link_other link.Second link.Bucket i l d = refl
link_other link.Second link.Target i l d = refl
link_other link.Second link.First i l d = refl
link_other link.Second link.Second i l d = absurd (d refl)
link_other link.Second link.Free i l d = refl
link_other link.Free link.Bucket i l d = refl
link_other link.Free link.Target i l d = refl
link_other link.Free link.First i l d = refl
link_other link.Free link.Second i l d = refl
link_other link.Free link.Free i l d = absurd (d refl)

pub cases_link : (j k : Link) → (j ≡ k) ⊎ Not (j ≡ k)
cases_link link.Bucket link.Bucket = inl refl
cases_link link.Bucket link.Target = inr (λ e. cc)
cases_link link.Bucket link.First = inr (λ e. cc)
cases_link link.Bucket link.Second = inr (λ e. cc)
cases_link link.Bucket link.Free = inr (λ e. cc)
cases_link link.Target link.Bucket = inr (λ e. cc)
cases_link link.Target link.Target = inl refl
cases_link link.Target link.First = inr (λ e. cc)
cases_link link.Target link.Second = inr (λ e. cc)
cases_link link.Target link.Free = inr (λ e. cc)
cases_link link.First link.Bucket = inr (λ e. cc)
cases_link link.First link.Target = inr (λ e. cc)
cases_link link.First link.First = inl refl
cases_link link.First link.Second = inr (λ e. cc)
cases_link link.First link.Free = inr (λ e. cc)
cases_link link.Second link.Bucket = inr (λ e. cc)
cases_link link.Second link.Target = inr (λ e. cc)
cases_link link.Second link.First = inr (λ e. cc)
cases_link link.Second link.Second = inl refl
cases_link link.Second link.Free = inr (λ e. cc)
cases_link link.Free link.Bucket = inr (λ e. cc)
cases_link link.Free link.Target = inr (λ e. cc)
cases_link link.Free link.First = inr (λ e. cc)
cases_link link.Free link.Second = inr (λ e. cc)
cases_link link.Free link.Free = inl refl

module _ {X : Type 0} where
  -- a write of one node in these words

  pub wrote_next : (k : Link) (i to : ℕ) (xs : List (Node X)) (x : Node X) → slice_get xs i ≡ Some x
      → slice_set xs i (record x { next = with_link k to x.next }) ≡ with_next k i to xs
  wrote_next k i to [] x e = refl
  wrote_next k zero to (y ∷ xs) x e = let same : y ≡ x = cc in
      ap (λ (z : Node X). (let w : Node X = record z { next = with_link k to z.next } in w ∷ xs)) (sym same)
  wrote_next k (suc i) to (y ∷ xs) x e = ap (λ l. y ∷ l) (wrote_next k i to xs x e)

  pub wrote_previous : (k : Link) (i to : ℕ) (xs : List (Node X)) (x : Node X) → slice_get xs i ≡ Some x
      → slice_set xs i (record x { previous = with_link k to x.previous }) ≡ with_previous k i to xs
  wrote_previous k i to [] x e = refl
  wrote_previous k zero to (y ∷ xs) x e = let same : y ≡ x = cc in
      ap (λ (z : Node X). (let w : Node X = record z { previous = with_link k to z.previous } in w ∷ xs)) (sym same)
  wrote_previous k (suc i) to (y ∷ xs) x e = ap (λ l. y ∷ l) (wrote_previous k i to xs x e)

  pub wrote_payload : (i : ℕ) (used : Bool) (value : X) (xs : List (Node X)) (x : Node X) → slice_get xs i ≡ Some x
      → slice_set xs i (record x { used = used; value = value }) ≡ with_content i used value xs
  wrote_payload i used value [] x e = refl
  wrote_payload zero used value (y ∷ xs) x e = let same : y ≡ x = cc in
      ap (λ (z : Node X). (let w : Node X = record z { used = used; value = value } in w ∷ xs)) (sym same)
  wrote_payload (suc i) used value (y ∷ xs) x e = ap (λ l. y ∷ l) (wrote_payload i used value xs x e)

  pub read_next : (k : Link) (i : ℕ) (xs : List (Node X)) (x : Node X) → slice_get xs i ≡ Some x
      → leads_to k x.next ≡ next_of k xs i
  read_next k i [] x e = cc
  read_next k zero (y ∷ xs) x e = let same : y ≡ x = cc in ap (λ z. leads_to k z.next) (sym same)
  read_next k (suc i) (y ∷ xs) x e = read_next k i xs x e

  pub read_previous : (k : Link) (i : ℕ) (xs : List (Node X)) (x : Node X) → slice_get xs i ≡ Some x
      → leads_to k x.previous ≡ previous_of k xs i
  read_previous k i [] x e = cc
  read_previous k zero (y ∷ xs) x e = let same : y ≡ x = cc in ap (λ z. leads_to k z.previous) (sym same)
  read_previous k (suc i) (y ∷ xs) x e = read_previous k i xs x e

  pub read_payload : (i : ℕ) (xs : List (Node X)) (x : Node X) → slice_get xs i ≡ Some x
      → payload_of xs i ≡ cond x.used (Some x.value) None
  read_payload i [] x e = cc
  read_payload zero (y ∷ xs) x e = let same : y ≡ x = cc in ap (λ z. cond z.used (Some z.value) None) same
  read_payload (suc i) (y ∷ xs) x e = read_payload i xs x e

  -- with_next

  pub length-with_next : (k : Link) (i to : ℕ) (xs : List (Node X)) → length (with_next k i to xs) ≡ length xs
  length-with_next k i to [] = refl
  length-with_next k zero to (x ∷ xs) = refl
  length-with_next k (suc i) to (x ∷ xs) = ap suc (length-with_next k i to xs)

  pub next-here : (k : Link) (i to : ℕ) (xs : List (Node X)) → i < length xs → next_of k (with_next k i to xs) i ≡ to
  next-here k i to [] h = absurd (omega arith)
  next-here k zero to (x ∷ xs) h = link_same k to x.next
  next-here k (suc i) to (x ∷ xs) h = next-here k i to xs (omega arith)

  pub next-elsewhere : (j k : Link) (i to at : ℕ) (xs : List (Node X)) → Not (at ≡ i)
      → next_of j (with_next k i to xs) at ≡ next_of j xs at
  next-elsewhere j k i to at [] d = refl
  next-elsewhere j k zero to zero (x ∷ xs) d = absurd (d refl)
  next-elsewhere j k zero to (suc at) (x ∷ xs) d = refl
  next-elsewhere j k (suc i) to zero (x ∷ xs) d = refl
  next-elsewhere j k (suc i) to (suc at) (x ∷ xs) d = next-elsewhere j k i to at xs (λ e. d (ap suc e))

  pub next-other : (j k : Link) (i to at : ℕ) (xs : List (Node X)) → Not (j ≡ k) → next_of j (with_next k i to xs) at
      ≡ next_of j xs at
  next-other j k i to at [] d = refl
  next-other j k zero to zero (x ∷ xs) d = link_other j k to x.next d
  next-other j k zero to (suc at) (x ∷ xs) d = refl
  next-other j k (suc i) to zero (x ∷ xs) d = refl
  next-other j k (suc i) to (suc at) (x ∷ xs) d = next-other j k i to at xs d

  pub previous-with_next : (j k : Link) (i to at : ℕ) (xs : List (Node X)) → previous_of j (with_next k i to xs) at
      ≡ previous_of j xs at
  previous-with_next j k i to at [] = refl
  previous-with_next j k zero to zero (x ∷ xs) = refl
  previous-with_next j k zero to (suc at) (x ∷ xs) = refl
  previous-with_next j k (suc i) to zero (x ∷ xs) = refl
  previous-with_next j k (suc i) to (suc at) (x ∷ xs) = previous-with_next j k i to at xs

  pub payload-with_next : (k : Link) (i to at : ℕ) (xs : List (Node X)) → payload_of (with_next k i to xs) at
      ≡ payload_of xs at
  payload-with_next k i to at [] = refl
  payload-with_next k zero to zero (x ∷ xs) = refl
  payload-with_next k zero to (suc at) (x ∷ xs) = refl
  payload-with_next k (suc i) to zero (x ∷ xs) = refl
  payload-with_next k (suc i) to (suc at) (x ∷ xs) = payload-with_next k i to at xs

  -- with_previous

  pub length-with_previous : (k : Link) (i to : ℕ) (xs : List (Node X)) → length (with_previous k i to xs) ≡ length xs
  length-with_previous k i to [] = refl
  length-with_previous k zero to (x ∷ xs) = refl
  length-with_previous k (suc i) to (x ∷ xs) = ap suc (length-with_previous k i to xs)

  pub previous-here : (k : Link) (i to : ℕ) (xs : List (Node X)) → i < length xs
      → previous_of k (with_previous k i to xs) i ≡ to
  previous-here k i to [] h = absurd (omega arith)
  previous-here k zero to (x ∷ xs) h = link_same k to x.previous
  previous-here k (suc i) to (x ∷ xs) h = previous-here k i to xs (omega arith)

  pub previous-elsewhere : (j k : Link) (i to at : ℕ) (xs : List (Node X)) → Not (at ≡ i)
      → previous_of j (with_previous k i to xs) at ≡ previous_of j xs at
  previous-elsewhere j k i to at [] d = refl
  previous-elsewhere j k zero to zero (x ∷ xs) d = absurd (d refl)
  previous-elsewhere j k zero to (suc at) (x ∷ xs) d = refl
  previous-elsewhere j k (suc i) to zero (x ∷ xs) d = refl
  previous-elsewhere j k (suc i) to (suc at) (x ∷ xs) d = previous-elsewhere j k i to at xs (λ e. d (ap suc e))

  pub previous-other : (j k : Link) (i to at : ℕ) (xs : List (Node X)) → Not (j ≡ k)
      → previous_of j (with_previous k i to xs) at ≡ previous_of j xs at
  previous-other j k i to at [] d = refl
  previous-other j k zero to zero (x ∷ xs) d = link_other j k to x.previous d
  previous-other j k zero to (suc at) (x ∷ xs) d = refl
  previous-other j k (suc i) to zero (x ∷ xs) d = refl
  previous-other j k (suc i) to (suc at) (x ∷ xs) d = previous-other j k i to at xs d

  pub next-with_previous : (j k : Link) (i to at : ℕ) (xs : List (Node X)) → next_of j (with_previous k i to xs) at
      ≡ next_of j xs at
  next-with_previous j k i to at [] = refl
  next-with_previous j k zero to zero (x ∷ xs) = refl
  next-with_previous j k zero to (suc at) (x ∷ xs) = refl
  next-with_previous j k (suc i) to zero (x ∷ xs) = refl
  next-with_previous j k (suc i) to (suc at) (x ∷ xs) = next-with_previous j k i to at xs

  pub payload-with_previous : (k : Link) (i to at : ℕ) (xs : List (Node X)) → payload_of (with_previous k i to xs) at
      ≡ payload_of xs at
  payload-with_previous k i to at [] = refl
  payload-with_previous k zero to zero (x ∷ xs) = refl
  payload-with_previous k zero to (suc at) (x ∷ xs) = refl
  payload-with_previous k (suc i) to zero (x ∷ xs) = refl
  payload-with_previous k (suc i) to (suc at) (x ∷ xs) = payload-with_previous k i to at xs

  -- with_content

  pub length-with_content : (i : ℕ) (used : Bool) (value : X) (xs : List (Node X))
      → length (with_content i used value xs) ≡ length xs
  length-with_content i used value [] = refl
  length-with_content zero used value (x ∷ xs) = refl
  length-with_content (suc i) used value (x ∷ xs) = ap suc (length-with_content i used value xs)

  pub next-with_content : (j : Link) (i : ℕ) (used : Bool) (value : X) (at : ℕ) (xs : List (Node X))
      → next_of j (with_content i used value xs) at ≡ next_of j xs at
  next-with_content j i used value at [] = refl
  next-with_content j zero used value zero (x ∷ xs) = refl
  next-with_content j zero used value (suc at) (x ∷ xs) = refl
  next-with_content j (suc i) used value zero (x ∷ xs) = refl
  next-with_content j (suc i) used value (suc at) (x ∷ xs) = next-with_content j i used value at xs

  pub previous-with_content : (j : Link) (i : ℕ) (used : Bool) (value : X) (at : ℕ) (xs : List (Node X))
      → previous_of j (with_content i used value xs) at ≡ previous_of j xs at
  previous-with_content j i used value at [] = refl
  previous-with_content j zero used value zero (x ∷ xs) = refl
  previous-with_content j zero used value (suc at) (x ∷ xs) = refl
  previous-with_content j (suc i) used value zero (x ∷ xs) = refl
  previous-with_content j (suc i) used value (suc at) (x ∷ xs) = previous-with_content j i used value at xs

  pub payload-here : (i : ℕ) (used : Bool) (value : X) (xs : List (Node X)) → i < length xs
      → payload_of (with_content i used value xs) i ≡ cond used (Some value) None
  payload-here i used value [] h = absurd (omega arith)
  payload-here zero used value (x ∷ xs) h = refl
  payload-here (suc i) used value (x ∷ xs) h = payload-here i used value xs (omega arith)

  pub payload-elsewhere : (i : ℕ) (used : Bool) (value : X) (at : ℕ) (xs : List (Node X)) → Not (at ≡ i)
      → payload_of (with_content i used value xs) at ≡ payload_of xs at
  payload-elsewhere i used value at [] d = refl
  payload-elsewhere zero used value zero (x ∷ xs) d = absurd (d refl)
  payload-elsewhere zero used value (suc at) (x ∷ xs) d = refl
  payload-elsewhere (suc i) used value zero (x ∷ xs) d = refl
  payload-elsewhere (suc i) used value (suc at) (x ∷ xs) d = payload-elsewhere i used value at xs (λ e. d (ap suc e))

  -- a node is put after another

  module _ (k : Link) (s a : ℕ) (xs : List (Node X)) where
    abbrev f : ℕ
    f = next_of k xs a

    abbrev ys : List (Node X)
    ys = linked_in k s a xs

    pub length-linked_in : length ys ≡ length xs
    length-linked_in = length-with_next k a s _ ∙ length-with_previous k f s _ ∙ length-with_previous k s a
        _ ∙ length-with_next k s f xs

    pub payload-linked_in : (i : ℕ) → payload_of ys i ≡ payload_of xs i
    payload-linked_in i = payload-with_next k a s i _ ∙ payload-with_previous k f s i _ ∙ payload-with_previous k s a
        i _ ∙ payload-with_next k s f i xs

    pub in-next-other : (j : Link) (i : ℕ) → Not (j ≡ k) → next_of j ys i ≡ next_of j xs i
    in-next-other j i d = next-other j k a s i _ d
        ∙ next-with_previous j k f s i _ ∙ next-with_previous j k s a i _ ∙ next-other j k s f i xs d

    pub in-previous-other : (j : Link) (i : ℕ) → Not (j ≡ k) → previous_of j ys i ≡ previous_of j xs i
    in-previous-other j i d = previous-with_next j k a s i _ ∙ previous-other j k f s i _ d
        ∙ previous-other j k s a i _ d ∙ previous-with_next j k s f i xs

    pub in-next-a : a < length xs → next_of k ys a ≡ s
    in-next-a h = next-here k a s _ (subst (λ n. a < n)
        (sym (length-with_previous k f s _ ∙ length-with_previous k s a _ ∙ length-with_next k s f xs)) h)

    pub in-next-s : s < length xs → Not (s ≡ a) → next_of k ys s ≡ f
    in-next-s h d = next-elsewhere k k a s s _ d
        ∙ next-with_previous k k f s s _ ∙ next-with_previous k k s a s _ ∙ next-here k s f xs h

    pub in-next : (i : ℕ) → Not (i ≡ s) → Not (i ≡ a) → next_of k ys i ≡ next_of k xs i
    in-next i d e = next-elsewhere k k a s i _ e
        ∙ next-with_previous k k f s i _ ∙ next-with_previous k k s a i _ ∙ next-elsewhere k k s f i xs d

    pub in-previous-f : f < length xs → previous_of k ys f ≡ s
    in-previous-f h = previous-with_next k k a s f _ ∙ previous-here k f s _ (subst (λ n. f < n)
        (sym (length-with_previous k s a _ ∙ length-with_next k s f xs)) h)

    pub in-previous-s : s < length xs → Not (s ≡ f) → previous_of k ys s ≡ a
    in-previous-s h d = previous-with_next k k a s s _ ∙ previous-elsewhere k k f s s _ d
        ∙ previous-here k s a _ (subst (λ n. s < n) (sym (length-with_next k s f xs)) h)

    pub in-previous : (i : ℕ) → Not (i ≡ s) → Not (i ≡ f) → previous_of k ys i ≡ previous_of k xs i
    in-previous i d e = previous-with_next k k a s i _ ∙ previous-elsewhere k k f s i _ e
        ∙ previous-elsewhere k k s a i _ d ∙ previous-with_next k k s f i xs

  -- a node is taken out

  module _ (k : Link) (s : ℕ) (xs : List (Node X)) where
    abbrev p : ℕ
    p = previous_of k xs s

    abbrev n : ℕ
    n = next_of k xs s

    abbrev zs : List (Node X)
    zs = taken_out k s xs

    pub length-taken_out : length zs ≡ length xs
    length-taken_out = length-with_previous k n p _ ∙ length-with_next k p n xs

    pub payload-taken_out : (i : ℕ) → payload_of zs i ≡ payload_of xs i
    payload-taken_out i = payload-with_previous k n p i _ ∙ payload-with_next k p n i xs

    pub out-next-other : (j : Link) (i : ℕ) → Not (j ≡ k) → next_of j zs i ≡ next_of j xs i
    out-next-other j i d = next-with_previous j k n p i _ ∙ next-other j k p n i xs d

    pub out-previous-other : (j : Link) (i : ℕ) → Not (j ≡ k) → previous_of j zs i ≡ previous_of j xs i
    out-previous-other j i d = previous-other j k n p i _ d ∙ previous-with_next j k p n i xs

    pub out-next-p : p < length xs → next_of k zs p ≡ n
    out-next-p h = next-with_previous k k n p p _ ∙ next-here k p n xs h

    pub out-next : (i : ℕ) → Not (i ≡ p) → next_of k zs i ≡ next_of k xs i
    out-next i d = next-with_previous k k n p i _ ∙ next-elsewhere k k p n i xs d

    pub out-previous-n : n < length xs → previous_of k zs n ≡ p
    out-previous-n h = previous-here k n p _ (subst (λ m. n < m) (sym (length-with_next k p n xs)) h)

    pub out-previous : (i : ℕ) → Not (i ≡ n) → previous_of k zs i ≡ previous_of k xs i
    out-previous i d = previous-elsewhere k k n p i _ d ∙ previous-with_next k k p n i xs
