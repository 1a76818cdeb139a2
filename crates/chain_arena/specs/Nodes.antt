-- A list of nodes: what they hold, where their links lead, and what a write changes.
use Rattle.std.specs.Prelude.{◌≡◌, ◌<◌, length, ℕ, zero, suc, Bool, cond, List, [], ◌∷◌, Option, Some, None}
use Rattle.chain_arena.specs.Links.{leads_to, with_link}
use Rattle.chain_arena.specs.declared.node.Node.{Node}
use Rattle.chain_arena.specs.declared.node.Link.{Link}

module _ {X : Type 0} where
  -- the payload of the node i, if it is in use
  abbrev pub payload_of : List (Node X) → ℕ → Option X
  payload_of [] i = None
  payload_of (x ∷ xs) zero = cond x.used (Some x.value) None
  payload_of (x ∷ xs) (suc i) = payload_of xs i

  -- the node that this kind's link of the node i leads to
  abbrev pub next_of : Link → List (Node X) → ℕ → ℕ
  next_of k [] i = 0
  next_of k (x ∷ xs) zero = leads_to k x.next
  next_of k (x ∷ xs) (suc i) = next_of k xs i

  -- likewise, back
  abbrev pub previous_of : Link → List (Node X) → ℕ → ℕ
  previous_of k [] i = 0
  previous_of k (x ∷ xs) zero = leads_to k x.previous
  previous_of k (x ∷ xs) (suc i) = previous_of k xs i

  abbrev pub with_next : Link → ℕ → ℕ → List (Node X) → List (Node X)
  with_next k i to [] = []
  with_next k zero to (x ∷ xs) = record x { next = with_link k to x.next } ∷ xs
  with_next k (suc i) to (x ∷ xs) = x ∷ with_next k i to xs

  abbrev pub with_previous : Link → ℕ → ℕ → List (Node X) → List (Node X)
  with_previous k i to [] = []
  with_previous k zero to (x ∷ xs) = record x { previous = with_link k to x.previous } ∷ xs
  with_previous k (suc i) to (x ∷ xs) = x ∷ with_previous k i to xs

  abbrev pub with_content : ℕ → Bool → X → List (Node X) → List (Node X)
  with_content i used value [] = []
  with_content zero used value (x ∷ xs) = record x { used = used; value = value } ∷ xs
  with_content (suc i) used value (x ∷ xs) = x ∷ with_content i used value xs

  -- the node s is put after the node a
  abbrev pub linked_in : Link → ℕ → ℕ → List (Node X) → List (Node X)
  linked_in k s a xs = with_next k a s (with_previous k (next_of k xs a) s
      (with_previous k s a (with_next k s (next_of k xs a) xs)))

  -- the node s is taken out from between its neighbours
  abbrev pub taken_out : Link → ℕ → List (Node X) → List (Node X)
  taken_out k s xs = with_previous k (next_of k xs s) (previous_of k xs s)
      (with_next k (previous_of k xs s) (next_of k xs s) xs)

  -- n nodes that hold nothing and are their own neighbours
  pub record AreAlone (xs : List (Node X)) (n : ℕ) : Type 0 where
    pub long : length xs ≡ n
    pub next : (k : Link) (i : ℕ) → i < n → next_of k xs i ≡ i
    pub previous : (k : Link) (i : ℕ) → i < n → previous_of k xs i ≡ i
    pub empty : (i : ℕ) → payload_of xs i ≡ None
