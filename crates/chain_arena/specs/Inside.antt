-- How an arena lies in its block: the slots are the first nodes; after them come the heads, each a node for all four
-- kinds; the last node is the head of the chain of the free slots.
use Rattle.std.specs.Prelude.{◌≡◌, ℕ, ◌+◌, ◌^◌, ◌<◌, List, [], map, length, get_or, Option, None}
use Rattle.std.specs.List.{filter_map, range_with_len}
use Rattle.chain_arena.specs.declared.node.Node.{Node}
use Rattle.chain_arena.specs.declared.node.Link.{Link}
use Rattle.chain_arena.specs.declared.node.Link.TheVariants as link
use Rattle.chain_arena.specs.Arena.{Arena, arena}
use Rattle.chain_arena.specs.Chains.{IsMemberOf, IsTidy, AreLinked, chains_from}
use Rattle.chain_arena.specs.Nodes.{payload_of, next_of, previous_of}
use Rattle.chain_arena.specs.declared.arena.ChainArena.TheInside.{Inside}

-- the node of a kind's first head, and how many heads it has
abbrev pub base_of : ℕ → ℕ → Link → ℕ
base_of n m link.Bucket = n
base_of n m link.Target = n
base_of n m link.First = n
base_of n m link.Second = n
base_of n m link.Free = n + m

abbrev pub heads_of : ℕ → Link → ℕ
heads_of m link.Bucket = m
heads_of m link.Target = m
heads_of m link.First = m
heads_of m link.Second = m
heads_of m link.Free = 1

module _ {X : Type 0} where
  -- the chains that the links make
  abbrev pub held : List (Node X) → ℕ → ℕ → Link → List (List ℕ)
  held xs n m k = chains_from (next_of k xs) n (base_of n m k) (heads_of m k)

  abbrev pub payloads_of : List (Node X) → ℕ → List (Option X)
  payloads_of xs n = map (payload_of xs) (range_with_len 0 n)

  -- these chains are made by links
  pub record AreMade (xs : List (Node X)) (n m : ℕ) (css : Link → List (List ℕ)) : Type 0 where
    pub long : length xs ≡ n + m + 1
    pub heads : (k : Link) → length (css k) ≡ heads_of m k
    pub linked : (k : Link) → AreLinked (next_of k xs) (previous_of k xs) (base_of n m k) (css k)
    pub tidy : (k : Link) → IsTidy n (css k)

  -- a slot is free, or in use
  pub record AreSorted (xs : List (Node X)) (n m : ℕ) (css : Link → List (List ℕ)) : Type 0 where
    pub free : (i : ℕ) → i < n → payload_of xs i ≡ None → IsMemberOf i (get_or (css link.Free) 0 [])
    pub spare : (i : ℕ) → IsMemberOf i (get_or (css link.Free) 0 []) → payload_of xs i ≡ None
    pub in_use : (k : Link) (h i : ℕ) → (k ≡ link.Free → ⊥) → h < m → IsMemberOf i (get_or (css k) h [])
        → payload_of xs i ≡ None → ⊥

  abbrev pub arena_of : Inside X → Arena X
  arena_of a = arena (payloads_of a.block a.nodes) a.heads (held a.block a.nodes a.heads link.Bucket)
      (held a.block a.nodes a.heads link.Target) (held a.block a.nodes a.heads link.First)
      (held a.block a.nodes a.heads link.Second)

  pub record IsArena (a : Inside X) : Type 0 where
    pub made : AreMade a.block a.nodes a.heads (held a.block a.nodes a.heads)
    pub sorted : AreSorted a.block a.nodes a.heads (held a.block a.nodes a.heads)
    pub small : a.nodes + a.heads + 1 < 2 ^ 64
    -- this many slots are in use
    pub counted : a.used ≡ length (filter_map (λ o. o) (payloads_of a.block a.nodes))
