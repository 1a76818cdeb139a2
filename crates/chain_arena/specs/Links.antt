-- The links of a node, each by its number.
use Rattle.std.specs.Prelude.{ℕ}
use Rattle.chain_arena.specs.declared.chain.Chain.{Chain}
use Rattle.chain_arena.specs.declared.chain.Chain.TheVariants as chain
use Rattle.chain_arena.specs.declared.node.Links.{Links}
use Rattle.chain_arena.specs.declared.node.Link.{Link}
use Rattle.chain_arena.specs.declared.node.Link.TheVariants as link

-- the node that a link leads to
abbrev pub leads_to : Link → Links → ℕ
leads_to link.Bucket l = l.bucket
leads_to link.Target l = l.target
leads_to link.First l = l.first
leads_to link.Second l = l.second
leads_to link.Free l = l.free

-- the links, with one that leads to the node i
abbrev pub with_link : Link → ℕ → Links → Links
with_link link.Bucket i l = record l { bucket = i }
with_link link.Target i l = record l { target = i }
with_link link.First i l = record l { first = i }
with_link link.Second i l = record l { second = i }
with_link link.Free i l = record l { free = i }

-- the link that makes the chains of a kind
abbrev pub link_of : Chain → Link
link_of chain.Bucket = link.Bucket
link_of chain.Target = link.Target
link_of chain.First = link.First
link_of chain.Second = link.Second
