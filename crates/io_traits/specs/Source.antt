-- What the private parts of a random stream stand for.
use Rattle.std.specs.Prelude.{◌≤◌, ℕ, drop, length, Option, Some, None}
use Rattle.io_traits.specs.declared.stream.Source.{Source}
use Rattle.io_traits.specs.declared.stream.Source.TheVariants.{Handed, Numbered}
use Rattle.cloak_base.specs.Random.{Random, handed, keyed}

abbrev pub random_of : Source → Random
random_of (Handed bytes at) = handed (drop at bytes.items)
random_of (Numbered g) = keyed g

abbrev pub IsInside : Source → Type 0
IsInside (Handed bytes at) = at ≤ length bytes.items
IsInside (Numbered g) = Unit {0}

-- how many bytes are left of a stream of bytes; the stream of a number has no end
abbrev pub left_of : Random → Option ℕ
left_of (handed bytes) = Some (length bytes)
left_of (keyed g) = None
