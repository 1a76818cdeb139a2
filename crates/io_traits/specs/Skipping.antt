-- A random stream after draws that are left out.
use Rattle.std.specs.Prelude.{ℕ, zero, suc, List, Option, Some, option_and_then}
use Rattle.cloak_base.specs.Random.{Random, next_draw}

-- the stream after n draws: none if it has fewer
unfoldable pub skipped : ℕ → Random → Option Random
skipped zero stream = Some stream
skipped (suc n) stream = option_and_then (λ (draw : List ℕ × Random). skipped n draw.1) (next_draw stream)
