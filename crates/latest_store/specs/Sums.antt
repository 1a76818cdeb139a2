-- Additions to a word, by whatever contexts and in whatever order: none of them is lost.
use Rattle.std.specs.Prelude.{ℕ, ◌≡◌, ◌≤◌, ◌+◌, ◌%◌, ◌^◌, ◌==◌, nat_lt, Bool, false, ◌&&◌, List, ◌++◌, length, All, sum_by, Option, Some, None, is_some, unwrap_or, Ok, if◌then◌else◌}
use Rattle.cloak_base.specs.Pages.{same_page, is_of}
use Rattle.cloak_base.specs.declared.names.PageId.{PageId}
use Rattle.rv_atomic.specs.declared.atomic.AtomicOp.TheVariants.{Add}
use Rattle.cloak_model.specs.declared.image.Bundle.{Bundle}
use Rattle.cloak_model.specs.Beginning.{Beginning}
use Rattle.cloak_model.specs.Bundle.{IsInGrammar}
use Rattle.cloak_model.specs.Run.{Run, run_from}
use Rattle.latest_store.specs.Moves.{Move, Makes, Stores, Combines, Copies, Zeros, Drops, Loads, latest_value}
use Rattle.latest_store.specs.LatestStore.{history_until}

-- a store of this width from a place on reaches the word at another one
abbrev pub reaches : ℕ → ℕ → ℕ → Bool
reaches from width at = nat_lt from (at + 4) && nat_lt at (from + width)

-- A move writes in the word at a place of a page: its page is made, copied over or dropped, or a store reaches it.
abbrev pub writes_in : PageId → ℕ → Move → Bool
writes_in q at (Makes p bytes) = same_page q p
writes_in q at (Stores p from width value) = same_page q p && reaches from width at
writes_in q at (Combines p from op operand) = same_page q p && reaches from 4 at
writes_in q at (Copies domain from to) = is_of domain to q
writes_in q at (Zeros domain resource) = is_of domain resource q
writes_in q at (Drops domain resource) = is_of domain resource q
writes_in q at (Loads p address width) = false

-- the operand of an addition to this word, if the move is one
abbrev pub addend : PageId → ℕ → Move → Option ℕ
addend q at (Combines p from Add operand) = if same_page q p && (from == at) then Some operand else None
addend q at _ = None

-- each of these moves that writes in the word is an addition to it
abbrev pub OnlyAdd : PageId → ℕ → List Move → Type 0
OnlyAdd q at moves = All (λ m. writes_in q at m ≡ is_some (addend q at m)) moves

-- the sum of what they add
abbrev pub added : PageId → ℕ → List Move → ℕ
added q at moves = sum_by (λ m. unwrap_or (addend q at m) 0) moves

-- At each moment of a run: if, since some place of its history, only additions to a word wrote in it, the latest value
-- of the word is the value there plus the sum of their operands, modulo 2 ^ 32.
abbrev pub AddsUp : Bundle → Beginning → Run → Type 0
AddsUp b from r =
    (n : ℕ) → n ≤ length r.turns → (since before : List Move) → history_until b from n r ≡ since ++ before →
    (q : PageId) (at : ℕ) → OnlyAdd q at since →
    latest_value (history_until b from n r) q at 4 % 2 ^ 32 ≡ (latest_value before q at 4 + added q at since) % 2 ^ 32

-- Every run of an image does, from whatever beginning and under every schedule.
abbrev pub RunsAddUp : Type 0
RunsAddUp =
    (b : Bundle) (from : Beginning) (budget : ℕ) (r : Run) → IsInGrammar b → run_from b from budget ≡ Ok r →
    AddsUp b from r
