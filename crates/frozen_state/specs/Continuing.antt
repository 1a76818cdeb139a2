-- How a run that was stopped goes on, and what the two parts of it write (this project's rules).
use Rattle.std.specs.Prelude.{ℕ, ◌≡◌, ◌+◌, List, [], ◌∷◌, ◌++◌, codes, length, map, None}
use Rattle.cloak_model.specs.declared.image.Bundle.{Bundle}
use Rattle.cloak_model.specs.Items as item
use Rattle.cloak_model.specs.DomainState.{Domain}
use Rattle.cloak_model.specs.Exchange.{Piece, recorded, shown, record_magic, item_pieces}
use Rattle.cloak_model.specs.Joint.{Moment, Turn}
use Rattle.cloak_model.specs.Opening.{RunEdge}
use Rattle.cloak_model.specs.Parts.{Joint}
use Rattle.cloak_model.specs.Report.{report}
use Rattle.cloak_model.specs.Run.{Run, first_moment, last_stop, run_of_turns, turns_from, turns_pieces}

-- The first part.

-- its steps
abbrev pub first_turns : Bundle → RunEdge → ℕ → List Turn
first_turns b o steps = turns_from steps (first_moment b o.joint)

-- it made all its steps, and none of them stopped it
abbrev pub IsFrozenAfter : Bundle → RunEdge → ℕ → Type 0
IsFrozenAfter b o steps = last_stop None (first_turns b o steps) ≡ None

-- what it writes: magic, opening, and steps
unfoldable pub first_pieces : RunEdge → List Turn → List Piece
first_pieces o turns = recorded record_magic ∷ (item_pieces o.items ++ turns_pieces 1 turns)

-- The second part.

-- a machine without what it showed on its console and without the loads of its programs, which no step reads
abbrev pub without_loads : Domain → Domain
without_loads d = record d { loads = [] }

abbrev pub without_past : Joint → Joint
without_past j = record j { console = []; domains = map without_loads j.domains }

-- the moment at which it goes on, after this many steps
unfoldable pub next_moment : Bundle → ℕ → Joint → Moment
next_moment b steps j = record { schedule = b.kernel.schedule; steps = steps; joint = without_past j }

-- its steps, at most this many, and its end, as one value; nothing is shown as it begins
unfoldable pub run_on : Bundle → ℕ → Joint → ℕ → Run
run_on b steps j budget =
    run_of_turns (record { joint = without_past j; items = [] }) (turns_from budget (next_moment b steps j))

-- What a run writes from a step on, before which there were this many: its steps, the closing with the number of all
-- steps, and an empty rest of the console's line. With none before, it is all that a run writes after its opening.
unfoldable pub pieces_after : ℕ → Run → List Piece
pieces_after steps r =
    turns_pieces (steps + 1) r.turns
    ++ (item_pieces (item.Close (steps + length r.turns) ∷ (r.closed.items ++ item.End ∷ [])) ++ shown (codes "\n") ∷ [])

-- and then the report, which tells the steps and the draws of all, and console and loads since it went on
abbrev pub report_after : ℕ → Run → List ℕ
report_after steps r = report r.stop (steps + length r.turns) r.closed.joint

unfoldable pub due_after : ℕ → Run → List Piece
due_after steps r = pieces_after steps r ++ shown (report_after steps r) ∷ []
