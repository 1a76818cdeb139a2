-- A joint run with a budget of steps, as one value, and what is read off it: the exchange and its halves, the record,
-- and the one list of what is written to record and output.
use Rattle.std.specs.Prelude.{ℕ, zero, suc, nat_lt, Bool, false, ◌≡◌, ◌||◌, is_some, List, [], ◌∷◌, ◌++◌, codes, length, map, Option, Some, None, unwrap_or, Result, if◌then◌else◌}
use Rattle.std.specs.List.{list_any}
use Rattle.std.specs.Result.{result_map_both}
use Rattle.cloak_base.specs.Random.{Random}
use Rattle.cloak_base.specs.declared.causes.Stop.{Stop}
use Rattle.cloak_base.specs.declared.causes.Violation.{Violation}
use Rattle.cloak_base.specs.declared.causes.Stop.TheVariants as stop
use Rattle.cloak_model.specs.declared.image.Bundle.{Bundle}
use Rattle.cloak_model.specs.Items.{Item}
use Rattle.cloak_model.specs.Items as item
use Rattle.cloak_model.specs.World.{MidStep, settled_in}
use Rattle.cloak_model.specs.Exchange.{Piece, recorded, shown, record_magic, record_of, items_in_order, item_pieces, shown_each}
use Rattle.cloak_model.specs.Halves as half
use Rattle.cloak_model.specs.Opening.{Lack, RunEdge}
use Rattle.cloak_model.specs.Beginning.{Beginning, Fresh, opening_from}
use Rattle.cloak_model.specs.Report.{report}
use Rattle.cloak_model.specs.Parts.{Joint}
use Rattle.cloak_model.specs.Joint.{Moment, Turn, joint_step, after_turn, stop_of, cloak_outside, hart_in}

-- the most steps of a run
abbrev pub most_steps : ℕ
most_steps = 1000000000

-- A run: the machine as it was opened and what the kernel was shown then; its steps; why it stopped; the machine as it
-- was closed and what the kernel was shown then.
pub record Run : Type 0 where
  pub opened : RunEdge
  pub turns : List Turn
  pub stop : Stop
  pub closed : RunEdge

-- The steps.

-- what follows a step: nothing if it stopped the run
abbrev pub unless_stopped : Option Stop → (Moment → List Turn) → Moment → List Turn
unless_stopped (Some cause) more m = []
unless_stopped None more m = more m

-- from a moment on, one after another: at most n, and none after one that stops the run
unfoldable pub turns_from : ℕ → Moment → List Turn
turns_from zero m = []
turns_from (suc n) m = let t = joint_step m in t ∷ unless_stopped (stop_of t) (turns_from n) (after_turn m t)

-- the machine after these steps
unfoldable pub joint_after : Joint → List Turn → Joint
joint_after j [] = j
joint_after j (t ∷ turns) = joint_after t.joint turns

-- why the last of these steps stopped the run, if it did
unfoldable pub last_stop : Option Stop → List Turn → Option Stop
last_stop so_far [] = so_far
last_stop so_far (t ∷ turns) = last_stop (stop_of t) turns

-- The closing.

-- the frames below n are settled, by rising number
unfoldable pub settled_below : ℕ → MidStep → MidStep
settled_below zero c = c
settled_below (suc n) c = settled_in n (settled_below n c)

-- all frames are settled; in the regime of hart 0, since nobody asks
unfoldable pub closing : Joint → RunEdge
closing j =
    let c = settled_below (length j.memory.ram) (cloak_outside j.memory (hart_in j 0)) in
    record { joint = record j { memory = c.memory }; items = c.items }

-- Why a run stopped: a draw that is missing as it closes goes before all, and if no step stopped it, its budget is
-- used up.
abbrev pub cause_of : Joint → Option Stop → Stop
cause_of closed stopped = if closed.memory.ledger.missed then stop.NoRandom else unwrap_or stopped stop.Budget

-- The run.

-- the moment at which the run of a bundle begins
abbrev pub first_moment : Bundle → Joint → Moment
first_moment b j = record { schedule = b.kernel.schedule; steps = 0; joint = j }

-- the run that was opened so, and made these steps
abbrev pub run_of_turns : RunEdge → List Turn → Run
run_of_turns o turns =
    let c = closing (joint_after o.joint turns) in
    record { opened = o; turns = turns; stop = cause_of c.joint (last_stop None turns); closed = c }

unfoldable pub run_of : Bundle → ℕ → RunEdge → Run
run_of b budget o = run_of_turns o (turns_from budget (first_moment b o.joint))

-- The joint run of a bundle from a beginning, with at most `budget` steps.
abbrev pub run_from : Bundle → Beginning → ℕ → Result Run Lack
run_from b from budget = result_map_both (run_of b budget) (λ lack. lack) (opening_from b from)

-- under a random stream alone
abbrev pub joint_run : Bundle → Random → ℕ → Result Run Lack
joint_run b stream budget = run_from b (Fresh stream) budget

-- What is read off a run.

-- all items
abbrev pub exchange : Run → List Item
exchange r = items_in_order r.opened.items (map (λ (t : Turn). t.items) r.turns) r.closed.items

-- what the kernel could see, and what a domain could see
abbrev pub run_outward_half : Run → List Item
run_outward_half r = half.outward_half (exchange r)

abbrev pub run_inward_half : ℕ → Run → List Item
run_inward_half d r = half.inward_half d (exchange r)

-- the bytes of the record
abbrev pub record_bytes : Run → List ℕ
record_bytes r = record_of (exchange r)

-- The premise on digests of whoever reads a record again. Up to now no two different pages that were compared had one
-- digest.
abbrev pub NoClashYet : Joint → Type 0
NoClashYet j = j.memory.ledger.clashed ≡ false

-- In the whole run no two different pages that were compared had one digest. (What clashed once stays so.)
abbrev pub NoClash : Run → Type 0
NoClash r = NoClashYet r.closed.joint

-- the kernel was refused something: a domain ended, or a resuming was refused of which none was left to end
abbrev pub any_refused : List (Option Violation) → ℕ → Bool
any_refused ended refused = list_any is_some ended || nat_lt 0 refused

abbrev pub is_refused : Run → Bool
is_refused r = any_refused r.closed.joint.ended r.closed.joint.refused

-- the report
abbrev pub report_of : Run → List ℕ
report_of r = report r.stop (length r.turns) r.closed.joint

-- What is written of it, in order: the magic, the opening; of each step the marker, the items and then the console's
-- byte; the closing; an empty rest of the console's line, and the report.

abbrev pub turn_pieces : ℕ → Turn → List Piece
turn_pieces number t = item_pieces (item.Step number ∷ t.items) ++ shown_each t.console

-- steps, of which the first has this number
unfoldable pub turns_pieces : ℕ → List Turn → List Piece
turns_pieces number [] = []
turns_pieces number (t ∷ turns) = turn_pieces number t ++ turns_pieces (suc number) turns

abbrev pub closing_pieces : Run → List Piece
closing_pieces r = item_pieces (item.Close (length r.turns) ∷ (r.closed.items ++ item.End ∷ []))

unfoldable pub due : Run → List Piece
due r =
    recorded record_magic ∷ (item_pieces r.opened.items ++ (turns_pieces 1 r.turns
    ++ (closing_pieces r ++ (shown (codes "\n") ∷ shown (report_of r) ∷ []))))
