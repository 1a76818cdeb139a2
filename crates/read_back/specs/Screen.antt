-- What was shown on a screen.
use Rattle.std.specs.Prelude.{ℕ, ◌≡◌, Bool, true, false, List, Option}
use Rattle.io_traits.specs.declared.sink.Sink as sinks
use Rattle.io_traits.specs.Told.{Grows, GrowsByFront, Rose}
use Rattle.cloak_model.specs.Exchange.{Piece, shown_bytes}
use Rattle.read_back.specs.declared.screen.Screen.{Screen}

-- a text was shown, or a front of it, by whether the screen failed
abbrev pub ShowsText : Bool → Option (List ℕ) → Option (List ℕ) → ℕ → ℕ → List ℕ → Type 0
ShowsText false old new before now text = Grows old new text × (now ≡ before)
ShowsText true old new before now text = GrowsByFront old new text × Rose before now

-- From an earlier state of a screen to a later one these pieces were given to it: it writes to the same output, and showed
-- what is for the output.
pub record GaveScreen {O : Type 0} (sink : sinks.Ghosts O) (first now : Screen O) (pieces : List Piece) : Type 0 where
  pub output : now.out.ghost_name ≡ first.out.ghost_name
  pub text : first.failed ≡ false →
      ShowsText now.failed (sink.taken first.out.now) (sink.taken now.out.now) (sink.faults first.out.now)
      (sink.faults now.out.now) (shown_bytes pieces)
