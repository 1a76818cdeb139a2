-- What of a run is shown.
use Rattle.std.specs.Prelude.{ℕ, ◌==◌, nat_le, Bool, true, false, ◌&&◌, Option, Some, None}
use Rattle.run_trace.specs.declared.choice.TraceChoice.{TraceChoice}

-- steps of this hart are shown, or items of no hart
abbrev pub has_hart : Option ℕ → Option ℕ → Bool
has_hart None hart = true
has_hart (Some meant) None = false
has_hart (Some meant) (Some hart) = hart == meant

-- what stands in this step, of this hart or of none, is shown
abbrev pub has_step : TraceChoice → ℕ → Option ℕ → Bool
has_step choice step hart = nat_le choice.from step && (nat_le step choice.to && has_hart choice.hart hart)
