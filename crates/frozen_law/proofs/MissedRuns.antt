-- While a run goes on, no draw was missing.
use Rattle.std.proofs.Common.{◌≡◌, ℕ, zero, suc, ◌<◌, false, List, [], ◌∷◌, length, take, Option, Some, None, refl, arith}
use Rattle.cloak_base.specs.declared.causes.Stop.{Stop}
use Rattle.cloak_model.specs.declared.image.Bundle.{Bundle}
use Rattle.cloak_model.specs.Beginning.{opening_from}
use Rattle.cloak_model.specs.Joint.{Moment, Turn, joint_step, after_turn, stop_of}
use Rattle.cloak_model.specs.Opening.{RunEdge}
use Rattle.cloak_model.specs.Parts.{Joint}
use Rattle.cloak_model.specs.Run.{Run, run_of, unless_stopped, turns_from, first_moment, joint_after, last_stop}
use Rattle.kernel_isolation.proofs.Isolated.{of_opened}
use Rattle.limit_law.proofs.Drawn.{stop_tells, JointDrawn, opened_drawn}
use Rattle.frozen_law.specs.Missed.{NoneStopped, OnlyLastStops, NothingIsMissed}

-- Steps but the last stop nothing.

-- what follows a step goes on, if there is more of it
goes_after : (s : Option Stop) (later : Moment → List Turn) (m : Moment) (n : ℕ) →
    n < length (unless_stopped s later m) →
    (n < length (later m) → s ≡ None → last_stop s (take n (later m)) ≡ None) →
    last_stop s (take n (unless_stopped s later m)) ≡ None
goes_after None later m n less more = more less refl
goes_after (Some cause) later m n less more = absurd (omega (arith, less))

goes : (budget n : ℕ) (s : Option Stop) (m : Moment) → s ≡ None → n < length (turns_from budget m) →
    last_stop s (take n (turns_from budget m)) ≡ None
unfolding turns_from last_stop
goes zero n s m none less = absurd (omega (arith, less))
goes (suc budget) zero s m none less = none
goes (suc budget) (suc n) s m none less =
    let t : Turn = joint_step m in
    goes_after (stop_of t) (turns_from budget) (after_turn m t) n (omega (arith, less))
    (λ low is. goes budget n (stop_of t) (after_turn m t) is low)

abbrev GoesAll : Run → Type 0
GoesAll r = (n : ℕ) → n < length r.turns → NoneStopped n r

run_goes : (b : Bundle) (budget : ℕ) (o : RunEdge) → GoesAll (run_of b budget o)
unfolding run_of
run_goes b budget o n less = goes budget n None (first_moment b o.joint) refl less

pub only_last_stops : OnlyLastStops
only_last_stops b from budget r is =
    of_opened b budget GoesAll (opening_from b from) r is (λ o opens. run_goes b budget o)

-- A step that misses a draw stops the run.

none_missed : (s : Option Stop) (j : Joint) (turns : List Turn) → (s ≡ None → j.memory.ledger.missed ≡ false) →
    last_stop s turns ≡ None → (joint_after j turns).memory.ledger.missed ≡ false
unfolding last_stop joint_after
none_missed s j [] tells is = tells is
none_missed s j (t ∷ turns) tells is =
    none_missed (stop_of t) t.joint turns (stop_tells t.joint.memory.ledger.missed t.halt) is

abbrev DrawnAll : Run → Type 0
DrawnAll r = (n : ℕ) → NoneStopped n r → (joint_after r.opened.joint (take n r.turns)).memory.ledger.missed ≡ false

run_drawn : (b : Bundle) (budget : ℕ) (o : RunEdge) → JointDrawn o.joint → DrawnAll (run_of b budget o)
unfolding run_of
run_drawn b budget o drawn n is = none_missed None o.joint _ (λ none. drawn) is

pub nothing_is_missed : NothingIsMissed
nothing_is_missed b from budget r is =
    of_opened b budget DrawnAll (opening_from b from) r is
    (λ o opens. run_drawn b budget o (opened_drawn b from o opens))
