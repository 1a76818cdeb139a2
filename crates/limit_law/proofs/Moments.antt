-- What holds as a run begins, and is kept by each step of the joint machine, holds at every moment of the run.
use Rattle.std.proofs.Common.{◌≡◌, ℕ, zero, suc, List, take, Option, Some, None, Ok, refl}
use Rattle.cloak_base.specs.declared.causes.Stop.{Stop}
use Rattle.cloak_model.specs.declared.image.Bundle.{Bundle}
use Rattle.cloak_model.specs.Beginning.{Beginning, opening_from}
use Rattle.cloak_model.specs.Joint.{Moment, Turn, joint_step, after_turn, stop_of}
use Rattle.cloak_model.specs.Opening.{RunEdge}
use Rattle.cloak_model.specs.Parts.{Joint}
use Rattle.cloak_model.specs.Run.{Run, run_from, unless_stopped, turns_from, joint_after, first_moment, run_of}
use Rattle.kernel_isolation.specs.Isolation.{joint_until}
use Rattle.kernel_isolation.proofs.Isolated.{of_opened}

-- a step of a run under this schedule keeps the property
abbrev pub IsKept : (Joint → Type 0) → List ℕ → Type 0
IsKept P schedule = (m : Moment) → m.schedule ≡ schedule → P m.joint → P (joint_step m).joint

-- the steps that follow one
pub following : (P : Joint → Type 0) (stop : Option Stop) (later : Moment → List Turn) (m : Moment) (n : ℕ) → P m.joint →
    P (joint_after m.joint (take n (later m))) → P (joint_after m.joint (take n (unless_stopped stop later m)))
unfolding joint_after
following P None later m n here rest = rest
following P (Some cause) later m zero here rest = here
following P (Some cause) later m (suc n) here rest = here

module _ (P : Joint → Type 0) (schedule : List ℕ) (kept : IsKept P schedule) where
  after_steps : (budget n : ℕ) (m : Moment) → m.schedule ≡ schedule → P m.joint →
      P (joint_after m.joint (take n (turns_from budget m)))
  unfolding turns_from joint_after
  after_steps zero zero m same here = here
  after_steps zero (suc n) m same here = here
  after_steps (suc budget) zero m same here = here
  after_steps (suc budget) (suc n) m same here =
      let t : Turn = joint_step m in
      let next = kept m same here in
      following P (stop_of t) (turns_from budget) (after_turn m t) n next
      (after_steps budget n (after_turn m t) same next)

abbrev AtAll : (Joint → Type 0) → Run → Type 0
AtAll P r = (n : ℕ) → P (joint_until n r)

opened_run : (P : Joint → Type 0) (b : Bundle) (budget : ℕ) (o : RunEdge) → IsKept P b.kernel.schedule → P o.joint →
    AtAll P (run_of b budget o)
unfolding run_of
opened_run P b budget o kept here n = after_steps P b.kernel.schedule kept budget n (first_moment b o.joint) refl here

pub at_every_moment : (P : Joint → Type 0) (b : Bundle) (from : Beginning) (budget : ℕ) (r : Run) →
    ((o : RunEdge) → opening_from b from ≡ Ok o → P o.joint) → IsKept P b.kernel.schedule →
    run_from b from budget ≡ Ok r → (n : ℕ) → P (joint_until n r)
at_every_moment P b from budget r begins kept is =
    of_opened b budget (AtAll P) (opening_from b from) r is (λ o opens. opened_run P b budget o kept (begins o opens))
