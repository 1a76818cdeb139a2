-- How often a step asks where an access leads.
use Rattle.std.specs.Prelude.{ℕ, ◌≤◌, ◌*◌, length}
use Rattle.cloak_model.specs.declared.image.Bundle.{Bundle}
use Rattle.cloak_model.specs.Joint.{Moment}
use Rattle.cloak_model.specs.Opening.{RunEdge}
use Rattle.cloak_model.specs.Run.{first_moment, turns_from}
use Rattle.shadow_fold.specs.Events.{asked_in, counts_of}
use Rattle.shadow_fold.specs.Reads.{looks_in}

-- Each step of each machine, with the end of a domain after it, asks so at most twice.
abbrev pub StepLooksTwice : Type 0
StepLooksTwice = (m : Moment) → looks_in (asked_in m).events ≤ 2

-- So the counts of a run of n steps are at most 2 * n.
abbrev pub CountsAreFew : Type 0
CountsAreFew =
    (b : Bundle) (budget : ℕ) (o : RunEdge) →
    let most = 2 * length (turns_from budget (first_moment b o.joint)) in
    ((counts_of b budget o).accesses ≤ most) × ((counts_of b budget o).misses ≤ most)
