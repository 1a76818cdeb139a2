-- What a machine stands for: moments of the joint run.
use Rattle.std.specs.Prelude.{ℕ, ◌≡◌, ◌≤◌, ◌+◌, List, [], ◌∷◌, ◌++◌, length, All, Option, Some, Result, Ok, Err, slice_get}
use Rattle.cloak_base.specs.Random.{Random}
use Rattle.cloak_base.specs.declared.causes.Stop.{Stop}
use Rattle.cloak_model.specs.declared.image.Bundle.{Bundle}
use Rattle.cloak_model.specs.Items as item
use Rattle.cloak_model.specs.DomainState.{Domain, domain_line}
use Rattle.cloak_model.specs.Exchange.{Piece, Emits, item_pieces}
use Rattle.cloak_model.specs.Opening.{RunEdge, NoKey, NoPageDraw, NoRoom, opening}
use Rattle.cloak_model.specs.Beginning.{opening_stored, stored_keys}
use Rattle.cloak_model.specs.Parts as model
use Rattle.cloak_model.specs.StoredFiles.{StoredFile, FileContents, StandsForFiles}
use Rattle.cloak_model.specs.Report.{report}
use Rattle.cloak_model.specs.Joint.{Moment, Turn, after_turn, stop_of}
use Rattle.cloak_model.specs.Run.{first_moment, turn_pieces, cause_of}
use Rattle.cloaked_side.specs.Tracking.{AreMapped}
use Rattle.cloaked_side.specs.Holding.{Holds}
use Rattle.joint_machine.specs.Standing.{AreDomains, StandsForJoint}
use Rattle.space_law.specs.Mapping.{mapped_in}
use Rattle.joint_machine.specs.declared.opened.OpenFault.{OpenFault}
use Rattle.joint_machine.specs.declared.opened.OpenFault.TheVariants as fault
use Rattle.joint_machine.specs.declared.opened.StoredFault.{StoredFault}
use Rattle.joint_machine.specs.declared.opened.StoredFault.TheVariants as stored
use Rattle.joint_machine.specs.declared.reading.JointParts.{JointParts}
use Rattle.joint_machine.specs.declared.placings.Placing.{Placing}
use Rattle.kernel_report.specs.Console.{ConsoleShows}
use Rattle.cloak_machine.specs.Ending.{end_report, end_short_report, line_in, short_report}
use Rattle.cloak_machine.specs.Turns.{IsAt}
use Rattle.cloak_machine.specs.declared.end.RunEnd.{RunEnd}
use Rattle.cloak_machine.specs.declared.machine.Machine.{Machine}

-- the steps that a machine made
abbrev pub steps_made : Machine → ℕ
steps_made machine = machine.steps

-- where the programs are placed whose pages it shows as its run begins
abbrev pub placings_of : Machine → List Placing
placings_of machine = machine.placings.items

-- each program completed at most this many loads
abbrev pub HaveFewLoads : ℕ → List Domain → Type 0
HaveFewLoads most domains = All (λ d. length d.loads ≤ most) domains

-- The machine is that of this moment. Of what its console was shown it knows the digest and the length. A program made
-- at most one load a step. The page of each translation that is known lies where its space has it.
pub record StandsForMoment (machine : Machine) (m : Moment) : Type 0 where
  pub schedule : m.schedule ≡ machine.schedule.turns.items
  pub place : IsAt machine.schedule m.steps
  pub steps : m.steps ≡ machine.steps
  pub joint : StandsForJoint machine.joint m.joint
  pub console : ConsoleShows machine.console m.joint.console
  pub loads : HaveFewLoads m.steps m.joint.domains
  pub mapped : AreMapped (mapped_in m.joint) machine.joint.memory

-- a run opens so, and the machine is that of its first moment
pub record OpensMachine (b : Bundle) (stream : Random) (machine : Machine) : Type 0 where
  pub opened : RunEdge
  pub opens : opening b stream ≡ Ok opened
  pub stands : StandsForMoment machine (first_moment b opened.joint)

-- the answer of an opening: the machine of the run's opening, or what it lacks
abbrev pub Opens : Bundle → Random → Result Machine OpenFault → Type 0
Opens b stream (Ok machine) = OpensMachine b stream machine
Opens b stream (Err fault.NoKey) = opening b stream ≡ Err NoKey
Opens b stream (Err fault.NoRandom) = opening b stream ≡ Err NoPageDraw
Opens b stream (Err fault.NoMemory) = Unit {0}

-- a run over files of these contents opens so, and the machine is that of its first moment
pub record OpensOver (b : Bundle) (keys : List (List ℕ)) (stream : Random) (contents : List FileContents)
    (machine : Machine) : Type 0 where
  pub opened : RunEdge
  pub opens : opening_stored b keys stream contents ≡ Ok opened
  pub stands : StandsForMoment machine (first_moment b opened.joint)

-- the answer of an opening over them: the machine of the run's opening, or what it lacks
abbrev pub OpensWith : Bundle → List (List ℕ) → Random → List FileContents → Result Machine StoredFault → Type 0
OpensWith b keys stream contents (Ok machine) = OpensOver b keys stream contents machine
OpensWith b keys stream contents (Err stored.NoRandom) = opening_stored b keys stream contents ≡ Err NoPageDraw
OpensWith b keys stream contents (Err (stored.NoRoom d)) = opening_stored b keys stream contents ≡ Err (NoRoom d)
OpensWith b keys stream contents (Err stored.NoMemory) = Unit {0}

-- so it is for all contents that a table stands for
abbrev pub OpensStored : Bundle → List (List ℕ) → Random → List StoredFile → Result Machine StoredFault → Type 0
OpensStored b keys stream files result =
    (contents : List FileContents) → StandsForFiles (stored_keys b keys) files contents →
    OpensWith b keys stream contents result

-- how many bytes the disk has
abbrev pub length_of_disk : Machine → ℕ
length_of_disk machine = length machine.joint.disk

-- what the kernel is shown as a run opens so, and the machine is still that of its first moment
pub record ShowsOpening {E : Type 0} (gave : E → E → List Piece → Type 0) (e e' : E) (machine : Machine) (b : Bundle)
    (o : RunEdge) : Type 0 where
  pub emits : Emits gave e e' (item_pieces o.items)
  pub stands : StandsForMoment machine (first_moment b o.joint)

-- what a step from this moment emits and returns, if it is this turn, and what the machine then stands for
pub record MakesTurn {E : Type 0} (gave : E → E → List Piece → Type 0) (e e' : E) (machine : Machine)
    (given : Option Stop) (m : Moment) (t : Turn) : Type 0 where
  pub emits : Emits gave e e' (turn_pieces (m.steps + 1) t)
  pub answer : given ≡ stop_of t
  pub stands : StandsForMoment machine (after_turn m t)

-- these are the parts of a machine that stands for this one
pub record ArePartsOf (parts : JointParts) (j : model.Joint) : Type 0 where
  pub harts : parts.harts.items ≡ j.harts
  pub disk : parts.disk ≡ j.disk
  pub memory : Holds parts.memory j.memory
  pub domains : AreDomains parts.domains.items j.domains
  pub ended : parts.ended ≡ j.ended
  pub refused : parts.refused ≡ j.refused

-- the end of a run that this stopped after this many steps, and that closed as this machine
pub record EndsAs (end : RunEnd) (stopped : Stop) (count : ℕ) (closed : model.Joint) : Type 0 where
  pub steps : end.steps ≡ count
  pub draws : end.draws ≡ closed.memory.ledger.draws
  pub ended : end.ended ≡ closed.ended
  pub refused : end.refused ≡ closed.refused
  pub stop : end.stop ≡ cause_of closed (Some stopped)
  pub report : end_report end ≡ report end.stop count closed
  pub short : end_short_report end ≡ short_report end.stop count closed
  pub lines : (d : ℕ) (program : Domain) → slice_get closed.domains d ≡ Some program →
      line_in end d ≡ domain_line program

-- what the closing of a run that this stopped emits, if it closes like this, and what is reported then
pub record FinishesAs {E : Type 0} (gave : E → E → List Piece → Type 0) (e e' : E) (end : RunEnd) (stopped : Stop)
    (m : Moment) (closed : RunEdge) : Type 0 where
  pub emits : Emits gave e e' (item_pieces (item.Close m.steps ∷ (closed.items ++ item.End ∷ [])))
  pub steps : end.steps ≡ m.steps
  pub draws : end.draws ≡ closed.joint.memory.ledger.draws
  pub ended : end.ended ≡ closed.joint.ended
  pub refused : end.refused ≡ closed.joint.refused
  pub stop : end.stop ≡ cause_of closed.joint (Some stopped)
  pub report : end_report end ≡ report end.stop m.steps closed.joint
  pub short : end_short_report end ≡ short_report end.stop m.steps closed.joint
  pub lines : (d : ℕ) (program : Domain) → slice_get closed.joint.domains d ≡ Some program →
      line_in end d ≡ domain_line program
