-- What a joint machine stands for, and what its calls make of it.
use Rattle.std.specs.Prelude.{ℕ, ◌≡◌, Bool, false, List, [], ◌∷◌, length, Option, Some, None, Result, Ok, Err}
use Rattle.cloak_base.specs.Random.{Random}
use Rattle.cloak_base.specs.declared.names.SpaceId.{SpaceId}
use Rattle.cloak_model.specs.declared.image.Bundle.{Bundle}
use Rattle.cloak_model.specs.Exchange.{Piece, Emits, item_pieces}
use Rattle.cloak_model.specs.DomainState as program
use Rattle.cloak_model.specs.Parts as model
use Rattle.cloak_model.specs.Joint.{Turn, hart_in, turn_of, answers_violation, stop_of}
use Rattle.cloak_model.specs.Opening.{RunEdge, NoKey, NoPageDraw, NoRoom, opening}
use Rattle.cloak_model.specs.StoredFiles.{StoredFile, FileContents, StandsForFiles}
use Rattle.cloak_model.specs.Beginning.{opening_stored, stored_keys}
use Rattle.thread_context.specs.Recorded.{root_at}
use Rattle.cloak_base.specs.declared.names.PageId.{PageId}
use Rattle.cloak_model.specs.Cloaking.{CloakedMemory}
use Rattle.cloak_pager.specs.State.{PagerState, held_in}
use Rattle.cloak_pager.specs.Relation.{StandsForMemory}
use Rattle.cloaked_side.specs.Holding.{Holds}
use Rattle.hypercalls.specs.declared.domain.Domain.{Domain}
use Rattle.hypercalls.specs.Standing.{StandsFor}
use Rattle.joint_machine.specs.declared.joint.Joint.{Joint}
use Rattle.joint_machine.specs.declared.turned.Turned.{Turned}
use Rattle.joint_machine.specs.declared.opened.OpenFault.{OpenFault}
use Rattle.joint_machine.specs.declared.opened.OpenFault.TheVariants as fault
use Rattle.joint_machine.specs.declared.opened.StoredFault.{StoredFault}
use Rattle.joint_machine.specs.declared.opened.StoredFault.TheVariants as stored

-- how many harts there are
abbrev pub harts_of : Joint → ℕ
harts_of joint = length joint.harts.items

-- these are the programs, in order
abbrev pub AreDomains : List Domain → List program.Domain → Type 0
AreDomains [] [] = Unit {0}
AreDomains [] (d ∷ ds) = ⊥
AreDomains (x ∷ xs) [] = ⊥
AreDomains (x ∷ xs) (d ∷ ds) = StandsFor x d × AreDomains xs ds

-- The machine is that of this state, whatever the console was shown.
pub record StandsForJoint (joint : Joint) (j : model.Joint) : Type 0 where
  pub harts : joint.harts.items ≡ j.harts
  pub disk : joint.disk ≡ j.disk
  pub memory : Holds joint.memory j.memory
  pub domains : AreDomains joint.domains.items j.domains
  pub roots : (s : SpaceId) → root_at joint.roots s ≡ j.memory.ledger.root s
  pub ended : joint.ended ≡ j.ended
  pub refused : joint.refused ≡ j.refused

-- A step.

-- the next step of a hart, but for the end of a domain
abbrev pub turn_in : model.Joint → ℕ → Turn
turn_in j number = let h = hart_in j number in turn_of j number h h.inside

-- the next step of a hart, with the end of a domain after it
abbrev pub step_in : model.Joint → ℕ → Turn
step_in j number =
    let h = hart_in j number in let t = turn_of j number h h.inside in answers_violation h.inside t.violation t

-- the bytes of the console that were shown
abbrev pub shown_byte : Option ℕ → List ℕ
shown_byte None = []
shown_byte (Some b) = b ∷ []

-- The step was this one: what was emitted, what it returns, and what the machine then stands for.
pub record TakesTurn {E : Type 0} (gave : E → E → List Piece → Type 0) (e e' : E) (joint : Joint) (given : Turned) (t : Turn) : Type 0 where
  pub emits : Emits gave e e' (item_pieces t.items)
  pub console : shown_byte given.console ≡ t.console
  pub stop : given.stop ≡ stop_of t
  pub stands : StandsForJoint joint t.joint

-- Opening and closing.

-- the machine is that of a run's opening, or what the opening lacks
pub record OpensJoint (b : Bundle) (stream : Random) (joint : Joint) : Type 0 where
  pub opened : RunEdge
  pub opens : opening b stream ≡ Ok opened
  pub stands : StandsForJoint joint opened.joint

abbrev pub OpensAs : Bundle → Random → Result Joint OpenFault → Type 0
OpensAs b stream (Ok joint) = OpensJoint b stream joint
OpensAs b stream (Err fault.NoKey) = opening b stream ≡ Err NoKey
OpensAs b stream (Err fault.NoRandom) = opening b stream ≡ Err NoPageDraw
OpensAs b stream (Err fault.NoMemory) = Unit {0}

-- the machine is that of a run's opening over files with these contents
pub record OpensOver (b : Bundle) (keys : List (List ℕ)) (stream : Random) (contents : List FileContents) (joint : Joint) :
    Type 0 where
  pub opened : RunEdge
  pub opens : opening_stored b keys stream contents ≡ Ok opened
  pub stands : StandsForJoint joint opened.joint

-- it is, or what the opening lacks
abbrev pub OpensWith : Bundle → List (List ℕ) → Random → List FileContents → Result Joint StoredFault → Type 0
OpensWith b keys stream contents (Ok joint) = OpensOver b keys stream contents joint
OpensWith b keys stream contents (Err stored.NoRandom) = opening_stored b keys stream contents ≡ Err NoPageDraw
OpensWith b keys stream contents (Err (stored.NoRoom d)) = opening_stored b keys stream contents ≡ Err (NoRoom d)
OpensWith b keys stream contents (Err stored.NoMemory) = Unit {0}

-- so for all contents that the table stands for under these keys
abbrev pub OpensStoredAs : Bundle → List (List ℕ) → Random → List StoredFile → Result Joint StoredFault → Type 0
OpensStoredAs b keys stream files result =
    (contents : List FileContents) → StandsForFiles (stored_keys b keys) files contents →
    OpensWith b keys stream contents result

-- what was shown, and what the machine then stands for
pub record ShowsAs {E : Type 0} (gave : E → E → List Piece → Type 0) (e e' : E) (joint : Joint) (o : RunEdge) : Type 0 where
  pub emits : Emits gave e e' (item_pieces o.items)
  pub stands : StandsForJoint joint o.joint

-- every frame is as the kernel sees it
abbrev pub AllOutside : Joint → Type 0
AllOutside joint = (k : ℕ) → held_in joint.memory.pager k ≡ None

-- The pager is that of this memory. The newest bytes of a page are lost only if a draw was missing.
pub record LendsPager (pager : PagerState) (m : CloakedMemory) : Type 0 where
  pub wiped : PageId → Bool
  pub stands : StandsForMemory pager wiped m
  pub whole : m.ledger.missed ≡ false → (q : PageId) → wiped q ≡ false
