-- No draw is missing as a run begins, and a step that misses one stops the run.
use Rattle.std.proofs.Common.{◌≡◌, ◌∙◌, ℕ, Bool, true, false, cond, List, Option, Some, None, IfSome, Ok, refl}
use Rattle.cloak_base.specs.Random.{Random}
use Rattle.cloak_base.specs.declared.causes.Stop.TheVariants as stop
use Rattle.cloak_base.specs.declared.names.PageId.{PageId}
use Rattle.cloak_model.specs.declared.image.Bundle.{Bundle}
use Rattle.cloak_model.specs.Beginning.{Beginning, opening_from}
use Rattle.cloak_model.specs.Cloaking.{CloakedMemory}
use Rattle.cloak_model.specs.Joint.{stop_without_miss}
use Rattle.cloak_model.specs.Ledger.{Keys}
use Rattle.cloak_model.specs.Opening.{RunEdge, started_ledger, started_memory}
use Rattle.cloak_model.specs.PageMoves.{place_with}
use Rattle.cloak_model.specs.Parts.{Joint}
use Rattle.cloak_model.specs.StoredFiles.{FileContents}
use Rattle.kernel_isolation.proofs.FilesAdded.{IsGiven, given_keeps}
use Rattle.limit_law.proofs.Openings.{begins_in_memory}

pub stop_tells : (missed : Bool) (halt : Option ℕ) → cond missed (Some stop.NoRandom) (stop_without_miss halt) ≡ None →
    missed ≡ false
stop_tells true halt is = absurd cc
stop_tells false halt is = refl

-- The opening misses none.

abbrev pub IsDrawn : CloakedMemory → Type 0
IsDrawn m = m.ledger.missed ≡ false

place_drawn : (q : PageId) (f : ℕ) (bytes : List ℕ) (draw : Option (List ℕ × Random)) (m : CloakedMemory) → IsDrawn m →
    IfSome (place_with q f bytes draw m) IsDrawn
unfolding place_with
place_drawn q f bytes None m drawn = tt
place_drawn q f bytes (Some draw) m drawn = drawn

started_drawn : (b : Bundle) (keys : Keys) (rest : Random) → IsDrawn (started_memory b.kernel keys rest)
unfolding started_memory started_ledger
started_drawn b keys rest = refl

abbrev pub JointDrawn : Joint → Type 0
JointDrawn j = IsDrawn j.memory

given_drawn : (f : FileContents) (x y : Joint) → IsGiven f x y → JointDrawn x → JointDrawn y
given_drawn f x y given drawn = (given_keeps f x y given).memory.missed ∙ drawn

pub opened_drawn : (b : Bundle) (from : Beginning) (o : RunEdge) → opening_from b from ≡ Ok o → JointDrawn o.joint
opened_drawn b from = begins_in_memory IsDrawn b from place_drawn (started_drawn b) given_drawn
