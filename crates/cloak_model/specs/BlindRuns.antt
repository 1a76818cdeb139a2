-- Confidentiality under an ideal cipher: what is shown by two runs is one, if their programs' steps have one shape each.
use Rattle.std.specs.Prelude.{ℕ, zero, suc, ◌≡◌, ◌<◌, [], length, map, slice_get, Option, Some, None, option_map}
use Rattle.cloak_model.specs.declared.context.Phase.TheVariants.{Plain}
use Rattle.cloak_model.specs.declared.inside.Went.{Went}
use Rattle.cloak_model.specs.Sealing.{Sealing}
use Rattle.cloak_model.specs.Contexts.{Context, domain_of, slot_of}
use Rattle.cloak_model.specs.DomainState.{Control, Domain}
use Rattle.cloak_model.specs.DomainStep.{DomainStepped, domain_script}
use Rattle.cloak_model.specs.Parts.{Joint}
use Rattle.cloak_model.specs.Joint.{Moment, Turn, next_hart, hart_in, joint_step, after_turn}
use Rattle.cloak_model.specs.Run.{turns_from, closing}
use Rattle.cloak_model.specs.Opening.{RunEdge}
use Rattle.cloak_model.specs.Veil.{veiled, IsBlind}
use Rattle.cloak_model.specs.Shape.{Shape, shape}

-- Of a context it is public in which space it is and on which hart it runs; of a program, which contexts there are and
-- whether it has ended.

abbrev pub veiled_context : Context → Context
veiled_context c = record c { pc = 0; regs = []; phase = Plain; mark = None }

abbrev pub veiled_control : Control → Control
veiled_control d = record d {
  contexts = map (option_map veiled_context) d.contexts;
  resources = record { held = []; spaces = [] };
}

abbrev pub veiled_domain : Domain → Domain
veiled_domain d = record { control = veiled_control d.control; loads = [] }

-- the joint machine without contents of pages, keys, vectors, registers of contexts, resources and loads
abbrev pub veiled_joint : Joint → Joint
veiled_joint j = record j { memory = veiled j.memory; domains = map veiled_domain j.domains }

abbrev pub veiled_turn : Turn → Turn
veiled_turn t = record t { joint = veiled_joint t.joint }

-- what is public of the end of a step
pub record PublicEnd : Type 0 where
  pub control : Control
  pub went : Went

abbrev pub public_end : DomainStepped → PublicEnd
public_end s = record { control = veiled_control s.domain.control; went = s.went }

abbrev pub shape_of_context : Joint → Option ℕ → Option (Shape PublicEnd)
shape_of_context j None = None
shape_of_context j (Some ctx) =
    option_map (λ (d : Domain). shape public_end (domain_script (slot_of ctx) d) j.memory.plain) (slice_get j.domains (domain_of ctx))

-- the shape of the next step, if its hart is inside a context
abbrev pub shape_of_step : Moment → Option (Shape PublicEnd)
shape_of_step m = shape_of_context m.joint (hart_in m.joint (next_hart m)).inside

-- Two moments are one in public.
pub record AreAlike (m m' : Moment) : Type 0 where
  pub schedule : m.schedule ≡ m'.schedule
  pub steps : m.steps ≡ m'.steps
  pub joint : veiled_joint m.joint ≡ veiled_joint m'.joint

-- how a machine seals pages
abbrev pub seal_in : Joint → Sealing
seal_in j = j.memory.ledger.keys.seal

-- No step changes it.
abbrev pub SealStays : Type 0
SealStays = (m : Moment) → seal_in (joint_step m).joint ≡ seal_in m.joint

-- One step: what it writes and shows is one, and the machines after it are one under the veil.
abbrev pub BlindStepsAgree : Type 0
BlindStepsAgree =
    (m m' : Moment) → AreAlike m m' → IsBlind (seal_in m.joint) → shape_of_step m ≡ shape_of_step m' →
    veiled_turn (joint_step m) ≡ veiled_turn (joint_step m')

-- the moment after so many steps
unfoldable pub moment_on : ℕ → Moment → Moment
moment_on zero m = m
moment_on (suc n) m = moment_on n (after_turn m (joint_step m))

-- each of the at most n steps that are made from a moment on has one shape in both
abbrev pub HaveOneShape : ℕ → Moment → Moment → Type 0
HaveOneShape n m m' = (k : ℕ) → k < length (turns_from n m) → shape_of_step (moment_on k m) ≡ shape_of_step (moment_on k m')

-- So it is of as many steps: whatever the programs' pages, registers and keys are.
abbrev pub BlindTurnsAgree : Type 0
BlindTurnsAgree =
    (n : ℕ) (m m' : Moment) → AreAlike m m' → IsBlind (seal_in m.joint) → HaveOneShape n m m' →
    map veiled_turn (turns_from n m) ≡ map veiled_turn (turns_from n m')

-- the same of the opening and of the closing of a run
abbrev pub veiled_edge : RunEdge → RunEdge
veiled_edge e = record e { joint = veiled_joint e.joint }

-- What the closing shows is one, of machines that are one under the veil.
abbrev pub BlindClosingsAgree : Type 0
BlindClosingsAgree =
    (j j' : Joint) → veiled_joint j ≡ veiled_joint j' → IsBlind (seal_in j) →
    veiled_edge (closing j) ≡ veiled_edge (closing j')
