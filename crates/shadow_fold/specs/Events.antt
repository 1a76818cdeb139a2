-- What the steps of a joint run ask, and the fold over its events.
use Rattle.std.specs.Prelude.{ℕ, Bool, true, false, List, [], ◌∷◌, ◌++◌, length, slice_get, Option, Some, None}
use Rattle.cloak_base.specs.declared.causes.Violation.{Violation}
use Rattle.cloak_model.specs.declared.inside.Went.{Went}
use Rattle.cloak_model.specs.declared.inside.Went.TheVariants as went
use Rattle.cloak_model.specs.Csr.{interrupt_due}
use Rattle.cloak_model.specs.Contexts.{Context, context_at, domain_of, slot_of}
use Rattle.cloak_model.specs.Cloaking.{CloakedMemory}
use Rattle.cloak_model.specs.DomainAlone.{runs_on}
use Rattle.cloak_model.specs.DomainState.{Domain}
use Rattle.cloak_model.specs.DomainStep.{domain_step}
use Rattle.cloak_model.specs.Ending.{ask_end, cloak_for, spaces_of}
use Rattle.cloak_model.specs.Hart.{Hart}
use Rattle.cloak_model.specs.Joint.{Moment, Turn, next_hart, hart_in, cloak_of, cloak_outside, pages_for, turn_of, domain_met, after_turn}
use Rattle.cloak_model.specs.KernelStep.{kernel_step, ticked}
use Rattle.cloak_model.specs.Opening.{RunEdge}
use Rattle.cloak_model.specs.Parts.{Joint}
use Rattle.cloak_model.specs.Run.{turns_from, first_moment}
use Rattle.cloak_base.specs.declared.names.SpaceId.{SpaceId}
use Rattle.cloak_model.specs.World.{Cloaked, events_of, items_of}
use Rattle.cloak_model.specs.declared.image.Bundle.{Bundle}
use Rattle.shadow_fold.specs.declared.entry.ShadowCounts.{ShadowCounts}
use Rattle.shadow_fold.specs.Fold.{Fold, fresh_fold, after_events}
use Rattle.shadow_fold.specs.Reads.{AskedByStep, events_in}

-- A step of a hart outside: the plain step, which settles frames as it comes to them.
abbrev pub asked_outside : Joint → Hart → AskedByStep
asked_outside j h =
    let told = kernel_step h j.disk (Cloaked (cloak_outside j.memory h)) in
    record { space = None; events = events_of told.world; items = items_of told.world; changed = [] }

-- the spaces of its domain that a program's step changed, or ended
abbrev pub changed_by : ℕ → Went → List SpaceId
changed_by d went.Stay = []
changed_by d went.Stopped = []
changed_by d (went.Remapped space) = record { domain = d; number = space } ∷ []
changed_by d (went.Leave s) = []
changed_by d (went.SpaceGone space s) = record { domain = d; number = space } ∷ []

-- A step of the context in a slot of domain d.
abbrev pub asked_by : Joint → Hart → ℕ → ℕ → Domain → Context → AskedByStep
asked_by j h d slot domain c =
    let told = domain_step slot domain (Cloaked (cloak_of j.memory h d (pages_for domain (Some c)))) in
    record {
      space = Some (record { domain = d; number = c.space });
      events = events_of told.world;
      items = items_of told.world;
      changed = changed_by d told.answer.went;
    }

abbrev pub nothing_asked : AskedByStep
nothing_asked = record { space = None; events = []; items = []; changed = [] }

-- a step that takes an interrupt asks nothing, and so does one of a hart whose context does not run on it
abbrev pub asked_if : Bool → Joint → Hart → ℕ → ℕ → Domain → Option Context → AskedByStep
asked_if true j h d slot domain c = nothing_asked
asked_if false j h d slot domain None = nothing_asked
asked_if false j h d slot domain (Some c) = asked_by j h d slot domain c

abbrev pub asked_running : Bool → Joint → Hart → ℕ → ℕ → Domain → AskedByStep
asked_running false j h d slot domain = nothing_asked
asked_running true j h d slot domain =
    asked_if (interrupt_due h.mode h.csrs) j h d slot domain (context_at domain.control.contexts slot)

abbrev pub asked_inside : Joint → ℕ → Hart → ℕ → ℕ → Option Domain → AskedByStep
asked_inside j number h d slot None = nothing_asked
asked_inside j number h d slot (Some domain) =
    asked_running (runs_on number (context_at domain.control.contexts slot)) j h d slot domain

abbrev pub asked_of : Joint → ℕ → Hart → Option ℕ → AskedByStep
asked_of j number h None = asked_outside j h
asked_of j number h (Some ctx) =
    asked_inside j number (ticked h) (domain_of ctx) (slot_of ctx) (slice_get j.domains (domain_of ctx))

-- The end of a domain after a step: the frames that are settled, the resources that are dropped, and then its spaces.
abbrev pub with_end : ℕ → Domain → CloakedMemory → AskedByStep → AskedByStep
with_end d domain m a =
    let w = (ask_end d (Cloaked (cloak_for m d))).world in
    record a {
      events = a.events ++ events_of w;
      items = a.items ++ items_of w;
      changed = a.changed ++ spaces_of d domain;
    }

-- by whether it has ended already
abbrev pub ended_once : Bool → ℕ → Domain → CloakedMemory → AskedByStep → AskedByStep
ended_once true d domain m a = a
ended_once false d domain m a = with_end d domain m a

-- at a resuming, if there is such a domain
abbrev pub ended_resumed : Option Domain → ℕ → CloakedMemory → AskedByStep → AskedByStep
ended_resumed None d m a = a
ended_resumed (Some domain) d m a = ended_once domain.control.ended d domain m a

-- at a question of a context of this domain
abbrev pub ended_asked : Option Domain → ℕ → CloakedMemory → AskedByStep → AskedByStep
ended_asked None d m a = a
ended_asked (Some domain) d m a = with_end d domain m a

-- what a step that ended with this machine asks, with the end of a domain if it met a violation
abbrev pub ended_by : Option ℕ → Option Violation → Joint → AskedByStep → AskedByStep
ended_by inside None j a = a
ended_by None (Some v) j a = ended_resumed (slice_get j.domains (domain_met v)) (domain_met v) j.memory a
ended_by (Some ctx) (Some v) j a = ended_asked (slice_get j.domains (domain_of ctx)) (domain_of ctx) j.memory a

-- what the step of a hart asks
abbrev pub asked_with_end : Joint → ℕ → AskedByStep
asked_with_end j number =
    let h = hart_in j number in let t = turn_of j number h h.inside in
    ended_by h.inside t.violation t.joint (asked_of j number h h.inside)

-- what the next step of a run asks
abbrev pub asked_in : Moment → AskedByStep
asked_in m = asked_with_end m.joint (next_hart m)

-- the fold after it
unfoldable pub after_step : Moment → Fold → Fold
after_step m s = let a = asked_in m in after_events a.space (events_in a) s

-- after these steps
unfoldable pub after_turns : Moment → List Turn → Fold → Fold
after_turns m [] s = s
after_turns m (t ∷ turns) s = after_turns (after_turn m t) turns (after_step m s)

-- The counts of a run of a bundle, which was opened like this, with at most `budget` steps. It begins with no live
-- entry, and each frame of a program's page is outside.
unfoldable pub counts_of : Bundle → ℕ → RunEdge → ShadowCounts
counts_of b budget o =
    let m = first_moment b o.joint in
    (after_turns m (turns_from budget m) (fresh_fold (length o.joint.memory.ram))).table.counts
