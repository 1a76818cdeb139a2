-- A step of a program, and the end of a domain, of two machines that are one under the veil.
use Rattle.std.proofs.Common.{◌≡◌, ◌∙◌, ℕ, Bool, true, false, List, [], ◌∷◌, map, Option, Some, None, is_some, refl, sym, ap, slice_set}
use Rattle.std.proofs.lemmas.Bool.{false≢true}
use Rattle.std.proofs.lemmas.List.{map-set}
use Rattle.std.specs.Prelude.{option_map, slice_get, unwrap_or}
use Rattle.std.proofs.lemmas.Option.{slice_get-map}
use Rattle.cloak_base.specs.declared.causes.Violation.{Violation}
use Rattle.cloak_model.specs.Items.{Item}
use Rattle.cloak_model.specs.Items as item
use Rattle.cloak_model.specs.declared.inside.Went.{Went}
use Rattle.cloak_model.specs.declared.inside.Went.TheVariants as went
use Rattle.cloak_model.specs.Csr.{interrupt_due}
use Rattle.cloak_model.specs.Hart.{Hart}
use Rattle.cloak_model.specs.KernelStep.{ticked}
use Rattle.cloak_model.specs.Cloaking.{CloakedMemory}
use Rattle.cloak_model.specs.World.{World, MidStep, Flat, Cloaked, Alone, items_of, violation_of}
use Rattle.cloak_model.specs.Asking.{Told}
use Rattle.cloak_model.specs.Contexts.{Context, context_at, domain_of, slot_of, suspended, shown}
use Rattle.cloak_model.specs.DomainState.{Control, Domain}
use Rattle.cloak_model.specs.DomainStep.{DomainStepped, domain_script, domain_step, interrupt, interrupt_if}
use Rattle.cloak_model.specs.Hypercalls.{Stepped}
use Rattle.cloak_model.specs.DomainAlone.{runs_on}
use Rattle.cloak_model.specs.Script.{played}
use Rattle.cloak_model.specs.Parts.{Joint}
use Rattle.cloak_model.specs.Joint.{Turn, quiet, with_hart, cloak_of, memory_of, outside_step, left, without_root, domain_ended, with_domain, after_domain_step, pages_for, interrupt_ended, after_interrupt, by_interrupt, not_running, by_running, inside_step, turn_of}
use Rattle.cloak_model.specs.Veil.{veiled, IsBlind}
use Rattle.cloak_model.specs.VeilWorld.{veiled_world, veiled_told}
use Rattle.cloak_model.specs.Shape.{Shape, shape, played_shape, telling}
use Rattle.cloak_model.specs.BlindRuns.{veiled_context, veiled_control, veiled_domain, veiled_joint, veiled_turn, PublicEnd, public_end, shape_of_context}
use Rattle.cloak_model.proofs.Shapes.{steps_are_shapes}
use Rattle.cloak_model.proofs.BlindResumes.{control_twice, context_veiled, set_veiled, joint_twice}
use Rattle.cloak_model.proofs.BlindSteps.{items_veiled, violation_veiled, outside_veils, left_veils}

-- what commutes with the veil is one of two machines that are one under it
across : (F : Joint → Turn) → ((j : Joint) → veiled_turn (F (veiled_joint j)) ≡ veiled_turn (F j)) → (j j' : Joint) →
    veiled_joint j ≡ veiled_joint j' → veiled_turn (F j) ≡ veiled_turn (F j')
across F commutes j j' e = sym (commutes j) ∙ (ap (λ (x : Joint). veiled_turn (F x)) e ∙ commutes j')

quiet_veils : (j : Joint) (number : ℕ) (h : Hart) (items : List Item) →
    veiled_turn (quiet (with_hart number h (veiled_joint j)) items) ≡ veiled_turn (quiet (with_hart number h j) items)
quiet_veils j number h items = ap (λ (x : Joint). quiet x items) (joint_twice (with_hart number h j))

-- a domain is set
domain_set : (d : ℕ) (x : Domain) (j : Joint) → veiled_joint (with_domain d x j) ≡ with_domain d (veiled_domain x) (veiled_joint j)
domain_set d x j = ap (λ (ds : List Domain). let y : Joint = record (veiled_joint j) { domains = ds } in y) (map-set veiled_domain j.domains d x)

-- Interrupts.

abbrev veiled_stepped : Stepped → Stepped
veiled_stepped s = record s { control = veiled_control s.control }

interrupt_if_veils : (o : Option Context) (slot : ℕ) (d : Control) →
    veiled_stepped (interrupt_if (option_map veiled_context o) slot (veiled_control d)) ≡ veiled_stepped (interrupt_if o slot d)
unfolding interrupt_if shown
interrupt_if_veils None slot d = ap (λ (c : Control). let s : Stepped = record { control = c; went = went.Stay } in s) (control_twice d)
interrupt_if_veils (Some c) slot d =
    ap (λ (xs : List (Option Context)). let s : Stepped = record { control = record (veiled_control d) { contexts = xs }; went = (interrupt_if (Some c) slot d).went } in s)
    (set_veiled d.contexts slot (Some (suspended c)) (Some (suspended (veiled_context c))) refl)

interrupt_veils : (slot : ℕ) (d : Control) → veiled_stepped (interrupt slot (veiled_control d)) ≡ veiled_stepped (interrupt slot d)
unfolding interrupt
interrupt_veils slot d =
    ap (λ (o : Option Context). veiled_stepped (interrupt_if o slot (veiled_control d))) (context_veiled d.contexts slot)
    ∙ interrupt_if_veils (context_at d.contexts slot) slot d

interrupt_ended_veils : (j : Joint) (number : ℕ) (h : Hart) (items : List Item) (w : Went) →
    veiled_turn (interrupt_ended (veiled_joint j) number h items w) ≡ veiled_turn (interrupt_ended j number h items w)
unfolding interrupt_ended
interrupt_ended_veils j number h items (went.Leave s) = left_veils j number h items s
interrupt_ended_veils j number h items went.Stay = quiet_veils j number h items
interrupt_ended_veils j number h items went.Stopped = quiet_veils j number h items
interrupt_ended_veils j number h items (went.Remapped space) = quiet_veils j number h items
interrupt_ended_veils j number h items (went.SpaceGone space s) = quiet_veils j number h items

-- what an interrupt comes to, told under the veil
abbrev interrupted : Joint → ℕ → Hart → ℕ → Stepped → Turn
interrupted x number h d s =
    veiled_turn (interrupt_ended (with_domain d (record { control = s.control; loads = [] }) x) number h (item.Timer d ∷ []) s.went)

interrupt_is : (j : Joint) (number : ℕ) (h : Hart) (d slot : ℕ) (domain : Domain) →
    veiled_turn (after_interrupt j number h d domain (interrupt slot domain.control))
    ≡ interrupted (veiled_joint j) number h d (veiled_stepped (interrupt slot (veiled_control domain.control)))
unfolding after_interrupt
interrupt_is j number h d slot domain =
    let s : Stepped = interrupt slot domain.control in
    sym (interrupt_ended_veils (with_domain d (record domain { control = s.control }) j) number h (item.Timer d ∷ []) s.went)
    ∙ (ap (λ (x : Joint). veiled_turn (interrupt_ended x number h (item.Timer d ∷ []) s.went)) (domain_set d (record domain { control = s.control }) j)
    ∙ ap (λ (t : Stepped). interrupted (veiled_joint j) number h d t) (sym (interrupt_veils slot domain.control)))

-- A step of a context.

domain_ended_veils : (j : Joint) (number : ℕ) (h : Hart) (d : ℕ) (w : World) (e : Went) →
    veiled_turn (domain_ended (veiled_joint j) number h d w e) ≡ veiled_turn (domain_ended j number h d w e)
unfolding domain_ended
domain_ended_veils j number h d w went.Stay = quiet_veils j number h (items_of w)
domain_ended_veils j number h d w went.Stopped =
    ap (λ (x : Joint). let t : Turn = record (quiet x (items_of w)) { violation = violation_of w } in t) (joint_twice (with_hart number h j))
domain_ended_veils j number h d w (went.Remapped space) = quiet_veils j number h (items_of w)
domain_ended_veils j number h d w (went.Leave s) = left_veils j number h (items_of w) s
domain_ended_veils j number h d w (went.SpaceGone space s) =
    left_veils (record j { memory = without_root (record { domain = d; number = space }) j.memory }) number h (items_of w) s

world_ended_veils : (j : Joint) (number : ℕ) (h : Hart) (d : ℕ) (w : World) (e : Went) →
    veiled_turn (domain_ended j number h d (veiled_world w) e) ≡ veiled_turn (domain_ended j number h d w e)
unfolding domain_ended
world_ended_veils j number h d w went.Stay = ap (λ (items : List Item). veiled_turn (quiet (with_hart number h j) items)) (items_veiled w)
world_ended_veils j number h d w went.Stopped =
    ap (λ (items : List Item). veiled_turn (record (quiet (with_hart number h j) items) { violation = violation_of (veiled_world w) })) (items_veiled w)
    ∙ ap (λ (v : Option Violation). veiled_turn (record (quiet (with_hart number h j) (items_of w)) { violation = v })) (violation_veiled w)
world_ended_veils j number h d w (went.Remapped space) = ap (λ (items : List Item). veiled_turn (quiet (with_hart number h j) items)) (items_veiled w)
world_ended_veils j number h d w (went.Leave s) = ap (λ (items : List Item). veiled_turn (left j number h items s)) (items_veiled w)
world_ended_veils j number h d w (went.SpaceGone space s) =
    ap (λ (items : List Item). veiled_turn (left (record j { memory = without_root (record { domain = d; number = space }) j.memory }) number h items s)) (items_veiled w)

pub memory_through : (w : World) (m : CloakedMemory) → veiled (memory_of (veiled_world w) (veiled m)) ≡ veiled (memory_of w m)
memory_through (Flat seen) m = refl
memory_through (Cloaked c) m = refl
memory_through (Alone h) m = refl

abbrev came_to : Joint → ℕ → Hart → ℕ → Told PublicEnd → Turn
came_to x number h d t =
    veiled_turn (domain_ended (record (with_domain d (record { control = t.answer.control; loads = [] }) x) {
      memory = veiled (memory_of t.world x.memory);
    }) number h d t.world t.answer.went)

-- the joint machine after a step told this, with these domains and this memory
abbrev after_told : Joint → List Domain → CloakedMemory → Joint
after_told x ds m = record x { domains = ds; memory = m }

told_is : (j : Joint) (number : ℕ) (h : Hart) (d : ℕ) (told : Told DomainStepped) →
    veiled_turn (after_domain_step j number h d told) ≡ came_to (veiled_joint j) number h d (veiled_told (telling public_end told))
unfolding after_domain_step
told_is j number h d told =
    let w : World = told.world in
    let e : Went = told.answer.went in
    let x : Domain = told.answer.domain in
    sym (domain_ended_veils (record (with_domain d x j) { memory = memory_of w j.memory }) number h d w e)
    ∙ (ap (λ (ds : List Domain). veiled_turn (domain_ended (after_told (veiled_joint j) ds (veiled (memory_of w j.memory))) number h d w e)) (map-set veiled_domain j.domains d x)
    ∙ (ap (λ (m : CloakedMemory). veiled_turn (domain_ended (after_told (veiled_joint j) (slice_set (map veiled_domain j.domains) d (veiled_domain x)) m) number h d w e)) (sym (memory_through w j.memory))
    ∙ sym (world_ended_veils (after_told (veiled_joint j) (slice_set (map veiled_domain j.domains) d (veiled_domain x)) (veiled (memory_of (veiled_world w) (veiled j.memory)))) number h d w e)))

-- what a shape comes to
abbrev shaped : Joint → ℕ → Hart → ℕ → Shape PublicEnd → Turn
shaped x number h d s =
    came_to x number h d (veiled_told (played_shape s (Cloaked (cloak_of x.memory h d (λ va. None)))))

step_is : (j : Joint) (number : ℕ) (h : Hart) (d slot : ℕ) (domain : Domain) → IsBlind j.memory.ledger.keys.seal →
    veiled_turn (after_domain_step j number h d (domain_step slot domain (Cloaked (cloak_of j.memory h d (pages_for domain (context_at domain.control.contexts slot))))))
    ≡ shaped (veiled_joint j) number h d (shape public_end (domain_script slot domain) j.memory.plain)
unfolding domain_step
step_is j number h d slot domain blind =
    let c : MidStep = cloak_of j.memory h d (pages_for domain (context_at domain.control.contexts slot)) in
    told_is j number h d (played (domain_script slot domain) (Cloaked c))
    ∙ ap (λ (t : Told PublicEnd). came_to (veiled_joint j) number h d t) (steps_are_shapes public_end (domain_script slot domain) c blind)

-- Two machines.

record Pair (j j' : Joint) (slot : ℕ) (domain domain' : Domain) : Type 0 where
  joint : veiled_joint j ≡ veiled_joint j'
  domains : veiled_domain domain ≡ veiled_domain domain'
  shapes : shape public_end (domain_script slot domain) j.memory.plain ≡ shape public_end (domain_script slot domain') j'.memory.plain
  blind : IsBlind j.memory.ledger.keys.seal
  blind' : IsBlind j'.memory.ledger.keys.seal

by_interrupt_agrees : (b : Bool) (j j' : Joint) (number : ℕ) (h : Hart) (d slot : ℕ) (domain domain' : Domain) → Pair j j' slot domain domain' →
    veiled_turn (by_interrupt b j number h d slot domain) ≡ veiled_turn (by_interrupt b j' number h d slot domain')
unfolding by_interrupt
by_interrupt_agrees true j j' number h d slot domain domain' p =
    interrupt_is j number h d slot domain
    ∙ (ap (λ (x : Joint). interrupted x number h d (veiled_stepped (interrupt slot (veiled_control domain.control)))) p.joint
    ∙ (ap (λ (x : Domain). interrupted (veiled_joint j') number h d (veiled_stepped (interrupt slot x.control))) p.domains
    ∙ sym (interrupt_is j' number h d slot domain')))
by_interrupt_agrees false j j' number h d slot domain domain' p =
    step_is j number h d slot domain p.blind
    ∙ (ap (λ (x : Joint). shaped x number h d (shape public_end (domain_script slot domain) j.memory.plain)) p.joint
    ∙ (ap (λ (s : Shape PublicEnd). shaped (veiled_joint j') number h d s) p.shapes
    ∙ sym (step_is j' number h d slot domain' p.blind')))

by_running_agrees : (b : Bool) (j j' : Joint) (number : ℕ) (h : Hart) (ctx : ℕ) (domain domain' : Domain) → Pair j j' (slot_of ctx) domain domain' →
    veiled_turn (by_running b j number h ctx domain) ≡ veiled_turn (by_running b j' number h ctx domain')
unfolding by_running
by_running_agrees false j j' number h ctx domain domain' p =
    across (λ x. left x number h [] (not_running ctx)) (λ x. left_veils x number h [] (not_running ctx)) j j' p.joint
by_running_agrees true j j' number h ctx domain domain' p =
    by_interrupt_agrees (interrupt_due h.mode h.csrs) j j' number h (domain_of ctx) (slot_of ctx) domain domain' p

runs_veiled : (number : ℕ) (o : Option Context) → runs_on number (option_map veiled_context o) ≡ runs_on number o
runs_veiled number None = refl
runs_veiled number (Some c) = refl

runs_so : (number slot : ℕ) (d : Domain) → runs_on number (context_at (veiled_domain d).control.contexts slot) ≡ runs_on number (context_at d.control.contexts slot)
runs_so number slot d = ap (runs_on number) (context_veiled d.control.contexts slot) ∙ runs_veiled number (context_at d.control.contexts slot)

inside_agrees : (o o' : Option Domain) (j j' : Joint) (number : ℕ) (h : Hart) (ctx : ℕ) → veiled_joint j ≡ veiled_joint j' →
    option_map veiled_domain o ≡ option_map veiled_domain o' →
    option_map (λ (d : Domain). shape public_end (domain_script (slot_of ctx) d) j.memory.plain) o
    ≡ option_map (λ (d : Domain). shape public_end (domain_script (slot_of ctx) d) j'.memory.plain) o' →
    IsBlind j.memory.ledger.keys.seal → IsBlind j'.memory.ledger.keys.seal →
    veiled_turn (inside_step j number h ctx o) ≡ veiled_turn (inside_step j' number h ctx o')
unfolding inside_step
inside_agrees None None j j' number h ctx e eo es blind blind' =
    across (λ x. left x number h [] (not_running ctx)) (λ x. left_veils x number h [] (not_running ctx)) j j' e
inside_agrees None (Some d') j j' number h ctx e eo es blind blind' = absurd (false≢true (ap (λ (o : Option Domain). is_some o) eo))
inside_agrees (Some d) None j j' number h ctx e eo es blind blind' = absurd (false≢true (sym (ap (λ (o : Option Domain). is_some o) eo)))
inside_agrees (Some d) (Some d') j j' number h ctx e eo es blind blind' =
    let ed : veiled_domain d ≡ veiled_domain d' = ap (λ (o : Option Domain). unwrap_or o (veiled_domain d)) eo in
    let p : Pair j j' (slot_of ctx) d d' = record {
      joint = e;
      domains = ed;
      shapes = ap (λ (o : Option (Shape PublicEnd)). unwrap_or o (shape public_end (domain_script (slot_of ctx) d) j.memory.plain)) es;
      blind = blind;
      blind' = blind';
    } in
    by_running_agrees (runs_on number (context_at d.control.contexts (slot_of ctx))) j j' number h ctx d d' p
    ∙ ap (λ (b : Bool). veiled_turn (by_running b j' number h ctx d'))
    (sym (runs_so number (slot_of ctx) d) ∙ (ap (λ (x : Domain). runs_on number (context_at x.control.contexts (slot_of ctx))) ed ∙ runs_so number (slot_of ctx) d'))

pub turn_agrees : (inside : Option ℕ) (j j' : Joint) (number : ℕ) (h : Hart) → veiled_joint j ≡ veiled_joint j' →
    shape_of_context j inside ≡ shape_of_context j' inside → IsBlind j.memory.ledger.keys.seal → IsBlind j'.memory.ledger.keys.seal →
    veiled_turn (turn_of j number h inside) ≡ veiled_turn (turn_of j' number h inside)
unfolding turn_of
turn_agrees None j j' number h e es blind blind' =
    sym (outside_veils j number h blind) ∙ (ap (λ (x : Joint). veiled_turn (outside_step x number h)) e ∙ outside_veils j' number h blind')
turn_agrees (Some ctx) j j' number h e es blind blind' =
    inside_agrees (slice_get j.domains (domain_of ctx)) (slice_get j'.domains (domain_of ctx)) j j' number (ticked h) ctx e
    (sym (slice_get-map veiled_domain j.domains (domain_of ctx)) ∙ (ap (λ (x : Joint). slice_get x.domains (domain_of ctx)) e ∙ slice_get-map veiled_domain j'.domains (domain_of ctx)))
    es blind blind'
