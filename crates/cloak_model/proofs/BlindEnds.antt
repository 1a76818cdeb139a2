-- The end of a domain, and the whole step, of two machines that are one under the veil.
use Rattle.std.proofs.Common.{◌≡◌, ◌∙◌, ℕ, zero, suc, Bool, true, false, List, [], ◌∷◌, map, Option, Some, None, refl, sym, ap, subst, slice_set, length}
use Rattle.std.specs.Prelude.{◌+◌, ◌++◌, option_map, slice_get}
use Rattle.std.proofs.lemmas.Option.{slice_get-map}
use Rattle.cloak_base.specs.declared.names.PageId.{PageId}
use Rattle.cloak_base.specs.declared.causes.Violation.{Violation}
use Rattle.cloak_base.specs.Pages.{zero_page, with_resource}
use Rattle.cloak_model.specs.Items.{Item}
use Rattle.cloak_model.specs.Items as item
use Rattle.cloak_model.specs.Hart.{Hart}
use Rattle.cloak_model.specs.Cloaking.{CloakedMemory}
use Rattle.cloak_model.specs.World.{World, MidStep, Cloaked, items_of}
use Rattle.cloak_model.specs.Asking.{Told}
use Rattle.cloak_model.specs.AskPages.{settled_if_marked}
use Rattle.cloak_model.specs.Contexts.{domain_of}
use Rattle.cloak_model.specs.DomainState.{Control, Domain}
use Rattle.cloak_model.specs.Script.{Script, played}
use Rattle.cloak_model.specs.Fork.{forget_each}
use Rattle.cloak_model.specs.Opening.{numbers_below}
use Rattle.cloak_model.specs.Ending.{all_marked, settled_for, ask_end, cloak_for, ended_domain}
use Rattle.cloak_model.specs.Parts.{Joint}
use Rattle.cloak_model.specs.Joint.{Moment, Turn, hart_in, memory_of, turn_of, domain_met, without_domain_roots, end_domain, refuses, ends_once, ends_resumed, ends_asked, answers_violation, next_hart, step_before_end, joint_step}
use Rattle.cloak_model.specs.Veil.{veiled, IsBlind}
use Rattle.cloak_model.specs.VeilWorld.{veiled_step, veiled_world, veiled_told, seal_of, is_cloaked, pages_of}
use Rattle.cloak_model.specs.Shape.{Shape, Discards, shape, played_shape, telling}
use Rattle.cloak_model.specs.BlindRuns.{veiled_domain, veiled_joint, veiled_turn, shape_of_context, seal_in, shape_of_step, AreAlike, BlindStepsAgree}
use Rattle.cloak_model.proofs.VeilWorlds.{IsVeiledChange, marks_veil, twice, blind_at, seal_veiled}
use Rattle.cloak_model.proofs.Shapes.{shape_veils, plays}
use Rattle.cloak_model.proofs.BlindResumes.{control_twice, joint_twice, set_domain_veiled}
use Rattle.cloak_model.proofs.BlindSteps.{items_veiled}
use Rattle.cloak_model.proofs.BlindInside.{memory_through, turn_agrees}
use Rattle.cloak_model.proofs.SealStays.{before_seal}

-- What is owed of the domain is settled.

for_veils : (domain f n : ℕ) → IsVeiledChange (settled_for domain f n)
unfolding settled_for
for_veils domain f zero = record { seals = λ w. refl; keeps = λ w. refl; cloaked = λ w. refl; same = λ w blind. twice w }
for_veils domain f (suc n) =
    let first : IsVeiledChange (settled_if_marked domain all_marked f) = marks_veil domain all_marked f in
    let rest : IsVeiledChange (settled_for domain (f + 1) n) = for_veils domain (f + 1) n in
    record {
      seals = λ w. rest.seals (settled_if_marked domain all_marked f w) ∙ first.seals w;
      keeps = λ w. rest.keeps (settled_if_marked domain all_marked f w) ∙ first.keeps w;
      cloaked = λ w. rest.cloaked (settled_if_marked domain all_marked f w) ∙ first.cloaked w;
      same = λ w blind.
          let x : World = settled_if_marked domain all_marked f w in
          let x' : World = settled_if_marked domain all_marked f (veiled_world w) in
          let b : IsBlind (seal_of x) = blind_at x w (first.seals w) blind in
          let b' : IsBlind (seal_of x') = blind_at x' (veiled_world w) (first.seals (veiled_world w)) (blind_at (veiled_world w) w (seal_veiled w) blind) in
          sym (rest.same x' b') ∙ (ap (λ (y : World). veiled_world (settled_for domain (f + 1) n y)) (first.same w blind) ∙ rest.same x b);
    }

-- Its pages are dropped.

same_done : Unit {0} → Unit {0}
same_done u = u

forget_shape : (domain : ℕ) (ns : List ℕ) (p p' : PageId → List ℕ) →
    shape same_done (forget_each domain ns) p ≡ shape same_done (forget_each domain ns) p'
unfolding shape forget_each
forget_shape domain [] p p' = refl
forget_shape domain (n ∷ ns) p p' =
    ap (λ (s : Shape (Unit {0})). Discards domain n s) (forget_shape domain ns (with_resource p domain n zero_page) (with_resource p' domain n zero_page))

abbrev forgetting : ℕ → Script (Unit {0})
forgetting domain = forget_each domain (numbers_below 16)

no_pages : PageId → List ℕ
no_pages q = []

forgets : (domain : ℕ) (w : World) → is_cloaked w ≡ true → IsBlind (seal_of w) →
    veiled_told (telling same_done (played (forgetting domain) w))
    ≡ veiled_told (played_shape (shape same_done (forgetting domain) no_pages) (veiled_world w))
forgets domain w is blind =
    plays same_done (forgetting domain) w (pages_of w) refl is blind
    ∙ (ap (λ (s : Shape (Unit {0})). veiled_told (played_shape s w)) (forget_shape domain (numbers_below 16) (pages_of w) no_pages)
    ∙ sym (shape_veils (shape same_done (forgetting domain) no_pages) w is blind))

-- The end of a domain.

end_veils : (domain : ℕ) (c : MidStep) → IsBlind c.memory.ledger.keys.seal →
    veiled_world (ask_end domain (Cloaked (veiled_step c))).world ≡ veiled_world (ask_end domain (Cloaked c)).world
unfolding ask_end
end_veils domain c blind =
    let n : ℕ = length c.memory.ram in
    let all : IsVeiledChange (settled_for domain 0 n) = for_veils domain 0 n in
    let x : World = settled_for domain 0 n (Cloaked c) in
    let x' : World = settled_for domain 0 n (Cloaked (veiled_step c)) in
    let b : IsBlind (seal_of x) = blind_at x (Cloaked c) (all.seals (Cloaked c)) blind in
    let b' : IsBlind (seal_of x') = blind_at x' (Cloaked (veiled_step c)) (all.seals (Cloaked (veiled_step c))) blind in
    ap (λ (t : Told (Unit {0})). t.world) (forgets domain x' (all.cloaked (Cloaked (veiled_step c))) b')
    ∙ (ap (λ (w : World). veiled_world (played_shape (shape same_done (forgetting domain) no_pages) w).world) (all.same (Cloaked c) blind)
    ∙ sym (ap (λ (t : Told (Unit {0})). t.world) (forgets domain x (all.cloaked (Cloaked c)) b)))

-- a domain ended in this machine, in which its pages left this memory, and wrote this
abbrev ended_so : Turn → ℕ → Violation → List Domain → CloakedMemory → List Item → Turn
ended_so t d v ds m items = record t {
  joint = record t.joint { domains = ds; memory = without_domain_roots d m; ended = slice_set t.joint.ended d (Some v) };
  items = t.items ++ (items ++ item.Ended d ∷ []);
}

end_domain_veils : (d : ℕ) (domain domain' : Domain) (v : Violation) (t : Turn) → IsBlind t.joint.memory.ledger.keys.seal →
    veiled_domain domain' ≡ veiled_domain domain →
    veiled_turn (end_domain d domain' v (veiled_turn t)) ≡ veiled_turn (end_domain d domain v t)
unfolding end_domain ended_domain
end_domain_veils d domain domain' v t blind e =
    let m : CloakedMemory = t.joint.memory in
    let w : World = (ask_end d (Cloaked (cloak_for m d))).world in
    let w' : World = (ask_end d (Cloaked (cloak_for (veiled m) d))).world in
    let ew : veiled_world w' ≡ veiled_world w = end_veils d (cloak_for m d) blind in
    ap (λ (ds : List Domain). ended_so t d v ds (veiled (memory_of w' (veiled m))) (items_of w'))
    (set_domain_veiled t.joint.domains d (ended_domain domain) (ended_domain domain') (ap (λ (x : Domain). veiled_domain (ended_domain x)) e))
    ∙ (ap (λ (y : CloakedMemory). ended_so t d v (map veiled_domain (slice_set t.joint.domains d (ended_domain domain))) y (items_of w')) (sym (memory_through w' (veiled m)))
    ∙ (ap (λ (items : List Item). ended_so t d v (map veiled_domain (slice_set t.joint.domains d (ended_domain domain))) (veiled (memory_of (veiled_world w') (veiled m))) items) (sym (items_veiled w'))
    ∙ (ap (λ (x : World). ended_so t d v (map veiled_domain (slice_set t.joint.domains d (ended_domain domain))) (veiled (memory_of x (veiled m))) (items_of x)) ew
    ∙ (ap (λ (items : List Item). ended_so t d v (map veiled_domain (slice_set t.joint.domains d (ended_domain domain))) (veiled (memory_of (veiled_world w) (veiled m))) items) (items_veiled w)
    ∙ ap (λ (y : CloakedMemory). ended_so t d v (map veiled_domain (slice_set t.joint.domains d (ended_domain domain))) y (items_of w)) (memory_through w m)))))

refuses_veils : (t : Turn) → veiled_turn (refuses (veiled_turn t)) ≡ veiled_turn (refuses t)
refuses_veils t = ap (λ (x : Joint). let y : Turn = record (refuses t) { joint = x } in y) (joint_twice (refuses t).joint)

turn_twice : (t : Turn) → veiled_turn (veiled_turn t) ≡ veiled_turn t
turn_twice t = ap (λ (x : Joint). let y : Turn = record t { joint = x } in y) (joint_twice t.joint)

domain_twice : (d : Domain) → veiled_domain (veiled_domain d) ≡ veiled_domain d
domain_twice d = ap (λ (c : Control). let x : Domain = record { control = c; loads = [] } in x) (control_twice d.control)

once_veils : (b : Bool) (d : ℕ) (domain : Domain) (v : Violation) (t : Turn) → IsBlind t.joint.memory.ledger.keys.seal →
    veiled_turn (ends_once b d (veiled_domain domain) v (veiled_turn t)) ≡ veiled_turn (ends_once b d domain v t)
unfolding ends_once
once_veils true d domain v t blind = refuses_veils t
once_veils false d domain v t blind = end_domain_veils d domain (veiled_domain domain) v t blind (domain_twice domain)

resumed_veils : (o : Option Domain) (d : ℕ) (v : Violation) (t : Turn) → IsBlind t.joint.memory.ledger.keys.seal →
    veiled_turn (ends_resumed (option_map veiled_domain o) d v (veiled_turn t)) ≡ veiled_turn (ends_resumed o d v t)
unfolding ends_resumed
resumed_veils None d v t blind = refuses_veils t
resumed_veils (Some domain) d v t blind = once_veils domain.control.ended d domain v t blind

asked_end_veils : (o : Option Domain) (d : ℕ) (v : Violation) (t : Turn) → IsBlind t.joint.memory.ledger.keys.seal →
    veiled_turn (ends_asked (option_map veiled_domain o) d v (veiled_turn t)) ≡ veiled_turn (ends_asked o d v t)
unfolding ends_asked
asked_end_veils None d v t blind = turn_twice t
asked_end_veils (Some domain) d v t blind = end_domain_veils d domain (veiled_domain domain) v t blind (domain_twice domain)

violation_veils : (inside : Option ℕ) (o : Option Violation) (t : Turn) → IsBlind t.joint.memory.ledger.keys.seal →
    veiled_turn (answers_violation inside o (veiled_turn t)) ≡ veiled_turn (answers_violation inside o t)
unfolding answers_violation
violation_veils inside None t blind = turn_twice t
violation_veils None (Some v) t blind =
    ap (λ (o : Option Domain). veiled_turn (ends_resumed o (domain_met v) v (veiled_turn t))) (slice_get-map veiled_domain t.joint.domains (domain_met v))
    ∙ resumed_veils (slice_get t.joint.domains (domain_met v)) (domain_met v) v t blind
violation_veils (Some ctx) (Some v) t blind =
    ap (λ (o : Option Domain). veiled_turn (ends_asked o (domain_of ctx) v (veiled_turn t))) (slice_get-map veiled_domain t.joint.domains (domain_of ctx))
    ∙ asked_end_veils (slice_get t.joint.domains (domain_of ctx)) (domain_of ctx) v t blind

-- The step.

-- the moment of another machine
abbrev of_joint : Moment → Joint → Moment
of_joint m j = record m { joint = j }

before_agrees : (m : Moment) (j' : Joint) → veiled_joint m.joint ≡ veiled_joint j' → shape_of_step m ≡ shape_of_step (of_joint m j') →
    IsBlind m.joint.memory.ledger.keys.seal → IsBlind j'.memory.ledger.keys.seal →
    veiled_turn (step_before_end m) ≡ veiled_turn (step_before_end (of_joint m j'))
before_agrees m j' e es blind blind' =
    let n : ℕ = next_hart m in
    let h : Hart = hart_in m.joint n in
    let h' : Hart = hart_in j' n in
    let eh : h ≡ h' = ap (λ (x : Joint). hart_in x n) e in
    turn_agrees h.inside m.joint j' n h e (es ∙ ap (λ (x : Hart). shape_of_context j' x.inside) (sym eh)) blind blind'
    ∙ ap (λ (x : Hart). veiled_turn (turn_of j' n x x.inside)) eh

joint_agrees : (m : Moment) (j' : Joint) → veiled_joint m.joint ≡ veiled_joint j' → IsBlind (seal_in m.joint) →
    shape_of_step m ≡ shape_of_step (of_joint m j') → veiled_turn (joint_step m) ≡ veiled_turn (joint_step (of_joint m j'))
unfolding joint_step
joint_agrees m j' e blind shapes =
    let t : Turn = step_before_end m in
    let t' : Turn = step_before_end (of_joint m j') in
    let n : ℕ = next_hart m in
    let blind' : IsBlind (seal_in j') = subst IsBlind (ap (λ (x : Joint). seal_in x) e) blind in
    let et : veiled_turn t ≡ veiled_turn t' = before_agrees m j' e shapes blind blind' in
    let eh : hart_in m.joint n ≡ hart_in j' n = ap (λ (x : Joint). hart_in x n) e in
    sym (violation_veils (hart_in m.joint n).inside t.violation t (subst IsBlind (sym (before_seal m)) blind))
    ∙ (ap (λ (x : Turn). veiled_turn (answers_violation (hart_in m.joint n).inside x.violation x)) et
    ∙ (ap (λ (h : Hart). veiled_turn (answers_violation h.inside t'.violation (veiled_turn t'))) eh
    ∙ violation_veils (hart_in j' n).inside t'.violation t' (subst IsBlind (sym (before_seal (of_joint m j'))) blind')))

-- what m' is, by the schedule and the steps of m
moved : (m m' : Moment) → AreAlike m m' → m' ≡ of_joint m m'.joint
moved m m' alike =
    ap (λ (s : List ℕ). let x : Moment = record m' { schedule = s } in x) (sym alike.schedule)
    ∙ ap (λ (n : ℕ). let x : Moment = record m' { schedule = m.schedule; steps = n } in x) (sym alike.steps)

pub blind_steps_agree : BlindStepsAgree
blind_steps_agree m m' alike blind shapes =
    let e : m' ≡ of_joint m m'.joint = moved m m' alike in
    joint_agrees m m'.joint alike.joint blind (shapes ∙ ap (λ (x : Moment). shape_of_step x) e)
    ∙ ap (λ (x : Moment). veiled_turn (joint_step x)) (sym e)
