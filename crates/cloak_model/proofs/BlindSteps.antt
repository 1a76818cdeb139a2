-- One step of two machines that are one under the veil.
use Rattle.std.proofs.Common.{◌≡◌, ◌∙◌, ℕ, List, [], ◌∷◌, map, Some, refl, sym, ap}
use Rattle.std.specs.Prelude.{◌++◌}
use Rattle.cloak_base.specs.declared.causes.Shown.{Shown}
use Rattle.cloak_model.specs.Items.{Item}
use Rattle.cloak_model.specs.Items as item
use Rattle.cloak_model.specs.declared.outcome.Kernel.{Kernel}
use Rattle.cloak_model.specs.declared.outcome.Kernel.TheVariants.{Stay, Put, Halt, Resume, Trapped}
use Rattle.cloak_model.specs.Csr.{satp_of}
use Rattle.cloak_model.specs.Hart.{Hart}
use Rattle.cloak_model.specs.Leaving.{leave}
use Rattle.cloak_model.specs.Cloaking.{CloakedMemory}
use Rattle.cloak_model.specs.World.{World, Flat, Cloaked, Alone, items_of, violation_of}
use Rattle.cloak_model.specs.Asking.{Told}
use Rattle.cloak_model.specs.HostCalls.{SteppedKernel}
use Rattle.cloak_model.specs.Ahead.{settled_step}
use Rattle.cloak_model.specs.DomainState.{Domain}
use Rattle.cloak_model.specs.Parts.{Joint}
use Rattle.cloak_model.specs.Resuming.{AfterResume}
use Rattle.cloak_model.specs.Joint.{Turn, quiet, hart_in, with_hart, cloak_outside, memory_of, after_kernel_step, outside_ended, after_outside, outside_step, left, without_mark}
use Rattle.cloak_model.specs.Veil.{veiled, IsBlind}
use Rattle.cloak_model.specs.VeilWorld.{veiled_world, veiled_told}
use Rattle.cloak_model.specs.BlindRuns.{veiled_domain, veiled_joint, veiled_turn}
use Rattle.cloak_model.proofs.VeilWorlds.{questions_are_veiled}
use Rattle.cloak_model.proofs.BlindResumes.{domains_twice, joint_twice, resume_veils}

-- A hart outside.

ended_veils : (j : Joint) (number : ℕ) (items : List Item) (e : Kernel) →
    veiled_turn (outside_ended (veiled_joint j) number items e) ≡ veiled_turn (outside_ended j number items e)
unfolding outside_ended
ended_veils j number items Stay = ap (λ (x : Joint). quiet x items) (joint_twice j)
ended_veils j number items Trapped = ap (λ (x : Joint). quiet x items) (joint_twice j)
ended_veils j number items (Put b) =
    ap (λ (x : Joint). let t : Turn = record (quiet x items) { console = b ∷ [] } in t) (joint_twice (record j { console = j.console ++ b ∷ [] }))
ended_veils j number items (Halt value) =
    ap (λ (x : Joint). let t : Turn = record (quiet x items) { halt = Some value } in t) (joint_twice j)
ended_veils j number items (Resume ctx reply) =
    ap (λ (r : AfterResume). let t : Turn = record (quiet r.joint (items ++ r.items)) { violation = r.violation } in t)
    (resume_veils j number (satp_of (hart_in j number).csrs) ctx reply)

pub items_veiled : (w : World) → items_of (veiled_world w) ≡ items_of w
items_veiled (Flat seen) = refl
items_veiled (Cloaked c) = refl
items_veiled (Alone h) = refl

pub violation_veiled : (w : World) → violation_of (veiled_world w) ≡ violation_of w
violation_veiled (Flat seen) = refl
violation_veiled (Cloaked c) = refl
violation_veiled (Alone h) = refl

pub memory_veiled : (w : World) (m : CloakedMemory) → veiled (memory_of w (veiled m)) ≡ veiled (memory_of (veiled_world w) m)
memory_veiled (Flat seen) m = refl
memory_veiled (Cloaked c) m = refl
memory_veiled (Alone h) m = refl

pub memory_same : (w : World) (m : CloakedMemory) → veiled (memory_of (veiled_world w) m) ≡ veiled (memory_of w m)
memory_same (Flat seen) m = refl
memory_same (Cloaked c) m = refl
memory_same (Alone h) m = refl

-- the machine after a hart's step told this, with this memory and these domains
abbrev stepped : Joint → ℕ → Told SteppedKernel → CloakedMemory → List Domain → Joint
stepped j number told m ds =
    record (with_hart number told.answer.hart j) { disk = told.answer.disk; memory = m; domains = ds }

abbrev ended : Joint → ℕ → Told SteppedKernel → CloakedMemory → List Domain → List Item → Turn
ended j number told m ds items = veiled_turn (outside_ended (stepped j number told m ds) number items told.answer.ending)

after_outside_veils : (j : Joint) (number : ℕ) (told told' : Told SteppedKernel) → veiled_told told' ≡ veiled_told told →
    veiled_turn (after_outside (veiled_joint j) number told') ≡ veiled_turn (after_outside j number told)
unfolding after_outside
after_outside_veils j number told told' e =
    sym (ended_veils (after_kernel_step (veiled_joint j) number told') number (items_of told'.world) told'.answer.ending)
    ∙ (ap (λ (ds : List Domain). ended j number told' (veiled (memory_of told'.world (veiled j.memory))) ds (items_of told'.world)) (domains_twice j.domains)
    ∙ (ap (λ (m : CloakedMemory). ended j number told' m (map veiled_domain j.domains) (items_of told'.world)) (memory_veiled told'.world j.memory)
    ∙ (ap (λ (items : List Item). ended j number told' (veiled (memory_of (veiled_world told'.world) j.memory)) (map veiled_domain j.domains) items) (sym (items_veiled told'.world))
    ∙ (ap (λ (t : Told SteppedKernel). ended j number t (veiled (memory_of t.world j.memory)) (map veiled_domain j.domains) (items_of t.world)) e
    ∙ (ap (λ (items : List Item). ended j number told (veiled (memory_of (veiled_world told.world) j.memory)) (map veiled_domain j.domains) items) (items_veiled told.world)
    ∙ (ap (λ (m : CloakedMemory). ended j number told m (map veiled_domain j.domains) (items_of told.world)) (memory_same told.world j.memory)
    ∙ ended_veils (after_kernel_step j number told) number (items_of told.world) told.answer.ending))))))

pub outside_veils : (j : Joint) (number : ℕ) (h : Hart) → IsBlind j.memory.ledger.keys.seal →
    veiled_turn (outside_step (veiled_joint j) number h) ≡ veiled_turn (outside_step j number h)
unfolding outside_step
outside_veils j number h blind =
    after_outside_veils j number (settled_step h j.disk (cloak_outside j.memory h)) (settled_step h j.disk (cloak_outside (veiled j.memory) h))
    (questions_are_veiled.steps h j.disk (cloak_outside j.memory h) blind)

-- A hart leaves.

pub left_veils : (j : Joint) (number : ℕ) (h : Hart) (items : List Item) (s : Shown) →
    veiled_turn (left (veiled_joint j) number h items s) ≡ veiled_turn (left j number h items s)
left_veils j number h items s =
    ap (λ (x : Joint). quiet x (items ++ item.Leave s ∷ []))
    (joint_twice (with_hart number (leave h s) (record j { memory = without_mark number j.memory })))
