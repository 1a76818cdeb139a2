-- What holds of harts, reservations and frames at every moment of a run.
use Rattle.std.proofs.Common.{◌≡◌, ◌∙◌, ◌<◌, ◌⊎◌, ℕ, ◌%◌, List, length, Option, Some, None, inl, inr, refl, sym, subst}
use Rattle.std.proofs.lemmas.Bool.{cases_lt}
use Rattle.std.proofs.lemmas.List.{get_or_past}
use Rattle.cloak_model.specs.Csr.{interrupt_due}
use Rattle.cloak_model.specs.Cloaking.{seen_in}
use Rattle.cloak_model.specs.Hart.{Hart, started}
use Rattle.cloak_model.specs.Joint.{Moment, Turn, next_hart, hart_in, joint_step}
use Rattle.cloak_model.specs.KernelStep.{ticked}
use Rattle.cloak_model.specs.Memory.{Seen, mark_of}
use Rattle.cloak_model.specs.Parts.{Joint}
use Rattle.cloak_model.specs.Walk.{walk}
use Rattle.kernel_isolation.proofs.Turns.{IsSteady, turn_is_alone}
use Rattle.reservation_law.specs.Deeds.{Idle, deed_of}
use Rattle.reservation_law.specs.Writes.{outside_deed}
use Rattle.reservation_law.proofs.Keeping.{AreWhole}
use Rattle.cloak_model.proofs.SealStays.{seal_stays}
use Rattle.reservation_law.proofs.Sizes.{IsChained}
use Rattle.reservation_law.proofs.Turns.{TurnDoes, step_done}

-- A hart that does not exist does nothing: no memory lies where it begins.

idle_started : (seen : Seen) (disk : List ℕ) → deed_of (started 0 0) seen disk ≡ Idle
unfolding deed_of started ticked interrupt_due walk
idle_started seen disk = refl

none_inside : (started 0 0).inside ≡ None
unfolding started
none_inside = refl

idle_past : (j : Joint) (inside : Option ℕ) → inside ≡ None → outside_deed j (started 0 0) inside ≡ Idle
idle_past j None is = idle_started _ j.disk
idle_past j (Some ctx) is = refl

-- At every moment each hart has its number, each reservation is of a word, each frame has its 4096 bytes, and pages
-- are sealed by chained AES.
pub record IsOrderly (j : Joint) : Type 0 where
  pub steady : IsSteady j
  pub ids : (k : ℕ) → k < length j.harts → (hart_in j k).id ≡ k
  pub words : (k pa : ℕ) → mark_of k j.memory.marks ≡ Some pa → pa % 4 ≡ 0
  pub whole : AreWhole j.memory.ram
  pub chained : IsChained j.memory

own_hart : (j : Joint) (number : ℕ) → IsOrderly j → let h = hart_in j number in
    (outside_deed j h h.inside ≡ Idle) ⊎ (h.id ≡ number)
own_hart j number orderly = elim (cases_lt number (length j.harts)) [
  | inl there ↦ inr (orderly.ids number there)
  | inr past ↦
      let none : hart_in j number ≡ started 0 0 = get_or_past j.harts number (started 0 0) past in
      inl (subst (λ (h : Hart). outside_deed j h h.inside ≡ Idle) (sym none) (idle_past j
      (started 0 0).inside none_inside))
]

-- a step does what its deed and its items say
pub step_does : (m : Moment) → IsOrderly m.joint → let h = hart_in m.joint (next_hart m) in let t = joint_step m in
    TurnDoes (outside_deed m.joint h h.inside) (next_hart m) m.joint.harts (seen_in
    m.joint.memory) t.items t.joint.harts
    (seen_in t.joint.memory)
step_does m orderly = step_done m orderly.steady.places orderly.chained (own_hart m.joint (next_hart m) orderly)

pub step_orderly : (m : Moment) → IsOrderly m.joint → IsOrderly (joint_step m).joint
step_orderly m orderly =
    let h = hart_in m.joint (next_hart m) in
    let deed = outside_deed m.joint h h.inside in
    let t : Turn = joint_step m in
    let does = step_does m orderly in
    record {
      steady = (turn_is_alone m orderly.steady).steady;
      ids = λ k less. does.ids k ∙ orderly.ids k (subst (λ (n : ℕ). k < n) does.count less);
      words = λ k pa is. elim (does.marks k pa is) [
        | inl made ↦ made.2
        | inr there ↦ orderly.words k pa there.0
      ];
      whole = does.whole orderly.whole;
      chained = seal_stays m ∙ orderly.chained;
    }
