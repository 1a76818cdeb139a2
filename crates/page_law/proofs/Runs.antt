-- The steps of a run one after another, and its closing.
use Rattle.std.proofs.Common.{◌≡◌, ◌≤◌, ℕ, zero, suc, ◌+◌, List, [], ◌∷◌, length, take, slice_get, Option, Some, None, refl, subst, arith}
use Rattle.cloak_base.specs.declared.causes.Stop.{Stop}
use Rattle.cloak_model.specs.declared.image.Program.{Program}
use Rattle.cloak_model.specs.Beginning.{Beginning}
use Rattle.cloak_model.specs.Cloaking.{settle}
use Rattle.cloak_model.specs.Hart.{Hart}
use Rattle.cloak_model.specs.Joint.{Moment, Turn, joint_step, after_turn, stop_of, cloak_outside, hart_in}
use Rattle.cloak_model.specs.Cloaking.{CloakedMemory}
use Rattle.cloak_model.specs.Parts.{Joint}
use Rattle.cloak_model.specs.Run.{unless_stopped, turns_from, joint_after, settled_below, closing}
use Rattle.cloak_model.specs.World.{MidStep, cipher_items}
use Rattle.page_law.specs.Ciphers.{ciphers_of_steps}
use Rattle.kernel_isolation.proofs.Turns.{IsSteady, turn_is_alone}
use Rattle.page_law.proofs.Counts.{step_counts}
use Rattle.page_law.proofs.Draws.{HasDrawn, draw_behind, draw_behind_counts, AreShown, Draws, draws_same, draws_then}
use Rattle.page_law.proofs.Settlings.{settle_draws}
use Rattle.page_law.proofs.Turns.{TurnUses, step_uses}

-- each of these steps, from a joint machine on, shows pages as it found them
abbrev pub TurnsUse : ℕ → Joint → List Turn → Type 0
TurnsUse count j [] = Unit {0}
TurnsUse count j (t ∷ turns) = TurnUses count j t × TurnsUse count t.joint turns

behind_stop : (count : ℕ) (o : Option Stop) (later : Moment → List Turn) (m : Moment) →
    TurnsUse count m.joint (later m) → TurnsUse count m.joint (unless_stopped o later m)
behind_stop count None later m all = all
behind_stop count (Some cause) later m all = tt

pub turns_use : {count : ℕ} (budget : ℕ) (m : Moment) → IsSteady m.joint → length m.joint.domains ≤ count →
    TurnsUse count m.joint (turns_from budget m)
unfolding turns_from
turns_use zero m steady few = tt
turns_use {count} (suc n) m steady few =
    let t : Turn = joint_step m in
    let as_many = step_counts m in (
      step_uses m (record { programs = steady.programs; few = few }),
      behind_stop count (stop_of t) (turns_from n) (after_turn m t)
          (turns_use n (after_turn m t) (turn_is_alone m steady).steady (omega (arith, as_many, few))),
    )

-- the number of the next draw after steps
abbrev pub behind_steps : List Turn → ℕ → ℕ
behind_steps [] n = n
behind_steps (t ∷ turns) n = behind_steps turns (draw_behind t.items n)

pub steps_count : (turns : List Turn) (n : ℕ) → behind_steps turns n ≡ n + ciphers_of_steps turns
steps_count [] n = omega arith
steps_count (t ∷ turns) n =
    let rest = steps_count turns (draw_behind t.items n) in
    let one = draw_behind_counts t.items n in
    omega (arith, rest, one)

pub drawn_behind : {count : ℕ} (programs : List Program) (from : Beginning) (k n : ℕ) (j : Joint) (turns : List Turn) →
    TurnsUse count j turns → HasDrawn count programs from k j.memory.ledger →
    HasDrawn count programs from (behind_steps (take n turns) k) (joint_after j (take n turns)).memory.ledger
unfolding joint_after
drawn_behind programs from k zero j turns all has = has
drawn_behind programs from k (suc n) j [] all has = has
drawn_behind programs from k (suc n) j (t ∷ turns) all has =
    drawn_behind programs from (draw_behind t.items k) n t.joint turns all.1 (all.0.drawn programs from k has)

pub step_shown : {count : ℕ} (programs : List Program) (from : Beginning) (k n : ℕ) (j : Joint) (turns : List Turn)
    (t : Turn) → TurnsUse count j turns → HasDrawn count programs from k j.memory.ledger →
    slice_get turns n ≡ Some t →
    AreShown programs from (joint_after j (take n turns)).memory.plain (behind_steps (take n turns) k) t.items
unfolding joint_after
step_shown programs from k zero j [] t all has is = absurd cc
step_shown programs from k (suc n) j [] t all has is = absurd cc
step_shown programs from k zero j (x ∷ turns) t all has is =
    let same : x ≡ t = cc in
    subst (λ (y : Turn). AreShown programs from j.memory.plain k y.items) same (all.0.shown programs from k has)
step_shown programs from k (suc n) j (x ∷ turns) t all has is =
    step_shown programs from (draw_behind x.items k) n x.joint turns t all.1 (all.0.drawn programs from k has) is

-- The closing.

pub below_draws : {count : ℕ} (n : ℕ) (m : CloakedMemory) (h : Hart) → let c = settled_below n (cloak_outside m h) in
    Draws count m c.items c.memory
unfolding settled_below
below_draws zero m h = draws_same m m refl refl
below_draws (suc n) m h =
    let c : MidStep = settled_below n (cloak_outside m h) in
    draws_then m c.memory _ c.items (cipher_items (settle n c.memory).ciphers) (below_draws n m h)
    (settle_draws n c.memory)

pub closing_shown : {count : ℕ} (programs : List Program) (from : Beginning) (k : ℕ) (j : Joint) →
    HasDrawn count programs from k j.memory.ledger → AreShown programs from j.memory.plain k (closing j).items
unfolding closing
closing_shown programs from k j has =
    (below_draws (length j.memory.ram) j.memory (hart_in j 0)).shown programs from k has

pub closing_drawn : {count : ℕ} (programs : List Program) (from : Beginning) (k : ℕ) (j : Joint) →
    HasDrawn count programs from k j.memory.ledger →
    HasDrawn count programs from (draw_behind (closing j).items k) (closing j).joint.memory.ledger
unfolding closing
closing_drawn programs from k j has =
    (below_draws (length j.memory.ram) j.memory (hart_in j 0)).drawn programs from k has
