-- Runs agree, since steps do.
use Rattle.std.proofs.Common.{◌≡◌, ◌∙◌, ℕ, zero, suc, ◌+◌, ◌<◌, List, ◌∷◌, map, length, Option, Some, None, refl, sym, ap, subst, arith}
use Rattle.cloak_base.specs.declared.causes.Stop.{Stop}
use Rattle.cloak_model.specs.Joint.{Moment, Turn, joint_step, after_turn, stop_of}
use Rattle.cloak_model.specs.Run.{turns_from, unless_stopped}
use Rattle.cloak_model.specs.Veil.{IsBlind}
use Rattle.cloak_model.specs.BlindRuns.{veiled_turn, moment_on, HaveOneShape, BlindTurnsAgree, shape_of_step}
use Rattle.cloak_model.proofs.SealStays.{seal_stays}
use Rattle.cloak_model.proofs.BlindEnds.{blind_steps_agree}

-- what follows a step, which had this shape unless the run stopped
later : (s : Option Stop) (n : ℕ) (m m' : Moment) →
    (((k : ℕ) → k < length (unless_stopped s (turns_from n) m) → shape_of_step (moment_on k m) ≡ shape_of_step (moment_on k m'))) →
    (HaveOneShape n m m' → map veiled_turn (turns_from n m) ≡ map veiled_turn (turns_from n m')) →
    map veiled_turn (unless_stopped s (turns_from n) m) ≡ map veiled_turn (unless_stopped s (turns_from n) m')
later (Some cause) n m m' same rest = refl
later None n m m' same rest = rest same

pub turns_agree : BlindTurnsAgree
unfolding turns_from moment_on
turns_agree zero m m' alike blind same = refl
turns_agree (suc n) m m' alike blind same =
    let t : Turn = joint_step m in
    let t' : Turn = joint_step m' in
    let step : veiled_turn t ≡ veiled_turn t' = blind_steps_agree m m' alike blind (same 0 (omega arith)) in
    let rest : HaveOneShape n (after_turn m t) (after_turn m' t') →
    map veiled_turn (turns_from n (after_turn m t)) ≡ map veiled_turn (turns_from n (after_turn m' t')) = λ shapes.
    turns_agree n (after_turn m t) (after_turn m' t') (record {
      schedule = alike.schedule;
      steps = ap (λ (k : ℕ). k + 1) alike.steps;
      joint = ap (λ (x : Turn). x.joint) step;
    }) (subst IsBlind (sym (seal_stays m)) blind) shapes in
    ap (λ (x : Turn). x ∷ map veiled_turn (unless_stopped (stop_of t) (turns_from n) (after_turn m t))) step
    ∙ (ap (λ (xs : List Turn). veiled_turn t' ∷ xs) (later (stop_of t) n (after_turn m t) (after_turn m' t') (λ k few. same (suc k) (omega arith)) rest)
    ∙ ap (λ (x : Turn). veiled_turn t' ∷ map veiled_turn (unless_stopped (stop_of x) (turns_from n) (after_turn m' t'))) step)
