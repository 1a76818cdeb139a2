-- A run in two parts.
use Rattle.std.proofs.Common.{◌≡◌, ◌∙◌, ℕ, zero, suc, ◌+◌, List, [], ◌∷◌, ◌++◌, length, append_assoc, Option, Some, None, refl, sym, ap, arith}
use Rattle.std.proofs.lemmas.List.{append-nil}
use Rattle.cloak_base.specs.declared.causes.Stop.{Stop}
use Rattle.cloak_model.specs.Joint.{Moment, Turn, joint_step, after_turn, stop_of}
use Rattle.cloak_model.specs.Parts.{Joint}
use Rattle.cloak_model.specs.Run.{unless_stopped, turns_from, joint_after, last_stop}
use Rattle.record_law.proofs.Pieces.{joint_after-append, last_stop-append}
use Rattle.thaw_law.specs.TwoParts.{RunsGoOn, StoppedRunsStay}
use Rattle.record_law.specs.Steps.{moment_after}

-- the moment after no step, and after one and others
pub after_none : (m : Moment) → moment_after m [] ≡ m
unfolding joint_after
after_none m i = record m { steps = (let e : m.steps + 0 ≡ m.steps = omega arith in e) i }

pub after_one : (m : Moment) (t : Turn) (turns : List Turn) →
    moment_after (after_turn m t) turns ≡ moment_after m (t ∷ turns)
unfolding joint_after
after_one m t turns i = record {
  schedule = m.schedule;
  steps = (let e : m.steps + 1 + length turns ≡ m.steps + suc (length turns) = omega arith in e) i;
  joint = joint_after t.joint turns;
}

-- k steps more, unless the last of these stopped the run
abbrev more : Option Stop → ℕ → Moment → List Turn → List Turn
more so_far k m turns = unless_stopped (last_stop so_far turns) (turns_from k) (moment_after m turns)

abbrev InParts : ℕ → ℕ → Moment → Type 0
InParts n k m = turns_from (n + k) m ≡ turns_from n m ++ more None k m (turns_from n m)

after_first : (stop : Option Stop) (n k : ℕ) (m : Moment) → InParts n k m →
    unless_stopped stop (turns_from (n + k)) m
    ≡ unless_stopped stop (turns_from n) m ++ more stop k m (unless_stopped stop (turns_from n) m)
unfolding last_stop
after_first None n k m rest = rest
after_first (Some cause) n k m rest = refl

in_parts : (n k : ℕ) (m : Moment) → InParts n k m
unfolding turns_from last_stop
in_parts zero k m =
    (λ i. turns_from ((let e : 0 + k ≡ k = omega arith in e) i) (sym (after_none m) i))
in_parts (suc n) k m =
    let t = joint_step m in
    let next = after_turn m t in
    let rest = unless_stopped (stop_of t) (turns_from n) next in
    ap (λ count. turns_from count m) (let e : suc n + k ≡ suc (n + k) = omega arith in e)
    ∙ ap (λ (turns : List Turn). t ∷ turns) (after_first (stop_of t) n k next (in_parts n k next))
    ∙ ap (λ (now : Moment). t ∷ (rest ++ unless_stopped (last_stop (stop_of t) rest) (turns_from k) now))
    (after_one m t rest)

-- as many as the budget, unless one stopped the run
count_next : (stop : Option Stop) (n : ℕ) (m : Moment) → last_stop stop (unless_stopped stop (turns_from n) m) ≡ None →
    (last_stop None (turns_from n m) ≡ None → length (turns_from n m) ≡ n) →
    length (unless_stopped stop (turns_from n) m) ≡ n
unfolding last_stop
count_next None n m on rest = rest on
count_next (Some cause) n m on rest = absurd cc

count : (n : ℕ) (m : Moment) → last_stop None (turns_from n m) ≡ None → length (turns_from n m) ≡ n
unfolding turns_from last_stop
count zero m on = refl
count (suc n) m on =
    let t = joint_step m in
    ap suc (count_next (stop_of t) n (after_turn m t) on (count n (after_turn m t)))

pub runs_go_on : RunsGoOn
runs_go_on n k m on = record {
  count = count n m on;
  turns = in_parts n k m
      ∙ ap (λ (stop : Option Stop). turns_from n m
      ++ unless_stopped stop (turns_from k) (moment_after m (turns_from n m))) on;
}

pub stopped_runs_stay : StoppedRunsStay
stopped_runs_stay n k m cause over =
    in_parts n k m
    ∙ ap (λ (stop : Option Stop). turns_from n m
    ++ unless_stopped stop (turns_from k) (moment_after m (turns_from n m))) over
    ∙ append-nil (turns_from n m)
