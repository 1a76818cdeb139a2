-- The counts of the steps of a run, one after another.
use Rattle.std.proofs.Common.{◌≡◌, ◌<◌, ℕ, ◌+◌, ◌-◌, List, [], ◌∷◌, ◌++◌, length, take}
use Rattle.std.proofs.Common.{sym, ◌∙◌, ap, subst, append_assoc, length-append, arith, Option, Some}
use Rattle.std.proofs.Math.Seq.{take-append_seam}
use Rattle.std.proofs.lemmas.List.{append-nil}
use Rattle.cloak_base.specs.declared.causes.Stop.{Stop}
use Rattle.cloak_model.specs.declared.image.Bundle.{Bundle}
use Rattle.cloak_model.specs.Joint.{Moment, Turn, joint_step, after_turn, stop_of}
use Rattle.cloak_model.specs.Opening.{RunEdge}
use Rattle.cloak_model.specs.Run.{first_moment, turns_from, unless_stopped}
use Rattle.cloak_machine.specs.Counting.{CountsAccesses}
use Rattle.cloak_machine.specs.declared.machine.Machine.{Machine}
use Rattle.run_command.proofs.StepFacts.{GoesOn}
use Rattle.run_command.proofs.RunFacts.{turns_from-next, turns_from-none}
use Rattle.shadow_fold.specs.declared.entry.ShadowCounts.{ShadowCounts}
use Rattle.shadow_fold.specs.Events.{after_step, after_turns, counts_of}
use Rattle.shadow_fold.specs.Fold.{Fold, fresh_fold}
use Rattle.record_law.specs.Steps.{moment_after}
use Rattle.thaw_law.proofs.TwoParts.{after_none, after_one}

-- the fold after one more step
after_turns-last : (m : Moment) (ts : List Turn) (t : Turn) (s : Fold) →
    after_turns m (ts ++ t ∷ []) s ≡ after_step (moment_after m ts) (after_turns m ts s)
unfolding after_turns
after_turns-last m [] t s = ap (λ (x : Moment). after_step x s) (sym (after_none m))
after_turns-last m (u ∷ ts) t s =
    after_turns-last (after_turn m u) ts t (after_step m s)
    ∙ ap (λ (x : Moment). after_step x (after_turns (after_turn m u) ts (after_step m s))) (after_one m u ts)

-- the front of this length
take_front : (xs ys : List Turn) (n : ℕ) → length xs ≡ n → take n (xs ++ ys) ≡ xs
take_front xs ys n long = ap (λ (k : ℕ). take k (xs ++ ys)) (sym long) ∙ take-append_seam xs ys

-- the steps that were made are the first of all
made_is : (machine : Machine) (n budget : ℕ) (m : Moment) (on : GoesOn machine n budget m) →
    take n (turns_from budget m) ≡ on.made
made_is machine n budget m on =
    ap (λ (ts : List Turn). take n ts) on.left
    ∙ take_front on.made (turns_from (budget - n) (moment_after m on.made)) n on.count

-- and the next step follows them
left_next : (machine : Machine) (n budget : ℕ) (m : Moment) (on : GoesOn machine n budget m) → n < budget →
    let here = moment_after m on.made in
    let t = joint_step here in
    turns_from budget m
    ≡ (on.made ++ t ∷ []) ++ unless_stopped (stop_of t) (turns_from (budget - (n + 1))) (after_turn here t)
left_next machine n budget m on within =
    let here = moment_after m on.made in
    let t = joint_step here in
    on.left
    ∙ ap (λ (ts : List Turn). on.made ++ ts) (turns_from-next n budget here within)
    ∙ sym (append_assoc on.made (t ∷ [])
    (unless_stopped (stop_of t) (turns_from (budget - (n + 1))) (after_turn here t)))

-- no step yet
pub counts-start : (machine : Machine) (budget : ℕ) (m : Moment) (s : Fold) → CountsAccesses machine s →
    CountsAccesses machine (after_turns m (take 0 (turns_from budget m)) s)
unfolding after_turns
counts-start machine budget m s counts =
    subst (λ (ts : List Turn). CountsAccesses machine (after_turns m ts s)) (sym (take-append_seam [] (turns_from budget m)))
    counts

-- the counts after the next step
counts_behind : (old new : Machine) (n budget : ℕ) (m : Moment) (s : Fold) (on : GoesOn old n budget m) →
    CountsAccesses old (after_turns m (take n (turns_from budget m)) s) →
    ((x : Fold) → CountsAccesses old x → CountsAccesses new (after_step (moment_after m on.made) x)) →
    CountsAccesses new (after_turns m (on.made ++ joint_step (moment_after m on.made) ∷ []) s)
counts_behind old new n budget m s on counts step =
    subst (λ (x : Fold). CountsAccesses new x) (sym (after_turns-last m on.made (joint_step (moment_after m on.made)) s))
    (step (after_turns m on.made s)
    (subst (λ (ts : List Turn). CountsAccesses old (after_turns m ts s)) (made_is old n budget m on) counts))

pub counts-more : (old new : Machine) (n budget : ℕ) (m : Moment) (s : Fold) (on : GoesOn old n budget m) →
    n < budget → CountsAccesses old (after_turns m (take n (turns_from budget m)) s) →
    ((x : Fold) → CountsAccesses old x → CountsAccesses new (after_step (moment_after m on.made) x)) →
    CountsAccesses new (after_turns m (take (n + 1) (turns_from budget m)) s)
counts-more old new n budget m s on within counts step =
    let here = moment_after m on.made in
    let t = joint_step here in
    let rest = unless_stopped (stop_of t) (turns_from (budget - (n + 1))) (after_turn here t) in
    let front : take (n + 1) (turns_from budget m) ≡ on.made ++ t ∷ [] =
    ap (λ (ts : List Turn). take (n + 1) ts) (left_next old n budget m on within)
    ∙ take_front (on.made ++ t ∷ []) rest (n + 1)
    (let long = length-append on.made (t ∷ []) in let so_far = on.count in omega (arith, long, so_far)) in
    subst (λ (ts : List Turn). CountsAccesses new (after_turns m ts s)) (sym front)
    (counts_behind old new n budget m s on counts step)

-- after a step that stopped the run there is none
pub counts-stopped : (old new : Machine) (given : Option Stop) (cause : Stop) (n budget : ℕ) (m : Moment) (s : Fold)
    (on : GoesOn old n budget m) → given ≡ stop_of (joint_step (moment_after m on.made)) → given ≡ Some cause →
    n < budget → CountsAccesses old (after_turns m (take n (turns_from budget m)) s) →
    ((x : Fold) → CountsAccesses old x → CountsAccesses new (after_step (moment_after m on.made) x)) →
    CountsAccesses new (after_turns m (turns_from budget m) s)
counts-stopped old new given cause n budget m s on answer stopped within counts step =
    let here = moment_after m on.made in
    let t = joint_step here in
    let all : turns_from budget m ≡ on.made ++ t ∷ [] =
    left_next old n budget m on within
    ∙ ap (λ (o : Option Stop). (on.made ++ t ∷ []) ++ unless_stopped o (turns_from (budget - (n + 1)))
    (after_turn here t)) (sym answer ∙ stopped)
    ∙ append-nil (on.made ++ t ∷ []) in
    subst (λ (ts : List Turn). CountsAccesses new (after_turns m ts s)) (sym all)
    (counts_behind old new n budget m s on counts step)

-- all steps of the budget
pub counts-all : (machine : Machine) (n budget : ℕ) (m : Moment) (s : Fold) (on : GoesOn machine n budget m) →
    n ≡ budget → CountsAccesses machine (after_turns m (take n (turns_from budget m)) s) →
    CountsAccesses machine (after_turns m (turns_from budget m) s)
counts-all machine n budget m s on whole counts =
    let all : turns_from budget m ≡ on.made =
    on.left ∙ ap (λ (ts : List Turn). on.made ++ ts)
    (turns_from-none n budget (moment_after m on.made) whole) ∙ append-nil on.made in
    subst (λ (ts : List Turn). CountsAccesses machine (after_turns m ts s)) (made_is machine n budget m on ∙ sym all) counts

-- the counts that a machine tells after all steps of a run
pub counts_told : (b : Bundle) (steps : ℕ) (o : RunEdge) (counts : ShadowCounts) →
    counts ≡ (after_turns (first_moment b o.joint) (turns_from steps (first_moment b o.joint))
    (fresh_fold (length o.joint.memory.ram))).table.counts → counts ≡ counts_of b steps o
unfolding counts_of
counts_told b steps o counts told = told
