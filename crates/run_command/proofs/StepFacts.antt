-- The steps of a run, one after another.
use Rattle.std.proofs.Common.{◌≡◌, ◌<◌, ℕ, ◌+◌, ◌-◌, List, [], ◌∷◌, ◌++◌, length}
use Rattle.std.proofs.Common.{refl, sym, ◌∙◌, ap, subst, append_assoc, length-append, arith, Option, Some, None}
use Rattle.std.proofs.lemmas.List.{append-nil}
use Rattle.cloak_base.specs.declared.causes.Stop.{Stop}
use Rattle.cloak_model.specs.Joint.{Moment, Turn, joint_step, after_turn, stop_of}
use Rattle.cloak_model.specs.Run.{unless_stopped, turns_from, joint_after, last_stop}
use Rattle.cloak_machine.specs.declared.machine.Machine.{Machine}
use Rattle.cloak_machine.specs.Standing.{StandsForMoment}
use Rattle.run_command.specs.Running.{MadeAll}
use Rattle.cloak_model.specs.Run.{NoClashYet}
use Rattle.run_command.proofs.RunFacts.{last_stop-last, behind_last, turns_from-next, turns_from-none, next_unclashed}
use Rattle.record_law.specs.Steps.{moment_after}
use Rattle.thaw_law.proofs.TwoParts.{after_none}

-- Steps after steps.

-- These steps were made, none stopped the run, the machine stands after them, and those that are left follow.
pub record GoesOn (machine : Machine) (n budget : ℕ) (m : Moment) : Type 0 where
  pub made : List Turn
  pub count : length made ≡ n
  pub on : last_stop None made ≡ None
  pub stands : StandsForMoment machine (moment_after m made)
  pub left : turns_from budget m ≡ made ++ turns_from (budget - n) (moment_after m made)

-- no step yet
pub goes_on-start : (machine : Machine) (budget : ℕ) (m : Moment) → StandsForMoment machine m →
    GoesOn machine 0 budget m
unfolding last_stop
goes_on-start machine budget m stands = record {
  made = [];
  count = refl;
  on = refl;
  stands = subst (λ (x : Moment). StandsForMoment machine x) (sym (after_none m)) stands;
  left = (λ i. turns_from ((let same : budget ≡ budget - 0 = omega arith in same) i) (sym (after_none m) i));
}

-- What one more step results in, by why it stopped the run.
record IsMade (machine : Machine) (n budget : ℕ) (m : Moment) (given : Option Stop) : Type 0 where
  made : List Turn
  now : Moment
  now_is : now ≡ moment_after m made
  count : length made ≡ n + 1
  last : last_stop None made ≡ given
  stands : StandsForMoment machine now
  left : turns_from budget m ≡ made ++ unless_stopped given (turns_from (budget - (n + 1))) now

is_made : (old new : Machine) (given : Option Stop) (n budget : ℕ) (m : Moment) (on : GoesOn old n budget m) →
    given ≡ stop_of (joint_step (moment_after m on.made)) →
    StandsForMoment new (after_turn (moment_after m on.made) (joint_step (moment_after m on.made))) → n < budget →
    IsMade new n budget m given
is_made old new given n budget m on answer stands within =
    let here = moment_after m on.made in
    let t = joint_step here in
    record {
      made = on.made ++ t ∷ [];
      now = after_turn here t;
      now_is = behind_last m on.made t;
      count = (let long = length-append on.made (t ∷ []) in let so_far = on.count in omega (arith, long, so_far));
      last = last_stop-last None on.made t ∙ sym answer;
      stands = stands;
      left =
          on.left
          ∙ ap (λ (ts : List Turn). on.made ++ ts) (turns_from-next n budget here within)
          ∙ sym (append_assoc on.made (t ∷ [])
          (unless_stopped (stop_of t) (turns_from (budget - (n + 1))) (after_turn here t)))
          ∙ ap (λ (o : Option Stop). (on.made ++ t ∷ []) ++ unless_stopped o (turns_from (budget - (n + 1)))
          (after_turn here t)) (sym answer);
    }

pub unclashed-next : (machine : Machine) (n budget : ℕ) (m : Moment) (on : GoesOn machine n budget m) → n < budget →
    NoClashYet (joint_after m.joint (turns_from budget m)) → NoClashYet (joint_step (moment_after m on.made)).joint
unclashed-next machine n budget m on within none = next_unclashed n budget m on.made on.left within none

-- one step more that does not stop the run
goes_on-made : (new : Machine) (n budget : ℕ) (m : Moment) (given : Option Stop) → given ≡ None →
    IsMade new n budget m given → GoesOn new (n + 1) budget m
goes_on-made new n budget m given goes made = record {
  made = made.made;
  count = made.count;
  on = made.last ∙ goes;
  stands = subst (λ (x : Moment). StandsForMoment new x) made.now_is made.stands;
  left =
      made.left
      ∙ ap (λ (o : Option Stop). made.made ++ unless_stopped o (turns_from (budget - (n + 1))) made.now) goes
      ∙ ap (λ (x : Moment). made.made ++ turns_from (budget - (n + 1)) x) made.now_is;
}

pub goes_on-more : (old new : Machine) (given : Option Stop) (n budget : ℕ) (m : Moment)
    (on : GoesOn old n budget m) → given ≡ stop_of (joint_step (moment_after m on.made)) →
    StandsForMoment new (after_turn (moment_after m on.made) (joint_step (moment_after m on.made))) → n < budget →
    given ≡ None → GoesOn new (n + 1) budget m
goes_on-more old new given n budget m on answer stands within goes =
    goes_on-made new n budget m given goes (is_made old new given n budget m on answer stands within)

-- one step more that stops the run
stops-made : (new : Machine) (n budget : ℕ) (m : Moment) (given : Option Stop) (cause : Stop) → given ≡ Some cause →
    IsMade new n budget m given → MadeAll new (Some cause) m (turns_from budget m)
stops-made new n budget m given cause stopped made =
    let all : turns_from budget m ≡ made.made =
    made.left
    ∙ ap (λ (o : Option Stop). made.made ++ unless_stopped o (turns_from (budget - (n + 1))) made.now) stopped
    ∙ append-nil made.made in
    subst (λ (ts : List Turn). MadeAll new (Some cause) m ts) (sym all) (record {
      last = sym stopped ∙ sym made.last;
      stands = subst (λ (x : Moment). StandsForMoment new x) made.now_is made.stands;
    })

pub stops-more : (old new : Machine) (given : Option Stop) (cause : Stop) (n budget : ℕ) (m : Moment)
    (on : GoesOn old n budget m) → given ≡ stop_of (joint_step (moment_after m on.made)) →
    StandsForMoment new (after_turn (moment_after m on.made) (joint_step (moment_after m on.made))) →
    given ≡ Some cause → n < budget → MadeAll new (Some cause) m (turns_from budget m)
stops-more old new given cause n budget m on answer stands stopped within =
    stops-made new n budget m given cause stopped (is_made old new given n budget m on answer stands within)

-- all steps of the budget, of which none stopped the run
pub runs-all : (machine : Machine) (budget n : ℕ) (m : Moment) → GoesOn machine n budget m → n ≡ budget →
    MadeAll machine None m (turns_from budget m)
runs-all machine budget n m on whole =
    let all : turns_from budget m ≡ on.made =
    on.left ∙ ap (λ (ts : List Turn). on.made ++ ts)
    (turns_from-none n budget (moment_after m on.made) whole) ∙ append-nil on.made in
    subst (λ (ts : List Turn). MadeAll machine None m ts) (sym all)
    (record { last = sym on.on; stands = on.stands })
