-- The steps of a run, one after another, and its end.
use Rattle.std.proofs.Common.{◌≡◌, ◌<◌, ℕ, suc, ◌+◌, ◌-◌, Bool, true, false, List, [], ◌∷◌, ◌++◌, length}
use Rattle.std.proofs.Common.{refl, sym, ◌∙◌, ap, subst, append_assoc, length-append, arith, Option, Some, None}
use Rattle.std.specs.Prelude.{unwrap_or, codes}
use Rattle.std.proofs.lemmas.List.{append-nil}
use Rattle.cloak_base.specs.declared.causes.Stop.{Stop}
use Rattle.cloak_base.specs.declared.causes.Stop.TheVariants as stop
use Rattle.cloak_model.specs.declared.image.Bundle.{Bundle}
use Rattle.cloak_model.specs.Exchange.{Piece, recorded, shown, record_magic, item_pieces, Emits}
use Rattle.cloak_model.specs.Opening.{RunEdge}
use Rattle.cloak_model.specs.Parts.{Joint}
use Rattle.cloak_model.specs.Report.{report}
use Rattle.cloak_model.specs.Joint.{Moment, Turn, joint_step, after_turn, stop_of}
use Rattle.cloak_model.specs.Run.{unless_stopped, turns_from, joint_after, last_stop, turn_pieces, turns_pieces}
use Rattle.cloak_model.specs.Run.{any_refused, closing, cause_of, first_moment, run_of, due}
use Rattle.cloak_machine.specs.declared.machine.Machine.{Machine}
use Rattle.cloak_machine.specs.Standing.{StandsForMoment, ShowsOpening, MakesTurn, FinishesAs}
use Rattle.cloak_machine.specs.Ending.{end_is_refused, end_report}
use Rattle.cloak_machine.specs.declared.end.RunEnd.{RunEnd}
use Rattle.command_parts.specs.declared.status.Status.{Status}
use Rattle.run_command.specs.Running.{BeginsRun, RunsSteps, EndsRun, WritesRun, first_pieces, last_pieces, status_of}
use Rattle.cloak_model.specs.Run.{NoClashYet}
use Rattle.run_command.proofs.ClashFacts.{rest_unclashed, turns_unclashed}
use Rattle.record_law.proofs.Pieces.{joint_after-append, last_stop-append, turns_pieces-append}
use Rattle.cloak_model.proofs.Emitting.{emits_none, emits_then}
use Rattle.record_law.specs.Steps.{moment_after}
use Rattle.thaw_law.proofs.TwoParts.{after_none}

-- Steps after steps.

turns_pieces-last : (number : ℕ) (ts : List Turn) (t : Turn) →
    turns_pieces number ts ++ turn_pieces (number + length ts) t ≡ turns_pieces number (ts ++ t ∷ [])
unfolding turns_pieces
turns_pieces-last number ts t =
    ap (λ (ps : List Piece). turns_pieces number ts ++ ps) (sym (append-nil (turn_pieces (number + length ts) t)))
    ∙ sym (turns_pieces-append number ts (t ∷ []))

pub last_stop-last : (so_far : Option Stop) (ts : List Turn) (t : Turn) → last_stop so_far (ts ++ t ∷ []) ≡ stop_of t
unfolding last_stop
last_stop-last so_far ts t = last_stop-append so_far ts (t ∷ [])

pub behind_last : (m : Moment) (ts : List Turn) (t : Turn) →
    after_turn (moment_after m ts) t ≡ moment_after m (ts ++ t ∷ [])
unfolding joint_after
behind_last m ts t i = record {
  schedule = m.schedule;
  steps = (let long = length-append ts (t ∷ []) in let e : m.steps + length ts + 1 ≡ m.steps + length (ts ++ t ∷ []) =
      omega (arith, long) in e) i;
  joint = sym (joint_after-append m.joint ts (t ∷ [])) i;
}

-- the next of the steps that are left
pub turns_from-next : (n budget : ℕ) (m : Moment) → n < budget →
    turns_from (budget - n) m ≡ joint_step m ∷ unless_stopped (stop_of (joint_step m)) (turns_from (budget - (n + 1)))
    (after_turn m (joint_step m))
unfolding turns_from
turns_from-next n budget m within =
    ap (λ k. turns_from k m) (let e : budget - n ≡ suc (budget - (n + 1)) = omega (arith, within) in e)

pub turns_from-none : (n budget : ℕ) (m : Moment) → n ≡ budget → turns_from (budget - n) m ≡ []
unfolding turns_from
turns_from-none n budget m all = ap (λ k. turns_from k m) (let e : budget - n ≡ 0 = omega (arith, all) in e)

-- These steps were emitted, none stopped the run, the machine stands after them, and those that are left follow.
pub record GoesOn {E : Type 0} (gave : E → E → List Piece → Type 0) (e e' : E) (machine : Machine) (n budget : ℕ)
    (m : Moment) : Type 0 where
  pub made : List Turn
  pub count : length made ≡ n
  pub emits : Emits gave e e' (turns_pieces (suc m.steps) made)
  pub on : last_stop None made ≡ None
  pub stands : StandsForMoment machine (moment_after m made)
  pub left : turns_from budget m ≡ made ++ turns_from (budget - n) (moment_after m made)

-- the same pieces under another name
pub emits_as : {E : Type 0} {gave : E → E → List Piece → Type 0} {e f : E} {ps qs : List Piece} → ps ≡ qs →
    Emits gave e f ps → Emits gave e f qs
emits_as {E} {gave} {e} {f} {ps} {qs} same emits = subst (λ (pieces : List Piece). Emits gave e f pieces) same emits

-- no step yet
pub goes_on-start : {E : Type 0} (gave : E → E → List Piece → Type 0) (e : E) (machine : Machine) (budget : ℕ)
    (m : Moment) → StandsForMoment machine m → GoesOn gave e e machine 0 budget m
unfolding turns_pieces last_stop
goes_on-start gave e machine budget m stands = record {
  made = [];
  count = refl;
  emits = emits_none _ e;
  on = refl;
  stands = subst (λ (x : Moment). StandsForMoment machine x) (sym (after_none m)) stands;
  left = (λ i. turns_from ((let same : budget ≡ budget - 0 = omega arith in same) i) (sym (after_none m) i));
}

-- What one more step results in, by why it stopped the run.
record IsMade {E : Type 0} (gave : E → E → List Piece → Type 0) (e e' : E) (machine : Machine) (n budget : ℕ)
    (m : Moment) (given : Option Stop) : Type 0 where
  made : List Turn
  now : Moment
  now_is : now ≡ moment_after m made
  count : length made ≡ n + 1
  emits : Emits gave e e' (turns_pieces (suc m.steps) made)
  last : last_stop None made ≡ given
  stands : StandsForMoment machine now
  left : turns_from budget m ≡ made ++ unless_stopped given (turns_from (budget - (n + 1))) now

is_made : {E : Type 0} (gave : E → E → List Piece → Type 0) (e f h : E) (old new : Machine) (given : Option Stop)
    (n budget : ℕ) (m : Moment) (on : GoesOn gave e f old n budget m) →
    MakesTurn gave f h new given (moment_after m on.made) (joint_step (moment_after m on.made)) → n < budget →
    IsMade gave e h new n budget m given
is_made {E} gave e f h old new given n budget m on makes within =
    let here = moment_after m on.made in
    let t = joint_step here in
    record {
      made = on.made ++ t ∷ [];
      now = after_turn here t;
      now_is = behind_last m on.made t;
      count = (let long = length-append on.made (t ∷ []) in let so_far = on.count in omega (arith, long, so_far));
      emits = emits_as
          (ap (λ k. turns_pieces (suc m.steps) on.made ++ turn_pieces k t)
          (let e : m.steps + length on.made + 1 ≡ suc m.steps + length on.made = omega arith in e) ∙ turns_pieces-last
          (suc m.steps) on.made t)
          (emits_then on.emits makes.emits);
      last = last_stop-last None on.made t ∙ sym makes.answer;
      stands = makes.stands;
      left =
          on.left
          ∙ ap (λ (ts : List Turn). on.made ++ ts) (turns_from-next n budget here within)
          ∙ sym (append_assoc on.made (t ∷ [])
          (unless_stopped (stop_of t) (turns_from (budget - (n + 1))) (after_turn here t)))
          ∙ ap (λ (o : Option Stop). (on.made ++ t ∷ []) ++ unless_stopped o (turns_from (budget - (n + 1)))
          (after_turn here t)) (sym makes.answer);
    }

-- no clash after the steps that are left: none after the first of them
pub next_unclashed : (n budget : ℕ) (m : Moment) (made : List Turn) →
    turns_from budget m ≡ made ++ turns_from (budget - n) (moment_after m made) → n < budget →
    NoClashYet (joint_after m.joint (turns_from budget m)) →
    NoClashYet (joint_step (moment_after m made)).joint
unfolding joint_after
next_unclashed n budget m made left within none =
    let here = moment_after m made in
    let t = joint_step here in
    let rest = unless_stopped (stop_of t) (turns_from (budget - (n + 1))) (after_turn here t) in
    let behind : joint_after m.joint (turns_from budget m) ≡ joint_after t.joint rest =
    ap (λ (ts : List Turn). joint_after m.joint ts)
    (left ∙ ap (λ (ts : List Turn). made ++ ts) (turns_from-next n budget here within))
    ∙ joint_after-append m.joint made (t ∷ rest) in
    rest_unclashed (stop_of t) (turns_from (budget - (n + 1))) (after_turn here t)
    (turns_unclashed (budget - (n + 1)) (after_turn here t)) (subst NoClashYet behind none)

pub unclashed-next : {E : Type 0} (gave : E → E → List Piece → Type 0) (e f : E) (machine : Machine) (n budget : ℕ)
    (m : Moment) (on : GoesOn gave e f machine n budget m) → n < budget →
    NoClashYet (joint_after m.joint (turns_from budget m)) → NoClashYet (joint_step (moment_after m on.made)).joint
unclashed-next gave e f machine n budget m on within none = next_unclashed n budget m on.made on.left within none

-- one step more that does not stop the run
goes_on-made : {E : Type 0} (gave : E → E → List Piece → Type 0) (e h : E) (new : Machine) (n budget : ℕ) (m : Moment)
    (given : Option Stop) → given ≡ None →
    IsMade gave e h new n budget m given → GoesOn gave e h new (n + 1) budget m
goes_on-made {E} gave e h new n budget m given goes made = record {
  made = made.made;
  count = made.count;
  emits = made.emits;
  on = made.last ∙ goes;
  stands = subst (λ (x : Moment). StandsForMoment new x) made.now_is made.stands;
  left =
      made.left
      ∙ ap (λ (o : Option Stop). made.made ++ unless_stopped o (turns_from (budget - (n + 1))) made.now) goes
      ∙ ap (λ (x : Moment). made.made ++ turns_from (budget - (n + 1)) x) made.now_is;
}

pub goes_on-more : {E : Type 0} (gave : E → E → List Piece → Type 0) (e f h : E) (old new : Machine)
    (given : Option Stop) (n budget : ℕ) (m : Moment) (on : GoesOn gave e f old n budget m) →
    MakesTurn gave f h new given (moment_after m on.made) (joint_step (moment_after m on.made)) → n < budget →
    given ≡ None → GoesOn gave e h new (n + 1) budget m
goes_on-more gave e f h old new given n budget m on makes within goes =
    goes_on-made gave e h new n budget m given goes (is_made gave e f h old new given n budget m on makes within)

-- one step more that stops the run
stops-made : {E : Type 0} (gave : E → E → List Piece → Type 0) (failed : Bool) (e h : E) (new : Machine)
    (n budget : ℕ) (m : Moment) (given : Option Stop) (cause : Stop) → given ≡ Some cause →
    IsMade gave e h new n budget m given → RunsSteps gave failed e h new (Some cause) m (turns_from budget m)
stops-made {E} gave failed e h new n budget m given cause stopped made =
    let all : turns_from budget m ≡ made.made =
    made.left
    ∙ ap (λ (o : Option Stop). made.made ++ unless_stopped o (turns_from (budget - (n + 1))) made.now) stopped
    ∙ append-nil made.made in
    subst (λ (ts : List Turn). RunsSteps gave failed e h new (Some cause) m ts) (sym all) (record {
      emits = made.emits;
      made = λ unfailed. record {
        last = sym stopped ∙ sym made.last;
        stands = subst (λ (x : Moment). StandsForMoment new x) made.now_is made.stands;
      };
    })

pub stops-more : {E : Type 0} (gave : E → E → List Piece → Type 0) (failed : Bool) (e f h : E) (old new : Machine)
    (given : Option Stop) (cause : Stop) (n budget : ℕ) (m : Moment) (on : GoesOn gave e f old n budget m) →
    MakesTurn gave f h new given (moment_after m on.made) (joint_step (moment_after m on.made)) →
    given ≡ Some cause → n < budget → RunsSteps gave failed e h new (Some cause) m (turns_from budget m)
stops-more gave failed e f h old new given cause n budget m on makes stopped within =
    stops-made gave failed e h new n budget m given cause stopped
    (is_made gave e f h old new given n budget m on makes within)

-- all steps of the budget, of which none stopped the run
pub runs-all : {E : Type 0} (gave : E → E → List Piece → Type 0) (failed : Bool) (e f : E) (machine : Machine)
    (budget n : ℕ) (m : Moment) →
    GoesOn gave e f machine n budget m → n ≡ budget → RunsSteps gave failed e f machine None m (turns_from budget m)
runs-all {E} gave failed e f machine budget n m on whole =
    let all : turns_from budget m ≡ on.made =
    on.left ∙ ap (λ (ts : List Turn). on.made ++ ts)
    (turns_from-none n budget (moment_after m on.made) whole) ∙ append-nil on.made in
    subst (λ (ts : List Turn). RunsSteps gave failed e f machine None m ts) (sym all) (record {
      emits = on.emits;
      made = λ unfailed. record { last = sym on.on; stands = on.stands };
    })

-- as many steps as there were until the outlet failed, which is then given the others in vain
pub runs-failed : {E : Type 0} (gave : E → E → List Piece → Type 0) (failed : Bool) (e f : E) (machine : Machine)
    (given : Option Stop) (budget n : ℕ) (m : Moment) →
    GoesOn gave e f machine n budget m → failed ≡ true → ((ps : List Piece) → Emits gave f f ps) →
    RunsSteps gave failed e f machine given m (turns_from budget m)
runs-failed {E} gave failed e f machine given budget n m on broken none =
    let rest = turns_from (budget - n) (moment_after m on.made) in
    record {
      emits = emits_as (sym (turns_pieces-append (suc m.steps) on.made rest) ∙ ap
          (λ (ts : List Turn). turns_pieces (suc m.steps) ts) (sym on.left))
          (emits_then on.emits (none (turns_pieces (suc m.steps + length on.made) rest)));
      made = λ unfailed. absurd (let clash : true ≡ false = sym broken ∙ unfailed in cc);
    }

-- The end.

-- the text of a report under another name
emits_text : {E : Type 0} {gave : E → E → List Piece → Type 0} {e f : E} {x y : List ℕ} → x ≡ y →
    Emits gave e f (shown x ∷ []) → Emits gave e f (shown y ∷ [])
emits_text {E} {gave} {e} {f} {x} {y} same emits =
    subst (λ (text : List ℕ). Emits gave e f (shown text ∷ [])) same emits

-- the record's first bytes, the opening and the steps of a run
pub begins_run : {E : Type 0} {gave : E → E → List Piece → Type 0} {failed : Bool} {e f g h : E}
    {opened machine : Machine} {stopped : Option Stop} {b : Bundle} {o : RunEdge} {turns : List Turn} →
    Emits gave e f (recorded record_magic ∷ []) → ShowsOpening gave f g opened b o →
    RunsSteps gave failed g h machine stopped (first_moment b o.joint) turns →
    BeginsRun gave failed e h machine stopped b o turns
begins_run {E} {gave} {failed} {e} {f} {g} {h} {opened} {machine} {stopped} {b} {o} {turns} first opens runs =
    record { emits = emits_then first (emits_then opens.emits runs.emits); made = runs.made }

-- the pieces of a run
pieces_of_run : (b : Bundle) (steps : ℕ) (o : RunEdge) →
    let turns = turns_from steps (first_moment b o.joint) in
    let closed = closing (joint_after o.joint turns) in
    first_pieces o turns ++ last_pieces (cause_of closed.joint (last_stop None turns)) (length turns) closed ≡ due (run_of b steps o)
unfolding due run_of
pieces_of_run b steps o =
    let turns = turns_from steps (first_moment b o.joint) in
    ap (λ (ps : List Piece). recorded record_magic ∷ ps) (append_assoc (item_pieces o.items) (turns_pieces 1 turns) _)

-- a run whose outlet failed before its steps were over, and is given the rest in vain
pub writes-front : {E : Type 0} {gave : E → E → List Piece → Type 0} {failed : Bool} {e f : E} {machine : Machine}
    {stopped : Option Stop} (given : Status) (b : Bundle) (steps : ℕ) (o : RunEdge) →
    BeginsRun gave failed e f machine stopped b o (turns_from steps (first_moment b o.joint)) → failed ≡ true →
    ((ps : List Piece) → Emits gave f f ps) → WritesRun gave failed e f given (run_of b steps o)
writes-front {E} {gave} {failed} {e} {f} {machine} {stopped} given b steps o begins broken none = record {
  emits = emits_as (pieces_of_run b steps o) (emits_then begins.emits (none _));
  status = λ unfailed. absurd (let clash : true ≡ false = sym broken ∙ unfailed in cc);
}

-- a run whose steps were made, and whose end was written
pub writes-whole : {E : Type 0} {gave : E → E → List Piece → Type 0} {mid_failed failed : Bool} {e f g : E}
    {machine : Machine} {stopped : Option Stop} {cause : Stop} {given : Status} (b : Bundle) (steps : ℕ) (o : RunEdge) →
    BeginsRun gave mid_failed e f machine stopped b o (turns_from steps (first_moment b o.joint)) →
    mid_failed ≡ false → cause ≡ unwrap_or stopped stop.Budget →
    ((m : Moment) → StandsForMoment machine m → EndsRun gave f g given cause m.steps (closing m.joint)) →
    WritesRun gave failed e g given (run_of b steps o)
unfolding run_of
writes-whole {E} {gave} {mid_failed} {failed} {e} {f} {g} {machine} {stopped} {cause} {given} b steps o begins well
    unwrapped ends =
    let turns = turns_from steps (first_moment b o.joint) in
    let all = begins.made well in
    let end = ends (moment_after (first_moment b o.joint) turns) all.stands in
    let closed = closing (joint_after o.joint turns) in
    let same : cause_of closed.joint (Some cause) ≡ cause_of closed.joint (last_stop None turns) =
    ap (λ (s : Stop). cause_of closed.joint (Some s))
    (unwrapped ∙ ap (λ (s : Option Stop). unwrap_or s stop.Budget) all.last) in
    record {
      emits = emits_as (pieces_of_run b steps o) (emits_then begins.emits
          (emits_as (λ k. last_pieces (same k) ((let e : 0 + length turns ≡ length turns = omega arith in e) k)
          closed) end.emits));
      status = λ unfailed. end.status
          ∙ ap (λ (s : Stop). status_of s (any_refused closed.joint.ended closed.joint.refused)) same;
    }

-- the end of a run, by what the machine's end emits and says
pub ends_run : {E : Type 0} {gave : E → E → List Piece → Type 0} {e f g h : E} {end : RunEnd} {stopped : Stop}
    {m : Moment} {closed : RunEdge} {given : Status} →
    FinishesAs gave e f end stopped m closed → Emits gave f g (shown (codes "\n") ∷ []) →
    Emits gave g h (shown (end_report end) ∷ []) → given ≡ status_of end.stop (end_is_refused end) →
    EndsRun gave e h given stopped m.steps closed
ends_run {E} {gave} {e} {f} {g} {h} {end} {stopped} {m} {closed} {given} ends line lines is = record {
  emits = emits_then ends.emits
      (emits_then line (emits_text (ends.report ∙ ap (λ (s : Stop). report s m.steps closed.joint) ends.stop) lines));
  status = is ∙ (λ i. status_of (ends.stop i) (any_refused (ends.ended i) (ends.refused i)));
}
