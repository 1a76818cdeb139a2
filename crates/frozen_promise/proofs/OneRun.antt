-- The two parts are one run.
use Rattle.std.proofs.Common.{◌≡◌, ◌∙◌, ◌+◌, ℕ, false, List, ◌++◌, length, refl, sym, ap, subst, Option, Some, None, Result, Ok, Err}
use Rattle.std.specs.Prelude.{IfSome}
use Rattle.std.specs.Result.{result_map_both}
use Rattle.sha2.specs.Sha256.{sha256}
use Rattle.cloak_base.specs.Random.{Random}
use Rattle.cloak_base.specs.declared.causes.Stop.{Stop}
use Rattle.cloak_model.specs.declared.image.Bundle.{Bundle}
use Rattle.cloak_model.specs.Beginning.{Fresh}
use Rattle.cloak_model.specs.Cloaking.{CloakedMemory}
use Rattle.cloak_model.specs.Exchange.{recorded_bytes, shown_bytes}
use Rattle.cloak_model.specs.Joint.{Moment, Turn}
use Rattle.cloak_model.specs.Opening.{Lack, RunEdge, opening}
use Rattle.cloak_model.specs.Parts.{Joint}
use Rattle.cloak_model.specs.Run.{Run, first_moment, joint_after, joint_run, last_stop, run_of, turns_from}
use Rattle.frozen_commands.specs.FreezeAnswering.{IfNoneClashed, IsSaved}
use Rattle.frozen_commands.specs.ThawAnswering.{IsWrittenAfter, OfEachRest}
use Rattle.frozen_commands.specs.WholeRun.{OfEachWhole, joint_between}
use Rattle.frozen_state.specs.declared.frozen.Frozen.{Frozen}
use Rattle.frozen_state.specs.Continuing.{IsFrozenAfter, due_after, first_pieces, first_turns, pieces_after, report_after, run_on}
use Rattle.frozen_state.specs.FrozenState.{frozen_bytes}
use Rattle.frozen_state.specs.Ranges.{IsInRange}
use Rattle.frozen_state.specs.Thawing.{CanGoOn}
use Rattle.io_traits.specs.Told.{Grows, Tells}
use Rattle.command_parts.specs.Freezing.{AsksFrozen}
use Rattle.command_parts.specs.Thawing.{AsksThawed, SpellsState, ThawSources}
use Rattle.command_parts.proofs.StreamFacts.{same_stream}
use Rattle.run_command.specs.Answering.{IsLawful}
use Rattle.run_command.specs.Running.{status_of}
use Rattle.cloak_model.specs.Run.{NoClash, NoClashYet}
use Rattle.run_command.proofs.ClashFacts.{run_unclashed, turns_unclashed}
use Rattle.thaw_law.proofs.FreezeThaw.{runs_are_first_and_rest}
use Rattle.cloak_model.proofs.Pieces.{shown-last}
use Rattle.record_law.proofs.Pieces.{joint_after-append}
use Rattle.thaw_law.proofs.TwoParts.{runs_go_on, stopped_runs_stay}
use Rattle.frozen_promise.specs.OneRun.{IsOneRun, PartsAreOneRun}
use Rattle.frozen_promise.proofs.Sources.{one_image, steps_in}
use Rattle.frozen_commands.proofs.StateFacts.{none_left}
use Rattle.frozen_commands.proofs.SameWords.{as_freeze, as_thaw}
use Rattle.record_law.specs.Steps.{moment_after}

-- Both runs open alike.

abbrev AreOpened : Bundle → ℕ → ℕ → Run → Run → RunEdge → Type 0
AreOpened b n m made r o = (made ≡ run_of b n o) × (r ≡ run_of b m o)

opened_alike : (b : Bundle) (n m : ℕ) (made r : Run) (x : Result RunEdge Lack) →
    result_map_both (run_of b n) (λ lack. lack) x ≡ Ok made → result_map_both (run_of b m) (λ lack. lack) x ≡ Ok r →
    (o : RunEdge) × AreOpened b n m made r o
opened_alike b n m made r (Ok o) first second =
    (o, ((let is : Ok made ≡ Ok (run_of b n o) = sym first in cc), (let is : Ok r ≡ Ok (run_of b m o) = sym second in cc)))
opened_alike b n m made r (Err lack) first second = absurd (let clash : Err lack ≡ Ok made = first in cc)

-- None clashed in the first part.

unclashed_if : (n k : ℕ) (m : Moment) (stopped : Option Stop) → last_stop None (turns_from n m) ≡ stopped →
    NoClashYet (joint_after m.joint (turns_from (n + k) m)) → NoClashYet (joint_after m.joint (turns_from n m))
unclashed_if n k m None on none =
    let goes = runs_go_on n k m on in
    turns_unclashed k (moment_after m (turns_from n m))
    (subst NoClashYet (ap (λ (ts : List Turn). joint_after m.joint ts) goes.turns
    ∙ joint_after-append m.joint (turns_from n m) (turns_from k (moment_after m (turns_from n m)))) none)
unclashed_if n k m (Some cause) over none =
    subst (λ (ts : List Turn). NoClashYet (joint_after m.joint ts)) (stopped_runs_stay n k m cause over) none

first_unclashed : (b : Bundle) (n k : ℕ) (o : RunEdge) → NoClash (run_of b (n + k) o) →
    NoClashYet (joint_after o.joint (first_turns b o n))
first_unclashed b n k o none =
    unclashed_if n k (first_moment b o.joint) _ refl (run_unclashed b (n + k) o none)

-- What is told of the rest of each machine, of the bundle, the stream and the state that are known.
each_at : (t : ThawSources) (b : Bundle) (stream : Random) (f : Frozen) (n k : ℕ) (Becomes : ℕ → Run → Type 0) →
    t.bundle ≡ b → t.stream ≡ stream → t.state ≡ f → f.steps ≡ n → OfEachRest t k (Becomes t.state.steps) →
    (j : Joint) → CanGoOn b stream f j → NoClash (run_on b n j k) → Becomes n (run_on b n j k)
each_at t b stream f n k Becomes bundle from state steps each j on none =
    let number : t.state.steps ≡ n = ap (λ (g : Frozen). g.steps) state ∙ steps in
    let on_here : CanGoOn t.bundle t.stream t.state j =
    subst (λ (c : Bundle). CanGoOn c t.stream t.state j) (sym bundle)
    (subst (λ (x : Random). CanGoOn b x t.state j) (sym from)
    (subst (λ (g : Frozen). CanGoOn b stream g j) (sym state) on)) in
    let same : run_on t.bundle t.state.steps j k ≡ run_on b n j k = λ i. run_on (bundle i) (number i) j k in
    subst (λ (m : ℕ). Becomes m (run_on b n j k)) number
    (subst (Becomes t.state.steps) same (each j on_here (subst NoClash (sym same) none)))

-- and of the whole run
lawful_at : (t : ThawSources) (b : Bundle) (stream : Random) (f : Frozen) (n k : ℕ) (r : Run) → t.bundle ≡ b →
    t.stream ≡ stream → t.state ≡ f → f.steps ≡ n → OfEachWhole t k → joint_run b stream (n + k) ≡ Ok r →
    IsFrozenAfter b r.opened n → CanGoOn b stream f (joint_between b n r) → IsLawful b (Fresh stream) r
lawful_at t b stream f n k r bundle from state steps each joint reached on =
    let number : t.state.steps ≡ n = ap (λ (g : Frozen). g.steps) state ∙ steps in
    let whole = each r (record {
      joint = (λ i. joint_run (bundle i) (from i) (number i + k)) ∙ joint;
      reached = subst (λ (c : Bundle). IsFrozenAfter c r.opened t.state.steps) (sym bundle)
          (subst (λ (m : ℕ). IsFrozenAfter b r.opened m) (sym number) reached);
      state = subst (λ (c : Bundle). CanGoOn c t.stream t.state (joint_between c t.state.steps r)) (sym bundle)
          (subst (λ (x : Random). CanGoOn b x t.state (joint_between b t.state.steps r)) (sym from)
          (subst (λ (g : Frozen). CanGoOn b stream g (joint_between b t.state.steps r)) (sym state)
          (subst (λ (m : ℕ). CanGoOn b stream f (joint_between b m r)) (sym number) on)));
    }) in
    subst (λ (c : Bundle). IsLawful c (Fresh stream) r) bundle
    (subst (λ (x : Random). IsLawful t.bundle (Fresh x) r) from whole.lawful)

shown_rest : (n : ℕ) (r : Run) → shown_bytes (due_after n r) ≡ shown_bytes (pieces_after n r) ++ report_after n r
unfolding due_after
shown_rest n r = shown-last (pieces_after n r) (report_after n r)

pub parts_are_one_run : (S O : Type 0) → PartsAreOneRun S O
unfolding run_of
parts_are_one_run S O w version b stream before mid later after given share ran r runs none =
    let n = w.first_steps in
    let k = w.rest_steps in
    let z = ran.frozen.freezes in
    let first = as_freeze (λ names m from. AsksFrozen names from before.files.held z.sources
    × ((joint_run z.sources.bundle z.sources.stream m ≡ Ok z.made)
    × IfNoneClashed z.made (IsSaved names m z.sources z.made before mid))) w.freeze z.names n z.steps w.first_randomness
    z.randomness z.freeze (z.asks, (z.joint, z.becomes)) in
    let image = one_image share.first_image share.is_image first.0.bundle in
    let from : z.sources.stream ≡ stream =
    same_stream before.files.held w.first_randomness stream z.sources.stream share.first_stream first.0.stream in
    let joint : joint_run b stream n ≡ Ok z.made =
    subst (λ (c : Bundle). joint_run c stream n ≡ Ok z.made) image.1
    (subst (λ (x : Random). joint_run z.sources.bundle x n ≡ Ok z.made) from first.1.0) in
    let opens = opened_alike b n (n + k) z.made r (opening b stream) joint runs in
    let o = opens.0 in
    let whole_none : NoClash (run_of b (n + k) o) = subst NoClash opens.1.1 none in
    let if_none = subst (λ (x : Run). IfNoneClashed x (IsSaved w.freeze n z.sources x before mid)) opens.1.0 first.1.1 in
    let saved : IsSaved w.freeze n z.sources (run_of b n o) before mid = if_none (first_unclashed b n k o whole_none) in
    let parts = runs_are_first_and_rest b o n k (none_left _ saved.reached) in
    let j = joint_after o.joint (first_turns b o n) in
    let rest = run_on b n j k in
    let f = saved.state in
    let y = ran.thawed.thaws in
    let second = as_thaw (λ names m from. AsksThawed names from later.files.held y.sources
    × (OfEachRest y.sources m (λ x. IsWrittenAfter y.sources.state.steps x names.record_name given later after)
    × OfEachWhole y.sources m)) w.thaw y.names k y.steps w.rest_randomness y.randomness y.thaw
    (y.asks, (y.becomes.0, y.whole)) in
    let other = one_image share.rest_image share.is_image second.0.bundle in
    let from_other : y.sources.stream ≡ stream =
    same_stream later.files.held w.rest_randomness stream y.sources.stream share.rest_stream second.0.stream in
    let spells : SpellsState y.sources.bundle (sha256 y.sources.bytes) y.sources.state share.state =
    subst (λ (told : Option (List ℕ)). IfSome told (SpellsState y.sources.bundle (sha256 y.sources.bytes) y.sources.state))
    share.state_read second.0.state in
    let bytes : share.state ≡ frozen_bytes f (sha256 z.sources.bytes) =
    subst (λ (told : Option (List ℕ)). IfSome told (λ known. known ≡ frozen_bytes f (sha256 z.sources.bytes)))
    share.state_written saved.file in
    let same_state : y.sources.state ≡ f = spells.only f saved.is_state.shape (record {
      spelled = sym (bytes ∙ ap (λ (l : List ℕ). frozen_bytes f (sha256 l)) (image.0 ∙ sym other.0));
      in_range = subst (λ (c : Bundle). IsInRange c.kernel (length c.programs) f) (image.1 ∙ sym other.1)
          saved.is_state.in_range;
    }) in
    let on : CanGoOn b stream f j =
    subst (λ (c : Bundle). CanGoOn c stream f j) image.1
    (subst (λ (x : Random). CanGoOn z.sources.bundle x f j) from saved.is_state.can_go_on) in
    let rest_none : NoClash rest =
    subst (λ (m : CloakedMemory). m.ledger.clashed ≡ false) parts.joint.memory whole_none in
    let written = each_at y.sources b stream f n k
    (λ m x. IsWrittenAfter m x w.thaw.record_name given later after) other.1 from_other same_state
    (steps_in j n z.sources.vectors f saved.is_state.is) second.1.0 j on rest_none in
    let reached = none_left _ saved.reached in
    subst (λ (x : Run). IsOneRun w share.image b stream before mid later after given x) (sym opens.1.1) (record {
      lawful = lawful_at y.sources b stream f n k (run_of b (n + k) o) other.1 from_other same_state
          (steps_in j n z.sources.vectors f saved.is_state.is) second.1.1 (runs ∙ ap Ok opens.1.1) reached on;
      between = record {
        reached = reached;
        state = f;
        file = subst (λ (l : List ℕ). Tells (mid.files.held w.freeze.state_name) (frozen_bytes f (sha256 l))) image.0
            saved.file;
        can_go_on = on;
      };
      first_file = saved.written.file;
      rest_file = written.written.file;
      records = sym parts.file;
      first_output = saved.written.output;
      rest_output = subst (λ (text : List ℕ). Grows later.output.taken after.output.taken text) (shown_rest n rest)
          written.written.output;
      shown = sym parts.output;
      report = parts.report;
      reports = parts.lines;
      status = written.status ∙ (λ i. status_of (sym parts.stop i) (sym parts.refused i));
    })
