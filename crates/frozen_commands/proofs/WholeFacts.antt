-- The whole run of which `thaw` makes the rest.
use Rattle.std.proofs.Common.{◌≡◌, ◌≤◌, ◌+◌, ℕ, Result, Ok, Err, sym, subst}
use Rattle.std.specs.Result.{result_map_both}
use Rattle.cloak_base.specs.Random.{Random}
use Rattle.cloak_model.specs.declared.image.Bundle.{Bundle}
use Rattle.cloak_model.specs.Beginning.{Fresh}
use Rattle.cloak_model.specs.Bundle.{IsInGrammar}
use Rattle.cloak_model.specs.Opening.{Lack, RunEdge, opening}
use Rattle.cloak_model.specs.Run.{Run, joint_run, most_steps, run_of}
use Rattle.command_parts.specs.Thawing.{ThawSources}
use Rattle.frozen_state.specs.Continuing.{IsFrozenAfter}
use Rattle.range_law.specs.Writing.{IsOfBytes, IsStreamOfBytes}
use Rattle.run_command.proofs.Lawful.{is_lawful}
use Rattle.thaw_law.proofs.FreezeThaw.{runs_are_first_and_rest}
use Rattle.frozen_commands.specs.WholeRun.{HadState, IsInTwoParts, IsWholeRun}

opened_so : (b : Bundle) (budget : ℕ) (r : Run) (x : Result RunEdge Lack) →
    result_map_both (run_of b budget) (λ lack. lack) x ≡ Ok r → (o : RunEdge) × (r ≡ run_of b budget o)
opened_so b budget r (Ok o) is = (o, (let same : Ok (run_of b budget o) ≡ Ok r = is in cc))
opened_so b budget r (Err lack) is = absurd (let clash : Err lack ≡ Ok r = is in cc)

parts_of : (b : Bundle) (n k : ℕ) (o : RunEdge) → IsFrozenAfter b (run_of b (n + k) o).opened n →
    IsInTwoParts b n k (run_of b (n + k) o)
unfolding run_of
parts_of b n k o frozen = runs_are_first_and_rest b o n k frozen

pub is_in_two_parts : (b : Bundle) (stream : Random) (n k : ℕ) (r : Run) → joint_run b stream (n + k) ≡ Ok r →
    IsFrozenAfter b r.opened n → IsInTwoParts b n k r
is_in_two_parts b stream n k r joint frozen =
    let opened = opened_so b (n + k) r (opening b stream) joint in
    subst (IsInTwoParts b n k) (sym opened.1)
    (parts_of b n k opened.0 (subst (λ (x : Run). IsFrozenAfter b x.opened n) opened.1 frozen))

pub is_whole_run : {s : ThawSources} {steps : ℕ} {whole : Run} → IsInGrammar s.bundle → IsOfBytes s.bundle →
    IsStreamOfBytes s.stream → s.state.steps + steps ≤ most_steps → HadState s steps whole → IsWholeRun s steps whole
is_whole_run {s} {steps} {whole} grammar image stream few had = record {
  lawful = is_lawful s.bundle (Fresh s.stream) (s.state.steps + steps) whole grammar image stream few had.joint;
  parts = is_in_two_parts s.bundle s.stream s.state.steps steps whole had.joint had.reached;
}
