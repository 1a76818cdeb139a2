-- Of the causes of what `run` returns, those of faults do not occur if no count rose.
use Rattle.std.proofs.Common.{◌≡◌, ◌⊎◌, ℕ, List, Some, Result, Ok, sym, subst, inl, inr}
use Rattle.std.specs.Result.{result_map_both}
use Rattle.io_traits.specs.Told.{OtherFiles}
use Rattle.cloak_base.specs.Random.{Random}
use Rattle.cloak_model.specs.declared.image.Bundle.{Bundle}
use Rattle.cloak_model.specs.Opening.{Lack, RunEdge}
use Rattle.cloak_model.specs.Run.{Run, joint_run, run_of}
use Rattle.command_words.specs.Command as spec
use Rattle.command_parts.specs.declared.status.Status.{Status}
use Rattle.command_parts.specs.declared.status.Status.TheVariants as status
use Rattle.command_parts.specs.NoRun.{IsRefused}
use Rattle.command_parts.specs.Outside.{Outside, NothingRose}
use Rattle.run_command.specs.Answering.{HasRun, IsWriteFault}
use Rattle.run_command.specs.Recording.{IsWritten}
use Rattle.completeness.specs.Asked.{IsBundleFile, WantsMemory}
use Rattle.completeness.specs.Runs.{ComesTo, RunsAreComplete}
use Rattle.command_parts.specs.Streams.{IsToldStream}
use Rattle.completeness.proofs.Faults.{never_failed, never_rose}
use Rattle.completeness.proofs.Openings.{OpensNot, asked_is, run_refused}

no_write_fault : {S O : Type 0} (asked : spec.Asked) (before after : Outside S O) → NothingRose before after →
    IsWriteFault asked before after → ⊥
no_write_fault {S} {O} asked before after nothing (inl line) = never_rose _ _ nothing.faults line.faults
no_write_fault {S} {O} asked before after nothing (inr (inl begin)) = never_rose _ _ nothing.writing begin.writing
no_write_fault {S} {O} asked before after nothing (inr (inr broke)) =
    never_failed broke.fault.0 before after nothing broke.fault.1

-- The answers.

abbrev Complete : {S O : Type 0} → List ℕ → ℕ → Bundle → Random → Status → Outside S O → Outside S O → Type 0
Complete record_name steps b s answer before after =
    WantsMemory answer before after ⊎ ComesTo record_name (joint_run b s steps) answer before after

lacks : {S O : Type 0} (record_name : List ℕ) (steps : ℕ) (b : Bundle) (s : Random) (answer : Status)
    (before after : Outside S O) → OpensNot b s answer before after →
    ComesTo record_name (joint_run b s steps) answer before after
lacks {S} {O} record_name steps b s answer before after none =
    subst (λ (o : Result RunEdge Lack). ComesTo record_name (result_map_both (run_of b steps) (λ x. x) o) answer before after)
    (sym none.opens) none.lacks

by_refusal : {S O : Type 0} (bundle_name record_name : List ℕ) (steps : ℕ) (from : spec.Randomness) (b : Bundle)
    (s : Random) (answer : Status) (before after : Outside S O) →
    IsBundleFile before.files.held bundle_name b → IsToldStream before.files.held from s → NothingRose before after →
    IsRefused (spec.Run bundle_name record_name steps from) answer before after →
    Complete record_name steps b s answer before after
by_refusal {S} {O} bundle_name record_name steps from b s answer before after file told nothing given =
    elim (run_refused bundle_name (Some record_name) steps from b s answer before after file told nothing given) [
      | inl memory ↦ inl memory
      | inr none ↦ inr (lacks record_name steps b s answer before after none)
    ]

made : {S O : Type 0} (bundle_name record_name : List ℕ) (steps : ℕ) (from : spec.Randomness) (b : Bundle)
    (s : Random) (answer : Status) (before after : Outside S O) →
    IsBundleFile before.files.held bundle_name b → IsToldStream before.files.held from s →
    HasRun (spec.Run bundle_name record_name steps from) answer before after →
    Complete record_name steps b s answer before after
made {S} {O} bundle_name record_name steps from b s answer before after file told has =
    let asks = has.asks in
    let is = asked_is before.files.held bundle_name (Some record_name) steps from b s (Some has.record_name) asks.steps
    asks.bundle asks.stream file told asks.asks in
    let names : Some has.record_name ≡ Some record_name = is.name in
    let name : has.record_name ≡ record_name = cc in
    let runs : joint_run b s steps ≡ Ok has.made =
    subst (λ (k : ℕ). joint_run b s k ≡ Ok has.made) is.budget
    (subst (λ (x : Random). joint_run b x asks.steps ≡ Ok has.made) is.stream_is
    (subst (λ (x : Bundle). joint_run x asks.stream asks.steps ≡ Ok has.made) is.bundle_is asks.joint)) in
    inr (subst (λ (o : Result Run Lack). ComesTo record_name o answer before after) (sym runs) (
      subst (λ (n : List ℕ). OtherFiles n before.files.held after.files.held) name has.others,
      λ none. subst (λ (n : List ℕ). IsWritten has.made n answer before after) name (has.written none),
    ))

pub runs_are_complete : (S O : Type 0) → RunsAreComplete S O
runs_are_complete S O n r k x status.Done before after given b s file told nothing =
    made n r k x b s status.Done before after file told given
runs_are_complete S O n r k x status.Violation before after given b s file told nothing =
    made n r k x b s status.Violation before after file told given
runs_are_complete S O n r k x status.Usage before after given b s file told nothing =
    by_refusal n r k x b s status.Usage before after file told nothing given
runs_are_complete S O n r k x status.BadBundle before after given b s file told nothing =
    by_refusal n r k x b s status.BadBundle before after file told nothing given
runs_are_complete S O n r k x status.ReadFault before after given b s file told nothing =
    by_refusal n r k x b s status.ReadFault before after file told nothing given
runs_are_complete S O n r k x status.WriteFault before after given b s file told nothing =
    absurd (no_write_fault (spec.Run n r k x) before after nothing given)
runs_are_complete S O n r k x status.NoMemory before after given b s file told nothing =
    by_refusal n r k x b s status.NoMemory before after file told nothing given
runs_are_complete S O n r k x status.NoRandom before after (inl given) b s file told nothing =
    by_refusal n r k x b s status.NoRandom before after file told nothing given
runs_are_complete S O n r k x status.NoRandom before after (inr given) b s file told nothing =
    made n r k x b s status.NoRandom before after file told given
runs_are_complete S O n r k x status.BadRecord before after given b s file told nothing = absurd given
runs_are_complete S O n r k x status.BadStore before after given b s file told nothing =
    by_refusal n r k x b s status.BadStore before after file told nothing given
runs_are_complete S O n r k x status.Frozen before after given b s file told nothing = absurd given
runs_are_complete S O n r k x status.BadState before after given b s file told nothing =
    by_refusal n r k x b s status.BadState before after file told nothing given
