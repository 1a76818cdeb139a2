-- Of the causes of what `stats` returns, those of faults do not occur if no count rose.
use Rattle.std.proofs.Common.{◌≡◌, ◌⊎◌, ℕ, List, None, Result, Ok, sym, subst, inl, inr}
use Rattle.cloak_base.specs.Random.{Random}
use Rattle.cloak_model.specs.declared.image.Bundle.{Bundle}
use Rattle.cloak_model.specs.Opening.{Lack, RunEdge, opening}
use Rattle.command_words.specs.Command as spec
use Rattle.command_parts.specs.declared.status.Status.{Status}
use Rattle.command_parts.specs.declared.status.Status.TheVariants as status
use Rattle.command_parts.specs.NoRun.{IsRefused}
use Rattle.command_parts.specs.Outside.{Outside, NothingRose}
use Rattle.stats_command.specs.Answering.{HasStats}
use Rattle.completeness.specs.Asked.{IsBundleFile, WantsMemory}
use Rattle.command_parts.specs.Streams.{IsToldStream}
use Rattle.completeness.specs.Stats.{ComesToCounts, ShowsCounts, StatsAreComplete}
use Rattle.completeness.proofs.Faults.{never_rose}
use Rattle.completeness.proofs.Openings.{OpensNot, asked_is, run_refused}

abbrev Complete : {S O : Type 0} → ℕ → Bundle → Random → Status → Outside S O → Outside S O → Type 0
Complete steps b s answer before after =
    WantsMemory answer before after ⊎ ComesToCounts b steps (opening b s) answer before after

lacks : {S O : Type 0} (steps : ℕ) (b : Bundle) (s : Random) (answer : Status) (before after : Outside S O) →
    OpensNot b s answer before after → ComesToCounts b steps (opening b s) answer before after
lacks {S} {O} steps b s answer before after none =
    subst (λ (o : Result RunEdge Lack). ComesToCounts b steps o answer before after) (sym none.opens) none.lacks

by_refusal : {S O : Type 0} (bundle_name : List ℕ) (steps : ℕ) (from : spec.Randomness) (b : Bundle) (s : Random)
    (answer : Status) (before after : Outside S O) →
    IsBundleFile before.files.held bundle_name b → IsToldStream before.files.held from s → NothingRose before after →
    IsRefused (spec.Stats bundle_name steps from) answer before after → Complete steps b s answer before after
by_refusal {S} {O} bundle_name steps from b s answer before after file told nothing given =
    elim (run_refused bundle_name None steps from b s answer before after file told nothing given) [
      | inl memory ↦ inl memory
      | inr none ↦ inr (lacks steps b s answer before after none)
    ]

-- the run of what was told
shows_counts : {S O : Type 0} (answer : Status) (before after : Outside S O) (steps steps' : ℕ) (b bundle : Bundle)
    (o : RunEdge) → steps' ≡ steps → bundle ≡ b → ShowsCounts bundle steps' o answer before after →
    ShowsCounts b steps o answer before after
shows_counts {S} {O} answer before after steps steps' b bundle o same_steps same_bundle shows =
    subst (λ (k : ℕ). ShowsCounts b k o answer before after) same_steps
    (subst (λ (x : Bundle). ShowsCounts x steps' o answer before after) same_bundle shows)

made : {S O : Type 0} (bundle_name : List ℕ) (steps : ℕ) (from : spec.Randomness) (b : Bundle) (s : Random)
    (answer : Status) (before after : Outside S O) →
    IsBundleFile before.files.held bundle_name b → IsToldStream before.files.held from s →
    HasStats (spec.Stats bundle_name steps from) answer before after → Complete steps b s answer before after
made {S} {O} bundle_name steps from b s answer before after file told has =
    let asks = has.asks in
    let is = asked_is before.files.held bundle_name None steps from b s None asks.steps asks.bundle asks.stream file
    told asks.asks in
    let opens : opening b s ≡ Ok asks.opened =
    subst (λ (x : Random). opening b x ≡ Ok asks.opened) is.stream_is
    (subst (λ (x : Bundle). opening x asks.stream ≡ Ok asks.opened) is.bundle_is asks.opens) in
    inr (subst (λ (o : Result RunEdge Lack). ComesToCounts b steps o answer before after) (sym opens)
    (shows_counts answer before after steps asks.steps b asks.bundle asks.opened is.budget is.bundle_is
    (record { held = has.files.held; status = has.status; lines = has.lines })))

pub stats_are_complete : (S O : Type 0) → StatsAreComplete S O
stats_are_complete S O n k x status.Done before after given b s file told nothing =
    made n k x b s status.Done before after file told given
stats_are_complete S O n k x status.Violation before after given b s file told nothing =
    made n k x b s status.Violation before after file told given
stats_are_complete S O n k x status.Usage before after given b s file told nothing =
    by_refusal n k x b s status.Usage before after file told nothing given
stats_are_complete S O n k x status.BadBundle before after given b s file told nothing =
    by_refusal n k x b s status.BadBundle before after file told nothing given
stats_are_complete S O n k x status.ReadFault before after given b s file told nothing =
    by_refusal n k x b s status.ReadFault before after file told nothing given
stats_are_complete S O n k x status.WriteFault before after (inl given) b s file told nothing =
    absurd (never_rose _ _ nothing.faults given.faults)
stats_are_complete S O n k x status.WriteFault before after (inr given) b s file told nothing =
    absurd (never_rose _ _ nothing.faults given.faults)
stats_are_complete S O n k x status.NoMemory before after given b s file told nothing =
    by_refusal n k x b s status.NoMemory before after file told nothing given
stats_are_complete S O n k x status.NoRandom before after (inl given) b s file told nothing =
    by_refusal n k x b s status.NoRandom before after file told nothing given
stats_are_complete S O n k x status.NoRandom before after (inr given) b s file told nothing =
    made n k x b s status.NoRandom before after file told given
stats_are_complete S O n k x status.BadRecord before after given b s file told nothing = absurd given
stats_are_complete S O n k x status.BadStore before after given b s file told nothing =
    by_refusal n k x b s status.BadStore before after file told nothing given
stats_are_complete S O n k x status.Frozen before after given b s file told nothing = absurd given
stats_are_complete S O n k x status.BadState before after given b s file told nothing =
    by_refusal n k x b s status.BadState before after file told nothing given
