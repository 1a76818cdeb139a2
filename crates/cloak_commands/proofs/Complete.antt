-- If no call fails, each command's table of answers leaves what the command ends with.
use Rattle.std.proofs.Common.{◌<◌, ◌-◌, ◌^◌, inl, inr}
use Rattle.command_words.specs.Command as spec
use Rattle.completeness.specs.Complete.{IsComplete}
use Rattle.completeness.proofs.Faults.{never_rose}
use Rattle.completeness.proofs.Freezes.{freezes_are_complete}
use Rattle.completeness.proofs.Images.{demos_are_complete, gens_are_complete}
use Rattle.completeness.proofs.Runs.{runs_are_complete}
use Rattle.completeness.proofs.SoloOvers.{solo_overs_are_complete}
use Rattle.completeness.proofs.Stats.{stats_are_complete}
use Rattle.completeness.proofs.Stores.{stores_are_complete}
use Rattle.completeness.proofs.Thaws.{thaws_are_complete}
use Rattle.completeness.proofs.Upgrades.{upgrades_are_complete}
use Rattle.completeness.proofs.Views.{solos_are_complete, views_are_complete}
use Rattle.command_parts.specs.declared.status.Status.{Status}
use Rattle.command_parts.specs.NoRun.{IsRefused, OnlyRefuses}
use Rattle.command_parts.specs.Outside.{NothingRose, Outside}
use Rattle.cloak_commands.specs.Answering.{Answers}

is_refused : {S O : Type 0} (asked : spec.Asked) (answer : Status) (before after : Outside S O) →
    OnlyRefuses asked before after answer → NothingRose before after → IsRefused asked answer before after
is_refused {S} {O} asked answer before after (inl given) nothing = given
is_refused {S} {O} asked answer before after (inr given) nothing = absurd (never_rose _ _ nothing.faults given.1.faults)

pub complete_by : {S O : Type 0} (asked : spec.Asked) (answer : Status) (before after : Outside S O) →
    before.files.reading < 2 ^ 64 - 1 → Answers asked before after answer → IsComplete asked answer before after
complete_by {S} {O} (spec.Faulty fault) answer before after low given =
    is_refused (spec.Faulty fault) answer before after given
complete_by {S} {O} (spec.Run bundle record_name steps randomness) answer before after low given =
    runs_are_complete S O bundle record_name steps randomness answer before after given
complete_by {S} {O} (spec.View bundle record_name) answer before after low given =
    views_are_complete S O bundle record_name answer before after low given
complete_by {S} {O} (spec.Solo domain bundle record_name) answer before after low given =
    solos_are_complete S O domain bundle record_name answer before after low given
complete_by {S} {O} (spec.SoloOver domain bundle record_name old) answer before after low given =
    solo_overs_are_complete S O domain bundle record_name old answer before after low given
complete_by {S} {O} (spec.Gen number bundle_name) answer before after low given =
    gens_are_complete S O number bundle_name answer before after given
complete_by {S} {O} (spec.Demo number steps) answer before after low given =
    demos_are_complete O number steps answer before.output after.output given.answers
complete_by {S} {O} (spec.Stats bundle steps randomness) answer before after low given =
    stats_are_complete S O bundle steps randomness answer before after given
complete_by {S} {O} (spec.Upgrade old_name new_name) answer before after low given =
    upgrades_are_complete S O old_name new_name answer before after given
complete_by {S} {O} (spec.Store names counter steps randomness) answer before after low given =
    stores_are_complete S O names counter steps randomness answer before after given
complete_by {S} {O} (spec.Freeze names steps randomness) answer before after low given =
    freezes_are_complete S O names steps randomness answer before after given
complete_by {S} {O} (spec.Thaw names steps randomness) answer before after low given =
    thaws_are_complete S O names steps randomness answer before after given
