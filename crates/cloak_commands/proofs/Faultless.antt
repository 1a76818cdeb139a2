-- A status that names no fault says that no call failed.
use Rattle.std.proofs.Common.{◌≡◌, ◌≢◌, ◌∙◌, ℕ, List, Option, Some, ap, refl, inl, inr}
use Rattle.cloak_model.specs.declared.image.Bundle.{Bundle}
use Rattle.cloak_model.specs.declared.image.Program.{Program}
use Rattle.command_words.specs.Command as spec
use Rattle.command_parts.specs.declared.refusal.Refusal.{Refusal}
use Rattle.command_parts.specs.declared.refusal.Refusal.TheVariants as refusal
use Rattle.command_parts.specs.declared.status.Status.{Status}
use Rattle.command_parts.specs.declared.status.Status.TheVariants as status
use Rattle.command_parts.specs.NoRun.{HasCause, IsRefused, OnlyRefuses}
use Rattle.command_parts.specs.Outside.{FilesOutside, NothingRose, Outside, Output}
use Rattle.command_parts.specs.Refusal.{status_of_refusal}
use Rattle.command_parts.specs.Refusing.{LacksMemory}
use Rattle.frozen_commands.specs.FreezeAnswering.{FreezeAnswers}
use Rattle.frozen_commands.specs.ThawAnswering.{ThawAnswers}
use Rattle.image_commands.specs.Demonstrating.{DemoAnswers}
use Rattle.image_commands.specs.Generating.{GenAnswers}
use Rattle.image_commands.specs.Upgrading.{UpgradeAnswers}
use Rattle.read_back.specs.Answering.{HasSolo, HasView, SoloAnswers, ViewAnswers}
use Rattle.read_back.specs.AnsweringOver.{HasCauseOver, HasSoloOver, IsRefusedOver, SoloOverAnswers}
use Rattle.read_back.specs.Over.{LacksOver}
use Rattle.read_back.specs.Reading.{ReadsAs, status_of_ending}
use Rattle.read_back.specs.declared.ending.Ending.{Ending}
use Rattle.read_back.specs.declared.ending.Ending.TheVariants as ending
use Rattle.run_command.specs.Answering.{RunAnswers}
use Rattle.stats_command.specs.Answering.{HasStats, StatsAnswers}
use Rattle.store_command.specs.Answering.{StoreAnswers}
use Rattle.cloak_commands.specs.Answering.{Answers}
use Rattle.cloak_commands.specs.Program.{IsNoFault}

-- Words that were refused.

same_reading : {S : Type 0} (asked : spec.Asked) (r : Refusal) (before after : FilesOutside S) →
    status_of_refusal r ≢ status.ReadFault → HasCause asked r before after → after.reading ≡ before.reading
same_reading {S} asked (refusal.Usage fault) before after away (inl cause) =
    ap (λ (f : FilesOutside S). f.reading) cause.untouched
same_reading {S} asked (refusal.Usage fault) before after away (inr cause) = cause.reading
same_reading {S} asked (refusal.BadBundle fault) before after away cause = cause.reading
same_reading {S} asked refusal.ReadFault before after away cause = absurd (away refl)
same_reading {S} asked refusal.NoMemory before after away cause = cause.reading
same_reading {S} asked refusal.NoKey before after away (inl cause) = cause.reading
same_reading {S} asked refusal.NoKey before after away (inr (inl cause)) = cause.reading
same_reading {S} asked refusal.NoKey before after away (inr (inr cause)) = cause.reading
same_reading {S} asked refusal.NoPageDraw before after away (inl cause) = cause.reading
same_reading {S} asked refusal.NoPageDraw before after away (inr (inl cause)) = cause.reading
same_reading {S} asked refusal.NoPageDraw before after away (inr (inr (inl cause))) = cause.reading
same_reading {S} asked refusal.NoPageDraw before after away (inr (inr (inr cause))) = cause.reading
same_reading {S} asked refusal.NoSuchDomain before after away cause = cause.reading
same_reading {S} asked refusal.ShortSecret before after away cause = cause.reading
same_reading {S} asked (refusal.BadStore fault) before after away cause = cause.reading
same_reading {S} asked (refusal.NoRoom domain) before after away cause = cause.reading
same_reading {S} asked (refusal.BadState fault) before after away (inl cause) = cause.reading
same_reading {S} asked (refusal.BadState fault) before after away (inr cause) = cause.reading
same_reading {S} asked (refusal.ChangedDomain domain) before after away cause = cause.reading
same_reading {S} asked (refusal.ChangedFrame frame) before after away cause = cause.reading

refused : {S O : Type 0} (asked : spec.Asked) (answer : Status) (before after : Outside S O) → IsNoFault answer →
    IsRefused asked answer before after → NothingRose before after
refused {S} {O} asked answer before after fine given = record {
  reading =
      same_reading asked given.refused before.files after.files (λ same. fine.0 (given.status ∙ same)) given.no_run.cause;
  writing = given.no_run.writing;
  faults = given.faults;
}

pub lacks_memory : {S O : Type 0} (answer : Status) (before after : Outside S O) → IsNoFault answer →
    LacksMemory before after answer → NothingRose before after
lacks_memory {S} {O} answer before after fine given = record {
  reading = ap (λ (f : FilesOutside S). f.reading) given.untouched;
  writing = ap (λ (f : FilesOutside S). f.writing) given.untouched;
  faults = elim given.line [ inl shows ↦ shows.faults | inr front ↦ absurd (fine.1 front.answer) ];
}

-- Each command's table.

of_run : {S O : Type 0} (asked : spec.Asked) (answer : Status) (before after : Outside S O) → IsNoFault answer →
    RunAnswers asked before after answer → NothingRose before after
of_run {S} {O} asked status.Done before after fine given = given.nothing_rose
of_run {S} {O} asked status.Violation before after fine given = given.nothing_rose
of_run {S} {O} asked status.Usage before after fine given = refused asked status.Usage before after fine given
of_run {S} {O} asked status.BadBundle before after fine given = refused asked status.BadBundle before after fine given
of_run {S} {O} asked status.ReadFault before after fine given = absurd (fine.0 refl)
of_run {S} {O} asked status.WriteFault before after fine given = absurd (fine.1 refl)
of_run {S} {O} asked status.NoMemory before after fine given = refused asked status.NoMemory before after fine given
of_run {S} {O} asked status.NoRandom before after fine (inl given) = refused asked status.NoRandom before after fine given
of_run {S} {O} asked status.NoRandom before after fine (inr given) = given.nothing_rose
of_run {S} {O} asked status.BadRecord before after fine given = absurd given
of_run {S} {O} asked status.BadStore before after fine given = refused asked status.BadStore before after fine given
of_run {S} {O} asked status.Frozen before after fine given = absurd given
of_run {S} {O} asked status.BadState before after fine given = refused asked status.BadState before after fine given

of_stats_run : {S O : Type 0} (asked : spec.Asked) (answer : Status) (before after : Outside S O) →
    HasStats asked answer before after → NothingRose before after
of_stats_run {S} {O} asked answer before after given =
    record { reading = given.files.reading; writing = given.files.writing; faults = given.faults }

of_stats : {S O : Type 0} (asked : spec.Asked) (answer : Status) (before after : Outside S O) → IsNoFault answer →
    StatsAnswers asked before after answer → NothingRose before after
of_stats {S} {O} asked status.Done before after fine given = of_stats_run asked status.Done before after given
of_stats {S} {O} asked status.Violation before after fine given = of_stats_run asked status.Violation before after given
of_stats {S} {O} asked status.Usage before after fine given = refused asked status.Usage before after fine given
of_stats {S} {O} asked status.BadBundle before after fine given = refused asked status.BadBundle before after fine given
of_stats {S} {O} asked status.ReadFault before after fine given = absurd (fine.0 refl)
of_stats {S} {O} asked status.WriteFault before after fine given = absurd (fine.1 refl)
of_stats {S} {O} asked status.NoMemory before after fine given = refused asked status.NoMemory before after fine given
of_stats {S} {O} asked status.NoRandom before after fine (inl given) = refused asked status.NoRandom before after fine given
of_stats {S} {O} asked status.NoRandom before after fine (inr given) = of_stats_run asked status.NoRandom before after given
of_stats {S} {O} asked status.BadRecord before after fine given = absurd given
of_stats {S} {O} asked status.BadStore before after fine given = refused asked status.BadStore before after fine given
of_stats {S} {O} asked status.Frozen before after fine given = absurd given
of_stats {S} {O} asked status.BadState before after fine given = refused asked status.BadState before after fine given

of_store : {S O : Type 0} (asked : spec.Asked) (answer : Status) (before after : Outside S O) → IsNoFault answer →
    StoreAnswers asked before after answer → NothingRose before after
of_store {S} {O} asked status.Done before after fine given = given.becomes.nothing_rose
of_store {S} {O} asked status.Violation before after fine given = given.becomes.nothing_rose
of_store {S} {O} asked status.Usage before after fine given = refused asked status.Usage before after fine given
of_store {S} {O} asked status.BadBundle before after fine given = refused asked status.BadBundle before after fine given
of_store {S} {O} asked status.ReadFault before after fine given = absurd (fine.0 refl)
of_store {S} {O} asked status.WriteFault before after fine given = absurd (fine.1 refl)
of_store {S} {O} asked status.NoMemory before after fine given = refused asked status.NoMemory before after fine given
of_store {S} {O} asked status.NoRandom before after fine (inl given) = refused asked status.NoRandom before after fine given
of_store {S} {O} asked status.NoRandom before after fine (inr given) = given.becomes.nothing_rose
of_store {S} {O} asked status.BadRecord before after fine given = absurd given
of_store {S} {O} asked status.BadStore before after fine given = refused asked status.BadStore before after fine given
of_store {S} {O} asked status.Frozen before after fine given = absurd given
of_store {S} {O} asked status.BadState before after fine given = refused asked status.BadState before after fine given

of_freeze : {S O : Type 0} (asked : spec.Asked) (answer : Status) (before after : Outside S O) → IsNoFault answer →
    FreezeAnswers asked before after answer → NothingRose before after
of_freeze {S} {O} asked status.Done before after fine given = given.nothing_rose
of_freeze {S} {O} asked status.Violation before after fine given = given.nothing_rose
of_freeze {S} {O} asked status.Usage before after fine given = refused asked status.Usage before after fine given
of_freeze {S} {O} asked status.BadBundle before after fine given = refused asked status.BadBundle before after fine given
of_freeze {S} {O} asked status.ReadFault before after fine given = absurd (fine.0 refl)
of_freeze {S} {O} asked status.WriteFault before after fine given = absurd (fine.1 refl)
of_freeze {S} {O} asked status.NoMemory before after fine given = refused asked status.NoMemory before after fine given
of_freeze {S} {O} asked status.NoRandom before after fine (inl given) = refused asked status.NoRandom before after fine given
of_freeze {S} {O} asked status.NoRandom before after fine (inr (inl given)) = given.nothing_rose
of_freeze {S} {O} asked status.NoRandom before after fine (inr (inr given)) = given.nothing_rose
of_freeze {S} {O} asked status.BadRecord before after fine given = absurd given
of_freeze {S} {O} asked status.BadStore before after fine given = refused asked status.BadStore before after fine given
of_freeze {S} {O} asked status.Frozen before after fine given = given.nothing_rose
of_freeze {S} {O} asked status.BadState before after fine given = refused asked status.BadState before after fine given

of_thaw : {S O : Type 0} (asked : spec.Asked) (answer : Status) (before after : Outside S O) → IsNoFault answer →
    ThawAnswers asked before after answer → NothingRose before after
of_thaw {S} {O} asked status.Done before after fine given = given.nothing_rose
of_thaw {S} {O} asked status.Violation before after fine given = given.nothing_rose
of_thaw {S} {O} asked status.Usage before after fine given = refused asked status.Usage before after fine given
of_thaw {S} {O} asked status.BadBundle before after fine given = refused asked status.BadBundle before after fine given
of_thaw {S} {O} asked status.ReadFault before after fine given = absurd (fine.0 refl)
of_thaw {S} {O} asked status.WriteFault before after fine given = absurd (fine.1 refl)
of_thaw {S} {O} asked status.NoMemory before after fine given = refused asked status.NoMemory before after fine given
of_thaw {S} {O} asked status.NoRandom before after fine (inl given) = refused asked status.NoRandom before after fine given
of_thaw {S} {O} asked status.NoRandom before after fine (inr given) = given.nothing_rose
of_thaw {S} {O} asked status.BadRecord before after fine given = absurd given
of_thaw {S} {O} asked status.BadStore before after fine given = refused asked status.BadStore before after fine given
of_thaw {S} {O} asked status.Frozen before after fine given = absurd given
of_thaw {S} {O} asked status.BadState before after fine given = refused asked status.BadState before after fine given

read_well : (before now : ℕ) (answer : Status) (ended : Ending) → IsNoFault answer → answer ≡ status_of_ending ended →
    ReadsAs before now (Some ended) → now ≡ before
read_well before now answer ending.Whole fine is counts = counts
read_well before now answer (ending.Unfit step) fine is counts = counts
read_well before now answer (ending.Fault fault) fine is counts = counts
read_well before now answer ending.Unread fine is counts = absurd (fine.0 is)

of_view_read : {S O : Type 0} (asked : spec.Asked) (answer : Status) (before after : Outside S O) → IsNoFault answer →
    HasView asked answer before after → NothingRose before after
of_view_read {S} {O} asked answer before after fine given = record {
  reading = read_well _ _ answer given.reads.ended fine given.reads.status given.reads.read.counts;
  writing = given.only.writing;
  faults = given.reads.faults;
}

of_solo_read : {S O : Type 0} (asked : spec.Asked) (answer : Status) (before after : Outside S O) → IsNoFault answer →
    HasSolo asked answer before after → NothingRose before after
of_solo_read {S} {O} asked answer before after fine given = record {
  reading = read_well _ _ answer given.reads.ended fine given.reads.status given.reads.read.counts;
  writing = given.only.writing;
  faults = given.reads.faults;
}

of_view : {S O : Type 0} (asked : spec.Asked) (answer : Status) (before after : Outside S O) → IsNoFault answer →
    ViewAnswers asked before after answer → NothingRose before after
of_view {S} {O} asked status.Done before after fine given = of_view_read asked status.Done before after fine given
of_view {S} {O} asked status.Violation before after fine given = absurd given
of_view {S} {O} asked status.Usage before after fine given = absurd given
of_view {S} {O} asked status.BadBundle before after fine given = refused asked status.BadBundle before after fine given
of_view {S} {O} asked status.ReadFault before after fine given = absurd (fine.0 refl)
of_view {S} {O} asked status.WriteFault before after fine given = absurd (fine.1 refl)
of_view {S} {O} asked status.NoMemory before after fine given = refused asked status.NoMemory before after fine given
of_view {S} {O} asked status.NoRandom before after fine given = absurd given
of_view {S} {O} asked status.BadRecord before after fine given = of_view_read asked status.BadRecord before after fine given
of_view {S} {O} asked status.BadStore before after fine given = absurd given
of_view {S} {O} asked status.Frozen before after fine given = absurd given
of_view {S} {O} asked status.BadState before after fine given = absurd given

of_solo : {S O : Type 0} (asked : spec.Asked) (answer : Status) (before after : Outside S O) → IsNoFault answer →
    SoloAnswers asked before after answer → NothingRose before after
of_solo {S} {O} asked status.Done before after fine given = of_solo_read asked status.Done before after fine given
of_solo {S} {O} asked status.Violation before after fine given = absurd given
of_solo {S} {O} asked status.Usage before after fine given = refused asked status.Usage before after fine given
of_solo {S} {O} asked status.BadBundle before after fine given = refused asked status.BadBundle before after fine given
of_solo {S} {O} asked status.ReadFault before after fine given = absurd (fine.0 refl)
of_solo {S} {O} asked status.WriteFault before after fine given = absurd (fine.1 refl)
of_solo {S} {O} asked status.NoMemory before after fine given = refused asked status.NoMemory before after fine given
of_solo {S} {O} asked status.NoRandom before after fine given = absurd given
of_solo {S} {O} asked status.BadRecord before after fine given = of_solo_read asked status.BadRecord before after fine given
of_solo {S} {O} asked status.BadStore before after fine given = absurd given
of_solo {S} {O} asked status.Frozen before after fine given = absurd given
of_solo {S} {O} asked status.BadState before after fine given = absurd given

-- A program over files of an earlier run.

lacks_quietly : (held : List ℕ → Option (List ℕ)) (old : spec.OldFiles) (b : Bundle) (d : ℕ) (p : Program) (before now : ℕ)
    (unread : Option (List ℕ)) (r : Refusal) → status_of_refusal r ≢ status.ReadFault →
    LacksOver held old b d p before now unread r → now ≡ before
lacks_quietly held old b d p before now unread (refusal.Usage fault) away lacks = absurd lacks
lacks_quietly held old b d p before now unread (refusal.BadBundle fault) away lacks = absurd lacks
lacks_quietly held old b d p before now unread refusal.ReadFault away lacks = absurd (away refl)
lacks_quietly held old b d p before now unread refusal.NoMemory away lacks = lacks
lacks_quietly held old b d p before now unread refusal.NoKey away lacks = absurd lacks
lacks_quietly held old b d p before now unread refusal.NoPageDraw away lacks = absurd lacks
lacks_quietly held old b d p before now unread refusal.NoSuchDomain away lacks = absurd lacks
lacks_quietly held old b d p before now unread refusal.ShortSecret away lacks = lacks.0
lacks_quietly held old b d p before now unread (refusal.BadStore fault) away lacks = lacks.0
lacks_quietly held old b d p before now unread (refusal.NoRoom domain) away lacks = lacks.0
lacks_quietly held old b d p before now unread (refusal.BadState fault) away lacks = absurd lacks
lacks_quietly held old b d p before now unread (refusal.ChangedDomain domain) away lacks = absurd lacks
lacks_quietly held old b d p before now unread (refusal.ChangedFrame frame) away lacks = absurd lacks

over_reading : {S : Type 0} (asked : spec.Asked) (r : Refusal) (before after : FilesOutside S) →
    status_of_refusal r ≢ status.ReadFault → HasCauseOver asked r before after → after.reading ≡ before.reading
over_reading {S} asked (refusal.Usage fault) before after away cause =
    lacks_quietly before.held cause.old cause.bundle cause.d cause.p _ _ after.unread (refusal.Usage fault) away cause.lacks
over_reading {S} asked (refusal.BadBundle fault) before after away cause =
    lacks_quietly before.held cause.old cause.bundle cause.d cause.p _ _ after.unread (refusal.BadBundle fault) away cause.lacks
over_reading {S} asked refusal.ReadFault before after away cause =
    lacks_quietly before.held cause.old cause.bundle cause.d cause.p _ _ after.unread refusal.ReadFault away cause.lacks
over_reading {S} asked refusal.NoMemory before after away cause =
    lacks_quietly before.held cause.old cause.bundle cause.d cause.p _ _ after.unread refusal.NoMemory away cause.lacks
over_reading {S} asked refusal.NoKey before after away cause =
    lacks_quietly before.held cause.old cause.bundle cause.d cause.p _ _ after.unread refusal.NoKey away cause.lacks
over_reading {S} asked refusal.NoPageDraw before after away cause =
    lacks_quietly before.held cause.old cause.bundle cause.d cause.p _ _ after.unread refusal.NoPageDraw away cause.lacks
over_reading {S} asked refusal.NoSuchDomain before after away cause = cause.reading
over_reading {S} asked refusal.ShortSecret before after away cause =
    lacks_quietly before.held cause.old cause.bundle cause.d cause.p _ _ after.unread refusal.ShortSecret away cause.lacks
over_reading {S} asked (refusal.BadStore fault) before after away cause =
    lacks_quietly before.held cause.old cause.bundle cause.d cause.p _ _ after.unread (refusal.BadStore fault) away cause.lacks
over_reading {S} asked (refusal.NoRoom domain) before after away cause =
    lacks_quietly before.held cause.old cause.bundle cause.d cause.p _ _ after.unread (refusal.NoRoom domain) away cause.lacks
over_reading {S} asked (refusal.BadState fault) before after away cause =
    lacks_quietly before.held cause.old cause.bundle cause.d cause.p _ _ after.unread (refusal.BadState fault) away cause.lacks
over_reading {S} asked (refusal.ChangedDomain domain) before after away cause =
    lacks_quietly before.held cause.old cause.bundle cause.d cause.p _ _ after.unread (refusal.ChangedDomain domain) away cause.lacks
over_reading {S} asked (refusal.ChangedFrame frame) before after away cause =
    lacks_quietly before.held cause.old cause.bundle cause.d cause.p _ _ after.unread (refusal.ChangedFrame frame) away cause.lacks

refused_over : {S O : Type 0} (asked : spec.Asked) (answer : Status) (before after : Outside S O) → IsNoFault answer →
    IsRefusedOver asked answer before after → NothingRose before after
refused_over {S} {O} asked answer before after fine given = record {
  reading = over_reading asked given.refused before.files after.files (λ same. fine.0 (given.status ∙ same)) given.cause;
  writing = given.only.writing;
  faults = given.faults;
}

of_solo_over_read : {S O : Type 0} (asked : spec.Asked) (answer : Status) (before after : Outside S O) → IsNoFault answer →
    HasSoloOver asked answer before after → NothingRose before after
of_solo_over_read {S} {O} asked answer before after fine given = record {
  reading = read_well _ _ answer given.reads.ended fine given.reads.status given.reads.read.counts;
  writing = given.only.writing;
  faults = given.reads.faults;
}

of_solo_over : {S O : Type 0} (asked : spec.Asked) (answer : Status) (before after : Outside S O) → IsNoFault answer →
    SoloOverAnswers asked before after answer → NothingRose before after
of_solo_over {S} {O} asked status.Done before after fine given =
    of_solo_over_read asked status.Done before after fine given
of_solo_over {S} {O} asked status.Violation before after fine given = absurd given
of_solo_over {S} {O} asked status.Usage before after fine given =
    refused_over asked status.Usage before after fine given
of_solo_over {S} {O} asked status.BadBundle before after fine given =
    refused asked status.BadBundle before after fine given
of_solo_over {S} {O} asked status.ReadFault before after fine given = absurd (fine.0 refl)
of_solo_over {S} {O} asked status.WriteFault before after fine given = absurd (fine.1 refl)
of_solo_over {S} {O} asked status.NoMemory before after fine (inl given) =
    refused asked status.NoMemory before after fine given
of_solo_over {S} {O} asked status.NoMemory before after fine (inr given) =
    refused_over asked status.NoMemory before after fine given
of_solo_over {S} {O} asked status.NoRandom before after fine given = absurd given
of_solo_over {S} {O} asked status.BadRecord before after fine given =
    of_solo_over_read asked status.BadRecord before after fine given
of_solo_over {S} {O} asked status.BadStore before after fine given =
    refused_over asked status.BadStore before after fine given
of_solo_over {S} {O} asked status.Frozen before after fine given = absurd given
of_solo_over {S} {O} asked status.BadState before after fine given = absurd given

of_gen : {S O : Type 0} (number : ℕ) (name : List ℕ) (answer : Status) (before after : Outside S O) → IsNoFault answer →
    GenAnswers number name before after answer → NothingRose before after
of_gen {S} {O} number name status.Done before after fine given =
    record { reading = given.file.reading; writing = given.file.writing; faults = given.line_shown.faults }
of_gen {S} {O} number name status.Violation before after fine given = absurd given
of_gen {S} {O} number name status.Usage before after fine given = absurd given
of_gen {S} {O} number name status.BadBundle before after fine given = absurd given
of_gen {S} {O} number name status.ReadFault before after fine given = absurd (fine.0 refl)
of_gen {S} {O} number name status.WriteFault before after fine given = absurd (fine.1 refl)
of_gen {S} {O} number name status.NoMemory before after fine given = record {
  reading = ap (λ (f : FilesOutside S). f.reading) given.untouched;
  writing = ap (λ (f : FilesOutside S). f.writing) given.untouched;
  faults = given.line.faults;
}
of_gen {S} {O} number name status.NoRandom before after fine given = absurd given
of_gen {S} {O} number name status.BadRecord before after fine given = absurd given
of_gen {S} {O} number name status.BadStore before after fine given = absurd given
of_gen {S} {O} number name status.Frozen before after fine given = absurd given
of_gen {S} {O} number name status.BadState before after fine given = absurd given

of_demo : {O : Type 0} (number steps : ℕ) (answer : Status) (before after : Output O) → IsNoFault answer →
    DemoAnswers number steps before after answer → after.faults ≡ before.faults
of_demo {O} number steps status.Done before after fine given = given.faults
of_demo {O} number steps status.Violation before after fine given = given.faults
of_demo {O} number steps status.Usage before after fine given = absurd given
of_demo {O} number steps status.BadBundle before after fine given = absurd given
of_demo {O} number steps status.ReadFault before after fine given = absurd (fine.0 refl)
of_demo {O} number steps status.WriteFault before after fine given = absurd (fine.1 refl)
of_demo {O} number steps status.NoMemory before after fine given = given.faults
of_demo {O} number steps status.NoRandom before after fine given = given.faults
of_demo {O} number steps status.BadRecord before after fine given = absurd given
of_demo {O} number steps status.BadStore before after fine given = absurd given
of_demo {O} number steps status.Frozen before after fine given = absurd given
of_demo {O} number steps status.BadState before after fine given = absurd given

of_upgrade : {S O : Type 0} (old_name new_name : List ℕ) (answer : Status) (before after : Outside S O) → IsNoFault answer →
    UpgradeAnswers old_name new_name before after answer → NothingRose before after
of_upgrade {S} {O} old_name new_name status.Done before after fine given = record {
  reading = given.written.file.reading;
  writing = given.written.file.writing;
  faults = given.written.line_shown.faults;
}
of_upgrade {S} {O} old_name new_name status.Violation before after fine given = absurd given
of_upgrade {S} {O} old_name new_name status.Usage before after fine given = absurd given
of_upgrade {S} {O} old_name new_name status.BadBundle before after fine (inl given) = refused (spec.Upgrade old_name new_name) status.BadBundle before after fine given
of_upgrade {S} {O} old_name new_name status.BadBundle before after fine (inr given) =
    record { reading = given.files.reading; writing = given.files.writing; faults = given.shown.faults }
of_upgrade {S} {O} old_name new_name status.ReadFault before after fine given = absurd (fine.0 refl)
of_upgrade {S} {O} old_name new_name status.WriteFault before after fine given = absurd (fine.1 refl)
of_upgrade {S} {O} old_name new_name status.NoMemory before after fine given = refused (spec.Upgrade old_name new_name) status.NoMemory before after fine given
of_upgrade {S} {O} old_name new_name status.NoRandom before after fine given = absurd given
of_upgrade {S} {O} old_name new_name status.BadRecord before after fine given = absurd given
of_upgrade {S} {O} old_name new_name status.BadStore before after fine given = absurd given
of_upgrade {S} {O} old_name new_name status.Frozen before after fine given = absurd given
of_upgrade {S} {O} old_name new_name status.BadState before after fine given = absurd given

only_refused : {S O : Type 0} (asked : spec.Asked) (answer : Status) (before after : Outside S O) → IsNoFault answer →
    OnlyRefuses asked before after answer → NothingRose before after
only_refused {S} {O} asked answer before after fine (inl given) = refused asked answer before after fine given
only_refused {S} {O} asked answer before after fine (inr given) = absurd (fine.1 given.0)

pub faultless : {S O : Type 0} (asked : spec.Asked) (answer : Status) (before after : Outside S O) → IsNoFault answer →
    Answers asked before after answer → NothingRose before after
faultless {S} {O} (spec.Faulty fault) answer before after fine given =
    only_refused (spec.Faulty fault) answer before after fine given
faultless {S} {O} (spec.Run bundle record_name steps randomness) answer before after fine given =
    of_run (spec.Run bundle record_name steps randomness) answer before after fine given
faultless {S} {O} (spec.View bundle record_name) answer before after fine given =
    of_view (spec.View bundle record_name) answer before after fine given
faultless {S} {O} (spec.Solo domain bundle record_name) answer before after fine given =
    of_solo (spec.Solo domain bundle record_name) answer before after fine given
faultless {S} {O} (spec.SoloOver domain bundle record_name old) answer before after fine given =
    of_solo_over (spec.SoloOver domain bundle record_name old) answer before after fine given
faultless {S} {O} (spec.Gen number bundle_name) answer before after fine given =
    of_gen number bundle_name answer before after fine given
faultless {S} {O} (spec.Demo number steps) answer before after fine given = record {
  reading = ap (λ (f : FilesOutside S). f.reading) given.untouched;
  writing = ap (λ (f : FilesOutside S). f.writing) given.untouched;
  faults = of_demo number steps answer before.output after.output fine given.answers;
}
faultless {S} {O} (spec.Stats bundle steps randomness) answer before after fine given =
    of_stats (spec.Stats bundle steps randomness) answer before after fine given
faultless {S} {O} (spec.Upgrade old_name new_name) answer before after fine given =
    of_upgrade old_name new_name answer before after fine given
faultless {S} {O} (spec.Store names counter steps randomness) answer before after fine given =
    of_store (spec.Store names counter steps randomness) answer before after fine given
faultless {S} {O} (spec.Freeze names steps randomness) answer before after fine given =
    of_freeze (spec.Freeze names steps randomness) answer before after fine given
faultless {S} {O} (spec.Thaw names steps randomness) answer before after fine given =
    of_thaw (spec.Thaw names steps randomness) answer before after fine given
