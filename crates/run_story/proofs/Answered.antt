-- What `explain` returns.
use Rattle.std.proofs.Common.{◌≡◌, ◌≢◌, ℕ, List, ◌++◌, Option, Some, None, IfSome, Err, inl, inr, refl, sym, ap, subst, ◌∙◌, string_bytes}
use Rattle.io_traits.specs.Told.{Grows}
use Rattle.cloak_model.specs.declared.image.Bundle.{Bundle}
use Rattle.cloak_model.specs.Items.{Item}
use Rattle.cloak_model.specs.declared.fault.BundleFault.{BundleFault}
use Rattle.cloak_model.specs.BundleFault.{bundle_fault}
use Rattle.command_parts.specs.Bundles.{IsInFile, ReadsBundle, ReadsJudging}
use Rattle.command_parts.specs.Outside.{Outside}
use Rattle.command_parts.specs.Refusal.{status_of_refusal}
use Rattle.command_parts.specs.Refusing.{Refuses}
use Rattle.command_parts.specs.declared.refusal.Refusal.{Refusal}
use Rattle.command_parts.specs.declared.refusal.Refusal.TheVariants as refusal
use Rattle.command_parts.specs.declared.status.Status.{Status}
use Rattle.command_parts.specs.declared.status.Status.TheVariants as status
use Rattle.read_back.specs.declared.ending.Ending.{Ending}
use Rattle.read_back.specs.declared.ending.Ending.TheVariants as ending
use Rattle.replayed_run.specs.Noted.{noted_in}
use Rattle.replayed_run.specs.declared.notes.Notes.{Notes}
use Rattle.run_story.specs.Answering.{ExplainAnswers, HasBundleFault, HasStory, LacksStory, ReadingEnds, ShowsEnding, ShowsStory, ShowsUntold, last_sentence}
use Rattle.run_story.specs.Passages.{summary}
use Rattle.run_story.specs.Telling.{Knows, story_text}
use Rattle.run_story.specs.Told.{ended_count, told_in}
use Rattle.run_story.proofs.StoryMore.{knows_fit}
use Rattle.run_story.specs.declared.story.Story.{Story}
use Rattle.run_story.specs.declared.untold.Untold.{Untold}
use Rattle.run_story.specs.declared.untold.Untold.TheVariants as untold

-- the answer is this status
answers_so : {S O : Type 0} (bundle_name record_name : List ℕ) (before after : Outside S O) (answer given : Status) →
    answer ≡ given → ExplainAnswers bundle_name record_name before after given →
    ExplainAnswers bundle_name record_name before after answer
answers_so {S} {O} bundle_name record_name before after answer given is cause =
    subst (λ (s : Status). ExplainAnswers bundle_name record_name before after s) (sym is) cause

has_fault : (told : Option (List ℕ)) (fault : BundleFault) → IfSome told (λ bytes. bundle_fault bytes ≡ Some fault) →
    HasBundleFault told
has_fault (Some bytes) fault is = (fault, is)
has_fault None fault is = tt

by_line : {S O : Type 0} (bundle_name record_name : List ℕ) (before after : Outside S O) (r : Refusal) →
    ReadsJudging {A = Bundle} (before.files.held bundle_name) before.files.reading after.files.reading (Err r) →
    after.output.faults ≡ before.output.faults →
    ExplainAnswers bundle_name record_name before after (status_of_refusal r)
by_line {S} {O} bundle_name record_name before after (refusal.Usage fault) reads faults = absurd reads
by_line {S} {O} bundle_name record_name before after (refusal.BadBundle fault) reads faults =
    (has_fault (before.files.held bundle_name) fault reads.1, faults)
by_line {S} {O} bundle_name record_name before after refusal.ReadFault reads faults = reads
by_line {S} {O} bundle_name record_name before after refusal.NoMemory reads faults = tt
by_line {S} {O} bundle_name record_name before after refusal.NoKey reads faults = absurd reads
by_line {S} {O} bundle_name record_name before after refusal.NoPageDraw reads faults = absurd reads
by_line {S} {O} bundle_name record_name before after refusal.NoSuchDomain reads faults = absurd reads
by_line {S} {O} bundle_name record_name before after refusal.ShortSecret reads faults = absurd reads
by_line {S} {O} bundle_name record_name before after (refusal.BadStore fault) reads faults = absurd reads
by_line {S} {O} bundle_name record_name before after (refusal.NoRoom domain) reads faults = absurd reads
by_line {S} {O} bundle_name record_name before after (refusal.BadState fault) reads faults = absurd reads
by_line {S} {O} bundle_name record_name before after (refusal.ChangedDomain domain) reads faults = absurd reads
by_line {S} {O} bundle_name record_name before after (refusal.ChangedFrame frame) reads faults = absurd reads

-- there is no bundle
pub no_bundle : {S O : Type 0} (bundle_name record_name : List ℕ) (before after : Outside S O) (r : Refusal)
    (answer : Status) → ReadsBundle (before.files.held bundle_name) before.files.reading after.files.reading (Err r) →
    Refuses before.output after.output r answer → ExplainAnswers bundle_name record_name before after answer
no_bundle {S} {O} bundle_name record_name before after r answer reads (inl line) =
    answers_so bundle_name record_name before after answer (status_of_refusal r) line.answer
    (by_line bundle_name record_name before after r reads line.faults)
no_bundle {S} {O} bundle_name record_name before after r answer reads (inr front) =
    answers_so bundle_name record_name before after answer status.WriteFault front.answer front.faults

-- what a story shows, by its items
told_text : (b : Bundle) (items : List Item) (s : Story) → Knows b items s →
    story_text s ≡ string_bytes s.text ++ last_sentence b items
told_text b items s knows =
    ap (λ (n : Notes). string_bytes s.text ++ summary n (ended_count s.ended) s.refused) knows.watches.notes
    ∙ (ap (λ (l : List (Option ℕ)). string_bytes s.text ++ summary (noted_in b items).notes (ended_count l) s.refused)
    knows.ended
    ∙ ap (λ (n : ℕ). string_bytes s.text
    ++ summary (noted_in b items).notes (ended_count (told_in b items).ended) n) knows.refused)

-- a story was shown
pub shows_story : {S O : Type 0} (bundle_name record_name : List ℕ) (before after : Outside S O) (b : Bundle) (s : Story)
    (answer : Status) → IsInFile (before.files.held bundle_name) b → HasStory b (before.files.held record_name) s →
    after.files.reading ≡ before.files.reading → ShowsStory (story_text s) before.output after.output answer →
    ExplainAnswers bundle_name record_name before after answer
shows_story {S} {O} bundle_name record_name before after b s status.Done file has reading shows = record {
  bundle = b;
  file = file;
  items = has.items;
  record_file = has.file;
  fits = knows_fit b has.items s has.tells.knows;
  reading = reading;
  passages = string_bytes s.text;
  told = has.tells.text;
  shown = subst (λ (text : List ℕ). Grows before.output.taken after.output.taken text)
      (told_text b has.items s has.tells.knows) shows.0;
  faults = shows.1;
}
shows_story {S} {O} bundle_name record_name before after b s status.Violation file has reading shows = absurd shows
shows_story {S} {O} bundle_name record_name before after b s status.Usage file has reading shows = absurd shows
shows_story {S} {O} bundle_name record_name before after b s status.BadBundle file has reading shows = absurd shows
shows_story {S} {O} bundle_name record_name before after b s status.ReadFault file has reading shows = absurd shows
shows_story {S} {O} bundle_name record_name before after b s status.WriteFault file has reading shows = shows
shows_story {S} {O} bundle_name record_name before after b s status.NoMemory file has reading shows = tt
shows_story {S} {O} bundle_name record_name before after b s status.NoRandom file has reading shows = absurd shows
shows_story {S} {O} bundle_name record_name before after b s status.BadRecord file has reading shows = absurd shows
shows_story {S} {O} bundle_name record_name before after b s status.BadStore file has reading shows = absurd shows
shows_story {S} {O} bundle_name record_name before after b s status.Frozen file has reading shows = absurd shows
shows_story {S} {O} bundle_name record_name before after b s status.BadState file has reading shows = absurd shows

-- The line of an ending was shown. A whole record has a story, so reading it ends otherwise.
shows_ending : {S O : Type 0} (bundle_name record_name : List ℕ) (before after : Outside S O) (b : Bundle) (ended : Ending)
    (answer : Status) → ended ≢ ending.Whole → IsInFile (before.files.held bundle_name) b →
    ReadingEnds b (before.files.held record_name) before.files.reading after.files.reading ended →
    ShowsEnding ended before.output after.output answer → ExplainAnswers bundle_name record_name before after answer
shows_ending {S} {O} bundle_name record_name before after b ending.Whole answer other file ends (inl (is, line, faults)) =
    absurd (other refl)
shows_ending {S} {O} bundle_name record_name before after b (ending.Unfit step) answer other file ends
    (inl (is, line, faults)) =
    answers_so bundle_name record_name before after answer status.BadRecord is (record {
      bundle = b;
      file = file;
      ended = ending.Unfit step;
      status = refl;
      ends = ends;
      line = line;
      faults = faults;
    })
shows_ending {S} {O} bundle_name record_name before after b (ending.Fault fault) answer other file ends
    (inl (is, line, faults)) =
    answers_so bundle_name record_name before after answer status.BadRecord is (record {
      bundle = b;
      file = file;
      ended = ending.Fault fault;
      status = refl;
      ends = ends;
      line = line;
      faults = faults;
    })
shows_ending {S} {O} bundle_name record_name before after b ending.Unread answer other file ends
    (inl (is, line, faults)) =
    answers_so bundle_name record_name before after answer status.ReadFault is ends
shows_ending {S} {O} bundle_name record_name before after b ended answer other file ends (inr (is, rose)) =
    answers_so bundle_name record_name before after answer status.WriteFault is rose

-- there is no story
pub shows_untold : {S O : Type 0} (bundle_name record_name : List ℕ) (before after : Outside S O) (b : Bundle)
    (why : Untold) (answer : Status) → IsInFile (before.files.held bundle_name) b →
    LacksStory b (before.files.held record_name) before.files.reading after.files.reading why →
    ShowsUntold why before.output after.output answer → ExplainAnswers bundle_name record_name before after answer
shows_untold {S} {O} bundle_name record_name before after b untold.NoMemory answer file lacks (inl line) =
    answers_so bundle_name record_name before after answer status.NoMemory line.answer tt
shows_untold {S} {O} bundle_name record_name before after b untold.NoMemory answer file lacks (inr front) =
    answers_so bundle_name record_name before after answer status.WriteFault front.answer front.faults
shows_untold {S} {O} bundle_name record_name before after b (untold.Ended ended) answer file lacks shows =
    shows_ending bundle_name record_name before after b ended answer lacks.0 file lacks.1 shows
