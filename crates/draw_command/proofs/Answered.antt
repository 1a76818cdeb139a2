-- What `draw` answers.
use Rattle.std.proofs.Common.{◌≡◌, ◌∙◌, ℕ, List, Option, Some, Bool, true, false, true≢false, inl, inr, refl, sym, ap, subst}
use Rattle.cloak_model.specs.declared.image.Bundle.{Bundle}
use Rattle.cloak_model.specs.declared.image.KernelImage.{KernelImage}
use Rattle.io_traits.specs.Told.{Rose, SameFiles}
use Rattle.command_parts.specs.Outside.{FilesOutside, Outside, Output}
use Rattle.command_parts.specs.Refusing.{Refuses}
use Rattle.command_parts.specs.declared.refusal.Refusal.TheVariants as refusal
use Rattle.command_parts.specs.declared.status.Status.{Status}
use Rattle.read_back.specs.Reading.{ReadsAs}
use Rattle.read_back.specs.declared.ending.Ending.{Ending}
use Rattle.read_back.specs.declared.ending.Ending.TheVariants as ending
use Rattle.draw_command.specs.Drawing.{Concludes, DrawsBundle, MakesPicture, ShowsEnding, WritesAndShows, is_unread}
use Rattle.draw_command.specs.Replaying.{ReadsRun}
use Rattle.draw_command.specs.declared.command.Made.{Made}
use Rattle.draw_command.specs.declared.command.Made.TheVariants as made

-- Reading.

counts_same : (m n : ℕ) (ended : Ending) → is_unread ended ≡ false → ReadsAs m n (Some ended) → n ≡ m
counts_same m n ending.Whole other counts = counts
counts_same m n (ending.Unfit step) other counts = counts
counts_same m n (ending.Fault fault) other counts = counts
counts_same m n ending.Unread other counts = absurd (true≢false other)

-- no call that reads failed
pub reading_same : (k : KernelImage) (told : Option (List ℕ)) (m n : ℕ) (ended : Ending) (unread : Bool) →
    unread ≡ is_unread ended → unread ≡ false → ReadsRun k told m n ended → n ≡ m
reading_same k told m n ended unread is other reads = counts_same m n ended (sym is ∙ other) reads.read.counts

-- the same of an ending that is the same
pub reads_same : (k : KernelImage) (told : Option (List ℕ)) (m n : ℕ) (ended other : Ending) → other ≡ ended →
    ReadsRun k told m n ended → ReadsRun k told m n other
reads_same k told m n ended other is reads = subst (λ (e : Ending). ReadsRun k told m n e) (sym is) reads

ending_unread : (ended : Ending) → is_unread ended ≡ true → ended ≡ ending.Unread
ending_unread ending.Unread is = refl
ending_unread ending.Whole is = absurd (true≢false (sym is))
ending_unread (ending.Unfit step) is = absurd (true≢false (sym is))
ending_unread (ending.Fault fault) is = absurd (true≢false (sym is))

-- a call that reads failed
pub reads_unread : (k : KernelImage) (told : Option (List ℕ)) (m n : ℕ) (ended : Ending) (unread : Bool) →
    unread ≡ is_unread ended → unread ≡ true → ReadsRun k told m n ended → ReadsRun k told m n ending.Unread
reads_unread k told m n ended unread is failed reads =
    subst (λ (e : Ending). ReadsRun k told m n e) (ending_unread ended (sym is ∙ failed)) reads

-- what was made since the record was read before
reads_since : (k : KernelImage) (told now : Option (List ℕ)) (m n last : ℕ) (ended : Ending) → now ≡ told → n ≡ m →
    ReadsRun k now n last ended → ReadsRun k told m last ended
reads_since k told now m n last ended same counts reads =
    subst (λ (t : Option (List ℕ)). ReadsRun k t m last ended) same
    (subst (λ (x : ℕ). ReadsRun k now x last ended) counts reads)

pub makes_since : (k : KernelImage) (told now : Option (List ℕ)) (m n last : ℕ) (given : Made) → now ≡ told → n ≡ m →
    MakesPicture k now n last given → MakesPicture k told m last given
makes_since k told now m n last (made.Drawn text ended) same counts makes =
    (makes.0, (reads_since k told now m n last ended same counts makes.1.0, makes.1.1 ∙ counts))
makes_since k told now m n last made.Unread same counts makes =
    reads_since k told now m n last ending.Unread same counts makes
makes_since k told now m n last made.NoMemory same counts makes = makes ∙ counts

-- The whole.

writes_since : {S O : Type 0} (bytes : List ℕ) (ended : Ending) (name : List ℕ) (mid after : Outside S O) (answer : Status) →
    WritesAndShows bytes ended name mid after answer → after.files.reading ≡ mid.files.reading
writes_since {S} {O} bytes ended name mid after answer (inl wrote) = wrote.0.reading
writes_since {S} {O} bytes ended name mid after answer (inr part) = part.1.reading

-- the same since before the record was read
writes_from : {S O : Type 0} (bytes : List ℕ) (ended : Ending) (name : List ℕ) (before mid after : Outside S O)
    (answer : Status) → SameFiles before.files.held mid.files.held → mid.files.reading ≡ before.files.reading →
    mid.files.writing ≡ before.files.writing → mid.output ≡ before.output →
    WritesAndShows bytes ended name mid after answer → WritesAndShows bytes ended name before after answer
writes_from {S} {O} bytes ended name before mid after answer held reading writing output (inl wrote) = inl (
  record {
    file = wrote.0.file;
    others = λ other differs. wrote.0.others other differs ∙ held other;
    reading = wrote.0.reading ∙ reading;
    writing = wrote.0.writing ∙ writing;
  },
  subst (λ (o : Output O). ShowsEnding ended o after.output answer) output wrote.1,
)
writes_from {S} {O} bytes ended name before mid after answer held reading writing output (inr part) = inr (
  part.0,
  record {
    file = elim part.1.file [ inl same ↦ inl (same ∙ held name) | inr front ↦ inr front ];
    others = λ other differs. part.1.others other differs ∙ held other;
    reading = part.1.reading ∙ reading;
    writing = subst (λ (n : ℕ). Rose n after.files.writing) writing part.1.writing;
  },
  part.2 ∙ output,
)

pub draws : {S O : Type 0} (bundle : Bundle) (record_name out_name : List ℕ) (before mid after : Outside S O)
    (answer : Status) (given : Made) → SameFiles before.files.held mid.files.held →
    mid.files.writing ≡ before.files.writing → mid.output ≡ before.output →
    MakesPicture bundle.kernel (before.files.held record_name) before.files.reading mid.files.reading given →
    Concludes given out_name mid after answer → DrawsBundle bundle record_name out_name before after answer
draws {S} {O} bundle record_name out_name before mid after answer (made.Drawn text ended) held writing output makes shows =
    inl (record {
      bytes = text.items;
      picture = makes.0;
      ended = ended;
      read = subst (λ (n : ℕ). ReadsRun bundle.kernel (before.files.held record_name) before.files.reading n ended)
          (sym (writes_since text.items ended out_name mid after answer shows)) makes.1.0;
      reading = writes_since text.items ended out_name mid after answer shows ∙ makes.1.1;
      wrote = writes_from text.items ended out_name before mid after answer held makes.1.1 writing output shows;
    })
draws {S} {O} bundle record_name out_name before mid after answer made.Unread held writing output makes shows =
    inr (inl (record {
      read = subst (λ (f : FilesOutside S). ReadsRun bundle.kernel (before.files.held record_name) before.files.reading
          f.reading ending.Unread) (sym shows.1) makes;
      held = λ name. ap (λ (f : FilesOutside S). f.held name) shows.1 ∙ held name;
      writing = ap (λ (f : FilesOutside S). f.writing) shows.1 ∙ writing;
      line = subst (λ (o : Output O). ShowsEnding ending.Unread o after.output answer) output shows.0;
    }))
draws {S} {O} bundle record_name out_name before mid after answer made.NoMemory held writing output makes shows =
    inr (inr (
      record {
        held = λ name. ap (λ (f : FilesOutside S). f.held name) shows.1 ∙ held name;
        writing = ap (λ (f : FilesOutside S). f.writing) shows.1 ∙ writing;
        line = subst (λ (o : Output O). Refuses o after.output refusal.NoMemory answer) output shows.0;
      },
      ap (λ (f : FilesOutside S). f.reading) shows.1 ∙ makes,
    ))
