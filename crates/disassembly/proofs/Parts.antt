-- What is shown of a part of an image.
use Rattle.std.proofs.Common.{◌≡◌, ℕ, List, Option, Result, Ok, Err, inl, inr, refl}
use Rattle.cloak_base.specs.declared.causes.Failed.{Failed}
use Rattle.io_traits.specs.declared.sink.Sink as sinks
use Rattle.cloak_model.specs.declared.image.Bundle.{Bundle}
use Rattle.kernel_report.specs.Putting.{PutsMore, putting}
use Rattle.kernel_report.proofs.PutFacts.{Puts-all}
use Rattle.io_traits.specs.Told.{Puts}
use Rattle.command_parts.specs.Bundles.{IsInFile}
use Rattle.command_parts.specs.Outside.{Output, output}
use Rattle.command_parts.specs.declared.status.Status.{Status}
use Rattle.disassembly.specs.Disassembling.{ShowsText}
use Rattle.disassembly.specs.ImageParts.{MadePart, MakesPart, ReadsPart, status_shown}
use Rattle.disassembly.specs.declared.part.ImagePart.{ImagePart}
use Rattle.disassembly.specs.declared.part.NoText.TheVariants.{Refused, NoPart, Faulty}

shown_as : {O : Type 0} (before after : Output O) (text : List ℕ) (meant given : Status) (so_far : Result Unit Failed) →
    Puts before.taken after.taken before.faults after.faults text so_far → given ≡ status_shown meant so_far →
    ShowsText text meant before after given
shown_as before after text meant given (Ok u) puts is =
    inl (record { answered = is; text_shown = puts.0; faults = puts.1 })
shown_as before after text meant given (Err failed) puts is =
    inr (record { answered = is; front_shown = puts.0; faults = puts.1 })

-- a text was put, and this is the answer
pub shows : {O : Type 0} (sink : sinks.Ghosts O) (old new : O) (text : List ℕ) (meant given : Status)
    (so_far : Result Unit Failed) → PutsMore (putting sink old (Ok tt)) (putting sink new so_far) text →
    given ≡ status_shown meant so_far → ShowsText text meant (output sink old) (output sink new) given
shows sink old new text meant given so_far puts is =
    shown_as (output sink old) (output sink new) text meant given so_far
    (Puts-all (putting sink old (Ok tt)) (putting sink new so_far) text refl puts) is

-- what was made of a part of the image in a file
pub reads : (told : Option (List ℕ)) (p : ImagePart) (before now : ℕ) (b : Bundle) (made : MadePart) → now ≡ before →
    IsInFile told b → MakesPart b p made → ReadsPart told p before now made
reads told p before now b (Ok text) counts file makes = (
  counts,
  record {
    placed = makes.0;
    part = record { bundle = b; file = file; has = makes.1 };
    disassembled = makes.2;
  },
)
reads told p before now b (Err (Refused refused)) counts file makes = rw makes counts
reads told p before now b (Err NoPart) counts file makes =
    (counts, record { bundle = b; file = file; lacks = makes })
reads told p before now b (Err (Faulty fault)) counts file makes = (
  counts,
  record {
    placed = makes.0;
    part = record { bundle = b; file = file; has = makes.1 };
    cause = makes.2;
    is_no_want = makes.3;
  },
)
