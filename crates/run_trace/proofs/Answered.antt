-- What a record that was traced is answered.
use Rattle.std.proofs.Common.{◌≡◌, ◌∙◌, ℕ, List, Option, Some, None, Result, Ok, Err, inl, inr, refl, subst}
use Rattle.cloak_base.specs.declared.causes.Failed.{Failed}
use Rattle.cloak_model.specs.Items.{Item}
use Rattle.io_traits.specs.Told.{GrowsByFront, Puts, Rose, SameFiles}
use Rattle.cloak_model.specs.declared.image.Bundle.{Bundle}
use Rattle.command_parts.specs.Outside.{Outside, Output}
use Rattle.command_parts.specs.Refusing.{Refuses}
use Rattle.command_parts.specs.declared.refusal.Refusal.{Refusal}
use Rattle.command_parts.specs.declared.status.Status.{Status}
use Rattle.command_parts.specs.declared.status.Status.TheVariants as status
use Rattle.read_back.specs.Reading.{IsReadTo, ShowsRecord}
use Rattle.read_back.specs.declared.ending.Ending.{Ending}
use Rattle.record_text.specs.Reading.{status_shown}
use Rattle.read_back.proofs.Answered.{read_since, reads_since}
use Rattle.run_trace.specs.Answering.{RefusesTrace, ShowsBundle, ShowsSide}
use Rattle.run_trace.specs.declared.choice.TraceChoice.{TraceChoice}

-- reading ended so
pub shows_end : {S O : Type 0} {unfit : List Item → Option ℕ} (text : List Item → Option Ending → List ℕ) (name : List ℕ)
    (before after : Outside S O) (items : List Item) (ended : Ending) (so_far : Result Unit Failed) (answer : Status) →
    IsReadTo unfit (before.files.held name) before.files.reading after.files.reading items (Some ended) →
    Puts before.output.taken after.output.taken before.output.faults after.output.faults (text items (Some ended)) so_far →
    answer ≡ status_shown ended so_far → ShowsRecord unfit text name answer before after
shows_end {S} {O} {unfit} text name before after items ended (Ok u) answer read puts is =
    inl (record { items = items; ended = ended; status = is; read = read; shown = puts.0; faults = puts.1 })
shows_end {S} {O} {unfit} text name before after items ended (Err failed) answer read puts is =
    inr (is, record { items = items; ended = Some ended; read = read; shown = puts.0; faults = puts.1 })

-- the output failed as items were shown
pub shows_break : {S O : Type 0} {unfit : List Item → Option ℕ} (text : List Item → Option Ending → List ℕ)
    (name : List ℕ) (before after : Outside S O) (items : List Item) (ended : Option Ending) →
    IsReadTo unfit (before.files.held name) before.files.reading after.files.reading items ended →
    GrowsByFront before.output.taken after.output.taken (text items ended) →
    Rose before.output.faults after.output.faults → ShowsRecord unfit text name status.WriteFault before after
shows_break {S} {O} {unfit} text name before after items ended read front rose =
    inr (refl, record { items = items; ended = ended; read = read; shown = front; faults = rose })

-- the record was shown since the bundle was read
pub shows_since : {S O : Type 0} {unfit : List Item → Option ℕ} {text : List Item → Option Ending → List ℕ}
    {name : List ℕ} {answer : Status} (before mid after : Outside S O) → SameFiles before.files.held mid.files.held →
    mid.files.reading ≡ before.files.reading → mid.output ≡ before.output →
    ShowsRecord unfit text name answer mid after → ShowsRecord unfit text name answer before after
shows_since {S} {O} {unfit} {text} {name} {answer} before mid after held reading output (inl reads) =
    inl (reads_since before mid after held reading output reads)
shows_since {S} {O} {unfit} {text} {name} {answer} before mid after held reading output (inr (is, r)) =
    inr (
      is,
      record {
        items = r.items;
        ended = r.ended;
        read = read_since unfit (mid.files.held name) (before.files.held name) mid.files.reading before.files.reading
            after.files.reading r.items r.ended (held name) reading r.read;
        shown = subst (λ (o : Output O). GrowsByFront o.taken after.output.taken (text r.items r.ended)) output r.shown;
        faults = subst (λ (o : Output O). Rose o.faults after.output.faults) output r.faults;
      },
    )

-- what was shown of a bundle since before it was read

refuses_since : {S O : Type 0} {r : Refusal} {answer : Status} (before mid after : Outside S O) →
    mid.files.reading ≡ before.files.reading → mid.output ≡ before.output → RefusesTrace r mid after answer →
    RefusesTrace r before after answer
refuses_since {S} {O} {r} {answer} before mid after reading output refuses = record {
  reading = refuses.reading ∙ reading;
  line = subst (λ (o : Output O). Refuses o after.output r answer) output refuses.line;
}

side_since : {S O : Type 0} (name : List ℕ) (answer : Status) (program : Option ℕ) (bundle : Bundle) (choice : TraceChoice)
    (before mid after : Outside S O) → SameFiles before.files.held mid.files.held →
    mid.files.reading ≡ before.files.reading → mid.output ≡ before.output →
    ShowsSide program bundle choice name mid after answer → ShowsSide program bundle choice name before after answer
side_since {S} {O} name answer None bundle choice before mid after held reading output shows =
    shows_since before mid after held reading output shows
side_since {S} {O} name answer (Some d) bundle choice before mid after held reading output (p, is, shows) =
    (p, is, shows_since before mid after held reading output shows)

pub bundle_since : {S O : Type 0} (name : List ℕ) (answer : Status) (program : Option ℕ) (bundle : Bundle)
    (choice : TraceChoice) (before mid after : Outside S O) → SameFiles before.files.held mid.files.held →
    mid.files.reading ≡ before.files.reading → mid.output ≡ before.output →
    ShowsBundle program bundle choice name mid after answer → ShowsBundle program bundle choice name before after answer
bundle_since {S} {O} name answer program bundle choice before mid after held reading output (inl shows) =
    inl (side_since name answer program bundle choice before mid after held reading output shows)
bundle_since {S} {O} name answer program bundle choice before mid after held reading output (inr (inl memory)) =
    inr (inl (refuses_since before mid after reading output memory))
bundle_since {S} {O} name answer program bundle choice before mid after held reading output (inr (inr lacks)) =
    inr (inr (lacks.0, refuses_since before mid after reading output lacks.1))
