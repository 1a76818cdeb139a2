-- What a record that was traced over cloaked files is answered, seen from before the bundle was read.
use Rattle.std.proofs.Common.{◌≡◌, ◌∙◌, ℕ, List, inl, inr, subst}
use Rattle.io_traits.specs.Told.{SameFiles}
use Rattle.cloak_model.specs.declared.image.Bundle.{Bundle}
use Rattle.command_words.specs.Command as words
use Rattle.command_parts.specs.Outside.{Outside, Output}
use Rattle.command_parts.specs.Refusing.{Refuses}
use Rattle.command_parts.specs.declared.status.Status.{Status}
use Rattle.read_back.proofs.AnsweredOver.{lacks_before, old_before}
use Rattle.command_parts.specs.declared.refusal.Refusal.TheVariants.{NoSuchDomain}
use Rattle.run_trace.specs.AnsweringOver.{ShowsOver}
use Rattle.run_trace.specs.declared.choice.TraceChoice.{TraceChoice}
use Rattle.run_trace.proofs.Answered.{shows_since}

pub over_since : {S O : Type 0} {name : List ℕ} {answer : Status} {d : ℕ} {old : words.OldFiles} {bundle : Bundle}
    {choice : TraceChoice} (before mid after : Outside S O) → SameFiles before.files.held mid.files.held →
    mid.files.reading ≡ before.files.reading → mid.output ≡ before.output →
    ShowsOver d old bundle choice name mid after answer → ShowsOver d old bundle choice name before after answer
over_since {S} {O} {name} {answer} {d} {old} {bundle} {choice} before mid after held reading output (inl shows) =
    inl (record {
      p = shows.p;
      program = shows.program;
      read = shows.read;
      is = old_before held shows.is;
      shows = shows_since before mid after held reading output shows.shows;
    })
over_since {S} {O} {name} {answer} {d} {old} {bundle} {choice} before mid after held reading output (inr (inl lacks)) =
    inr (inl (record {
      p = lacks.p;
      program = lacks.program;
      refused = lacks.refused;
      lacks = lacks_before old bundle d lacks.p _ _ lacks.refused held reading lacks.lacks;
      line = subst (λ (o : Output O). Refuses o after.output lacks.refused answer) output lacks.line;
    }))
over_since {S} {O} {name} {answer} {d} {old} {bundle} {choice} before mid after held reading output (inr (inr none)) =
    inr (inr (
      none.0,
      record {
        reading = none.1.reading ∙ reading;
        line = subst (λ (o : Output O). Refuses o after.output NoSuchDomain answer) output none.1.line;
      },
    ))
