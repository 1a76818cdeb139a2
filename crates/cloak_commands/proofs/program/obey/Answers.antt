use Rattle.std.proofs.Common.{refl, inl}
use Rattle.command_words.specs.declared.usage_fault.UsageFault.TheVariants.{WrongWords}
use Rattle.command_words.specs.Command.{Faulty}
use Rattle.command_parts.specs.declared.refusal.Refusal.TheVariants as refusal
use Rattle.command_parts.proofs.Refused.{only_refuses}
use Rattle.cloak_commands.proofs.program.obey.Goals as goal

pub returns-in-Taken : goal.returns-in-Taken
returns-in-Taken g c =
    rw c.in-Taken.is (record { answers = c.cloak.ensures.answers; kept = c.cloak.ensures.kept })

pub returns-in-NotText : goal.returns-in-NotText
returns-in-NotText g c =
    let answers = only_refuses {asked = Faulty WrongWords} {r = refusal.Usage WrongWords} (record {
      cause = inl (record { faulty = refl; untouched = refl });
      held = λ name. refl;
      writing = refl;
    }) c.requires.output c.refuse.ensures in
    rw c.in-NotText.is (record { answers = answers; kept = λ name. refl })

pub returns-in-NoMemory : goal.returns-in-NoMemory
returns-in-NoMemory g c = rw c.in-NoMemory.is (record { line = c.refuse-in-NoMemory.ensures; untouched = refl })
