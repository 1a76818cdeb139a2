-- What the command returns.
use Rattle.std.proofs.Common.{◌<◌, ◌-◌, ◌^◌, ℕ, Bool, true, false, List, refl, sym, subst, inl, inr, Option}
use Rattle.cloak_base.specs.declared.causes.Stop.{Stop}
use Rattle.cloak_base.specs.declared.causes.Stop.TheVariants as stop
use Rattle.io_traits.specs.Told.{SameFiles}
use Rattle.command_words.specs.Command as spec
use Rattle.command_parts.specs.declared.refusal.Refusal.{Refusal}
use Rattle.command_parts.specs.declared.refusal.Refusal.TheVariants as refusal
use Rattle.command_parts.specs.declared.status.Status.{Status}
use Rattle.command_parts.specs.declared.status.Status.TheVariants as status
use Rattle.command_parts.specs.NoRun.{NoRun, IsRefused}
use Rattle.command_parts.specs.Outside.{Outside}
use Rattle.command_parts.specs.Refusal.{status_of_refusal}
use Rattle.command_parts.specs.Refusing.{Refuses}
use Rattle.command_parts.specs.Storing.{AsksStored, StoreSources}
use Rattle.command_parts.proofs.FaultFacts.{raised}
use Rattle.run_command.specs.Running.{IsStatusOfStop, status_of, unless_refused}
use Rattle.store_command.specs.Answering.{HasStored, KeepsFiles, StoreAnswers}
use Rattle.store_command.specs.Leaving.{OtherThanStored}
use Rattle.store_command.specs.Recording.{Stores}

-- A line that refuses.

answers_refused : {S O : Type 0} (asked : spec.Asked) (r : Refusal) (before after : Outside S O) →
    IsRefused asked (status_of_refusal r) before after → StoreAnswers asked before after (status_of_refusal r)
answers_refused asked refusal.NoKey before after refused = inl refused
answers_refused asked refusal.NoPageDraw before after refused = inl refused
answers_refused asked _ before after refused = refused

-- what is returned if there is no run
pub answers_no_run : {S O : Type 0} {asked : spec.Asked} {r : Refusal} {before after : Outside S O} {given : Status} →
    NoRun asked r before.files after.files → before.output.faults < 2 ^ 64 - 1 →
    Refuses before.output after.output r given → StoreAnswers asked before after given
answers_no_run {S} {O} {asked} {r} {before} {after} {given} none low (inl shows) =
    subst (λ (x : Status). StoreAnswers asked before after x) (sym shows.answer)
    (answers_refused asked r before after
    (record { refused = r; status = refl; no_run = none; line = shows.line_shown; faults = shows.faults }))
answers_no_run {S} {O} {asked} {r} {before} {after} {given} none low (inr front) =
    subst (λ (x : Status). StoreAnswers asked before after x) (sym front.answer)
    (inl (record { refused = r; no_run = none; line = front.front_shown; faults = raised front.faults low }))

-- A run that was made.

answers_unless : {S O : Type 0} (asked : spec.Asked) (before after : Outside S O) (refused : Bool) →
    HasStored asked (unless_refused refused) before after → StoreAnswers asked before after (unless_refused refused)
answers_unless asked before after true run = run
answers_unless asked before after false run = run

answers_stop : {S O : Type 0} (asked : spec.Asked) (before after : Outside S O) (cause : Stop) (refused : Bool) →
    HasStored asked (status_of cause refused) before after → StoreAnswers asked before after (status_of cause refused)
answers_stop asked before after stop.NoRandom refused run = inr run
answers_stop asked before after _ refused run = answers_unless asked before after refused run

answers_some_stop : {S O : Type 0} (asked : spec.Asked) (before after : Outside S O) (given : Status) →
    IsStatusOfStop given → HasStored asked given before after → StoreAnswers asked before after given
answers_some_stop {S} {O} asked before after given some run =
    subst (λ (s : Status). StoreAnswers asked before after s) (sym some.2)
    (answers_stop asked before after some.0 some.1
    (subst (λ (s : Status). HasStored asked s before after) some.2 run))

pub answers_stored : {S O : Type 0} {names : spec.StoreNames} {counter steps : ℕ} {randomness : spec.Randomness}
    {s : StoreSources} {before after : Outside S O} {given : Status} →
    AsksStored names counter randomness before.files.held s → Stores names counter steps s before after given →
    StoreAnswers (spec.Store names counter steps randomness) before after given
answers_stored {S} {O} {names} {counter} {steps} {randomness} {s} {before} {after} {given} asks (inl all) =
    answers_some_stop _ before after given all.some_stop (record {
      names = names;
      counter = counter;
      steps = steps;
      randomness = randomness;
      store = refl;
      sources = s;
      asks = asks;
      becomes = all;
    })
answers_stored {S} {O} {names} {counter} {steps} {randomness} {s} {before} {after} {given} asks (inr broke) =
    subst (λ (x : Status). StoreAnswers (spec.Store names counter steps randomness) before after x) (sym broke.0)
    (inr (record {
      names = names;
      counter = counter;
      steps = steps;
      randomness = randomness;
      store = refl;
      sources = s;
      asks = asks;
      becomes = broke.1;
    }))

-- What every answer says of the files.

pub same_files : (names : spec.StoreNames) (answer : Status) (held held' : List ℕ → Option (List ℕ)) →
    SameFiles held held' → KeepsFiles names answer held held'
same_files names status.Done held held' same = λ other one two three. same other
same_files names status.Violation held held' same = λ other one two three. same other
same_files names status.WriteFault held held' same = λ other one two three. same other
same_files names status.NoRandom held held' same = λ other one two three. same other
same_files names _ held held' same = same

keeps_unless : (names : spec.StoreNames) (refused : Bool) (held held' : List ℕ → Option (List ℕ)) →
    OtherThanStored names held held' → KeepsFiles names (unless_refused refused) held held'
keeps_unless names true held held' others = others
keeps_unless names false held held' others = others

keeps_stop : (names : spec.StoreNames) (cause : Stop) (refused : Bool) (held held' : List ℕ → Option (List ℕ)) →
    OtherThanStored names held held' → KeepsFiles names (status_of cause refused) held held'
keeps_stop names stop.NoRandom refused held held' others = others
keeps_stop names _ refused held held' others = keeps_unless names refused held held' others

-- a run that was made
pub keeps_stored : {S O : Type 0} {names : spec.StoreNames} {counter steps : ℕ} {s : StoreSources}
    {before after : Outside S O} {given : Status} → Stores names counter steps s before after given →
    KeepsFiles names given before.files.held after.files.held
keeps_stored {S} {O} {names} {counter} {steps} {s} {before} {after} {given} (inl all) =
    subst (λ (x : Status). KeepsFiles names x before.files.held after.files.held) (sym all.some_stop.2)
    (keeps_stop names all.some_stop.0 all.some_stop.1 _ _ all.others)
keeps_stored {S} {O} {names} {counter} {steps} {s} {before} {after} {given} (inr broke) =
    subst (λ (x : Status). KeepsFiles names x before.files.held after.files.held) (sym broke.0) broke.1.others
