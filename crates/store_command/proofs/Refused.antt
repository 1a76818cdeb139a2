-- Why there is no run over cloaked files.
use Rattle.std.proofs.Common.{◌≡◌, ◌≢◌, ◌<◌, ◌-◌, ◌^◌, ◌∙◌, ℕ, List, Option, IfSome, Err, refl, subst, inl, inr}
use Rattle.io_traits.specs.Told.{SameFiles}
use Rattle.cloak_base.specs.Random.{Random}
use Rattle.cloak_machine.specs.Standing.{OpensStored}
use Rattle.cloak_model.specs.declared.image.Bundle.{Bundle}
use Rattle.cloak_model.specs.StoredFiles.{StoredFile}
use Rattle.cloak_model.specs.StoreFault.{store_fault}
use Rattle.joint_machine.specs.declared.opened.StoredFault.{StoredFault}
use Rattle.joint_machine.specs.declared.opened.StoredFault.TheVariants as fault
use Rattle.command_words.specs.Command as spec
use Rattle.command_parts.specs.declared.refusal.Refusal.{Refusal}
use Rattle.command_parts.specs.declared.refusal.Refusal.TheVariants as refusal
use Rattle.command_parts.specs.Files.{TellsUnread}
use Rattle.command_parts.specs.NoRun.{NoRun}
use Rattle.command_parts.specs.Outside.{FilesOutside}
use Rattle.command_parts.specs.Storing as given
use Rattle.command_parts.specs.Storing.{AsksStored, IsOld, IsSecret, StoreSources, secret_length}
use Rattle.command_parts.specs.Bundles.{IsInFileAs}
use Rattle.command_parts.specs.Streams.{IsStream}
use Rattle.command_parts.proofs.Refused.{is_some_bundle, no_file, no_memory}
use Rattle.run_command.proofs.PrepareFacts.{stream_before}
use Rattle.old_files.specs.declared.secret.Secret.{Secret}
use Rattle.old_files.specs.Reading.{ReadsOld, ReadsSecret}
use Rattle.store_command.specs.Preparing.{refused_by}
use Rattle.std.specs.Prelude.{length, Some}

-- the secret was not read
pub no_secret : {S : Type 0} (names : spec.StoreNames) (counter steps : ℕ) (randomness : spec.Randomness) (r : Refusal)
    (before after : FilesOutside S) (told : Option (List ℕ)) (reading version : ℕ) (bytes : List ℕ) (bundle : Bundle) →
    IsInFileAs version (before.held names.bundle) bytes bundle → told ≡ before.held names.secret_name →
    reading ≡ before.reading → ReadsSecret told reading after.reading (Err r) →
    TellsUnread after.unread names.secret_name r → before.reading < 2 ^ 64 - 1 → SameFiles before.held after.held →
    after.writing ≡ before.writing →
    NoRun (spec.Store names counter steps randomness) r before after
no_secret {S} names counter steps randomness refusal.ShortSecret before after told reading version bytes bundle file is same reads of_file low held writing =
    record {
      cause = record {
        names = names;
        counter = counter;
        steps = steps;
        randomness = randomness;
        store = refl;
        version = version;
        bytes = bytes;
        bundle = bundle;
        file = file;
        short = subst (λ (t : Option (List ℕ)). IfSome t (λ bytes. length bytes < secret_length)) is reads.1;
        reading = reads.0 ∙ same;
      };
      held = held;
      writing = writing;
    }
no_secret {S} names counter steps randomness refusal.ReadFault before after told reading version bytes bundle file is same reads of_file low held writing =
    no_file Secret names.secret_name refusal.ReadFault before after reading refl
    (inr (is_some_bundle _ version bytes bundle file, inl refl)) same reads of_file low held writing
no_secret {S} names counter steps randomness refusal.NoMemory before after told reading version bytes bundle file is same reads of_file low held writing =
    no_file Secret names.secret_name refusal.NoMemory before after reading refl
    (inr (is_some_bundle _ version bytes bundle file, inl refl)) same reads of_file low held writing
no_secret {S} names counter steps randomness (refusal.Usage fault) before after told reading version bytes bundle file is same reads of_file low held writing = absurd reads
no_secret {S} names counter steps randomness (refusal.BadBundle fault) before after told reading version bytes bundle file is same reads of_file low held writing = absurd reads
no_secret {S} names counter steps randomness refusal.NoKey before after told reading version bytes bundle file is same reads of_file low held writing = absurd reads
no_secret {S} names counter steps randomness refusal.NoPageDraw before after told reading version bytes bundle file is same reads of_file low held writing = absurd reads
no_secret {S} names counter steps randomness refusal.NoSuchDomain before after told reading version bytes bundle file is same reads of_file low held writing = absurd reads
no_secret {S} names counter steps randomness (refusal.BadStore fault) before after told reading version bytes bundle file is same reads of_file low held writing = absurd reads
no_secret {S} names counter steps randomness (refusal.NoRoom domain) before after told reading version bytes bundle file is same reads of_file low held writing = absurd reads
no_secret {S} names counter steps randomness (refusal.BadState fault) before after told reading version bytes bundle file is same reads of_file low held writing = absurd reads
no_secret {S} names counter steps randomness (refusal.ChangedDomain domain) before after told reading version bytes bundle file is same reads of_file low held writing = absurd reads
no_secret {S} names counter steps randomness (refusal.ChangedFrame frame) before after told reading version bytes bundle file is same reads of_file low held writing = absurd reads

-- what an earlier run left was not read
pub no_old : {S : Type 0} (names : spec.StoreNames) (counter steps : ℕ) (randomness : spec.Randomness) (r : Refusal)
    (before after : FilesOutside S) (told : Option (List ℕ)) (reading version : ℕ) (bytes : List ℕ) (bundle : Bundle)
    (secret : given.Secret) (table : List StoredFile) → IsInFileAs version (before.held names.bundle) bytes bundle →
    IsSecret (before.held names.secret_name) secret → told ≡ before.held names.old_name →
    reading ≡ before.reading → ReadsOld told secret.mac counter reading after.reading table (Err r) →
    counter ≢ 0 → TellsUnread after.unread names.old_name r → before.reading < 2 ^ 64 - 1 → SameFiles before.held after.held → after.writing ≡ before.writing →
    NoRun (spec.Store names counter steps randomness) r before after
no_old {S} names counter steps randomness (refusal.BadStore fault) before after told reading version bytes bundle secret table file has is same reads not_first of_file low held writing =
    record {
      cause = record {
        names = names;
        counter = counter;
        steps = steps;
        randomness = randomness;
        store = refl;
        version = version;
        bytes = bytes;
        bundle = bundle;
        file = file;
        not_first = reads.1.0;
        secret = secret;
        is_secret = has;
        first_fault = subst (λ (t : Option (List ℕ)). IfSome t (λ bytes. store_fault secret.mac counter bytes ≡ Some fault)) is
            reads.1.1;
        reading = reads.0 ∙ same;
      };
      held = held;
      writing = writing;
    }
no_old {S} names counter steps randomness refusal.ReadFault before after told reading version bytes bundle secret table file has is same reads not_first of_file low held writing =
    no_file Unit names.old_name refusal.ReadFault before after reading refl
    (inr (is_some_bundle _ version bytes bundle file, inr (secret, has, inl (not_first, refl)))) same reads of_file low held
    writing
no_old {S} names counter steps randomness refusal.NoMemory before after told reading version bytes bundle secret table file has is same reads not_first of_file low held writing =
    no_file Unit names.old_name refusal.NoMemory before after reading refl
    (inr (is_some_bundle _ version bytes bundle file, inr (secret, has, inl (not_first, refl)))) same reads of_file low held
    writing
no_old {S} names counter steps randomness (refusal.Usage fault) before after told reading version bytes bundle secret table file has is same reads not_first of_file low held writing = absurd reads
no_old {S} names counter steps randomness (refusal.BadBundle fault) before after told reading version bytes bundle secret table file has is same reads not_first of_file low held writing = absurd reads
no_old {S} names counter steps randomness refusal.NoKey before after told reading version bytes bundle secret table file has is same reads not_first of_file low held writing = absurd reads
no_old {S} names counter steps randomness refusal.NoPageDraw before after told reading version bytes bundle secret table file has is same reads not_first of_file low held writing = absurd reads
no_old {S} names counter steps randomness refusal.NoSuchDomain before after told reading version bytes bundle secret table file has is same reads not_first of_file low held writing = absurd reads
no_old {S} names counter steps randomness refusal.ShortSecret before after told reading version bytes bundle secret table file has is same reads not_first of_file low held writing = absurd reads
no_old {S} names counter steps randomness (refusal.NoRoom domain) before after told reading version bytes bundle secret table file has is same reads not_first of_file low held writing = absurd reads
no_old {S} names counter steps randomness (refusal.BadState fault) before after told reading version bytes bundle secret table file has is same reads not_first of_file low held writing = absurd reads
no_old {S} names counter steps randomness (refusal.ChangedDomain domain) before after told reading version bytes bundle secret table file has is same reads not_first of_file low held writing = absurd reads
no_old {S} names counter steps randomness (refusal.ChangedFrame frame) before after told reading version bytes bundle secret table file has is same reads not_first of_file low held writing = absurd reads

-- the run does not open
pub not_opened : {S : Type 0} (names : spec.StoreNames) (counter steps : ℕ) (randomness : spec.Randomness)
    (f : StoredFault) (before after : FilesOutside S) (s : StoreSources) →
    AsksStored names counter randomness before.held s →
    OpensStored s.bundle s.secret.keys s.stream s.table (Err f) → after.reading ≡ before.reading →
    SameFiles before.held after.held → after.writing ≡ before.writing →
    NoRun (spec.Store names counter steps randomness) (refused_by f) before after
not_opened {S} names counter steps randomness fault.NoRandom before after s asks lacks reading held writing = record {
  cause = inr (inl (record {
    names = names;
    counter = counter;
    steps = steps;
    randomness = randomness;
    store = refl;
    sources = s;
    asks = asks;
    lacks = lacks;
    reading = reading;
  }));
  held = held;
  writing = writing;
}
not_opened {S} names counter steps randomness (fault.NoRoom domain) before after s asks lacks reading held writing =
    record {
      cause = record {
        names = names;
        counter = counter;
        steps = steps;
        randomness = randomness;
        store = refl;
        sources = s;
        asks = asks;
        lacks = lacks;
        reading = reading;
      };
      held = held;
      writing = writing;
    }
not_opened {S} names counter steps randomness fault.NoMemory before after s asks lacks reading held writing =
    no_memory _ before after reading held writing

-- What the words ask for, by what was read of the files one after another.
pub asks_stored : {names : spec.StoreNames} {counter : ℕ} {randomness : spec.Randomness}
    {held second third fourth : List ℕ → Option (List ℕ)} {version : ℕ} {bytes : List ℕ} {bundle : Bundle}
    {secret : given.Secret} {table : List StoredFile} {stream : Random} →
    IsInFileAs version (held names.bundle) bytes bundle → SameFiles held second →
    IsSecret (second names.secret_name) secret → SameFiles held third →
    IsOld (third names.old_name) secret.mac counter table → SameFiles held fourth → IsStream fourth randomness stream →
    AsksStored names counter randomness held (record {
      version = version;
      bytes = bytes;
      bundle = bundle;
      secret = secret;
      table = table;
      stream = stream;
    })
asks_stored {names} {counter} {randomness} {held} {second} {third} {fourth} {version} {bytes} {bundle} {secret} {table}
    {stream} file same2 has same3 old same4 source = record {
      bundle = file;
      secret = subst (λ (t : Option (List ℕ)). IsSecret t secret) (same2 names.secret_name) has;
      old = subst (λ (t : Option (List ℕ)). IsOld t secret.mac counter table) (same3 names.old_name) old;
      stream = stream_before held fourth randomness stream same4 source;
    }
