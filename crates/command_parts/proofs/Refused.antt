-- A command that does nothing but show the line of a reason.
use Rattle.std.proofs.Common.{◌≡◌, ◌<◌, ◌-◌, ◌^◌, ◌∙◌, ℕ, List, Option, Some, None, Err, inl, inr, refl, sym, subst}
use Rattle.cloak_base.specs.Random.{Random}
use Rattle.cloak_model.specs.declared.image.Bundle.{Bundle}
use Rattle.cloak_model.specs.Bundle.{IsBundleIn}
use Rattle.io_traits.specs.Told.{SameFiles}
use Rattle.io_traits.proofs.ToldFacts.{Rose-after}
use Rattle.command_words.specs.Command as spec
use Rattle.command_parts.specs.declared.refusal.Refusal.{Refusal}
use Rattle.command_parts.specs.declared.refusal.Refusal.TheVariants as refusal
use Rattle.command_parts.specs.declared.status.Status.{Status}
use Rattle.command_parts.specs.Bundles.{IsSomeBundle, IsInFileAs, ReadsBundle}
use Rattle.command_parts.specs.Files.{ReadsFile, TellsUnread}
use Rattle.command_parts.specs.NoRun.{AsksFile, NoRun, OnlyRefuses}
use Rattle.command_parts.specs.Order.{IsNextToRead}
use Rattle.command_parts.specs.Outside.{Outside, FilesOutside}
use Rattle.command_parts.specs.Refusing.{Refuses}
use Rattle.command_parts.specs.Streams.{IsStreamFile, TellsUnreadStream}
use Rattle.command_parts.proofs.FaultFacts.{raised}

pub only_refuses : {S O : Type 0} {asked : spec.Asked} {r : Refusal} {before after : Outside S O} {given : Status} →
    NoRun asked r before.files after.files → before.output.faults < 2 ^ 64 - 1 →
    Refuses before.output after.output r given → OnlyRefuses asked before after given
only_refuses {S} {O} {asked} {r} {before} {after} {given} none low (inl shows) =
    inl (record { refused = r; status = shows.answer; no_run = none; line = shows.line_shown; faults = shows.faults })
only_refuses {S} {O} {asked} {r} {before} {after} {given} none low (inr front) =
    inr (
      front.answer,
      record {
        refused = r;
        no_run = none;
        line = front.front_shown;
        faults = raised front.faults low;
      },
    )

-- the bundle is read first
bundle_is_next : (asked : spec.Asked) (held : List ℕ → Option (List ℕ)) (name : List ℕ) → AsksFile asked name →
    IsNextToRead asked held name
bundle_is_next (spec.Faulty fault) held name asks = absurd (let no : None ≡ Some name = asks in cc)
bundle_is_next (spec.Run bundle record_name steps randomness) held name asks = inl (let named : Some bundle ≡ Some name = asks in cc)
bundle_is_next (spec.View bundle record_name) held name asks = (let named : Some bundle ≡ Some name = asks in cc)
bundle_is_next (spec.Solo domain bundle record_name) held name asks = (let named : Some bundle ≡ Some name = asks in cc)
bundle_is_next (spec.SoloOver domain bundle record_name old) held name asks = inl (let named : Some bundle ≡ Some name = asks in cc)
bundle_is_next (spec.Gen number bundle_name) held name asks = absurd (let no : None ≡ Some name = asks in cc)
bundle_is_next (spec.Demo number steps) held name asks = absurd (let no : None ≡ Some name = asks in cc)
bundle_is_next (spec.Stats bundle steps randomness) held name asks = inl (let named : Some bundle ≡ Some name = asks in cc)
bundle_is_next (spec.Upgrade old_name new_name) held name asks = (let named : Some old_name ≡ Some name = asks in cc)
bundle_is_next (spec.Store names counter steps randomness) held name asks = inl (let named : Some names.bundle ≡ Some name = asks in cc)
bundle_is_next (spec.Freeze names steps randomness) held name asks = inl (let named : Some names.bundle ≡ Some name = asks in cc)
bundle_is_next (spec.Thaw names steps randomness) held name asks = inl (let named : Some names.bundle ≡ Some name = asks in cc)

-- the bundle was not read
pub no_bundle : {S : Type 0} {asked : spec.Asked} {name : List ℕ} (r : Refusal) (before after : FilesOutside S) →
    AsksFile asked name → ReadsBundle (before.held name) before.reading after.reading (Err r) →
    TellsUnread after.unread name r → before.reading < 2 ^ 64 - 1 → SameFiles before.held after.held →
    after.writing ≡ before.writing → NoRun asked r before after
no_bundle {S} {asked} {name} (refusal.BadBundle fault) before after asks reads of_file low held writing = record {
  cause = record { bundle_name = name; asks = asks; first_fault = reads.1; reading = reads.0 };
  held = held;
  writing = writing;
}
no_bundle {S} {asked} {name} refusal.ReadFault before after asks reads of_file low held writing = record {
  cause = record {
    bundle_name = name;
    asks = asks;
    name = name;
    unread = of_file;
    next = bundle_is_next asked before.held name asks;
    reading = raised reads low;
  };
  held = held;
  writing = writing;
}
no_bundle {S} {asked} {name} refusal.NoMemory before after asks reads of_file low held writing = record {
  cause = record { reading = reads };
  held = held;
  writing = writing;
}
no_bundle {S} {asked} {name} (refusal.Usage fault) before after asks reads of_file low held writing = absurd reads
no_bundle {S} {asked} {name} refusal.NoKey before after asks reads of_file low held writing = absurd reads
no_bundle {S} {asked} {name} refusal.NoPageDraw before after asks reads of_file low held writing = absurd reads
no_bundle {S} {asked} {name} refusal.NoSuchDomain before after asks reads of_file low held writing = absurd reads
no_bundle {S} {asked} {name} refusal.ShortSecret before after asks reads of_file low held writing = absurd reads
no_bundle {S} {asked} {name} (refusal.BadStore fault) before after asks reads of_file low held writing = absurd reads
no_bundle {S} {asked} {name} (refusal.NoRoom domain) before after asks reads of_file low held writing = absurd reads
no_bundle {S} {asked} {name} (refusal.BadState fault) before after asks reads of_file low held writing = absurd reads
no_bundle {S} {asked} {name} (refusal.ChangedDomain domain) before after asks reads of_file low held writing = absurd reads
no_bundle {S} {asked} {name} (refusal.ChangedFrame frame) before after asks reads of_file low held writing = absurd reads

-- a reason for which a bundle is not read
abbrev pub IsUnread : Refusal → Type 0
IsUnread (refusal.BadBundle fault) = Unit {0}
IsUnread refusal.ReadFault = Unit {0}
IsUnread refusal.NoMemory = Unit {0}
IsUnread _ = ⊥

pub unread : (r : Refusal) (told : Option (List ℕ)) (m n : ℕ) → ReadsBundle told m n (Err r) → IsUnread r
unread (refusal.BadBundle fault) told m n reads = tt
unread refusal.ReadFault told m n reads = tt
unread refusal.NoMemory told m n reads = tt
unread (refusal.Usage fault) told m n reads = absurd reads
unread refusal.NoKey told m n reads = absurd reads
unread refusal.NoPageDraw told m n reads = absurd reads
unread refusal.NoSuchDomain told m n reads = absurd reads
unread refusal.ShortSecret told m n reads = absurd reads
unread (refusal.BadStore fault) told m n reads = absurd reads
unread (refusal.NoRoom domain) told m n reads = absurd reads
unread (refusal.BadState fault) told m n reads = absurd reads
unread (refusal.ChangedDomain domain) told m n reads = absurd reads
unread (refusal.ChangedFrame frame) told m n reads = absurd reads

-- a file was not read, after the bundle
pub no_file : {S : Type 0} (A : Type 0) {asked : spec.Asked} {name : List ℕ} (file : List ℕ) (r : Refusal)
    (before after : FilesOutside S) (reading : ℕ) → AsksFile asked name → IsNextToRead asked before.held file →
    reading ≡ before.reading → ReadsFile {A = A} reading after.reading (Err r) → TellsUnread after.unread file r →
    before.reading < 2 ^ 64 - 1 → SameFiles before.held after.held → after.writing ≡ before.writing → NoRun asked r before after
no_file {S} A {asked} {name} file refusal.ReadFault before after reading asks next same reads of_file low held writing = record {
  cause = record {
    bundle_name = name;
    asks = asks;
    name = file;
    unread = of_file;
    next = next;
    reading = raised (Rose-after _ _ _ same reads) low;
  };
  held = held;
  writing = writing;
}
no_file {S} A {asked} {name} file refusal.NoMemory before after reading asks next same reads of_file low held writing =
    record { cause = record { reading = reads ∙ same }; held = held; writing = writing }
no_file {S} A {asked} {name} file (refusal.BadBundle fault) before after reading asks next same reads of_file low held writing = absurd reads
no_file {S} A {asked} {name} file (refusal.Usage fault) before after reading asks next same reads of_file low held writing = absurd reads
no_file {S} A {asked} {name} file refusal.NoKey before after reading asks next same reads of_file low held writing = absurd reads
no_file {S} A {asked} {name} file refusal.NoPageDraw before after reading asks next same reads of_file low held writing = absurd reads
no_file {S} A {asked} {name} file refusal.NoSuchDomain before after reading asks next same reads of_file low held writing = absurd reads
no_file {S} A {asked} {name} file refusal.ShortSecret before after reading asks next same reads of_file low held writing = absurd reads
no_file {S} A {asked} {name} file (refusal.BadStore fault) before after reading asks next same reads of_file low held writing = absurd reads
no_file {S} A {asked} {name} file (refusal.NoRoom domain) before after reading asks next same reads of_file low held writing = absurd reads
no_file {S} A {asked} {name} file (refusal.BadState fault) before after reading asks next same reads of_file low held writing = absurd reads
no_file {S} A {asked} {name} file (refusal.ChangedDomain domain) before after reading asks next same reads of_file low held writing = absurd reads
no_file {S} A {asked} {name} file (refusal.ChangedFrame frame) before after reading asks next same reads of_file low held writing = absurd reads

-- a file that is the bundle of a version is a bundle
pub is_some_bundle : (told : Option (List ℕ)) (version : ℕ) (bytes : List ℕ) (bundle : Bundle) →
    IsInFileAs version told bytes bundle → IsSomeBundle told
is_some_bundle (Some known) version bytes bundle file = (
  bundle,
  record {
    is = (version, subst (λ (b : List ℕ). IsBundleIn version b bundle) (sym file.file) file.is);
    in_grammar = file.is.in_grammar;
  },
)
is_some_bundle None version bytes bundle file = (bundle, record { is = tt; in_grammar = file.is.in_grammar })

-- the file of a random stream was not read, after those before it
pub no_stream : {S : Type 0} {asked : spec.Asked} {name : List ℕ} (randomness : spec.Randomness) (r : Refusal)
    (before after : FilesOutside S) (reading : ℕ) → AsksFile asked name →
    ((file : List ℕ) → IsStreamFile randomness file → IsNextToRead asked before.held file) →
    reading ≡ before.reading → ReadsFile {A = Random} reading after.reading (Err r) →
    TellsUnreadStream after.unread randomness r → before.reading < 2 ^ 64 - 1 → SameFiles before.held after.held →
    after.writing ≡ before.writing → NoRun asked r before after
no_stream {S} {asked} {name} (spec.Numbered number) r before after reading asks next same reads of_file low held writing =
    absurd of_file
no_stream {S} {asked} {name} (spec.FromFile file) r before after reading asks next same reads of_file low held writing =
    no_file Random file r before after reading asks (next file refl) same reads of_file low held writing

-- there was no memory
pub no_memory : {S : Type 0} (asked : spec.Asked) (before after : FilesOutside S) → after.reading ≡ before.reading →
    SameFiles before.held after.held → after.writing ≡ before.writing → NoRun asked refusal.NoMemory before after
no_memory {S} asked before after reading held writing =
    record { cause = record { reading = reading }; held = held; writing = writing }
