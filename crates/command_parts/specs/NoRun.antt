-- Why a command does nothing but show one line: each reason with its cause.
use Rattle.std.specs.Prelude.{ℕ, ◌≡◌, ◌≤◌, ◌⊎◌, List, length, Option, Some, None, IfSome, Err}
use Rattle.cloak_base.specs.Random.{Random}
use Rattle.io_traits.specs.Told.{Grows, GrowsByFront, SameFiles, Tells}
use Rattle.cloak_model.specs.declared.fault.BundleFault.{BundleFault}
use Rattle.cloak_model.specs.declared.image.Bundle.{Bundle}
use Rattle.cloak_model.specs.BundleFault.{bundle_fault}
use Rattle.cloak_model.specs.Opening.{Lack, NoKey, NoPageDraw, NoRoom, opening}
use Rattle.command_words.specs.declared.usage_fault.UsageFault.{UsageFault}
use Rattle.command_words.specs.Command as spec
use Rattle.frozen_state.specs.declared.fault.FrozenFault.{FrozenFault}
use Rattle.frozen_state.specs.declared.fault.FrozenFault.TheVariants as state
use Rattle.frozen_state.specs.Refusing.{HasChangedDomain, HasChangedFrame, HasWrongPage, LacksDraws, LacksKeys}
use Rattle.command_parts.specs.declared.refusal.Refusal.{Refusal}
use Rattle.command_parts.specs.declared.refusal.Refusal.TheVariants as refusal
use Rattle.command_parts.specs.declared.status.Status.{Status}
use Rattle.command_parts.specs.declared.status.Status.TheVariants as status
use Rattle.command_parts.specs.Bundles.{IsInFile}
use Rattle.command_parts.specs.Order.{IsNextToRead}
use Rattle.command_parts.specs.Outside.{FilesOutside, Outside, Raised}
use Rattle.command_parts.specs.Refusal.{status_of_refusal, refusal_line}
use Rattle.command_parts.specs.Freezing.{IsFreezeLack}
use Rattle.command_parts.specs.Storing.{IsShortSecret, IsBadStore, IsStoredLack}
use Rattle.command_parts.specs.Streams.{IsStream}
use Rattle.command_parts.specs.Thawing.{IsBadState, IsTooLong, IsUnthawed}

-- What is asked for.

-- the file that the words name of a bundle that is read
abbrev pub bundle_named : spec.Asked → Option (List ℕ)
bundle_named (spec.Faulty fault) = None
bundle_named (spec.Run bundle record_name steps randomness) = Some bundle
bundle_named (spec.View bundle record_name) = Some bundle
bundle_named (spec.Solo domain bundle record_name) = Some bundle
bundle_named (spec.SoloOver domain bundle record_name old) = Some bundle
bundle_named (spec.Gen number bundle_name) = None
bundle_named (spec.Demo number steps) = None
bundle_named (spec.Stats bundle steps randomness) = Some bundle
bundle_named (spec.Upgrade old_name new_name) = Some old_name
bundle_named (spec.Store names counter steps randomness) = Some names.bundle
bundle_named (spec.Freeze names steps randomness) = Some names.bundle
bundle_named (spec.Thaw names steps randomness) = Some names.bundle

abbrev pub AsksFile : spec.Asked → List ℕ → Type 0
AsksFile asked bundle_name = bundle_named asked ≡ Some bundle_name

-- The words ask for the run of this bundle under this random stream, with its record, if that has a name, and otherwise
-- for its counts.
pub record AsksBundle (asked : spec.Asked) (held : List ℕ → Option (List ℕ)) (record_name : Option (List ℕ))
    (steps : ℕ) (bundle : Bundle) (stream : Random) : Type 0 where
  pub bundle_name : List ℕ
  pub randomness : spec.Randomness
  pub run : asked ≡ spec.asked_run bundle_name record_name steps randomness
  pub file : IsInFile (held bundle_name) bundle
  pub source : IsStream held randomness stream

-- Why there is no run.

-- The words are faulty; no file is asked for anything.
pub record IsUsage {S : Type 0} (asked : spec.Asked) (fault : UsageFault) (before after : FilesOutside S) : Type 0 where
  pub faulty : asked ≡ spec.Faulty fault
  pub untouched : after ≡ before

-- The file of the bundle is none: if its bytes are told, this is their first fault.
pub record IsBadBundle {S : Type 0} (asked : spec.Asked) (fault : BundleFault) (before after : FilesOutside S) : Type 0 where
  pub bundle_name : List ℕ
  pub asks : AsksFile asked bundle_name
  pub first_fault : IfSome (before.held bundle_name) (λ bytes. bundle_fault bytes ≡ Some fault)
  pub reading : after.reading ≡ before.reading

-- A call that reads a file failed, before anything was written. If it is told of which file reading failed last, that is
-- this one, and those that are read before it were read, and are what they must be.
pub record IsReadFault {S : Type 0} (asked : spec.Asked) (before after : FilesOutside S) : Type 0 where
  pub bundle_name : List ℕ
  pub asks : AsksFile asked bundle_name
  pub name : List ℕ
  pub unread : Tells after.unread name
  pub next : IsNextToRead asked before.held name
  pub reading : Raised before.reading after.reading

-- A growth was refused before anything was written. (What refused it, no clause can name.)
pub record IsNoMemory {S : Type 0} (before after : FilesOutside S) : Type 0 where
  pub reading : after.reading ≡ before.reading

-- The opening of a run finds too few random bytes.
pub record IsLack {S : Type 0} (asked : spec.Asked) (lack : Lack) (before after : FilesOutside S) : Type 0 where
  pub record_name : Option (List ℕ)
  pub steps : ℕ
  pub bundle : Bundle
  pub stream : Random
  pub asks : AsksBundle asked before.held record_name steps bundle stream
  pub lacks : opening bundle stream ≡ Err lack
  pub reading : after.reading ≡ before.reading

-- The bundle has no program of the number that the words name.
pub record IsNoSuchDomain {S : Type 0} (asked : spec.Asked) (before after : FilesOutside S) : Type 0 where
  pub domain : ℕ
  pub bundle_name : List ℕ
  pub record_name : List ℕ
  pub solo : asked ≡ spec.Solo domain bundle_name record_name
  pub bundle : Bundle
  pub file : IsInFile (before.held bundle_name) bundle
  pub too_few : length bundle.programs ≤ domain
  pub reading : after.reading ≡ before.reading

-- the stream holds no key: of a run that begins, or of one that goes on
abbrev pub LacksKey : {S : Type 0} → spec.Asked → FilesOutside S → FilesOutside S → Type 0
LacksKey asked before after =
    IsLack asked NoKey before after ⊎ (IsFreezeLack asked NoKey before after
    ⊎ IsUnthawed asked (λ b s f. LacksKeys b s) before after)

-- a page found no draw, or a run that goes on has fewer draws than it made
abbrev pub LacksPageDraw : {S : Type 0} → spec.Asked → FilesOutside S → FilesOutside S → Type 0
LacksPageDraw asked before after =
    IsLack asked NoPageDraw before after ⊎ (IsStoredLack asked NoPageDraw before after
    ⊎ (IsFreezeLack asked NoPageDraw before after ⊎ IsUnthawed asked LacksDraws before after))

-- the file is no frozen state of the image, or the page of a domain, which begins at this offset, is that of no program
abbrev pub HasBadState : {S : Type 0} → spec.Asked → FrozenFault → FilesOutside S → FilesOutside S → Type 0
HasBadState asked fault before after =
    IsBadState asked fault before after
    ⊎ IsUnthawed asked (λ b s f. (at : ℕ) × (fault ≡ state.Form at) × HasWrongPage b s f at) before after

abbrev pub HasCause : {S : Type 0} → spec.Asked → Refusal → FilesOutside S → FilesOutside S → Type 0
HasCause asked (refusal.Usage fault) before after =
    IsUsage asked fault before after ⊎ IsTooLong asked fault before after
HasCause asked (refusal.BadBundle fault) before after = IsBadBundle asked fault before after
HasCause asked refusal.ReadFault before after = IsReadFault asked before after
HasCause asked refusal.NoMemory before after = IsNoMemory before after
HasCause asked refusal.NoKey before after = LacksKey asked before after
HasCause asked refusal.NoPageDraw before after = LacksPageDraw asked before after
HasCause asked refusal.NoSuchDomain before after = IsNoSuchDomain asked before after
HasCause asked refusal.ShortSecret before after = IsShortSecret asked before after
HasCause asked (refusal.BadStore fault) before after = IsBadStore asked fault before after
HasCause asked (refusal.NoRoom domain) before after = IsStoredLack asked (NoRoom domain) before after
HasCause asked (refusal.BadState fault) before after = HasBadState asked fault before after
HasCause asked (refusal.ChangedDomain domain) before after =
    IsUnthawed asked (λ b s f. HasChangedDomain b s f domain) before after
HasCause asked (refusal.ChangedFrame frame) before after =
    IsUnthawed asked (λ b s f. HasChangedFrame b s f frame) before after

-- There is no run for this reason, and no file was written.
pub record NoRun {S : Type 0} (asked : spec.Asked) (refused : Refusal) (before after : FilesOutside S) : Type 0 where
  pub cause : HasCause asked refused before after
  pub held : SameFiles before.held after.held
  pub writing : after.writing ≡ before.writing

-- For a reason of this status there is no run; its line was shown, and nothing else was done.
pub record IsRefused {S O : Type 0} (asked : spec.Asked) (answer : Status) (before after : Outside S O) : Type 0 where
  pub refused : Refusal
  pub status : answer ≡ status_of_refusal refused
  pub no_run : NoRun asked refused before.files after.files
  pub line : Grows before.output.taken after.output.taken (refusal_line refused)
  pub faults : after.output.faults ≡ before.output.faults

-- A front of the line of a status that refuses was shown.
pub record LineFailed {S O : Type 0} (asked : spec.Asked) (before after : Outside S O) : Type 0 where
  pub refused : Refusal
  pub no_run : NoRun asked refused before.files after.files
  pub line : GrowsByFront before.output.taken after.output.taken (refusal_line refused)
  pub faults : Raised before.output.faults after.output.faults

-- Nothing was done but to show the line of a reason, or a front of it.
abbrev pub OnlyRefuses : {S O : Type 0} → spec.Asked → Outside S O → Outside S O → Status → Type 0
OnlyRefuses asked before after answer =
    IsRefused asked answer before after ⊎ ((answer ≡ status.WriteFault) × LineFailed asked before after)
