-- What `trace` answers.
use Rattle.std.specs.Prelude.{ℕ, ◌≡◌, ◌≤◌, ◌⊎◌, Bool, true, false, List, length, slice_get, Option, Some, None, Err}
use Rattle.cloak_model.specs.declared.image.Bundle.{Bundle}
use Rattle.cloak_model.specs.declared.image.Program.{Program}
use Rattle.cloak_model.specs.DomainAlone.{started_part}
use Rattle.command_parts.specs.Bundles.{IsInFile, ReadsBundle}
use Rattle.command_parts.specs.Outside.{Outside}
use Rattle.command_parts.specs.Refusing.{Refuses}
use Rattle.command_parts.specs.declared.refusal.Refusal.{Refusal}
use Rattle.command_parts.specs.declared.refusal.Refusal.TheVariants.{NoMemory, NoSuchDomain}
use Rattle.command_parts.specs.declared.status.Status.{Status}
use Rattle.read_back.specs.Answering.{program_unfit, viewed_unfit}
use Rattle.read_back.specs.Reading.{ShowsRecord}
use Rattle.run_trace.specs.ProgramTracing.{program_text}
use Rattle.run_trace.specs.Refusing.{is_there, RefusesHart}
use Rattle.run_trace.specs.Tracing.{kernel_text}
use Rattle.run_trace.specs.declared.choice.TraceChoice.{TraceChoice}

-- The record was read by the kernel alone, if no program is named, or by the program of this number alone, up to where
-- reading ended, and what it did was shown.
abbrev pub ShowsSide : {S O : Type 0} → Option ℕ → Bundle → TraceChoice → List ℕ → Outside S O → Outside S O → Status →
    Type 0
ShowsSide None bundle choice record_name before after answer =
    ShowsRecord (viewed_unfit bundle.kernel) (kernel_text choice bundle.kernel) record_name answer before after
ShowsSide (Some d) bundle choice record_name before after answer =
    (p : Program) × (slice_get bundle.programs d ≡ Some p)
    × ShowsRecord (program_unfit d bundle.kernel (started_part d p)) (program_text choice d bundle.kernel (started_part d p))
    record_name answer before after

-- A line says why nothing was read of the record.
pub record RefusesTrace {S O : Type 0} (refused : Refusal) (before after : Outside S O) (answer : Status) : Type 0 where
  pub reading : after.files.reading ≡ before.files.reading
  pub line : Refuses before.output after.output refused answer

-- The bundle has no program of the number that is named.
pub record LacksProgram (program : Option ℕ) (bundle : Bundle) : Type 0 where
  pub d : ℕ
  pub named : program ≡ Some d
  pub few : length bundle.programs ≤ d

-- With a bundle: the side was shown; or there was no memory to begin with; or there is no such program.
abbrev pub ShowsBundle : {S O : Type 0} → Option ℕ → Bundle → TraceChoice → List ℕ → Outside S O → Outside S O →
    Status → Type 0
ShowsBundle program bundle choice record_name before after answer =
    ShowsSide program bundle choice record_name before after answer
    ⊎ (RefusesTrace NoMemory before after answer
    ⊎ (LacksProgram program bundle × RefusesTrace NoSuchDomain before after answer))

-- With a bundle that has the hart that is named, if one is; or a line says that it has no such hart.
abbrev pub ShowsIf : {S O : Type 0} → (has_hart : Bool) → Option ℕ → Bundle → TraceChoice → List ℕ → Outside S O →
    Outside S O → Status → Type 0
ShowsIf true program bundle choice record_name before after answer =
    ShowsBundle program bundle choice record_name before after answer
ShowsIf false program bundle choice record_name before after answer = RefusesHart before after answer

-- The file is this bundle, if its bytes are told, and this was shown.
pub record TracesRun {S O : Type 0} (bundle_name record_name : List ℕ) (program : Option ℕ) (choice : TraceChoice)
    (before after : Outside S O) (answer : Status) : Type 0 where
  pub bundle : Bundle
  pub file : IsInFile (before.files.held bundle_name) bundle
  pub shows : ShowsIf (is_there choice.hart bundle.kernel.harts) program bundle choice record_name before after answer

-- The bundle was not read, and the line of this was shown.
pub record LacksBundle {S O : Type 0} (bundle_name : List ℕ) (before after : Outside S O) (answer : Status) : Type 0 where
  pub refused : Refusal
  pub cause : ReadsBundle (before.files.held bundle_name) before.files.reading after.files.reading (Err refused)
  pub line : Refuses before.output after.output refused answer

abbrev pub TraceAnswers : {S O : Type 0} → List ℕ → List ℕ → Option ℕ → TraceChoice → Outside S O → Outside S O →
    Status → Type 0
TraceAnswers bundle_name record_name program choice before after answer =
    TracesRun bundle_name record_name program choice before after answer ⊎ LacksBundle bundle_name before after answer
