-- The laws on two calls of `store`, from those on two runs.
use Rattle.std.proofs.Common.{◌≡◌, ◌∙◌, ℕ, List, Option, Some, slice_get, subst}
use Rattle.cloak_model.specs.declared.image.Program.{Program}
use Rattle.cloak_model.specs.Exchange.{recorded_bytes}
use Rattle.cloak_model.specs.Record.{IsRecord}
use Rattle.cloak_model.specs.Run.{due, record_bytes}
use Rattle.cloak_model.specs.StoredFiles.{FileContents}
use Rattle.io_traits.specs.Told.{Tells}
use Rattle.kernel_isolation.proofs.TwoRuns.{kernel_depends_on_half}
use Rattle.domain_isolation.specs.Isolation.{Hosts}
use Rattle.domain_isolation.proofs.Halves.{domain_depends_on_half}
use Rattle.record_law.proofs.Writing.{writes_its_record}
use Rattle.run_command.proofs.Lawful.{hosts}
use Rattle.store_command.specs.TwoRuns.{Call, KernelsAgree, Over, ProgramsAgree, RecordsTellRuns, beginning_of, image_read, run_made}

pub kernels_agree : (S O : Type 0) → KernelsAgree S O
kernels_agree S O one other files files' over over' kernel half =
    let a = one.stored.becomes.leaves files over in
    let a' = other.stored.becomes.leaves files' over' in
    kernel_depends_on_half (image_read one) (image_read other) (beginning_of one files) (beginning_of other files')
    one.stored.steps other.stored.steps a.made a'.made a.runs a'.runs kernel half

-- a program of the image of a call is a domain of its run
hosts_of : {S O : Type 0} (call : Call S O) (files : List FileContents) (over : Over call files) (d : ℕ) (p : Program) →
    slice_get (image_read call).programs d ≡ Some p →
    Hosts (image_read call) d p (beginning_of call files) (run_made call files over)
hosts_of {S} {O} call files over d p there =
    let a = call.stored.becomes.leaves files over in
    hosts (image_read call) (beginning_of call files) call.stored.steps a.made call.stored.asks.bundle.is.in_grammar
    a.runs d p there

pub programs_agree : (S O : Type 0) → ProgramsAgree S O
programs_agree S O one other files files' over over' d p there there' schedule begun half =
    domain_depends_on_half (image_read one) (image_read other) d p (beginning_of one files) (beginning_of other files')
    (run_made one files over) (run_made other files' over') (hosts_of one files over d p there)
    (hosts_of other files' over' d p there') schedule begun half

-- a file that tells its bytes has those that are due
pub told_bytes : (told : Option (List ℕ)) (file bytes : List ℕ) → told ≡ Some file → Tells told bytes → file ≡ bytes
told_bytes told file bytes same tells = subst (λ (t : Option (List ℕ)). Tells t bytes) same tells

pub records_tell_runs : (S O : Type 0) → RecordsTellRuns S O
records_tell_runs S O call files over none items has =
    let a = call.stored.becomes.leaves files over in
    let bytes : has.file ≡ record_bytes a.made =
    told_bytes _ has.file (recorded_bytes (due a.made)) has.told (a.left none).file ∙ writes_its_record a.made in
    a.lawful.reads_back.no_other items (subst (λ (file : List ℕ). IsRecord file items) bytes has.is_record)
