-- The laws on two calls of `run`, from those on two runs.
use Rattle.std.proofs.Common.{◌≡◌, ◌∙◌, ℕ, List, Option, Some, refl, slice_get, subst}
use Rattle.cloak_model.specs.declared.image.Program.{Program}
use Rattle.cloak_model.specs.Beginning.{Fresh}
use Rattle.cloak_model.specs.Exchange.{recorded_bytes}
use Rattle.cloak_model.specs.Record.{IsRecord}
use Rattle.cloak_model.specs.Run.{due, record_bytes}
use Rattle.io_traits.specs.Told.{Tells}
use Rattle.kernel_isolation.proofs.TwoRuns.{kernel_depends_on_half}
use Rattle.domain_isolation.specs.Isolation.{Hosts}
use Rattle.domain_isolation.proofs.Halves.{domain_depends_on_half}
use Rattle.record_law.proofs.Writing.{writes_its_record}
use Rattle.run_command.specs.TwoRuns.{Call, KernelsAgree, ProgramsAgree, RecordsTellRuns, image_read, run_made}
use Rattle.run_command.proofs.Lawful.{hosts}

pub kernels_agree : (S O : Type 0) → KernelsAgree S O
kernels_agree S O one other kernel half =
    let a = one.ran.asks in
    let a' = other.ran.asks in
    kernel_depends_on_half a.bundle a'.bundle (Fresh a.stream) (Fresh a'.stream) a.steps a'.steps one.ran.made
    other.ran.made a.joint a'.joint kernel half

-- a program of the image of a call is a domain of its run
hosts_of : {S O : Type 0} (call : Call S O) (d : ℕ) (p : Program) → slice_get (image_read call).programs d ≡ Some p →
    Hosts (image_read call) d p (Fresh call.ran.asks.stream) (run_made call)
hosts_of {S} {O} call d p there =
    let a = call.ran.asks in
    hosts a.bundle (Fresh a.stream) a.steps call.ran.made a.asks.file.in_grammar a.joint d p there

pub programs_agree : (S O : Type 0) → ProgramsAgree S O
programs_agree S O one other d p there there' schedule half =
    let a = one.ran.asks in
    let a' = other.ran.asks in
    domain_depends_on_half a.bundle a'.bundle d p (Fresh a.stream) (Fresh a'.stream) one.ran.made other.ran.made
    (hosts_of one d p there) (hosts_of other d p there') schedule refl half

-- a file that tells its bytes has those that are due
told_bytes : (told : Option (List ℕ)) (file bytes : List ℕ) → told ≡ Some file → Tells told bytes → file ≡ bytes
told_bytes told file bytes same tells = subst (λ (t : Option (List ℕ)). Tells t bytes) same tells

pub records_tell_runs : (S O : Type 0) → RecordsTellRuns S O
records_tell_runs S O call none items has =
    let r = run_made call in
    let bytes : has.file ≡ record_bytes r =
    told_bytes _ has.file (recorded_bytes (due r)) has.told (call.ran.written none).file ∙ writes_its_record r in
    call.ran.lawful.reads_back.no_other items (subst (λ (file : List ℕ). IsRecord file items) bytes has.is_record)
