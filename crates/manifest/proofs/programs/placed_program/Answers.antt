use Rattle.std.proofs.Common.{◌≡◌, ℕ, Result, Err, ap, subst}
use Rattle.cloak_model.specs.declared.image.Program.{Program}
use Rattle.toml.specs.View.{view}
use Rattle.manifest.specs.declared.fault.FaultyKey.{FaultyKey}
use Rattle.manifest.specs.Faults.{Fault, by_keys}
use Rattle.manifest.specs.Parts.{pages_at, program_at}
use Rattle.manifest.proofs.ProgramKeys.{wrong_pages, wrong_frame, wrong_start, wrong_key, whole_program}
use Rattle.manifest.proofs.Steps.{key_fails}
use Rattle.manifest.proofs.programs.placed_program.Goals as goal

pub returns-in_err-pages-clause-read : goal.returns-in_err-pages-clause-read
returns-in_err-pages-clause-read c =
    let at = c.args.place.part in
    let table = view c.args.place.table.now in
    let e = c.in_err-pages.field-0.0 in
    key_fails (λ (p : Program). p) (λ (r : Result Program Fault). r ≡ by_keys (program_at at table c.args.frames c.args.bytes.items)) e
    c.from_residual.result
    (ap by_keys (wrong_pages at table c.args.frames c.args.bytes.items e (rw c.as_slice.ensures.value at c.in_err-pages.ensures.read)))
    c.from_residual.ensures.1

pub returns-in_err-frame-clause-read : goal.returns-in_err-frame-clause-read
returns-in_err-frame-clause-read c =
    let at = c.args.place.part in
    let table = view c.args.place.table.now in
    let e = c.in_err-frame.field-0.0 in
    key_fails (λ (p : Program). p) (λ (r : Result Program Fault). r ≡ by_keys (program_at at table c.args.frames c.args.bytes.items)) e
    c.from_residual-in_err-frame.result
    (ap by_keys (wrong_frame at table c.args.frames c.args.bytes.items e c.in_ok-pages.pages
    (rw c.as_slice.ensures.value at c.in_ok-pages.ensures.read) c.in_err-frame.ensures.read))
    c.from_residual-in_err-frame.ensures.1

pub returns-in_err-start-clause-read : goal.returns-in_err-start-clause-read
returns-in_err-start-clause-read c =
    let at = c.args.place.part in
    let table = view c.args.place.table.now in
    let e = c.in_err-start.field-0.0 in
    key_fails (λ (p : Program). p) (λ (r : Result Program Fault). r ≡ by_keys (program_at at table c.args.frames c.args.bytes.items)) e
    c.from_residual-in_err-start.result
    (ap by_keys (wrong_start at table c.args.frames c.args.bytes.items e c.in_ok-pages.pages c.in_ok-frame.frame
    (rw c.as_slice.ensures.value at c.in_ok-pages.ensures.read) c.in_ok-frame.ensures.read c.in_err-start.ensures.read))
    c.from_residual-in_err-start.ensures.1

pub returns-in_err-key-clause-read : goal.returns-in_err-key-clause-read
returns-in_err-key-clause-read c =
    let at = c.args.place.part in
    let table = view c.args.place.table.now in
    let e = c.in_err-key.field-0.0 in
    key_fails (λ (p : Program). p) (λ (r : Result Program Fault). r ≡ by_keys (program_at at table c.args.frames c.args.bytes.items)) e
    c.from_residual-in_err-key.result
    (ap by_keys (wrong_key at table c.args.frames c.args.bytes.items e c.in_ok-pages.pages c.in_ok-frame.frame c.in_ok-start.start
    (rw c.as_slice.ensures.value at c.in_ok-pages.ensures.read) c.in_ok-frame.ensures.read c.in_ok-start.ensures.read
    c.in_err-key.ensures.read))
    c.from_residual-in_err-key.ensures.1

pub returns-clause-read : goal.returns-clause-read
returns-clause-read c =
    rw (c.new.ensures, c.in_ok-padded.ensures.padded)
    (ap by_keys (whole_program c.args.place.part (view c.args.place.table.now) c.args.frames c.args.bytes.items c.in_ok-pages.pages
    c.in_ok-frame.frame c.in_ok-start.start c.in_ok-key.key (rw c.as_slice.ensures.value at c.in_ok-pages.ensures.read)
    c.in_ok-frame.ensures.read c.in_ok-start.ensures.read c.in_ok-key.ensures.read))
