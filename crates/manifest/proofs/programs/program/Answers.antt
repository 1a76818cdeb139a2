use Rattle.std.proofs.Common.{◌≡◌, ℕ, Result, Ok, Err}
use Rattle.cloak_model.specs.declared.image.Program.{Program}
use Rattle.toml.specs.View.{view}
use Rattle.command_parts.specs.Outside.{files}
use Rattle.manifest.specs.declared.key.Key.TheVariants.{Elf}
use Rattle.manifest.specs.declared.key.ManifestTable.TheVariants as part
use Rattle.manifest.specs.Keys.{stands_at}
use Rattle.manifest.specs.Faults.{Fault, only_keys}
use Rattle.manifest.specs.Images.{program_keys, ProgramBy, ProgramReads}
use Rattle.manifest.proofs.ImageParts.{program_key, program_read}
use Rattle.manifest.proofs.Kept.{read_nothing, unread}
use Rattle.manifest.proofs.Steps.{answers_more, hands_on}
use Rattle.manifest.proofs.programs.program.Goals as goal

pub returns-in_err-has_only-clause-read : goal.returns-in_err-has_only-clause-read
returns-in_err-has_only-clause-read g c =
    let held = g.S.Shelf.held c.args.shelf.now in
    let manifest = c.args.manifest.now in
    let from = view c.args.table.now in
    hands_on (λ (u : Unit {0}). u) (λ (p : Program). p)
    (λ (r : Result (Unit {0}) Fault). r ≡ only_keys (part.Program c.args.number) program_keys from)
    (ProgramReads held manifest c.args.frames c.args.number from) c.in_err-has_only.field-0.0 c.from_residual.result
    (λ fault only. program_key held manifest c.args.frames from c.args.number fault only)
    c.in_err-has_only.ensures.read c.from_residual.ensures.1

pub returns-clause-read : goal.returns-clause-read
returns-clause-read g c =
    let held = g.S.Shelf.held c.args.shelf.now in
    let manifest = c.args.manifest.now in
    let from = view c.args.table.now in
    answers_more (λ (p : Program). p) (λ (p : Program). p)
    (ProgramBy held manifest (part.Program c.args.number) c.args.frames from (stands_at Elf from))
    (ProgramReads held manifest c.args.frames c.args.number from) c.program_by.result
    (λ fault wrong. program_read held manifest c.args.frames from c.args.number (Err fault) _ c.in_ok-has_only.ensures.read wrong)
    (λ p whole. program_read held manifest c.args.frames from c.args.number (Ok p) _ c.in_ok-has_only.ensures.read whole)
    c.program_by.ensures.read

pub returns-in_err-has_only-clause-reads : goal.returns-in_err-has_only-clause-reads
returns-in_err-has_only-clause-reads g c =
    let state = files g.S.Shelf c.args.shelf.now in
    unread state state c.in_err-has_only.field-0.0 c.from_residual.result (read_nothing state) c.in_err-has_only.ensures.no_read
    c.from_residual.ensures.1
