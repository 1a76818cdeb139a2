use Rattle.std.proofs.Common.{◌≡◌, ℕ, List, Option, Some, None, Result, Ok, Err, Vec, sym}
use Rattle.std.specs.declared.alloc.Global.{Global}
use Rattle.cloak_model.specs.declared.image.Program.{Program}
use Rattle.toml.specs.View.{view}
use Rattle.command_parts.specs.Outside.{files}
use Rattle.manifest.specs.declared.key.Key.TheVariants.{Elf}
use Rattle.manifest.specs.Keys.{stands_at}
use Rattle.manifest.specs.Faults.{Fault, by_keys}
use Rattle.manifest.specs.Parts.{program_at}
use Rattle.manifest.specs.Loading.{elf_program_at}
use Rattle.manifest.specs.Sources.{ElfReads, SourceReads}
use Rattle.manifest.specs.Images.{beside_no_elf, ProgramBy}
use Rattle.manifest.proofs.ImageParts.{flat_program_unread, flat_program_read, elf_program_unread, elf_program_read}
use Rattle.manifest.proofs.Kept.{returned_unread}
use Rattle.manifest.proofs.Steps.{answers_more, hands_on}
use Rattle.manifest.proofs.programs.program_by.Goals as goal

pub returns-in_err-bytes-clause-read : goal.returns-in_err-bytes-clause-read
returns-in_err-bytes-clause-read g c =
    let held = g.S.Shelf.held c.args.shelf.now in
    let manifest = c.args.manifest.now in
    let at = c.args.place.part in
    let from = view c.args.place.table.now in
    let stands = stands_at Elf from in
    let none : stands ≡ None = sym (rw c.in_default.is at c.value.ensures) in
    hands_on (λ (v : Vec ℕ Global). v.items) (λ (p : Program). p) (SourceReads held manifest at from) (ProgramBy held manifest at c.args.frames from stands)
    c.in_err-bytes.field-0.0 c.from_residual.result
    (λ fault source. flat_program_unread held manifest c.args.frames from at stands none fault source)
    c.in_err-bytes.ensures.source c.from_residual.ensures.1

pub returns-in_default-clause-read : goal.returns-in_default-clause-read
returns-in_default-clause-read g c =
    let held = g.S.Shelf.held c.args.shelf.now in
    let manifest = c.args.manifest.now in
    let at = c.args.place.part in
    let from = view c.args.place.table.now in
    let stands = stands_at Elf from in
    let none : stands ≡ None = sym (rw c.in_default.is at c.value.ensures) in
    let bytes = c.in_ok-bytes.bytes.items in
    answers_more (λ (p : Program). p) (λ (p : Program). p)
    (λ (r : Result (Program) Fault). r ≡ by_keys (program_at at from c.args.frames c.in_ok-bytes.bytes.items))
    (ProgramBy held manifest at c.args.frames from stands) c.placed_program.result
    (λ fault is. flat_program_read held manifest c.args.frames from at stands none bytes (Err fault) c.in_ok-bytes.ensures.source is)
    (λ x is. flat_program_read held manifest c.args.frames from at stands none bytes (Ok x) c.in_ok-bytes.ensures.source is)
    c.placed_program.ensures.read

pub returns-in_default-clause-reads : goal.returns-in_default-clause-reads
returns-in_default-clause-reads g c =
    returned_unread (files g.S.Shelf c.args.shelf.now) (files g.S.Shelf c.source.new.shelf) c.placed_program.result
    c.in_ok-bytes.ensures.reads c.placed_program.ensures.no_read

pub returns-in_err-file-clause-read : goal.returns-in_err-file-clause-read
returns-in_err-file-clause-read g c =
    let held = g.S.Shelf.held c.args.shelf.now in
    let manifest = c.args.manifest.now in
    let at = c.args.place.part in
    let from = view c.args.place.table.now in
    let stands = stands_at Elf from in
    let value = view c.in-Some.value.now in
    let some : stands ≡ Some value = sym (rw c.in-Some.is at c.value.ensures) in
    hands_on (λ (v : Vec ℕ Global). v.items) (λ (p : Program). p) (ElfReads held manifest at beside_no_elf from value) (ProgramBy held manifest at c.args.frames from stands)
    c.in_err-file.field-0.0 c.from_residual-in_err-file.result
    (λ fault wrong. elf_program_unread held manifest c.args.frames from at stands value some fault wrong)
    c.in_err-file.ensures.read c.from_residual-in_err-file.ensures.1

pub returns-clause-read : goal.returns-clause-read
returns-clause-read g c =
    let held = g.S.Shelf.held c.args.shelf.now in
    let manifest = c.args.manifest.now in
    let at = c.args.place.part in
    let from = view c.args.place.table.now in
    let stands = stands_at Elf from in
    let value = view c.in-Some.value.now in
    let some : stands ≡ Some value = sym (rw c.in-Some.is at c.value.ensures) in
    let file = c.in_ok-file.file.items in
    answers_more (λ (p : Program). p) (λ (p : Program). p)
    (λ (r : Result (Program) Fault). r ≡ by_keys (elf_program_at at from c.args.frames c.in_ok-file.file.items))
    (ProgramBy held manifest at c.args.frames from stands) c.program_of_file.result
    (λ fault is. elf_program_read held manifest c.args.frames from at stands value some file (Err fault) c.in_ok-file.ensures.read is)
    (λ x is. elf_program_read held manifest c.args.frames from at stands value some file (Ok x) c.in_ok-file.ensures.read is)
    (rw c.as_slice.ensures.value at c.program_of_file.ensures.read)

pub returns-clause-reads : goal.returns-clause-reads
returns-clause-reads g c =
    returned_unread (files g.S.Shelf c.args.shelf.now) (files g.S.Shelf c.elf_file.new.shelf) c.program_of_file.result
    c.in_ok-file.ensures.reads c.program_of_file.ensures.no_read
