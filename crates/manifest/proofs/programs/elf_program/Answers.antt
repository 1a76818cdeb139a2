use Rattle.std.proofs.Common.{◌≡◌, ◌≤◌, ◌+◌, ◌-◌, ◌*◌, ℕ, Ok, Err, Result, length, map, ap, arith, All}
use Rattle.std.proofs.lemmas.List.{length-map}
use Rattle.cloak_model.specs.declared.image.Program.{Program}
use Rattle.toml.specs.View.{view}
use Rattle.elf_image.specs.Views.{seen, seen_image}
use Rattle.manifest.specs.declared.key.Key.TheVariants.{Elf}
use Rattle.manifest.specs.Faults.{Fault, by_keys}
use Rattle.manifest.specs.Parts.{pages_at}
use Rattle.manifest.specs.Loading.{base_of, highest, image_program_at}
use Rattle.manifest.proofs.ElfKeys.{elf_pages, elf_frame, elf_starts, elf_key, elf_whole}
use Rattle.manifest.proofs.Spans.{from_base, to_top}
use Rattle.manifest.proofs.Steps.{key_fails}
use Rattle.manifest.proofs.programs.elf_program.Goals as goal

pub span-requires-clause-some : goal.span-requires-clause-some
span-requires-clause-some c = rw c.as_slice-parts.ensures.value (rw length-map at c.requires.some)

pub elf_start-requires-clause-base : goal.elf_start-requires-clause-base
elf_start-requires-clause-base c = rw c.as_slice-parts.ensures.value at c.base_of-base.ensures.base

pub loaded-requires-clause-from : goal.loaded-requires-clause-from
loaded-requires-clause-from c = from_base c.as_slice-parts.result.now c.base_of-base.result c.base_of-base.ensures.base

pub loaded-requires-clause-to : goal.loaded-requires-clause-to
loaded-requires-clause-to c =
    let parts = c.as_slice-parts.result.now in
    to_top parts (c.base_of-base.result + 4096 * c.in_ok-pages.pages) (omega (arith, c.span.ensures, c.in_ok-pages.ensures.inside))
    (rw c.as_slice-parts.ensures.value c.requires.each)

pub returns-in_err-pages-clause-read : goal.returns-in_err-pages-clause-read
returns-in_err-pages-clause-read c =
    let at = c.args.place.part in
    let table = view c.args.place.table.now in
    let image = seen_image c.args.image.now in
    let e = c.in_err-pages.field-0.0 in
    let read = rw (c.span.ensures, c.base_of-base.ensures.base, c.as_slice-parts.ensures.value) at c.in_err-pages.ensures.read in
    key_fails (λ (p : Program). p) (λ (r : Result Program Fault). r ≡ by_keys (image_program_at at table c.args.frames image)) e
    c.from_residual.result (ap by_keys (elf_pages at table c.args.frames image e read)) c.from_residual.ensures.1

pub returns-in_err-frame-clause-read : goal.returns-in_err-frame-clause-read
returns-in_err-frame-clause-read c =
    let at = c.args.place.part in
    let table = view c.args.place.table.now in
    let image = seen_image c.args.image.now in
    let e = c.in_err-frame.field-0.0 in
    let pages = rw (c.span.ensures, c.base_of-base.ensures.base, c.as_slice-parts.ensures.value) at c.in_ok-pages.ensures.read in
    key_fails (λ (p : Program). p) (λ (r : Result Program Fault). r ≡ by_keys (image_program_at at table c.args.frames image)) e
    c.from_residual-in_err-frame.result
    (ap by_keys (elf_frame at table c.args.frames image c.in_ok-pages.pages pages e c.in_err-frame.ensures.read))
    c.from_residual-in_err-frame.ensures.1

pub returns-in_err-start-clause-read : goal.returns-in_err-start-clause-read
returns-in_err-start-clause-read c =
    let at = c.args.place.part in
    let table = view c.args.place.table.now in
    let image = seen_image c.args.image.now in
    let e = c.in_err-start.field-0.0 in
    let pages = rw (c.span.ensures, c.base_of-base.ensures.base, c.as_slice-parts.ensures.value) at c.in_ok-pages.ensures.read in
    key_fails (λ (p : Program). p) (λ (r : Result Program Fault). r ≡ by_keys (image_program_at at table c.args.frames image)) e
    c.from_residual-in_err-start.result
    (ap by_keys (elf_starts at table c.args.frames image c.in_ok-pages.pages pages c.in_ok-frame.frame c.in_ok-frame.ensures.read e
    c.in_err-start.ensures.read))
    c.from_residual-in_err-start.ensures.1

pub returns-in_err-key-clause-read : goal.returns-in_err-key-clause-read
returns-in_err-key-clause-read c =
    let at = c.args.place.part in
    let table = view c.args.place.table.now in
    let image = seen_image c.args.image.now in
    let e = c.in_err-key.field-0.0 in
    let pages = rw (c.span.ensures, c.base_of-base.ensures.base, c.as_slice-parts.ensures.value) at c.in_ok-pages.ensures.read in
    key_fails (λ (p : Program). p) (λ (r : Result Program Fault). r ≡ by_keys (image_program_at at table c.args.frames image)) e
    c.from_residual-in_err-key.result
    (ap by_keys (elf_key at table c.args.frames image c.in_ok-pages.pages pages c.in_ok-frame.frame c.in_ok-frame.ensures.read
    c.in_ok-start.start c.in_ok-start.ensures.read e c.in_err-key.ensures.read))
    c.from_residual-in_err-key.ensures.1

pub returns-clause-read : goal.returns-clause-read
returns-clause-read c =
    let at = c.args.place.part in
    let table = view c.args.place.table.now in
    let image = seen_image c.args.image.now in
    let pages = rw (c.span.ensures, c.base_of-base.ensures.base, c.as_slice-parts.ensures.value) at c.in_ok-pages.ensures.read in
    rw (c.new.ensures, c.in_ok-loaded.ensures.bytes, c.base_of-base.ensures.base, c.as_slice-parts.ensures.value)
    (ap by_keys (elf_whole at table c.args.frames image c.in_ok-pages.pages pages c.in_ok-frame.frame c.in_ok-frame.ensures.read
    c.in_ok-start.start c.in_ok-start.ensures.read c.in_ok-key.key c.in_ok-key.ensures.read))
