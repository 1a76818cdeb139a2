use Rattle.std.proofs.Common.{◌≡◌, ℕ, List, Option, Some, None, Result, Ok, Err, Vec, sym, subst}
use Rattle.std.specs.declared.alloc.Global.{Global}
use Rattle.toml.specs.Data.{as_str}
use Rattle.toml.specs.View.{view}
use Rattle.manifest.specs.declared.key.Key.TheVariants.{Elf}
use Rattle.manifest.specs.declared.fault.FaultyKey.{FaultyKey}
use Rattle.manifest.specs.Faults.{at_key}
use Rattle.manifest.specs.Sources.{AtPath, ElfReads, IsFileAt}
use Rattle.manifest.specs.Images.{beside_no_elf}
use Rattle.manifest.proofs.Steps.{answers_more, key_fails, key_wrong}
use Rattle.manifest.proofs.Tables.{elf_beside, elf_no_name, elf_named}
use Rattle.manifest.proofs.sources.elf_file.Goals as goal

pub returns-in_err-stands_alone-clause-read : goal.returns-in_err-stands_alone-clause-read
returns-in_err-stands_alone-clause-read g c =
    let held = g.S.Shelf.held c.args.shelf.now in
    let at = c.args.place.part in
    let from = view c.args.place.table.now in
    let value = view c.args.value.now in
    key_fails (λ (v : Vec ℕ Global). v.items) (ElfReads held c.args.manifest.now at beside_no_elf from value)
    c.in_err-stands_alone.field-0.0 c.from_residual.result
    (elf_beside held c.args.manifest.now at from value beside_no_elf c.in_err-stands_alone.field-0.0 c.in_err-stands_alone.ensures)
    c.from_residual.ensures.1

pub returns-in_default-clause-read : goal.returns-in_default-clause-read
returns-in_default-clause-read g c =
    let held = g.S.Shelf.held c.args.shelf.now in
    let manifest = c.args.manifest.now in
    let at = c.args.place.part in
    let from = view c.args.place.table.now in
    let value = view c.args.value.now in
    let none : as_str value ≡ None = sym (rw c.in_default.is at c.as_str.ensures) in
    key_wrong (λ (v : Vec ℕ Global). v.items) (ElfReads held manifest at beside_no_elf from value) c.fault.result c.from.result
    (subst (λ (f : FaultyKey). ElfReads held manifest at beside_no_elf from value (Err (at_key f))) (sym c.fault.ensures)
    (elf_no_name held manifest at from value beside_no_elf _ c.in_ok-stands_alone.ensures none))
    c.from.ensures

pub returns-clause-read : goal.returns-clause-read
returns-clause-read g c =
    let held = g.S.Shelf.held c.args.shelf.now in
    let manifest = c.args.manifest.now in
    let at = c.args.place.part in
    let from = view c.args.place.table.now in
    let value = view c.args.value.now in
    let name = c.in-Some.name.now in
    let some : as_str value ≡ Some name = sym (rw c.in-Some.is at c.as_str.ensures) in
    answers_more (λ (v : Vec ℕ Global). v.items) (λ (v : Vec ℕ Global). v.items)
    (AtPath manifest name (λ path. IsFileAt at Elf (held path))) (ElfReads held manifest at beside_no_elf from value)
    c.flat_source.result
    (λ fault wrong. elf_named held manifest at from value beside_no_elf _ c.in_ok-stands_alone.ensures name (Err fault) some wrong)
    (λ v whole. elf_named held manifest at from value beside_no_elf _ c.in_ok-stands_alone.ensures name (Ok v.items) some whole)
    c.flat_source.ensures.source
