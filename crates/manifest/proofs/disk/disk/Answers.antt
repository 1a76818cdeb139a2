use Rattle.std.proofs.Common.{◌≡◌, ℕ, List, Option, Some, None, Result, Ok, Err, Vec, sym, subst}
use Rattle.std.specs.declared.alloc.Global.{Global}
use Rattle.toml.specs.Data.{Members, as_table}
use Rattle.toml.specs.View.{view, table_view}
use Rattle.manifest.specs.declared.key.Key.TheVariants as keys
use Rattle.manifest.specs.declared.fault.FaultyKey.{FaultyKey}
use Rattle.manifest.specs.Keys.{stands_at}
use Rattle.manifest.specs.Faults.{Fault, at_key}
use Rattle.manifest.specs.Images.{DiskReads, DiskTableReads}
use Rattle.manifest.proofs.Steps.{answers_more, key_wrong}
use Rattle.manifest.proofs.Images.{no_table, a_table, disk_none, disk_no_table, disk_table}
use Rattle.manifest.proofs.disk.disk.Goals as goal

pub returns-in_default-clause-read : goal.returns-in_default-clause-read
returns-in_default-clause-read g c =
    disk_none (g.S.Shelf.held c.args.shelf.now) c.args.manifest.now (stands_at keys.Disk (view c.args.document.now))
    c.new.result.items (sym (rw c.in_default.is at c.value.ensures)) c.new.ensures.items

pub returns-then-is_none-clause-read : goal.returns-then-is_none-clause-read
returns-then-is_none-clause-read g c =
    let held = g.S.Shelf.held c.args.shelf.now in
    let manifest = c.args.manifest.now in
    let stands = stands_at keys.Disk (view c.args.document.now) in
    let from = view c.in-Some.table.now in
    let none : as_table from ≡ None = no_table _ _ _ _ c.as_table.ensures c.is_none.ensures c.if-is_none.true in
    key_wrong (λ (v : Vec ℕ Global). v.items) (DiskReads held manifest stands) c.fault.result c.from.result
    (subst (λ (f : FaultyKey). DiskReads held manifest stands (Err (at_key f))) (sym c.fault.ensures)
    (disk_no_table held manifest stands from (sym (rw c.in-Some.is at c.value.ensures)) none))
    c.from.ensures

pub returns-clause-read : goal.returns-clause-read
returns-clause-read g c =
    let held = g.S.Shelf.held c.args.shelf.now in
    let manifest = c.args.manifest.now in
    let stands = stands_at keys.Disk (view c.args.document.now) in
    let from = view c.in-Some.table.now in
    let inside : (m : Members) × (as_table from ≡ Some m) =
    a_table _ _ _ _ c.as_table.ensures c.is_none.ensures c.if-is_none.false in
    answers_more (λ (v : Vec ℕ Global). v.items) (λ (v : Vec ℕ Global). v.items) (DiskTableReads held manifest from)
    (DiskReads held manifest stands) c.disk_of.result
    (λ fault wrong. disk_table held manifest stands from inside.0 (Err fault) (sym (rw c.in-Some.is at c.value.ensures)) inside.1 wrong)
    (λ v whole. disk_table held manifest stands from inside.0 (Ok v.items) (sym (rw c.in-Some.is at c.value.ensures)) inside.1 whole)
    c.disk_of.ensures.read
