use Rattle.std.proofs.Common.{◌≡◌, ◌∙◌, ℕ, List, Option, Result, Ok, Err, Vec, length, drop, sym, subst, arith}
use Rattle.std.proofs.lemmas.List.{take_at}
use Rattle.std.specs.declared.alloc.Global.{Global}
use Rattle.toml.specs.View.{view, items_view}
use Rattle.manifest.specs.declared.key.ManifestTable.TheVariants.{Disk}
use Rattle.manifest.specs.Faults.{Fault, ReturnsRead, only_keys}
use Rattle.manifest.specs.Sources.{InTurn}
use Rattle.manifest.specs.Images.{disk_keys, FileReads, FilesRead, DiskTableReads}
use Rattle.command_parts.specs.Outside.{files}
use Rattle.manifest.proofs.Kept.{read_nothing, unread, want_unread}
use Rattle.manifest.proofs.Steps.{hands_on, hands_no_fault, key_fails, want_no_fault}
use Rattle.manifest.proofs.Images.{disk_key, disk_blocks, disk_list, disk_files}
use Rattle.manifest.proofs.disk.disk_of.Goals as goal

pub returns-in_err-has_only-clause-read : goal.returns-in_err-has_only-clause-read
returns-in_err-has_only-clause-read g c =
    let held = g.S.Shelf.held c.args.shelf.now in
    let manifest = c.args.manifest.now in
    let from = view c.args.table.now in
    hands_on (λ (u : Unit {0}). u) (λ (v : Vec ℕ Global). v.items)
    (λ (r : Result (Unit {0}) Fault). r ≡ only_keys Disk disk_keys from) (DiskTableReads held manifest from)
    c.in_err-has_only.field-0.0 c.from_residual.result (λ fault only. disk_key held manifest from fault only)
    c.in_err-has_only.ensures.read c.from_residual.ensures.1

pub returns-in_err-blocks-clause-read : goal.returns-in_err-blocks-clause-read
returns-in_err-blocks-clause-read g c =
    let held = g.S.Shelf.held c.args.shelf.now in
    let manifest = c.args.manifest.now in
    let from = view c.args.table.now in
    key_fails (λ (v : Vec ℕ Global). v.items) (DiskTableReads held manifest from) c.in_err-blocks.field-0.0
    c.from_residual-in_err-blocks.result
    (disk_blocks held manifest from _ c.in_ok-has_only.ensures.read c.in_err-blocks.field-0.0 c.in_err-blocks.ensures.read)
    c.from_residual-in_err-blocks.ensures.1

pub returns-in_err-tables-clause-read : goal.returns-in_err-tables-clause-read
returns-in_err-tables-clause-read g c =
    let held = g.S.Shelf.held c.args.shelf.now in
    let manifest = c.args.manifest.now in
    let from = view c.args.table.now in
    key_fails (λ (v : Vec ℕ Global). v.items) (DiskTableReads held manifest from) c.in_err-tables.field-0.0
    c.from_residual-in_err-tables.result
    (disk_list held manifest from _ c.in_ok-has_only.ensures.read c.in_ok-blocks.blocks c.in_ok-blocks.ensures.read
    c.in_err-tables.field-0.0 c.in_err-tables.ensures)
    c.from_residual-in_err-tables.ensures.1

pub returns-in_err-disk-clause-read : goal.returns-in_err-disk-clause-read
returns-in_err-disk-clause-read g c =
    hands_no_fault (λ (v : Vec ℕ Global). v.items)
    (DiskTableReads (g.S.Shelf.held c.args.shelf.now) c.args.manifest.now (view c.args.table.now)) c.in_err-disk.field-0.0
    c.from_residual-in_err-disk.result (want_no_fault c.in_err-disk.field-0.0 c.in_err-disk.ensures.want) c.from_residual-in_err-disk.ensures.1

pub returns-in_err-place_files-clause-read : goal.returns-in_err-place_files-clause-read
unfolding FilesRead
returns-in_err-place_files-clause-read g c =
    let held = g.S.Shelf.held c.args.shelf.now in
    let manifest = c.args.manifest.now in
    let from = view c.args.table.now in
    let tables = items_view c.in_ok-tables.tables.now in
    let new = c.place_files.new.disk in
    let here = subst (λ (xs : List ℕ). ReturnsRead {X = Unit {0}} (λ u. new) (InTurn (FileReads held manifest) 1 tables xs)
    (Err c.in_err-place_files.field-0.0))
    (c.deref_mut.ensures.value ∙ c.in_ok-disk.ensures.zeros) c.in_err-place_files.ensures.read in
    hands_on (λ (u : Unit {0}). new) (λ (v : Vec ℕ Global). v.items) (FilesRead held manifest c.in_ok-blocks.blocks tables)
    (DiskTableReads held manifest from) c.in_err-place_files.field-0.0 c.from_residual-in_err-place_files.result
    (λ fault files. disk_files held manifest from _ c.in_ok-has_only.ensures.read c.in_ok-blocks.blocks
    c.in_ok-blocks.ensures.read tables _ c.in_ok-tables.ensures files)
    here c.from_residual-in_err-place_files.ensures.1

pub returns-clause-read : goal.returns-clause-read
unfolding FilesRead
returns-clause-read g c =
    let held = g.S.Shelf.held c.args.shelf.now in
    let manifest = c.args.manifest.now in
    let from = view c.args.table.now in
    let tables = items_view c.in_ok-tables.tables.now in
    let new = c.place_files.new.disk in
    let here = subst (λ (xs : List ℕ). InTurn (FileReads held manifest) 1 tables xs (Ok new))
    (c.deref_mut.ensures.value ∙ c.in_ok-disk.ensures.zeros) c.in_ok-place_files.ensures.read in
    let same = take_at new (drop (length new) c.in_ok-disk.disk.items) c.in_ok-disk.disk.len
    (omega (arith, c.place_files.auto.disk, c.deref_mut.ensures.len)) in
    subst (λ (xs : List ℕ). DiskTableReads held manifest from (Ok xs)) (sym same)
    (disk_files held manifest from _ c.in_ok-has_only.ensures.read c.in_ok-blocks.blocks c.in_ok-blocks.ensures.read tables _
    c.in_ok-tables.ensures here)

pub returns-in_err-has_only-clause-reads : goal.returns-in_err-has_only-clause-reads
returns-in_err-has_only-clause-reads g c =
    let state = files g.S.Shelf c.args.shelf.now in
    unread state state c.in_err-has_only.field-0.0 c.from_residual.result (read_nothing state) c.in_err-has_only.ensures.no_read
    c.from_residual.ensures.1

pub returns-in_err-disk-clause-reads : goal.returns-in_err-disk-clause-reads
returns-in_err-disk-clause-reads g c =
    let state = files g.S.Shelf c.args.shelf.now in
    unread state state c.in_err-disk.field-0.0 c.from_residual-in_err-disk.result (read_nothing state)
    (want_unread c.in_err-disk.field-0.0 c.in_err-disk.ensures.want) c.from_residual-in_err-disk.ensures.1
