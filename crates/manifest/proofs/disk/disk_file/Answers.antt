use Rattle.std.proofs.Common.{◌≡◌, ℕ, Result, Vec, ap, sym}
use Rattle.std.specs.declared.alloc.Global.{Global}
use Rattle.toml.specs.View.{view}
use Rattle.manifest.specs.declared.key.ManifestTable.TheVariants as part
use Rattle.manifest.specs.Faults.{Fault, by_keys, only_keys}
use Rattle.manifest.specs.Parts.{stored_at}
use Rattle.manifest.specs.Sources.{SourceReads}
use Rattle.manifest.specs.Images.{file_keys, FileReads}
use Rattle.command_parts.specs.Outside.{files}
use Rattle.manifest.proofs.Kept.{read_nothing, unread}
use Rattle.manifest.proofs.Steps.{hands_on, key_fails}
use Rattle.manifest.proofs.Tables.{other_key, no_source, whole_table}
use Rattle.manifest.proofs.disk.disk_file.Goals as goal

pub returns-in_err-has_only-clause-read : goal.returns-in_err-has_only-clause-read
unfolding FileReads
returns-in_err-has_only-clause-read g c =
    let held = g.S.Shelf.held c.args.shelf.now in
    let manifest = c.args.manifest.now in
    let at = part.File c.args.number in
    let from = view c.args.table.now in
    let disk = c.args.disk.now in
    hands_on (λ (u : Unit {0}). u) (λ (u : Unit {0}). disk) (λ (r : Result (Unit {0}) Fault). r ≡ only_keys at file_keys from)
    (FileReads held manifest c.args.number from disk) c.in_err-has_only.field-0.0 c.from_residual.result
    (λ fault only. other_key held manifest at file_keys (stored_at at from disk) from fault only)
    c.in_err-has_only.ensures.read c.from_residual.ensures.1

pub returns-in_err-bytes-clause-read : goal.returns-in_err-bytes-clause-read
unfolding FileReads
returns-in_err-bytes-clause-read g c =
    let held = g.S.Shelf.held c.args.shelf.now in
    let manifest = c.args.manifest.now in
    let at = part.File c.args.number in
    let from = view c.args.table.now in
    let disk = c.args.disk.now in
    hands_on (λ (v : Vec ℕ Global). v.items) (λ (u : Unit {0}). disk) (SourceReads held manifest at from)
    (FileReads held manifest c.args.number from disk) c.in_err-bytes.field-0.0 c.from_residual-in_err-bytes.result
    (λ fault source. no_source held manifest at file_keys (stored_at at from disk) from fault _
    c.in_ok-has_only.ensures.read source)
    c.in_err-bytes.ensures.source c.from_residual-in_err-bytes.ensures.1

pub returns-in_err-place_file-clause-read : goal.returns-in_err-place_file-clause-read
unfolding FileReads
returns-in_err-place_file-clause-read g c =
    let held = g.S.Shelf.held c.args.shelf.now in
    let manifest = c.args.manifest.now in
    let at = part.File c.args.number in
    let from = view c.args.table.now in
    let disk = c.args.disk.now in
    key_fails (λ (u : Unit {0}). c.place_file.new.disk) (FileReads held manifest c.args.number from disk)
    c.in_err-place_file.field-0.0 c.from_residual-in_err-place_file.result
    (whole_table held manifest at file_keys (stored_at at from disk) from _ _ c.in_ok-bytes.bytes.items
    c.in_ok-has_only.ensures.read c.in_ok-bytes.ensures.source
    (ap by_keys (sym (rw c.as_slice.ensures.value at c.in_err-place_file.ensures))))
    c.from_residual-in_err-place_file.ensures.1

pub returns-clause-read : goal.returns-clause-read
unfolding FileReads
returns-clause-read g c =
    let at = part.File c.args.number in
    let from = view c.args.table.now in
    let disk = c.args.disk.now in
    whole_table (g.S.Shelf.held c.args.shelf.now) c.args.manifest.now at file_keys (stored_at at from disk) from _ _
    c.in_ok-bytes.bytes.items c.in_ok-has_only.ensures.read c.in_ok-bytes.ensures.source
    (ap by_keys (sym (rw c.as_slice.ensures.value at c.in_ok-place_file.ensures)))

pub returns-in_err-has_only-clause-reads : goal.returns-in_err-has_only-clause-reads
returns-in_err-has_only-clause-reads g c =
    let state = files g.S.Shelf c.args.shelf.now in
    unread state state c.in_err-has_only.field-0.0 c.from_residual.result (read_nothing state) c.in_err-has_only.ensures.no_read
    c.from_residual.ensures.1
