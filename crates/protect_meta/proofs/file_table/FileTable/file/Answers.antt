use Rattle.std.proofs.Common.{◌∙◌, ℕ, get_or, ap, sym, length}
use Rattle.cloak_model.specs.StoredFiles.{StoredFile}
use Rattle.protect_meta.specs.FileTable.{file_at}
use Rattle.protect_meta.proofs.Files.{row_below, row_found, no_row}
use Rattle.protect_meta.proofs.file_table.FileTable.file.Goals as goal

pub bounds-as_slice-i : goal.bounds-as_slice-i
bounds-as_slice-i c = rw c.as_slice.ensures.value (row_below _ _ _ _ c.self.view_is c.requires)

pub returns : goal.returns
returns c =
    let found = row_found _ _ _ _ c.args.i no_row c.self.invariant c.self.view_is c.requires in
    let row = get_or c.self.inside.rows.items c.args.i no_row in
    rw c.as_slice.ensures.value
    (ap (λ (n : ℕ). (row.domain, row.number, n)) (sym found.long)
    ∙ ap (λ (f : StoredFile). (f.domain, f.number, length (file_at c.args.self.now c.args.i).pages)) (sym found.file))
