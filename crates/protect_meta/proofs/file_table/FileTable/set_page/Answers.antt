use Rattle.std.proofs.Common.{◌<◌, ◌∙◌, List, get_or, ap, arith}
use Rattle.cloak_model.specs.StoredFiles.{StoredFile}
use Rattle.protect_meta.specs.FileTable.{with_meta}
use Rattle.protect_meta.proofs.Files.{row_below, row_found, set_is, no_row}
use Rattle.protect_meta.proofs.file_table.FileTable.set_page.Goals as goal

pub bounds-as_slice-file : goal.bounds-as_slice-file
bounds-as_slice-file c = rw c.as_slice.ensures.value (row_below _ _ _ _ c.self.view_is c.requires.file)

pub overflow_add-row : goal.overflow_add-row
overflow_add-row c =
    let found = row_found _ _ _ _ c.args.file no_row c.self.invariant c.self.view_is c.requires.file in
    rw c.as_slice.ensures.value (omega (arith, found.inside, found.long, c.requires.page))

pub index_mut-requires : goal.index_mut-requires
index_mut-requires c =
    let found = row_found _ _ _ _ c.args.file no_row c.self.invariant c.self.view_is c.requires.file in
    let room = c.self.invariant.room in
    rw c.as_slice.ensures.value (omega (arith, found.inside, found.long, c.requires.page, room, c.self.inside.pages.ok))

pub returns : goal.returns
returns c =
    let found = row_found _ _ _ _ c.args.file no_row c.self.invariant c.self.view_is c.requires.file in
    let row = get_or c.self.inside.rows.items c.args.file no_row in
    let low : c.args.page < row.count = omega (arith, found.long, c.requires.page) in
    rw c.as_slice.ensures.value
    (set_is c.self.inside.rows.items 0 _ c.self.inside.pages.items c.args.file c.args.page no_row c.args.m
    c.self.invariant.follow (row_below _ _ _ _ c.self.view_is c.requires.file) low
    ∙ ap (λ (l : List StoredFile). with_meta c.args.file c.args.page c.args.m l) c.self.view_is)
