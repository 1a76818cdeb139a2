use Rattle.std.proofs.Common.{◌+◌, ◌<◌, ◌∙◌, None, get_or, length, drop, ap, sym, arith}
use Rattle.std.proofs.lemmas.List.{get_or-take, get_or-drop, get_or_read}
use Rattle.cloak_model.specs.StoredFiles.{StoredFile}
use Rattle.protect_meta.proofs.Files.{row_below, row_found, no_row}
use Rattle.protect_meta.proofs.file_table.FileTable.page.Goals as goal

pub bounds-as_slice-file : goal.bounds-as_slice-file
bounds-as_slice-file c = rw c.as_slice.ensures.value (row_below _ _ _ _ c.self.view_is c.requires.file)

pub overflow_add-at : goal.overflow_add-at
overflow_add-at c =
    let found = row_found _ _ _ _ c.args.file no_row c.self.invariant c.self.view_is c.requires.file in
    rw c.as_slice.ensures.value (omega (arith, found.inside, found.long, c.requires.page))

pub index-requires : goal.index-requires
index-requires c =
    let found = row_found _ _ _ _ c.args.file no_row c.self.invariant c.self.view_is c.requires.file in
    let room = c.self.invariant.room in
    rw c.as_slice.ensures.value (omega (arith, found.inside, found.long, c.requires.page, room, c.self.inside.pages.ok))

pub returns : goal.returns
returns c =
    let found = row_found _ _ _ _ c.args.file no_row c.self.invariant c.self.view_is c.requires.file in
    let room = c.self.invariant.room in
    let row = get_or c.self.inside.rows.items c.args.file no_row in
    let low : c.args.page < row.count = omega (arith, found.long, c.requires.page) in
    let there : row.first + c.args.page < length c.self.inside.pages.items = omega (arith, found.inside, low, room) in
    let read = rw c.as_slice.ensures.value at c.index.ensures in
    get_or_read _ _ _ there read None
    ∙ (sym (get_or-drop row.first c.self.inside.pages.items c.args.page None)
    ∙ (sym (get_or-take row.count (drop row.first c.self.inside.pages.items) c.args.page None low)
    ∙ ap (λ (f : StoredFile). get_or f.pages c.args.page None) (sym found.file)))
