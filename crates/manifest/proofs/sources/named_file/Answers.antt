use Rattle.std.proofs.Common.{◌∙◌, ℕ, Vec, sym}
use Rattle.std.specs.declared.alloc.Global.{Global}
use Rattle.manifest.specs.declared.fault.KeyFault.TheVariants.{NoFile, NoRoom}
use Rattle.manifest.specs.Sources.{IsFileAt}
use Rattle.manifest.proofs.Files.{file_whole, file_empty, file_larger, is_file, is_wrong_file}
use Rattle.manifest.proofs.Steps.{key_wrong}
use Rattle.manifest.proofs.sources.named_file.Goals as goal

pub returns-then-is_empty-clause-read : goal.returns-then-is_empty-clause-read
returns-then-is_empty-clause-read g c =
    let whole = rw c.in-Ok-Some.field-0-is at c.in-Ok-Some.ensures.whole in
    let part = c.args.place.part in
    let key = c.args.key in
    let told = g.S.Shelf.held c.args.shelf.now c.args.path.now in
    let bytes = c.in-Ok-Some.bytes.items in
    key_wrong (λ (v : Vec ℕ Global). v.items) (IsFileAt part key told) c.fault.result c.from.result
    (is_wrong_file part key told bytes c.fault.result NoFile whole.0
    (file_empty part key bytes whole.1 (rw c.as_slice.ensures.value at (sym c.is_empty.ensures ∙ c.if-is_empty.true))) c.fault.ensures)
    c.from.ensures

pub returns-else-is_empty-clause-read : goal.returns-else-is_empty-clause-read
returns-else-is_empty-clause-read g c =
    let whole = rw c.in-Ok-Some.field-0-is at c.in-Ok-Some.ensures.whole in
    let part = c.args.place.part in
    let bytes = c.in-Ok-Some.bytes.items in
    is_file part c.args.key (g.S.Shelf.held c.args.shelf.now c.args.path.now) bytes whole.0
    (file_whole part c.args.key bytes whole.1 (rw c.as_slice.ensures.value at (sym c.is_empty.ensures ∙ c.if-is_empty.false)))

pub returns-in-Ok-None-clause-read : goal.returns-in-Ok-None-clause-read
returns-in-Ok-None-clause-read g c =
    let whole = rw c.in-Ok-None.field-0-is at c.in-Ok-None.ensures.whole in
    let part = c.args.place.part in
    let key = c.args.key in
    let told = g.S.Shelf.held c.args.shelf.now c.args.path.now in
    let fault = c.fault-in-Ok-None.result in
    key_wrong (λ (v : Vec ℕ Global). v.items) (IsFileAt part key told) fault c.from-in-Ok-None.result
    (is_wrong_file part key told whole.0 fault (NoRoom 67108864) whole.1 (file_larger part key whole.0 whole.2)
    c.fault-in-Ok-None.ensures)
    c.from-in-Ok-None.ensures
