use Rattle.std.proofs.Common.{◌∙◌, sym, arith}
use Rattle.protect_meta.proofs.Files.{sizes_are}
use Rattle.protect_meta.proofs.file_table.FileTable.count.Goals as goal

pub returns-clause-count : goal.returns-clause-count
returns-clause-count c = c.len.ensures.value ∙ sym (sizes_are _ _ _ _ c.self.invariant c.self.view_is).0

pub returns-clause-few_pages : goal.returns-clause-few_pages
returns-clause-few_pages c =
    omega (arith, (sizes_are _ _ _ _ c.self.invariant c.self.view_is).1, c.self.invariant.few)
