use Rattle.protect_meta.specs.FileTable.{file_at}
use Rattle.alone_files.specs.Giving.{GivesPages}
use Rattle.alone_files.proofs.giving.give_pages.Given as goal

-- the pages so far were given
abbrev pub invariant-loop-page : goal.invariant-loop-page
invariant-loop-page l =
    GivesPages l.kept.key.now l.kept.disk.now l.page (file_at l.files l.file).pages l.resource l.fn.program l.program
    l.whole
