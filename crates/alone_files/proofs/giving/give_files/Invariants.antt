use Rattle.alone_files.specs.Giving.{GivesFiles}
use Rattle.alone_files.proofs.giving.give_files.Given as goal

-- the files so far were given
abbrev pub invariant-loop-file : goal.invariant-loop-file
invariant-loop-file l =
    GivesFiles l.number l.kept.key.now l.kept.disk.now l.file l.files l.fn.program l.program l.whole
