use Rattle.std.proofs.Common.{ℕ, Bool, List, Ok, Err, subst, arith}
use Rattle.protect_meta.specs.FileTable.{file_at}
use Rattle.alone_files.specs.Giving.{Gives, GivesOne}
use Rattle.alone_files.proofs.Given.{file_lacks, file_more, lacks_next, no_files}
use Rattle.alone_files.proofs.giving.give_files.Goals as goal
use Rattle.alone_files.proofs.giving.give_files.Goals.{then-not-found, else-not-found}

pub loop-file-init : goal.loop-file-init
loop-file-init c = no_files

pub returns-in-Err : goal.returns-in-Err
returns-in-Err c =
    subst (λ (key : List ℕ). Gives c.args.number key c.args.disk.now c.args.files.now c.args.program.now
    c.give_file.new.program (Err c.in-Err.fault)) c.new-key.ensures
    (lacks_next c.args.number _ c.args.disk.now c.loop-file.file c.args.files.now c.args.program.now c.loop-file.program
    c.give_file.new.program c.loop-file.whole c.in-Err.fault
    (omega (arith, c.loop-file-test.true, c.count-file-end.ensures.count)) c.loop-file.invariant c.in-Err.ensures)

pub loop-file-preserved : goal.loop-file-preserved
loop-file-preserved c = elim c.if-not-found.branch [
  | then-not-found w ↦
      rw w.whole-is (file_lacks c.loop-file.invariant (subst (λ (b : Bool). GivesOne c.args.number c.new-key.result
      c.args.disk.now (file_at c.args.files.now c.loop-file.file) c.loop-file.program c.give_file.new.program (Ok b))
      w.if-not-found.true c.in-Ok-give_file.ensures))
  | else-not-found w ↦
      rw w.whole-is (file_more c.loop-file.invariant (subst (λ (b : Bool). GivesOne c.args.number c.new-key.result
      c.args.disk.now (file_at c.args.files.now c.loop-file.file) c.loop-file.program c.give_file.new.program (Ok b))
      w.if-not-found.false c.in-Ok-give_file.ensures))
]
