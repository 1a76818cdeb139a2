use Rattle.std.proofs.Common.{refl, length, arith}
use Rattle.system_io.proofs.Held.{held-gathered, held-gathered_all}
use Rattle.system_io.proofs.file_shelf.FileShelf.write.Goals as goal

pub returns-then-gather-clause-whole : goal.returns-then-gather-clause-whole
returns-then-gather-clause-whole g c = λ _.
    rw (← c.self.view_is)
    (held-gathered g.D.FileSystem.told _ _ c.args.bytes.now refl refl (c.gather.ensures.taken c.if-gather.true))

pub returns-then-gather-clause-front : goal.returns-then-gather-clause-front
returns-then-gather-clause-front g c = (
  length c.args.bytes.now,
  omega arith,
  rw (← c.self.view_is)
      (held-gathered_all g.D.FileSystem.told _ _ c.args.bytes.now refl refl (c.gather.ensures.taken c.if-gather.true)),
)
