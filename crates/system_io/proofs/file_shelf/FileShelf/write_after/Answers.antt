use Rattle.std.proofs.Common.{refl, take, ◌∙◌}
use Rattle.system_io.proofs.Held.{held-gathers, held-writes}
use Rattle.system_io.proofs.file_shelf.FileShelf.write_after.Goals as goal

pub returns-then-gather-clause-taken : goal.returns-then-gather-clause-taken
returns-then-gather-clause-taken g c =
    held-gathers g.D.FileSystem.told c.args.self.now _ _ c.args.bytes.now (rw (← c.self.view_is) at c.write_out.ensures.files)
    (rw (← c.self.view_is) at c.write_out.ensures.file.1) refl refl (c.gather.ensures.taken c.if-gather.true)

pub returns-in-Some-clause-taken : goal.returns-in-Some-clause-taken
returns-in-Some-clause-taken g c =
    let sound = rw c.in-Some.is at c.self.invariant in
    let none = rw (← c.self.view_is) at (c.write_out.ensures.all.0 c.if-not-write_out.false) in
    held-writes g.D.FileSystem.told c.args.self.now _ _ (take c.write_front.result c.args.bytes.now)
    (rw (← c.self.view_is) at c.write_out.ensures.files) (rw (← c.self.view_is) at c.write_out.ensures.file.1)
    none (c.gather.ensures.no_room c.if-gather.false ∙ none)
    (c.write_front.ensures.told c.self.inside.writing.name sound.named)
