use Rattle.system_io.proofs.Held.{held-then-same}
use Rattle.system_io.proofs.file_shelf.FileShelf.turn_away.Goals as goal

pub returns-in-Ok-clause-files : goal.returns-in-Ok-clause-files
returns-in-Ok-clause-files g c =
    let none = rw (← c.self.view_is) at (c.finish.ensures.all c.if-not-finish.false) in
    held-then-same g.D.FileSystem.told c.args.self.now _ _ (rw (← c.self.view_is) at c.finish.ensures.files) none none
    c.open_end.ensures.files

pub returns-in-Err-clause-files : goal.returns-in-Err-clause-files
returns-in-Err-clause-files g c =
    let none = rw (← c.self.view_is) at (c.finish.ensures.all c.if-not-finish.false) in
    held-then-same g.D.FileSystem.told c.args.self.now _ _ (rw (← c.self.view_is) at c.finish.ensures.files) none none
    c.open_end.ensures.files
