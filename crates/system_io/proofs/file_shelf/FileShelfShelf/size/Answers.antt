use Rattle.std.proofs.Common.{◌≡◌, refl, length}
use Rattle.system_io.proofs.Held.{held-after, told_by_held}
use Rattle.system_io.proofs.file_shelf.FileShelfShelf.size.Goals as goal

pub returns-then-not-write_out-clause-files : goal.returns-then-not-write_out-clause-files
returns-then-not-write_out-clause-files g c =
    held-after g.D.FileSystem.told c.args.self.now c.write_out.new.self _ _ c.fail_writing.ensures.kept refl refl refl
    c.write_out.ensures.files

pub returns-in-Ok-clause-size : goal.returns-in-Ok-clause-size
returns-in-Ok-clause-size g c =
    told_by_held g.D.FileSystem.told c.args.self.now _ c.args.name.now (λ all. c.in-Ok.n ≡ length all)
    (rw (← c.self.view_is) at c.write_out.ensures.files)
    (rw (← c.self.view_is) at (c.write_out.ensures.all.0 c.if-not-write_out.false)) c.in-Ok.ensures

pub returns-in-Err-clause-files : goal.returns-in-Err-clause-files
returns-in-Err-clause-files g c =
    held-after g.D.FileSystem.told c.args.self.now c.write_out.new.self _ _ c.fail_reading.ensures.kept refl refl refl
    c.write_out.ensures.files
