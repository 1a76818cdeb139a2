use Rattle.std.proofs.Common.{refl}
use Rattle.io_traits.specs.Told.{IsCopied}
use Rattle.system_io.proofs.Held.{held-after, told_by_held}
use Rattle.system_io.proofs.Windows.{none_copied}
use Rattle.system_io.proofs.file_shelf.FileShelfShelf.read_at.Goals as goal

pub returns-then-not-write_out-clause-files : goal.returns-then-not-write_out-clause-files
returns-then-not-write_out-clause-files g c =
    held-after g.D.FileSystem.told c.args.self.now c.write_out.new.self _ _ c.fail_writing.ensures.kept refl refl refl
    c.write_out.ensures.files

pub returns-then-is_past_all-clause-copied : goal.returns-then-is_past_all-clause-copied
returns-then-is_past_all-clause-copied g c =
    told_by_held g.D.FileSystem.told c.args.self.now _ c.args.name.now
    (λ all. IsCopied all c.args.at 0 c.args.into.now c.args.into.now)
    (rw (← c.self.view_is) at c.write_out.ensures.files)
    (rw (← c.self.view_is) at (c.write_out.ensures.all.0 c.if-not-write_out.false))
    (none_copied _ c.args.at c.args.into.now (c.is_past_all.ensures.past c.if-is_past_all.true c.args.name.now))

pub returns-in-Ok-clause-copied : goal.returns-in-Ok-clause-copied
returns-in-Ok-clause-copied g c =
    told_by_held g.D.FileSystem.told c.args.self.now _ c.args.name.now
    (λ all. IsCopied all c.args.at c.in-Ok.n c.args.into.now c.read.new.into)
    (rw (← c.self.view_is) at c.write_out.ensures.files)
    (rw (← c.self.view_is) at (c.write_out.ensures.all.0 c.if-not-write_out.false)) c.in-Ok.ensures.copied

pub returns-in-Ok-clause-files : goal.returns-in-Ok-clause-files
returns-in-Ok-clause-files g c =
    held-after g.D.FileSystem.told c.args.self.now _ _ _ refl refl refl refl
    (rw (← c.self.view_is) at c.write_out.ensures.files)

pub returns-in-Err-clause-files : goal.returns-in-Err-clause-files
returns-in-Err-clause-files g c =
    held-after g.D.FileSystem.told c.args.self.now _ _ _ c.fail_reading.ensures.kept refl refl refl
    (rw (← c.self.view_is) at c.write_out.ensures.files)
