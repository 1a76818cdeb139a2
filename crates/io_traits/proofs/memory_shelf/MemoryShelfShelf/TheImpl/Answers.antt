use Rattle.std.proofs.Common.{◌++◌, [], refl, rules}
use Rattle.io_traits.specs.Memory.{MemoryFiles, bytes_of}
use Rattle.io_traits.proofs.Shelves.{SetsFile-at, SetsFile-here, SetsFile-others, SetsFile-grows}
use Rattle.io_traits.proofs.memory_shelf.MemoryShelfShelf.TheImpl.Goals as goal

pub begin-tells : goal.begin-tells
begin-tells c =
    let old : MemoryFiles = c.args.self.now in
    let new : MemoryFiles = c.new.self.now in
    let sets = SetsFile-at c.result old new _ _ c.args.name.now [] c.ensures.after_ok c.ensures.after_err refl refl in
    record {
      emptied = SetsFile-here c.result old.files new.files c.args.name.now [] sets;
      err = search rules;
      others = SetsFile-others c.result old.files new.files c.args.name.now [] sets;
      last = search rules;
      writing = search rules;
      reading = search rules;
      unread = search rules;
    }

pub append-tells : goal.append-tells
append-tells c =
    let old : MemoryFiles = c.args.self.now in
    let new : MemoryFiles = c.new.self.now in
    let sets = SetsFile-at c.result old new _ _ c.args.name.now
    (bytes_of old.files c.args.name.now ++ c.args.bytes.now) c.ensures.after_ok c.ensures.after_err refl refl in
    record {
      ok = SetsFile-grows c.result old.files new.files c.args.name.now c.args.bytes.now sets;
      err = search rules;
      others = SetsFile-others c.result old.files new.files c.args.name.now
          (bytes_of old.files c.args.name.now ++ c.args.bytes.now) sets;
      last = search rules;
      writing = search rules;
      reading = search rules;
      unread = search rules;
    }

pub append_last-tells : goal.append_last-tells
append_last-tells c =
    let old : MemoryFiles = c.args.self.now in
    let new : MemoryFiles = c.new.self.now in
    let sets = SetsFile-at c.result old new _ _ c.args.name.now
    (bytes_of old.files c.args.name.now ++ c.args.bytes.now) c.ensures.after_ok c.ensures.after_err refl refl in
    record {
      ok = SetsFile-grows c.result old.files new.files c.args.name.now c.args.bytes.now sets;
      err = search rules;
      others = SetsFile-others c.result old.files new.files c.args.name.now
          (bytes_of old.files c.args.name.now ++ c.args.bytes.now) sets;
      last = search rules;
      writing = search rules;
      reading = search rules;
      unread = search rules;
    }
