use Rattle.std.proofs.Common.{refl, ◌∙◌}
use Rattle.system_io.specs.Files.{held_in}
use Rattle.system_io.proofs.Held.{held-after, Extends-after, Extends-grows, Extends-front, Extends-others}
use Rattle.system_io.proofs.Held.{OtherFiles-through, front-through, same_name, on_err}
use Rattle.system_io.proofs.file_shelf.FileShelfShelf.append_last.Goals as goal

pub returns-then-write-clause-ok : goal.returns-then-write-clause-ok
returns-then-write-clause-ok g c =
    let stopped = held-after g.D.FileSystem.told c.args.self.now c.args.self.now _ _ c.stop_reading.ensures.kept refl refl refl
    (λ _. refl) in
    let named = same_name _ _ c.stop_reading.ensures.kept ∙ c.requires.last.1 in
    Extends-grows (held_in g.D.FileSystem.told c.args.self.now)
    (held_in g.D.FileSystem.told c.write.new.self) c.args.name.now _ c.args.bytes.now named
    (Extends-after _ _ _ _ c.args.bytes.now stopped (c.write.ensures.whole c.if-write.true))

pub returns-then-write-clause-others : goal.returns-then-write-clause-others
returns-then-write-clause-others g c =
    let stopped = held-after g.D.FileSystem.told c.args.self.now c.args.self.now _ _ c.stop_reading.ensures.kept refl refl refl
    (λ _. refl) in
    let named = same_name _ _ c.stop_reading.ensures.kept ∙ c.requires.last.1 in
    Extends-others (held_in g.D.FileSystem.told c.args.self.now)
    (held_in g.D.FileSystem.told c.write.new.self) c.args.name.now _ c.args.bytes.now named
    (Extends-after _ _ _ _ c.args.bytes.now stopped (c.write.ensures.whole c.if-write.true))

pub returns-clause-err : goal.returns-clause-err
returns-clause-err g c =
    let stopped = held-after g.D.FileSystem.told c.args.self.now c.args.self.now _ _ c.stop_reading.ensures.kept refl refl refl
    (λ _. refl) in
    let named = same_name _ _ c.stop_reading.ensures.kept ∙ c.requires.last.1 in
    let failed = held-after g.D.FileSystem.told c.write.new.self c.write.new.self _ _ c.fail_writing.ensures.kept refl refl refl
    (λ _. refl) in
    on_err c.fail_writing.result _
    (Extends-front (held_in g.D.FileSystem.told c.args.self.now)
    (held_in g.D.FileSystem.told c.fail_writing.new.self) c.args.name.now _ c.args.bytes.now named
    (front-through _ _ _ _ _ c.args.bytes.now stopped c.write.ensures.front failed))

pub returns-clause-others : goal.returns-clause-others
returns-clause-others g c =
    let stopped = held-after g.D.FileSystem.told c.args.self.now c.args.self.now _ _ c.stop_reading.ensures.kept refl refl refl
    (λ _. refl) in
    let named = same_name _ _ c.stop_reading.ensures.kept ∙ c.requires.last.1 in
    let failed = held-after g.D.FileSystem.told c.write.new.self c.write.new.self _ _ c.fail_writing.ensures.kept refl refl refl
    (λ _. refl) in
    OtherFiles-through _ _ _ _ c.args.name.now stopped
    (Extends-others _ _ c.args.name.now _ _ named c.write.ensures.front.2) failed
