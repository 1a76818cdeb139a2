use Rattle.std.proofs.Common.{refl, ◌∙◌}
use Rattle.io_traits.proofs.ToldFacts.{GrowsByFront-none}
use Rattle.system_io.specs.Files.{held_in}
use Rattle.system_io.proofs.Held.{held-after, Extends-after, Extends-grows, Extends-front, Extends-others}
use Rattle.system_io.proofs.Held.{OtherFiles-through, SameFiles-then, front-through, on_err}
use Rattle.system_io.proofs.file_shelf.FileShelfShelf.append.Goals as goal

pub returns-then-not-turn_to-clause-err : goal.returns-then-not-turn_to-clause-err
returns-then-not-turn_to-clause-err g c =
    let stopped = held-after g.D.FileSystem.told c.args.self.now c.args.self.now _ _ c.stop_reading.ensures.kept refl refl refl
    (λ _. refl) in
    let failed = held-after g.D.FileSystem.told c.turn_to.new.self c.turn_to.new.self _ _ c.fail_writing.ensures.kept refl refl refl
    (λ _. refl) in
    on_err c.fail_writing.result _
    (GrowsByFront-none _ _ c.args.bytes.now
    (failed c.args.name.now ∙ c.turn_to.ensures.files c.args.name.now ∙ stopped c.args.name.now))

pub returns-then-not-turn_to-clause-others : goal.returns-then-not-turn_to-clause-others
returns-then-not-turn_to-clause-others g c =
    let stopped = held-after g.D.FileSystem.told c.args.self.now c.args.self.now _ _ c.stop_reading.ensures.kept refl refl refl
    (λ _. refl) in
    let failed = held-after g.D.FileSystem.told c.turn_to.new.self c.turn_to.new.self _ _ c.fail_writing.ensures.kept refl refl refl
    (λ _. refl) in
    λ other _. failed other ∙ c.turn_to.ensures.files other ∙ stopped other

pub returns-then-write-clause-ok : goal.returns-then-write-clause-ok
returns-then-write-clause-ok g c =
    let stopped = held-after g.D.FileSystem.told c.args.self.now c.args.self.now _ _ c.stop_reading.ensures.kept refl refl refl
    (λ _. refl) in
    let turned = SameFiles-then _ _ _ stopped c.turn_to.ensures.files in
    let named = (c.turn_to.ensures.open c.if-not-turn_to.false).1 in
    Extends-grows (held_in g.D.FileSystem.told c.args.self.now)
    (held_in g.D.FileSystem.told c.write.new.self) c.args.name.now _ c.args.bytes.now named
    (Extends-after _ _ _ _ c.args.bytes.now turned (c.write.ensures.whole c.if-write.true))

pub returns-then-write-clause-others : goal.returns-then-write-clause-others
returns-then-write-clause-others g c =
    let stopped = held-after g.D.FileSystem.told c.args.self.now c.args.self.now _ _ c.stop_reading.ensures.kept refl refl refl
    (λ _. refl) in
    let turned = SameFiles-then _ _ _ stopped c.turn_to.ensures.files in
    let named = (c.turn_to.ensures.open c.if-not-turn_to.false).1 in
    Extends-others (held_in g.D.FileSystem.told c.args.self.now)
    (held_in g.D.FileSystem.told c.write.new.self) c.args.name.now _ c.args.bytes.now named
    (Extends-after _ _ _ _ c.args.bytes.now turned (c.write.ensures.whole c.if-write.true))

pub returns-clause-err : goal.returns-clause-err
returns-clause-err g c =
    let stopped = held-after g.D.FileSystem.told c.args.self.now c.args.self.now _ _ c.stop_reading.ensures.kept refl refl refl
    (λ _. refl) in
    let turned = SameFiles-then _ _ _ stopped c.turn_to.ensures.files in
    let named = (c.turn_to.ensures.open c.if-not-turn_to.false).1 in
    let failed = held-after g.D.FileSystem.told c.write.new.self c.write.new.self _ _ c.fail_writing-2.ensures.kept refl refl refl
    (λ _. refl) in
    on_err c.fail_writing-2.result _
    (Extends-front (held_in g.D.FileSystem.told c.args.self.now)
    (held_in g.D.FileSystem.told c.fail_writing-2.new.self) c.args.name.now _ c.args.bytes.now named
    (front-through _ _ _ _ _ c.args.bytes.now turned c.write.ensures.front failed))

pub returns-clause-others : goal.returns-clause-others
returns-clause-others g c =
    let stopped = held-after g.D.FileSystem.told c.args.self.now c.args.self.now _ _ c.stop_reading.ensures.kept refl refl refl
    (λ _. refl) in
    let turned = SameFiles-then _ _ _ stopped c.turn_to.ensures.files in
    let named = (c.turn_to.ensures.open c.if-not-turn_to.false).1 in
    let failed = held-after g.D.FileSystem.told c.write.new.self c.write.new.self _ _ c.fail_writing-2.ensures.kept refl refl refl
    (λ _. refl) in
    OtherFiles-through _ _ _ _ c.args.name.now turned
    (Extends-others _ _ c.args.name.now _ _ named c.write.ensures.front.2) failed
