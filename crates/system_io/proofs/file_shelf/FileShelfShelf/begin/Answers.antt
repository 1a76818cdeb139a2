use Rattle.std.proofs.Common.{refl, inl, ◌∙◌}
use Rattle.system_io.proofs.Held.{held-after, OtherFiles-through, SameFiles-then, failed-through, on_err}
use Rattle.system_io.proofs.file_shelf.FileShelfShelf.begin.Goals as goal

pub returns-then-not-finish_other-clause-err : goal.returns-then-not-finish_other-clause-err
returns-then-not-finish_other-clause-err g c =
    let stopped = held-after g.D.FileSystem.told c.args.self.now c.args.self.now _ _ c.stop_reading.ensures.kept refl refl refl
    (λ _. refl) in
    let left = SameFiles-then _ _ _ stopped c.finish_other.ensures.files in
    let failed = held-after g.D.FileSystem.told c.finish_other.new.self c.finish_other.new.self _ _ c.fail_writing.ensures.kept refl refl refl
    (λ _. refl) in
    on_err c.fail_writing.result _ (inl (failed c.args.name.now ∙ left c.args.name.now))

pub returns-then-not-finish_other-clause-others : goal.returns-then-not-finish_other-clause-others
returns-then-not-finish_other-clause-others g c =
    let stopped = held-after g.D.FileSystem.told c.args.self.now c.args.self.now _ _ c.stop_reading.ensures.kept refl refl refl
    (λ _. refl) in
    let left = SameFiles-then _ _ _ stopped c.finish_other.ensures.files in
    let failed = held-after g.D.FileSystem.told c.finish_other.new.self c.finish_other.new.self _ _ c.fail_writing.ensures.kept refl refl refl
    (λ _. refl) in
    λ other _. failed other ∙ left other

pub returns-then-start-clause-others : goal.returns-then-start-clause-others
returns-then-start-clause-others g c =
    let stopped = held-after g.D.FileSystem.told c.args.self.now c.args.self.now _ _ c.stop_reading.ensures.kept refl refl refl
    (λ _. refl) in
    let left = SameFiles-then _ _ _ stopped c.finish_other.ensures.files in
    OtherFiles-through _ _ _ _ c.args.name.now left c.start.ensures.others (λ _. refl)

pub returns-clause-err : goal.returns-clause-err
returns-clause-err g c =
    let stopped = held-after g.D.FileSystem.told c.args.self.now c.args.self.now _ _ c.stop_reading.ensures.kept refl refl refl
    (λ _. refl) in
    let left = SameFiles-then _ _ _ stopped c.finish_other.ensures.files in
    let failed = held-after g.D.FileSystem.told c.start.new.self c.start.new.self _ _ c.fail_writing-2.ensures.kept refl refl refl
    (λ _. refl) in
    on_err c.fail_writing-2.result _
    (failed-through _ _ _ _ (left c.args.name.now) c.start.ensures.failed (failed c.args.name.now))

pub returns-clause-others : goal.returns-clause-others
returns-clause-others g c =
    let stopped = held-after g.D.FileSystem.told c.args.self.now c.args.self.now _ _ c.stop_reading.ensures.kept refl refl refl
    (λ _. refl) in
    let left = SameFiles-then _ _ _ stopped c.finish_other.ensures.files in
    let failed = held-after g.D.FileSystem.told c.start.new.self c.start.new.self _ _ c.fail_writing-2.ensures.kept refl refl refl
    (λ _. refl) in
    OtherFiles-through _ _ _ _ c.args.name.now left c.start.ensures.others failed
