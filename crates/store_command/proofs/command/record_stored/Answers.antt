use Rattle.std.proofs.Common.{◌∙◌, ap, inl, refl, sym}
use Rattle.cloak_machine.specs.Ending.{end_is_refused}
use Rattle.command_words.specs.Request.{names_of}
use Rattle.command_parts.specs.Outside.{files, output}
use Rattle.run_command.specs.Running.{status_of}
use Rattle.run_command.proofs.BegunFacts.{are_low, at_pieces, begins}
use Rattle.store_command.proofs.RunFacts.{closed_disk, runs_over}
use Rattle.store_command.proofs.StoredFacts.{all_of_last, at_files, breaks_files, breaks_first, breaks_last, files_failed, files_left, front_of_files, front_of_first, front_of_last, has_both, has_first, leaves_all, new_is, next_is, not_begun}
use Rattle.store_command.proofs.command.record_stored.Goals as goal

pub returns-then-is_err : goal.returns-then-is_err
returns-then-is_err g c = λ before p.
    let now = files g.S.Shelf c.args.shelf.now in
    let out = output g.O.Sink c.args.out.now in
    not_begun (names_of c.args.store.now.files) c.args.store.now.counter c.args.store.now.steps p.1.sources before now
    (files g.S.Shelf c.begin.new.self) out c.begin.result p.0
    (are_low before now out p.0 c.requires.writing c.requires.output) c.begin.ensures.err c.begin.ensures.others
    c.begin.ensures.writing c.begin.ensures.reading (sym c.is_err.ensures.value ∙ c.if-is_err.true)

pub returns-in_default : goal.returns-in_default
returns-in_default g c = λ before p.
    let store = c.args.store.now in
    let now = files g.S.Shelf c.args.shelf.now in
    let out = output g.O.Sink c.args.out.now in
    let low = are_low before now out p.0 c.requires.writing c.requires.output in
    let begun = begins (names_of store.files).record_name before now (files g.S.Shelf c.begin.new.self) out
    c.begin.result p.0 c.begin.ensures.emptied c.begin.ensures.others c.begin.ensures.writing c.begin.ensures.reading
    (sym c.is_err.ensures.value ∙ c.if-is_err.false) in
    front_of_first low begun c.in_default.ensures.some.1
    (runs_over p.1 store.steps _ store.few_steps (λ from o opened none.
    inl (breaks_first low begun (c.in_default.ensures.records p.1.sources.bundle from o opened none).writes)))

pub returns-then-is_err-2 : goal.returns-then-is_err-2
returns-then-is_err-2 g c = λ before p.
    let store = c.args.store.now in
    let now = files g.S.Shelf c.args.shelf.now in
    let out = output g.O.Sink c.args.out.now in
    let low = are_low before now out p.0 c.requires.writing c.requires.output in
    let begun = begins (names_of store.files).record_name before now (files g.S.Shelf c.begin.new.self) out
    c.begin.result p.0 c.begin.ensures.emptied c.begin.ensures.others c.begin.ensures.writing c.begin.ensures.reading
    (sym c.is_err.ensures.value ∙ c.if-is_err.false) in
    let at = at_pieces begun c.in-Some.ensures.some.1 in
    let failed = files_failed c.in-Some.end.stop c.leave_files.result c.leave_files.ensures
    (sym c.is_err-2.ensures.value ∙ c.if-is_err-2.true) in
    front_of_files low at refl failed.broke
    (runs_over p.1 store.steps _ store.few_steps (λ from o opened none.
    let first = c.in-Some.ensures.records p.1.sources.bundle from o opened none in
    breaks_files low (record { new = store.new_apart; next = store.next_apart; both = store.both_apart }) at
    (has_first begun first.writes) refl (λ missed. failed.drawn (first.ends.stop ∙ missed))
    (new_is store.counter p.1.left c.in-Some.ensures.room first.ends
    (λ missed. failed.drawn (first.ends.stop ∙ missed)))
    (next_is p.1.left first.ends p.1.asks.bundle.is.spelled
    (closed_disk p.1.sources.bundle from o store.steps opened.opens)) failed.broke))

pub returns-then-is_err-3 : goal.returns-then-is_err-3
returns-then-is_err-3 g c = λ before p.
    let store = c.args.store.now in
    let now = files g.S.Shelf c.args.shelf.now in
    let out = output g.O.Sink c.args.out.now in
    let low = are_low before now out p.0 c.requires.writing c.requires.output in
    let begun = begins (names_of store.files).record_name before now (files g.S.Shelf c.begin.new.self) out
    c.begin.result p.0 c.begin.ensures.emptied c.begin.ensures.others c.begin.ensures.writing c.begin.ensures.reading
    (sym c.is_err.ensures.value ∙ c.if-is_err.false) in
    let at = at_pieces begun c.in-Some.ensures.some.1 in
    let left = files_left c.in-Some.end.stop c.leave_files.result c.leave_files.ensures
    (sym c.is_err-2.ensures.value ∙ c.if-is_err-2.false) in
    let ill = sym c.is_err-3.ensures.value ∙ c.if-is_err-3.true in
    front_of_last c.in-Some.end c.show_end.result low (at_files at refl left) (record { puts = c.show_end.ensures; files = refl }) ill
    (runs_over p.1 store.steps _ store.few_steps (λ from o opened none.
    let first = c.in-Some.ensures.records p.1.sources.bundle from o opened none in
    breaks_last c.show_end.result low (at_files at refl left)
    (has_both (record { new = store.new_apart; next = store.next_apart; both = store.both_apart }) at
    (has_first begun first.writes) first.ends.stop refl
    (λ drawn. new_is store.counter p.1.left c.in-Some.ensures.room first.ends drawn)
    (next_is p.1.left first.ends p.1.asks.bundle.is.spelled
    (closed_disk p.1.sources.bundle from o store.steps opened.opens)) first.ends.fit left)
    first.ends (record { puts = c.show_end.ensures; files = refl }) ill))

pub returns : goal.returns
returns g c = λ before p.
    let store = c.args.store.now in
    let now = files g.S.Shelf c.args.shelf.now in
    let out = output g.O.Sink c.args.out.now in
    let begun = begins (names_of store.files).record_name before now (files g.S.Shelf c.begin.new.self) out
    c.begin.result p.0 c.begin.ensures.emptied c.begin.ensures.others c.begin.ensures.writing c.begin.ensures.reading
    (sym c.is_err.ensures.value ∙ c.if-is_err.false) in
    let at = at_pieces begun c.in-Some.ensures.some.1 in
    let left = files_left c.in-Some.end.stop c.leave_files.result c.leave_files.ensures
    (sym c.is_err-2.ensures.value ∙ c.if-is_err-2.false) in
    let well = sym c.is_err-3.ensures.value ∙ c.if-is_err-3.false in
    let is = c.stop_status.ensures ∙ ap (status_of c.in-Some.end.stop) c.is_refused.ensures in
    all_of_last c.in-Some.end c.show_end.result (at_files at refl left) (record { puts = c.show_end.ensures; files = refl }) well
    (c.in-Some.end.stop, end_is_refused c.in-Some.end, is)
    (runs_over p.1 store.steps _ store.few_steps (λ from o opened none.
    let first = c.in-Some.ensures.records p.1.sources.bundle from o opened none in
    leaves_all c.show_end.result
    (has_both (record { new = store.new_apart; next = store.next_apart; both = store.both_apart }) at
    (has_first begun first.writes) first.ends.stop refl
    (λ drawn. new_is store.counter p.1.left c.in-Some.ensures.room first.ends drawn)
    (next_is p.1.left first.ends p.1.asks.bundle.is.spelled
    (closed_disk p.1.sources.bundle from o store.steps opened.opens)) first.ends.fit left)
    first.ends (record { puts = c.show_end.ensures; files = refl }) well is))
