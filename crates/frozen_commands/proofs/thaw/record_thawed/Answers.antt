use Rattle.std.proofs.Common.{◌∙◌, sym}
use Rattle.command_words.specs.Request.{thaw_names_of}
use Rattle.command_parts.specs.Outside.{files, output}
use Rattle.run_command.proofs.BegunFacts.{are_low, begins}
use Rattle.frozen_commands.proofs.ThawFacts.{not_begun, rest_failed, rest_written}
use Rattle.frozen_commands.proofs.thaw.record_thawed.Goals as goal

pub returns-then-is_err : goal.returns-then-is_err
returns-then-is_err g c = λ before p.
    let now = files g.S.Shelf c.args.shelf.now in
    let out = output g.O.Sink c.args.out.now in
    not_begun before now (files g.S.Shelf c.begin.new.self) out c.begin.result
    (record { is = p.1; low = are_low before now out p.0 c.requires.writing c.requires.output }) p.0 c.begin.ensures.err
    c.begin.ensures.others c.begin.ensures.writing c.begin.ensures.reading
    (sym c.is_err.ensures.value ∙ c.if-is_err.true)

pub returns-in-Some : goal.returns-in-Some
returns-in-Some g c = λ before p.
    let now = files g.S.Shelf c.args.shelf.now in
    let out = output g.O.Sink c.args.out.now in
    let begun = begins (thaw_names_of c.args.thaw.now.files).record_name before now (files g.S.Shelf c.begin.new.self) out
    c.begin.result p.0 c.begin.ensures.emptied c.begin.ensures.others c.begin.ensures.writing c.begin.ensures.reading
    (sym c.is_err.ensures.value ∙ c.if-is_err.false) in
    rest_written (record { is = p.1; low = are_low before now out p.0 c.requires.writing c.requires.output }) begun
    c.in-Some.ensures.some.1 c.in-Some.ensures.some_stop c.in-Some.ensures.records

pub returns-in-None : goal.returns-in-None
returns-in-None g c = λ before p.
    let now = files g.S.Shelf c.args.shelf.now in
    let out = output g.O.Sink c.args.out.now in
    let begun = begins (thaw_names_of c.args.thaw.now.files).record_name before now (files g.S.Shelf c.begin.new.self) out
    c.begin.result p.0 c.begin.ensures.emptied c.begin.ensures.others c.begin.ensures.writing c.begin.ensures.reading
    (sym c.is_err.ensures.value ∙ c.if-is_err.false) in
    rest_failed (record { is = p.1; low = are_low before now out p.0 c.requires.writing c.requires.output }) begun
    c.in-None.ensures.some.1 c.in-None.ensures.records
