use Rattle.std.proofs.Common.{◌∙◌, sym}
use Rattle.cloak_model.specs.Beginning.{Fresh}
use Rattle.command_words.specs.Request.{freeze_names_of}
use Rattle.command_parts.specs.Outside.{files, output}
use Rattle.run_command.proofs.BegunFacts.{are_low, begins}
use Rattle.frozen_commands.proofs.FreezeFacts.{ended_first, failed_first, not_begun, reached_first}
use Rattle.frozen_commands.proofs.freeze.record_frozen.Goals as goal

pub returns-then-is_err : goal.returns-then-is_err
returns-then-is_err g c = λ before p.
    let freeze = c.args.freeze.now in
    let now = files g.S.Shelf c.args.shelf.now in
    let out = output g.O.Sink c.args.out.now in
    not_begun before now (files g.S.Shelf c.begin.new.self) out c.begin.result (record {
      is = p.1;
      few = freeze.few_steps;
      apart = freeze.apart;
      low = are_low before now out p.0 c.requires.writing c.requires.output;
    }) p.0 c.begin.ensures.err c.begin.ensures.others c.begin.ensures.writing c.begin.ensures.reading
    (sym c.is_err.ensures.value ∙ c.if-is_err.true)

pub returns-in-Reached : goal.returns-in-Reached
returns-in-Reached g c = λ before p.
    let freeze = c.args.freeze.now in
    let now = files g.S.Shelf c.args.shelf.now in
    let out = output g.O.Sink c.args.out.now in
    let begun = begins (freeze_names_of freeze.files).record_name before now (files g.S.Shelf c.begin.new.self) out
    c.begin.result p.0 c.begin.ensures.emptied c.begin.ensures.others c.begin.ensures.writing c.begin.ensures.reading
    (sym c.is_err.ensures.value ∙ c.if-is_err.false) in
    reached_first (record {
      is = p.1;
      few = freeze.few_steps;
      apart = freeze.apart;
      low = are_low before now out p.0 c.requires.writing c.requires.output;
    }) begun c.in-Reached.ensures.some.1 (c.in-Reached.ensures.records p.1.sources.bundle (Fresh p.1.sources.stream)
    p.1.opened p.1.opens p.1.placings p.1.stands) c.leave_state.ensures

pub returns-in-Ended : goal.returns-in-Ended
returns-in-Ended g c = λ before p.
    let freeze = c.args.freeze.now in
    let now = files g.S.Shelf c.args.shelf.now in
    let out = output g.O.Sink c.args.out.now in
    let begun = begins (freeze_names_of freeze.files).record_name before now (files g.S.Shelf c.begin.new.self) out
    c.begin.result p.0 c.begin.ensures.emptied c.begin.ensures.others c.begin.ensures.writing c.begin.ensures.reading
    (sym c.is_err.ensures.value ∙ c.if-is_err.false) in
    ended_first (record {
      is = p.1;
      few = freeze.few_steps;
      apart = freeze.apart;
      low = are_low before now out p.0 c.requires.writing c.requires.output;
    }) begun c.in-Ended.ensures.some.1 c.in-Ended.ensures.some_stop (c.in-Ended.ensures.records p.1.sources.bundle
    (Fresh p.1.sources.stream) p.1.opened p.1.opens p.1.placings p.1.stands)

pub returns-in-Failed : goal.returns-in-Failed
returns-in-Failed g c = λ before p.
    let freeze = c.args.freeze.now in
    let now = files g.S.Shelf c.args.shelf.now in
    let out = output g.O.Sink c.args.out.now in
    let begun = begins (freeze_names_of freeze.files).record_name before now (files g.S.Shelf c.begin.new.self) out
    c.begin.result p.0 c.begin.ensures.emptied c.begin.ensures.others c.begin.ensures.writing c.begin.ensures.reading
    (sym c.is_err.ensures.value ∙ c.if-is_err.false) in
    failed_first (record {
      is = p.1;
      few = freeze.few_steps;
      apart = freeze.apart;
      low = are_low before now out p.0 c.requires.writing c.requires.output;
    }) begun c.in-Failed.ensures.some.1 (c.in-Failed.ensures.records p.1.sources.bundle (Fresh p.1.sources.stream)
    p.1.opened p.1.opens p.1.placings p.1.stands)
