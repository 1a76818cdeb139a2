use Rattle.std.proofs.Common.{Err, Ok}
use Rattle.command_parts.specs.Outside.{outside}
use Rattle.run_story.proofs.Answered.{no_bundle, shows_story, shows_untold}
use Rattle.run_story.proofs.Ends.{tells_since}
use Rattle.run_story.proofs.command.explain_command.Goals as goal

pub returns-in-Err-clause-answers : goal.returns-in-Err-clause-answers
returns-in-Err-clause-answers g c =
    no_bundle c.args.bundle_name.now c.args.record_name.now
    (outside g.S.Shelf g.O.Sink c.args.shelf.now c.args.out.now)
    (outside g.S.Shelf g.O.Sink c.read_bundle.new.shelf c.refuse.new.out) c.in-Err.refusal c.refuse.result
    c.in-Err.ensures.bundle c.refuse.ensures

pub returns-in-Ok-tell-clause-answers : goal.returns-in-Ok-tell-clause-answers
returns-in-Ok-tell-clause-answers g c =
    let tells = tells_since c.in-Ok.bundle _ _ _ _ _ (Ok c.in-Ok-tell.story)
    (c.in-Ok.ensures.files c.args.record_name.now) c.in-Ok.ensures.bundle.0 c.in-Ok-tell.ensures.tells in
    shows_story c.args.bundle_name.now c.args.record_name.now (outside g.S.Shelf g.O.Sink c.args.shelf.now c.args.out.now)
    (outside g.S.Shelf g.O.Sink c.tell.new.shelf c.show_story.new.out) c.in-Ok.bundle c.in-Ok-tell.story
    c.show_story.result c.in-Ok.ensures.bundle.1 tells.0 tells.1 c.show_story.ensures

pub returns-clause-answers : goal.returns-clause-answers
returns-clause-answers g c =
    let lacks = tells_since c.in-Ok.bundle _ _ _ _ _ (Err c.in-Err-tell.untold)
    (c.in-Ok.ensures.files c.args.record_name.now) c.in-Ok.ensures.bundle.0 c.in-Err-tell.ensures.tells in
    shows_untold c.args.bundle_name.now c.args.record_name.now
    (outside g.S.Shelf g.O.Sink c.args.shelf.now c.args.out.now)
    (outside g.S.Shelf g.O.Sink c.tell.new.shelf c.show_untold.new.out) c.in-Ok.bundle c.in-Err-tell.untold
    c.show_untold.result c.in-Ok.ensures.bundle.1 lacks c.show_untold.ensures
