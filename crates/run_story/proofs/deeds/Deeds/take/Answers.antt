use Rattle.std.proofs.Common.{[], ◌∷◌, ◌++◌}
use Rattle.cloak_model.specs.Items.{item_of}
use Rattle.cloak_model.specs.KernelAlone.{kernel_alone}
use Rattle.run_story.specs.Carrying.{carrying_of}
use Rattle.run_story.specs.Deeds.{done_in}
use Rattle.run_story.specs.Seeing.{ended_events, ended_move}
use Rattle.run_story.proofs.DeedsMore.{gathers_kept, gathers_more, still_seen}
use Rattle.run_story.proofs.deeds.Deeds.take.Goals as goal

pub returns-in_ok-note_step-in-Ok : goal.returns-in_ok-note_step-in-Ok
returns-in_ok-note_step-in-Ok c = λ b p items is watches gathers.
    let i = item_of c.args.item.now in
    let was = (kernel_alone b.kernel items).kernel in
    let seen = c.ahead-ahead.new.self in
    let noted = c.note_showing.new.self in
    let kept = gathers_kept b p items c.args.self.now seen c.ahead-ahead.ensures.same gathers in
    let took = c.in-Ok.ensures.takes b items is watches in
    let stands = c.ahead-ahead.ensures.ahead b items watches in
    let shown = c.in_ok-note_showing-in-Ok.ensures.last (done_in b p items).events kept.last in
    let moves = c.moved_by-moved.ensures b (items ++ i ∷ []) took in
    let sees = still_seen (ended_events b seen.target (carrying_of seen.carriers) items i) (ended_move b items i) was seen
    noted c.ahead-ahead.result c.note_showing.ensures.same stands in (
      took,
      gathers_more b p items i seen noted c.note_step.new.self c.carry.new.self c.in-Ok.showing c.ahead-ahead.result
          c.moved_by-moved.result (record {
            gathers = kept;
            shows = c.in-Ok.ensures.shows b items is watches;
            stands = stands;
            moves = moves;
            keeps_noted = c.note_showing.ensures.same;
            origin = c.note_showing.ensures.origin;
            keeps_made = c.note_step.ensures.same;
            made_origin = c.note_step.ensures.origin;
            last = c.in_ok-note_step-in-Ok.ensures.last b (items ++ i ∷ []) was _ took sees shown moves;
            same = c.carry.ensures.same;
            carries = c.carry.ensures.carries;
          }),
    )
