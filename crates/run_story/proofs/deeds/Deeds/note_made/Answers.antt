use Rattle.std.proofs.Common.{List, IfOk, subst, ap}
use Rattle.cloak_model.specs.KernelAlone.{kernel_alone}
use Rattle.run_story.specs.Gathering.{KeepsLast}
use Rattle.run_story.specs.Carrying.{carrying_of}
use Rattle.run_story.specs.declared.carriers.Carriers.{Carriers}
use Rattle.run_story.specs.declared.deeds.PageEvent.{PageEvent}
use Rattle.run_story.proofs.DeedsMore.{keeps_two, step_seen, step_whole}
use Rattle.run_story.proofs.deeds.Deeds.note_made.Goals as goal

pub returns-clause-last : goal.returns-clause-last
returns-clause-last c = λ b items was all watches sees keeps moves.
    let start = c.args.self.now in
    let ahead = c.args.ahead.now in
    let one = c.note_moving.ensures.same in
    let two = keeps_two one c.note_shown_in.ensures.same in
    let three = keeps_two two c.note_presented.ensures.same in
    let four = keeps_two three c.note_third.ensures.same in
    let first = step_seen was.ram start c.note_moving.new.self ahead one sees in
    let second = step_seen was.ram start c.note_shown_in.new.self ahead two sees in
    let third = step_seen was.ram start c.note_presented.new.self ahead three sees in
    let moved = c.in_ok-note_moving.ensures.last all keeps in
    let changed = c.in_ok-note_shown_in.ensures.last b items was.ram _ watches first.frames moved in
    let presented = c.in_ok-note_presented.ensures.last b items was.ram _ watches second.frames changed in
    let thirdly = c.in_ok-note_third.ensures.last b items was.ram _ watches third.frames presented in
    subst (λ (l : List PageEvent). IfOk c.note_leads.result (λ done. KeepsLast l c.note_leads.new.self))
    (step_whole start.target c.note_moving.new.self.target c.note_shown_in.new.self.target c.note_third.new.self.target
    (carrying_of start.carriers) (carrying_of c.note_presented.new.self.carriers) ahead was
    (kernel_alone b.kernel items).kernel c.args.moved all one.target two.target four.target
    (ap (λ (x : Carriers). carrying_of x) three.carriers) moves sees.leads)
    (c.note_leads.ensures.last b items _ watches thirdly)
