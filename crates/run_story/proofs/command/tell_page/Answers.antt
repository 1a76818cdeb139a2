use Rattle.std.proofs.Common.{rules}
use Rattle.run_story.proofs.Ends.{page_told}
use Rattle.run_story.proofs.command.tell_page.Goals as goal

pub returns-clause-tells : goal.returns-clause-tells
returns-clause-tells g c = λ items begins tells.
    page_told c.args.bundle.now _ items c.args.presented.now c.in-Ok-deeds_of.deeds c.args.story.now c.tell.new.self _ _ _
    c.tell.result tells
    (c.in-Ok-deeds_of.ensures.gathers items c.in-Ok.ensures tells.knows.watches.machines.fits begins
    tells.within) (search rules) c.tell.ensures.same c.tell.ensures.told c.tell.ensures.text c.in-Ok-deeds_of.ensures.counts
