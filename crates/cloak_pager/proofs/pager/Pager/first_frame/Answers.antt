use Rattle.protect_meta.specs.Pages.{IsIn}
use Rattle.cloak_pager.specs.declared.frame_right.FrameRight.TheVariants.{Outside}
use Rattle.cloak_pager.proofs.Keeping.{right_seen}
use Rattle.cloak_pager.proofs.Turned.{first_kept, first_turns}
use Rattle.cloak_pager.proofs.pager.Pager.first_frame.Goals as goal

pub invariant_of-self : goal.invariant_of-self
invariant_of-self c =
    let right = right_seen c.args.g.0 (Outside c.in-Outside.right) c.self.view_is c.self.invariant.whole
    c.requires.inside c.index_mut.ensures.value c.in-Outside.ensures.value in
    let page : IsIn c.self.inside.table.domains c.args.q = rw (← c.self.view_is) at c.requires.page in
    first_kept c.replace.new.dest c.self.invariant right c.first_page.ensures.bytes c.first_page.ensures.right
    (record { page = page; nowhere = rw (← c.self.view_is) at c.requires.nowhere; noted = c.set.ensures })

pub returns : goal.returns
returns c =
    let right = right_seen c.args.g.0 (Outside c.in-Outside.right) c.self.view_is c.self.invariant.whole
    c.requires.inside c.index_mut.ensures.value c.in-Outside.ensures.value in
    rw (← c.self.view_is)
    (first_turns c.replace.new.dest right c.first_page.ensures.bytes c.first_page.ensures.right)
