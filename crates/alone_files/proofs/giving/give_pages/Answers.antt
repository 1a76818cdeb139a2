use Rattle.std.proofs.Common.{◌∙◌, sym}
use Rattle.alone_files.proofs.Given.{no_pages, page_found, page_missing, page_unshown}
use Rattle.alone_files.proofs.giving.give_pages.Goals as goal
use Rattle.alone_files.proofs.giving.give_pages.Goals.{in-Some+then-not-give_page, in-Some+else-not-give_page, in_default}

pub loop-page-init : goal.loop-page-init
loop-page-init c = no_pages

pub loop-page-preserved : goal.loop-page-preserved
loop-page-preserved c = elim c.match-page.branch [
  | in-Some+then-not-give_page w ↦
      rw (w.program-is, w.whole-is) (page_missing c.loop-page.invariant (sym c.page.ensures ∙ w.in-Some.is) w.give_page.ensures
      w.if-not-give_page.true)
  | in-Some+else-not-give_page w ↦
      rw (w.program-is, w.whole-is) (page_found c.loop-page.invariant (sym c.page.ensures ∙ w.in-Some.is) w.give_page.ensures
      w.if-not-give_page.false)
  | in_default w ↦
      rw (w.program-is, w.whole-is) (page_unshown c.loop-page.invariant (sym c.page.ensures ∙ w.in_default.is))
]
