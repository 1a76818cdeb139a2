use Rattle.std.proofs.Common.{◌*◌, arith, refl}
use Rattle.cloak_base.specs.Pages.{zero_page}
use Rattle.plain_pages.proofs.Resources.{changed_more}
use Rattle.plain_pages.proofs.pages.PlainPages.wipe.Goals as goal

pub loop-page-preserved : goal.loop-page-preserved
loop-page-preserved c =
    let so_far = c.loop-page.invariant in
    let more = changed_more c.args.self.now c.loop-page.self c.wipe_page.new.self (c.args.resource * 1024) c.loop-page.page
    (λ k. zero_page) zero_page (record { inside = so_far.inside; below = so_far.below; above = so_far.above; as_many = so_far.count })
    c.wipe_page.ensures.pages (omega (arith, c.wipe_page.ensures.all, c.requires)) refl in
    record { inside = more.inside; below = more.below; above = more.above; count = more.as_many }
