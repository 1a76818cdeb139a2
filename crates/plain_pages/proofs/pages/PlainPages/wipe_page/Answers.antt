use Rattle.std.proofs.Common.{◌∙◌, ap, sym, arith}
use Rattle.std.proofs.Math.ListN.{set}
use Rattle.cloak_base.specs.Pages.{zero_page}
use Rattle.plain_pages.proofs.Kept.{all_there, with_kept, wiped}
use Rattle.plain_pages.proofs.pages.PlainPages.wipe_page.Goals as goal

pub returns-then-place-len : goal.returns-then-place-len
unfolding zero_page
returns-then-place-len c = record {
  pages =
      with_kept c.self.inside.kept.items 16384 c.args.place zero_page (omega (arith, c.if-place-len.true, c.len.ensures))
      ∙ ap (λ all. set all c.args.place zero_page) c.self.view_is;
  all = all_there c.self.inside.kept.items c.args.self.now 16384 (sym c.self.view_is) c.self.invariant.few;
}

pub returns-else-place-len : goal.returns-else-place-len
returns-else-place-len c = record {
  pages = wiped c.self.inside.kept.items c.args.self.now 16384 c.args.place (sym c.self.view_is) c.requires (omega (arith, c.len.ensures));
  all = all_there c.self.inside.kept.items c.args.self.now 16384 (sym c.self.view_is) c.self.invariant.few;
}
