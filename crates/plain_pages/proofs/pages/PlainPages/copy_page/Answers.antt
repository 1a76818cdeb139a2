use Rattle.std.proofs.Common.{◌∙◌, ap, sym, arith}
use Rattle.std.proofs.Math.ListN.{set}
use Rattle.plain_pages.proofs.Kept.{stored, reached_read, read_zeros, all_there}
use Rattle.plain_pages.proofs.pages.PlainPages.copy_page.Goals as goal

pub returns-then-from-len : goal.returns-then-from-len
returns-then-from-len c =
    let kept = c.self.inside.kept.items in
    let reached = c.reach.new.kept.items in
    let all = c.args.self.now in
    record {
      pages =
          stored kept reached all 16384 c.args.to c.index.result.now (sym c.self.view_is) c.reach.ensures.pages c.requires.to
          c.self.invariant.few
          ∙ ap (λ page. set all c.args.to page) (sym (reached_read kept reached all 16384 c.args.to c.args.from c.index.result.now
          (sym c.self.view_is) c.reach.ensures.pages c.requires.to c.self.invariant.few
          (omega (arith, c.if-from-len.true, c.len.ensures)) c.index.ensures));
      all = all_there kept all 16384 (sym c.self.view_is) c.self.invariant.few;
    }

pub returns-else-from-len : goal.returns-else-from-len
returns-else-from-len c = record {
  pages =
      c.wipe_page.ensures.pages
      ∙ ap (λ page. set c.args.self.now c.args.to page) (sym (read_zeros c.self.inside.kept.items c.args.self.now 16384 c.args.from
      (sym c.self.view_is) c.requires.from (omega (arith, c.if-from-len.false, c.len.ensures))));
  all = c.wipe_page.ensures.all;
}
