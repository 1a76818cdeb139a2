use Rattle.std.proofs.Common.{sym}
use Rattle.plain_pages.proofs.Kept.{all_there, stored}
use Rattle.plain_pages.proofs.pages.PlainPages.set.Goals as goal

pub returns : goal.returns
returns c =
    let kept = c.self.inside.kept.items in
    let all = c.args.self.now in
    record {
      pages =
          stored kept c.reach.new.kept.items all 16384 c.args.place c.args.bytes.now (sym c.self.view_is)
          c.reach.ensures.pages c.requires c.self.invariant.few;
      all = all_there kept all 16384 (sym c.self.view_is) c.self.invariant.few;
    }
