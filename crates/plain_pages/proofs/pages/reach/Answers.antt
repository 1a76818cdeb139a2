use Rattle.std.proofs.Common.{◌≡◌, ◌++◌, ◌∷◌, [], arith}
use Rattle.cloak_base.specs.Pages.{zero_page}
use Rattle.plain_pages.proofs.Kept.{one_more}
use Rattle.plain_pages.proofs.pages.reach.Goals as goal

pub loop-kept-preserved : goal.loop-kept-preserved
unfolding zero_page
loop-kept-preserved c =
    let pushed : c.push_reserved.new.self.items ≡ c.loop-kept.kept.items ++ zero_page ∷ [] = c.push_reserved.ensures.items in
    record {
      pages = one_more c.args.kept.now.items c.loop-kept.kept.items c.push_reserved.new.self.items
          c.loop-kept.invariant.pages c.loop-kept.invariant.low pushed;
      low = grind arith;
      high = grind arith;
      room = grind arith;
    }
