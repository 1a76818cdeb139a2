use Rattle.std.proofs.Common.{◌∙◌, ap, sym}
use Rattle.std.proofs.Math.ListN.{set}
use Rattle.cloak_model.specs.Memory.{with_value_in}
use Rattle.plain_pages.proofs.Kept.{stored, read_reached}
use Rattle.plain_pages.proofs.pages.PlainPages.store.Goals as goal

pub returns : goal.returns
returns c =
    let kept = c.self.inside.kept.items in
    let reached = c.reach.new.kept.items in
    let all = c.args.self.now in
    let was = sym (read_reached kept reached all 16384 c.args.place c.index_mut.result.now (sym c.self.view_is)
    c.reach.ensures.pages c.requires.place c.self.invariant.few c.index_mut.ensures.value) in
    record {
      pages =
          stored kept reached all 16384 c.args.place c.set_value_in.new.page (sym c.self.view_is) c.reach.ensures.pages
          c.requires.place c.self.invariant.few
          ∙ ap (λ page. set all c.args.place page)
          (c.set_value_in.ensures ∙ ap (λ page. with_value_in page c.args.at c.args.width c.args.value) was);
    }
