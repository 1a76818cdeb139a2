use Rattle.std.proofs.Common.{sym, ◌∙◌, ap}
use Rattle.cloak_base.specs.declared.names.PageId.{PageId}
use Rattle.cloak_model.specs.Ledger.{key_in}
use Rattle.cloak_pager.specs.declared.frame_right.FrameRight.TheVariants.{Clean}
use Rattle.protect_meta.specs.Table.{meta_at}
use Rattle.cloak_pager.proofs.Keeping.{right_seen}
use Rattle.cloak_pager.proofs.Turned.{reseal_kept, reseal_turns}
use Rattle.cloak_pager.proofs.pager.Pager.reseal_frame.Goals as goal

pub invariant_of-self : goal.invariant_of-self
invariant_of-self c =
    let right = right_seen c.args.f.0 (Clean c.in-Clean.right) c.self.view_is c.self.invariant.whole c.requires.inside
    c.index_mut.ensures.value c.in-Clean.ensures.value in
    reseal_kept _ c.in-Some.meta c.replace.new.dest c.self.invariant right c.reseal.ensures.bytes c.reseal.ensures.right

pub returns : goal.returns
returns c =
    let right = right_seen c.args.f.0 (Clean c.in-Clean.right) c.self.view_is c.self.invariant.whole c.requires.inside
    c.index_mut.ensures.value c.in-Clean.ensures.value in
    let shown = ap (λ (x : PageId). meta_at c.self.inside.table x) (sym c.page-page.ensures)
    ∙ (sym c.get.ensures ∙ c.in-Some.is) in
    let under = c.of.ensures ∙ ap (λ (x : PageId). key_in c.self.inside.keys x) c.page-page.ensures in
    rw (← c.self.view_is)
    (reseal_turns c.replace.new.dest right under shown c.reseal.ensures.bytes c.reseal.ensures.right)
