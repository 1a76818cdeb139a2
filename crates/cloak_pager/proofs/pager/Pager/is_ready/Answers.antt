use Rattle.std.proofs.Common.{◌∙◌, ap, refl, sym, subst, Bool, Some}
use Rattle.cloak_base.specs.Pages.{same_page}
use Rattle.cloak_base.specs.declared.names.PageId.{PageId}
use Rattle.cloak_base.proofs.Pages.{same_page-decides}
use Rattle.protect_meta.specs.Table.{meta_at}
use Rattle.cloak_pager.specs.Turns.{OfferTurns}
use Rattle.cloak_pager.specs.declared.frame_right.FrameRight.TheVariants.{Clean, Changed}
use Rattle.cloak_pager.specs.declared.offering.Offered.TheVariants.{Ready}
use Rattle.cloak_pager.proofs.Keeping.{right_now}
use Rattle.cloak_pager.proofs.Offers.{may_again, offer_by}
use Rattle.cloak_pager.proofs.pager.Pager.is_ready.Goals as goal

pub returns-in-Changed-clause-model : goal.returns-in-Changed-clause-model
unfolding same_page
returns-in-Changed-clause-model c is =
    let right = right_now c.args.f.0 (Changed c.in-Changed.right) c.self.view_is c.self.invariant.whole
    c.requires c.index-held.ensures c.in-Changed.is in
    let same = sym c.page.ensures ∙ (same_page-decides c.page.result c.args.q).0 (sym c.eq.ensures ∙ is) in
    let may = may_again right c.args.q (ap (λ (x : PageId). Some x) same) in
    offer_by _ c.args.self.now c.args.q c.args.f.0 c.args.write Ready _
    (meta_at c.args.self.now.table c.args.q) may right refl refl refl

pub returns-in-Clean-clause-model : goal.returns-in-Clean-clause-model
unfolding same_page
returns-in-Clean-clause-model c is =
    let right = right_now c.args.f.0 (Clean c.in-Clean.right) c.self.view_is c.self.invariant.whole
    c.requires c.index-held.ensures c.in-Clean.is in
    let same = sym c.page-in-Clean.ensures
    ∙ (same_page-decides c.page-in-Clean.result c.args.q).0 (sym c.eq-in-Clean.ensures ∙ is) in
    let may = may_again right c.args.q (ap (λ (x : PageId). Some x) same) in
    let shown = meta_at c.args.self.now.table c.args.q in
    let T : Bool → Type 0 =
    λ b. OfferTurns (Clean c.in-Clean.right) shown b c.args.self.now c.args.self.now c.args.q c.args.f.0 in
    offer_by _ c.args.self.now c.args.q c.args.f.0 c.args.write Ready _ shown may right refl refl
    (subst T (sym c.if-not-write.true) refl)
