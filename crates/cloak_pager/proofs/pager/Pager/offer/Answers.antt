use Rattle.std.proofs.Common.{refl, sym, subst, Bool}
use Rattle.protect_meta.specs.Table.{meta_at}
use Rattle.cloak_pager.specs.Turns.{OfferTurns}
use Rattle.cloak_pager.specs.declared.frame_right.FrameRight.TheVariants.{Clean, Changed}
use Rattle.cloak_pager.specs.declared.offering.Offered.TheVariants.{Ready}
use Rattle.cloak_pager.proofs.Keeping.{right_now}
use Rattle.cloak_pager.proofs.Offers.{MayOffer, offer_by}
use Rattle.cloak_pager.proofs.Behind.{stays_same}
use Rattle.cloak_pager.proofs.pager.Pager.offer.Goals as goal

pub returns-in-Changed-clause-model : goal.returns-in-Changed-clause-model
returns-in-Changed-clause-model c =
    let right = right_now c.args.g.0 (Changed c.in-Changed.field-0) c.self.view_is c.self.invariant.whole
    c.requires.inside c.index-held.ensures c.in-Changed.is in
    let may : MayOffer c.args.self.now c.args.q c.args.g.0 = record {
      inside = c.requires.inside;
      page = c.requires.page;
      room = c.requires.room;
      alone = c.requires.alone;
    } in
    offer_by _ c.args.self.now c.args.q c.args.g.0 c.args.write Ready _
    (meta_at c.args.self.now.table c.args.q) may right refl refl refl

pub returns-in-Clean-clause-state : goal.returns-in-Clean-clause-state
returns-in-Clean-clause-state c =
    let right = right_now c.args.g.0 (Clean c.in-Clean.field-0) c.self.view_is c.self.invariant.whole
    c.requires.inside c.index-held.ensures c.in-Clean.is in
    let T : Bool → Type 0 =
    λ b. OfferTurns (Clean c.in-Clean.field-0) (meta_at c.args.self.now.table c.args.q) b
    c.args.self.now c.args.self.now c.args.q c.args.g.0 in
    let took : T c.args.write = subst T (sym c.if-not-write.true) refl in
    rw right.at took

pub returns-in-Clean-clause-model : goal.returns-in-Clean-clause-model
returns-in-Clean-clause-model c =
    let right = right_now c.args.g.0 (Clean c.in-Clean.field-0) c.self.view_is c.self.invariant.whole
    c.requires.inside c.index-held.ensures c.in-Clean.is in
    let may : MayOffer c.args.self.now c.args.q c.args.g.0 = record {
      inside = c.requires.inside;
      page = c.requires.page;
      room = c.requires.room;
      alone = c.requires.alone;
    } in
    let shown = meta_at c.args.self.now.table c.args.q in
    let T : Bool → Type 0 =
    λ b. OfferTurns (Clean c.in-Clean.field-0) shown b c.args.self.now c.args.self.now c.args.q c.args.g.0 in
    offer_by _ c.args.self.now c.args.q c.args.g.0 c.args.write Ready _ shown may right refl refl
    (subst T (sym c.if-not-write.true) refl)

pub returns-in-Clean-clause-stays : goal.returns-in-Clean-clause-stays
returns-in-Clean-clause-stays c = stays_same c.args.g.0 _ _ refl
