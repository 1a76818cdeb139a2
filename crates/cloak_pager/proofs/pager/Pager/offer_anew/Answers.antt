use Rattle.std.proofs.Common.{◌≡◌, ◌∙◌, ap, refl, sym, subst, Some, None, Bool, true}
use Rattle.protect_meta.specs.Table.{meta_at}
use Rattle.cloak_pager.specs.State.{page_of, owed_under}
use Rattle.cloak_pager.specs.Turns.{OfferTurns}
use Rattle.cloak_pager.specs.declared.frame_right.FrameRight.TheVariants.{Outside, Clean, Changed}
use Rattle.cloak_pager.specs.declared.offering.Offered.TheVariants.{Ready}
use Rattle.cloak_pager.proofs.Keeping.{right_now}
use Rattle.cloak_pager.proofs.Offers.{MayOffer, offer_by, shown_turns, clean_turns}
use Rattle.cloak_pager.proofs.Turned.{taken_right}
use Rattle.cloak_pager.proofs.Behind.{stays_same, turned_stays, offer_stays}
use Rattle.cloak_pager.proofs.pager.Pager.offer_anew.Goals as goal

pub returns-in-Some-clause-model : goal.returns-in-Some-clause-model
returns-in-Some-clause-model c =
    let right = right_now c.args.g.0 (Outside c.in-Outside.field-0) c.self.view_is c.self.invariant.whole
    c.requires.inside c.index.ensures c.in-Outside.is in
    let may : MayOffer c.args.self.now c.args.q c.args.g.0 = record {
      inside = c.requires.inside;
      page = c.requires.page;
      room = c.requires.room;
      alone = c.requires.alone;
    } in
    let shown : meta_at c.args.self.now.table c.args.q ≡ Some c.in-Some.meta =
    rw (← c.self.view_is) (sym c.get.ensures ∙ c.in-Some.is) in
    offer_by _ _ c.args.q c.args.g.0 c.args.write c.offer_shown.result _ _ may right shown
    c.offer_shown.ensures.exact_cause
    (shown_turns _ _ c.args.q c.args.g.0 c.args.write c.offer_shown.result c.in-Outside.field-0 c.in-Some.meta
    c.offer_shown.ensures.state)

pub returns-in-None-clause-model : goal.returns-in-None-clause-model
returns-in-None-clause-model c =
    let right = right_now c.args.g.0 (Outside c.in-Outside.field-0) c.self.view_is c.self.invariant.whole
    c.requires.inside c.index.ensures c.in-Outside.is in
    let may : MayOffer c.args.self.now c.args.q c.args.g.0 = record {
      inside = c.requires.inside;
      page = c.requires.page;
      room = c.requires.room;
      alone = c.requires.alone;
    } in
    let shown : meta_at c.args.self.now.table c.args.q ≡ None =
    rw (← c.self.view_is) (sym c.get.ensures ∙ c.in-None.is) in
    offer_by _ c.first_frame.new.self c.args.q c.args.g.0 c.args.write Ready _ _ may right shown refl
    c.first_frame.ensures

pub returns-then-write-clause-model : goal.returns-then-write-clause-model
returns-then-write-clause-model c =
    let right = right_now c.args.g.0 (Clean c.in-Clean.field-0) c.self.view_is c.self.invariant.whole c.requires.inside
    c.index.ensures c.in-Clean.is in
    let may : MayOffer c.args.self.now c.args.q c.args.g.0 = record {
      inside = c.requires.inside;
      page = c.requires.page;
      room = c.requires.room;
      alone = c.requires.alone;
    } in
    let shown = meta_at c.args.self.now.table c.args.q in
    let turns = clean_turns _ _ c.args.q c.args.g.0 _ shown right c.requires.room c.change_frame.ensures in
    let T : Bool → Type 0 =
    λ b. OfferTurns (Clean c.in-Clean.field-0) shown b c.args.self.now c.change_frame.new.self c.args.q c.args.g.0 in
    offer_by _ _ c.args.q c.args.g.0 c.args.write Ready _ shown may right refl refl
    (subst T (sym c.if-write.true) turns)

pub returns-else-write-clause-model : goal.returns-else-write-clause-model
returns-else-write-clause-model c =
    let right = right_now c.args.g.0 (Clean c.in-Clean.field-0) c.self.view_is c.self.invariant.whole c.requires.inside
    c.index.ensures c.in-Clean.is in
    let may : MayOffer c.args.self.now c.args.q c.args.g.0 = record {
      inside = c.requires.inside;
      page = c.requires.page;
      room = c.requires.room;
      alone = c.requires.alone;
    } in
    let shown = meta_at c.args.self.now.table c.args.q in
    let T : Bool → Type 0 =
    λ b. OfferTurns (Clean c.in-Clean.field-0) shown b c.args.self.now c.args.self.now c.args.q c.args.g.0 in
    offer_by _ c.args.self.now c.args.q c.args.g.0 c.args.write Ready _ shown may right refl refl
    (subst T (sym c.if-write.false) refl)

pub returns-in-Changed-clause-model : goal.returns-in-Changed-clause-model
returns-in-Changed-clause-model c =
    let right = right_now c.args.g.0 (Changed c.in-Changed.field-0) c.self.view_is c.self.invariant.whole
    c.requires.inside c.index.ensures c.in-Changed.is in
    let may : MayOffer c.args.self.now c.args.q c.args.g.0 = record {
      inside = c.requires.inside;
      page = c.requires.page;
      room = c.requires.room;
      alone = c.requires.alone;
    } in
    offer_by _ c.args.self.now c.args.q c.args.g.0 c.args.write Ready _
    (meta_at c.args.self.now.table c.args.q) may right refl refl refl

pub returns-then-write-clause-held : goal.returns-then-write-clause-held
returns-then-write-clause-held c =
    let right = right_now c.args.g.0 (Clean c.in-Clean.field-0) c.self.view_is c.self.invariant.whole c.requires.inside
    c.index.ensures c.in-Clean.is in
    let turns = clean_turns _ _ c.args.q c.args.g.0 _
    (meta_at c.args.self.now.table c.args.q) right c.requires.room c.change_frame.ensures in
    λ ready. ap page_of
    (taken_right _ c.change_frame.new.self c.args.g.0 c.args.q true _ right.whole c.requires.inside turns)

pub returns-then-write-clause-owed : goal.returns-then-write-clause-owed
returns-then-write-clause-owed c =
    let right = right_now c.args.g.0 (Clean c.in-Clean.field-0) c.self.view_is c.self.invariant.whole c.requires.inside
    c.index.ensures c.in-Clean.is in
    let turns = clean_turns _ _ c.args.q c.args.g.0 _
    (meta_at c.args.self.now.table c.args.q) right c.requires.room c.change_frame.ensures in
    λ ready write.
    ap owed_under (taken_right _ c.change_frame.new.self c.args.g.0 c.args.q true _ right.whole c.requires.inside turns)

pub returns-in-Some-clause-stays : goal.returns-in-Some-clause-stays
returns-in-Some-clause-stays c =
    offer_stays c.offer_shown.result (Outside c.in-Outside.field-0)
    (Some c.in-Some.meta) c.args.write _ _ c.args.q c.args.g.0
    (shown_turns _ _ c.args.q c.args.g.0 c.args.write c.offer_shown.result c.in-Outside.field-0 c.in-Some.meta
    c.offer_shown.ensures.state)

pub returns-in-None-clause-stays : goal.returns-in-None-clause-stays
returns-in-None-clause-stays c = turned_stays c.args.g.0 _ c.first_frame.new.self _ _ _ c.first_frame.ensures

pub returns-then-write-clause-stays : goal.returns-then-write-clause-stays
returns-then-write-clause-stays c =
    let right = right_now c.args.g.0 (Clean c.in-Clean.field-0) c.self.view_is c.self.invariant.whole c.requires.inside
    c.index.ensures c.in-Clean.is in
    let turns = clean_turns _ _ c.args.q c.args.g.0 _
    (meta_at c.args.self.now.table c.args.q) right c.requires.room c.change_frame.ensures in
    turned_stays c.args.g.0 _ c.change_frame.new.self _ _ _ turns

pub returns-else-write-clause-stays : goal.returns-else-write-clause-stays
returns-else-write-clause-stays c = stays_same c.args.g.0 _ _ refl

pub returns-in-Changed-clause-stays : goal.returns-in-Changed-clause-stays
returns-in-Changed-clause-stays c = stays_same c.args.g.0 _ _ refl
