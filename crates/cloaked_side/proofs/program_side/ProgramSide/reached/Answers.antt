use Rattle.std.proofs.Common.{◌≡◌, ◌∙◌, rules, Some, ap, refl, sym, subst, ℕ, Bool, true, false}
use Rattle.cloak_base.specs.declared.causes.Violation.TheVariants as violation
use Rattle.cloak_base.specs.Constants.{is_in_frames, frame_of}
use Rattle.cloak_model.specs.AskPages.{offered_by}
use Rattle.cloak_model.specs.World.{World, Cloaked}
use Rattle.cloaked_side.specs.Leading.{IsLedSo}
use Rattle.cloaked_side.specs.Offering.{OfferLeaves, OffersPage}
use Rattle.cloaked_side.specs.Seeing.{SeesCloak}
use Rattle.cloaked_side.proofs.Answering.{asked_offer, drawn_told, granted_told, refused_told, with_violation}
use Rattle.cloaked_side.proofs.Known.{known_inside, reached_so}
use Rattle.cloaked_side.proofs.Sided.{after_call, reach_offered}
use Rattle.cloaked_side.proofs.program_side.ProgramSide.reached.Goals as goal

pub learn_page-requires : goal.learn_page-requires
learn_page-requires g c = record {
  inside = subst (λ (n : ℕ). is_in_frames n c.args.led.now.pa ≡ true) (sym c.if-offer.ensures.leaves.same.frames)
      c.requires.inside;
}

pub returns-then-offer-clause-told : goal.returns-then-offer-clause-told
returns-then-offer-clause-told g c first w s walked sees at_space so unclashed =
    let gave = g.E.Emit.gave in
    let old = c.args.self.now.side in
    let mid = after_call old c.offer.new.self c.offer.new.e in
    let q = c.args.q in
    let va = c.args.va in
    let kind = c.args.kind in
    let at = c.requires.frame ∙ ap frame_of so.by.place in
    asked_offer gave first old mid _ true q va kind walked _ w sees unclashed
    (subst (λ (x : ℕ × Bool). OffersPage gave old.emitter.now mid.emitter.now old.memory.now mid.memory.now q x.0 x.1 true)
    (λ i. (at i, c.is_store.ensures i)) c.if-offer.ensures.offers) refl refl refl
    (λ k k' there seen seen' is_memory.
    let leaves = subst (λ (x : ℕ × Bool). OfferLeaves gave old.emitter.now mid.emitter.now old.memory.now mid.memory.now q x.0 x.1 true)
    (λ i. (at i, c.is_store.ensures i)) c.if-offer.ensures.leaves in
    let reached = reached_so gave first old mid old.regime va kind q walked c.args.led.now k k' seen seen' is_memory
    (subst (λ (v : World). IsLedSo old.memory.now v old.regime va kind (Some q) walked c.args.led.now) there so) leaves in
    granted_told gave first mid c.learn_page.new.self _ q va kind walked _ k' seen' (leaves.drawn refl)
    (known_inside gave first mid c.learn_page.new.self s va kind (Some q) walked (Cloaked k') seen' at_space
    (c.learn_page.ensures.sees first (Cloaked k') walked seen' reached))
    c.grant.ensures.told)

pub returns-then-self-clause-told : goal.returns-then-self-clause-told
returns-then-self-clause-told g c first w s walked sees at_space so unclashed =
    let gave = g.E.Emit.gave in
    let old = c.args.self.now.side in
    let mid = after_call old c.offer.new.self c.offer.new.e in
    let at = c.requires.frame ∙ ap frame_of so.by.place in
    asked_offer gave first old mid _ false c.args.q c.args.va c.args.kind walked _ w sees unclashed
    (subst (λ (x : ℕ × Bool). OffersPage gave old.emitter.now mid.emitter.now old.memory.now mid.memory.now c.args.q x.0 x.1 false)
    (λ i. (at i, c.is_store.ensures i)) c.if-offer.ensures.offers) refl refl refl
    (λ k k' there seen seen' is_memory.
    drawn_told gave first mid _ _ (offered_by c.args.q c.args.va c.args.kind walked false) (Cloaked k') seen' c.if-self.true
    (c.stop.ensures.told first (Cloaked k') seen'))

pub returns-clause-told : goal.returns-clause-told
returns-clause-told g c first w s walked sees at_space so unclashed =
    let gave = g.E.Emit.gave in
    let old = c.args.self.now.side in
    let mid = after_call old c.offer.new.self c.offer.new.e in
    let after = record mid { violation = Some (violation.Page c.args.q c.args.g) } in
    let at = c.requires.frame ∙ ap frame_of so.by.place in
    asked_offer gave first old mid _ false c.args.q c.args.va c.args.kind walked _ w sees unclashed
    (subst (λ (x : ℕ × Bool). OffersPage gave old.emitter.now mid.emitter.now old.memory.now mid.memory.now c.args.q x.0 x.1 false)
    (λ i. (at i, c.is_store.ensures i)) c.if-offer.ensures.offers) refl refl refl
    (λ k k' there seen seen' is_memory.
    refused_told gave first mid after _ c.args.q c.args.va c.args.kind walked _ k' seen' c.if-self.false
    (subst (λ (n : ℕ). SeesCloak gave first after (record k' { violation = Some (violation.Page c.args.q (record { 0 = n })) })) at
    (with_violation gave first mid after _ k' seen' refl refl refl refl refl))
    c.stop-2.ensures.told)

pub returns-then-offer-clause-leaves : goal.returns-then-offer-clause-leaves
returns-then-offer-clause-leaves g c =
    reach_offered g.E.Emit.gave c.args.self.now _ c.offer.new.self c.offer.new.e c.args.self.now.side.violation
    c.args.q c.args.kind _ _ _ _ c.requires.page.own c.offer.ensures.leaves
    (λ first stays. c.grant.ensures.leaves.keeps first (c.learn_page.ensures.leaves.keeps first stays))
    (search rules) (search rules)

pub returns-then-self-clause-leaves : goal.returns-then-self-clause-leaves
returns-then-self-clause-leaves g c =
    reach_offered g.E.Emit.gave c.args.self.now _ c.offer.new.self c.offer.new.e c.args.self.now.side.violation
    c.args.q c.args.kind _ _ _ _ c.requires.page.own c.offer.ensures.leaves c.stop.ensures.leaves.keeps
    (search rules) (search rules)

pub returns-clause-leaves : goal.returns-clause-leaves
returns-clause-leaves g c =
    reach_offered g.E.Emit.gave c.args.self.now _ c.offer.new.self c.offer.new.e
    (Some (violation.Page c.args.q c.args.g))
    c.args.q c.args.kind _ _ _ _ c.requires.page.own c.offer.ensures.leaves c.stop-2.ensures.leaves.keeps
    (search rules) (search rules)
