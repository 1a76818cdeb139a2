use Rattle.std.proofs.Common.{refl}
use Rattle.cloak_base.specs.declared.names.PageId.{PageId}
use Rattle.cloak_pager.specs.Turns.{IsResealed, IsSealed}
use Rattle.cloak_pager.specs.declared.frame_right.FrameRight.TheVariants.{Outside, Clean, Changed}
use Rattle.cloak_pager.proofs.Keeping.{HasRight, right_now}
use Rattle.cloak_pager.proofs.Touches.{of_page, clean_outside, outside_now, quiet_follows, resealed_follows, seal_state}
use Rattle.cloak_pager.proofs.Touches.{sealed_follows, wiped_follows}
use Rattle.cloak_pager.proofs.Behind.{stays_same, turned_stays}
use Rattle.cloak_pager.proofs.pager.Pager.touch.Goals as goal

pub returns-in-Outside-clause-model : goal.returns-in-Outside-clause-model
returns-in-Outside-clause-model c =
    let right : HasRight c.args.self.now c.args.f.0 (Outside c.in-Outside.field-0) =
    right_now c.args.f.0 _ c.self.view_is c.self.invariant.whole c.requires c.index.ensures c.in-Outside.is in
    quiet_follows _ c.args.f.0 _ c.args.s.now right

pub returns-in-Clean-clause-outside : goal.returns-in-Clean-clause-outside
returns-in-Clean-clause-outside c =
    let right : HasRight c.args.self.now c.args.f.0 (Clean c.in-Clean.field-0) =
    right_now c.args.f.0 _ c.self.view_is c.self.invariant.whole c.requires c.index.ensures c.in-Clean.is in
    let P : PageId → Type 0 = λ q. IsResealed c.args.self.now c.reseal_frame.new.self c.args.f.0 q in
    clean_outside _ c.reseal_frame.new.self c.args.f _ right (of_page _ P right refl c.reseal_frame.ensures)

pub returns-in-Clean-clause-model : goal.returns-in-Clean-clause-model
returns-in-Clean-clause-model c =
    let right : HasRight c.args.self.now c.args.f.0 (Clean c.in-Clean.field-0) =
    right_now c.args.f.0 _ c.self.view_is c.self.invariant.whole c.requires c.index.ensures c.in-Clean.is in
    let P : PageId → Type 0 = λ q. IsResealed c.args.self.now c.reseal_frame.new.self c.args.f.0 q in
    resealed_follows _ _ c.args.f.0 _ c.args.s.now right (of_page _ P right refl c.reseal_frame.ensures)

pub returns-in-Some-clause-state : goal.returns-in-Some-clause-state
returns-in-Some-clause-state c =
    let right : HasRight c.args.self.now c.args.f.0 (Changed c.in-Changed.field-0) =
    right_now c.args.f.0 _ c.self.view_is c.self.invariant.whole c.requires c.index.ensures c.in-Changed.is in
    let P : PageId → Type 0 = λ q. IsSealed c.args.self.now c.seal_frame.new.self c.args.f.0 q c.in-Some.iv in
    seal_state _ _ c.args.f.0 _ c.in-Some.iv c.args.s.now c.draw.new.self right c.in-Some.ensures
    (of_page _ P right refl c.seal_frame.ensures)

pub returns-in-Some-clause-outside : goal.returns-in-Some-clause-outside
returns-in-Some-clause-outside c =
    let right : HasRight c.args.self.now c.args.f.0 (Changed c.in-Changed.field-0) =
    right_now c.args.f.0 _ c.self.view_is c.self.invariant.whole c.requires c.index.ensures c.in-Changed.is in
    let P : PageId → Type 0 = λ q. IsSealed c.args.self.now c.seal_frame.new.self c.args.f.0 q c.in-Some.iv in
    outside_now _ c.seal_frame.new.self c.args.f _ _ _ right (of_page _ P right refl c.seal_frame.ensures)

pub returns-in-Some-clause-model : goal.returns-in-Some-clause-model
returns-in-Some-clause-model c =
    let right : HasRight c.args.self.now c.args.f.0 (Changed c.in-Changed.field-0) =
    right_now c.args.f.0 _ c.self.view_is c.self.invariant.whole c.requires c.index.ensures c.in-Changed.is in
    let P : PageId → Type 0 = λ q. IsSealed c.args.self.now c.seal_frame.new.self c.args.f.0 q c.in-Some.iv in
    sealed_follows _ _ c.args.f.0 _ c.in-Some.iv c.args.s.now c.draw.new.self right c.in-Some.ensures
    (of_page _ P right refl c.seal_frame.ensures)

pub returns-in-None-clause-model : goal.returns-in-None-clause-model
returns-in-None-clause-model c =
    let right : HasRight c.args.self.now c.args.f.0 (Changed c.in-Changed.field-0) =
    right_now c.args.f.0 _ c.self.view_is c.self.invariant.whole c.requires c.index.ensures c.in-Changed.is in
    wiped_follows _ _ c.args.f.0 _ c.args.s.now c.draw.new.self right c.in-None.ensures.0 c.in-None.ensures.1
    c.wipe_frame.ensures

pub returns-in-Outside-clause-stays : goal.returns-in-Outside-clause-stays
returns-in-Outside-clause-stays c = stays_same c.args.f.0 c.args.self.now c.args.self.now refl

pub returns-in-Clean-clause-stays : goal.returns-in-Clean-clause-stays
returns-in-Clean-clause-stays c =
    let right : HasRight c.args.self.now c.args.f.0 (Clean c.in-Clean.field-0) =
    right_now c.args.f.0 _ c.self.view_is c.self.invariant.whole c.requires c.index.ensures c.in-Clean.is in
    let P : PageId → Type 0 = λ q. IsResealed c.args.self.now c.reseal_frame.new.self c.args.f.0 q in
    turned_stays c.args.f.0 c.args.self.now c.reseal_frame.new.self _ _ _
    (of_page _ P right refl c.reseal_frame.ensures).2

pub returns-in-Some-clause-stays : goal.returns-in-Some-clause-stays
returns-in-Some-clause-stays c =
    let right : HasRight c.args.self.now c.args.f.0 (Changed c.in-Changed.field-0) =
    right_now c.args.f.0 _ c.self.view_is c.self.invariant.whole c.requires c.index.ensures c.in-Changed.is in
    let P : PageId → Type 0 = λ q. IsSealed c.args.self.now c.seal_frame.new.self c.args.f.0 q c.in-Some.iv in
    turned_stays c.args.f.0 c.args.self.now c.seal_frame.new.self _ _ _ (of_page _ P right refl c.seal_frame.ensures)

pub returns-in-None-clause-stays : goal.returns-in-None-clause-stays
returns-in-None-clause-stays c =
    turned_stays c.args.f.0 c.args.self.now c.wipe_frame.new.self _ _ _ c.wipe_frame.ensures
