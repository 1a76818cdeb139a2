use Rattle.std.proofs.Common.{◌≡◌, ℕ, Bool, false, rules, refl, ap, sym, subst, ◌∙◌, Result, Ok, Err}
use Rattle.cloak_base.specs.Constants.{is_in_frames}
use Rattle.cloak_model.specs.Walk.{Walk}
use Rattle.cloaked_side.specs.Leading.{Leads, asked_led}
use Rattle.cloaked_side.specs.declared.leading.Led.{Led}
use Rattle.cloaked_side.specs.Holding.{frames_of}
use Rattle.shadow_fold.specs.Agreement.{satp_in, access_in}
use Rattle.cloaked_side.proofs.Known.{led_unclashed, place_if, walk_follows, walk_leads, walked_by}
use Rattle.cloaked_side.proofs.Losing.{walk_leaves}
use Rattle.cloaked_side.proofs.side.Side.led_by_walk.Goals as goal

pub returns-in_err-walked-clause-leads : goal.returns-in_err-walked-clause-leads
returns-in_err-walked-clause-leads g c first w cloaked sees unclashed =
    let gave = g.E.Emit.gave in
    let regime = c.args.regime.now in
    let a = access_in regime c.args.va c.args.kind in
    let fault : Walk = Err c.in_err-walked.field-0.0 in
    let same : c.from_residual.result ≡ Err c.in_err-walked.field-0.0 = search rules in
    subst (λ (r : Result Led ℕ). Leads gave first c.walk.new.w regime c.args.va c.args.kind cloaked r (asked_led regime c.args.va c.args.kind w)) (sym same)
    (walk_follows gave first c.args.self.now c.walk.new.w regime c.args.va c.args.kind fault fault w sees
    (walked_by gave first c.walk.new.w c.satp_of.result (satp_in regime) c.access_of-a.result a
    fault _ c.satp_of.ensures c.access_of-a.ensures (λ u. c.in_err-walked.ensures.follows first _ sees u)
    (led_unclashed regime c.args.va c.args.kind w unclashed)) refl)

pub returns-then-not-is_inside-clause-leads : goal.returns-then-not-is_inside-clause-leads
returns-then-not-is_inside-clause-leads g c first w cloaked sees unclashed =
    let gave = g.E.Emit.gave in
    let regime = c.args.regime.now in
    let a = access_in regime c.args.va c.args.kind in
    let walked = c.in_ok-walked.walked in
    walk_follows gave first c.args.self.now c.walk.new.w regime c.args.va c.args.kind (Ok walked) _ w sees
    (walked_by gave first c.walk.new.w c.satp_of.result (satp_in regime) c.access_of-a.result a
    (Ok walked) _ c.satp_of.ensures c.access_of-a.ensures (λ u. c.in_ok-walked.ensures.follows first _ sees u)
    (led_unclashed regime c.args.va c.args.kind w unclashed))
    (let no : is_in_frames (frames_of c.walk.new.w.memory.now) walked.pa ≡ false = search rules in
    ap (λ (cause : ℕ). Err cause) c.access_fault.ensures ∙ ap (λ (b : Bool). place_if b c.args.kind walked) (sym no))

pub returns-clause-leads : goal.returns-clause-leads
returns-clause-leads g c first w cloaked sees unclashed =
    let gave = g.E.Emit.gave in
    let regime = c.args.regime.now in
    let a = access_in regime c.args.va c.args.kind in
    let walked = c.in_ok-walked.walked in
    walk_leads gave first c.args.self.now c.walk.new.w regime c.args.va c.args.kind cloaked walked _ w sees
    (walked_by gave first c.walk.new.w c.satp_of.result (satp_in regime) c.access_of-a.result a
    (Ok walked) _ c.satp_of.ensures c.access_of-a.ensures (λ u. c.in_ok-walked.ensures.follows first _ sees u)
    (led_unclashed regime c.args.va c.args.kind w unclashed)) (search rules) refl

pub returns-in_err-walked-clause-leaves : goal.returns-in_err-walked-clause-leaves
returns-in_err-walked-clause-leaves g c =
    walk_leaves g.E.Emit.gave c.args.self.now c.walk.new.w c.args.regime.now c.args.va c.args.kind
    c.walk.ensures.keeps c.requires.unknown

pub returns-then-not-is_inside-clause-leaves : goal.returns-then-not-is_inside-clause-leaves
returns-then-not-is_inside-clause-leaves g c =
    walk_leaves g.E.Emit.gave c.args.self.now c.walk.new.w c.args.regime.now c.args.va c.args.kind
    c.walk.ensures.keeps c.requires.unknown

pub returns-clause-leaves : goal.returns-clause-leaves
returns-clause-leaves g c =
    walk_leaves g.E.Emit.gave c.args.self.now c.walk.new.w c.args.regime.now c.args.va c.args.kind
    c.walk.ensures.keeps c.requires.unknown
