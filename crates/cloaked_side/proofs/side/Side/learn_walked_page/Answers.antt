use Rattle.std.proofs.Common.{◌≡◌, ◌∙◌, ap, sym, subst, Option, Some, false}
use Rattle.std.specs.Prelude.{IfSome}
use Rattle.cloak_base.specs.Constants.{frame_of}
use Rattle.cloak_model.specs.declared.access.Walked.{Walked}
use Rattle.cloak_pager.specs.State.{held_in}
use Rattle.shadow_fold.specs.Agreement.{satp_in, access_in}
use Rattle.shadow_fold.specs.Fold.{is_own_table}
use Rattle.cloaked_side.specs.Leading.{IsEntryOf}
use Rattle.cloaked_side.specs.Seeing.{space_in}
use Rattle.cloaked_side.proofs.Known.{entry_built, entry_viewed, never_known, own_of, sees_live, viewed_own}
use Rattle.cloaked_side.proofs.side.Side.learn_walked_page.Goals as goal

pub returns-then-not-is_table-clause-sees : goal.returns-then-not-is_table-clause-sees
returns-then-not-is_table-clause-sees g c first w walked sees so =
    let old = c.args.self.now in
    let regime = old.regime in
    let q = c.args.q in
    let f = c.frame_of-f.result in
    let e = c.entry_of-e.result in
    let same = subst (λ (o : Option Walked). IfSome o (λ on. on ≡ walked)) c.in-Some.is so.by.handed in
    let is = entry_built regime c.args.va c.args.kind f c.in-Some.walked walked (Some q) (c.frame_of-f.ensures ∙ ap frame_of so.by.place) same
    ∙ sym c.entry_of-e.ensures in
    let other : is_own_table e ≡ false = own_of f q e c.entry_of-e.ensures (sym c.if-not-is_table.ensures) in
    c.learn.ensures.sees first w (satp_in regime) (access_in regime c.args.va c.args.kind) walked (Some q) sees
    (subst (λ x. IsEntryOf w (held_in old.memory.now.pager) x) is (so.entry (ap is_own_table is ∙ other)))
    (entry_viewed (space_in regime) regime c.args.va c.args.kind walked (Some q) (viewed_own regime) ∙ is) other

pub returns-else-not-is_table-clause-sees : goal.returns-else-not-is_table-clause-sees
returns-else-not-is_table-clause-sees g c first w walked sees so =
    let old = c.args.self.now in
    let regime = old.regime in
    let q = c.args.q in
    let f = c.frame_of-f.result in
    let e = c.entry_of-e.result in
    let same = subst (λ (o : Option Walked). IfSome o (λ on. on ≡ walked)) c.in-Some.is so.by.handed in
    never_known g.E.Emit.gave first old regime c.args.va c.args.kind walked (Some q) e w sees
    (entry_viewed (space_in regime) regime c.args.va c.args.kind walked (Some q) (viewed_own regime)
    ∙ entry_built regime c.args.va c.args.kind f c.in-Some.walked walked (Some q) (c.frame_of-f.ensures ∙ ap frame_of so.by.place) same
    ∙ sym c.entry_of-e.ensures)
    (own_of f q e c.entry_of-e.ensures (sym c.if-not-is_table.ensures))

pub returns-in_default-clause-sees : goal.returns-in_default-clause-sees
returns-in_default-clause-sees g c first w walked sees so =
    let regime = c.args.self.now.regime in
    sees_live g.E.Emit.gave first c.args.self.now regime c.args.va c.args.kind (Some c.args.q) walked w sees (viewed_own regime) (λ counts. (so.live c.in_default.is counts).0)
