use Rattle.std.proofs.Common.{◌≡◌, false, IfSome, sym, subst, ◌∙◌}
use Rattle.shadow_fold.specs.Entries.{is_for}
use Rattle.multi_shadow.proofs.Recents.{recent_hit, recent_miss}
use Rattle.multi_shadow.proofs.recent.Recent.find.Goals as goal

pub returns-then-is_for : goal.returns-then-is_for
returns-then-is_for c =
    sym (recent_hit c.args.self.now c.requires c.args.v.now c.args.page c.args.kind c.in-Some.e
    (sym c.place_of.ensures ∙ c.in-Some.is) (sym c.is_for.ensures ∙ c.if-is_for.true))

pub returns-else-is_for : goal.returns-else-is_for
returns-else-is_for c =
    sym (recent_miss c.args.self.now c.requires c.args.v.now c.args.page c.args.kind
    (subst (λ o. IfSome o (λ e. is_for c.args.v.now c.args.page c.args.kind e ≡ false))
    (sym c.in-Some.is ∙ c.place_of.ensures)
    (sym c.is_for.ensures ∙ c.if-is_for.false)))

pub returns-in-None : goal.returns-in-None
returns-in-None c =
    sym (recent_miss c.args.self.now c.requires c.args.v.now c.args.page c.args.kind
    (subst (λ o. IfSome o (λ e. is_for c.args.v.now c.args.page c.args.kind e ≡ false))
    (sym c.in-None.is ∙ c.place_of.ensures) tt))
