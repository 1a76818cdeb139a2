use Rattle.std.proofs.Common.{sym, subst, refl, ◌∙◌}
use Rattle.shadow_fold.specs.Following.{AreBirthCalls}
use Rattle.multi_shadow.proofs.Searches.{lent_known}
use Rattle.multi_shadow.proofs.shadows.Shadows.learn.Goals as goal

pub insert-requires-clause-unknown : goal.insert-requires-clause-unknown
insert-requires-clause-unknown c =
    let e = c.args.e in let t = c.args.self.now in
    lent_known (λ r. r.now) e.regime e.page e.kind t t c.look.result c.is_some-known.result refl c.look.ensures
    c.is_some-known.ensures
    ∙ c.if-not-known.true

pub returns-then-not-known-clause-born : goal.returns-then-not-known-clause-born
returns-then-not-known-clause-born c within =
    let e = c.args.e in let t = c.args.self.now in
    let known =
    lent_known (λ r. r.now) e.regime e.page e.kind t t c.look.result c.is_some-known.result refl c.look.ensures
    c.is_some-known.ensures in
    subst (λ b. AreBirthCalls b e t c.insert.new.self) (sym (known ∙ c.if-not-known.true))
    (c.insert.ensures.live, c.insert.ensures.rest)

pub returns-else-not-known-clause-born : goal.returns-else-not-known-clause-born
returns-else-not-known-clause-born c within =
    let e = c.args.e in let t = c.args.self.now in
    let known =
    lent_known (λ r. r.now) e.regime e.page e.kind t t c.look.result c.is_some-known.result refl c.look.ensures
    c.is_some-known.ensures in
    subst (λ b. AreBirthCalls b e t t) (sym (known ∙ c.if-not-known.false)) refl
