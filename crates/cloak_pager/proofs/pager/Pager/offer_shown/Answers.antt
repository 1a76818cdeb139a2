use Rattle.std.proofs.Common.{refl, sym, subst, Bool}
use Rattle.cloak_pager.specs.Turns.{ShownTurns}
use Rattle.cloak_pager.specs.declared.offering.Offered.TheVariants.{Ready}
use Rattle.cloak_pager.proofs.Turned.{changed_then, other_digest, same_digest}
use Rattle.cloak_pager.proofs.pager.Pager.offer_shown.Goals as goal

pub returns-then-write-clause-exact_cause : goal.returns-then-write-clause-exact_cause
returns-then-write-clause-exact_cause c = same_digest c.args.m.now _ (c.if-open_frame.ensures.recorded refl)

pub returns-then-write-clause-state : goal.returns-then-write-clause-state
returns-then-write-clause-state c =
    let opened = c.if-open_frame.ensures.opened refl in
    let changed = c.change_frame.ensures c.args.q (c.if-open_frame.ensures.clean refl).1 in
    let then = changed_then _ c.open_frame.new.self c.change_frame.new.self c.args.g.0 c.args.q opened.0
    c.requires.inside opened.2 changed in
    let T : Bool → Type 0 =
    λ b. ShownTurns Ready c.args.m.now b c.args.self.now c.change_frame.new.self c.args.q c.args.g.0 in
    subst T (sym c.if-write.true) (opened.0, opened.1, then)

pub returns-else-write-clause-exact_cause : goal.returns-else-write-clause-exact_cause
returns-else-write-clause-exact_cause c = same_digest c.args.m.now _ (c.if-open_frame.ensures.recorded refl)

pub returns-else-write-clause-state : goal.returns-else-write-clause-state
returns-else-write-clause-state c =
    let T : Bool → Type 0 =
    λ b. ShownTurns Ready c.args.m.now b c.args.self.now c.open_frame.new.self c.args.q c.args.g.0 in
    subst T (sym c.if-write.false) (c.if-open_frame.ensures.opened refl)

pub returns-else-open_frame-clause-exact_cause : goal.returns-else-open_frame-clause-exact_cause
returns-else-open_frame-clause-exact_cause c = other_digest c.args.m.now _ (c.if-open_frame.ensures.refused refl).0
