use Rattle.std.proofs.Common.{refl, rules, subst, [], ◌∷◌, ◌*◌, ◌%◌, ◌^◌}
use Rattle.cloak_model.specs.Items.{Item}
use Rattle.cloak_model.specs.Items as item
use Rattle.cloak_model.specs.Exchange.{Emits, item_pieces}
use Rattle.cloaked_side.proofs.Sided.{sees_written, writes_only}
use Rattle.cloaked_side.proofs.side.Side.write_put.Goals as goal

pub returns-clause-leaves : goal.returns-clause-leaves
returns-clause-leaves g c = writes_only g.E.Emit.gave c.args.self.now _ refl refl (_, c.item.ensures) refl refl

pub returns-clause-sees : goal.returns-clause-sees
returns-clause-sees g c first w sees =
    let old = c.args.self.now in
    sees_written g.E.Emit.gave first old _ (item.Put c.args.pa c.args.width (c.args.v % 2 ^ (8 * c.args.width))) w refl refl refl refl
    (subst (λ (i : Item). Emits g.E.Emit.gave old.emitter.now c.item.new.self (item_pieces (i ∷ []))) (search rules) c.item.ensures) sees
