use Rattle.std.proofs.Common.{◌∙◌, sym, ap}
use Rattle.cloak_model.specs.AskPages.{is_marked}
use Rattle.cloaked_side.proofs.Cleared.{sees_marked, sees_unmarked, unmarked_settled}
use Rattle.cloaked_side.proofs.side.Side.clear_frame.Goals as goal

pub returns-then-is_marked-clause-sees : goal.returns-then-is_marked-clause-sees
returns-then-is_marked-clause-sees g c first w sees =
    sees_marked g.E.Emit.gave first c.args.self.now c.settle.new.self c.args.domain c.args.resources.now c.args.f.0 w
    (ap (λ o. is_marked c.args.domain c.args.resources.now o) (sym c.owed_page.ensures) ∙ sym c.if-is_marked.ensures)
    sees (c.settle.ensures.sees first w sees)

pub returns-else-is_marked-clause-sees : goal.returns-else-is_marked-clause-sees
returns-else-is_marked-clause-sees g c first w sees =
    sees_unmarked g.E.Emit.gave first c.args.self.now c.args.domain c.args.resources.now c.args.f.0 w
    (ap (λ o. is_marked c.args.domain c.args.resources.now o) (sym c.owed_page.ensures) ∙ sym c.if-is_marked.ensures)
    sees

pub returns-then-is_marked-clause-cleared : goal.returns-then-is_marked-clause-cleared
returns-then-is_marked-clause-cleared g c =
    unmarked_settled c.args.domain c.args.resources.now c.settle.new.self.memory.now.pager c.args.f.0
    c.settle.ensures.outside
