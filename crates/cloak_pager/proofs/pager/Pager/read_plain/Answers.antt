use Rattle.std.proofs.Common.{ℕ, List, refl}
use Rattle.cloak_model.specs.Memory.{value_in}
use Rattle.cloak_pager.specs.declared.frame_right.FrameRight.TheVariants.{Clean, Changed}
use Rattle.cloak_pager.proofs.Writes.{read_value, read_newest}
use Rattle.cloak_pager.proofs.pager.Pager.read_plain.Goals as goal

pub returns-in-Changed-clause-value : goal.returns-in-Changed-clause-value
returns-in-Changed-clause-value c =
    read_value _ _ c.args.q c.args.f.0 _ (Changed c.in-Changed.right) _ _
    (λ (x : List ℕ). value_in x c.args.at c.args.width) c.value_in.result c.self.view_is c.self.invariant.whole
    c.index-held.ensures c.in-Changed.is refl c.changed.ensures c.value_in.ensures c.requires.held

pub returns-in-Changed-clause-model : goal.returns-in-Changed-clause-model
returns-in-Changed-clause-model c =
    read_newest _ c.args.q c.args.f.0 c.args.at c.args.width c.value_in.result (returns-in-Changed-clause-value c)
    c.requires.held

pub returns-clause-value : goal.returns-clause-value
returns-clause-value c =
    read_value _ _ c.args.q c.args.f.0 _ (Clean c.in-Clean.right) _ _
    (λ (x : List ℕ). value_in x c.args.at c.args.width) c.value_in-in-Clean.result c.self.view_is
    c.self.invariant.whole c.index-held.ensures c.in-Clean.is refl c.plain.ensures c.value_in-in-Clean.ensures
    c.requires.held

pub returns-clause-model : goal.returns-clause-model
returns-clause-model c =
    read_newest _ c.args.q c.args.f.0 c.args.at c.args.width c.value_in-in-Clean.result (returns-clause-value c)
    c.requires.held
