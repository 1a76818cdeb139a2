use Rattle.std.proofs.Common.{refl}
use Rattle.cloaked_side.proofs.Sided.{sees_written, writes_only}
use Rattle.cloaked_side.proofs.program_side.ProgramSide.write_word.Goals as goal

pub returns-clause-leaves : goal.returns-clause-leaves
returns-clause-leaves g c = writes_only g.E.Emit.gave c.args.self.now.side _ refl refl (_, c.item.ensures) refl refl

pub returns-clause-sees : goal.returns-clause-sees
returns-clause-sees g c first w sees =
    sees_written g.E.Emit.gave first c.args.self.now.side _ _ w refl refl refl refl c.item.ensures sees
