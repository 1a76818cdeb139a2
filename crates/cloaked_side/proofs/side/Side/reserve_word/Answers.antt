use Rattle.std.proofs.Common.{refl}
use Rattle.cloaked_side.proofs.Holders.{no_more_self}
use Rattle.cloaked_side.proofs.Marking.{marked_told}
use Rattle.cloaked_side.proofs.Sided.{within_repaged}
use Rattle.cloaked_side.proofs.side.Side.reserve_word.Goals as goal

pub returns-clause-told : goal.returns-clause-told
returns-clause-told g c first w sees =
    marked_told g.E.Emit.gave first c.args.self.now c.mark.new.self c.args.hart c.args.pa w c.mark.ensures sees

pub returns-clause-keeps : goal.returns-clause-keeps
returns-clause-keeps g c first stays =
    within_repaged g.E.Emit.gave first c.args.self.now _ stays refl refl (record { frames = refl; domains = refl }) refl refl refl
    (no_more_self c.args.self.now.memory.now.pager)
