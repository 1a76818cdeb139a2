use Rattle.std.proofs.Common.{sym}
use Rattle.chain_arena.proofs.Callers.{unhooked_none}
use Rattle.multi_shadow.proofs.places.leave.Goals as goal

pub returns-else-stands : goal.returns-else-stands
returns-else-stands c = sym (unhooked_none c.args.arena.now c.args.c c.args.s (c.requires.long c.args.c) (c.requires.out c.if-stands.false))
