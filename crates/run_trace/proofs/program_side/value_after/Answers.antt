use Rattle.std.proofs.Common.{refl}
use Rattle.run_trace.proofs.program_side.value_after.Goals as goal

pub returns-in-None : goal.returns-in-None
returns-in-None c number turns s stands fits = rw c.in-None.is refl

pub returns-in-Some : goal.returns-in-Some
returns-in-Some c number turns s stands fits = rw c.in-Some.is (c.cloaked_value.ensures number turns s stands fits)
