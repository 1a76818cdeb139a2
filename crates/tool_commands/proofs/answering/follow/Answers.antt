use Rattle.std.proofs.Common.{refl}
use Rattle.tool_commands.proofs.answering.follow.Goals as goal

pub returns-in-Asks : goal.returns-in-Asks
returns-in-Asks g c = rw c.in-Asks.is c.carry_out.ensures

pub returns-in-Help : goal.returns-in-Help
returns-in-Help g c = rw c.in-Help.is (record { shown = rw c.as_bytes.ensures.value at c.say.ensures; untouched = refl })

pub returns-in-Faulty : goal.returns-in-Faulty
returns-in-Faulty g c =
    rw c.in-Faulty.is (record { shown = rw c.as_bytes-in-Faulty.ensures.value at c.say-in-Faulty.ensures; untouched = refl })
