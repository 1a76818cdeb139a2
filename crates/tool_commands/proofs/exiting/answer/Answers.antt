use Rattle.std.proofs.Common.{refl}
use Rattle.tool_commands.proofs.exiting.answer.Goals as goal

pub returns-in-Taken : goal.returns-in-Taken
returns-in-Taken g c = rw c.in-Taken.is c.obey.ensures

pub returns-in-NotText : goal.returns-in-NotText
returns-in-NotText g c = rw c.in-NotText.is (record { shown = c.say.ensures; untouched = refl })

pub returns-in-NoMemory : goal.returns-in-NoMemory
returns-in-NoMemory g c = rw c.in-NoMemory.is (record { line = c.refuse.ensures; untouched = refl })
