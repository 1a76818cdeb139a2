use Rattle.std.proofs.Common.{refl}
use Rattle.tool_commands.specs.declared.choosing.WordsMeant.TheVariants.{FileFrom, PartOf, NoAddress, Several}
use Rattle.tool_commands.proofs.WordFacts.{disasm_meant}
use Rattle.tool_commands.proofs.answering.disasm.Goals as goal

pub returns-in-FileFrom : goal.returns-in-FileFrom
returns-in-FileFrom g c = disasm_meant (FileFrom c.in-FileFrom.base) _ _ _ _ _ c.in-FileFrom.ensures c.disasm_command.ensures

pub returns-in-PartOf : goal.returns-in-PartOf
returns-in-PartOf g c = disasm_meant (PartOf c.in-PartOf.part) _ _ _ _ _ c.in-PartOf.ensures c.disasm_part_command.ensures

pub returns-in-NoAddress : goal.returns-in-NoAddress
returns-in-NoAddress g c =
    disasm_meant NoAddress _ _ _ _ _ c.in-NoAddress.ensures (record { shown = c.say.ensures; untouched = refl })

pub returns-in-Several : goal.returns-in-Several
returns-in-Several g c =
    disasm_meant Several _ _ _ _ _ c.in-Several.ensures (record { shown = c.say-in-Several.ensures; untouched = refl })
