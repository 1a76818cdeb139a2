use Rattle.manifest.proofs.telling.KeyFaultDisplay.fmt.Goals as goal

pub returns-in-NoElf-clause-writes : goal.returns-in-NoElf-clause-writes
returns-in-NoElf-clause-writes g c = rw (c.in-NoElf.is, ← c.elf_words-words.ensures) c.write-in-NoElf.ensures.writes

pub returns-in-PartOutside-clause-writes : goal.returns-in-PartOutside-clause-writes
returns-in-PartOutside-clause-writes g c = rw c.in-PartOutside.is c.write-in-PartOutside.ensures.writes

pub returns-in-EntryOutside-clause-writes : goal.returns-in-EntryOutside-clause-writes
returns-in-EntryOutside-clause-writes g c = rw c.in-EntryOutside.is c.write-in-EntryOutside.ensures.writes

pub returns-in-UnalignedEntry-clause-writes : goal.returns-in-UnalignedEntry-clause-writes
returns-in-UnalignedEntry-clause-writes g c = rw c.in-UnalignedEntry.is c.write-in-UnalignedEntry.ensures.writes
