-- What the code keeps of a line, as a list.
use Rattle.std.specs.Prelude.{List, [], ◌∷◌}
use Rattle.rv_isa.specs.Range.{InRange}
use Rattle.rv_asm.specs.declared.image_word.ImageWord.{ImageWord}
use Rattle.rv_asm.specs.declared.image_word.ImageWord.TheVariants.{Instruction}
use Rattle.rv_asm.specs.declared.assembler.Items.{Items}
use Rattle.rv_asm.specs.declared.assembler.Items.TheVariants as lists
use Rattle.rv_asm.specs.Statements.{IsItemInRange}

abbrev pub listed : Items → List ImageWord
listed lists.None = []
listed (lists.One item) = item ∷ []
listed (lists.Two i j) = Instruction i ∷ Instruction j ∷ []

-- a word can hold each
abbrev pub AreItems : Items → Type 0
AreItems lists.None = Unit {0}
AreItems (lists.One item) = IsItemInRange item
AreItems (lists.Two i j) = InRange i × InRange j
