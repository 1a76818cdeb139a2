-- The cause of a reason that is no fault of reading.
use Rattle.std.proofs.Common.{List, ℕ}
use Rattle.command_parts.specs.Outside.{FilesOutside, OnlyRead}
use Rattle.asm_text.specs.declared.making.Reason.{Reason}
use Rattle.asm_text.specs.declared.making.Reason.TheVariants.{ReadFault, NoMemory, Faulty}
use Rattle.asm_text.specs.Making.{HasReason, IsWhy}

pub told_why : {S : Type 0} (IsTold : List ℕ → Type 0) (reason : Reason) (before after : FilesOutside S) →
    IsWhy IsTold reason → OnlyRead before after → HasReason IsTold reason before after
told_why IsTold ReadFault before after why only = absurd why
told_why IsTold NoMemory before after why only = (tt, only)
told_why IsTold (Faulty text) before after why only = (why, only)
