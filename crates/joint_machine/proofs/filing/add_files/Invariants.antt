use Rattle.std.proofs.Common.{◌≡◌, ◌≤◌, ◌<◌, ℕ, List, All, None, length}
use Rattle.cloak_model.specs.Parts.{Joint}
use Rattle.cloak_model.specs.StoredFiles.{FileContents, HasSealedPages, table_of}
use Rattle.protect_meta.specs.FileTable.{file_at}
use Rattle.cloak_pager.specs.State.{held_in}
use Rattle.cloaked_side.specs.Holding.{SameSize}
use Rattle.joint_machine.specs.Filing.{AreFreeUnshown, IsNewFile}
use Rattle.joint_machine.specs.Programs.{AreNumbered}
use Rattle.joint_machine.specs.Standing.{AreDomains}
use Rattle.joint_machine.proofs.Filed.{AddsFrom}
use Rattle.joint_machine.proofs.filing.add_files.Given as goal

-- the files so far were added, and the others are new
abbrev pub invariant-loop-file : goal.invariant-loop-file
invariant-loop-file l = record {
  size : SameSize l.fn.memory l.memory;
  outside : (k : ℕ) → held_in l.memory.pager k ≡ None;
  numbered : AreNumbered l.fn.domains → AreNumbered l.domains;
  unshown : AreFreeUnshown l.domains l.memory.pager;
  new : (k : ℕ) → l.file ≤ k → k < length l.files → IsNewFile l.domains (file_at l.files k);
  shadows : l.memory.shadows ≡ l.fn.memory.shadows;
  adds : (contents : List FileContents) (j : Joint) → l.files ≡ table_of contents →
      All (HasSealedPages j.memory.ledger.keys) contents → AreDomains l.fn.domains j.domains →
      AddsFrom l.fn.memory l.memory l.domains l.file contents j;
}
