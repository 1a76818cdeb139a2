-- The bundle is judged before any other file is read.
use Rattle.std.specs.Prelude.{ℕ, ◌≡◌, List, Some}
use Rattle.io_traits.specs.Told.{Tells}
use Rattle.cloak_model.specs.declared.fault.BundleFault.{BundleFault}
use Rattle.cloak_model.specs.BundleFault.{bundle_fault}
use Rattle.command_words.specs.Command as spec
use Rattle.command_parts.specs.declared.status.Status.{Status}
use Rattle.command_parts.specs.declared.status.Status.TheVariants as status
use Rattle.command_parts.specs.NoRun.{AsksFile}
use Rattle.command_parts.specs.Outside.{Outside}

-- The words name a bundle, and its file is told and is none. Then the status for a fault of reading comes only if reading
-- failed last of that very file, as far as the shelf tells of which one it failed.
abbrev pub JudgesBundleFirst : {S O : Type 0} → spec.Asked → Status → Outside S O → Outside S O → Type 0
JudgesBundleFirst asked answer before after =
    (name bytes : List ℕ) (fault : BundleFault) → AsksFile asked name → before.files.held name ≡ Some bytes →
    bundle_fault bytes ≡ Some fault → answer ≡ status.ReadFault → Tells after.files.unread name
