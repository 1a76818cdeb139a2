use Rattle.std.proofs.Common.{◌≡◌, ◌++◌, ◌∷◌, [], All}
use Rattle.cloak_model.specs.StoredFiles.{IsMetaIfKnown}
use Rattle.joint_machine.specs.Storing.{known_pages}
use Rattle.joint_machine.proofs.Known.{told_file}
use Rattle.joint_machine.proofs.storing.store_file.Given as goal

-- the pages so far are told
abbrev pub invariant-loop-page : goal.invariant-loop-page
invariant-loop-page l = record {
  told : l.files ≡ l.fn.files ++ told_file l.pager.table l.domain l.f l.page ∷ [];
  metas : All IsMetaIfKnown (known_pages l.pager.table l.domain l.f.resource l.page);
}
