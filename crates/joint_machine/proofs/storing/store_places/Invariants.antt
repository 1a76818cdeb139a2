use Rattle.std.proofs.Common.{◌≡◌, ◌++◌, map, take}
use Rattle.cloak_model.specs.StoredFiles.{IsTable}
use Rattle.joint_machine.specs.Storing.{known_file}
use Rattle.joint_machine.proofs.storing.store_places.Given as goal

-- the files so far are told
abbrev pub invariant-loop-f : goal.invariant-loop-f
invariant-loop-f l = record {
  table : IsTable l.files;
  told : l.files ≡ l.fn.files ++ map (known_file l.pager.table l.number) (take l.f-index l.places);
}
