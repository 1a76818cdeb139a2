use Rattle.std.proofs.Common.{◌≡◌, ◌≤◌, ◌<◌, ◌*◌, All, length, take}
use Rattle.std.specs.Prelude.{sum_by}
use Rattle.cloak_model.specs.StoredFiles.{IsTable, StoredFile, page_count}
use Rattle.joint_machine.specs.Storing.{known_files}
use Rattle.joint_machine.proofs.storing.store_domains.Given as goal

-- the files of the domains so far are told
abbrev pub invariant-loop-number : goal.invariant-loop-number
invariant-loop-number l = record {
  table : IsTable l.files;
  told : l.files ≡ known_files l.pager.table 0 (take l.number l.domains);
  follows : All (λ (g : StoredFile). g.domain < l.number) l.files;
  room : length l.files ≤ 16 * l.number;
  page_room : sum_by page_count l.files ≤ 1024 * l.number;
}
