use Rattle.std.proofs.Common.{◌≤◌, ◌+◌, ◌*◌, ◌++◌, take, sum_by}
use Rattle.std.specs.Prelude.{codes}
use Rattle.std.specs.List.{flat_map}
use Rattle.cloak_model.specs.Bits.{word}
use Rattle.cloak_model.specs.StoredFiles.{long, file_bytes, page_count}
use Rattle.sealed_store.specs.Writing.{IsWrittenAt}
use Rattle.sealed_store.proofs.writing.put_table.Given as goal

abbrev pub invariant-loop-file : goal.invariant-loop-file
invariant-loop-file l = record {
  written : IsWrittenAt l.fn.into 0
      (((codes "CLOAKSTO" ++ long l.counter) ++ word l.count) ++ flat_map file_bytes (take l.file l.t)) l.into l.end;
  few : l.end ≤ 20 + 12 * l.file + 49 * sum_by page_count (take l.file l.t);
}
