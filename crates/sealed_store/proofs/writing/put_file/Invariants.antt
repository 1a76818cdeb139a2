use Rattle.std.proofs.Common.{◌≤◌, ◌+◌, ◌*◌, ◌++◌, take}
use Rattle.std.specs.List.{flat_map}
use Rattle.cloak_model.specs.Bits.{word}
use Rattle.cloak_model.specs.StoredFiles.{page_bytes}
use Rattle.protect_meta.specs.FileTable.{file_at}
use Rattle.sealed_store.specs.Writing.{IsWrittenAt}
use Rattle.sealed_store.proofs.writing.put_file.Given as goal

abbrev pub invariant-loop-page : goal.invariant-loop-page
invariant-loop-page l = record {
  written : IsWrittenAt l.fn.into l.at
      (((word l.domain ++ word l.number) ++ word l.pages) ++ flat_map page_bytes (take l.page (file_at l.t l.file).pages))
      l.into l.end;
  few : l.end ≤ l.at + 12 + 49 * l.page;
}
