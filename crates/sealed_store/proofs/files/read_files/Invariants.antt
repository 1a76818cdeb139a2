use Rattle.std.proofs.Common.{◌≡◌, ℕ, ◌-◌, ◌≤◌, ◌++◌, length, sum_by}
use Rattle.cloak_model.specs.Fields.{first_in}
use Rattle.cloak_model.specs.StoredFiles.{page_count}
use Rattle.cloak_model.specs.StoreFault.{FilesBefore, files_fields, files_end, none_before}
use Rattle.sealed_store.specs.Reading.{files_in}
use Rattle.sealed_store.proofs.files.read_files.Given as goal

abbrev pub invariant-loop : goal.invariant-loop
invariant-loop l =
    let body = l.fn.c.body.now in
    let from = l.fn.c.at in
    let left : ℕ = l.n - l.counter in
    let before : FilesBefore = record { last = l.last; pages = sum_by page_count l.t } in
    record {
      count : length l.t ≡ l.counter;
      same : l.c.body.now ≡ body;
      table : l.t ++ files_in body left l.c.at ≡ files_in body l.n from;
      fields : first_in body (files_fields body left before l.c.at)
          ≡ first_in body (files_fields body l.n none_before from);
      end : files_end body left l.c.at ≡ files_end body l.n from;
      within : l.c.at ≤ length body;
    }
