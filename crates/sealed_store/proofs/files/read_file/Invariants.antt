use Rattle.std.proofs.Common.{◌≡◌, ◌-◌, ◌+◌, ◌≤◌, ◌++◌, ◌∷◌, [], length}
use Rattle.cloak_model.specs.Fields.{first_in, parts, after_parts}
use Rattle.cloak_model.specs.StoreFault.{page_fields, after_page}
use Rattle.sealed_store.proofs.Rows.{row}
use Rattle.sealed_store.proofs.files.read_file.Given as goal

abbrev pub invariant-loop-i : goal.invariant-loop-i
invariant-loop-i l =
    let body = l.fn.c.body.now in
    let from = l.fn.c.at + 12 in
    record {
      table : l.t ≡ l.fn.t ++
          record { domain = l.name.0; number = l.name.1; pages = row body l.pages l.i from } ∷ [];
      same : l.c.body.now ≡ body;
      next : l.c.at ≡ after_parts (after_page body) l.i from;
      fields : first_in body (parts (page_fields body) (after_page body) (l.pages - l.i) l.c.at)
          ≡ first_in body (parts (page_fields body) (after_page body) l.pages from);
      within : l.c.at ≤ length body;
    }
