use Rattle.std.proofs.Common.{◌≡◌, ◌∙◌, ℕ, ◌+◌, ◌-◌, ◌++◌, ◌∷◌, [], List, Some, append_assoc, length, sum_by, sym, ap, arith}
use Rattle.std.proofs.lemmas.List.{append-nil, length_push}
use Rattle.std.proofs.lemmas.Result.{err_from_is_err_and}
use Rattle.cloak_model.specs.Fields.{first_in, number}
use Rattle.cloak_model.specs.StoredFiles.{StoredFile, page_count}
use Rattle.cloak_model.specs.StoreFault.{FilesBefore, files_fields, files_end, none_before}
use Rattle.field_facts.proofs.Firsts.{fault_found, no_fault}
use Rattle.sealed_store.specs.Reading.{file_in, after_file, file_fields, files_in}
use Rattle.sealed_store.proofs.Rows.{pages_more}
use Rattle.sealed_store.proofs.Firsts.{before_next, next_file, next_end, next_in, no_files, no_end, none_in}
use Rattle.sealed_store.proofs.files.read_files.Goals as goal

pub returns-in_err-read_file-clause-fault : goal.returns-in_err-read_file-clause-fault
returns-in_err-read_file-clause-fault c =
    let p = err_from_is_err_and c.from_residual.result c.from_residual.ensures.1 in
    let body = c.args.c.now.body.now in
    let at = c.loop.c.at in
    let kept = c.loop.invariant in
    let before : FilesBefore = record { last = c.loop.last; pages = sum_by page_count c.loop.t } in
    let left = c.args.n - (c.loop.counter + 1) in
    rw (p.1, p.2) (fault_found (first_in body (file_fields body before at))
    (first_in body (files_fields body left (before_next body before at) (after_file body at)))
    (first_in body (files_fields body c.args.n none_before c.args.c.now.at)) c.in_err-read_file.field-0.0
    (c.in_err-read_file.ensures.fault ∙ ap (λ (b : List ℕ). first_in b (file_fields b before at)) kept.same)
    (sym (next_file body c.args.n c.loop.counter at before c.loop-test.true) ∙ kept.fields))

pub loop-preserved : goal.loop-preserved
loop-preserved c =
    let body = c.args.c.now.body.now in
    let from = c.args.c.now.at in
    let at = c.loop.c.at in
    let i = c.loop.counter in
    let n = c.args.n in
    let left = n - (i + 1) in
    let kept = c.loop.invariant in
    let read = c.in_ok-read_file.ensures in
    let now = c.read_file.new.t in
    let next = c.read_file.new.c.at in
    let before : FilesBefore = record { last = c.loop.last; pages = sum_by page_count c.loop.t } in
    let file = file_in body at in
    let grown : now ≡ c.loop.t ++ file ∷ [] =
    read.table ∙ ap (λ (b : List ℕ). c.loop.t ++ file_in b at ∷ []) kept.same in
    let after : next ≡ after_file body at = read.moves.at ∙ ap (λ (b : List ℕ). after_file b at) kept.same in
    let name : c.in_ok-read_file.field-0 ≡ (number body at, number body (at + 4)) =
    read.name ∙ ap (λ (b : List ℕ). (number b at, number b (at + 4))) kept.same in
    let pages : sum_by page_count now ≡ sum_by page_count c.loop.t + number body (at + 8) =
    ap (sum_by page_count) grown ∙ pages_more body c.loop.t at in
    let made : ℕ × ℕ → ℕ → FilesBefore = λ x k. record { last = Some x; pages = k } in
    let later : made c.in_ok-read_file.field-0 (sum_by page_count now) ≡ before_next body before at =
    ap (λ (x : ℕ × ℕ). made x (sum_by page_count now)) name
    ∙ ap (made (number body at, number body (at + 4))) pages in
    record {
      count = omega (arith, ap length grown, length_push c.loop.t file, kept.count);
      same = read.moves.same ∙ kept.same;
      table = ap (λ (t : List StoredFile). t ++ files_in body left next) grown
          ∙ ap (λ (k : ℕ). (c.loop.t ++ file ∷ []) ++ files_in body left k) after
          ∙ append_assoc c.loop.t (file ∷ []) (files_in body left (after_file body at))
          ∙ ap (λ (t : List StoredFile). c.loop.t ++ t) (sym (next_in body n i at c.loop-test.true)) ∙ kept.table;
      fields = ap (λ (b : FilesBefore). first_in body (files_fields body left b next)) later
          ∙ ap (λ (k : ℕ). first_in body (files_fields body left (before_next body before at) k)) after
          ∙ no_fault (first_in body (file_fields body before at))
          (first_in body (files_fields body left (before_next body before at) (after_file body at)))
          (first_in body (files_fields body n none_before from))
          (read.fault ∙ ap (λ (b : List ℕ). first_in b (file_fields b before at)) kept.same)
          (sym (next_file body n i at before c.loop-test.true) ∙ kept.fields);
      end = ap (files_end body left) after ∙ sym (next_end body n i at c.loop-test.true) ∙ kept.end;
      within = omega (arith, read.moves.at, read.moves.inside, ap length kept.same);
    }

pub returns-clause-fault : goal.returns-clause-fault
returns-clause-fault c =
    let body = c.args.c.now.body.now in
    let before : FilesBefore = record { last = c.loop.last; pages = sum_by page_count c.loop.t } in
    let none : c.args.n - c.loop.counter ≡ 0 = omega (arith, c.loop-test.false) in
    sym (no_files body before c.loop.c.at)
    ∙ ap (λ (k : ℕ). first_in body (files_fields body k before c.loop.c.at)) (sym none) ∙ c.loop.invariant.fields

pub returns-clause-table : goal.returns-clause-table
returns-clause-table c =
    let body = c.args.c.now.body.now in
    let none : c.args.n - c.loop.counter ≡ 0 = omega (arith, c.loop-test.false) in
    sym (append-nil c.loop.t) ∙ ap (λ (t : List StoredFile). c.loop.t ++ t) (sym (none_in body c.loop.c.at))
    ∙ ap (λ (k : ℕ). c.loop.t ++ files_in body k c.loop.c.at) (sym none) ∙ c.loop.invariant.table

pub returns-clause-moves : goal.returns-clause-moves
returns-clause-moves c =
    let body = c.args.c.now.body.now in
    let none : c.args.n - c.loop.counter ≡ 0 = omega (arith, c.loop-test.false) in
    let end : c.loop.c.at ≡ files_end body c.args.n c.args.c.now.at =
    sym (no_end body c.loop.c.at) ∙ ap (λ (k : ℕ). files_end body k c.loop.c.at) (sym none) ∙ c.loop.invariant.end in
    record { same = c.loop.invariant.same; at = end; inside = omega (arith, end, c.loop.invariant.within) }
