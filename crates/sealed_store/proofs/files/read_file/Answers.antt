use Rattle.std.proofs.Common.{◌≡◌, ◌∙◌, ℕ, suc, ◌+◌, ◌-◌, ◌++◌, ◌∷◌, [], List, Option, Some, None, length, sym, ap, arith, sum_by}
use Rattle.std.specs.Prelude.{slice_set}
use Rattle.std.proofs.lemmas.Result.{err_from_is_err_and}
use Rattle.cloak_base.specs.declared.names.Meta.{Meta}
use Rattle.cloak_model.specs.Fields.{fault_in, first_in, number, parts, after_parts}
use Rattle.cloak_model.specs.StoredFiles.{StoredFile, page_count}
use Rattle.cloak_model.specs.StoreFault.{FilesBefore, ruled_at, pages_fit, page_fields, after_page}
use Rattle.field_facts.proofs.Firsts.{fault_found, next_part, no_fault, no_parts}
use Rattle.sealed_store.specs.Reading.{page_in, pages_in}
use Rattle.sealed_store.proofs.Rows.{row, row_more, row_end, row_length, after_more, last_is, last_set}
use Rattle.sealed_store.proofs.Firsts.{file_fault}
use Rattle.sealed_store.proofs.files.read_file.Goals as goal

-- what stands at one place of one body
same_place : {A : Type 0} (f : List ℕ → ℕ → A) (b d : List ℕ) (i j : ℕ) → b ≡ d → i ≡ j → f b i ≡ f d j
same_place f b d i j body at = ap (λ (x : List ℕ). f x i) body ∙ ap (f d) at

pub loop-i-init : goal.loop-i-init
unfolding after_parts
loop-i-init c =
    let body = c.args.c.now.body.now in
    let n = c.in_ok-pages.pages in
    let from = c.args.c.now.at + 12 in
    let named = c.in_ok-name.ensures.moves in
    let counted = c.in_ok-pages.ensures.moves in
    let all : n - 0 ≡ n = omega arith in
    let next : c.add.new.c.at ≡ from = omega (arith, counted.at, named.at) in
    record {
      table = c.in_ok-pages.ensures.added;
      same = counted.same ∙ named.same;
      next = next;
      fields = ap (λ (k : ℕ). first_in body (parts (page_fields body) (after_page body) k c.add.new.c.at)) all
          ∙ ap (λ (k : ℕ). first_in body (parts (page_fields body) (after_page body) n k)) next;
      within = omega (arith, counted.at, counted.inside, ap length named.same);
    }

pub returns-in_err-known-clause-fault : goal.returns-in_err-known-clause-fault
returns-in_err-known-clause-fault c =
    let p = err_from_is_err_and c.from_residual-in_err-known.result c.from_residual-in_err-known.ensures.1 in
    let body = c.args.c.now.body.now in
    let at = c.args.c.now.at in
    let n = c.in_ok-pages.pages in
    let next = c.loop-i.c.at in
    let before : FilesBefore = record { last = c.args.last; pages = sum_by page_count c.args.t.now } in
    let named = c.in_ok-name.ensures.moves in
    let count_field = λ (b : List ℕ) (k : ℕ). fault_in b (ruled_at k 4 (pages_fit before.pages (number b k))) in
    rw (p.1, p.2) (file_fault body before at n (Some c.in_err-known.field-0.0) c.in_ok-name.ensures.fault
    (c.in_ok-pages.ensures.fault
    ∙ same_place count_field c.name.new.c.body.now body c.name.new.c.at (at + 8) named.same named.at)
    (c.in_ok-pages.ensures.count
    ∙ same_place number c.name.new.c.body.now body c.name.new.c.at (at + 8) named.same named.at)
    (fault_found (first_in body (page_fields body next))
    (first_in body (parts (page_fields body) (after_page body) (n - (c.loop-i.i + 1)) (after_page body next)))
    (first_in body (parts (page_fields body) (after_page body) n (at + 12))) c.in_err-known.field-0.0
    (c.in_err-known.ensures.fault ∙ ap (λ (b : List ℕ). first_in b (page_fields b next)) c.loop-i.invariant.same)
    (sym (next_part (page_fields body) (after_page body) body n c.loop-i.i next c.loop-i-test.true) ∙ c.loop-i.invariant.fields)))

pub set_page-requires-clause-page : goal.set_page-requires-clause-page
set_page-requires-clause-page c =
    let place = last_is c.loop-i.t c.args.t.now _ c.count-file.result c.loop-i.invariant.table
    c.count-file.ensures.count in
    let long = row_length c.args.c.now.body.now c.in_ok-pages.pages c.loop-i.i (c.args.c.now.at + 12) in
    rw place (omega (arith, long))

pub loop-i-preserved : goal.loop-i-preserved
loop-i-preserved c =
    let body = c.args.c.now.body.now in
    let n = c.in_ok-pages.pages in
    let i = c.loop-i.i in
    let from = c.args.c.now.at + 12 in
    let at = c.loop-i.c.at in
    let kept = c.loop-i.invariant in
    let moves = c.in_ok-known.ensures.moves in
    let more : suc i ≡ i + 1 = omega arith in
    let known : c.in_ok-known.known ≡ page_in body (after_parts (after_page body) i from) =
    c.in_ok-known.ensures.page ∙ same_place page_in c.loop-i.c.body.now body at _ kept.same kept.next in
    let pages : slice_set (row body n i from) i c.in_ok-known.known ≡ row body n (i + 1) from =
    ap (slice_set (row body n i from) i) known ∙ row_more body n i from c.loop-i-test.true
    ∙ ap (λ (k : ℕ). row body n k from) more in
    let next : c.page.new.self.at ≡ after_page body at =
    moves.at ∙ ap (λ (b : List ℕ). after_page b at) kept.same in
    let file : List (Option Meta) → StoredFile =
    λ l. record { domain = c.in_ok-name.name.0; number = c.in_ok-name.name.1; pages = l } in
    record {
      table = c.set_page.ensures
          ∙ last_set c.loop-i.t c.args.t.now (file (row body n i from)) c.count-file.result i c.in_ok-known.known
          kept.table c.count-file.ensures.count
          ∙ ap (λ (l : List (Option Meta)). c.args.t.now ++ file l ∷ []) pages;
      same = moves.same ∙ kept.same;
      next = next ∙ ap (after_page body) kept.next ∙ sym (after_more (after_page body) i from)
          ∙ ap (λ (k : ℕ). after_parts (after_page body) k from) more;
      fields = ap (λ (k : ℕ). first_in body (parts (page_fields body) (after_page body) (n - (i + 1)) k)) next
          ∙ no_fault (first_in body (page_fields body at))
          (first_in body (parts (page_fields body) (after_page body) (n - (i + 1)) (after_page body at)))
          (first_in body (parts (page_fields body) (after_page body) n from))
          (c.in_ok-known.ensures.fault ∙ ap (λ (b : List ℕ). first_in b (page_fields b at)) kept.same)
          (sym (next_part (page_fields body) (after_page body) body n i at c.loop-i-test.true) ∙ kept.fields);
      within = omega (arith, moves.at, moves.inside, ap length kept.same);
    }

pub returns-clause-fault : goal.returns-clause-fault
returns-clause-fault c =
    let body = c.args.c.now.body.now in
    let at = c.args.c.now.at in
    let n = c.in_ok-pages.pages in
    let next = c.loop-i.c.at in
    let before : FilesBefore = record { last = c.args.last; pages = sum_by page_count c.args.t.now } in
    let named = c.in_ok-name.ensures.moves in
    let count_field = λ (b : List ℕ) (k : ℕ). fault_in b (ruled_at k 4 (pages_fit before.pages (number b k))) in
    let none : n - c.loop-i.i ≡ 0 = omega (arith, c.loop-i-test.false) in
    file_fault body before at n None c.in_ok-name.ensures.fault
    (c.in_ok-pages.ensures.fault
    ∙ same_place count_field c.name.new.c.body.now body c.name.new.c.at (at + 8) named.same named.at)
    (c.in_ok-pages.ensures.count
    ∙ same_place number c.name.new.c.body.now body c.name.new.c.at (at + 8) named.same named.at)
    (sym (no_parts (page_fields body) (after_page body) body n c.loop-i.i next none) ∙ c.loop-i.invariant.fields)

pub returns-clause-table : goal.returns-clause-table
returns-clause-table c =
    let body = c.args.c.now.body.now in
    let at = c.args.c.now.at in
    let n = c.in_ok-pages.pages in
    let named = c.in_ok-name.ensures.moves in
    let last : c.loop-i.i ≡ n = omega (arith, c.loop-i-test.false) in
    let count : n ≡ number body (at + 8) =
    c.in_ok-pages.ensures.count
    ∙ same_place number c.name.new.c.body.now body c.name.new.c.at (at + 8) named.same named.at in
    let pages : row body n c.loop-i.i (at + 12) ≡ pages_in body (number body (at + 8)) (at + 12) =
    ap (λ (k : ℕ). row body n k (at + 12)) last ∙ row_end body n (at + 12)
    ∙ ap (λ (k : ℕ). pages_in body k (at + 12)) count in
    let file : ℕ × ℕ → List (Option Meta) → StoredFile =
    λ name l. record { domain = name.0; number = name.1; pages = l } in
    c.loop-i.invariant.table
    ∙ ap (λ (l : List (Option Meta)). c.args.t.now ++ file c.in_ok-name.name l ∷ []) pages
    ∙ ap (λ (name : ℕ × ℕ). c.args.t.now ++ file name (pages_in body (number body (at + 8)) (at + 12)) ∷ [])
    c.in_ok-name.ensures.name
