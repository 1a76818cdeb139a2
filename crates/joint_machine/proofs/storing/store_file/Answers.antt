use Rattle.std.proofs.Common.{◌≡◌, ◌∙◌, ◌<◌, ◌++◌, ◌∷◌, ◌^◌, [], List, Option, length, slice_set, ap, sym, subst, arith}
use Rattle.cloak_base.specs.declared.names.Meta.{Meta}
use Rattle.cloak_model.specs.StoredFiles.{StoredFile, IsMetaIfKnown, IsTable}
use Rattle.protect_meta.specs.FileTable.{file_at, with_meta}
use Rattle.joint_machine.specs.Storing.{known_file}
use Rattle.joint_machine.proofs.Known.{count_known, count_told, known_is_file, last_is, last_set, metas_push, table_push, told_all, told_file, told_next}
use Rattle.joint_machine.proofs.storing.store_file.Goals as goal

pub set_page-requires-clause-page : goal.set_page-requires-clause-page
set_page-requires-clause-page c =
    let t = c.args.pager.now.table in
    let page = c.loop-page.page in
    let told = told_file t c.args.domain c.args.f.now page in
    let is : length (file_at c.loop-page.files c.count-file.result).pages ≡ c.args.f.now.pages =
    ap (λ (l : List StoredFile). length (file_at l c.count-file.result).pages) c.loop-page.invariant.told
    ∙ (ap (λ (f : StoredFile). length f.pages) (last_is c.args.files.now told c.count-file.result c.count-file.ensures.count)
    ∙ count_told t c.args.domain c.args.f.now page (omega (arith, c.loop-page-test.true))) in
    omega (arith, is, c.loop-page-test.true)

pub loop-page-preserved : goal.loop-page-preserved
loop-page-preserved c =
    let t = c.args.pager.now.table in
    let d = c.args.domain in
    let f = c.args.f.now in
    let page = c.loop-page.page in
    let told = told_file t d f page in record {
      told = c.set_page.ensures
          ∙ (ap (with_meta c.count-file.result page c.meta-known.result) c.loop-page.invariant.told
          ∙ (last_set c.args.files.now told c.count-file.result page c.meta-known.result c.count-file.ensures.count
          ∙ ap (λ (l : List (Option Meta)). c.args.files.now ++ record told { pages = l } ∷ [])
          (ap (slice_set told.pages page) c.meta-known.ensures.value ∙ told_next t d f page c.loop-page-test.true)));
      metas = metas_push t d f.resource page c.loop-page.invariant.metas
          (subst IsMetaIfKnown c.meta-known.ensures.value c.is_meta.ensures);
    }

pub returns-clause-table : goal.returns-clause-table
returns-clause-table c =
    let t = c.args.pager.now.table in
    let d = c.args.domain in
    let f = c.args.f.now in
    let all : c.loop-page.page ≡ f.pages = omega (arith, c.loop-page-test.false, c.loop-page.auto.page-end) in
    let count = count_known t d f.resource f.pages in
    let number : f.number < 2 ^ 32 = omega arith in
    subst IsTable
    (sym (c.loop-page.invariant.told ∙ ap (λ (g : StoredFile). c.args.files.now ++ g ∷ []) (told_all t d f c.loop-page.page all)))
    (table_push c.args.files.now (known_file t d f) c.requires.table
    (known_is_file t d f c.loop-page.page all c.requires.domain number c.requires.some_pages c.requires.few_pages
    c.loop-page.invariant.metas) c.requires.follows c.requires.room (omega (arith, count, c.requires.page_room)))
