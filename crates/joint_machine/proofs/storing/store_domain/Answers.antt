use Rattle.std.proofs.Common.{◌≡◌, ◌∙◌, ◌≤◌, ◌<◌, ◌+◌, List, All, ap, sym, subst, arith}
use Rattle.std.specs.Prelude.{sum_by}
use Rattle.cloak_model.specs.StoredFiles.{StoredFile, page_count}
use Rattle.joint_machine.specs.Storing.{pages_at}
use Rattle.joint_machine.specs.declared.storing.FilePlace.{FilePlace}
use Rattle.joint_machine.proofs.Known.{below_next, sum_told}
use Rattle.joint_machine.proofs.storing.store_domain.Goals as goal

pub returns-clause-follows : goal.returns-clause-follows
returns-clause-follows c =
    subst (All (λ (g : StoredFile). g.domain < c.args.number + 1)) (sym c.store_places.ensures.added)
    (below_next c.args.pager.now.table c.args.number c.args.files.now c.as_slice.result.now c.requires.follows)

pub returns-clause-page_room : goal.returns-clause-page_room
returns-clause-page_room c =
    let sum : sum_by page_count c.store_places.new.files ≡ sum_by page_count c.args.files.now + sum_by pages_at c.as_slice.result.now =
    ap (sum_by page_count) c.store_places.ensures.added
    ∙ sum_told c.args.pager.now.table c.args.number c.args.files.now c.as_slice.result.now in
    let few : sum_by pages_at c.as_slice.result.now ≤ 1024 =
    subst (λ (l : List FilePlace). sum_by pages_at l ≤ 1024) (sym c.as_slice.ensures.value) c.files_of-places.ensures.few_pages in
    omega (arith, sum, few, c.requires.page_room)
