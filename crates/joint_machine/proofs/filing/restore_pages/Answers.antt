use Rattle.std.proofs.Common.{◌≡◌, ◌<◌, ℕ, length, refl, ap, subst, arith}
use Rattle.protect_meta.specs.FileTable.{file_at}
use Rattle.joint_machine.specs.Filing.{StandsContinued}
use Rattle.joint_machine.proofs.Continued.{count_known, fresh_past, others_next, others_none, restores_none, restores_next, restores_all}
use Rattle.joint_machine.proofs.filing.restore_pages.Goals as goal

pub loop-page-init : goal.loop-page-init
loop-page-init c = record {
  others = others_none c.args.domain c.args.resource c.args.pager.now;
  fresh = λ q domain here past. c.requires.fresh q domain here;
  restores = λ wiped m contents stands sealed tells. restores_none _ wiped c.args.domain c.args.resource contents m stands;
}

pub restore_page-requires-clause-fresh : goal.restore_page-requires-clause-fresh
restore_page-requires-clause-fresh c = c.loop-page.invariant.fresh _ refl refl (omega arith)

pub loop-page-preserved : goal.loop-page-preserved
loop-page-preserved c =
    let file = file_at c.args.files.now c.args.file in
    let at = c.loop-page in
    let q = c.restore_page.new.q in
    record {
      others = others_next c.args.domain c.args.resource _ _ c.args.pager.now at.pager c.restore_page.new.pager refl refl
          at.invariant.others c.restore_page.ensures.state;
      fresh = fresh_past c.args.domain c.args.resource at.page _ _ at.pager c.restore_page.new.pager refl
          at.invariant.fresh c.restore_page.ensures.state;
      restores = λ wiped m contents stands sealed tells.
          let pages : c.file-pages.result.2 ≡ length file.pages = ap (λ (x : ℕ × ℕ × ℕ). x.2) c.file-pages.ensures in
          let low : at.page < length contents =
          omega (arith, count_known contents file.pages tells, c.loop-page-test.true, pages) in
          restores_next at.pager c.restore_page.new.pager wiped c.args.domain c.args.resource at.page contents file.pages m
          sealed tells low (at.invariant.restores wiped m contents stands sealed tells)
          (subst (StandsContinued at.pager c.restore_page.new.pager _) c.page.ensures c.restore_page.ensures.continues);
    }

pub returns-clause-go_on : goal.returns-clause-go_on
returns-clause-go_on c wiped m contents stands sealed tells =
    let file = file_at c.args.files.now c.args.file in
    restores_all c.loop-page.pager wiped c.args.domain c.args.resource c.loop-page.page contents m
    (let pages : c.file-pages.result.2 ≡ length file.pages = ap (λ (x : ℕ × ℕ × ℕ). x.2) c.file-pages.ensures in
    omega (arith, count_known contents file.pages tells, c.loop-page-test.false, pages))
    (c.loop-page.invariant.restores wiped m contents stands sealed tells)
