use Rattle.std.proofs.Common.{◌≡◌, ◌+◌, List, [], ◌∷◌, Some, length, slice_get, refl, sym, ap, subst, arith, length-append}
use Rattle.std.proofs.lemmas.Option.{slice_get_read, slice_get_within}
use Rattle.cloak_model.specs.declared.image.Program.{Program}
use Rattle.alone_views.specs.declared.domain.DomainAlone.{DomainAlone}
use Rattle.replayed_run.proofs.Followed.{AreOpened, opened_more}
use Rattle.replayed_run.proofs.machines.open_programs.Goals as goal

pub loop-number-preserved : goal.loop-number-preserved
loop-number-preserved c =
    let was = c.loop-number.invariant in
    let grown = c.in_ok-push.ensures.items in
    let low = c.loop-number-test.true in
    let program = subst (λ (l : List Program). slice_get l c.loop-number.number ≡ Some c.index-programs-number.result)
    c.as_slice-programs.ensures
    (slice_get_read c.as_slice-programs.result.now _ c.loop-number.number c.index-programs-number.result refl low
    c.index-programs-number.is) in
    record {
      count =
          let long = ap (λ (l : List DomainAlone). length l) grown in
          let sum = length-append c.loop-number.opened.items (c.in_ok-program.program ∷ []) in
          let count = was.count in omega (arith, long, sum, count);
      each = subst (λ (l : List DomainAlone). AreOpened c.args.bundle.now l (c.loop-number.number + 1)) (sym grown)
          (opened_more c.args.bundle.now c.loop-number.opened.items c.loop-number.number c.index-programs-number.result
          c.in_ok-program.program was.count program c.in_ok-program.ensures was.each);
    }

pub returns : goal.returns
returns c =
    let was = c.loop-number.invariant in
    let all = ap (λ (l : List Program). length l) c.as_slice-programs.ensures in
    let past = c.loop-number-test.false in
    let end = c.loop-number.auto.number-end in
    let count = was.count in
    record {
      count = omega (arith, all, past, end, count);
      each = λ d p other at.
          was.each d p other (let low = slice_get_within c.args.bundle.now.programs d p at in omega (arith, low, all, past)) at;
    }
