use Rattle.std.proofs.Common.{◌≡◌, ◌+◌, ◌<◌, length, Ok, Err, ap, false-eqb, arith}
use Rattle.std.proofs.lemmas.Result.{err_from_is_err_and}
use Rattle.rv_asm.specs.Assembly.{lines_of, line_items, items_from, table}
use Rattle.rv_asm.specs.Listing.{listed}
use Rattle.rv_asm.proofs.Lines.{first, shorter, goes_on, ends}
use Rattle.rv_asm.proofs.assembler.all_items.Goals as goal

pub returns-in_err-items-clause-value : goal.returns-in_err-items-clause-value
returns-in_err-items-clause-value c =
    let p = err_from_is_err_and c.from_residual.result c.from_residual.ensures.1 in
    let rest = c.loop-rest.rest.now in
    let front = c.loop-rest.out.items in
    let find = table c.args.marks.now in
    let some : 0 < length rest = omega (arith, false-eqb _ 0 c.loop-rest-test.ensures) in
    let here_is : c.len.result ≡ length front = omega (arith, c.len.ensures, c.loop-rest.out.ok.0) in
    let text_is = c.before-in-loop-rest.ensures in
    let fault : line_items find (c.loop-rest.line + 1) (length front) (first rest) ≡ Err c.in_err-items.field-0.0 = rw (← here_is, ← text_is) c.in_err-items.ensures.value in
    rw (p.1, p.2) (ends c.in_err-items.field-0.0 find front c.loop-rest.line rest (items_from find 0 0 (lines_of c.args.text.now)) some fault c.loop-rest.invariant.so_far)

pub loop-rest-preserved : goal.loop-rest-preserved
loop-rest-preserved c =
    let rest = c.loop-rest.rest.now in
    let front = c.loop-rest.out.items in
    let find = table c.args.marks.now in
    let some : 0 < length rest = omega (arith, false-eqb _ 0 c.loop-rest-test.ensures) in
    let here_is : c.len.result ≡ length front = omega (arith, c.len.ensures, c.loop-rest.out.ok.0) in
    let text_is = c.before-in-loop-rest.ensures in
    let rest_is = c.behind-rest.ensures in
    let items = listed c.in_ok-items.items in
    let read : line_items find (c.loop-rest.line + 1) (length front) (first rest) ≡ Ok items = rw (← here_is, ← text_is) c.in_ok-items.ensures.value in
    record {
      so_far = rw (rest_is, c.in_ok-append.ensures.items) (goes_on find front c.loop-rest.line rest items (items_from find 0 0 (lines_of c.args.text.now)) some read c.loop-rest.invariant.so_far);
      ready = c.in_ok-append.ensures.ready c.loop-rest.invariant.ready;
      lines = omega (arith, shorter rest some, ap length rest_is);
    }
