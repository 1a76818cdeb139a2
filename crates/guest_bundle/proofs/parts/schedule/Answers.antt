use Rattle.std.proofs.Common.{sym, arith}
use Rattle.std.proofs.lemmas.Result.{err_from_is_err_and}
use Rattle.guest_bundle.specs.Reading.{turn_at, parts_at}
use Rattle.guest_bundle.proofs.Loop.{goes_on, ends, is_done}
use Rattle.guest_bundle.proofs.parts.schedule.Goals as goal

pub returns-in_err-hart-clause-fields : goal.returns-in_err-hart-clause-fields
returns-in_err-hart-clause-fields c =
    let p = err_from_is_err_and c.from_residual.result c.from_residual.ensures.1 in
    rw (p.1, p.2) (ends c.in_err-hart.field-0.0 (turn_at c.args.harts c.args.file.now) (λ _. 1) c.loop.turns.items
    c.args.n c.loop.counter c.loop.at
    (parts_at (turn_at c.args.harts c.args.file.now) (λ _. 1) c.args.n c.args.from) c.loop-test.true
    (sym c.in_err-hart.ensures.field) c.loop.invariant.so_far)

pub loop-preserved : goal.loop-preserved
loop-preserved c = record {
  so_far = rw c.in_ok-push.ensures.items
      (goes_on (turn_at c.args.harts c.args.file.now) (λ _. 1) c.loop.turns.items c.args.n c.loop.counter c.loop.at
      c.in_ok-hart.hart (parts_at (turn_at c.args.harts c.args.file.now) (λ _. 1) c.args.n c.args.from) c.loop-test.true
      (sym c.in_ok-hart.ensures.field) c.loop.invariant.so_far);
  within = omega (arith, c.in_ok-hart.ensures.whole);
}

pub returns-clause-fields : goal.returns-clause-fields
returns-clause-fields c = is_done (turn_at c.args.harts c.args.file.now) (λ _. 1) c.loop.turns.items c.args.n
    c.loop.counter c.loop.at (parts_at (turn_at c.args.harts c.args.file.now) (λ _. 1) c.args.n c.args.from)
    c.loop-test.false c.loop.invariant.so_far
