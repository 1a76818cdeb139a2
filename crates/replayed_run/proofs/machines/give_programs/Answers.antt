use Rattle.std.proofs.Common.{◌∙◌, refl, arith, length-set}
use Rattle.cloak_model.specs.Items.{item_of}
use Rattle.replayed_run.proofs.Followed.{all_given, given_more, left_more, refused_at}
use Rattle.replayed_run.proofs.machines.give_programs.Goals as goal

pub loop-number-init : goal.loop-number-init
loop-number-init c = record {
  count = refl;
  given = λ b items stand d p other below at. absurd (omega (arith, below));
  left = λ d other past. refl;
}

pub loop-number-preserved : goal.loop-number-preserved
loop-number-preserved c =
    let was = c.loop-number.invariant in
    let low = c.loop-number-test.true in
    let count = was.count in
    record {
      count = length-set c.loop-number.programs c.loop-number.number c.take.new.self ∙ was.count;
      given = λ b items stand.
          given_more b items (item_of c.args.item.now) c.args.programs.now c.loop-number.programs c.loop-number.number
          c.index-programs-number.result c.take.new.self c.take.result stand (omega (arith, low, count)) was.left
          (was.given b items stand) c.take.ensures.takes c.in_default.is;
      left = left_more c.args.programs.now c.loop-number.programs c.loop-number.number c.take.new.self was.left;
    }

pub returns-in-Err : goal.returns-in-Err
returns-in-Err c = λ b items stand.
    let was = c.loop-number.invariant in
    let low = c.loop-number-test.true in
    let count = was.count in
    refused_at b items (item_of c.args.item.now) c.args.programs.now c.loop-number.programs c.loop-number.number
    c.index-programs-number.result c.take.new.self c.take.result c.in-Err.unfit stand (omega (arith, low, count)) count
    was.left c.take.ensures.takes c.in-Err.is

pub returns : goal.returns
returns c = λ b items stand.
    let was = c.loop-number.invariant in
    let past = c.loop-number-test.false in
    let count = was.count in
    all_given b items (item_of c.args.item.now) c.args.programs.now c.loop-number.programs c.loop-number.number stand count
    (omega (arith, past, count)) (was.given b items stand)
