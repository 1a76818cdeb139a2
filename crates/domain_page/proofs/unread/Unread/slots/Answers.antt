use Rattle.std.proofs.Common.{◌∙◌, None, arith, length-set}
use Rattle.cloak_model.specs.DomainState.{slot_bytes}
use Rattle.domain_page.specs.Reading.{unmarked}
use Rattle.domain_page.proofs.Read.{none_read, one_read, all_read}
use Rattle.domain_page.proofs.unread.Unread.slots.Goals as goal

pub loop-i-init : goal.loop-i-init
loop-i-init c = record {
  count = omega arith;
  reads = λ xs rest right e. none_read slot_bytes unmarked xs rest _ _ e;
}

pub loop-i-preserved : goal.loop-i-preserved
loop-i-preserved c = record {
  count = length-set _ _ _ ∙ c.loop-i.invariant.count;
  reads = λ xs rest right e.
      one_read slot_bytes unmarked xs rest c.loop-i.i _ _ _ _ None (omega (arith, right.count)) (omega (arith, c.loop-i.invariant.count))
      (c.loop-i.invariant.reads xs rest right e)
      (λ rest' is. c.slot.ensures _ rest' (right.each c.loop-i.i None (omega (arith, right.count))) is);
}

pub returns : goal.returns
returns c = λ xs rest right e.
    let r = all_read slot_bytes unmarked xs rest c.loop-i.i _ _ (omega (arith, right.count)) (omega (arith, c.loop-i.invariant.count))
    (c.loop-i.invariant.reads xs rest right e) in
    r
