use Rattle.std.proofs.Common.{◌∙◌, None, arith, length-set}
use Rattle.cloak_model.specs.DomainState.{resource_bytes}
use Rattle.domain_page.specs.Reading.{all}
use Rattle.domain_page.proofs.Read.{none_read, one_read, all_read, map_all}
use Rattle.domain_page.proofs.unread.Unread.resources.Goals as goal

pub loop-n-init : goal.loop-n-init
loop-n-init c = record {
  count = omega arith;
  reads = λ xs rest right e. none_read resource_bytes all xs rest _ _ e;
}

pub loop-n-preserved : goal.loop-n-preserved
loop-n-preserved c = record {
  count = length-set _ _ _ ∙ c.loop-n.invariant.count;
  reads = λ xs rest right e.
      one_read resource_bytes all xs rest c.loop-n.n _ _ _ _ None (omega (arith, right.count)) (omega (arith, c.loop-n.invariant.count))
      (c.loop-n.invariant.reads xs rest right e)
      (λ rest' is. c.resource.ensures _ rest' (right.each c.loop-n.n None (omega (arith, right.count))) is);
}

pub returns : goal.returns
returns c = λ xs rest right e.
    let r = all_read resource_bytes all xs rest c.loop-n.n _ _ (omega (arith, right.count)) (omega (arith, c.loop-n.invariant.count))
    (c.loop-n.invariant.reads xs rest right e) in
    (r.0 ∙ map_all xs, r.1)
