use Rattle.std.proofs.Common.{◌∙◌, List, Option, None, arith, ap, get_or, length-set}
use Rattle.std.proofs.lemmas.List.{get_or-map, get_or_default}
use Rattle.cloak_model.specs.Contexts.{Context}
use Rattle.frozen_state.specs.DomainPage.{slot_mark_bytes}
use Rattle.domain_page.specs.Reading.{all, unmarked}
use Rattle.domain_page.proofs.Read.{none_read, one_read, all_read, map_all}
use Rattle.domain_page.proofs.unread.Unread.marks.Goals as goal

pub loop-i-init : goal.loop-i-init
loop-i-init c = record {
  count = omega arith;
  reads = λ xs rest right e. none_read slot_mark_bytes all xs rest _ _ e;
}

pub loop-i-preserved : goal.loop-i-preserved
loop-i-preserved c = record {
  count = length-set _ _ _ ∙ c.loop-i.invariant.count;
  reads = λ xs rest right e.
      one_read slot_mark_bytes all xs rest c.loop-i.i _ _ _ _ None (omega (arith, right.right.count)) (omega (arith, c.loop-i.invariant.count))
      (c.loop-i.invariant.reads xs rest right e)
      (λ rest' is. c.slot_mark.ensures _ rest' (right.right.each c.loop-i.i None (omega (arith, right.right.count)))
      (get_or_default c.args.slots.now c.loop-i.i c.index-slots-i.result None (omega arith)
      ∙ ap (λ (l : List (Option Context)). get_or l c.loop-i.i None) right.are ∙ get_or-map unmarked xs c.loop-i.i None None (omega (arith, right.right.count))) is);
}

pub returns : goal.returns
returns c = λ xs rest right e.
    let r = all_read slot_mark_bytes all xs rest c.loop-i.i _ _ (omega (arith, right.right.count)) (omega (arith, c.loop-i.invariant.count))
    (c.loop-i.invariant.reads xs rest right e) in
    (r.0 ∙ map_all xs, r.1)
