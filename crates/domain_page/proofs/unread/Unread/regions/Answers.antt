use Rattle.std.proofs.Common.{◌≡◌, ◌∙◌, ◌<◌, ◌≤◌, ℕ, List, ◌++◌, length, ap, arith}
use Rattle.std.specs.Prelude.{min}
use Rattle.std.specs.List.{flat_map}
use Rattle.std.proofs.lemmas.List.{take_all, drop_all, length_push}
use Rattle.cloak_model.specs.declared.resource.Region.{Region}
use Rattle.cloak_model.specs.DomainState.{region_bytes}
use Rattle.domain_page.specs.Reading.{AreRegions}
use Rattle.domain_page.proofs.Read.{push_read}
use Rattle.domain_page.proofs.unread.Unread.regions.Goals as goal

-- all of them are asked for
count_is : (count : ℕ) (xs : List Region) → AreRegions count xs → min count 16 ≡ length xs
count_is count xs right = omega (arith, right.counted, right.few)

pub loop-i-init : goal.loop-i-init
loop-i-init c = record { count = ap length c.new-list.ensures; reads = λ xs rest right e. (c.new-list.ensures, e) }

pub push-requires : goal.push-requires
push-requires c = omega (arith, c.loop-i.invariant.count, c.loop-i-test.true, c.min-i-end.ensures)

pub loop-i-preserved : goal.loop-i-preserved
loop-i-preserved c = record {
  count = ap length c.push.ensures ∙ omega (arith, length_push c.loop-i.list c.region.result, c.loop-i.invariant.count);
  reads = λ xs rest right e.
      let inside : c.loop-i._i < length xs = omega (arith, count_is c.args.count xs right, c.loop-i-test.true, c.min-i-end.ensures) in
      let before = c.loop-i.invariant.reads xs rest right e in
      let r = push_read region_bytes xs rest c.loop-i._i _ c.region.new.self.left.now c.loop-i.list c.region.result c.region.result inside before.0 before.1
      (λ rest' e'. c.region.ensures _ rest' (right.each c.loop-i._i c.region.result inside) e') in
      (c.push.ensures ∙ r.0, r.1);
}

pub returns : goal.returns
returns c = λ xs rest right e.
    let last : length xs ≤ c.loop-i._i = omega (arith, count_is c.args.count xs right, c.loop-i-test.false, c.min-i-end.ensures) in
    let before = c.loop-i.invariant.reads xs rest right e in
    (before.0 ∙ take_all c.loop-i._i xs last, before.1 ∙ ap (λ (l : List Region). flat_map region_bytes l ++ rest) (drop_all c.loop-i._i xs last))
