use Rattle.std.proofs.Common.{◌≡◌, ◌∙◌, false, true, [], ap, sym}
use Rattle.std.specs.Prelude.{is_err}
use Rattle.std.proofs.lemmas.Bool.{false≢true}
use Rattle.cloak_model.specs.Resources.{Mapped, regions_in}
use Rattle.domain_page.specs.Making.{CanMap}
use Rattle.domain_page.proofs.Made.{map_step}
use Rattle.domain_page.proofs.making.map_all.Goals.{Then-is_err}
use Rattle.domain_page.proofs.making.map_all.Goals as goal

-- each of them is mapped
never : (c : Then-is_err) → regions_in c.args.r.now c.args.space ≡ [] → CanMap c.args.r.now c.args.space c.args.regions.now → false ≡ true
never c empty can =
    let e = map_step c.args.r.now c.loop-g.r c.args.space c.args.regions.now c.loop-g.g-index _ _ can c.loop-g-test.true c.requires
    (c.loop-g.invariant.mapped empty can) c.map.ensures.value in
    sym (ap is_err (ap (λ (m : Mapped (Unit {0})). m.answer) e)) ∙ (sym c.is_err.ensures.value ∙ c.if-is_err.true)

pub returns-then-is_err-clause-can : goal.returns-then-is_err-clause-can
returns-then-is_err-clause-can c = never c

pub returns-then-is_err-clause-maps : goal.returns-then-is_err-clause-maps
returns-then-is_err-clause-maps c = λ empty can. absurd (false≢true (never c empty can))

pub loop-g-preserved : goal.loop-g-preserved
loop-g-preserved c = record {
  used = c.map.ensures.spaces c.args.space ∙ c.loop-g.invariant.used;
  same = λ s. c.map.ensures.spaces s ∙ c.loop-g.invariant.same s;
  mapped = λ empty can.
      ap (λ (m : Mapped (Unit {0})). m.resources)
      (map_step c.args.r.now c.loop-g.r c.args.space c.args.regions.now c.loop-g.g-index _ _ can c.loop-g-test.true c.requires
      (c.loop-g.invariant.mapped empty can) c.map.ensures.value);
}
