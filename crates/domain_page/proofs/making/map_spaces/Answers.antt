use Rattle.std.proofs.Common.{◌≡◌, ◌∙◌, ◌+◌, ◌<◌, ℕ, false, true, List, None, get_or, refl, ap, sym, subst, arith}
use Rattle.std.specs.Prelude.{is_some}
use Rattle.std.proofs.lemmas.Bool.{false≢true}
use Rattle.std.proofs.lemmas.List.{get_or_default}
use Rattle.cloak_model.specs.declared.resource.Region.{Region}
use Rattle.cloak_model.specs.Resources.{Resources, with_regions}
use Rattle.domain_page.specs.Making.{CanMap, CanMapAll}
use Rattle.domain_page.proofs.Made.{MappedTo, mapped_none, mapped_more, mapped_free, mapped_last, empty_now, can_now}
use Rattle.domain_page.proofs.making.map_spaces.Goals.{Then-not-map_all, in-Some+else-not-map_all, in_default}
use Rattle.domain_page.proofs.making.map_spaces.Goals as goal

never : (c : Then-not-map_all) → CanMapAll c.args.r.now c.args.spaces.now → false ≡ true
never c all =
    let inside : c.loop-space.space < 8 = c.loop-space-test.true in
    let at = get_or_default c.args.spaces.now c.loop-space.space None c.index-spaces-space.result (omega (arith, c.type_inv.spaces)) ∙ c.in-Some.is in
    let before = c.loop-space.invariant.mapped all in
    let can = can_now c.args.r.now c.args.spaces.now c.type_inv.spaces c.loop-space.space c.loop-space.r c.in-Some.list all at before.held_is in
    sym c.if-not-map_all.true
    ∙ c.map_all.ensures.can (empty_now c.args.r.now c.args.spaces.now c.type_inv.spaces c.loop-space.space c.loop-space.r c.in-Some.list at before)
    (subst (λ (xs : List Region). CanMap c.loop-space.r c.loop-space.space xs) (sym c.as_slice.ensures) can)

pub returns-then-not-map_all-clause-can : goal.returns-then-not-map_all-clause-can
returns-then-not-map_all-clause-can c = never c

pub returns-then-not-map_all-clause-maps : goal.returns-then-not-map_all-clause-maps
returns-then-not-map_all-clause-maps c = λ all. absurd (false≢true (never c all))

pub loop-space-init : goal.loop-space-init
loop-space-init c = record {
  same = λ s. refl;
  mapped = λ all. mapped_none c.args.r.now c.args.spaces.now c.type_inv.spaces c.requires;
}

pub loop-space-preserved : goal.loop-space-preserved
loop-space-preserved c =
    let low : c.loop-space.space < 8 = c.loop-space-test.true in
    let n = c.loop-space.space in
    let inv = c.loop-space.invariant in
    let default = get_or_default c.args.spaces.now n None c.index-spaces-space.result (omega (arith, c.type_inv.spaces)) in
    elim c.match-spaces-space.branch [
      | in-Some+else-not-map_all w ↦
          let at = default ∙ w.in-Some.is in
          let same_now = λ (s : ℕ). ap (λ (r : Resources). is_some (get_or r.spaces s None)) w.r-is in
          record {
            same = λ s. same_now s ∙ (w.map_all.ensures.spaces s ∙ inv.same s);
            mapped = λ all.
                let before = inv.mapped all in
                let can = subst (λ (xs : List Region). CanMap c.loop-space.r n xs) (sym w.as_slice.ensures)
                (can_now c.args.r.now c.args.spaces.now c.type_inv.spaces n c.loop-space.r w.in-Some.list all at before.held_is) in
                let empty = empty_now c.args.r.now c.args.spaces.now c.type_inv.spaces n c.loop-space.r w.in-Some.list at before in
                mapped_more c.args.r.now c.args.spaces.now c.type_inv.spaces n c.loop-space.r c.match-spaces-space.r w.in-Some.list low at
                (w.r-is ∙ (w.map_all.ensures.maps empty can ∙ ap (λ (xs : List Region). with_regions n xs c.loop-space.r) w.as_slice.ensures)) before;
          }
      | in_default w ↦
          record {
            same = λ s. ap (λ (r : Resources). is_some (get_or r.spaces s None)) w.r-is ∙ inv.same s;
            mapped = λ all.
                subst (MappedTo c.args.r.now c.args.spaces.now (n + 1)) (sym w.r-is)
                (mapped_free c.args.r.now c.args.spaces.now c.type_inv.spaces n c.loop-space.r low (default ∙ w.in_default.is) (inv.mapped all));
          }
    ]

pub returns : goal.returns
returns c = record {
  can = λ all. refl;
  maps = λ all.
      mapped_last c.args.r.now c.args.spaces.now c.type_inv.spaces c.loop-space.space c.loop-space.r c.loop-space-test.false (c.loop-space.invariant.mapped all);
}
