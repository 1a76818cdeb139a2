use Rattle.std.proofs.Common.{arith, sym}
use Rattle.resource_map.proofs.Mapped.{HasPages, HasPages-found}
use Rattle.resource_map.proofs.resources.Resources.lookup.Goals as goal

-- the region that was found
has_pages : (c : goal.After-struct_known-2-1) → HasPages c.args.self.now c.in_ok-g.g
has_pages c = HasPages-found c.args.self.now c.args.space c.args.va c.in_ok-regions.regions.now c.in_ok-g.g c.regions.ensures.sound c.in_ok-regions.ensures.value (sym c.in_ok-g.ensures.value)

pub overflow_add-result : goal.overflow_add-result
overflow_add-result c =
    let has = has_pages c in
    let inside = c.in_ok-g.ensures.inside in
    omega (arith, has.within, has.few)

pub returns-clause-resource : goal.returns-clause-resource
returns-clause-resource c = (has_pages c).number

pub returns-clause-in_use : goal.returns-clause-in_use
returns-clause-in_use c = (has_pages c).in_use

pub returns-clause-within : goal.returns-clause-within
returns-clause-within c =
    let has = has_pages c in
    let inside = c.in_ok-g.ensures.inside in
    omega (arith, has.within)

pub returns-clause-page : goal.returns-clause-page
returns-clause-page c =
    let has = has_pages c in
    let inside = c.in_ok-g.ensures.inside in
    omega (arith, has.within, has.few)
