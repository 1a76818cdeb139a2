use Rattle.std.proofs.Common.{◌∙◌, sym, subst, ℕ}
use Rattle.cloak_pager.specs.State.{IsNoneOwed, IsNoneHeld}
use Rattle.cloaked_side.proofs.Sided.{within_of, stays_on}
use Rattle.cloaked_side.proofs.Serving.{served_is, cleared_still, unused_still, served_same, wrap_inside}
use Rattle.cloaked_side.proofs.program_side.ProgramSidePageSide.forget.Goals as goal

pub drop_resource-requires : goal.drop_resource-requires
drop_resource-requires g c =
    let own = served_is c.args.self.now.side c.args.domain c.ranges.domain.fits c.requires.domain in
    record {
      domain = own.1;
      resource = c.requires.cleared.resource;
      cleared = subst (λ (d : ℕ). IsNoneOwed c.args.self.now.side.memory.now.pager d c.args.resource) (sym own.0)
          c.requires.cleared.none_owed;
    }

pub returns-clause-follows : goal.returns-clause-follows
returns-clause-follows g c first w sees unclashed =
    let kept = within_of g.E.Emit.gave c.args.self.now.side c.drop_resource.new.self c.drop_resource.ensures.keeps in
    wrap_inside g.E.Emit.gave first.side c.args.self.now.side _ _ _ kept.stays.regime sees.1
    (c.drop_resource.ensures.told first.side w sees.0)

pub returns-clause-keeps : goal.returns-clause-keeps
returns-clause-keeps g c first stays =
    stays_on g.E.Emit.gave first.side c.args.self.now.side c.drop_resource.new.self c.drop_resource.ensures.keeps stays

pub returns-clause-cleared : goal.returns-clause-cleared
returns-clause-cleared g c r cleared =
    let kept = within_of g.E.Emit.gave c.args.self.now.side c.drop_resource.new.self c.drop_resource.ensures.keeps in
    cleared_still c.args.self.now.side c.drop_resource.new.self r kept.stays.domain kept.no_more cleared

pub returns-clause-unused : goal.returns-clause-unused
returns-clause-unused g c n unused =
    let kept = within_of g.E.Emit.gave c.args.self.now.side c.drop_resource.new.self c.drop_resource.ensures.keeps in
    unused_still c.args.self.now.side c.drop_resource.new.self n kept.stays.domain kept.no_more unused

pub returns-clause-dropped : goal.returns-clause-dropped
returns-clause-dropped g c =
    let kept = within_of g.E.Emit.gave c.args.self.now.side c.drop_resource.new.self c.drop_resource.ensures.keeps in
    let own = (served_is c.args.self.now.side c.args.domain c.ranges.domain.fits c.requires.domain).0
    ∙ sym kept.stays.domain in
    subst (λ (d : ℕ). IsNoneHeld c.drop_resource.new.self.memory.now.pager d c.args.resource) own
    c.drop_resource.ensures.away

pub returns-clause-same_domain : goal.returns-clause-same_domain
returns-clause-same_domain g c =
    let kept = within_of g.E.Emit.gave c.args.self.now.side c.drop_resource.new.self c.drop_resource.ensures.keeps in
    served_same c.args.self.now.side c.drop_resource.new.self kept.stays.size kept.stays.domain
