use Rattle.std.proofs.Common.{◌≡◌, ◌<◌, ◌∙◌, sym, subst, ℕ, length, rules}
use Rattle.cloak_pager.specs.State.{IsNoneOwed}
use Rattle.cloaked_side.proofs.Sided.{within_of, stays_on}
use Rattle.cloaked_side.proofs.Serving.{served_is, unused_still, served_same, mark_inside, wrap_inside}
use Rattle.cloaked_side.proofs.program_side.ProgramSidePageSide.clear.Goals as goal

pub returns-clause-follows : goal.returns-clause-follows
returns-clause-follows g c first w sees unclashed =
    let kept = within_of g.E.Emit.gave c.args.self.now.side c.clear_frames.new.self.side c.clear_frames.ensures.keeps in
    wrap_inside g.E.Emit.gave first.side c.args.self.now.side _ _ _ kept.stays.regime sees.1
    (c.clear_frames.ensures.told first.side w sees.0)

pub returns-clause-keeps : goal.returns-clause-keeps
returns-clause-keeps g c first stays = stays_on g.E.Emit.gave first.side c.args.self.now.side _ c.clear_frames.ensures.keeps stays

pub returns-clause-cleared : goal.returns-clause-cleared
returns-clause-cleared g c ok r mark =
    let new = c.clear_frames.new.self.side in
    let kept = within_of g.E.Emit.gave c.args.self.now.side new c.clear_frames.ensures.keeps in
    let own = (served_is c.args.self.now.side c.args.domain c.ranges.domain.fits c.requires).0
    ∙ sym kept.stays.domain in
    let sixteen : length c.args.resources.now ≡ 16 = search rules in
    record {
      resource = subst (λ (n : ℕ). r < n) sixteen (mark_inside c.args.resources.now r mark);
      none_owed = subst (λ (d : ℕ). IsNoneOwed new.memory.now.pager d r) own (c.clear_frames.ensures.cleared ok r mark);
    }

pub returns-clause-unused : goal.returns-clause-unused
returns-clause-unused g c n unused =
    let kept = within_of g.E.Emit.gave c.args.self.now.side c.clear_frames.new.self.side c.clear_frames.ensures.keeps in
    unused_still c.args.self.now.side c.clear_frames.new.self.side n kept.stays.domain kept.no_more unused

pub returns-clause-same_domain : goal.returns-clause-same_domain
returns-clause-same_domain g c =
    let kept = within_of g.E.Emit.gave c.args.self.now.side c.clear_frames.new.self.side c.clear_frames.ensures.keeps in
    served_same c.args.self.now.side c.clear_frames.new.self.side kept.stays.size kept.stays.domain
