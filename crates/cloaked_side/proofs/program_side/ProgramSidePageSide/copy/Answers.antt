use Rattle.std.proofs.Common.{refl, sym, subst, ap, ℕ, Option}
use Rattle.cloak_base.specs.declared.names.PageId.{PageId}
use Rattle.cloak_pager.specs.State.{IsNoneOwed, IsNoneHeld, held_in}
use Rattle.cloaked_side.proofs.Holders.{no_more_rights}
use Rattle.cloaked_side.proofs.Cleared.{sees_copied}
use Rattle.cloaked_side.proofs.Sided.{stays_repaged, still_turned, turned_size, turned_count}
use Rattle.cloaked_side.proofs.Serving.{served_is, cleared_still, unused_still, served_same, wrap_inside}
use Rattle.cloaked_side.proofs.Tracking.{same_tracks}
use Rattle.cloaked_side.proofs.Translating.{held_by_rights}
use Rattle.cloaked_side.proofs.program_side.ProgramSidePageSide.copy.Goals as goal

pub copy_pages-requires-clause-domain : goal.copy_pages-requires-clause-domain
copy_pages-requires-clause-domain g c =
    (served_is c.args.self.now.side c.args.domain c.ranges.domain.fits c.requires.domain).1

pub copy_pages-requires-clause-from : goal.copy_pages-requires-clause-from
copy_pages-requires-clause-from g c = c.requires.cleared.resource

pub copy_pages-requires-clause-shown : goal.copy_pages-requires-clause-shown
copy_pages-requires-clause-shown g c =
    subst (λ (d : ℕ). IsNoneOwed c.args.self.now.side.memory.now.pager d c.args.from)
    (sym (served_is c.args.self.now.side c.args.domain c.ranges.domain.fits c.requires.domain).0)
    c.requires.cleared.none_owed

pub copy_pages-requires-clause-away : goal.copy_pages-requires-clause-away
copy_pages-requires-clause-away g c =
    subst (λ (d : ℕ). IsNoneHeld c.args.self.now.side.memory.now.pager d c.args.to)
    (sym (served_is c.args.self.now.side c.args.domain c.ranges.domain.fits c.requires.domain).0) c.requires.unused

pub returns-clause-follows : goal.returns-clause-follows
returns-clause-follows g c first w sees unclashed =
    wrap_inside g.E.Emit.gave first.side c.args.self.now.side _ _ _ refl sees.1
    (sees_copied g.E.Emit.gave first.side c.args.self.now.side _ c.args.domain c.args.from c.args.to w
    (record { stream = refl; draws = refl; missed = refl; marks = refl; emitter = refl; violation = refl; domain = refl; regime = refl })
    (λ m m' seen. still_turned _ _ m m' c.copy_pages.ensures.state.rights_are
    (turned_count _ _ _ c.copy_pages.ensures.state) refl seen)
    c.copy_pages.ensures.model
    (same_tracks _ _ _ _ (held_in c.args.self.now.side.memory.now.pager) (held_in c.copy_pages.new.self) refl refl
    (λ k. ap (λ (h : ℕ → Option PageId). h k) (held_by_rights c.args.self.now.side.memory.now.pager c.copy_pages.new.self c.copy_pages.ensures.state.rights_are)))
    c.copy_pages.ensures.state.reads_stay refl sees.0)

pub returns-clause-keeps : goal.returns-clause-keeps
returns-clause-keeps g c first stays =
    stays_repaged g.E.Emit.gave first.side c.args.self.now.side _ stays refl refl
    (turned_size _ _ _ c.copy_pages.ensures.state) refl refl refl (no_more_rights _ _ c.copy_pages.ensures.state.rights_are)

pub returns-clause-cleared : goal.returns-clause-cleared
returns-clause-cleared g c r cleared =
    let old = c.args.self.now.side in
    let new = record old {
      memory =
          record old.memory { now = record old.memory.now { pager = c.copy_pages.new.self } };
    } in
    cleared_still old new r refl
    (no_more_rights old.memory.now.pager c.copy_pages.new.self c.copy_pages.ensures.state.rights_are) cleared

pub returns-clause-unused : goal.returns-clause-unused
returns-clause-unused g c n unused =
    let old = c.args.self.now.side in
    let new = record old {
      memory =
          record old.memory { now = record old.memory.now { pager = c.copy_pages.new.self } };
    } in
    unused_still old new n refl
    (no_more_rights old.memory.now.pager c.copy_pages.new.self c.copy_pages.ensures.state.rights_are) unused

pub returns-clause-same_domain : goal.returns-clause-same_domain
returns-clause-same_domain g c =
    let old = c.args.self.now.side in
    let new = record old {
      memory =
          record old.memory { now = record old.memory.now { pager = c.copy_pages.new.self } };
    } in
    served_same old new (turned_size old.memory.now new.memory.now _ c.copy_pages.ensures.state) refl
