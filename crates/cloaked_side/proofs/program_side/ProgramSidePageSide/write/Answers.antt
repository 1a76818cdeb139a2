use Rattle.std.proofs.Common.{◌∙◌, ℕ, List, slice_index_or, Option, refl, sym, ap, subst}
use Rattle.cloak_base.specs.declared.names.PageId.{PageId}
use Rattle.cloak_pager.specs.State.{held_in, owed_under}
use Rattle.cloak_pager.specs.declared.frame_right.FrameRight.{FrameRight}
use Rattle.cloak_pager.specs.declared.frame_right.FrameRight.TheVariants.{Spent}
use Rattle.protect_meta.specs.Pages.{IsIn}
use Rattle.cloaked_side.proofs.Answering.{plain_stored}
use Rattle.cloaked_side.proofs.Holders.{no_more_rights}
use Rattle.cloaked_side.proofs.Sided.{stays_repaged, written_size, written_count}
use Rattle.cloaked_side.proofs.Serving.{unused_still, served_same, wrap_inside}
use Rattle.cloaked_side.proofs.Tracking.{same_tracks}
use Rattle.cloaked_side.proofs.Translating.{held_by_rights}
use Rattle.cloaked_side.proofs.program_side.ProgramSidePageSide.write.Goals as goal

pub returns-clause-follows : goal.returns-clause-follows
returns-clause-follows g c first w sees unclashed =
    let state = c.write_plain.ensures.state in
    wrap_inside g.E.Emit.gave first.side c.args.self.now.side _ _ _ refl sees.1
    (plain_stored g.E.Emit.gave first.side c.args.self.now.side _ c.args.q c.args.at c.args.width c.args.v w
    (record { stream = refl; draws = refl; missed = refl; marks = refl; emitter = refl; violation = refl; domain = refl; regime = refl }) refl
    state.rights_are (written_count _ _ _ _ state)
    c.write_plain.ensures.model
    (same_tracks _ _ _ _ (held_in c.args.self.now.side.memory.now.pager) (held_in c.write_plain.new.self) refl refl
    (λ k. ap (λ (h : ℕ → Option PageId). h k) (held_by_rights c.args.self.now.side.memory.now.pager c.write_plain.new.self state.rights_are)))
    state.reads_stay sees.0)

pub returns-clause-keeps : goal.returns-clause-keeps
returns-clause-keeps g c first stays =
    let state = c.write_plain.ensures.state in
    stays_repaged g.E.Emit.gave first.side c.args.self.now.side _ stays refl refl (written_size _ _ _ _ state) refl refl refl
    (no_more_rights _ _ state.rights_are)

pub returns-clause-writable : goal.returns-clause-writable
returns-clause-writable g c =
    let r = c.requires.writable in
    let state = c.write_plain.ensures.state in
    record {
      page = subst (λ (n : ℕ). IsIn n c.args.q) (sym state.domains_stay) r.page;
      drawn = r.drawn;
      owed = ap (λ (rs : List FrameRight). owed_under (slice_index_or rs c.args.self.now.reached.0 Spent)) state.rights_are ∙ r.owed;
    }

pub returns-clause-unused : goal.returns-clause-unused
returns-clause-unused g c n unused =
    let old = c.args.self.now.side in
    let new = record old {
      memory =
          record old.memory { now = record old.memory.now { pager = c.write_plain.new.self } };
    } in
    unused_still old new n refl
    (no_more_rights old.memory.now.pager c.write_plain.new.self
    (c.write_plain.ensures.state).rights_are) unused

pub returns-clause-same_domain : goal.returns-clause-same_domain
returns-clause-same_domain g c =
    let old = c.args.self.now.side in
    let new = record old {
      memory =
          record old.memory { now = record old.memory.now { pager = c.write_plain.new.self } };
    } in
    served_same old new (written_size old.memory.now new.memory.now _ _ (c.write_plain.ensures.state))
    refl
