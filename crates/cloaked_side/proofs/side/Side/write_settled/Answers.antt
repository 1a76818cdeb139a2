use Rattle.std.proofs.Common.{refl, ap, subst, ℕ, Option}
use Rattle.cloak_base.specs.declared.names.PageId.{PageId}
use Rattle.cloak_pager.specs.State.{held_in}
use Rattle.cloaked_side.specs.Seeing.{space_in}
use Rattle.cloaked_side.proofs.Tracking.{write_tracks}
use Rattle.cloaked_side.proofs.Translating.{held_by_rights}
use Rattle.cloak_base.specs.Constants.{frame_of}
use Rattle.cloak_pager.specs.Asking.{FollowsCallStill, after_write_outside}
use Rattle.cloaked_side.proofs.Sided.{stored_after, still_written, within_repaged, written_size, written_count}
use Rattle.cloaked_side.proofs.Holders.{no_more_rights}
use Rattle.cloaked_side.proofs.side.Side.write_settled.Goals as goal

pub returns-clause-told : goal.returns-clause-told
returns-clause-told g c first w sees =
    let pa = c.args.pa in
    let side = c.args.self.now in
    let at_frame = subst (λ (f : ℕ). FollowsCallStill side.memory.now.pager c.write_outside.new.self (tt {0})
    (after_write_outside f (record { at = c.place_of.result; width = c.args.width; value = c.args.v })))
    c.frame_of-f.ensures c.write_outside.ensures.model in
    let meets = subst (λ (at : ℕ). FollowsCallStill side.memory.now.pager c.write_outside.new.self (tt {0})
    (after_write_outside (frame_of pa) (record { at = at; width = c.args.width; value = c.args.v })))
    c.place_of.ensures.value at_frame in
    stored_after g.E.Emit.gave first side _ pa c.args.width c.args.v w
    (record { stream = refl; draws = refl; missed = refl; emitter = refl; violation = refl; domain = refl; regime = refl })
    c.word_written.ensures
    (λ m. still_written side.memory.now _ m c.frame_of-f.result (frame_of pa) _ _ c.frame_of-f.ensures
    c.write_outside.ensures.state c.kill_dependents.ensures)
    (λ wiped m stands. (meets wiped m stands).stands)
    (write_tracks (space_in side.regime) _ _ _ _ (held_in side.memory.now.pager) (held_in c.write_outside.new.self) c.frame_of-f.result (frame_of pa) c.frame_of-f.ensures refl
    c.kill_dependents.ensures (λ k. ap (λ (h : ℕ → Option PageId). h k) (held_by_rights side.memory.now.pager c.write_outside.new.self c.write_outside.ensures.state.rights_are)))
    c.frame_of-f.result c.write_outside.ensures.state.reads_stay c.kill_dependents.ensures sees

pub returns-clause-keeps : goal.returns-clause-keeps
returns-clause-keeps g c first stays =
    within_repaged g.E.Emit.gave first c.args.self.now _ stays refl refl
    (written_size _ _ _ _ c.write_outside.ensures.state) refl refl refl
    (no_more_rights _ _ c.write_outside.ensures.state.rights_are)

pub returns-clause-same_count : goal.returns-clause-same_count
returns-clause-same_count g c = written_count _ _ _ _ c.write_outside.ensures.state
