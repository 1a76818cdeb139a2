use Rattle.std.proofs.Common.{refl, ap, ℕ, Option}
use Rattle.cloak_base.specs.declared.names.PageId.{PageId}
use Rattle.cloak_pager.specs.State.{held_in}
use Rattle.cloaked_side.specs.Seeing.{space_in}
use Rattle.cloaked_side.proofs.Tracking.{write_tracks}
use Rattle.cloaked_side.proofs.Translating.{held_by_rights}
use Rattle.cloak_model.specs.World.{settled}
use Rattle.cloak_model.specs.Ask.{ask_fill}
use Rattle.cloaked_side.proofs.Sided.{filled_after, still_written, within_of, within_repaged, written_size}
use Rattle.cloaked_side.proofs.Serving.{wrap_outside}
use Rattle.cloaked_side.proofs.Holders.{no_more_rights}
use Rattle.cloaked_side.proofs.side.SideRam.fill.Goals as goal

pub returns-clause-follows : goal.returns-clause-follows
unfolding ask_fill
returns-clause-follows g c first w sees unclashed =
    let kept = within_of g.E.Emit.gave c.args.self.now c.settle.new.self c.settle.ensures.keeps in
    wrap_outside g.E.Emit.gave first c.args.self.now _ _ _ kept.stays.regime sees.1
    (filled_after g.E.Emit.gave first c.settle.new.self _ c.args.f.0 c.args.b.now (settled c.args.f.0 w)
    (record { stream = refl; draws = refl; missed = refl; emitter = refl; violation = refl; domain = refl; regime = refl })
    c.frame_written.ensures
    (λ m. still_written c.settle.new.self.memory.now _ m c.args.f c.args.f.0 _ c.args.b.now refl
    c.fill_outside.ensures.state c.kill_dependents.ensures)
    (λ wiped m stands. (c.fill_outside.ensures.model wiped m stands).stands)
    (write_tracks (space_in c.settle.new.self.regime) _ _ _ _ (held_in c.settle.new.self.memory.now.pager) (held_in c.fill_outside.new.self) c.args.f c.args.f.0 refl refl
    c.kill_dependents.ensures (λ k. ap (λ (h : ℕ → Option PageId). h k) (held_by_rights c.settle.new.self.memory.now.pager c.fill_outside.new.self c.fill_outside.ensures.state.rights_are)))
    c.args.f c.fill_outside.ensures.state.reads_stay c.kill_dependents.ensures
    (c.settle.ensures.sees first w sees.0))

pub returns-clause-keeps : goal.returns-clause-keeps
returns-clause-keeps g c first stays =
    within_repaged g.E.Emit.gave first c.settle.new.self _ (c.settle.ensures.keeps first stays) refl refl
    (written_size _ _ _ _ c.fill_outside.ensures.state) refl refl refl
    (no_more_rights _ _ c.fill_outside.ensures.state.rights_are)
