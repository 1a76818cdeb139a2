use Rattle.std.proofs.Common.{◌<◌, ℕ, Option, refl, sym, ap, subst}
use Rattle.cloak_base.specs.declared.names.PageId.{PageId}
use Rattle.cloak_pager.specs.State.{held_in}
use Rattle.cloaked_side.proofs.Cleared.{sees_dropped, shows_of}
use Rattle.cloaked_side.proofs.Sided.{within_of, still_turned, turned_count}
use Rattle.cloaked_side.proofs.Tracking.{same_tracks}
use Rattle.cloaked_side.proofs.Translating.{held_by_rights}
use Rattle.cloaked_side.proofs.side.Side.drop_resource.Goals as goal

pub drop_pages-requires-clause-domain : goal.drop_pages-requires-clause-domain
drop_pages-requires-clause-domain g c =
    let kept = within_of g.E.Emit.gave c.args.self.now c.empty_frames.new.self c.empty_frames.ensures.keeps in
    subst (λ (n : ℕ). c.args.domain < n) (sym kept.stays.size.domains) c.requires.domain

pub returns-clause-told : goal.returns-clause-told
returns-clause-told g c first w sees =
    let gave = g.E.Emit.gave in
    let begun = c.args.self.now in
    let mid = c.empty_frames.new.self in
    let kept = within_of gave begun mid c.empty_frames.ensures.keeps in
    let rights = c.drop_pages.ensures.state.rights_are in
    sees_dropped gave first begun mid _ c.args.domain c.args.resource w
    (record { stream = refl; draws = refl; missed = refl; marks = refl; emitter = refl; violation = refl; domain = refl; regime = refl })
    (λ m m' seen. still_turned _ _ m m' rights (turned_count _ _ _ c.drop_pages.ensures.state) refl seen)
    c.drop_pages.ensures.model kept.stays.regime
    (λ s keeps. same_tracks _ _ _ _ (held_in mid.memory.now.pager) (held_in c.drop_pages.new.self) refl refl
    (λ k. ap (λ (h : ℕ → Option PageId). h k) (held_by_rights mid.memory.now.pager c.drop_pages.new.self rights))
    _ (c.empty_frames.ensures.tracks s keeps))
    c.drop_pages.ensures.state.reads_stay refl
    sees (c.empty_frames.ensures.shows first w (shows_of gave first begun w sees))
