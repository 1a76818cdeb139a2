use Rattle.std.proofs.Common.{refl, ap, ◌∙◌, true, false, [], ◌∷◌, length}
use Rattle.cloak_model.specs.Cloaking.{settle}
use Rattle.cloak_pager.specs.State.{PagerState, bytes_in, page_of}
use Rattle.cloak_pager.proofs.Calls.{stands_read}
use Rattle.shadow_fold.specs.Table.{Table}
use Rattle.cloaked_side.proofs.Settling.{settled_so, settled_spends}
use Rattle.cloaked_side.proofs.Spending.{killed_misses, touch_shows_frame, touch_shows_none}
use Rattle.cloak_model.proofs.Emitting.{emits_none}
use Rattle.cloaked_side.proofs.Translating.{quiet_agrees, settled_agrees, read_agrees, ended_frames}
use Rattle.cloaked_side.proofs.Tracking.{settle_tracks, quiet_ends, loud_ends, read_held}
use Rattle.cloaked_side.proofs.memory.Memory.settle.Goals as goal

pub returns-in-Quiet-clause-settles : goal.returns-in-Quiet-clause-settles
returns-in-Quiet-clause-settles g c =
    settled_so _ _ _ c.args.self.now _ c.touch.new.self c.touch.new.s c.args.f.0 [] false c.in-Quiet.ensures.model
    (λ w m s. s) refl refl refl refl (emits_none _ _)
    (λ m h. quiet_agrees c.args.self.now.pager c.touch.new.self h.wiped m c.args.f.0 _ c.args.self.now.shadows h.pager
    c.in-Quiet.ensures.exact_cause c.touch.ensures.stays (ap page_of c.touch.ensures.outside) h.agrees)
    refl c.touch.ensures.stays.count

pub returns-in-Resealed-clause-settles : goal.returns-in-Resealed-clause-settles
returns-in-Resealed-clause-settles g c =
    let old = c.args.self.now in
    settled_so _ _ _ old _ c.touch.new.self c.touch.new.s c.args.f.0 [] false c.in-Resealed.ensures.model
    (λ w m s. s) refl refl refl refl (emits_none _ _)
    (λ m h. settled_agrees old.pager c.touch.new.self m c.args.f old.shadows c.end_entries.new.shadows
    c.touch.ensures.stays c.end_entries.ensures h.agrees)
    (ended_frames c.args.f old.shadows c.end_entries.new.shadows c.end_entries.ensures) c.touch.ensures.stays.count

pub returns-in-Sealed-clause-settles : goal.returns-in-Sealed-clause-settles
returns-in-Sealed-clause-settles g c =
    let old = c.args.self.now in
    let f = c.args.f.0 in
    settled_so _ _ _ old c.emit_frame.new.self c.touch.new.self c.touch.new.s f
    ((f, bytes_in c.touch.new.self f) ∷ []) false c.in-Sealed.ensures.model
    (λ w m s. stands_read _ _ c.emit_frame.ensures.read w m s) c.emit_frame.ensures.stream
    (c.emit_frame.ensures.draws ∙ c.saturating_add-self.ensures) c.emit_frame.ensures.missed
    c.emit_frame.ensures.reservations c.emit_frame.ensures.emits
    (λ m h. read_agrees c.touch.new.self c.emit_frame.new.self.pager (settle f m).memory c.end_entries-in-Sealed.new.shadows
    c.emit_frame.new.self.shadows c.emit_frame.ensures.read c.emit_frame.ensures.shadows
    (settled_agrees old.pager c.touch.new.self m c.args.f old.shadows c.end_entries-in-Sealed.new.shadows
    c.touch.ensures.stays c.end_entries-in-Sealed.ensures h.agrees))
    (ap (λ (t : Table). t.frames) c.emit_frame.ensures.shadows
    ∙ ended_frames c.args.f old.shadows c.end_entries-in-Sealed.new.shadows c.end_entries-in-Sealed.ensures)
    (ap (λ (p : PagerState). length p.frames) c.emit_frame.ensures.read ∙ c.touch.ensures.stays.count)

pub returns-in-Wiped-clause-settles : goal.returns-in-Wiped-clause-settles
returns-in-Wiped-clause-settles g c =
    let old = c.args.self.now in
    let f = c.args.f.0 in
    settled_so _ _ _ old c.emit_frame-in-Wiped.new.self c.touch.new.self c.touch.new.s f
    ((f, bytes_in c.touch.new.self f) ∷ []) true c.in-Wiped.ensures.model
    (λ w m s. stands_read _ _ c.emit_frame-in-Wiped.ensures.read w m s) c.emit_frame-in-Wiped.ensures.stream
    c.emit_frame-in-Wiped.ensures.draws c.emit_frame-in-Wiped.ensures.missed
    c.emit_frame-in-Wiped.ensures.reservations c.emit_frame-in-Wiped.ensures.emits
    (λ m h. read_agrees c.touch.new.self c.emit_frame-in-Wiped.new.self.pager (settle f m).memory
    c.end_entries-in-Wiped.new.shadows c.emit_frame-in-Wiped.new.self.shadows c.emit_frame-in-Wiped.ensures.read
    c.emit_frame-in-Wiped.ensures.shadows
    (settled_agrees old.pager c.touch.new.self m c.args.f old.shadows c.end_entries-in-Wiped.new.shadows
    c.touch.ensures.stays c.end_entries-in-Wiped.ensures h.agrees))
    (ap (λ (t : Table). t.frames) c.emit_frame-in-Wiped.ensures.shadows
    ∙ ended_frames c.args.f old.shadows c.end_entries-in-Wiped.new.shadows c.end_entries-in-Wiped.ensures)
    (ap (λ (p : PagerState). length p.frames) c.emit_frame-in-Wiped.ensures.read ∙ c.touch.ensures.stays.count)

pub returns-in-Quiet-clause-tracks : goal.returns-in-Quiet-clause-tracks
returns-in-Quiet-clause-tracks g c =
    let f = c.args.f.0 in
    settle_tracks c.args.self.now.pager c.touch.new.self _ _ c.args.self.now.shadows _ f (quiet_ends c.args.self.now.pager f _ c.args.self.now.shadows c.in-Quiet.ensures.exact_cause) refl
    (ap page_of c.touch.ensures.outside) (λ k n. ap page_of (c.touch.ensures.stays.rights k n))

pub returns-in-Resealed-clause-tracks : goal.returns-in-Resealed-clause-tracks
returns-in-Resealed-clause-tracks g c =
    let f = c.args.f.0 in
    settle_tracks c.args.self.now.pager c.touch.new.self _ _ c.args.self.now.shadows _ f
    (c.end_entries.ensures ∙ loud_ends c.args.self.now.pager f _ c.args.self.now.shadows (λ q. (let clash = c.in-Resealed.ensures.exact_cause ∙ q in cc))) refl
    (ap page_of c.touch.ensures.outside) (λ k n. ap page_of (c.touch.ensures.stays.rights k n))

pub returns-in-Sealed-clause-tracks : goal.returns-in-Sealed-clause-tracks
returns-in-Sealed-clause-tracks g c =
    let f = c.args.f.0 in
    let read = read_held c.touch.new.self c.emit_frame.new.self.pager c.emit_frame.ensures.read in
    settle_tracks c.args.self.now.pager c.emit_frame.new.self.pager _ _ c.args.self.now.shadows _ f
    (c.emit_frame.ensures.shadows ∙ c.end_entries-in-Sealed.ensures
    ∙ loud_ends c.args.self.now.pager f _ c.args.self.now.shadows (λ q. (let clash = c.in-Sealed.ensures.exact_cause ∙ q in cc)))
    c.emit_frame.ensures.counting
    (read f ∙ ap page_of c.touch.ensures.outside) (λ k n. read k ∙ ap page_of (c.touch.ensures.stays.rights k n))

pub returns-in-Wiped-clause-tracks : goal.returns-in-Wiped-clause-tracks
returns-in-Wiped-clause-tracks g c =
    let f = c.args.f.0 in
    let read = read_held c.touch.new.self c.emit_frame-in-Wiped.new.self.pager c.emit_frame-in-Wiped.ensures.read in
    settle_tracks c.args.self.now.pager c.emit_frame-in-Wiped.new.self.pager _ _ c.args.self.now.shadows _ f
    (c.emit_frame-in-Wiped.ensures.shadows ∙ c.end_entries-in-Wiped.ensures
    ∙ loud_ends c.args.self.now.pager f _ c.args.self.now.shadows (λ q. (let clash = c.in-Wiped.ensures.exact_cause ∙ q in cc)))
    c.emit_frame-in-Wiped.ensures.counting
    (read f ∙ ap page_of c.touch.ensures.outside) (λ k n. read k ∙ ap page_of (c.touch.ensures.stays.rights k n))

pub returns-in-Quiet-clause-ends : goal.returns-in-Quiet-clause-ends
returns-in-Quiet-clause-ends g c = quiet_ends c.args.self.now.pager c.args.f.0 _ c.args.self.now.shadows c.in-Quiet.ensures.exact_cause

pub returns-in-Resealed-clause-ends : goal.returns-in-Resealed-clause-ends
returns-in-Resealed-clause-ends g c =
    c.end_entries.ensures ∙ loud_ends c.args.self.now.pager c.args.f.0 _ c.args.self.now.shadows (λ q. (let clash = c.in-Resealed.ensures.exact_cause ∙ q in cc))

pub returns-in-Sealed-clause-ends : goal.returns-in-Sealed-clause-ends
returns-in-Sealed-clause-ends g c =
    c.emit_frame.ensures.shadows ∙ c.end_entries-in-Sealed.ensures
    ∙ loud_ends c.args.self.now.pager c.args.f.0 _ c.args.self.now.shadows (λ q. (let clash = c.in-Sealed.ensures.exact_cause ∙ q in cc))

pub returns-in-Wiped-clause-ends : goal.returns-in-Wiped-clause-ends
returns-in-Wiped-clause-ends g c =
    c.emit_frame-in-Wiped.ensures.shadows ∙ c.end_entries-in-Wiped.ensures
    ∙ loud_ends c.args.self.now.pager c.args.f.0 _ c.args.self.now.shadows (λ q. (let clash = c.in-Wiped.ensures.exact_cause ∙ q in cc))

pub returns-in-Quiet-clause-spends : goal.returns-in-Quiet-clause-spends
returns-in-Quiet-clause-spends g c =
    let old = c.args.self.now in
    settled_spends old c.touch.new.self c.touch.new.s c.args.f.0 [] false _ c.in-Quiet.ensures.model
    (touch_shows_none old c.touch.new.self old.shadows _ _ c.args.f.0 c.touch.ensures.state refl)

pub returns-in-Resealed-clause-spends : goal.returns-in-Resealed-clause-spends
returns-in-Resealed-clause-spends g c =
    let old = c.args.self.now in
    settled_spends old c.touch.new.self c.touch.new.s c.args.f.0 [] false _ c.in-Resealed.ensures.model
    (touch_shows_none old c.touch.new.self c.end_entries.new.shadows _ _ c.args.f.0 c.touch.ensures.state
    (ap (λ (t : Table). t.counts.misses) c.end_entries.ensures ∙ killed_misses c.args.f old.shadows))

pub returns-in-Sealed-clause-spends : goal.returns-in-Sealed-clause-spends
returns-in-Sealed-clause-spends g c =
    let old = c.args.self.now in
    settled_spends old c.touch.new.self c.touch.new.s c.args.f.0 ((c.args.f.0, bytes_in c.touch.new.self c.args.f.0) ∷ []) false _ c.in-Sealed.ensures.model
    (touch_shows_frame old c.emit_frame.new.self c.touch.new.self _ _ c.args.f.0 c.touch.ensures.state c.emit_frame.ensures.read
    (ap (λ (t : Table). t.counts.misses) c.emit_frame.ensures.shadows
    ∙ ap (λ (t : Table). t.counts.misses) c.end_entries-in-Sealed.ensures ∙ killed_misses c.args.f old.shadows))

pub returns-in-Wiped-clause-spends : goal.returns-in-Wiped-clause-spends
returns-in-Wiped-clause-spends g c =
    let old = c.args.self.now in
    settled_spends old c.touch.new.self c.touch.new.s c.args.f.0 ((c.args.f.0, bytes_in c.touch.new.self c.args.f.0) ∷ []) true _ c.in-Wiped.ensures.model
    (touch_shows_frame old c.emit_frame-in-Wiped.new.self c.touch.new.self _ _ c.args.f.0 c.touch.ensures.state c.emit_frame-in-Wiped.ensures.read
    (ap (λ (t : Table). t.counts.misses) c.emit_frame-in-Wiped.ensures.shadows
    ∙ ap (λ (t : Table). t.counts.misses) c.end_entries-in-Wiped.ensures ∙ killed_misses c.args.f old.shadows))
