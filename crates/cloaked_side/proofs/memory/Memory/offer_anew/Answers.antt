use Rattle.std.proofs.Common.{true, false, refl, sym, ap, subst, ◌∙◌}
use Rattle.cloak_model.specs.Cloaking.{offer}
use Rattle.shadow_fold.specs.Keeping.{Agrees}
use Rattle.shadow_law.specs.Agreeing.{present}
use Rattle.cloak_pager.specs.State.{held_in}
use Rattle.cloaked_side.proofs.Rooming.{rooms_self, offers_so, offers_missed}
use Rattle.std.specs.Prelude.{length}
use Rattle.std.proofs.Common.{arith}
use Rattle.shadow_fold.specs.Table.{Table}
use Rattle.cloaked_side.specs.Tracking.{spent_in}
use Rattle.cloaked_side.proofs.Spending.{killed_misses, maps_killed, maps_then, offer_shows_none, spends_more, spends_none}
use Rattle.cloaked_side.proofs.Translating.{killed_frames, offered_again, offered_new, offered_vain}
use Rattle.cloak_pager.specs.State.{PagerState, page_of}
use Rattle.cloaked_side.proofs.Tracking.{tracks_offer, effect_again, effect_new, effect_refused, room_is, goes_on_granted, goes_on_same, same_held}
use Rattle.cloaked_side.proofs.memory.Memory.offer_anew.Goals as goal

pub returns-in-Ready-clause-offers : goal.returns-in-Ready-clause-offers
returns-in-Ready-clause-offers g c =
    let old = c.args.self.now in
    let q = c.args.q in
    let f = c.args.g.0 in
    let write = c.args.write in
    let was = c.if-is_held.ensures.held refl in
    let here = c.in-Ready.ensures.held refl in
    record {
      offers = λ m h clash.
          offers_so g.E.Emit.gave _ _ old _ true q f write m (rooms_self g.E.Emit.gave c.args.e.now old q f m h)
          c.in-Ready.ensures.model refl refl refl refl
          (λ ends. offered_again old.pager c.offer.new.self h.wiped m q f write old.shadows h.pager
          c.offer.ensures.stays was here h.agrees)
          refl c.offer.ensures.stays.count clash;
      tracks = λ m h space. tracks_offer space _ _ _ _ _ _ q f m true
          (effect_again old.counting old.shadows (held_in old.pager) (held_in c.offer.new.self) q f true was
          (same_held old.pager c.offer.new.self f c.offer.ensures.stays (here ∙ sym was)));
      spends = λ m h. offer_shows_none old old c.offer.new.self old.shadows _ _ _ _ q f
          (length (offer q f write m).ciphers)
          c.offer.ensures.state refl (spends_more 0 0 0 _ (spent_in old) (spent_in old) (omega arith)
          (spends_none (spent_in old)));
      maps = λ mapped all. all;
    }

pub returns-then-not-make_room-clause-offers : goal.returns-then-not-make_room-clause-offers
returns-then-not-make_room-clause-offers g c =
    let made = c.if-not-make_room.ensures in
    record {
      offers = λ m h clash. offers_missed g.E.Emit.gave _ _ _ c.args.q c.args.g.0 c.args.write m (made.rooms m h);
      tracks = λ m h space. tracks_offer space _ _ _ _ _ _ c.args.q c.args.g.0 m false
          (effect_refused _ _ _ _ (held_in c.args.self.now.pager) _ c.args.q c.args.g.0 m
          (c.if-is_held.ensures.not_held refl) (made.tracks m h));
      spends = λ m h. made.spends m h c.args.write;
      maps = made.maps;
    }

pub returns-in-Ready-offer-clause-offers : goal.returns-in-Ready-offer-clause-offers
returns-in-Ready-offer-clause-offers g c =
    let made = c.if-not-make_room.ensures in
    let old = c.args.self.now in
    let room = c.make_room.new.self in
    let after = c.offer-2.new.self in
    let new = record room { pager = after; shadows = c.end_entries.new.shadows } in
    let q = c.args.q in
    let f = c.args.g.0 in
    let write = c.args.write in
    record {
      offers = λ m h clash. let r = made.rooms m h in
          offers_so g.E.Emit.gave _ _ room _ true q f write m r
          c.in-Ready-offer.ensures.model refl refl refl refl
          (λ ends. subst (λ t. Agrees (present (held_in after) (offer q f write r.memory).memory) t)
          (sym c.end_entries.ensures)
          (offered_new room.pager after r.holds.wiped r.memory q f write room.shadows r.holds.pager
          c.offer-2.ensures.stays
          (made.alone refl) r.holds.agrees))
          (ap (λ t. t.frames) c.end_entries.ensures ∙ killed_frames c.args.g room.shadows)
          c.offer-2.ensures.stays.count clash;
      tracks = λ m h space. tracks_offer space _ _ _ _ _ _ q f m true
          (effect_new _ _ _ _ (held_in old.pager) _ q f true (c.if-is_held.ensures.not_held refl)
          (λ s keeps. goes_on_granted room.counting room.shadows _ (held_in room.pager) (held_in after) q f _
          (room_is _ _ _ _ (held_in old.pager) _ q f m (made.drawn refl m h) (made.tracks m h) s keeps)
          c.end_entries.ensures
          (c.in-Ready-offer.ensures.held refl) (λ k n. ap page_of (c.offer-2.ensures.stays.rights k n))));
      spends = λ m h. offer_shows_none old room after c.end_entries.new.shadows _ _ _ _ q f
          (length (offer q f write m).ciphers)
          c.offer-2.ensures.state
          (ap (λ (t : Table). t.counts.misses) c.end_entries.ensures ∙ killed_misses c.args.g room.shadows)
          (made.spends m h write);
      maps = maps_then old room new made.maps (maps_killed room new true c.args.g c.end_entries.ensures);
    }

pub returns-in-Mismatch-offer-clause-offers : goal.returns-in-Mismatch-offer-clause-offers
returns-in-Mismatch-offer-clause-offers g c =
    let made = c.if-not-make_room.ensures in
    let old = c.args.self.now in
    let room = c.make_room.new.self in
    let after = c.offer-2.new.self in
    let q = c.args.q in
    let f = c.args.g.0 in
    let write = c.args.write in
    record {
      offers = λ m h clash. let r = made.rooms m h in
          offers_so g.E.Emit.gave _ _ room _ false q f write m r
          c.in-Mismatch-offer.ensures.model refl refl refl refl
          (λ ends. offered_vain room.pager after r.holds.wiped r.memory q f write room.shadows r.holds.pager
          c.in-Mismatch-offer.ensures.state (made.alone refl) (made.room refl) ends r.holds.agrees)
          refl c.offer-2.ensures.stays.count clash;
      tracks = λ m h space. tracks_offer space _ _ _ _ _ _ q f m false
          (effect_refused _ _ _ _ (held_in old.pager) _ q f m (c.if-is_held.ensures.not_held refl)
          (λ s keeps. goes_on_same room.counting room.shadows (held_in room.pager) (held_in after) _
          (made.tracks m h s keeps) (λ k. ap (λ (p : PagerState). held_in p k) c.in-Mismatch-offer.ensures.state)));
      spends = λ m h. offer_shows_none old room after room.shadows _ _ _ _ q f (length (offer q f write m).ciphers)
          c.offer-2.ensures.state refl (made.spends m h write);
      maps = made.maps;
    }
