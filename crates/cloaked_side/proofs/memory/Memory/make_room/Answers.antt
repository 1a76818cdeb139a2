use Rattle.std.proofs.Common.{rules, arith, length, ◌+◌, ℕ, ◌≡◌, ◌≢◌, ◌∙◌, ◌++◌, sym, not, Some}
use Rattle.cloak_model.specs.Cloaking.{settle}
use Rattle.cloak_pager.specs.State.{held_in}
use Rattle.cloaked_side.proofs.Settling.{settle_missed}
use Rattle.cloak_model.proofs.Emitting.{emits_then, emits_ciphers}
use Rattle.cloaked_side.proofs.Rooming.{rooms_spend, rooms_missed, rooms_alone, rooms_home, rest_by, home_gone, outside_still}
use Rattle.std.proofs.lemmas.List.{length-append}
use Rattle.cloaked_side.specs.Tracking.{spent_in}
use Rattle.cloaked_side.proofs.Spending.{maps_killed, maps_then, spends_more, spends_then}
use Rattle.cloaked_side.proofs.Holders.{no_more_then, no_more_emptied}
use Rattle.shadow_fold.specs.Fold.{frame, touched}
use Rattle.cloaked_side.proofs.Tracking.{room_missed, room_drawn, goes_on_none, goes_on_home}
use Rattle.cloaked_side.proofs.memory.Memory.make_room.Goals as goal

unfoldable pub returns-then-self-clause-rooms : goal.returns-then-self-clause-rooms
returns-then-self-clause-rooms g c m h =
    let f = c.args.g.0 in
    let n : held_in c.args.self.now.pager f ≢ Some c.args.q = c.requires.away in
    let st = c.settle.ensures.settles m h in
    let missed = settle_missed f m (sym h.missed ∙ c.requires.drawn) ∙ sym st.holds.missed ∙ c.if-self.true in
    record {
      memory = (settle f m).memory;
      ciphers = (settle f m).ciphers;
      holds = st.holds;
      emits = st.emits;
      offers = λ write. rooms_missed _ h.wiped m f c.args.q write h.pager n missed;
    }

unfoldable pub returns-in_default-clause-rooms : goal.returns-in_default-clause-rooms
returns-in_default-clause-rooms g c m h =
    let f = c.args.g.0 in
    let n : held_in c.args.self.now.pager f ≢ Some c.args.q = c.requires.away in
    let st = c.settle.ensures.settles m h in
    let missed = settle_missed f m (sym h.missed ∙ c.requires.drawn) ∙ sym st.holds.missed ∙ c.if-self.false in
    record {
      memory = (settle f m).memory;
      ciphers = (settle f m).ciphers;
      holds = record {
        wiped = st.holds.wiped;
        pager = st.holds.pager;
        whole = st.holds.whole;
        stream =
            st.holds.stream;
        draws = st.holds.draws;
        missed = st.holds.missed;
        agrees = st.holds.agrees;
        room = st.holds.room;
        marks = st.holds.marks;
      };
      emits = st.emits;
      offers = λ write. rooms_alone _ _ h.wiped st.holds.wiped m f c.args.q write h.pager n missed st.holds.pager
          c.settle.ensures.outside (search rules);
    }

pub returns-clause-emits_some : goal.returns-clause-emits_some
returns-clause-emits_some g c = (_, emits_then c.settle.ensures.emits_some.1 c.settle-2.ensures.emits_some.1)

unfoldable pub returns-clause-rooms : goal.returns-clause-rooms
returns-clause-rooms g c m h =
    let f = c.args.g.0 in
    let home = c.in-Some.home.0 in
    let n : held_in c.args.self.now.pager f ≢ Some c.args.q = c.requires.away in
    let st = c.settle.ensures.settles m h in
    let m1 = (settle f m).memory in
    let missed = settle_missed f m (sym h.missed ∙ c.requires.drawn) ∙ sym st.holds.missed ∙ c.if-self.false in
    let held : held_in c.settle.new.self.pager home ≡ Some c.args.q = search rules in
    let st2 = c.settle-2.ensures.settles m1 st.holds in
    let missed2 = settle_missed home m1 (sym st.holds.missed ∙ c.if-self.false) ∙ sym st2.holds.missed in
    record {
      memory = (settle home m1).memory;
      ciphers = (settle f m).ciphers ++ (settle home m1).ciphers;
      holds = st2.holds;
      emits = emits_ciphers (settle f m).ciphers (settle home m1).ciphers st.emits st2.emits;
      offers = λ write. rooms_home _ _ h.wiped st.holds.wiped m f home c.args.q write
          (not c.settle-2.new.self.missed) h.pager n missed st.holds.pager held
          (rest_by c.settle-2.new.self.pager st2.holds.wiped m1 f home c.args.q write c.settle-2.new.self.missed
          missed2 st2.holds.pager
          (outside_still c.settle.new.self.pager _ home f c.args.q c.settle-2.ensures.stays c.settle.ensures.outside
          held)
          (home_gone c.settle.new.self.pager _ home c.args.q st.holds.pager.whole c.settle-2.ensures.stays
          c.settle-2.ensures.outside held));
    }

pub returns-then-self-clause-no_more : goal.returns-then-self-clause-no_more
returns-then-self-clause-no_more g c = no_more_emptied c.args.g.0 _ _ c.settle.ensures.stays c.settle.ensures.outside

pub returns-in_default-clause-no_more : goal.returns-in_default-clause-no_more
returns-in_default-clause-no_more g c = no_more_emptied c.args.g.0 _ _ c.settle.ensures.stays c.settle.ensures.outside

pub returns-clause-no_more : goal.returns-clause-no_more
returns-clause-no_more g c =
    no_more_then _ c.settle.new.self.pager _
    (no_more_emptied c.args.g.0 _ _ c.settle.ensures.stays c.settle.ensures.outside)
    (no_more_emptied c.in-Some.home.0 _ _ c.settle-2.ensures.stays c.settle-2.ensures.outside)

pub returns-then-self-clause-tracks : goal.returns-then-self-clause-tracks
returns-then-self-clause-tracks g c m h =
    let f = c.args.g.0 in
    let st = c.settle.ensures.settles m h in
    let missed = settle_missed f m (sym h.missed ∙ c.requires.drawn) ∙ sym st.holds.missed ∙ c.if-self.true in
    room_missed _ _ _ _ _ _ c.args.q f m missed c.settle.ensures.tracks

pub returns-in_default-clause-tracks : goal.returns-in_default-clause-tracks
returns-in_default-clause-tracks g c m h =
    let f = c.args.g.0 in
    let st = c.settle.ensures.settles m h in
    let missed = settle_missed f m (sym h.missed ∙ c.requires.drawn) ∙ sym st.holds.missed ∙ c.if-self.false in
    let nowhere : (k : ℕ) → held_in c.settle.new.self.pager k ≢ Some c.args.q = search rules in
    room_drawn _ _ _ _ _ _ c.args.q f m missed
    (λ s keeps. goes_on_none _ _ _ c.args.q (touched (frame f) s) nowhere (c.settle.ensures.tracks s keeps))

pub returns-clause-tracks : goal.returns-clause-tracks
returns-clause-tracks g c m h =
    let f = c.args.g.0 in
    let home = c.in-Some.home.0 in
    let st = c.settle.ensures.settles m h in
    let missed = settle_missed f m (sym h.missed ∙ c.requires.drawn) ∙ sym st.holds.missed ∙ c.if-self.false in
    let held : held_in c.settle.new.self.pager home ≡ Some c.args.q = search rules in
    room_drawn _ _ _ _ _ _ c.args.q f m missed
    (λ s keeps. goes_on_home _ _ _ _ (held_in c.settle.new.self.pager) _ c.args.q home (touched (frame f) s) (c.settle.ensures.tracks s keeps) held
    (λ k is. st.holds.pager.whole.one_home k home c.args.q is held) (c.settle-2.ensures.tracks (touched (frame f) s) (c.settle.ensures.tracks s keeps)))

pub returns-in_default-clause-drawn : goal.returns-in_default-clause-drawn
returns-in_default-clause-drawn g c made m h =
    let st = c.settle.ensures.settles m h in
    settle_missed c.args.g.0 m (sym h.missed ∙ c.requires.drawn) ∙ sym st.holds.missed ∙ c.if-self.false

pub returns-clause-drawn : goal.returns-clause-drawn
returns-clause-drawn g c made m h =
    let st = c.settle.ensures.settles m h in
    settle_missed c.args.g.0 m (sym h.missed ∙ c.requires.drawn) ∙ sym st.holds.missed ∙ c.if-self.false

pub returns-then-self-clause-spends : goal.returns-then-self-clause-spends
unfolding returns-then-self-clause-rooms
returns-then-self-clause-spends g c m h =
    rooms_spend g.E.Emit.gave c.args.e.now _ c.args.self.now _ _ c.args.q c.args.g.0 m (returns-then-self-clause-rooms g c m h)
    (c.settle.ensures.spends m h)

pub returns-in_default-clause-spends : goal.returns-in_default-clause-spends
unfolding returns-in_default-clause-rooms
returns-in_default-clause-spends g c m h =
    rooms_spend g.E.Emit.gave c.args.e.now _ c.args.self.now _ _ c.args.q c.args.g.0 m (returns-in_default-clause-rooms g c m h)
    (c.settle.ensures.spends m h)

pub returns-clause-spends : goal.returns-clause-spends
unfolding returns-clause-rooms
returns-clause-spends g c m h =
    let f = c.args.g.0 in
    let home = c.in-Some.home.0 in
    let st = c.settle.ensures.settles m h in
    let m1 = (settle f m).memory in
    let old = c.args.self.now in
    let mid = c.settle.new.self in
    let new = c.settle-2.new.self in
    rooms_spend g.E.Emit.gave c.args.e.now _ old new _ c.args.q f m (returns-clause-rooms g c m h)
    (spends_more (0 + 0) 0 (length (settle f m).ciphers + length (settle home m1).ciphers) (length ((settle f m).ciphers ++ (settle home m1).ciphers))
    (spent_in old) (spent_in new) (let both = length-append (settle f m).ciphers (settle home m1).ciphers in omega (arith, both))
    (spends_then 0 0 (length (settle f m).ciphers) (length (settle home m1).ciphers) (spent_in old) (spent_in mid) (spent_in new)
    (c.settle.ensures.spends m h) (c.settle-2.ensures.spends m1 st.holds)))

pub returns-then-self-clause-maps : goal.returns-then-self-clause-maps
returns-then-self-clause-maps g c = maps_killed c.args.self.now c.settle.new.self _ c.args.g c.settle.ensures.ends

pub returns-in_default-clause-maps : goal.returns-in_default-clause-maps
returns-in_default-clause-maps g c = maps_killed c.args.self.now c.settle.new.self _ c.args.g c.settle.ensures.ends

pub returns-clause-maps : goal.returns-clause-maps
returns-clause-maps g c =
    maps_then c.args.self.now c.settle.new.self c.settle-2.new.self
    (maps_killed c.args.self.now c.settle.new.self _ c.args.g c.settle.ensures.ends)
    (maps_killed c.settle.new.self c.settle-2.new.self _ c.in-Some.home c.settle-2.ensures.ends)
