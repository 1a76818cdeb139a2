-- A side after a call on its memory.
use Rattle.std.proofs.Common.{suc, ◌≡◌, ◌≢◌, ◌==◌, ◌+◌, arith, ℕ, Bool, true, cond, Option, None, length, map, slice_index_or, List, [], ◌∷◌, ◌++◌, append-nil, refl, ap}
use Rattle.std.proofs.Common.{sym, ◌∙◌, subst}
use Rattle.std.proofs.lemmas.List.{length-set}
use Rattle.cloak_model.specs.declared.regime.InsideRegime.{InsideRegime}
use Rattle.cloak_model.specs.Cloaking.{CloakedMemory, settle}
use Rattle.cloak_model.specs.Items.{Item}
use Rattle.cloak_model.specs.Events.{Event, Read, Touch, Write}
use Rattle.cloak_model.specs.World.{World, MidStep, Flat, Cloaked, Alone, cipher_items, noted, settled, settled_in, ram_of, stored_at, written}
use Rattle.cloak_model.specs.World.{filled_frame}
use Rattle.cloak_base.specs.Constants.{frame_of, place_of, is_in_frames}
use Rattle.cloak_model.specs.Memory.{with_value_in, is_in_ram, unless_written, word_at}
use Rattle.cloak_model.specs.Asking.{FollowsFrom, Keeps, answered}
use Rattle.cloak_model.specs.Ask.{ask_word, shown_word}
use Rattle.cloak_model.specs.Exchange.{Piece, Emits, EmitsSome, item_pieces}
use Rattle.cloak_base.specs.declared.names.PageId.{PageId}
use Rattle.cloak_model.specs.Cloaking.{with_shown_frame}
use Rattle.cloak_pager.specs.Relation.{StandsForMemory}
use Rattle.cloak_pager.specs.Asking.{SeesFrame}
use Rattle.cloak_pager.specs.Turns.{IsReadOnce, HasBytes, MetasTurn}
use Rattle.cloak_pager.proofs.Calls.{stands_read}
use Rattle.cloak_base.specs.declared.names.Frame.{Frame}
use Rattle.shadow_fold.specs.Keeping.{Agrees}
use Rattle.shadow_fold.specs.Entries.{is_table}
use Rattle.shadow_fold.specs.Table.{Table, ending}
use Rattle.shadow_fold.specs.declared.entry.Regime.{Regime}
use Rattle.shadow_law.specs.Agreeing.{present}
use Rattle.shadow_law.proofs.Tables.{write_agrees}
use Rattle.cloaked_side.specs.Holding.{Holds, Settles, SameSize, HoldsNoMore, domains_in, frames_of}
use Rattle.cloaked_side.specs.Leading.{ReachLeaves}
use Rattle.cloaked_side.specs.Seeing.{CanRead, CanWrite, IsOwnPage, IsRegimeFor, Sees, SeesCloak, SeesCounted}
use Rattle.cloaked_side.specs.Seeing.{SeesWalking, Stays, StaysWithin, WritesOnly}
use Rattle.cloaked_side.specs.Seeing.{asked_by, paid, space_in, touched_since}
use Rattle.cloak_base.specs.declared.names.Meta.{Meta}
use Rattle.protect_meta.specs.Pages.{IsIn}
use Rattle.protect_meta.specs.Table.{domains_of}
use Rattle.cloak_pager.specs.State.{PagerState, held_in}
use Rattle.cloak_model.proofs.Emitting.{emits_none, emits_items, some_then}
use Rattle.cloaked_side.proofs.Marking.{stands_remarked}
use Rattle.cloaked_side.proofs.Holders.{no_more_self, no_more_then, no_more_rights}
use Rattle.cloaked_side.proofs.Translating.{agrees_read, agrees_rights, ending_frames}
use Rattle.cloaked_side.specs.Offering.{OfferLeaves}
use Rattle.cloaked_side.specs.Tracking.{Tracks, TracksBy, MapsBy, MapsStill, spent_in}
use Rattle.shadow_fold.specs.Reads.{Spends, SpendsFor, looks_in, reads_due}
use Rattle.cloaked_side.proofs.Spending.{paid_is, spends_looks, spends_more, spends_on, spends_then, spends_read, spends_still, spends_ended, due_events, due_items, due_event, ciphers_due, maps_ending, maps_further, maps_of, maps_on, maps_same, maps_still, since_then}
use Rattle.cloaked_side.proofs.Tracking.{no_events, read_held, respaced, same_tracks, tracks_on, tracks_read, tracks_same, tracks_touch}
use Rattle.shadow_fold.specs.Fold.{Fold, after_events, frame, touched}
use Rattle.cloaked_side.specs.declared.memory.Memory.{Memory}
use Rattle.cloaked_side.specs.declared.program_side.ProgramSide.{ProgramSide}
use Rattle.cloaked_side.specs.declared.side.Side.{Side}
use Rattle.cloak_base.specs.declared.causes.Violation.{Violation}
use Rattle.cloak_base.specs.declared.names.Kind.{Kind}
use Rattle.cloak_base.specs.declared.names.Kind.TheVariants.{Store}
use Rattle.cloak_model.specs.declared.answer.Answer.{Answer}
use Rattle.cloak_model.specs.declared.answer.Answer.TheVariants as answer
use Rattle.shadow_fold.proofs.Looks.{looks_then}

-- What calls did to a side that sees this: events and items more, and a memory that went on with them.
pub counted_on : {E : Type 0} (gave : E → E → List Piece → Type 0) (first old new : Side E) (c c' : MidStep) (left more : ℕ)
    (es : List Event) (is : List Item) → c'.events ≡ c.events ++ es → c'.items ≡ c.items ++ is → c'.violation ≡ new.violation →
    c'.regime ≡ c.regime → new.domain ≡ old.domain → new.regime ≡ old.regime → Holds new.memory.now c'.memory →
    Emits gave first.emitter.now new.emitter.now (item_pieces (c.items ++ is)) →
    TracksBy old.memory.now new.memory.now (after_events (space_in new.regime) es) →
    Spends 0 (reads_due (record { space = space_in new.regime; events = es; items = is; changed = [] })) (spent_in old.memory.now) (spent_in new.memory.now) →
    MapsBy old.memory.now new.memory.now (space_in new.regime) es →
    SeesCounted gave first old c left more → SeesCounted gave first new c' left more
counted_on gave first old new c c' left more es is evented itemed violated viewed domain regime holds emits tracks spends maps sees = record {
  holds = holds;
  emits = subst (λ (xs : List Item). Emits gave first.emitter.now new.emitter.now (item_pieces xs)) (sym itemed) emits;
  violation = sym violated;
  domain = domain ∙ sees.domain ∙ sym (ap (λ (v : InsideRegime). v.domain) viewed);
  regime = subst (λ (r : Regime). IsRegimeFor c'.regime r) (sym regime) (subst (λ (v : InsideRegime). IsRegimeFor v old.regime) (sym viewed) sees.regime);
  tracks = subst (λ (xs : List Event). TracksBy first.memory.now new.memory.now (after_events (space_in new.regime) xs)) (sym evented)
      (tracks_on first.memory.now old.memory.now new.memory.now (space_in new.regime) c.events es
      (respaced first.memory.now old.memory.now (space_in old.regime) (space_in new.regime) c.events (ap space_in regime) sees.tracks) tracks);
  spends = subst (λ (x : List Event × List Item). SpendsFor (looks_in x.0) left
      (paid more (reads_due (record { space = space_in new.regime; events = x.0; items = x.1; changed = [] }))) (spent_in first.memory.now) (spent_in new.memory.now))
      (λ i. (sym evented i, sym itemed i))
      (spends_on left more (space_in new.regime) c.events es c.items is (spent_in first.memory.now) (spent_in old.memory.now) (spent_in new.memory.now)
      sees.spends spends);
  maps = subst (λ (xs : List Event). MapsBy first.memory.now new.memory.now (space_in new.regime) xs) (sym evented)
      (maps_on first.memory.now old.memory.now new.memory.now (space_in new.regime) c.events es
      (maps_of first.memory.now old.memory.now (space_in old.regime) (space_in new.regime) c.events (ap space_in regime) sees.maps) maps);
}

-- events that leave a memory as it is

pub sees_also : {E : Type 0} (gave : E → E → List Piece → Type 0) (first now : Side E) (c : MidStep) (left more : ℕ) (events : List Event) →
    TracksBy now.memory.now now.memory.now (after_events (space_in now.regime) events) → SeesCounted gave first now c left more →
    SeesCounted gave first now (record c { events = c.events ++ events }) left more
sees_also gave first now c left more events still sees = record {
  holds = sees.holds;
  emits = sees.emits;
  violation = sees.violation;
  domain = sees.domain;
  regime = sees.regime;
  tracks = tracks_on first.memory.now now.memory.now now.memory.now (space_in now.regime) c.events events sees.tracks still;
  spends = (
      let further = due_events (space_in now.regime) c.events events c.items in
      let few = paid_is more (reads_due (asked_by (space_in now.regime) c)) in
      let many = paid_is more (reads_due (record { space = space_in now.regime; events = c.events ++ events; items = c.items; changed = [] })) in
      let looks = looks_then c.events events in
      spends_looks (omega (arith, looks))
      (spends_more left left (paid more (reads_due (asked_by (space_in now.regime) c))) _ (spent_in first.memory.now) (spent_in now.memory.now)
      (omega (arith, further, few, many)) sees.spends)
      );
  maps = maps_on first.memory.now now.memory.now now.memory.now (space_in now.regime) c.events events sees.maps (λ mapped make are. are);
}

pub sees_noted : {E : Type 0} (gave : E → E → List Piece → Type 0) (first now : Side E) (events : List Event)
    (w : World) → TracksBy now.memory.now now.memory.now (after_events (space_in now.regime) events) → Sees gave first now w →
    Sees gave first now (noted events w)
sees_noted gave first now events (Flat ram) still sees = sees
sees_noted gave first now events (Alone handed) still sees = sees
sees_noted gave first now events (Cloaked c) still sees = sees_also gave first now c 0 0 events still sees

-- an item more, and the memory as it was
pub sees_written : {E : Type 0} (gave : E → E → List Piece → Type 0) (first old new : Side E) (i : Item) (w : World) →
    new.memory ≡ old.memory → new.violation ≡ old.violation → new.domain ≡ old.domain → new.regime ≡ old.regime →
    Emits gave old.emitter.now new.emitter.now (item_pieces (i ∷ [])) → Sees gave first old w → Sees gave first new (written i w)
sees_written gave first old new i (Flat ram) memory violation domain regime emits sees = sees
sees_written gave first old new i (Alone handed) memory violation domain regime emits sees = sees
sees_written gave first old new i (Cloaked c) memory violation domain regime emits sees = record {
  holds = subst (λ x. Holds x.now c.memory) (sym memory) sees.holds;
  emits = emits_items c.items (i ∷ []) sees.emits emits;
  violation = violation ∙ sees.violation;
  domain = domain ∙ sees.domain;
  regime = subst (λ (r : Regime). IsRegimeFor c.regime r) (sym regime) sees.regime;
  tracks = subst (λ x. TracksBy first.memory.now x.now (after_events (space_in new.regime) c.events)) (sym memory)
      (respaced first.memory.now old.memory.now (space_in old.regime) (space_in new.regime) c.events (ap space_in regime) sees.tracks);
  spends = subst (λ x. SpendsFor (looks_in c.events) 0 (reads_due (asked_by (space_in new.regime) (record c { items = c.items ++ i ∷ [] })))
      (spent_in first.memory.now) (spent_in x.now)) (sym memory)
      (spends_more 0 0 (reads_due (asked_by (space_in old.regime) c)) _ (spent_in first.memory.now) (spent_in old.memory.now)
      (let further = due_items (space_in old.regime) c.events c.items (i ∷ []) in omega (arith, further)) sees.spends);
  maps = subst (λ x. MapsBy first.memory.now x.now (space_in new.regime) c.events) (sym memory)
      (maps_of first.memory.now old.memory.now (space_in old.regime) (space_in new.regime) c.events (ap space_in regime) sees.maps);
}

pub counted_settled : {E : Type 0} (gave : E → E → List Piece → Type 0) (first old new : Side E) (f : ℕ) (c : MidStep) (left more : ℕ) →
    ((m : CloakedMemory) → Holds old.memory.now m →
    Settles gave old.emitter.now new.emitter.now new.memory.now (settle f m)) →
    TracksBy old.memory.now new.memory.now (touched (frame f)) →
    ((m : CloakedMemory) → Holds old.memory.now m → Spends 0 (length (settle f m).ciphers) (spent_in old.memory.now) (spent_in new.memory.now)) →
    MapsStill old.memory.now new.memory.now →
    new.violation ≡ old.violation → new.domain ≡ old.domain → new.regime ≡ old.regime →
    SeesCounted gave first old c left more → SeesCounted gave first new (settled_in f c) left more
counted_settled gave first old new f c left more settles tracks spends maps violation domain regime sees =
    let s = settles c.memory sees.holds in
    let cs = (settle f c.memory).ciphers in
    let due : reads_due (record { space = space_in new.regime; events = Touch f ∷ []; items = cipher_items cs; changed = [] }) ≡ length cs =
    (let shown = ciphers_due cs in omega (arith, shown)) in
    counted_on gave first old new c (settled_in f c) left more (Touch f ∷ []) (cipher_items cs) refl refl (sym (violation ∙ sees.violation)) refl
    domain regime s.holds (emits_items c.items (cipher_items cs) sees.emits s.emits)
    (tracks_touch old.memory.now new.memory.now (space_in new.regime) f tracks)
    (subst (λ (n : ℕ). Spends 0 n (spent_in old.memory.now) (spent_in new.memory.now)) (sym due) (spends c.memory sees.holds))
    (maps_still old.memory.now new.memory.now (space_in new.regime) (Touch f ∷ []) maps) sees

pub sees_settled : {E : Type 0} (gave : E → E → List Piece → Type 0) (first old new : Side E) (f : ℕ) (w : World) →
    ((m : CloakedMemory) → Holds old.memory.now m →
    Settles gave old.emitter.now new.emitter.now new.memory.now (settle f m)) →
    TracksBy old.memory.now new.memory.now (touched (frame f)) →
    ((m : CloakedMemory) → Holds old.memory.now m → Spends 0 (length (settle f m).ciphers) (spent_in old.memory.now) (spent_in new.memory.now)) →
    MapsStill old.memory.now new.memory.now →
    new.violation ≡ old.violation → new.domain ≡ old.domain → new.regime ≡ old.regime →
    Sees gave first old w → Sees gave first new (settled f w)
sees_settled gave first old new f (Flat ram) settles tracks spends maps violation domain regime sees = sees
sees_settled gave first old new f (Alone handed) settles tracks spends maps violation domain regime sees = sees
sees_settled gave first old new f (Cloaked c) settles tracks spends maps violation domain regime sees =
    counted_settled gave first old new f c 0 0 settles tracks spends maps violation domain regime sees

pub same_size : {memory : Memory} → SameSize memory memory
same_size = record { frames = refl; domains = refl }

size_then : (a b c : Memory) → SameSize a b → SameSize b c → SameSize a c
size_then a b c first second =
    record { frames = second.frames ∙ first.frames; domains = second.domains ∙ first.domains }

pub stays_self : {E : Type 0} (gave : E → E → List Piece → Type 0) (side : Side E) → Stays gave side side
stays_self gave side = record {
  same_memory = refl;
  same_emitter = refl;
  emits_some = ([], emits_none gave side.emitter.now);
  size = same_size;
  domain = refl;
  regime = refl;
  counting = refl;
  others = λ k q n e. e;
}

pub within_self : {E : Type 0} (gave : E → E → List Piece → Type 0) (side : Side E) → StaysWithin gave side side
within_self gave side = record { stays = stays_self gave side; no_more = no_more_self side.memory.now.pager }

pub stays_then : {E : Type 0} (gave : E → E → List Piece → Type 0) (first old new : Side E) → Stays gave first old →
    Stays gave old new → Stays gave first new
stays_then gave first old new s t = record {
  same_memory = t.same_memory ∙ s.same_memory;
  same_emitter = t.same_emitter ∙ s.same_emitter;
  emits_some = some_then s.emits_some t.emits_some;
  size = size_then first.memory.now old.memory.now new.memory.now s.size t.size;
  domain = t.domain ∙ s.domain;
  regime = t.regime ∙ s.regime;
  counting = t.counting ∙ s.counting;
  others = λ k q n e. s.others k q n (t.others k q (subst (λ (d : ℕ). q.domain ≢ d) (sym s.domain) n) e);
}

pub within_then : {E : Type 0} (gave : E → E → List Piece → Type 0) (first old new : Side E) →
    StaysWithin gave first old → StaysWithin gave old new → StaysWithin gave first new
within_then gave first old new s t = record {
  stays = stays_then gave first old new s.stays t.stays;
  no_more = no_more_then _ old.memory.now.pager _ s.no_more t.no_more;
}

-- what stays of a side in calls that offer nothing stays of it
pub stays_on : {E : Type 0} (gave : E → E → List Piece → Type 0) (first old new : Side E) →
    Keeps (StaysWithin gave) old new → Stays gave first old → Stays gave first new
stays_on gave first old new keeps s = stays_then gave first old new s (keeps old (within_self gave old)).stays

-- another memory and emitter behind the same references
pub within_more : {E : Type 0} (gave : E → E → List Piece → Type 0) (first old new : Side E) →
    StaysWithin gave first old →
    new.memory.ghost_name ≡ old.memory.ghost_name → new.emitter.ghost_name ≡ old.emitter.ghost_name →
    EmitsSome gave old.emitter.now new.emitter.now → SameSize old.memory.now new.memory.now → new.domain ≡ old.domain →
    new.regime ≡ old.regime → new.memory.now.counting ≡ old.memory.now.counting →
    HoldsNoMore old.memory.now.pager new.memory.now.pager → StaysWithin gave first new
within_more gave first old new s memory emitter some size domain regime counting less = within_then gave first old new s (record {
  stays = record {
    same_memory = memory;
    same_emitter = emitter;
    emits_some = some;
    size = size;
    domain = domain;
    regime = regime;
    counting = counting;
    others = λ k q n e. less.held k q e;
  };
  no_more = less;
})

-- the emitter was given something, and the memory is the same
pub writes_only : {E : Type 0} (gave : E → E → List Piece → Type 0) (old new : Side E) → new.memory ≡ old.memory →
    new.emitter.ghost_name ≡ old.emitter.ghost_name → EmitsSome gave old.emitter.now new.emitter.now →
    new.domain ≡ old.domain → new.regime ≡ old.regime → WritesOnly gave old new
writes_only gave old new memory emitter some domain regime = record {
  keeps = λ first stays. within_more gave first old new stays (ap (λ m. m.ghost_name) memory) emitter some
      (record { frames = ap (λ m. frames_of m.now) memory; domains = ap (λ m. domains_in m.now) memory }) domain regime
      (ap (λ m. m.now.counting) memory)
      (subst (λ m. HoldsNoMore old.memory.now.pager m.now.pager) (sym memory) (no_more_self _));
  same = memory;
  domain = domain;
}

-- a side after a call on its memory and its emitter
abbrev pub after_call : {E : Type 0} → Side E → Memory → E → Side E
after_call old memory e = record old {
  memory = record old.memory { now = memory };
  emitter = record old.emitter { now = e };
}

-- only the pager is another one, of the same size, in which frames hold no more
pub within_repaged : {E : Type 0} (gave : E → E → List Piece → Type 0) (first old new : Side E) →
    StaysWithin gave first old →
    new.memory.ghost_name ≡ old.memory.ghost_name → new.emitter ≡ old.emitter →
    SameSize old.memory.now new.memory.now → new.domain ≡ old.domain → new.regime ≡ old.regime →
    new.memory.now.counting ≡ old.memory.now.counting → HoldsNoMore old.memory.now.pager new.memory.now.pager →
    StaysWithin gave first new
within_repaged gave first old new s memory emitter size domain regime counting less =
    within_more gave first old new s memory (ap (λ e. e.ghost_name) emitter)
    (subst (λ e. EmitsSome gave old.emitter.now e.now) (sym emitter) ([], emits_none gave old.emitter.now)) size domain
    regime counting less

-- another pager, and all else of the side as it was
pub record Repaged {E : Type 0} (old new : Side E) : Type 0 where
  pub stream : new.memory.now.stream ≡ old.memory.now.stream
  pub draws : new.memory.now.draws ≡ old.memory.now.draws
  pub missed : new.memory.now.missed ≡ old.memory.now.missed
  pub marks : new.memory.now.reservations ≡ old.memory.now.reservations
  pub emitter : new.emitter.now ≡ old.emitter.now
  pub violation : new.violation ≡ old.violation
  pub domain : new.domain ≡ old.domain
  pub regime : new.regime ≡ old.regime

-- other reservations too, since a frame was written
pub record Rewritten {E : Type 0} (old new : Side E) : Type 0 where
  pub stream : new.memory.now.stream ≡ old.memory.now.stream
  pub draws : new.memory.now.draws ≡ old.memory.now.draws
  pub missed : new.memory.now.missed ≡ old.memory.now.missed
  pub emitter : new.emitter.now ≡ old.emitter.now
  pub violation : new.violation ≡ old.violation
  pub domain : new.domain ≡ old.domain
  pub regime : new.regime ≡ old.regime

repaged : {E : Type 0} (old new : Side E) → Repaged old new → Rewritten old new
repaged old new same = record {
  stream = same.stream;
  draws = same.draws;
  missed = same.missed;
  emitter = same.emitter;
  violation = same.violation;
  domain = same.domain;
  regime = same.regime;
}

-- another memory with this of its ledger as it was
pub record SameDraws (m m' : CloakedMemory) : Type 0 where
  pub stream : m'.ledger.stream ≡ m.ledger.stream
  pub draws : m'.ledger.draws ≡ m.ledger.draws
  pub missed : m'.ledger.missed ≡ m.ledger.missed

-- the known translations agree with what the memory is now, and there is room for as many frames
pub record AgreesStill (old new : Memory) (m m' : CloakedMemory) : Type 0 where
  pub agrees : Agrees (present (held_in old.pager) m) old.shadows → Agrees (present (held_in new.pager) m') new.shadows
  pub room : new.shadows.frames ≡ old.shadows.frames
  pub count : length new.pager.frames ≡ length old.pager.frames

pub still_read : (old new : Memory) (m : CloakedMemory) → IsReadOnce old.pager new.pager → new.shadows ≡ old.shadows →
    AgreesStill old new m m
still_read old new m read same = record {
  agrees = λ agrees. subst (λ (t : Table). Agrees (present (held_in new.pager) m) t) (sym same)
      (agrees_read old.pager new.pager m old.shadows read agrees);
  room = ap (λ (t : Table). t.frames) same;
  count = ap (λ (p : PagerState). length p.frames) read;
}

-- rights, frames and what is owed are as they were
pub still_turned : (old new : Memory) (m m' : CloakedMemory) → new.pager.rights ≡ old.pager.rights →
    length new.pager.frames ≡ length old.pager.frames → new.shadows ≡ old.shadows →
    ((held : ℕ → Option PageId) → present held m' ≡ present held m) → AgreesStill old new m m'
still_turned old new m m' rights count same seen = record {
  agrees = λ agrees. subst (λ (t : Table). Agrees (present (held_in new.pager) m') t) (sym same)
      (subst (λ p. Agrees p old.shadows) (sym (seen (held_in new.pager)))
      (agrees_rights old.pager new.pager m old.shadows rights agrees));
  room = ap (λ (t : Table). t.frames) same;
  count = count;
}

still_remarked : (old new : Memory) (m m' : CloakedMemory) (marks : List (Option ℕ)) → AgreesStill old new m m' →
    AgreesStill old new m (record m' { marks = marks })
still_remarked old new m m' marks still = record { agrees = still.agrees; room = still.room; count = still.count }

-- so it is of every memory that shows the same
abbrev pub AgreesAlways : Memory → Memory → Type 0
AgreesAlways old new = (m m' : CloakedMemory) → ((held : ℕ → Option PageId) → present held m' ≡ present held m) → AgreesStill old new m m'

pub written_count : (old new : PagerState) (f : ℕ) (bytes : List ℕ) → HasBytes old new f bytes →
    length new.frames ≡ length old.frames
written_count old new f bytes written =
    ap (λ (xs : List (List ℕ)). length xs) written.frames_are ∙ length-set old.frames f bytes

pub turned_count : (old new : PagerState) (metas : PageId → Option Meta) → MetasTurn old new metas →
    length new.frames ≡ length old.frames
turned_count old new metas turned = ap (λ (xs : List (List ℕ)). length xs) turned.frames_are

-- a frame was written, and the translations through it ended
pub still_written : (old new : Memory) (m : CloakedMemory) (f : Frame) (n : ℕ) (bytes shown : List ℕ) → f.0 ≡ n →
    HasBytes old.pager new.pager f.0 bytes → new.shadows ≡ ending (is_table f) old.shadows →
    AgreesStill old new m (with_shown_frame n shown m)
still_written old new m f n bytes shown is written same = record {
  agrees = λ agrees. subst (λ (t : Table). Agrees (present (held_in new.pager) (with_shown_frame n shown m)) t) (sym same)
      (subst (λ (k : ℕ). Agrees (present (held_in new.pager) (with_shown_frame k shown m)) (ending (is_table f) old.shadows)) is
      (write_agrees (held_in new.pager) m f.0 shown old.shadows
      (agrees_rights old.pager new.pager m old.shadows written.rights_are agrees)));
  room = ap (λ (t : Table). t.frames) same ∙ ending_frames (is_table f) old.shadows;
  count = written_count old.pager new.pager f.0 bytes written;
}

-- another memory, and these events more
pub counted_moved : {E : Type 0} (gave : E → E → List Piece → Type 0) (first old new : Side E) (c : MidStep)
    (m' : CloakedMemory) (events : List Event) (left more : ℕ) → Rewritten old new → SameDraws c.memory m' →
    (old.memory.now.reservations ≡ c.memory.marks → new.memory.now.reservations ≡ m'.marks) →
    AgreesStill old.memory.now new.memory.now c.memory m' →
    ((w : PageId → Bool) → StandsForMemory old.memory.now.pager w c.memory →
    StandsForMemory new.memory.now.pager w m') →
    TracksBy old.memory.now new.memory.now (after_events (space_in new.regime) events) →
    Spends 0 (reads_due (record { space = space_in new.regime; events = events; items = []; changed = [] })) (spent_in old.memory.now) (spent_in new.memory.now) →
    MapsStill old.memory.now new.memory.now →
    SeesCounted gave first old c left more → SeesCounted gave first new (record c { memory = m'; events = c.events ++ events }) left more
counted_moved gave first old new c m' events left more same kept marks still stands tracks spends maps sees =
    let h = sees.holds in
    counted_on gave first old new c (record c { memory = m'; events = c.events ++ events }) left more events [] refl
    (sym (append-nil c.items)) (sym (same.violation ∙ sees.violation)) refl same.domain same.regime
    (record {
      wiped = h.wiped;
      pager = stands h.wiped h.pager;
      whole = λ none. h.whole (sym same.missed ∙ none);
      stream = kept.stream ∙ h.stream ∙ sym same.stream;
      draws = same.draws ∙ h.draws ∙ sym kept.draws;
      missed = same.missed ∙ h.missed ∙ sym kept.missed;
      agrees = still.agrees h.agrees;
      room = still.room ∙ h.room ∙ sym still.count;
      marks = marks h.marks;
    })
    (subst (λ (is : List Item). Emits gave first.emitter.now new.emitter.now (item_pieces is)) (sym (append-nil c.items))
    (subst (λ e. Emits gave first.emitter.now e (item_pieces c.items)) (sym same.emitter) sees.emits))
    tracks spends (maps_still old.memory.now new.memory.now (space_in new.regime) events maps) sees

-- and no events
pub sees_still : {E : Type 0} (gave : E → E → List Piece → Type 0) (first old new : Side E) (c : MidStep)
    (m' : CloakedMemory) → Repaged old new → SameDraws c.memory m' → m'.marks ≡ c.memory.marks →
    AgreesStill old.memory.now new.memory.now c.memory m' →
    ((w : PageId → Bool) → StandsForMemory old.memory.now.pager w c.memory →
    StandsForMemory new.memory.now.pager w m') →
    ((s : Fold) → Tracks old.memory.now s → Tracks new.memory.now s) →
    new.memory.now.pager.reads ≡ old.memory.now.pager.reads → new.memory.now.shadows ≡ old.memory.now.shadows →
    SeesCloak gave first old c → SeesCloak gave first new (record c { memory = m' })
sees_still gave first old new c m' same kept marks still stands tracks reads shadows sees =
    subst (λ (es : List Event). SeesCloak gave first new (record c { memory = m'; events = es })) (append-nil c.events)
    (counted_moved gave first old new c m' [] 0 0 (repaged old new same) kept (λ is. same.marks ∙ is ∙ sym marks) still stands
    (λ s keeps. subst (λ (u : Fold). Tracks new.memory.now u) (no_events (space_in new.regime) s) (tracks s keeps))
    (spends_still old.memory.now new.memory.now reads (ap (λ (t : Table). t.counts.misses) shadows))
    (maps_same old.memory.now new.memory.now shadows) sees)

-- A frame was read, and events came about.
pub counted_read : {E : Type 0} (gave : E → E → List Piece → Type 0) (first old new : Side E) (c : MidStep) (left more : ℕ) →
    Repaged old new → new.memory.now.shadows ≡ old.memory.now.shadows → new.memory.now.counting ≡ old.memory.now.counting →
    IsReadOnce old.memory.now.pager new.memory.now.pager → SeesCounted gave first old c left more →
    SeesCounted gave first new c left (more + 1)
counted_read gave first old new c left more same shadows counting read sees =
    let h = sees.holds in
    let still = still_read old.memory.now new.memory.now c.memory read shadows in
    record {
      holds = record {
        wiped = h.wiped;
        pager = stands_read _ _ read h.wiped c.memory h.pager;
        whole = λ none. h.whole (sym same.missed ∙ none);
        stream = h.stream ∙ sym same.stream;
        draws = same.draws ∙ h.draws;
        missed = same.missed ∙ h.missed;
        agrees = still.agrees h.agrees;
        room = still.room ∙ h.room ∙ sym still.count;
        marks = same.marks ∙ h.marks;
      };
      emits = subst (λ e. Emits gave first.emitter.now e (item_pieces c.items)) (sym same.emitter) sees.emits;
      violation = same.violation ∙ sees.violation;
      domain = same.domain ∙ sees.domain;
      regime = subst (λ (r : Regime). IsRegimeFor c.regime r) (sym same.regime) sees.regime;
      tracks = tracks_same first.memory.now old.memory.now new.memory.now (space_in new.regime) c.events
          (respaced first.memory.now old.memory.now (space_in old.regime) (space_in new.regime) c.events (ap space_in same.regime) sees.tracks)
          (same_tracks _ _ _ _ (held_in old.memory.now.pager) (held_in new.memory.now.pager) counting shadows
          (read_held old.memory.now.pager new.memory.now.pager read));
      spends = (
          let n = reads_due (asked_by (space_in old.regime) c) in
          let few = paid_is more n in
          let many = paid_is (more + 1) n in
          spends_looks (omega arith)
          (spends_more (left + 0) left (paid more n + 1) (paid (more + 1) n)
          (spent_in first.memory.now) (spent_in new.memory.now) (omega (arith, few, many))
          (spends_then left 0 (paid more n) 1 (spent_in first.memory.now) (spent_in old.memory.now) (spent_in new.memory.now)
          sees.spends (spends_read old.memory.now new.memory.now read (ap (λ (t : Table). t.counts.misses) shadows))))
          );
      maps = maps_further first.memory.now old.memory.now new.memory.now (space_in new.regime) c.events
          (maps_of first.memory.now old.memory.now (space_in old.regime) (space_in new.regime) c.events (ap space_in same.regime) sees.maps)
          (maps_same old.memory.now new.memory.now shadows);
    }

-- one more read is due by the event of it
counted_event : {E : Type 0} (gave : E → E → List Piece → Type 0) (first now : Side E) (c : MidStep) (f : ℕ) →
    SeesCounted gave first now c 0 1 → SeesCloak gave first now (record c { events = c.events ++ Read f ∷ [] })
counted_event gave first now c f sees =
    record {
      holds = sees.holds;
      emits = sees.emits;
      violation = sees.violation;
      domain = sees.domain;
      regime = sees.regime;
      tracks = tracks_on first.memory.now now.memory.now now.memory.now (space_in now.regime) c.events (Read f ∷ []) sees.tracks
          (tracks_read now.memory.now (space_in now.regime) f);
      spends = spends_looks (let looks = looks_then c.events (Read f ∷ []) in omega (arith, looks))
          (spends_more 0 0 (suc (reads_due (asked_by (space_in now.regime) c))) _ (spent_in first.memory.now) (spent_in now.memory.now)
          (let both : reads_due (record { space = space_in now.regime; events = c.events ++ Read f ∷ []; items = c.items; changed = [] })
          ≡ reads_due (asked_by (space_in now.regime) c) + 1 = due_event (space_in now.regime) c.events c.items (Read f) in omega (arith, both)) sees.spends);
      maps = maps_on first.memory.now now.memory.now now.memory.now (space_in now.regime) c.events (Read f ∷ []) sees.maps (λ mapped make are. are);
    }

-- Frame f was read: what is shown of it is what the world shows.
pub read_after : {E A : Type 0} (gave : E → E → List Piece → Type 0) (first old new : Side E) (f : ℕ) (v : World)
    (show : List ℕ → A) (bytes : List ℕ) (a : A) → Repaged old new →
    new.memory.now.shadows ≡ old.memory.now.shadows → new.memory.now.counting ≡ old.memory.now.counting →
    SeesFrame old.memory.now.pager f bytes → IsReadOnce old.memory.now.pager new.memory.now.pager → a ≡ show bytes →
    Sees gave first old v → FollowsFrom (λ side w. Sees gave first side w) new a
    (record { answer = show (slice_index_or (ram_of v) f []); world = noted (Read f ∷ []) v })
read_after gave first old new f (Flat ram) show bytes a same shadows counting sees_frame read is sees = absurd sees
read_after gave first old new f (Alone handed) show bytes a same shadows counting sees_frame read is sees = absurd sees
read_after gave first old new f (Cloaked c) show bytes a same shadows counting sees_frame read is sees = record {
  answer = is ∙ ap show (sees_frame sees.holds.wiped c.memory sees.holds.pager);
  stands = counted_event gave first new c f (counted_read gave first old new c 0 0 same shadows counting read sees);
}

-- A value was stored in a frame.
pub stored_after : {E : Type 0} (gave : E → E → List Piece → Type 0) (first old new : Side E) (pa width value : ℕ)
    (v : World) → Rewritten old new →
    new.memory.now.reservations ≡ map (unless_written (λ mark. mark == word_at pa)) old.memory.now.reservations →
    ((m : CloakedMemory) → AgreesStill old.memory.now new.memory.now m (with_shown_frame (frame_of pa)
    (with_value_in (slice_index_or m.ram (frame_of pa) []) (place_of pa) width value) m)) →
    ((w : PageId → Bool) (m : CloakedMemory) → StandsForMemory old.memory.now.pager w m →
    StandsForMemory new.memory.now.pager w
    (with_shown_frame (frame_of pa)
    (with_value_in (slice_index_or m.ram (frame_of pa) []) (place_of pa) width value) m)) →
    TracksBy old.memory.now new.memory.now (after_events (space_in new.regime) (Write (frame_of pa) ∷ [])) →
    (g : Frame) → new.memory.now.pager.reads ≡ old.memory.now.pager.reads → new.memory.now.shadows ≡ ending (is_table g) old.memory.now.shadows →
    Sees gave first old v → FollowsFrom (λ side w. Sees gave first side w) new (tt {0})
    (record { answer = tt; world = stored_at pa width value v })
stored_after gave first old new pa width value (Flat ram) same marks still stands tracks g reads ended sees = absurd sees
stored_after gave first old new pa width value (Alone handed) same marks still stands tracks g reads ended sees = absurd sees
stored_after gave first old new pa width value (Cloaked c) same marks still stands tracks g reads ended sees =
    let m : CloakedMemory = c.memory in
    let shown : CloakedMemory = with_shown_frame (frame_of pa)
    (with_value_in (slice_index_or m.ram (frame_of pa) []) (place_of pa) width value) m in
    let left : List (Option ℕ) → List (Option ℕ) = λ xs. map (unless_written (λ mark. mark == word_at pa)) xs in
    record {
      answer = refl;
      stands = counted_moved gave first old new c (record shown { marks = left m.marks }) (Write (frame_of pa) ∷ []) 0 0 same
          (record { stream = refl; draws = refl; missed = refl }) (λ is. marks ∙ ap left is)
          (still_remarked old.memory.now new.memory.now m shown (left m.marks) (still m))
          (λ w s. stands_remarked new.memory.now.pager w shown (left m.marks) (stands w m s)) tracks
          (spends_ended old.memory.now new.memory.now g reads ended)
          (maps_ending old.memory.now new.memory.now (is_table g) ended) sees;
    }

-- A frame was filled.
pub filled_after : {E : Type 0} (gave : E → E → List Piece → Type 0) (first old new : Side E) (f : ℕ) (bytes : List ℕ)
    (v : World) → Rewritten old new →
    new.memory.now.reservations ≡ map (unless_written (λ mark. frame_of mark == f)) old.memory.now.reservations →
    ((m : CloakedMemory) → AgreesStill old.memory.now new.memory.now m (with_shown_frame f bytes m)) →
    ((w : PageId → Bool) (m : CloakedMemory) → StandsForMemory old.memory.now.pager w m →
    StandsForMemory new.memory.now.pager w (with_shown_frame f bytes m)) →
    TracksBy old.memory.now new.memory.now (after_events (space_in new.regime) (Write f ∷ [])) →
    (g : Frame) → new.memory.now.pager.reads ≡ old.memory.now.pager.reads → new.memory.now.shadows ≡ ending (is_table g) old.memory.now.shadows →
    Sees gave first old v → FollowsFrom (λ side w. Sees gave first side w) new (tt {0})
    (record { answer = tt; world = filled_frame f bytes v })
filled_after gave first old new f bytes (Flat ram) same marks still stands tracks g reads ended sees = absurd sees
filled_after gave first old new f bytes (Alone handed) same marks still stands tracks g reads ended sees = absurd sees
filled_after gave first old new f bytes (Cloaked c) same marks still stands tracks g reads ended sees = record {
  answer = refl;
  stands = counted_moved gave first old new c _ (Write f ∷ []) 0 0 same (record { stream = refl; draws = refl; missed = refl })
      (λ is. marks ∙ ap (λ (xs : List (Option ℕ)). map (unless_written (λ mark. frame_of mark == f)) xs) is) (still c.memory) (λ w s. stands w c.memory s) tracks (spends_ended old.memory.now new.memory.now g reads ended)
      (maps_ending old.memory.now new.memory.now (is_table g) ended) sees;
}

-- the world has as many frames as the memory
pub count_of : {E : Type 0} (gave : E → E → List Piece → Type 0) (first now : Side E) (v : World) →
    Sees gave first now v → length (ram_of v) ≡ frames_of now.memory.now
count_of gave first now (Flat ram) sees = absurd sees
count_of gave first now (Alone handed) sees = absurd sees
count_of gave first now (Cloaked c) sees = sees.holds.pager.count

pub count_walking : {E : Type 0} (gave : E → E → List Piece → Type 0) (first now : Side E) (v : World) →
    SeesWalking gave first now v → length (ram_of v) ≡ frames_of now.memory.now
count_walking gave first now (Flat ram) sees = absurd sees
count_walking gave first now (Alone handed) sees = absurd sees
count_walking gave first now (Cloaked c) sees = sees.holds.pager.count

-- In a walk a frame is settled, and a word of it read: the touch pays for the read.

pub walking_read : {E A : Type 0} (gave : E → E → List Piece → Type 0) (first old mid new : Side E) (f : ℕ) (v : World)
    (show : List ℕ → A) (bytes : List ℕ) (a : A) →
    ((m : CloakedMemory) → Holds old.memory.now m →
    Settles gave old.emitter.now mid.emitter.now mid.memory.now (settle f m)) →
    TracksBy old.memory.now mid.memory.now (touched (frame f)) →
    ((m : CloakedMemory) → Holds old.memory.now m → Spends 0 (length (settle f m).ciphers) (spent_in old.memory.now) (spent_in mid.memory.now)) →
    MapsStill old.memory.now mid.memory.now →
    mid.violation ≡ old.violation → mid.domain ≡ old.domain → mid.regime ≡ old.regime → Repaged mid new →
    new.memory.now.shadows ≡ mid.memory.now.shadows → new.memory.now.counting ≡ mid.memory.now.counting →
    SeesFrame mid.memory.now.pager f bytes → IsReadOnce mid.memory.now.pager new.memory.now.pager → a ≡ show bytes →
    SeesWalking gave first old v → FollowsFrom (λ side w. SeesWalking gave first side w) new a
    (record { answer = show (slice_index_or (ram_of (settled f v)) f []); world = settled f v })
walking_read gave first old mid new f (Flat ram) show bytes a settles tracks spends maps violation domain regime same shadows counting sees_frame read is sees = absurd sees
walking_read gave first old mid new f (Alone handed) show bytes a settles tracks spends maps violation domain regime same shadows counting sees_frame read is sees = absurd sees
walking_read gave first old mid new f (Cloaked c) show bytes a settles tracks spends maps violation domain regime same shadows counting sees_frame read is sees =
    let c' = settled_in f c in
    let n = touched_since 0 c.events in
    let seen : SeesCounted gave first mid c' 2 n = counted_settled gave first old mid f c 2 n settles tracks spends maps violation domain regime sees in
    record {
      answer = is ∙ ap show (sees_frame seen.holds.wiped c'.memory seen.holds.pager);
      stands = subst (λ (k : ℕ). SeesCounted gave first new c' 2 k) (sym (since_then 0 c.events (Touch f ∷ [])))
          (counted_read gave first mid new c' 2 n same shadows counting read seen);
    }

-- The word of an address in RAM.
pub word_told : {E : Type 0} (gave : E → E → List Piece → Type 0) (first old new : Side E) (w : World) (pa : ℕ)
    (a : Option ℕ) (b : Bool) → SeesWalking gave first old w → b ≡ is_in_frames (frames_of old.memory.now) pa → b ≡ true →
    FollowsFrom (λ side v. SeesWalking gave first side v) new a (shown_word pa (settled (frame_of pa) w)) →
    FollowsFrom (λ side v. SeesWalking gave first side v) new a (ask_word pa w)
unfolding ask_word
word_told gave first old new w pa a b sees is inside told =
    let in_ram : is_in_ram (ram_of w) pa ≡ true =
    ap (λ n. is_in_frames n pa) (count_walking gave first old w sees) ∙ sym is ∙ inside in
    subst (λ (t : Bool). FollowsFrom (λ side v. SeesWalking gave first side v) new a
    (cond t (shown_word pa (settled (frame_of pa) w)) (answered None w))) (sym in_ram) told

-- reading a frame leaves as many frames and domains
pub read_size : (old new : Memory) → IsReadOnce old.pager new.pager → SameSize old new
read_size old new read = record {
  frames = ap (λ (p : PagerState). length p.frames) read;
  domains =
      ap (λ (p : PagerState). domains_of p.table) read;
}

-- reading a frame, or writing one, leaves the rights
pub no_more_read : (old new : PagerState) → IsReadOnce old new → HoldsNoMore old new
no_more_read old new read = no_more_rights old new (ap (λ (p : PagerState). p.rights) read)

-- writing a frame leaves as many frames and domains
pub written_size : (old new : Memory) (f : ℕ) (bytes : List ℕ) → HasBytes old.pager new.pager f bytes → SameSize old new
written_size old new f bytes written = record {
  frames = ap (λ (xs : List (List ℕ)). length xs) written.frames_are ∙ length-set old.pager.frames f bytes;
  domains = written.domains_stay;
}

-- a page after calls that offer nothing
pub own_page_on : {E : Type 0} (gave : E → E → List Piece → Type 0) (old new : Side E) (q : PageId) →
    Keeps (StaysWithin gave) old new → IsOwnPage old q → IsOwnPage new q
own_page_on gave old new q keeps own = let kept = (keeps old (within_self gave old)).stays in record {
  page = subst (λ (n : ℕ). IsIn n q) (sym kept.size.domains) own.page;
  own = own.own ∙ sym kept.domain;
}

-- a page was reached after calls that offer nothing
pub reach_on : {E : Type 0} (gave : E → E → List Piece → Type 0) (old mid new : ProgramSide E) (q : PageId)
    (kind : Kind) (given : Answer) →
    Keeps (StaysWithin gave) old.side mid.side → ReachLeaves gave mid new q kind given →
    ReachLeaves gave old new q kind given
reach_on gave old mid new q kind given keeps leaves = record {
  keeps = λ first stays. leaves.keeps first (stays_on gave first old.side mid.side keeps stays);
  others = λ k p n e. (keeps old.side (within_self gave old.side)).no_more.held k p (leaves.others k p n e);
  readable = leaves.readable;
  writable = leaves.writable;
}

-- a page of the domain that is served was offered, and calls after it offered nothing
pub reach_offered : {E : Type 0} (gave : E → E → List Piece → Type 0) (old new : ProgramSide E) (memory : Memory)
    (e : E) (v : Option Violation) (q : PageId) (kind : Kind) (g : ℕ) (write granted : Bool) (given : Answer) →
    q.domain ≡ old.side.domain →
    OfferLeaves gave old.side.emitter.now e old.side.memory.now memory q g write granted →
    Keeps (StaysWithin gave) (record (after_call old.side memory e) { violation = v }) new.side →
    (given ≡ answer.Ok → CanRead new q) → (given ≡ answer.Ok → kind ≡ Store → CanWrite new q) →
    ReachLeaves gave old new q kind given
reach_offered {E} gave old new memory e v q kind g write granted given own leaves keeps readable writable = record {
  keeps = λ first stays. stays_on gave first mid new.side keeps (stays_then gave first old.side mid stays (record {
    same_memory = refl;
    same_emitter = refl;
    emits_some = leaves.emits_some;
    size = leaves.same;
    domain = refl;
    regime = refl;
    counting = leaves.counting;
    others = λ k p n h. leaves.others k p (λ same. n (ap (λ (x : PageId). x.domain) same ∙ own)) h;
  }));
  others = λ k p n h. leaves.others k p n ((keeps mid (within_self gave mid)).no_more.held k p h);
  readable = readable;
  writable = writable;
}
  where
    mid : Side E
    mid = record (after_call old.side memory e) { violation = v }

-- such calls alone, by which no page was reached
pub reach_refused : {E : Type 0} (gave : E → E → List Piece → Type 0) (old new : ProgramSide E) (q : PageId)
    (kind : Kind) (given : Answer) →
    Keeps (StaysWithin gave) old.side new.side → given ≢ answer.Ok → ReachLeaves gave old new q kind given
reach_refused gave old new q kind given keeps refused = record {
  keeps = λ first stays. stays_on gave first old.side new.side keeps stays;
  others = λ k p n e. (keeps old.side (within_self gave old.side)).no_more.held k p e;
  readable = λ ok. absurd (refused ok);
  writable = λ ok store. absurd (refused ok);
}

-- the same for what stays of it if pages are offered too
pub stays_repaged : {E : Type 0} (gave : E → E → List Piece → Type 0) (first old new : Side E) → Stays gave first old →
    new.memory.ghost_name ≡ old.memory.ghost_name → new.emitter ≡ old.emitter →
    SameSize old.memory.now new.memory.now → new.domain ≡ old.domain → new.regime ≡ old.regime →
    new.memory.now.counting ≡ old.memory.now.counting → HoldsNoMore old.memory.now.pager new.memory.now.pager →
    Stays gave first new
stays_repaged gave first old new s memory emitter size domain regime counting less =
    stays_then gave first old new s
    (within_repaged gave old old new (within_self gave old) memory emitter size domain regime counting less).stays

-- metadata alone leaves as many frames and domains
pub turned_size : (old new : Memory) (metas : PageId → Option Meta) → MetasTurn old.pager new.pager metas →
    SameSize old new
turned_size old new metas t =
    record { frames = ap (λ (xs : List (List ℕ)). length xs) t.frames_are; domains = t.domains_stay }

-- what stays of a side in a call that offers nothing, from the call on
pub within_of : {E : Type 0} (gave : E → E → List Piece → Type 0) (old new : Side E) →
    Keeps (StaysWithin gave) old new → StaysWithin gave old new
within_of gave old new keeps = keeps old (within_self gave old)
