-- Where an access leads by a known translation, and how translations become known.
use Rattle.std.proofs.Common.{◌≡◌, ◌∙◌, ◌⊎◌, ◌+◌, ◌/◌, ◌%◌, ◌<◌, ◌≤◌, ℕ, Bool, true, false, cond, List, [], ◌∷◌, length, ◌&&◌, Option, Some, None, is_some, Result, Ok, Err, refl, sym, ap, subst, arith, nat_le, inl, inr, find}
use Rattle.std.proofs.lemmas.Bool.{false≢true}
use Rattle.std.specs.Prelude.{◌++◌, IfSome}
use Rattle.std.proofs.lemmas.Option.{none-some}
use Rattle.cloak_base.proofs.Pages.{same_page_tells}
use Rattle.cloak_model.specs.AskPages.{is_store, replies, ask_led_inside, if_drawn, reached}
use Rattle.cloak_model.specs.Events.{Event, Look, Touch, Born}
use Rattle.cloak_model.specs.Cloaking.{CloakedMemory, owed_in, offer}
use Rattle.cloak_model.specs.World.{is_clashed, noted, settled, settled_in}
use Rattle.cloak_model.proofs.Later.{later_inside, later_loaded_at, later_stored_to}
use Rattle.cloak_base.specs.declared.names.Frame.{Frame}
use Rattle.cloak_pager.specs.State.{PagerState, IsWholePager}
use Rattle.cloak_pager.proofs.Stands.{owed_by_right}
use Rattle.shadow_fold.specs.Entries.{IsWithin, is_table}
use Rattle.shadow_fold.specs.Following.{AreBirthCalls}
use Rattle.shadow_fold.specs.Keeping.{Agrees}
use Rattle.shadow_fold.specs.Table.{is_known, one_more, with_room, emptied}
use Rattle.shadow_law.specs.Agreeing.{present, entry_walk, touches, AreOutside}
use Rattle.shadow_law.specs.Walks.{listed}
use Rattle.shadow_law.specs.Misses.{StayOutsideBut}
use Rattle.shadow_law.proofs.Misses.{asked_walk, open_entry_agrees, page_entry_agrees, entry_within, keeps_birth}
use Rattle.cloaked_side.specs.Holding.{HoldsNoMore, HoldsNoOther}
use Rattle.cloaked_side.specs.Leading.{IsWalkOf, IsLedBy, IsLedSo, IsLive, IsReachedSo, IsRegimeIn, IsEntryOf, IsFoundSo, Leads, Reaches, asked_led, entry_to}
use Rattle.cloaked_side.specs.Tracking.{Tracks, TracksBy, MapsBy, spent_in}
use Rattle.cloaked_side.specs.declared.memory.Memory.{Memory}
use Rattle.cloaked_side.proofs.Tracking.{birth_made, birth_never, birth_still, born_tracks, events_then, look_tracks, touches_still, tracks_on}
use Rattle.cloaked_side.proofs.Tabled.{tables_none, walked_touches}
use Rattle.cloak_base.specs.declared.names.SpaceId.{SpaceId}
use Rattle.cloak_model.specs.AskPages.{inside_access, reach_by_table}
use Rattle.cloak_model.specs.declared.answer.Answer.{Answer}
use Rattle.cloak_model.specs.declared.answer.Answer.TheVariants.{Absent}
use Rattle.cloak_model.proofs.PagesLater.{later_reached}
use Rattle.cloak_model.specs.World.{regime_of}
use Rattle.cloak_model.specs.Ask.{known}
use Rattle.shadow_fold.specs.Agreement.{TargetAgrees}
use Rattle.shadow_fold.specs.Fold.{Fold, after_events, entry_in, entry_of, frame, is_own_table}
use Rattle.shadow_fold.specs.Following.{AreBirthCallsUnless, killed_if}
use Rattle.cloaked_side.specs.Offering.{OfferLeaves}
use Rattle.cloaked_side.specs.Seeing.{FollowsAlways, FollowsInside, IsRegimeFor, SeesCloak, SeesCounted, SeesWalking}
use Rattle.cloaked_side.specs.Seeing.{asked_by, paid, space_in, touched_since, StaysWithin}
use Rattle.cloak_base.specs.declared.names.Kind.{Kind}
use Rattle.cloak_base.specs.declared.names.PageId.{PageId}
use Rattle.cloak_model.specs.declared.access.Walked.{Walked}
use Rattle.cloak_model.specs.declared.access.Access.{Access}
use Rattle.cloak_model.specs.declared.regime.InsideRegime.{InsideRegime}
use Rattle.cloak_base.specs.declared.names.Mode.TheVariants.{U}
use Rattle.cloak_model.specs.Ask.{shown_word, ask_word, ask_walk, ask_in_ram, ask_translate, ask_led, opened, ask_value, ask_store, shown_value, stored_value, loaded_at, ask_load, stored_to, ask_store_at}
use Rattle.cloak_model.proofs.WalkParts.{ask_after, ask_first}
use Rattle.cloak_model.specs.Asking.{Told, FollowsFrom, answered, Keeps}
use Rattle.cloak_model.specs.Exchange.{Piece}
use Rattle.cloak_base.specs.Constants.{frame_of, is_in_frames}
use Rattle.cloak_model.specs.Memory.{is_in_ram}
use Rattle.cloak_model.specs.Walk.{Walk, FirstWord, Ends, GoesOn, first_word, walk, has_paging, without_paging, first_entry, access_fault}
use Rattle.cloak_model.specs.World.{World, MidStep, Flat, Cloaked, Alone}
use Rattle.shadow_fold.specs.Agreement.{Present, EntryAgrees, satp_in, access_in, start_of}
use Rattle.shadow_fold.specs.Entries.{is_for}
use Rattle.shadow_fold.specs.Table.{Table, looked}
use Rattle.shadow_fold.specs.declared.entry.Entry.{Entry}
use Rattle.shadow_fold.specs.declared.entry.Regime.{Regime}
use Rattle.shadow_fold.specs.declared.entry.Regime.TheVariants.{Outside, Inside}
use Rattle.cloak_model.specs.World.{ram_of}
use Rattle.cloaked_side.proofs.Answering.{asked_fault, reached_fault}
use Rattle.cloaked_side.proofs.Sided.{count_of, sees_also, sees_noted, within_of}
use Rattle.cloaked_side.proofs.Spending.{due_events, paid_is, maps_born, maps_looked, maps_on, maps_still, since_then, spends_looks, spends_missed, spends_more, spends_still, spends_then, live_looked}
use Rattle.shadow_fold.specs.Reads.{SpendsFor, looks_in, reads_due}
use Rattle.shadow_fold.proofs.Keys.{is_for-key}
use Rattle.shadow_fold.proofs.Agreeing.{found}
use Rattle.shadow_fold.proofs.Finding.{is_some-find}
use Rattle.shadow_law.proofs.Hits.{hit_asks}
use Rattle.cloak_pager.specs.State.{held_in}
use Rattle.cloaked_side.specs.Holding.{frames_of}
use Rattle.cloaked_side.specs.Seeing.{Sees}
use Rattle.cloaked_side.specs.declared.leading.Led.{Led}
use Rattle.cloaked_side.specs.declared.side.Side.{Side}
use Rattle.cloaked_side.proofs.Presents.{pager_owes}
use Rattle.cloak_model.proofs.Settling.{count_settle}
use Rattle.multi_shadow.proofs.Tables.{room_frames}
use Rattle.shadow_fold.proofs.Looks.{looks_then}

led_there : (c : MidStep) (regime : Regime) (va : ℕ) (kind : Kind) (e : Entry) → (e.regime ≡ regime) × (e.page ≡ va / 4096) × (e.kind ≡ kind)
    → (b : Told Walk) → ask_translate (satp_in e.regime) (access_in e.regime va e.kind) (Cloaked c) ≡ b
    → ask_translate (satp_in regime) (access_in regime va kind) (Cloaked c) ≡ b
led_there c regime va kind e same b is =
    sym (λ i. ask_translate (satp_in (same.0 i)) (access_in (same.0 i) va (same.2 i)) (Cloaked c)) ∙ is

kind_of_access : (regime : Regime) (va : ℕ) (kind : Kind) → (access_in regime va kind).kind ≡ kind
kind_of_access (Outside satp mode sum mxr) va kind = refl
kind_of_access (Inside satp sum mxr space) va kind = refl

-- where a walk leads: to an address of RAM, or to none
abbrev pub place_if : Bool → Kind → Walked → Walk
place_if b kind walked = cond b (Ok walked) (Err (access_fault kind))

found_leads : {E : Type 0} (gave : E → E → List Piece → Type 0) (first now : Side E) (c : MidStep) (regime : Regime) (va : ℕ)
    (kind : Kind) (e : Entry) (b : Bool) → SeesCloak gave first now c → Some e ≡ find (is_for regime (va / 4096) kind) now.memory.now.shadows.live
    → b ≡ is_in_frames (frames_of now.memory.now) (start_of e.frame.0 + va % 4096)
    → ask_translate (satp_in regime) (access_in regime va kind) (Cloaked c)
    ≡ record { answer = place_if b kind (entry_walk e va); world = noted (touches (listed e.pt1 ++ listed e.pt0)) (Cloaked c) }
found_leads gave first now c regime va kind e b sees is inside =
    let h = sees.holds in
    let held = held_in now.memory.now.pager in
    let agrees = found (EntryAgrees (present held c.memory)) (is_for regime (va / 4096) kind) now.memory.now.shadows.live e h.agrees (sym is) in
    let key = is_for-key regime (va / 4096) kind e agrees.0 in
    let there : is_in_ram c.memory.ram (start_of e.frame.0 + va % 4096) ≡ b =
    ap (λ (n : ℕ). is_in_frames n (start_of e.frame.0 + va % 4096)) h.pager.count ∙ sym inside in
    led_there c regime va kind e key _
    (hit_asks held c e va b (pager_owes now.memory.now.pager h.wiped c.memory h.pager) agrees.1 (sym key.1) there
    ∙ ap (λ (k : Kind). let t : Told Walk = record {
      answer = place_if b k (entry_walk e va);
      world = noted (touches (listed e.pt1 ++ listed e.pt0)) (Cloaked c);
    } in t) (kind_of_access e.regime va e.kind ∙ key.2))

-- the entry that was found: its tables are outside, and its target holds its page
target_holds : (p : Present) (e : Entry) (o : Option PageId) → TargetAgrees p e o → p.held e.frame.0 ≡ o
target_holds p e None agrees = agrees
target_holds p e (Some q) agrees = agrees.0

found_agrees : {E : Type 0} (gave : E → E → List Piece → Type 0) (first now : Side E) (w : World) (regime : Regime) (page : ℕ)
    (kind : Kind) (e : Entry) → Sees gave first now w → Some e ≡ find (is_for regime page kind) now.memory.now.shadows.live
    → (is_for regime page kind e ≡ true) × IfSome e.pt1 (λ f. held_in now.memory.now.pager f.0 ≡ None)
    × IfSome e.pt0 (λ f. held_in now.memory.now.pager f.0 ≡ None) × (held_in now.memory.now.pager e.frame.0 ≡ e.cloaked)
found_agrees gave first now (Flat ram) regime page kind e sees is = absurd sees
found_agrees gave first now (Alone handed) regime page kind e sees is = absurd sees
found_agrees gave first now (Cloaked c) regime page kind e sees is =
    let p = present (held_in now.memory.now.pager) c.memory in
    let agrees = found (EntryAgrees p) (is_for regime page kind) now.memory.now.shadows.live e sees.holds.agrees (sym is) in
    (agrees.0, agrees.1.first, agrees.1.second, target_holds p e e.cloaked agrees.1.target)

looked_known : (regime v : Regime) (page n : ℕ) (kind k : Kind) (t : Table) → is_known v n k (looked regime page kind t) ≡ is_known v n k t
unfolding is_known looked
looked_known regime v page n kind k t = refl

known_found : (regime : Regime) (page : ℕ) (kind : Kind) (t : Table) (e : Entry) → Some e ≡ find (is_for regime page kind) t.live → is_known regime page kind t ≡ true
unfolding is_known
known_found regime page kind t e is = sym (is_some-find (is_for regime page kind) t.live) ∙ ap is_some (sym is)

pub found_known : (regime : Regime) (page : ℕ) (kind : Kind) (t u : Table) (e : Entry) → Some e ≡ find (is_for regime page kind) t.live → u ≡ looked regime page kind t
    → is_known regime page kind u ≡ true
found_known regime page kind t u e is same =
    ap (λ (x : Table). is_known regime page kind x) same ∙ looked_known regime regime page page kind kind t ∙ known_found regime page kind t e is

pub found_target : {E : Type 0} (gave : E → E → List Piece → Type 0) (first now : Side E) (w : World) (regime : Regime) (page : ℕ)
    (kind : Kind) (e : Entry) (pa k : ℕ) (cloaked : Option PageId) → Sees gave first now w → Some e ≡ find (is_for regime page kind) now.memory.now.shadows.live
    → pa ≡ start_of e.frame.0 + k → k < 4096 → e.cloaked ≡ cloaked → held_in now.memory.now.pager (frame_of pa) ≡ cloaked
found_target gave first now w regime page kind e pa k cloaked sees is at small same =
    let there : frame_of pa ≡ e.frame.0 = omega (arith, at, small) in
    ap (λ (f : ℕ). held_in now.memory.now.pager f) there ∙ (found_agrees gave first now w regime page kind e sees is).3 ∙ same

-- A translation becomes known.

-- a side with this table instead of its own
abbrev pub with_table : {E : Type 0} → Side E → Table → Side E
with_table old t = record old { memory = record old.memory { now = record old.memory.now { shadows = t } } }

sees_with : {E : Type 0} (gave : E → E → List Piece → Type 0) (first old : Side E) (t : Table) (c : MidStep) (events : List Event) (left : ℕ) → SeesCloak gave first old c
    → Agrees (present (held_in old.memory.now.pager) c.memory) t → t.frames ≡ old.memory.now.shadows.frames
    → TracksBy old.memory.now (record old.memory.now { shadows = t }) (after_events (space_in old.regime) events)
    → SpendsFor (looks_in events) left 0 (spent_in old.memory.now) (spent_in (record old.memory.now { shadows = t }))
    → MapsBy old.memory.now (record old.memory.now { shadows = t }) (space_in old.regime) events
    → SeesCounted gave first (with_table old t) (record c { events = c.events ++ events }) left 0
sees_with gave first old t c events left sees agrees room tracks spends maps =
    let new = record old.memory.now { shadows = t } in
    record {
      holds = record {
        wiped = sees.holds.wiped;
        pager = sees.holds.pager;
        whole = sees.holds.whole;
        stream = sees.holds.stream;
        draws = sees.holds.draws;
        missed = sees.holds.missed;
        agrees = agrees;
        room = room ∙ sees.holds.room;
        marks = sees.holds.marks;
      };
      emits = sees.emits;
      violation = sees.violation;
      domain = sees.domain;
      regime = sees.regime;
      tracks = tracks_on first.memory.now old.memory.now new (space_in old.regime) c.events events sees.tracks tracks;
      spends = spends_looks (let looks = looks_then c.events events in omega (arith, looks))
          (spends_more (0 + left) left (reads_due (asked_by (space_in old.regime) c) + 0) _ (spent_in first.memory.now) (spent_in new)
          (let further = due_events (space_in old.regime) c.events events c.items in omega (arith, further))
          (spends_then 0 left (reads_due (asked_by (space_in old.regime) c)) 0 (spent_in first.memory.now) (spent_in old.memory.now) (spent_in new) sees.spends spends));
      maps = maps_on first.memory.now old.memory.now new (space_in old.regime) c.events events sees.maps maps;
    }

agrees_looked : (p : Present) (regime : Regime) (page : ℕ) (kind : Kind) (t : Table) → Agrees p t → Agrees p (looked regime page kind t)
unfolding looked
agrees_looked p regime page kind t agrees = agrees

looked_frames : (regime : Regime) (page : ℕ) (kind : Kind) (t : Table) → (looked regime page kind t).frames ≡ t.frames
unfolding looked
looked_frames regime page kind t = refl

looked_misses : (regime : Regime) (page : ℕ) (kind : Kind) (t : Table)
    → (looked regime page kind t).counts.misses ≡ cond (is_known regime page kind t) t.counts.misses (one_more t.counts.misses)
unfolding looked
looked_misses regime page kind t = refl

-- a look counts, and changes nothing else
looks : {E : Type 0} (gave : E → E → List Piece → Type 0) (first old : Side E) (t : Table) (regime : Regime) (va : ℕ)
    (kind : Kind) (c : MidStep) (left : ℕ) → SeesCloak gave first old c → IsRegimeIn (space_in old.regime) regime → t ≡ looked regime (va / 4096) kind old.memory.now.shadows
    → SpendsFor 1 left 0 (spent_in old.memory.now) (spent_in (record old.memory.now { shadows = t }))
    → SeesCounted gave first (with_table old t) (record c { events = c.events ++ Look (satp_in regime) (access_in regime va kind) ∷ [] }) left 0
looks gave first old t regime va kind c left sees viewed is spends =
    sees_with gave first old t c (Look (satp_in regime) (access_in regime va kind) ∷ []) left sees
    (subst (Agrees (present (held_in old.memory.now.pager) c.memory)) (sym is)
    (agrees_looked _ regime (va / 4096) kind old.memory.now.shadows sees.holds.agrees))
    (ap (λ (u : Table). u.frames) is ∙ looked_frames regime (va / 4096) kind old.memory.now.shadows)
    (look_tracks (space_in old.regime) regime va kind viewed old.memory.now.counting old.memory.now.shadows t (held_in old.memory.now.pager) (λ counts. is))
    spends (maps_still old.memory.now (record old.memory.now { shadows = t }) (space_in old.regime) (Look (satp_in regime) (access_in regime va kind) ∷ [])
    (maps_looked old.memory.now (record old.memory.now { shadows = t }) regime (va / 4096) kind is))

-- one that finds an entry
pub looks_found : {E : Type 0} (gave : E → E → List Piece → Type 0) (first old : Side E) (t : Table) (regime : Regime) (va : ℕ)
    (kind : Kind) (e : Entry) (c : MidStep) → SeesCloak gave first old c → IsRegimeIn (space_in old.regime) regime → t ≡ looked regime (va / 4096) kind old.memory.now.shadows
    → Some e ≡ find (is_for regime (va / 4096) kind) old.memory.now.shadows.live
    → SeesCloak gave first (with_table old t) (record c { events = c.events ++ Look (satp_in regime) (access_in regime va kind) ∷ [] })
looks_found gave first old t regime va kind e c sees viewed is there =
    looks gave first old t regime va kind c 0 sees viewed is
    (spends_looks (omega arith) (spends_still old.memory.now (record old.memory.now { shadows = t }) refl
    (ap (λ (u : Table). u.counts.misses) is ∙ looked_misses regime (va / 4096) kind old.memory.now.shadows
    ∙ ap (λ (b : Bool). cond b old.memory.now.shadows.counts.misses (one_more old.memory.now.shadows.counts.misses))
    (known_found regime (va / 4096) kind old.memory.now.shadows e there))))

unknown_missed : (regime : Regime) (page : ℕ) (kind : Kind) (t : Table) → None ≡ find (is_for regime page kind) t.live → is_known regime page kind t ≡ false
unfolding is_known
unknown_missed regime page kind t is = sym (is_some-find (is_for regime page kind) t.live) ∙ ap is_some (sym is)

pub missed_unknown : (regime : Regime) (page : ℕ) (kind : Kind) (t u : Table) → None ≡ find (is_for regime page kind) t.live → u ≡ looked regime page kind t
    → is_known regime page kind u ≡ false
missed_unknown regime page kind t u none same =
    ap (λ (x : Table). is_known regime page kind x) same ∙ looked_known regime regime page page kind kind t ∙ unknown_missed regime page kind t none

-- one that misses
pub looks_missed : {E : Type 0} (gave : E → E → List Piece → Type 0) (first old : Side E) (t : Table) (regime : Regime) (va : ℕ)
    (kind : Kind) (w : World) → Sees gave first old w → IsRegimeIn (space_in old.regime) regime → t ≡ looked regime (va / 4096) kind old.memory.now.shadows
    → None ≡ find (is_for regime (va / 4096) kind) old.memory.now.shadows.live
    → SeesWalking gave first (with_table old t) (noted (Look (satp_in regime) (access_in regime va kind) ∷ []) w)
looks_missed gave first old t regime va kind (Flat ram) sees viewed is none = absurd sees
looks_missed gave first old t regime va kind (Alone handed) sees viewed is none = absurd sees
looks_missed gave first old t regime va kind (Cloaked c) sees viewed is none =
    let look = Look (satp_in regime) (access_in regime va kind) in
    subst (λ (n : ℕ). SeesCounted gave first (with_table old t) (record c { events = c.events ++ look ∷ [] }) 2 n) (sym (since_then 0 c.events (look ∷ [])))
    (looks gave first old t regime va kind c 2 sees viewed is
    (spends_missed old.memory.now (record old.memory.now { shadows = t }) refl
    (ap (λ (u : Table). u.counts.misses) is ∙ looked_misses regime (va / 4096) kind old.memory.now.shadows
    ∙ ap (λ (b : Bool). cond b old.memory.now.shadows.counts.misses (one_more old.memory.now.shadows.counts.misses))
    (unknown_missed regime (va / 4096) kind old.memory.now.shadows none))))

-- if accesses are not counted, a look needs nothing
pub looks_uncounted : {E : Type 0} (gave : E → E → List Piece → Type 0) (first now : Side E) (regime : Regime) (va : ℕ)
    (kind : Kind) (w : World) → Sees gave first now w → IsRegimeIn (space_in now.regime) regime → now.memory.now.counting ≡ false
    → Sees gave first now (noted (Look (satp_in regime) (access_in regime va kind) ∷ []) w)
looks_uncounted gave first now regime va kind w sees viewed uncounted =
    sees_noted gave first now _ w
    (look_tracks (space_in now.regime) regime va kind viewed now.memory.now.counting now.memory.now.shadows now.memory.now.shadows (held_in now.memory.now.pager)
    (λ counts. absurd (false≢true (sym uncounted ∙ counts)))) sees

-- An access was led somewhere.

-- the fold of a memory itself
fold_of : Memory → Fold
fold_of memory = record { table = memory.shadows; held = held_in memory.pager }

tracks_self : (memory : Memory) → Tracks memory (fold_of memory)
unfolding fold_of
tracks_self memory = record { pages = λ f. refl; entries = λ counts. record { live = λ passes. refl; counts = refl } }

-- after the touches of a walk's tables they are outside
touched_outside : (first now : Memory) (space : Option SpaceId) (es : List Event) (walked : Walked)
    → TracksBy first now (after_events space (es ++ touches (listed walked.pt1 ++ listed walked.pt0))) → AreOutside (held_in now.pager) walked
touched_outside first now space es walked tracks = record { first = each walked.pt1 none.0; second = each walked.pt0 none.1 }
  where
    s : Fold
    s = after_events space es (fold_of first)

    keeps : Tracks now (after_events space (touches (listed walked.pt1 ++ listed walked.pt0)) s)
    keeps = subst (λ (u : Fold). Tracks now u) (events_then space es _ (fold_of first)) (tracks (fold_of first) (tracks_self first))

    none : let s' = after_events space (touches (listed walked.pt1 ++ listed walked.pt0)) s in
        IfSome walked.pt1 (λ f. s'.held f.0 ≡ None) × IfSome walked.pt0 (λ f. s'.held f.0 ≡ None)
    none = tables_none space walked.pt1 walked.pt0 s

    each : (o : Option Frame) → IfSome o (λ f. (after_events space (touches (listed walked.pt1 ++ listed walked.pt0)) s).held f.0 ≡ None)
        → IfSome o (λ f. held_in now.pager f.0 ≡ None)
    each None is = tt
    each (Some f) is = keeps.pages f.0 ∙ is

-- an access that was led somewhere: its walk led there, and asked nothing more
in_ram_if : (b : Bool) (kind : Kind) (x walked : Walked) → Ok walked ≡ place_if b kind x → (b ≡ true) × (x ≡ walked)
in_ram_if true kind x walked is = (refl, cc)
in_ram_if false kind x walked is = absurd cc

in_ram_parts : (a : Access) (r : Walk) (v : World) (walked : Walked) → Ok walked ≡ (ask_in_ram a r v).answer
    → (r ≡ Ok walked) × (is_in_ram (ram_of v) walked.pa ≡ true) × ((ask_in_ram a r v).world ≡ v)
unfolding ask_in_ram
in_ram_parts a (Err cause) v walked is = absurd cc
in_ram_parts a (Ok x) v walked is =
    let parts = in_ram_if (is_in_ram (ram_of v) x.pa) a.kind x walked is in
    (ap (λ (y : Walked). Ok y) parts.1, ap (λ (y : Walked). is_in_ram (ram_of v) y.pa) (sym parts.1) ∙ parts.0, refl)

-- the walk that was told leads there still, through tables that are outside
led_is_walk : {E : Type 0} (gave : E → E → List Piece → Type 0) (first now : Side E) (regime : Regime) (va : ℕ) (kind : Kind) (walked : Walked)
    (c : MidStep) → FollowsFrom (Sees gave first) now (Ok walked) (asked_led regime va kind (Cloaked c))
    → IsWalkOf (asked_led regime va kind (Cloaked c)).world regime va kind walked × AreOutside (held_in now.memory.now.pager) walked
unfolding ask_led ask_translate
led_is_walk gave first now regime va kind walked c told =
    let satp = satp_in regime in
    let a = access_in regime va kind in
    let c1 : MidStep = record c { events = c.events ++ Look satp a ∷ [] } in
    let t = ask_walk satp a (Cloaked c1) in
    let parts = in_ram_parts a t.answer t.world walked told.answer in
    let asked = asked_walk satp a c1 in
    let there = walked_touches satp a c1 walked parts.0 in
    let stands = subst (λ (v : World). Sees gave first now v) (parts.2 ∙ there.1) told.stands in (
      subst (λ (v : World). IsWalkOf v regime va kind walked) (sym (parts.2 ∙ asked.1))
          (asked.2 ∙ parts.0, ap (λ (v : World). is_in_ram (ram_of v) walked.pa) (sym asked.1) ∙ parts.1),
      touched_outside first.memory.now now.memory.now (space_in now.regime) c1.events walked
          (subst (λ (es : List Event). TracksBy first.memory.now now.memory.now (after_events (space_in now.regime) es)) there.2 stands.tracks),
    )

leads_so : {E : Type 0} (gave : E → E → List Piece → Type 0) (first now : Side E) (regime : Regime) (va : ℕ) (kind : Kind)
    (cloaked : Option PageId) (walked : Walked) (led : Led) (c : MidStep) → FollowsFrom (Sees gave first) now (Ok walked) (asked_led regime va kind (Cloaked c))
    → IsLedBy walked led → IsLive now.memory.now regime va kind cloaked walked led
    → Leads gave first now regime va kind cloaked (Ok led) (asked_led regime va kind (Cloaked c))
leads_so gave first now regime va kind cloaked walked led c told by live =
    let so = led_is_walk gave first now regime va kind walked c told in
    (walked, told, record { by = by; walk = so.0; outside = so.1; live = live })

pub leads_stand : {E : Type 0} (gave : E → E → List Piece → Type 0) (first now : Side E) (regime : Regime) (va : ℕ) (kind : Kind)
    (cloaked : Option PageId) (to : Result Led ℕ) (told : Told Walk) → Leads gave first now regime va kind cloaked to told → Sees gave first now told.world
leads_stand gave first now regime va kind cloaked (Ok led) told leads = leads.1.stands
leads_stand gave first now regime va kind cloaked (Err cause) told leads = leads.stands

-- An access is led by an entry.

found_after : (regime : Regime) (page : ℕ) (kind : Kind) (t u : Table) (e : Entry) → u ≡ looked regime page kind t
    → Some e ≡ find (is_for regime page kind) t.live → Some e ≡ find (is_for regime page kind) u.live
found_after regime page kind t u e is there =
    there ∙ ap (λ (x : List Entry). find (is_for regime page kind) x) (sym (ap (λ (y : Table). y.live) is ∙ live_looked regime page kind t))

-- the access is looked up, and the tables of the entry, which are outside, are touched
pub entry_follows : {E : Type 0} (gave : E → E → List Piece → Type 0) (first old : Side E) (t : Table) (w : World) (regime : Regime) (va : ℕ)
    (kind : Kind) (e : Entry) (b : Bool) (to : Walk) → Sees gave first old w → IsRegimeIn (space_in old.regime) regime → t ≡ looked regime (va / 4096) kind old.memory.now.shadows
    → Some e ≡ find (is_for regime (va / 4096) kind) old.memory.now.shadows.live
    → b ≡ is_in_frames (frames_of old.memory.now) (start_of e.frame.0 + va % 4096) → to ≡ place_if b kind (entry_walk e va)
    → FollowsFrom (Sees gave first) (with_table old t) to (asked_led regime va kind w)
unfolding ask_led
entry_follows gave first old t (Flat ram) regime va kind e b to sees viewed is there inside at = absurd sees
entry_follows gave first old t (Alone handed) regime va kind e b to sees viewed is there inside at = absurd sees
entry_follows gave first old t (Cloaked c) regime va kind e b to sees viewed is there inside at =
    let new = with_table old t in
    let c1 : MidStep = record c { events = c.events ++ Look (satp_in regime) (access_in regime va kind) ∷ [] } in
    let sees1 = looks_found gave first old t regime va kind e c sees viewed is there in
    let there1 = found_after regime (va / 4096) kind old.memory.now.shadows t e is there in
    let led = found_leads gave first new c1 regime va kind e b sees1 there1 inside in
    let agrees = found_agrees gave first new (Cloaked c1) regime (va / 4096) kind e sees1 there1 in
    subst (λ (x : Told Walk). FollowsFrom (Sees gave first) new to x) (sym led)
    (record {
      answer = at;
      stands = sees_also gave first new c1 0 0 (touches (listed e.pt1 ++ listed e.pt0))
          (touches_still (space_in old.regime) old.memory.now.counting t (held_in old.memory.now.pager) e.pt1 e.pt0 agrees.1 agrees.2) sees1;
    })

-- it leads so, whether its walk is handed on or not
pub entry_leads : {E : Type 0} (gave : E → E → List Piece → Type 0) (first old : Side E) (t : Table) (w : World) (regime : Regime) (va : ℕ)
    (kind : Kind) (e : Entry) (cloaked : Option PageId) (led : Led) → Sees gave first old w → IsRegimeIn (space_in old.regime) regime
    → t ≡ looked regime (va / 4096) kind old.memory.now.shadows → Some e ≡ find (is_for regime (va / 4096) kind) old.memory.now.shadows.live
    → true ≡ is_in_frames (frames_of old.memory.now) (start_of e.frame.0 + va % 4096) → led.pa ≡ start_of e.frame.0 + va % 4096
    → (led.walked ≡ Some (entry_walk e va)) ⊎ ((led.walked ≡ None) × (e.cloaked ≡ cloaked))
    → Leads gave first (with_table old t) regime va kind cloaked (Ok led) (asked_led regime va kind w)
entry_leads gave first old t (Flat ram) regime va kind e cloaked led sees viewed is there inside at so = absurd sees
entry_leads gave first old t (Alone handed) regime va kind e cloaked led sees viewed is there inside at so = absurd sees
entry_leads gave first old t (Cloaked c) regime va kind e cloaked led sees viewed is there inside at so =
    let walked = entry_walk e va in
    leads_so gave first (with_table old t) regime va kind cloaked walked led c
    (entry_follows gave first old t (Cloaked c) regime va kind e true (Ok walked) sees viewed is there inside refl)
    (record {
      place = at;
      handed = elim so [
        | inl some ↦ subst (λ (o : Option Walked). IfSome o (λ x. x ≡ walked)) (sym some) refl
        | inr same ↦ subst (λ (o : Option Walked). IfSome o (λ x. x ≡ walked)) (sym same.0) tt
      ];
    })
    (λ none counts. elim so [
      | inl some ↦ absurd (none-some walked (sym none ∙ some))
      | inr same ↦ (
        found_known regime (va / 4096) kind old.memory.now.shadows t e there is,
        found_target gave first old (Cloaked c) regime (va / 4096) kind e walked.pa (va % 4096) cloaked sees there refl (omega arith) same.1,
      )
    ])

birth_frames : (known : Bool) (e : Entry) (old new : Table) → AreBirthCalls known e old new → new.frames ≡ old.frames
birth_frames true e old new made = ap (λ (t : Table). t.frames) made
birth_frames false e old new made = ap (λ (t : Table). t.frames) made.1 ∙ room_frames old

room_misses : (t : Table) → (with_room t).counts.misses ≡ t.counts.misses
unfolding with_room emptied
room_misses t = by_test (nat_le 1024 (length t.live))
  where
    by_test : (b : Bool) → (cond b (record t { live = []; counts = record t.counts { flushes = one_more t.counts.flushes } }) t).counts.misses ≡ t.counts.misses
    by_test true = refl
    by_test false = refl

birth_misses : (known : Bool) (e : Entry) (old new : Table) → AreBirthCalls known e old new → new.counts.misses ≡ old.counts.misses
birth_misses true e old new made = ap (λ (t : Table). t.counts.misses) made
birth_misses false e old new made = ap (λ (t : Table). t.counts.misses) made.1 ∙ room_misses old

pub learns : {E : Type 0} (gave : E → E → List Piece → Type 0) (first old : Side E) (t : Table) (e : Entry) (satp : ℕ) (a : Access) (walked : Walked)
    (cloaked : Option PageId) (w : World) → Sees gave first old w → IsEntryOf w (held_in old.memory.now.pager) e
    → entry_in (space_in old.regime) satp a walked cloaked ≡ e → is_own_table e ≡ false
    → (IsWithin old.memory.now.shadows.frames e
    → AreBirthCalls (is_known e.regime e.page e.kind old.memory.now.shadows) e old.memory.now.shadows t)
    → Sees gave first (with_table old t) (noted (Born satp a walked cloaked ∷ []) w)
learns gave first old t e satp a walked cloaked (Flat ram) sees is same other born = absurd sees
learns gave first old t e satp a walked cloaked (Alone handed) sees is same other born = absurd sees
learns gave first old t e satp a walked cloaked (Cloaked c) sees is same other born =
    let h = sees.holds in
    let made = born (subst (λ (n : ℕ). IsWithin n e) (h.pager.count ∙ sym h.room) is.1) in
    sees_with gave first old t c (Born satp a walked cloaked ∷ []) 0 sees
    (keeps_birth (EntryAgrees (present (held_in old.memory.now.pager) c.memory)) _ e old.memory.now.shadows t made is.0 h.agrees)
    (birth_frames _ e old.memory.now.shadows t made)
    (born_tracks (space_in old.regime) satp a walked cloaked old.memory.now.counting old.memory.now.shadows t (held_in old.memory.now.pager)
    (λ counts. subst (λ (x : Entry). AreBirthCallsUnless (is_own_table x) x old.memory.now.shadows t) (sym same)
    (birth_made e old.memory.now.shadows t other made)))
    (spends_still old.memory.now (record old.memory.now { shadows = t }) refl (birth_misses _ e old.memory.now.shadows t made))
    (maps_born old.memory.now (record old.memory.now { shadows = t }) (space_in old.regime) satp a walked cloaked _ e same made)

-- if accesses are not counted, nothing needs to be learnt
pub unlearnt : {E : Type 0} (gave : E → E → List Piece → Type 0) (first old : Side E) (t : Table) (satp : ℕ) (a : Access) (walked : Walked)
    (cloaked : Option PageId) (w : World) → old.memory.now.counting ≡ false → t ≡ old.memory.now.shadows → Sees gave first old w
    → Sees gave first (with_table old t) (noted (Born satp a walked cloaked ∷ []) w)
unlearnt gave first old t satp a walked cloaked w uncounted same sees =
    subst (λ (x : Table). Sees gave first (with_table old x) (noted (Born satp a walked cloaked ∷ []) w)) (sym same)
    (sees_noted gave first old _ w
    (born_tracks (space_in old.regime) satp a walked cloaked old.memory.now.counting old.memory.now.shadows old.memory.now.shadows (held_in old.memory.now.pager)
    (λ counts. absurd (false≢true (sym uncounted ∙ counts)))) sees)

-- A translation that is known stays, and one that never becomes live does.

-- the entry of an access of a regime
pub entry_viewed : (space : Option SpaceId) (regime : Regime) (va : ℕ) (kind : Kind) (walked : Walked) (cloaked : Option PageId) → IsRegimeIn space regime
    → entry_in space (satp_in regime) (access_in regime va kind) walked cloaked ≡ entry_of regime (va / 4096) kind walked cloaked
entry_viewed space (Outside satp mode sum mxr) va kind walked cloaked viewed = ap (λ (v : Regime). entry_of v (va / 4096) kind walked cloaked) (viewed va kind)
entry_viewed space (Inside satp sum mxr x) va kind walked cloaked viewed = ap (λ (v : Regime). entry_of v (va / 4096) kind walked cloaked) (viewed va kind)

-- it is built of the walk that is handed on, at the frame of its address
pub entry_built : (regime : Regime) (va : ℕ) (kind : Kind) (f : Frame) (on walked : Walked) (cloaked : Option PageId) → f.0 ≡ frame_of walked.pa → on ≡ walked
    → entry_of regime (va / 4096) kind walked cloaked ≡ entry_to regime va kind f on.pt1 on.pt0 cloaked
entry_built regime va kind f on walked cloaked at same =
    let by : ℕ → Walked → Entry = λ n x. entry_to regime va kind (record { 0 = n }) x.pt1 x.pt0 cloaked in λ i. by (sym at i) (sym same i)

pub sees_live : {E : Type 0} (gave : E → E → List Piece → Type 0) (first now : Side E) (regime : Regime) (va : ℕ) (kind : Kind) (cloaked : Option PageId)
    (walked : Walked) (w : World) → Sees gave first now w → IsRegimeIn (space_in now.regime) regime
    → (now.memory.now.counting ≡ true → is_known regime (va / 4096) kind now.memory.now.shadows ≡ true)
    → Sees gave first now (known (satp_in regime) (access_in regime va kind) cloaked walked w)
sees_live gave first now regime va kind cloaked walked w sees viewed live =
    let t = now.memory.now.shadows in
    sees_noted gave first now _ w
    (born_tracks (space_in now.regime) (satp_in regime) (access_in regime va kind) walked cloaked now.memory.now.counting t t (held_in now.memory.now.pager)
    (λ counts. birth_still _ t
    (ap (λ (e : Entry). is_known e.regime e.page e.kind t) (entry_viewed (space_in now.regime) regime va kind walked cloaked viewed) ∙ live counts))) sees

-- frames that held no page hold none if they hold no more than before
outside_still : (old new : PagerState) (f : ℕ) → HoldsNoMore old new → StayOutsideBut f (held_in old) (held_in new)
outside_still old new f less x other none = by_held (held_in new x) refl
  where
    by_held : (o : Option PageId) → held_in new x ≡ o → o ≡ None
    by_held None is = refl
    by_held (Some p) is = absurd (none-some p (sym none ∙ less.held x p is))

-- The frame of an open access was settled: the entry of its walk agrees.
pub open_entry : {E : Type 0} (gave : E → E → List Piece → Type 0) (first old new : Side E) (regime : Regime) (va : ℕ) (kind : Kind)
    (walked : Walked) (w : World) → Sees gave first old w → IsWalkOf w regime va kind walked → AreOutside (held_in old.memory.now.pager) walked
    → HoldsNoMore old.memory.now.pager new.memory.now.pager → held_in new.memory.now.pager (frame_of walked.pa) ≡ None
    → IsEntryOf (settled (frame_of walked.pa) w) (held_in new.memory.now.pager) (entry_of regime (va / 4096) kind walked None)
open_entry gave first old new regime va kind walked (Flat ram) sees is outside less none = absurd sees
open_entry gave first old new regime va kind walked (Alone handed) sees is outside less none = absurd sees
open_entry gave first old new regime va kind walked (Cloaked c) sees is outside less none =
    let h = sees.holds in (
      open_entry_agrees (held_in old.memory.now.pager) (held_in new.memory.now.pager) c.memory regime va kind walked is.0 is.1
          (pager_owes old.memory.now.pager h.wiped c.memory h.pager) outside
          (outside_still old.memory.now.pager new.memory.now.pager (frame_of walked.pa) less) none,
      subst (λ (n : ℕ). IsWithin n (entry_of regime (va / 4096) kind walked None)) (sym (count_settle (frame_of walked.pa) c.memory))
          (entry_within c.memory.ram regime va kind walked None is.0 is.1),
    )

-- A page was offered in the frame, which holds it now: the entry of the walk agrees, unless the frame is one of its tables.

-- a frame that holds the page is the only one
outside_but : (old new : PagerState) (g : ℕ) (q : PageId) → IsWholePager new → HoldsNoOther q old new → held_in new g ≡ Some q
    → StayOutsideBut g (held_in old) (held_in new)
outside_but old new g q whole others here x other none = by_held (held_in new x) refl
  where
    by_held : (o : Option PageId) → held_in new x ≡ o → o ≡ None
    by_held None is = refl
    by_held (Some p) is = elim (same_page_tells p q) [
      | inl same ↦ absurd (other (whole.one_home x g q (is ∙ ap (λ (y : PageId). Some y) same.1) here))
      | inr unlike ↦ absurd (none-some p (sym none ∙ others x p unlike.1 is))
    ]

page_entry : {E : Type 0} (gave : E → E → List Piece → Type 0) (first old new : Side E) (regime : Regime) (va : ℕ) (kind : Kind)
    (q : PageId) (walked : Walked) (c c' : MidStep) → SeesCloak gave first old c → SeesCloak gave first new c'
    → c'.memory ≡ (offer q (frame_of walked.pa) (is_store kind) c.memory).memory
    → IsWalkOf (Cloaked c) regime va kind walked → AreOutside (held_in old.memory.now.pager) walked
    → OfferLeaves gave old.emitter.now new.emitter.now old.memory.now new.memory.now q (frame_of walked.pa) (is_store kind) true
    → let e = entry_of regime (va / 4096) kind walked (Some q) in
    is_table e.frame e ≡ false → IsEntryOf (Cloaked c') (held_in new.memory.now.pager) e
page_entry gave first old new regime va kind q walked c c' sees sees' is_memory is outside leaves apart =
    let h = sees.holds in
    let h' = sees'.holds in
    let g = frame_of walked.pa in
    let here = leaves.held refl in
    let agrees = page_entry_agrees (held_in old.memory.now.pager) (held_in new.memory.now.pager) c.memory regime va kind walked q is.0 is.1
    (pager_owes old.memory.now.pager h.wiped c.memory h.pager) outside apart
    (outside_but old.memory.now.pager new.memory.now.pager g q h'.pager.whole leaves.others here) here
    (λ store. subst (λ (m : CloakedMemory). owed_in m g ≡ Some q) is_memory
    (owed_by_right new.memory.now.pager h'.wiped c'.memory h'.pager g ∙ leaves.owed refl (ap is_store store))) in (
      subst (λ (m : CloakedMemory). EntryAgrees (present (held_in new.memory.now.pager) m) (entry_of regime (va / 4096) kind walked (Some q)))
          (sym is_memory) agrees,
      subst (λ (n : ℕ). IsWithin n (entry_of regime (va / 4096) kind walked (Some q))) (h.pager.count ∙ sym leaves.same.frames ∙ sym h'.pager.count)
          (entry_within c.memory.ram regime va kind walked (Some q) is.0 is.1),
    )

-- The walk of an access, after a look that missed.

-- a walk by another name of the same access
pub walked_by : {E : Type 0} (gave : E → E → List Piece → Type 0) (first mid : Side E) (satp satp' : ℕ) (a a' : Access) (r : Walk)
    (w : World) → satp ≡ satp' → a ≡ a'
    → (is_clashed (ask_walk satp a w).world ≡ false → FollowsFrom (SeesWalking gave first) mid r (ask_walk satp a w))
    → is_clashed (ask_walk satp' a' w).world ≡ false → FollowsFrom (SeesWalking gave first) mid r (ask_walk satp' a' w)
walked_by gave first mid satp satp' a a' r w same also told =
    subst (λ (x : ℕ × Access). is_clashed (ask_walk x.0 x.1 w).world ≡ false → FollowsFrom (SeesWalking gave first) mid r (ask_walk x.0 x.1 w))
    (λ i. (same i, also i)) told

-- the touches of a walk are few
word_since : (pa : ℕ) (c : MidStep) → (c' : MidStep) × ((ask_word pa (Cloaked c)).world ≡ Cloaked c') × (touched_since 0 c'.events ≤ touched_since 0 c.events + 1)
unfolding ask_word
word_since pa c = by (is_in_ram c.memory.ram pa)
  where
    by : (b : Bool) → (c' : MidStep) × ((cond b (shown_word pa (settled (frame_of pa) (Cloaked c))) (answered None (Cloaked c))).world ≡ Cloaked c')
        × (touched_since 0 c'.events ≤ touched_since 0 c.events + 1)
    by true = let one = since_then 0 c.events (Touch (frame_of pa) ∷ []) in (settled_in (frame_of pa) c, refl, omega (arith, one))
    by false = (c, refl, omega arith)

after_since : (a : Access) (at1 : ℕ) (word : FirstWord) (c : MidStep) → (c' : MidStep) × ((ask_after a at1 word (Cloaked c)).world ≡ Cloaked c')
    × (touched_since 0 c'.events ≤ touched_since 0 c.events + 1)
after_since a at1 (Ends walk) c = (c, refl, omega arith)
after_since a at1 (GoesOn at0) c = word_since at0 c

first_since : (a : Access) (at1 : ℕ) (c : MidStep) → (c' : MidStep) × ((ask_first a at1 (Cloaked c)).world ≡ Cloaked c')
    × (touched_since 0 c'.events ≤ touched_since 0 c.events + 2)
first_since a at1 c =
    let told = ask_word at1 (Cloaked c) in
    let one = word_since at1 c in
    let two = after_since a at1 (first_word a at1 told.answer) one.0 in (
      two.0,
      ap (λ (v : World). (ask_after a at1 (first_word a at1 told.answer) v).world) one.1 ∙ two.1,
      let few = one.2 in let more = two.2 in omega (arith, few, more),
    )

walk_since : (satp : ℕ) (a : Access) (c : MidStep) → (c' : MidStep) × ((ask_walk satp a (Cloaked c)).world ≡ Cloaked c')
    × (touched_since 0 c'.events ≤ touched_since 0 c.events + 2)
unfolding ask_walk
walk_since satp a c = by (has_paging satp)
  where
    by : (b : Bool) → (c' : MidStep) × ((cond b (ask_first a (first_entry satp a.va) (Cloaked c)) (answered (without_paging a) (Cloaked c))).world ≡ Cloaked c')
        × (touched_since 0 c'.events ≤ touched_since 0 c.events + 2)
    by true = first_since a (first_entry satp a.va) c
    by false = (c, refl, omega arith)

-- so the walk is paid for
walked_sees : {E : Type 0} (gave : E → E → List Piece → Type 0) (first now : Side E) (satp : ℕ) (a : Access) (c : MidStep)
    → SeesWalking gave first now (ask_walk satp a (noted (Look satp a ∷ []) (Cloaked c))).world
    → Sees gave first now (ask_walk satp a (noted (Look satp a ∷ []) (Cloaked c))).world
walked_sees gave first now satp a c =
    let c1 : MidStep = record c { events = c.events ++ Look satp a ∷ [] } in
    let there = walk_since satp a c1 in
    let none : touched_since 0 c1.events ≡ 0 = since_then 0 c.events (Look satp a ∷ []) in
    let few = there.2 in
    subst (λ (u : World). SeesWalking gave first now u → Sees gave first now u) (sym there.1) (λ seen. record {
      holds = seen.holds;
      emits = seen.emits;
      violation = seen.violation;
      domain = seen.domain;
      regime = seen.regime;
      tracks = seen.tracks;
      spends = (
          let n = touched_since 0 there.0.events in
          let due = reads_due (asked_by (space_in now.regime) there.0) in
          let more = paid_is n due in
          spends_more 2 0 (paid n due) due (spent_in first.memory.now) (spent_in now.memory.now) (omega (arith, none, few, more)) seen.spends
          );
      maps = seen.maps;
    })

-- where a walk leads that was made: to an address of RAM, or to a fault
abbrev pub walk_place : ℕ → Kind → Walk → Walk
walk_place n kind (Err cause) = Err cause
walk_place n kind (Ok walked) = place_if (is_in_frames n walked.pa) kind walked

inside_told : {E : Type 0} (gave : E → E → List Piece → Type 0) (first mid : Side E) (regime : Regime) (va : ℕ) (kind : Kind)
    (r to : Walk) (v : World) → Sees gave first mid v → to ≡ walk_place (frames_of mid.memory.now) kind r
    → FollowsFrom (Sees gave first) mid to (ask_in_ram (access_in regime va kind) r v)
unfolding ask_in_ram
inside_told gave first mid regime va kind (Err cause) to v sees is = record { answer = is; stands = sees }
inside_told gave first mid regime va kind (Ok walked) to v sees is = record {
  answer = is
      ∙ ap (λ (n : ℕ). place_if (is_in_frames n walked.pa) kind walked) (sym (count_of gave first mid v sees))
      ∙ ap (λ (k : Kind). place_if (is_in_frames (length (ram_of v)) walked.pa) k walked) (sym (kind_of_access regime va kind));
  stands = sees;
}

-- an access is led by its walk
pub walk_follows : {E : Type 0} (gave : E → E → List Piece → Type 0) (first old mid : Side E) (regime : Regime) (va : ℕ) (kind : Kind)
    (r to : Walk) (w : World) → let w1 = noted (Look (satp_in regime) (access_in regime va kind) ∷ []) w in
    SeesWalking gave first old w1 → FollowsFrom (SeesWalking gave first) mid r (ask_walk (satp_in regime) (access_in regime va kind) w1)
    → to ≡ walk_place (frames_of mid.memory.now) kind r → FollowsFrom (Sees gave first) mid to (asked_led regime va kind w)
unfolding ask_led ask_translate
walk_follows gave first old mid regime va kind r to (Flat ram) sees told is = absurd sees
walk_follows gave first old mid regime va kind r to (Alone handed) sees told is = absurd sees
walk_follows gave first old mid regime va kind r to (Cloaked c) sees told is =
    let satp = satp_in regime in
    let a = access_in regime va kind in
    let t = ask_walk satp a (noted (Look satp a ∷ []) (Cloaked c)) in
    subst (λ (o : Walk). FollowsFrom (Sees gave first) mid to (ask_in_ram a o t.world)) told.answer
    (inside_told gave first mid regime va kind r to t.world (walked_sees gave first mid satp a c told.stands) is)

-- and by the walk that is handed on
pub walk_leads : {E : Type 0} (gave : E → E → List Piece → Type 0) (first old mid : Side E) (regime : Regime) (va : ℕ) (kind : Kind)
    (cloaked : Option PageId) (walked : Walked) (led : Led) (w : World) → let w1 = noted (Look (satp_in regime) (access_in regime va kind) ∷ []) w in
    SeesWalking gave first old w1 → FollowsFrom (SeesWalking gave first) mid (Ok walked) (ask_walk (satp_in regime) (access_in regime va kind) w1)
    → true ≡ is_in_frames (frames_of mid.memory.now) walked.pa → led ≡ record { pa = walked.pa; walked = Some walked; missed = true }
    → Leads gave first mid regime va kind cloaked (Ok led) (asked_led regime va kind w)
walk_leads gave first old mid regime va kind cloaked walked led (Flat ram) sees told inside is = absurd sees
walk_leads gave first old mid regime va kind cloaked walked led (Alone handed) sees told inside is = absurd sees
walk_leads gave first old mid regime va kind cloaked walked led (Cloaked c) sees told inside is =
    subst (λ (x : Led). Leads gave first mid regime va kind cloaked (Ok x) (asked_led regime va kind (Cloaked c))) (sym is)
    (leads_so gave first mid regime va kind cloaked walked (record { pa = walked.pa; walked = Some walked; missed = true }) c
    (walk_follows gave first old mid regime va kind (Ok walked) (Ok walked) (Cloaked c) sees told
    (ap (λ (b : Bool). place_if b kind walked) inside))
    (record { place = refl; handed = refl }) (λ none. absurd (none-some walked (sym none))))

-- the walk of an access that is not clashed is not
translate_unclashed : (satp : ℕ) (a : Access) (w : World) → is_clashed (ask_translate satp a w).world ≡ false
    → is_clashed (ask_walk satp a w).world ≡ false
unfolding ask_translate
translate_unclashed satp a w unclashed = let told = ask_walk satp a w in (later_inside a told.answer told.world).mark unclashed

pub led_unclashed : (regime : Regime) (va : ℕ) (kind : Kind) (w : World) → is_clashed (asked_led regime va kind w).world ≡ false
    → is_clashed (ask_walk (satp_in regime) (access_in regime va kind) (noted (Look (satp_in regime) (access_in regime va kind) ∷ []) w)).world ≡ false
unfolding ask_led
led_unclashed regime va kind w unclashed = translate_unclashed (satp_in regime) (access_in regime va kind) _ unclashed

-- The target of an open access was settled. If it was led without a walk, its translation stays.

quiet_known : (regime : Regime) (page : ℕ) (kind : Kind) (t t' : Table) (o : Option PageId) (f : ℕ) → t' ≡ killed_if (is_some o) (frame f) t → o ≡ None
    → is_known regime page kind t ≡ true → is_known regime page kind t' ≡ true
quiet_known regime page kind t t' o f ends none known =
    ap (λ (u : Table). is_known regime page kind u) (ends ∙ ap (λ (x : Option PageId). killed_if (is_some x) (frame f) t) none) ∙ known

pub opened_live : {E : Type 0} (gave : E → E → List Piece → Type 0) (first old new : Side E) (regime : Regime) (va : ℕ) (kind : Kind) (walked : Walked) (led : Led)
    (f : ℕ) (w : World) → f ≡ frame_of walked.pa → Sees gave first new (settled (frame_of walked.pa) w) → IsRegimeIn (space_in new.regime) regime
    → led.walked ≡ None → IsLive old.memory.now regime va kind None walked led → new.memory.now.counting ≡ old.memory.now.counting
    → new.memory.now.shadows ≡ killed_if (is_some (held_in old.memory.now.pager f)) (frame f) old.memory.now.shadows
    → Sees gave first new (opened (satp_in regime) (access_in regime va kind) walked w)
opened_live gave first old new regime va kind walked led f w at sees viewed none live counting ends =
    sees_live gave first new regime va kind None walked (settled (frame_of walked.pa) w) sees viewed (λ counts.
    let is = live none (sym counting ∙ counts) in
    quiet_known regime (va / 4096) kind old.memory.now.shadows new.memory.now.shadows (held_in old.memory.now.pager f) f ends
    (ap (held_in old.memory.now.pager) at ∙ is.1) is.0)

-- A page was offered where its access was led, and the frame holds it now.

pub reached_so : {E : Type 0} (gave : E → E → List Piece → Type 0) (first old new : Side E) (regime : Regime) (va : ℕ) (kind : Kind) (q : PageId)
    (walked : Walked) (led : Led) (c c' : MidStep) → SeesCloak gave first old c → SeesCloak gave first new c'
    → c'.memory ≡ (offer q (frame_of walked.pa) (is_store kind) c.memory).memory
    → IsLedSo old.memory.now (Cloaked c) regime va kind (Some q) walked led
    → OfferLeaves gave old.emitter.now new.emitter.now old.memory.now new.memory.now q (frame_of walked.pa) (is_store kind) true
    → IsReachedSo new.memory.now (Cloaked c') regime va kind q walked led
reached_so gave first old new regime va kind q walked led c c' sees sees' is so leaves = record {
  by = so.by;
  entry = page_entry gave first old new regime va kind q walked c c' sees sees' is so.walk so.outside leaves;
  live = λ none counts. let live = so.live none (sym leaves.counting ∙ counts) in (
    ap (λ (t : Table). is_known regime (va / 4096) kind t) (leaves.again live.1) ∙ live.0,
    leaves.held refl,
  );
}

-- An entry through its page's own frame never becomes live.

pub own_of : (f : Frame) (q : PageId) (e : Entry) {b : Bool} {regime : Regime} {page : ℕ} {kind : Kind} {pt1 pt0 : Option Frame}
    → e ≡ record { regime = regime; page = page; kind = kind; frame = f; pt1 = pt1; pt0 = pt0; cloaked = Some q } → is_table f e ≡ b → is_own_table e ≡ b
own_of f q e {b} is table =
    ap (λ (x : Entry). is_some x.cloaked && is_table x.frame e) is ∙ table

pub never_known : {E : Type 0} (gave : E → E → List Piece → Type 0) (first now : Side E) (regime : Regime) (va : ℕ) (kind : Kind) (walked : Walked) (cloaked : Option PageId) (e : Entry) (w : World)
    → Sees gave first now w → entry_in (space_in now.regime) (satp_in regime) (access_in regime va kind) walked cloaked ≡ e → is_own_table e ≡ true
    → Sees gave first now (known (satp_in regime) (access_in regime va kind) cloaked walked w)
never_known gave first now regime va kind walked cloaked e w sees same own =
    sees_noted gave first now _ w
    (born_tracks (space_in now.regime) (satp_in regime) (access_in regime va kind) walked cloaked now.memory.now.counting now.memory.now.shadows now.memory.now.shadows (held_in now.memory.now.pager)
    (λ counts. birth_never _ now.memory.now.shadows (ap is_own_table same ∙ own))) sees

-- A context asks in mode U, as its regime says.

abbrev asked_so : InsideRegime → ℕ → Kind → ℕ × Access
asked_so v va kind = (v.satp, record { mode = U; sum = v.sum; mxr = v.mxr; va = va; kind = kind })

asks_so : (v : InsideRegime) (r : Regime) (space : SpaceId) (va : ℕ) (kind : Kind) → space_in r ≡ Some space → IsRegimeFor v r
    → asked_so v va kind ≡ (satp_in r, access_in r va kind)
asks_so v (Outside satp mode sum mxr) space va kind at is = absurd (none-some space at)
asks_so v (Inside satp sum mxr s) space va kind at is =
    λ i. (is.0 i, record { mode = U; sum = is.1 i; mxr = is.2 i; va = va; kind = kind })

-- the questions of a context are asked by the regime of its side
pub asked_inside : {E : Type 0} (gave : E → E → List Piece → Type 0) (first now : Side E) (space : SpaceId) (va : ℕ) (kind : Kind)
    (w : World) → Sees gave first now w → space_in now.regime ≡ Some space → ask_led_inside va kind w ≡ asked_led now.regime va kind w
unfolding ask_led_inside
asked_inside gave first now space va kind (Flat ram) sees at = absurd sees
asked_inside gave first now space va kind (Alone handed) sees at = absurd sees
asked_inside gave first now space va kind (Cloaked c) sees at =
    ap (λ (x : ℕ × Access). ask_led x.0 x.1 (Cloaked c)) (asks_so c.regime now.regime space va kind at sees.regime)

-- and by its access
pub access_inside : {E : Type 0} (gave : E → E → List Piece → Type 0) (first now : Side E) (space : SpaceId) (va : ℕ) (kind : Kind)
    (w : World) → Sees gave first now w → space_in now.regime ≡ Some space → (P : ℕ → Access → Type 0)
    → P (satp_in now.regime) (access_in now.regime va kind) → P (regime_of w).satp (inside_access w va kind)
access_inside gave first now space va kind (Flat ram) sees at P is = absurd sees
access_inside gave first now space va kind (Alone handed) sees at P is = absurd sees
access_inside gave first now space va kind (Cloaked c) sees at P is =
    subst (λ (x : ℕ × Access). P x.0 x.1) (sym (asks_so c.regime now.regime space va kind at sees.regime)) is

-- a side's own regime is one of its accesses
pub viewed_own : (regime : Regime) → IsRegimeIn (space_in regime) regime
viewed_own (Outside satp mode sum mxr) = λ va kind. refl
viewed_own (Inside satp sum mxr space) = λ va kind. refl

-- The questions of a context, by its regime.

-- an access was opened by the regime that the side has still
pub opened_on : {E : Type 0} (gave : E → E → List Piece → Type 0) (first now mid : Side E) (space : SpaceId) (regime : Regime) (va : ℕ) (kind : Kind) (walked : Walked) (w : World)
    → Sees gave first now w → regime ≡ now.regime → space_in regime ≡ Some space
    → (IsRegimeIn (space_in now.regime) regime → Sees gave first mid (opened (satp_in regime) (access_in regime va kind) walked w))
    → Sees gave first mid (opened (regime_of w).satp (inside_access w va kind) walked w)
opened_on gave first now mid space regime va kind walked w sees same at stands =
    access_inside gave first now space va kind w sees (sym (ap space_in same) ∙ at) (λ (satp : ℕ) (a : Access). Sees gave first mid (opened satp a walked w))
    (subst (λ (v : Regime). Sees gave first mid (opened (satp_in v) (access_in v va kind) walked w)) same
    (stands (subst (λ (v : Regime). IsRegimeIn (space_in v) regime) same (viewed_own regime))))

pub known_inside : {E : Type 0} (gave : E → E → List Piece → Type 0) (first now mid : Side E) (space : SpaceId) (va : ℕ) (kind : Kind) (cloaked : Option PageId) (walked : Walked) (w : World)
    → Sees gave first now w → space_in now.regime ≡ Some space → Sees gave first mid (known (satp_in now.regime) (access_in now.regime va kind) cloaked walked w)
    → Sees gave first mid (known (regime_of w).satp (inside_access w va kind) cloaked walked w)
known_inside gave first now mid space va kind cloaked walked w sees at stands =
    access_inside gave first now space va kind w sees at (λ (satp : ℕ) (a : Access). Sees gave first mid (known satp a cloaked walked w)) stands

pub viewed_outside : (space : Option SpaceId) (satp : ℕ) (a : Access) → space ≡ None → IsRegimeIn space (Outside satp a.mode a.sum a.mxr)
viewed_outside space satp a none = subst (λ (o : Option SpaceId). IsRegimeIn o (Outside satp a.mode a.sum a.mxr)) (sym none) (λ va kind. refl)

-- A whole access of the kernel.

pub loaded_told : {E : Type 0} (gave : E → E → List Piece → Type 0) (first mid new : Side E) (satp : ℕ) (a : Access) (width : ℕ) (walked : Walked) (pa value : ℕ)
    (w : World) → FollowsFrom (Sees gave first) mid (Ok walked) (ask_led satp a w) → pa ≡ walked.pa
    → FollowsFrom (λ side v. Sees gave first side v) new value (shown_value pa width (opened satp a walked (ask_led satp a w).world))
    → FollowsFrom (Sees gave first) new (Ok value) (ask_load satp a width w)
unfolding ask_load loaded_at ask_value
loaded_told gave first mid new satp a width walked pa value w led at told =
    let shown = subst (λ (n : ℕ). FollowsFrom (λ side v. Sees gave first side v) new value (shown_value n width (opened satp a walked (ask_led satp a w).world))) at told in
    subst (λ (to : Walk). FollowsFrom (Sees gave first) new (Ok value) (loaded_at satp a width to (ask_led satp a w).world)) led.answer
    (record { answer = ap (λ (n : ℕ). Ok n) shown.answer; stands = shown.stands })

pub load_fault : {E : Type 0} (gave : E → E → List Piece → Type 0) (first new : Side E) (satp : ℕ) (a : Access) (width cause : ℕ)
    (w : World) → FollowsFrom (Sees gave first) new (Err cause) (ask_led satp a w)
    → FollowsFrom (Sees gave first) new (Err cause) (ask_load satp a width w)
unfolding ask_load loaded_at
load_fault gave first new satp a width cause w led =
    subst (λ (to : Walk). FollowsFrom (Sees gave first) new (Err cause) (loaded_at satp a width to (ask_led satp a w).world)) led.answer
    (record { answer = refl; stands = led.stands })

pub stored_told : {E : Type 0} (gave : E → E → List Piece → Type 0) (first mid new : Side E) (satp : ℕ) (a : Access) (width : ℕ) (walked : Walked) (pa value : ℕ)
    (w : World) → FollowsFrom (Sees gave first) mid (Ok walked) (ask_led satp a w) → pa ≡ walked.pa
    → FollowsFrom (λ side v. Sees gave first side v) new (tt {0}) (stored_value pa width value (opened satp a walked (ask_led satp a w).world))
    → FollowsFrom (Sees gave first) new (Ok (tt {0})) (ask_store_at satp a width value w)
unfolding ask_store_at stored_to ask_store
stored_told gave first mid new satp a width walked pa value w led at told =
    let put = subst (λ (n : ℕ). FollowsFrom (λ side v. Sees gave first side v) new (tt {0}) (stored_value n width value (opened satp a walked (ask_led satp a w).world))) at told in
    subst (λ (to : Walk). FollowsFrom (Sees gave first) new (Ok (tt {0})) (stored_to satp a width value to (ask_led satp a w).world)) led.answer
    (record { answer = refl; stands = put.stands })

pub store_fault : {E : Type 0} (gave : E → E → List Piece → Type 0) (first new : Side E) (satp : ℕ) (a : Access) (width value cause : ℕ)
    (w : World) → FollowsFrom (Sees gave first) new (Err cause) (ask_led satp a w)
    → FollowsFrom (Sees gave first) new (Err cause) (ask_store_at satp a width value w)
unfolding ask_store_at stored_to
store_fault gave first new satp a width value cause w led =
    subst (λ (to : Walk). FollowsFrom (Sees gave first) new (Err cause) (stored_to satp a width value to (ask_led satp a w).world)) led.answer
    (record { answer = refl; stands = led.stands })

-- an access that has not clashed did not clash when it was led
pub load_unclashed : (satp : ℕ) (a : Access) (width : ℕ) (w : World) → is_clashed (ask_load satp a width w).world ≡ false
    → is_clashed (ask_led satp a w).world ≡ false
unfolding ask_load
load_unclashed satp a width w unclashed =
    let told = ask_led satp a w in (later_loaded_at satp a width told.answer told.world).mark unclashed

pub store_unclashed : (satp : ℕ) (a : Access) (width value : ℕ) (w : World) → is_clashed (ask_store_at satp a width value w).world ≡ false
    → is_clashed (ask_led satp a w).world ≡ false
unfolding ask_store_at
store_unclashed satp a width value w unclashed =
    let told = ask_led satp a w in (later_stored_to satp a width value told.answer told.world).mark unclashed

-- Without paging an access leads to its own address.

bare_walk : (satp : ℕ) (a : Access) (w : World) → has_paging satp ≡ false
    → ask_walk satp a w ≡ record { answer = without_paging a; world = w }
unfolding ask_walk
bare_walk satp a w off =
    ap (λ (b : Bool). cond b (ask_first a (first_entry satp a.va) w) (let t : Told Walk = record { answer = without_paging a; world = w } in t)) off

-- the walk without paging
abbrev pub bare_walked : ℕ → Walked
bare_walked va = record { pa = va; pt1 = None; pt0 = None }

bare_access : {E : Type 0} (gave : E → E → List Piece → Type 0) (first now : Side E) (satp : ℕ) (a : Access) (b : Bool) (w : World)
    → Sees gave first now w → has_paging satp ≡ false → b ≡ is_in_frames (frames_of now.memory.now) a.va
    → FollowsFrom (Sees gave first) now (place_if b a.kind (bare_walked a.va)) (ask_translate satp a w)
unfolding ask_translate ask_in_ram
bare_access gave first now satp a b w sees off inside =
    let there : b ≡ is_in_ram (ram_of w) a.va = inside ∙ sym (ap (λ (n : ℕ). is_in_frames n a.va) (count_of gave first now w sees)) in
    let by : Told Walk → Told Walk = λ t. ask_in_ram a t.answer t.world in
    subst (λ (t : Told Walk). FollowsFrom (Sees gave first) now (place_if b a.kind (bare_walked a.va)) t)
    (sym (ap by (bare_walk satp a w off)))
    (record { answer = ap (λ (x : Bool). place_if x a.kind (bare_walked a.va)) there; stands = sees })

bare_translates : {E : Type 0} (gave : E → E → List Piece → Type 0) (first now : Side E) (regime : Regime) (va : ℕ) (kind : Kind)
    (b : Bool) (w : World) → Sees gave first now w → has_paging (satp_in regime) ≡ false
    → b ≡ is_in_frames (frames_of now.memory.now) va
    → FollowsFrom (Sees gave first) now (place_if b kind (bare_walked va)) (ask_translate (satp_in regime) (access_in regime va kind) w)
bare_translates gave first now (Outside satp mode sum mxr) va kind b w sees off inside =
    bare_access gave first now satp (access_in (Outside satp mode sum mxr) va kind) b w sees off inside
bare_translates gave first now (Inside satp sum mxr space) va kind b w sees off inside =
    bare_access gave first now satp (access_in (Inside satp sum mxr space) va kind) b w sees off inside

pub bare_follows : {E : Type 0} (gave : E → E → List Piece → Type 0) (first now : Side E) (regime : Regime) (va : ℕ) (kind : Kind)
    (b : Bool) (w : World) → Sees gave first now w → IsRegimeIn (space_in now.regime) regime → now.memory.now.counting ≡ false → has_paging (satp_in regime) ≡ false
    → b ≡ is_in_frames (frames_of now.memory.now) va
    → FollowsFrom (Sees gave first) now (place_if b kind (bare_walked va)) (asked_led regime va kind w)
unfolding ask_led
bare_follows gave first now regime va kind b w sees viewed uncounted off inside =
    bare_translates gave first now regime va kind b _ (looks_uncounted gave first now regime va kind w sees viewed uncounted) off inside

pub bare_leads : {E : Type 0} (gave : E → E → List Piece → Type 0) (first now : Side E) (regime : Regime) (va : ℕ) (kind : Kind)
    (cloaked : Option PageId) (w : World) → Sees gave first now w → IsRegimeIn (space_in now.regime) regime → now.memory.now.counting ≡ false → has_paging (satp_in regime) ≡ false
    → true ≡ is_in_frames (frames_of now.memory.now) va
    → Leads gave first now regime va kind cloaked (Ok (record { pa = va; walked = None; missed = false })) (asked_led regime va kind w)
bare_leads gave first now regime va kind cloaked (Flat ram) sees viewed uncounted off inside = absurd sees
bare_leads gave first now regime va kind cloaked (Alone handed) sees viewed uncounted off inside = absurd sees
bare_leads gave first now regime va kind cloaked (Cloaked c) sees viewed uncounted off inside =
    leads_so gave first now regime va kind cloaked (bare_walked va) (record { pa = va; walked = None; missed = false }) c
    (bare_follows gave first now regime va kind true (Cloaked c) sees viewed uncounted off inside)
    (record { place = refl; handed = tt }) (λ none counts. absurd (false≢true (sym uncounted ∙ counts)))

-- where an access was led, by the name that the question of a cloaked program has for it
pub led_inside : {E : Type 0} (gave : E → E → List Piece → Type 0) (first now : Side E) (regime : Regime) (va : ℕ) (kind : Kind)
    (cloaked : Option PageId) (to : Result Led ℕ) (w : World) → ask_led_inside va kind w ≡ asked_led regime va kind w
    → (is_clashed (asked_led regime va kind w).world ≡ false → Leads gave first now regime va kind cloaked to (asked_led regime va kind w))
    → is_clashed (ask_led_inside va kind w).world ≡ false → Leads gave first now regime va kind cloaked to (ask_led_inside va kind w)
led_inside gave first now regime va kind cloaked to w same so =
    subst (λ (t : Told Walk). is_clashed t.world ≡ false → Leads gave first now regime va kind cloaked to t) (sym same) so

-- on from what was found, where the side has the regime that it had before the look
pub found_on : {E : Type 0} (gave : E → E → List Piece → Type 0) (old new : Side E) (given : Answer) (q : PageId) (va : ℕ)
    (kind : Kind) (to : Option (Result Led ℕ)) (regime : Regime) → regime ≡ old.regime → Reaches gave old new given q va kind to
    → (first : Side E) (w : World) (s : SpaceId) → space_in regime ≡ Some s → ask_led_inside va kind w ≡ asked_led regime va kind w
    → (is_clashed (asked_led regime va kind w).world ≡ false → IsFoundSo gave first old w regime va kind (Some q) to)
    → is_clashed (reach_by_table q va kind w).world ≡ false → FollowsFrom (Sees gave first) new given (reach_by_table q va kind w)
found_on gave old new given q va kind to regime same reaches first w s at asked found =
    reaches first w s (sym (ap space_in same) ∙ at) (asked ∙ ap (λ (v : Regime). asked_led v va kind w) same)
    (subst (λ (v : Regime). is_clashed (asked_led v va kind w).world ≡ false → IsFoundSo gave first old w v va kind (Some q) to) same found)

-- so it is after the look
pub found_reaches : {E : Type 0} (gave : E → E → List Piece → Type 0) (old mid new : Side E) (given : Answer)
    (q : PageId) (va : ℕ) (kind : Kind) (to : Option (Result Led ℕ)) → Keeps (StaysWithin gave) old mid
    → ((first : Side E) (w : World) → Sees gave first old w → IsFoundSo gave first mid w old.regime va kind (Some q) to)
    → Reaches gave mid new given q va kind to → FollowsInside gave old new given (reach_by_table q va kind)
found_reaches gave old mid new given q va kind to keeps found reaches first w s sees at =
    found_on gave mid new given q va kind to old.regime (sym (within_of gave old mid keeps).stays.regime) reaches
    first w s at (asked_inside gave first old s va kind w sees at) (λ u. found first w sees)

-- if it leads to no address, the answer to the question for a page is its fault
pub fault_reaches : {E : Type 0} (gave : E → E → List Piece → Type 0) (old new : Side E) (given : Answer) (q : PageId) (va : ℕ)
    (kind : Kind) (cause : ℕ) → FollowsAlways gave old new given (if_drawn (replies (Absent cause)))
    → Reaches gave old new given q va kind (Some (Err cause))
unfolding reach_by_table
fault_reaches gave old new given q va kind cause told first w s at same so unclashed =
    asked_fault gave first old new given va kind (reached q va kind) cause w (later_reached q va kind) (reached_fault q va kind cause) unclashed
    (led_inside gave first old old.regime va kind (Some q) (Err cause) w same so) told
