-- The questions of a cloaked program, over plain variables.
use Rattle.std.proofs.Common.{◌≡◌, ◌+◌, arith, ℕ, Bool, true, false, cond, List, length, ◌++◌, Option, Some, ◌*◌, ◌%◌, ◌^◌, Ok}
use Rattle.std.proofs.Common.{Err, refl, ap, sym, ◌∙◌, subst}
use Rattle.cloak_model.specs.declared.answer.Answer.{Answer}
use Rattle.cloak_model.specs.declared.answer.Answer.TheVariants.{Stopped, Absent, Word, Ok as Granted}
use Rattle.cloak_base.specs.declared.names.Kind.{Kind}
use Rattle.cloak_base.specs.declared.names.Kind.TheVariants.{Load, Store}
use Rattle.cloak_model.specs.Items as item
use Rattle.cloak_model.specs.Memory.{with_value_in}
use Rattle.cloak_model.specs.Ask.{opened, shown_value}
use Rattle.cloak_model.proofs.Later.{IsLater}
use Rattle.cloak_model.proofs.PagesLater.{later_drawn, later_offered}
use Rattle.cloak_model.specs.World.{World, MidStep, Flat, Cloaked, Alone, cipher_items, is_clashed, stored_at}
use Rattle.cloak_model.specs.World.{regime_of, is_missed, written}
use Rattle.cloak_model.specs.Asking.{Asking, FollowsFrom, then_ask}
use Rattle.cloak_model.specs.AskPages.{answer_item, replies, if_drawn, inside_access, ask_led_inside, get_at, got, put_at, stored_inside}
use Rattle.cloak_model.specs.AskPages.{offer_events, offered_by, ask_offer, reached, is_store, ask_read, ask_write}
use Rattle.cloak_base.specs.declared.names.PageId.{PageId}
use Rattle.cloak_base.specs.declared.causes.Violation.{Violation}
use Rattle.cloak_base.specs.declared.causes.Violation.TheVariants as violation
use Rattle.cloak_model.specs.Cloaking.{offer}
use Rattle.cloak_model.specs.Exchange.{Piece, Emits, item_pieces}
use Rattle.cloaked_side.specs.Holding.{Holds}
use Rattle.cloaked_side.specs.Leading.{IsLedSo, Leads}
use Rattle.cloaked_side.specs.Offering.{Offers, OffersPage}
use Rattle.cloaked_side.specs.declared.leading.Led.{Led}
use Rattle.cloak_model.specs.declared.access.Walked.{Walked}
use Rattle.cloak_model.specs.Walk.{Walk}
use Rattle.cloak_model.proofs.Emitting.{emits_items}
use Rattle.cloaked_side.proofs.Sided.{Repaged, still_turned, sees_still}
use Rattle.cloaked_side.proofs.Tracking.{respaced, tracks_on}
use Rattle.cloaked_side.specs.Tracking.{Tracks, TracksBy, MapsBy, spent_in}
use Rattle.shadow_fold.specs.Reads.{SpendsFor, looks_in, reads_due}
use Rattle.cloaked_side.proofs.Spending.{ciphers_due, due_then, maps_of, maps_on, maps_still, spends_looks, spends_more, spends_then}
use Rattle.shadow_fold.specs.Fold.{Fold, after_events}
use Rattle.cloak_model.specs.Ask.{known}
use Rattle.cloak_model.specs.Asking.{Told}
use Rattle.cloak_base.specs.Constants.{frame_of}
use Rattle.cloak_model.specs.PageMoves.{with_newest}
use Rattle.cloak_pager.specs.Asking.{ReadsNewest, FollowsCallStill, after_write_plain}
use Rattle.shadow_fold.specs.declared.entry.Regime.{Regime}
use Rattle.cloaked_side.specs.Seeing.{FollowsAlways, IsRegimeFor, Sees, SeesCloak, asked_by, space_in}
use Rattle.cloaked_side.specs.declared.side.Side.{Side}
use Rattle.shadow_fold.proofs.Looks.{looks_then}

-- the domain that is answered
domain_of : {E : Type 0} (gave : E → E → List Piece → Type 0) (first now : Side E) (w : World) →
    Sees gave first now w → now.domain ≡ (regime_of w).domain
domain_of gave first now (Flat ram) sees = absurd sees
domain_of gave first now (Alone handed) sees = absurd sees
domain_of gave first now (Cloaked c) sees = sees.domain

-- whether a draw was missing
missed_of : {E : Type 0} (gave : E → E → List Piece → Type 0) (first now : Side E) (w : World) →
    Sees gave first now w → now.memory.now.missed ≡ is_missed w
missed_of gave first now (Flat ram) sees = absurd sees
missed_of gave first now (Alone handed) sees = absurd sees
missed_of gave first now (Cloaked c) sees = sees.holds.missed

pub answered_told : {E : Type 0} (gave : E → E → List Piece → Type 0) (first old new : Side E) (a : Answer) (w : World) →
    Sees gave first old w → Sees gave first new (written (answer_item old.domain a) w) →
    FollowsFrom (Sees gave first) new a (replies a w)
unfolding replies
answered_told gave first old new a w sees stands = record {
  answer = refl;
  stands = subst (λ (d : ℕ). Sees gave first new (written (answer_item d a) w)) (domain_of gave first old w sees) stands;
}

pub drawn_told : {E : Type 0} (gave : E → E → List Piece → Type 0) (first now new : Side E) (a : Answer)
    (ask : Asking Answer) (w : World) → Sees gave first now w → now.memory.now.missed ≡ true →
    FollowsFrom (Sees gave first) new a (replies Stopped w) → FollowsFrom (Sees gave first) new a (if_drawn ask w)
unfolding if_drawn
drawn_told gave first now new a ask w sees missed told =
    subst (λ (b : Bool). FollowsFrom (Sees gave first) new a (cond b (replies Stopped w) (ask w)))
    (sym missed ∙ missed_of gave first now w sees) told

pub undrawn_told : {E : Type 0} (gave : E → E → List Piece → Type 0) (first now new : Side E) (a : Answer)
    (ask : Asking Answer) (w : World) → Sees gave first now w → now.memory.now.missed ≡ false →
    FollowsFrom (Sees gave first) new a (ask w) → FollowsFrom (Sees gave first) new a (if_drawn ask w)
unfolding if_drawn
undrawn_told gave first now new a ask w sees missed told =
    subst (λ (b : Bool). FollowsFrom (Sees gave first) new a (cond b (replies Stopped w) (ask w)))
    (sym missed ∙ missed_of gave first now w sees) told

-- one question, and then another
pub then_told : {E A B : Type 0} (gave : E → E → List Piece → Type 0) (first now new : Side E) (r : A) (a : B)
    (ask : Asking A) (next : A → Asking B) (w : World) → FollowsFrom (Sees gave first) now r (ask w) →
    (Sees gave first now (ask w).world → FollowsFrom (Sees gave first) new a (next r (ask w).world)) →
    FollowsFrom (Sees gave first) new a (then_ask ask next w)
then_told gave first now new r a ask next w told after =
    subst (λ x. FollowsFrom (Sees gave first) new a (next x (ask w).world)) told.answer (after told.stands)

undrawn_clash : {E : Type 0} (gave : E → E → List Piece → Type 0) (first now : Side E) (ask : Asking Answer)
    (w : World) → Sees gave first now w → now.memory.now.missed ≡ false → is_clashed (if_drawn ask w).world ≡ false →
    is_clashed (ask w).world ≡ false
unfolding if_drawn
undrawn_clash gave first now ask w sees missed e =
    subst (λ (b : Bool). is_clashed (cond b (replies Stopped w) (ask w)).world ≡ false)
    (sym (missed_of gave first now w sees) ∙ missed) e

-- A question that begins with an access: a draw was missing in its walk.
pub asked_drawn : {E : Type 0} (gave : E → E → List Piece → Type 0) (first now new : Side E) (a : Answer) (va : ℕ)
    (kind : Kind) (next : Walk → Asking Answer) (w : World) → ((to : Walk) (v : World) → IsLater v (next to v).world) →
    is_clashed (then_ask (ask_led_inside va kind) (λ to. if_drawn (next to)) w).world ≡ false →
    (is_clashed (ask_led_inside va kind w).world ≡ false → Sees gave first now (ask_led_inside va kind w).world) →
    now.memory.now.missed ≡ true → FollowsAlways gave now new a (replies Stopped) →
    FollowsFrom (Sees gave first) new a (then_ask (ask_led_inside va kind) (λ to. if_drawn (next to)) w)
asked_drawn gave first now new a va kind next w later unclashed stand missed stopped =
    let told = ask_led_inside va kind w in
    let sees = stand ((later_drawn (next told.answer) told.world (later told.answer)).mark unclashed) in
    drawn_told gave first now new a (next told.answer) told.world sees missed (stopped first told.world sees)

-- None was, and the access was led.
pub asked_undrawn : {E : Type 0} (gave : E → E → List Piece → Type 0) (first now new : Side E) (a : Answer)
    (regime : Regime) (va : ℕ) (kind : Kind) (cloaked : Option PageId) (led : Led) (next : Walk → Asking Answer)
    (w : World) → ((to : Walk) (v : World) → IsLater v (next to v).world) →
    is_clashed (then_ask (ask_led_inside va kind) (λ to. if_drawn (next to)) w).world ≡ false →
    (is_clashed (ask_led_inside va kind w).world ≡ false →
    Leads gave first now regime va kind cloaked (Ok led) (ask_led_inside va kind w)) →
    now.memory.now.missed ≡ false →
    ((walked : Walked) → let v = (ask_led_inside va kind w).world in Sees gave first now v →
    IsLedSo now.memory.now v regime va kind cloaked walked led → is_clashed (next (Ok walked) v).world ≡ false →
    FollowsFrom (Sees gave first) new a (next (Ok walked) v)) →
    FollowsFrom (Sees gave first) new a (then_ask (ask_led_inside va kind) (λ to. if_drawn (next to)) w)
asked_undrawn gave first now new a regime va kind cloaked led next w later unclashed leads missed goes_on =
    let told = ask_led_inside va kind w in
    let so = leads ((later_drawn (next told.answer) told.world (later told.answer)).mark unclashed) in
    let sees = so.1.stands in
    subst (λ (to : Walk). is_clashed (if_drawn (next to) told.world).world ≡ false →
    FollowsFrom (Sees gave first) new a (if_drawn (next to) told.world)) so.1.answer
    (λ clash. undrawn_told gave first now new a (next (Ok so.0)) told.world sees missed
    (goes_on so.0 sees so.2 (undrawn_clash gave first now (next (Ok so.0)) told.world sees missed clash))) unclashed

-- It led to no address.

drawn_same : (ask ask' : Asking Answer) (w : World) → ask w ≡ ask' w → if_drawn ask w ≡ if_drawn ask' w
unfolding if_drawn
drawn_same ask ask' w is = ap (λ (t : Told Answer). cond (is_missed w) (replies Stopped w) t) is

pub asked_fault : {E : Type 0} (gave : E → E → List Piece → Type 0) (first now new : Side E) (a : Answer) (va : ℕ)
    (kind : Kind) (next : Walk → Asking Answer) (cause : ℕ) (w : World) →
    ((to : Walk) (v : World) → IsLater v (next to v).world) →
    ((v : World) → replies (Absent cause) v ≡ next (Err cause) v) →
    is_clashed (then_ask (ask_led_inside va kind) (λ to. if_drawn (next to)) w).world ≡ false →
    (is_clashed (ask_led_inside va kind w).world ≡ false →
    FollowsFrom (Sees gave first) now (Err cause) (ask_led_inside va kind w)) →
    FollowsAlways gave now new a (if_drawn (replies (Absent cause))) →
    FollowsFrom (Sees gave first) new a (then_ask (ask_led_inside va kind) (λ to. if_drawn (next to)) w)
asked_fault gave first now new a va kind next cause w later is unclashed leads told =
    let v = (ask_led_inside va kind w).world in
    let u = (later_drawn (next (ask_led_inside va kind w).answer) v (later (ask_led_inside va kind w).answer)).mark unclashed in
    then_told gave first now new (Err cause) a (ask_led_inside va kind) (λ to. if_drawn (next to)) w (leads u)
    (λ stands. subst (λ (t : Told Answer). FollowsFrom (Sees gave first) new a t)
    (drawn_same (replies (Absent cause)) (next (Err cause)) v (is v)) (told first v stands))

-- no draw was missing, and its fault was answered
pub fault_told : {E : Type 0} (gave : E → E → List Piece → Type 0) (now new : Side E) (a : Answer) (cause : ℕ) →
    now.memory.now.missed ≡ false → FollowsAlways gave now new a (replies (Absent cause)) →
    FollowsAlways gave now new a (if_drawn (replies (Absent cause)))
fault_told gave now new a cause missed told first w sees =
    undrawn_told gave first now new a (replies (Absent cause)) w sees missed (told first w sees)

pub got_fault : (va width cause : ℕ) (w : World) → replies (Absent cause) w ≡ got va width (Err cause) w
unfolding got
got_fault va width cause w = refl

-- the value at a settled address was read, and told
pub get_told : {E : Type 0} (gave : E → E → List Piece → Type 0) (first mid new : Side E) (pa width value low : ℕ)
    (a : Answer) (w : World) → FollowsFrom (λ side v. Sees gave first side v) mid value (shown_value pa width w) →
    low ≡ value % 2 ^ (8 * width) →
    ((v : World) → Sees gave first mid v → FollowsFrom (Sees gave first) new a (replies (Word low) v)) →
    FollowsFrom (Sees gave first) new a (get_at pa width w)
unfolding get_at
get_told gave first mid new pa width value low a w read cut told =
    let same : low ≡ (shown_value pa width w).answer % 2 ^ (8 * width) = cut ∙ ap (λ (n : ℕ). n % 2 ^ (8 * width)) read.answer in
    subst (λ (n : ℕ). FollowsFrom (Sees gave first) new a (replies (Word n) (shown_value pa width w).world)) same
    (told (shown_value pa width w).world read.stands)

pub get_at_led : {E : Type 0} (gave : E → E → List Piece → Type 0) (first new : Side E) (va width pa : ℕ) (walked : Walked)
    (a : Answer) (w : World) → pa ≡ walked.pa →
    FollowsFrom (Sees gave first) new a
    (if_drawn (get_at pa width) (opened (regime_of w).satp (inside_access w va Load) walked w)) →
    FollowsFrom (Sees gave first) new a (got va width (Ok walked) w)
unfolding got
get_at_led gave first new va width pa walked a w at told =
    subst (λ (n : ℕ). FollowsFrom (Sees gave first) new a
    (if_drawn (get_at n width) (opened (regime_of w).satp (inside_access w va Load) walked w))) at told

-- A value was stored, that was written, and it was granted.
pub put_told : {E : Type 0} (gave : E → E → List Piece → Type 0) (first mid after new : Side E) (pa width value : ℕ)
    (a : Answer) (w : World) →
    Sees gave first mid (stored_at pa width value w) →
    ((v : World) → Sees gave first mid v →
    Sees gave first after (written (item.Put pa width (value % 2 ^ (8 * width))) v)) →
    ((v : World) → Sees gave first after v → FollowsFrom (Sees gave first) new a (replies Granted v)) →
    FollowsFrom (Sees gave first) new a (put_at pa width value w)
unfolding put_at
put_told gave first mid after new pa width value a w stored written_so granted =
    granted _ (written_so (stored_at pa width value w) stored)

pub stored_fault : (va width value cause : ℕ) (w : World) →
    replies (Absent cause) w ≡ stored_inside va width value (Err cause) w
unfolding stored_inside
stored_fault va width value cause w = refl

pub put_at_led : {E : Type 0} (gave : E → E → List Piece → Type 0) (first new : Side E) (va width value pa : ℕ)
    (walked : Walked) (a : Answer) (w : World) → pa ≡ walked.pa →
    FollowsFrom (Sees gave first) new a
    (if_drawn (put_at pa width value) (opened (regime_of w).satp (inside_access w va Store) walked w)) →
    FollowsFrom (Sees gave first) new a (stored_inside va width value (Ok walked) w)
unfolding stored_inside
put_at_led gave first new va width value pa walked a w at told =
    subst (λ (n : ℕ). FollowsFrom (Sees gave first) new a
    (if_drawn (put_at n width value) (opened (regime_of w).satp (inside_access w va Store) walked w))) at told

-- A page was offered.

-- the memory and the step after an offer
abbrev pub offered_cloak : PageId → ℕ → Bool → MidStep → MidStep
offered_cloak q g write c =
    let o = offer q g write c.memory in
    record c { memory = o.memory; items = c.items ++ cipher_items o.ciphers; events = c.events ++ offer_events q g c.memory o.granted }

sees_offered : {E : Type 0} (gave : E → E → List Piece → Type 0) (first old mid : Side E) (granted : Bool)
    (q : PageId) (g : ℕ) (write : Bool) (c : MidStep) → SeesCloak gave first old c →
    Offers gave old.emitter.now mid.emitter.now mid.memory.now granted (offer q g write c.memory) →
    OffersPage gave old.emitter.now mid.emitter.now old.memory.now mid.memory.now q g write granted →
    mid.violation ≡ old.violation → mid.domain ≡ old.domain → mid.regime ≡ old.regime →
    SeesCloak gave first mid (offered_cloak q g write c)
sees_offered gave first old mid granted q g write c sees o page violation domain regime = record {
  holds = o.holds;
  emits = emits_items c.items (cipher_items (offer q g write c.memory).ciphers) sees.emits o.emits;
  violation = violation ∙ sees.violation;
  domain = domain ∙ sees.domain;
  regime = subst (λ (r : Regime). IsRegimeFor c.regime r) (sym regime) sees.regime;
  tracks = tracks_on first.memory.now old.memory.now mid.memory.now (space_in mid.regime) c.events (offer_events q g c.memory (offer q g write c.memory).granted)
      (respaced first.memory.now old.memory.now (space_in old.regime) (space_in mid.regime) c.events
      (ap space_in regime) sees.tracks)
      (subst (λ x. TracksBy old.memory.now mid.memory.now
      (after_events (space_in mid.regime) (offer_events q g c.memory x))) o.answer
      (page.tracks c.memory sees.holds (space_in mid.regime)));
  spends = spends_looks
      (let looks = looks_then c.events (offer_events q g c.memory (offer q g write c.memory).granted) in omega (arith, looks))
      (spends_more (0 + 0) 0 (reads_due (asked_by (space_in old.regime) c) + length (offer q g write c.memory).ciphers)
      (reads_due (asked_by (space_in mid.regime) (offered_cloak q g write c))) (spent_in first.memory.now) (spent_in mid.memory.now)
      (let both = due_then (space_in mid.regime) c.events (offer_events q g c.memory (offer q g write c.memory).granted) c.items
      (cipher_items (offer q g write c.memory).ciphers) in
      let shown = ciphers_due (offer q g write c.memory).ciphers in omega (arith, both, shown))
      (spends_then 0 0 (reads_due (asked_by (space_in old.regime) c)) (length (offer q g write c.memory).ciphers) (spent_in first.memory.now)
      (spent_in old.memory.now) (spent_in mid.memory.now) sees.spends (page.spends c.memory sees.holds)));
  maps = maps_on first.memory.now old.memory.now mid.memory.now (space_in mid.regime) c.events (offer_events q g c.memory (offer q g write c.memory).granted)
      (maps_of first.memory.now old.memory.now (space_in old.regime) (space_in mid.regime) c.events (ap space_in regime) sees.maps)
      (maps_still old.memory.now mid.memory.now (space_in mid.regime) _ page.maps);
}

-- the same side, except for a violation
pub with_violation : {E : Type 0} (gave : E → E → List Piece → Type 0) (first mid after : Side E) (v : Option Violation) (c : MidStep) →
    SeesCloak gave first mid c → after.memory ≡ mid.memory → after.emitter ≡ mid.emitter → after.domain ≡ mid.domain → after.regime ≡ mid.regime →
    after.violation ≡ v → SeesCloak gave first after (record c { violation = v })
with_violation gave first mid after v c sees memory emitter domain regime violated = record {
  holds = subst (λ x. Holds x.now c.memory) (sym memory) sees.holds;
  emits = subst (λ e. Emits gave first.emitter.now e.now (item_pieces c.items)) (sym emitter) sees.emits;
  violation = violated;
  domain = domain ∙ sees.domain;
  regime = subst (λ (r : Regime). IsRegimeFor c.regime r) (sym regime) sees.regime;
  tracks = subst (λ x. TracksBy first.memory.now x.now (after_events (space_in after.regime) c.events)) (sym memory)
      (respaced first.memory.now mid.memory.now (space_in mid.regime) (space_in after.regime) c.events (ap space_in regime) sees.tracks);
  spends = subst (λ x. SpendsFor (looks_in c.events) 0 (reads_due (asked_by (space_in after.regime) c)) (spent_in first.memory.now) (spent_in x.now))
      (sym memory) sees.spends;
  maps = subst (λ x. MapsBy first.memory.now x.now (space_in after.regime) c.events) (sym memory)
      (maps_of first.memory.now mid.memory.now (space_in mid.regime) (space_in after.regime) c.events (ap space_in regime) sees.maps);
}

-- What follows of an offer.
pub asked_offer : {E : Type 0} (gave : E → E → List Piece → Type 0) (first old mid new : Side E) (granted : Bool)
    (q : PageId) (va : ℕ) (kind : Kind) (walked : Walked) (a : Answer) (w : World) →
    Sees gave first old w → is_clashed (reached q va kind (Ok walked) w).world ≡ false →
    OffersPage gave old.emitter.now mid.emitter.now old.memory.now mid.memory.now q (frame_of walked.pa) (is_store kind) granted →
    mid.violation ≡ old.violation → mid.domain ≡ old.domain → mid.regime ≡ old.regime →
    ((c c' : MidStep) → w ≡ Cloaked c → SeesCloak gave first old c → SeesCloak gave first mid c' →
    c'.memory ≡ (offer q (frame_of walked.pa) (is_store kind) c.memory).memory →
    FollowsFrom (Sees gave first) new a (if_drawn (offered_by q va kind walked granted) (Cloaked c'))) →
    FollowsFrom (Sees gave first) new a (reached q va kind (Ok walked) w)
unfolding ask_offer reached
asked_offer gave first old mid new granted q va kind walked a (Flat ram) sees clash page violation domain regime told = absurd sees
asked_offer gave first old mid new granted q va kind walked a (Alone handed) sees clash page violation domain regime told = absurd sees
asked_offer {E} gave first old mid new granted q va kind walked a (Cloaked c) sees clash page violation domain regime told =
    let g = frame_of walked.pa in
    let store = is_store kind in
    let o = offer q g store c.memory in
    let c' = offered_cloak q g store c in
    let unclashed = (later_drawn (offered_by q va kind walked o.granted) (Cloaked c') (later_offered q va kind walked o.granted)).mark clash in
    let done = page.offers c.memory sees.holds unclashed in
    subst (λ (b : Bool). FollowsFrom (Sees gave first) new a (if_drawn (offered_by q va kind walked b) (Cloaked c'))) done.answer
    (told c c' refl sees (sees_offered gave first old mid granted q g store c sees done page violation domain regime) refl)

-- It is granted, once its translation is known: no draw was missing.
pub granted_told : {E : Type 0} (gave : E → E → List Piece → Type 0) (first mid after new : Side E) (q : PageId) (va : ℕ) (kind : Kind)
    (walked : Walked) (a : Answer) (c : MidStep) → SeesCloak gave first mid c → mid.memory.now.missed ≡ false →
    Sees gave first after (known (regime_of (Cloaked c)).satp (inside_access (Cloaked c) va kind) (Some q) walked (Cloaked c)) →
    FollowsAlways gave after new a (replies Granted) →
    FollowsFrom (Sees gave first) new a (if_drawn (offered_by q va kind walked true) (Cloaked c))
unfolding offered_by
granted_told gave first mid after new q va kind walked a c seen drawn sees told =
    undrawn_told gave first mid new a (offered_by q va kind walked true) (Cloaked c) seen drawn (told first _ sees)

-- The frame shows something else, and that is a violation, if no draw was missing.
pub refused_told : {E : Type 0} (gave : E → E → List Piece → Type 0) (first mid after new : Side E) (q : PageId) (va : ℕ) (kind : Kind)
    (walked : Walked) (a : Answer) (c : MidStep) → SeesCloak gave first mid c → mid.memory.now.missed ≡ false →
    SeesCloak gave first after (record c { violation = Some (violation.Page q (record { 0 = frame_of walked.pa })) }) →
    FollowsAlways gave after new a (replies Stopped) →
    FollowsFrom (Sees gave first) new a (if_drawn (offered_by q va kind walked false) (Cloaked c))
unfolding offered_by
refused_told gave first mid after new q va kind walked a c seen drawn sees told =
    undrawn_told gave first mid new a (offered_by q va kind walked false) (Cloaked c) seen drawn (told first _ sees)

pub reached_fault : (q : PageId) (va : ℕ) (kind : Kind) (cause : ℕ) (w : World) → replies (Absent cause) w ≡ reached q va kind (Err cause) w
unfolding reached
reached_fault q va kind cause w = refl

-- The page's newest bytes, if no draw is missing.
pub plain_told : {E : Type 0} (gave : E → E → List Piece → Type 0) (first now : Side E) (q : PageId)
    (at width value : ℕ) (w : World) → Sees gave first now w → now.memory.now.missed ≡ false →
    ReadsNewest now.memory.now.pager q at width value →
    FollowsFrom (λ side v. Sees gave first side v) now value (ask_read q at width w)
unfolding ask_read
plain_told gave first now q at width value (Flat ram) sees drawn reads = absurd sees
plain_told gave first now q at width value (Alone handed) sees drawn reads = absurd sees
plain_told gave first now q at width value (Cloaked c) sees drawn reads =
    record { answer = reads sees.holds.wiped c.memory sees.holds.pager (sees.holds.whole drawn q); stands = sees }

pub plain_stored : {E : Type 0} (gave : E → E → List Piece → Type 0) (first old new : Side E) (q : PageId)
    (at width value : ℕ) (w : World) → Repaged old new → new.memory.now.shadows ≡ old.memory.now.shadows →
    new.memory.now.pager.rights ≡ old.memory.now.pager.rights →
    length new.memory.now.pager.frames ≡ length old.memory.now.pager.frames →
    FollowsCallStill old.memory.now.pager new.memory.now.pager (tt {0})
    (after_write_plain q (record { at = at; width = width; value = value })) →
    ((s : Fold) → Tracks old.memory.now s → Tracks new.memory.now s) →
    new.memory.now.pager.reads ≡ old.memory.now.pager.reads →
    Sees gave first old w → FollowsFrom (λ side v. Sees gave first side v) new (tt {0}) (ask_write q at width value w)
unfolding ask_write
plain_stored gave first old new q at width value (Flat ram) same shadows rights count meets tracks reads sees = absurd sees
plain_stored gave first old new q at width value (Alone handed) same shadows rights count meets tracks reads sees = absurd sees
plain_stored gave first old new q at width value (Cloaked c) same shadows rights count meets tracks reads sees = record {
  answer = refl;
  stands = sees_still gave first old new c
      (with_newest q (with_value_in (c.memory.plain q) at width value) c.memory) same
      (record { stream = refl; draws = refl; missed = refl }) refl
      (still_turned old.memory.now new.memory.now c.memory _ rights count shadows (λ held. refl))
      (λ wiped s. (meets wiped c.memory s).stands) tracks reads shadows sees;
}
