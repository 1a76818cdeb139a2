-- Questions and plain steps under the veil.
use Rattle.std.proofs.Common.{◌≡◌, ◌∙◌, ℕ, zero, suc, Bool, true, false, List, [], ◌∷◌, Option, Some, None, refl, sym, ap, subst, slice_index_or}
use Rattle.std.specs.Prelude.{◌++◌, ◌||◌, ◌*◌, ◌%◌, ◌^◌, ◌+◌, if◌then◌else◌, Ok, Err, length}
use Rattle.std.specs.List.{find}
use Rattle.cloak_base.specs.Random.{Random}
use Rattle.cloak_base.specs.Constants.{frame_of}
use Rattle.cloak_base.specs.declared.names.PageId.{PageId}
use Rattle.cloak_base.specs.declared.names.Kind.{Kind}
use Rattle.cloak_base.specs.declared.names.Kind.TheVariants.{Load, Store}
use Rattle.cloak_base.specs.declared.names.Mode.TheVariants.{U}
use Rattle.cloak_base.specs.declared.causes.Violation.TheVariants as violation
use Rattle.cloak_model.specs.declared.access.Access.{Access}
use Rattle.cloak_model.specs.declared.access.Walked.{Walked}
use Rattle.cloak_model.specs.declared.answer.Answer.{Answer}
use Rattle.cloak_model.specs.declared.answer.Answer.TheVariants as answer
use Rattle.cloak_model.specs.Items.{Item}
use Rattle.cloak_model.specs.Items as item
use Rattle.cloak_model.specs.declared.regime.InsideRegime.{InsideRegime}
use Rattle.cloak_model.specs.Hart.{Hart}
use Rattle.cloak_model.specs.Sealing.{Sealing}
use Rattle.cloak_model.specs.Ledger.{next_vector}
use Rattle.cloak_model.specs.Memory.{is_in_ram, value_at}
use Rattle.cloak_model.specs.Events.{Event, Touch, Look, Born, Read, Offer as offers}
use Rattle.cloak_model.specs.Walk.{Walk, FirstWord, Ends, GoesOn, has_paging, without_paging, first_entry, first_word, second_word, access_fault, frame_at}
use Rattle.cloak_model.specs.World.{World, MidStep, Flat, Cloaked, Alone, ram_of, is_missed, owed_of, regime_of, written, noted, settled, stored_at, cipher_items}
use Rattle.cloak_model.specs.Asking.{Told, Asking, answered, then_ask}
use Rattle.cloak_model.specs.Cloaking.{CloakedMemory, AfterSettling, AfterOffer, settle_owed, settle, offer}
use Rattle.cloak_model.specs.Ask.{shown_word, ask_word, or_ends, ask_walk, ask_in_ram, ask_translate, ask_led, opened, shown_value, stored_value}
use Rattle.cloak_model.specs.AskPages.{answer_item, replies, if_drawn, inside_access, ask_led_inside, is_store, offer_events, offered_by, ask_offer, reached, reach_by_table, get_at, got, get_by_table, put_at, stored_inside, put_by_table, is_marked, settled_if_marked, clear_from, ask_reach, ask_get, ask_put, ask_clear}
use Rattle.cloak_model.specs.Script.{Question, Reach, Get, Put, Clear, asked}
use Rattle.cloak_model.specs.StepFrames.{step_frames}
use Rattle.cloak_model.specs.Ahead.{then_settle, is_owed, settle_found, settle_while, settle_touched, made_after, settled_step}
use Rattle.cloak_model.specs.Veil.{veiled, veiled_settling, veiled_offer, IsBlind}
use Rattle.cloak_model.specs.VeilWorld.{veiled_step, veiled_world, seal_of, pages_of, is_cloaked, veiled_told, IsVeiled, QuestionsAreVeiled}
use Rattle.cloak_model.proofs.Offering.{settle_keeps, offer_keeps}
use Rattle.cloak_model.proofs.Veils.{settle_veils, offer_veils}

-- The seal stays.

owed_seal : (s : Sealing) (f : ℕ) (q : PageId) (draw : Option (List ℕ × Random)) (m : CloakedMemory) →
    m.ledger.keys.seal ≡ s → (settle_owed f q draw m).memory.ledger.keys.seal ≡ s
unfolding settle_owed
owed_seal s f q None m e = e
owed_seal s f q (Some draw) m e = e

pub settle_seal : (f : ℕ) (m : CloakedMemory) → (settle f m).memory.ledger.keys.seal ≡ m.ledger.keys.seal
settle_seal f m =
    settle_keeps (λ x. x.ledger.keys.seal ≡ m.ledger.keys.seal)
    (λ g q x is here. owed_seal m.ledger.keys.seal g q (next_vector x.ledger) x here) f m refl

owed_plain : (p : PageId → List ℕ) (f : ℕ) (q : PageId) (draw : Option (List ℕ × Random)) (m : CloakedMemory) →
    m.plain ≡ p → (settle_owed f q draw m).memory.plain ≡ p
unfolding settle_owed
owed_plain p f q None m e = e
owed_plain p f q (Some draw) m e = e

settle_plain : (f : ℕ) (m : CloakedMemory) → (settle f m).memory.plain ≡ m.plain
settle_plain f m =
    settle_keeps (λ x. x.plain ≡ m.plain) (λ g q x is here. owed_plain m.plain g q (next_vector x.ledger) x here) f m refl

offer_plain : (q : PageId) (g : ℕ) (write : Bool) (m : CloakedMemory) → (offer q g write m).memory.plain ≡ m.plain
offer_plain q g write m = offer_keeps {P = λ x. x.plain ≡ m.plain} {Q = λ x. x.plain ≡ m.plain} (record {
  settles = λ f p x is here. owed_plain m.plain f p (next_vector x.ledger) x here;
  compares = λ a b x here. here;
  takes = λ g' x clean here. here;
  stays = λ x here. here;
}) g write m refl

offer_seal : (q : PageId) (g : ℕ) (write : Bool) (m : CloakedMemory) → (offer q g write m).memory.ledger.keys.seal ≡ m.ledger.keys.seal
offer_seal q g write m = offer_keeps {P = λ x. x.ledger.keys.seal ≡ m.ledger.keys.seal} {Q = λ x. x.ledger.keys.seal ≡ m.ledger.keys.seal} (record {
  settles = λ f p x is here. owed_seal m.ledger.keys.seal f p (next_vector x.ledger) x here;
  compares = λ a b x here. here;
  takes = λ g' x clean here. here;
  stays = λ x here. here;
}) g write m refl

-- What does not change under the veil.

pub seal_veiled : (w : World) → seal_of (veiled_world w) ≡ seal_of w
seal_veiled (Flat seen) = refl
seal_veiled (Cloaked c) = refl
seal_veiled (Alone h) = refl

pub twice : (w : World) → veiled_world (veiled_world w) ≡ veiled_world w
twice (Flat seen) = refl
twice (Cloaked c) = refl
twice (Alone h) = refl

ram_veiled : (w : World) → ram_of (veiled_world w) ≡ ram_of w
ram_veiled (Flat seen) = refl
ram_veiled (Cloaked c) = refl
ram_veiled (Alone h) = refl

regime_veiled : (w : World) → regime_of (veiled_world w) ≡ regime_of w
regime_veiled (Flat seen) = refl
regime_veiled (Cloaked c) = refl
regime_veiled (Alone h) = refl

missed_veiled : (w : World) → is_missed (veiled_world w) ≡ is_missed w
missed_veiled (Flat seen) = refl
missed_veiled (Cloaked c) = refl
missed_veiled (Alone h) = refl

owed_veiled : (w : World) → owed_of (veiled_world w) ≡ owed_of w
owed_veiled (Flat seen) = refl
owed_veiled (Cloaked c) = refl
owed_veiled (Alone h) = refl

pub blind_at : (w w' : World) → seal_of w ≡ seal_of w' → IsBlind (seal_of w') → IsBlind (seal_of w)
blind_at w w' e blind = subst IsBlind (sym e) blind

-- Ways to put questions together.

compose : {A B : Type 0} (ask : Asking A) (next : A → Asking B) → IsVeiled ask → ((a : A) → IsVeiled (next a)) →
    IsVeiled (then_ask ask next)
compose {A} {B} ask next first later = record {
  seals = λ w. (later (ask w).answer).seals (ask w).world ∙ first.seals w;
  keeps = λ w. (later (ask w).answer).keeps (ask w).world ∙ first.keeps w;
  cloaked = λ w. (later (ask w).answer).cloaked (ask w).world ∙ first.cloaked w;
  same = λ w blind.
      let t : Told A = ask w in
      let t' : Told A = ask (veiled_world w) in
      sym ((later t'.answer).same t'.world (blind_at t'.world (veiled_world w) (first.seals (veiled_world w)) (blind_at (veiled_world w) w (seal_veiled w) blind)))
      ∙ (ap (λ (x : Told A). veiled_told (next x.answer x.world)) (first.same w blind)
      ∙ (later t.answer).same t.world (blind_at t.world w (first.seals w) blind));
}

-- something is told of a world that is the same under the veil
telling : {A : Type 0} (tell : World → A) → ((w : World) → tell (veiled_world w) ≡ tell w) →
    IsVeiled (λ w. record { answer = tell w; world = w })
telling {A} tell e = record {
  seals = λ w. refl;
  keeps = λ w. refl;
  cloaked = λ w. refl;
  same = λ w blind.
      ap (λ (a : A). veiled_told (record { answer = a; world = veiled_world w })) (e w)
      ∙ ap (λ (x : World). let t : Told A = record { answer = tell w; world = x } in t) (twice w);
}

reading : {A B : Type 0} (tell : World → A) → ((w : World) → tell (veiled_world w) ≡ tell w) → (next : A → Asking B) →
    ((a : A) → IsVeiled (next a)) → IsVeiled (λ w. next (tell w) w)
reading {A} tell e next later = compose (λ w. record { answer = tell w; world = w }) next (telling tell e) later

answers : {A : Type 0} (a : A) → IsVeiled (answered a)
answers a = telling (λ w. a) (λ w. refl)

-- a change of a world
pub record IsVeiledChange (f : World → World) : Type 0 where
  pub seals : (w : World) → seal_of (f w) ≡ seal_of w
  pub keeps : (w : World) → pages_of (f w) ≡ pages_of w
  pub cloaked : (w : World) → is_cloaked (f w) ≡ is_cloaked w
  pub same : (w : World) → IsBlind (seal_of w) → veiled_world (f (veiled_world w)) ≡ veiled_world (f w)

told_done : World → Told (Unit {0})
told_done w = record { answer = tt; world = w }

changes : {A : Type 0} (f : World → World) → IsVeiledChange f → (ask : Asking A) → IsVeiled ask → IsVeiled (λ w. ask (f w))
changes {A} f change ask is = compose (λ w. record { answer = tt; world = f w }) (λ (done : Unit {0}). ask) (record {
  seals = change.seals;
  keeps = change.keeps;
  cloaked = change.cloaked;
  same = λ w blind. ap (λ (x : World). let t : Told (Unit {0}) = record { answer = tt; world = x } in t) (change.same w blind);
}) (λ done. is)

told_choice : {A : Type 0} (b : Bool) (x x' y y' : Told A) → veiled_told x ≡ veiled_told x' → veiled_told y ≡ veiled_told y' →
    veiled_told (if b then x else y) ≡ veiled_told (if b then x' else y')
told_choice true x x' y y' e e' = e
told_choice false x x' y y' e e' = e'

seal_choice : {A : Type 0} (b : Bool) (x y : Told A) (w : World) → seal_of x.world ≡ seal_of w → seal_of y.world ≡ seal_of w →
    seal_of (if b then x else y).world ≡ seal_of w
seal_choice true x y w e e' = e
seal_choice false x y w e e' = e'

pages_choice : {A : Type 0} (b : Bool) (x y : Told A) (w : World) → pages_of x.world ≡ pages_of w → pages_of y.world ≡ pages_of w →
    pages_of (if b then x else y).world ≡ pages_of w
pages_choice true x y w e e' = e
pages_choice false x y w e e' = e'

cloaked_choice : {A : Type 0} (b : Bool) (x y : Told A) (w : World) → is_cloaked x.world ≡ is_cloaked w →
    is_cloaked y.world ≡ is_cloaked w → is_cloaked (if b then x else y).world ≡ is_cloaked w
cloaked_choice true x y w e e' = e
cloaked_choice false x y w e e' = e'

branch : {A : Type 0} (test : World → Bool) → ((w : World) → test (veiled_world w) ≡ test w) → (ask ask' : Asking A) →
    IsVeiled ask → IsVeiled ask' → IsVeiled (λ w. if test w then ask w else ask' w)
branch {A} test e ask ask' is is' = record {
  seals = λ w. seal_choice (test w) (ask w) (ask' w) w (is.seals w) (is'.seals w);
  keeps = λ w. pages_choice (test w) (ask w) (ask' w) w (is.keeps w) (is'.keeps w);
  cloaked = λ w. cloaked_choice (test w) (ask w) (ask' w) w (is.cloaked w) (is'.cloaked w);
  same = λ w blind.
      ap (λ (b : Bool). veiled_told (if b then ask (veiled_world w) else ask' (veiled_world w))) (e w)
      ∙ told_choice (test w) (ask (veiled_world w)) (ask w) (ask' (veiled_world w)) (ask' w) (is.same w blind) (is'.same w blind);
}

-- Changes.

settled_seal : (f : ℕ) (w : World) → seal_of (settled f w) ≡ seal_of w
settled_seal f (Flat seen) = refl
settled_seal f (Cloaked c) = settle_seal f c.memory
settled_seal f (Alone h) = refl

settled_same : (f : ℕ) (w : World) → IsBlind (seal_of w) → veiled_world (settled f (veiled_world w)) ≡ veiled_world (settled f w)
settled_same f (Flat seen) blind = refl
settled_same f (Cloaked c) blind =
    ap (λ (s : AfterSettling). Cloaked (veiled_step (record c {
      memory = s.memory;
      items = c.items ++ cipher_items s.ciphers;
      events = c.events ++ Touch f ∷ [];
    }))) (settle_veils f c.memory blind)
settled_same f (Alone h) blind = refl

settled_keeps : (f : ℕ) (w : World) → pages_of (settled f w) ≡ pages_of w
settled_keeps f (Flat seen) = refl
settled_keeps f (Cloaked c) = settle_plain f c.memory
settled_keeps f (Alone h) = refl

settled_cloaked : (f : ℕ) (w : World) → is_cloaked (settled f w) ≡ is_cloaked w
settled_cloaked f (Flat seen) = refl
settled_cloaked f (Cloaked c) = refl
settled_cloaked f (Alone h) = refl

settles : (f : ℕ) → IsVeiledChange (settled f)
settles f = record { seals = settled_seal f; keeps = settled_keeps f; cloaked = settled_cloaked f; same = settled_same f }

noted_seal : (events : List Event) (w : World) → seal_of (noted events w) ≡ seal_of w
noted_seal events (Flat seen) = refl
noted_seal events (Cloaked c) = refl
noted_seal events (Alone h) = refl

noted_same : (events : List Event) (w : World) → IsBlind (seal_of w) →
    veiled_world (noted events (veiled_world w)) ≡ veiled_world (noted events w)
noted_same events (Flat seen) blind = refl
noted_same events (Cloaked c) blind = refl
noted_same events (Alone h) blind = refl

noted_keeps : (events : List Event) (w : World) → pages_of (noted events w) ≡ pages_of w
noted_keeps events (Flat seen) = refl
noted_keeps events (Cloaked c) = refl
noted_keeps events (Alone h) = refl

noted_cloaked : (events : List Event) (w : World) → is_cloaked (noted events w) ≡ is_cloaked w
noted_cloaked events (Flat seen) = refl
noted_cloaked events (Cloaked c) = refl
noted_cloaked events (Alone h) = refl

notes : (events : List Event) → IsVeiledChange (noted events)
notes events = record { seals = noted_seal events; keeps = noted_keeps events; cloaked = noted_cloaked events; same = noted_same events }

written_seal : (i : Item) (w : World) → seal_of (written i w) ≡ seal_of w
written_seal i (Flat seen) = refl
written_seal i (Cloaked c) = refl
written_seal i (Alone h) = refl

written_same : (i : Item) (w : World) → IsBlind (seal_of w) → veiled_world (written i (veiled_world w)) ≡ veiled_world (written i w)
written_same i (Flat seen) blind = refl
written_same i (Cloaked c) blind = refl
written_same i (Alone h) blind = refl

written_keeps : (i : Item) (w : World) → pages_of (written i w) ≡ pages_of w
written_keeps i (Flat seen) = refl
written_keeps i (Cloaked c) = refl
written_keeps i (Alone h) = refl

written_cloaked : (i : Item) (w : World) → is_cloaked (written i w) ≡ is_cloaked w
written_cloaked i (Flat seen) = refl
written_cloaked i (Cloaked c) = refl
written_cloaked i (Alone h) = refl

writes : (i : Item) → IsVeiledChange (written i)
writes i = record { seals = written_seal i; keeps = written_keeps i; cloaked = written_cloaked i; same = written_same i }

stored_seal : (pa width value : ℕ) (w : World) → seal_of (stored_at pa width value w) ≡ seal_of w
stored_seal pa width value (Flat seen) = refl
stored_seal pa width value (Cloaked c) = refl
stored_seal pa width value (Alone h) = refl

stored_same : (pa width value : ℕ) (w : World) → IsBlind (seal_of w) →
    veiled_world (stored_at pa width value (veiled_world w)) ≡ veiled_world (stored_at pa width value w)
stored_same pa width value (Flat seen) blind = refl
stored_same pa width value (Cloaked c) blind = refl
stored_same pa width value (Alone h) blind = refl

stored_keeps : (pa width value : ℕ) (w : World) → pages_of (stored_at pa width value w) ≡ pages_of w
stored_keeps pa width value (Flat seen) = refl
stored_keeps pa width value (Cloaked c) = refl
stored_keeps pa width value (Alone h) = refl

stored_cloaked : (pa width value : ℕ) (w : World) → is_cloaked (stored_at pa width value w) ≡ is_cloaked w
stored_cloaked pa width value (Flat seen) = refl
stored_cloaked pa width value (Cloaked c) = refl
stored_cloaked pa width value (Alone h) = refl

stores : (pa width value : ℕ) → IsVeiledChange (stored_at pa width value)
stores pa width value = record { seals = stored_seal pa width value; keeps = stored_keeps pa width value; cloaked = stored_cloaked pa width value; same = stored_same pa width value }

-- Walks.

word_veils : (pa : ℕ) → IsVeiled (ask_word pa)
unfolding ask_word
word_veils pa =
    branch (λ w. is_in_ram (ram_of w) pa) (λ w. ap (λ (ram : List (List ℕ)). is_in_ram ram pa) (ram_veiled w)) _ _
    (changes (settled (frame_of pa)) (settles (frame_of pa)) (shown_word pa)
    (telling (λ w. Some (value_at (ram_of w) pa 4)) (λ w. ap (λ (ram : List (List ℕ)). Some (value_at ram pa 4)) (ram_veiled w))))
    (answers None)

ends_veils : (first : FirstWord) (next : ℕ → Asking Walk) → ((at : ℕ) → IsVeiled (next at)) → IsVeiled (or_ends first next)
ends_veils (Ends walk) next later = answers walk
ends_veils (GoesOn at) next later = later at

walk_veils : (satp : ℕ) (a : Access) → IsVeiled (ask_walk satp a)
unfolding ask_walk
walk_veils satp a =
    branch (λ w. has_paging satp) (λ w. refl) _ _
    (compose (ask_word (first_entry satp a.va)) _ (word_veils (first_entry satp a.va))
    (λ first. ends_veils (first_word a (first_entry satp a.va) first) _
    (λ at0. compose (ask_word at0) _ (word_veils at0) (λ second. answers (second_word a (first_entry satp a.va) at0 second)))))
    (answers (without_paging a))

in_ram_veils : (a : Access) (walk : Walk) → IsVeiled (ask_in_ram a walk)
unfolding ask_in_ram
in_ram_veils a (Err cause) = answers (Err cause)
in_ram_veils a (Ok walked) =
    telling (λ w. if is_in_ram (ram_of w) walked.pa then Ok walked else Err (access_fault a.kind))
    (λ w. ap (λ (ram : List (List ℕ)). let x : Walk = if is_in_ram ram walked.pa then Ok walked else Err (access_fault a.kind) in x) (ram_veiled w))

translate_veils : (satp : ℕ) (a : Access) → IsVeiled (ask_translate satp a)
unfolding ask_translate
translate_veils satp a = compose (ask_walk satp a) (ask_in_ram a) (walk_veils satp a) (in_ram_veils a)

led_veils : (satp : ℕ) (a : Access) → IsVeiled (ask_led satp a)
unfolding ask_led
led_veils satp a = changes (noted (Look satp a ∷ [])) (notes (Look satp a ∷ [])) (ask_translate satp a) (translate_veils satp a)

-- who asks
abbrev by_regime : InsideRegime → ℕ → Kind → Access
by_regime v va kind = record { mode = U; sum = v.sum; mxr = v.mxr; va = va; kind = kind }

led_inside_veils : (va : ℕ) (kind : Kind) → IsVeiled (ask_led_inside va kind)
unfolding ask_led_inside
led_inside_veils va kind =
    reading regime_of regime_veiled (λ v. ask_led v.satp (by_regime v va kind)) (λ v. led_veils v.satp (by_regime v va kind))

-- Replies.

replies_veils : (a : Answer) → IsVeiled (replies a)
unfolding replies
replies_veils a =
    reading regime_of regime_veiled (λ v w. record { answer = a; world = written (answer_item v.domain a) w })
    (λ v. changes (written (answer_item v.domain a)) (writes (answer_item v.domain a)) (answered a) (answers a))

drawn_veils : (ask : Asking Answer) → IsVeiled ask → IsVeiled (if_drawn ask)
unfolding if_drawn
drawn_veils ask is = branch is_missed missed_veiled (replies answer.Stopped) ask (replies_veils answer.Stopped) is

-- Offers.

granted_seal : (q : PageId) (va : ℕ) (kind : Kind) (walked : Walked) (b : Bool) (w : World) →
    seal_of (offered_by q va kind walked b w).world ≡ seal_of w
unfolding offered_by
granted_seal q va kind walked true w =
    (replies_veils answer.Ok).seals (noted (Born (regime_of w).satp (inside_access w va kind) walked (Some q) ∷ []) w)
    ∙ noted_seal (Born (regime_of w).satp (inside_access w va kind) walked (Some q) ∷ []) w
granted_seal q va kind walked false (Flat ram) = (replies_veils answer.Stopped).seals (Flat ram)
granted_seal q va kind walked false (Cloaked c) =
    (replies_veils answer.Stopped).seals (Cloaked (record c { violation = Some (violation.Page q (frame_at walked.pa)) }))
granted_seal q va kind walked false (Alone h) = (replies_veils answer.Stopped).seals (Alone h)

granted_keeps : (q : PageId) (va : ℕ) (kind : Kind) (walked : Walked) (b : Bool) (w : World) →
    pages_of (offered_by q va kind walked b w).world ≡ pages_of w
unfolding offered_by
granted_keeps q va kind walked true w =
    (replies_veils answer.Ok).keeps (noted (Born (regime_of w).satp (inside_access w va kind) walked (Some q) ∷ []) w)
    ∙ noted_keeps (Born (regime_of w).satp (inside_access w va kind) walked (Some q) ∷ []) w
granted_keeps q va kind walked false (Flat ram) = (replies_veils answer.Stopped).keeps (Flat ram)
granted_keeps q va kind walked false (Cloaked c) =
    (replies_veils answer.Stopped).keeps (Cloaked (record c { violation = Some (violation.Page q (frame_at walked.pa)) }))
granted_keeps q va kind walked false (Alone h) = (replies_veils answer.Stopped).keeps (Alone h)

granted_cloaked : (q : PageId) (va : ℕ) (kind : Kind) (walked : Walked) (b : Bool) (w : World) →
    is_cloaked (offered_by q va kind walked b w).world ≡ is_cloaked w
unfolding offered_by
granted_cloaked q va kind walked true w =
    (replies_veils answer.Ok).cloaked (noted (Born (regime_of w).satp (inside_access w va kind) walked (Some q) ∷ []) w)
    ∙ noted_cloaked (Born (regime_of w).satp (inside_access w va kind) walked (Some q) ∷ []) w
granted_cloaked q va kind walked false (Flat ram) = (replies_veils answer.Stopped).cloaked (Flat ram)
granted_cloaked q va kind walked false (Cloaked c) =
    (replies_veils answer.Stopped).cloaked (Cloaked (record c { violation = Some (violation.Page q (frame_at walked.pa)) }))
granted_cloaked q va kind walked false (Alone h) = (replies_veils answer.Stopped).cloaked (Alone h)

granted_true : (q : PageId) (va : ℕ) (kind : Kind) (walked : Walked) → IsVeiled (offered_by q va kind walked true)
unfolding offered_by
granted_true q va kind walked =
    reading regime_of regime_veiled (λ v w. replies answer.Ok (noted (Born v.satp (by_regime v va kind) walked (Some q) ∷ []) w))
    (λ v. changes (noted (Born v.satp (by_regime v va kind) walked (Some q) ∷ [])) (notes (Born v.satp (by_regime v va kind) walked (Some q) ∷ []))
    (replies answer.Ok) (replies_veils answer.Ok))

granted_same : (q : PageId) (va : ℕ) (kind : Kind) (walked : Walked) (b : Bool) (w : World) → IsBlind (seal_of w) →
    veiled_told (offered_by q va kind walked b (veiled_world w)) ≡ veiled_told (offered_by q va kind walked b w)
unfolding offered_by
granted_same q va kind walked true w blind = (granted_true q va kind walked).same w blind
granted_same q va kind walked false (Flat ram) blind = refl
granted_same q va kind walked false (Cloaked c) blind =
    (replies_veils answer.Stopped).same (Cloaked (record c { violation = Some (violation.Page q (frame_at walked.pa)) })) blind
granted_same q va kind walked false (Alone h) blind = refl

granted_veils : (q : PageId) (va : ℕ) (kind : Kind) (walked : Walked) (b : Bool) → IsVeiled (offered_by q va kind walked b)
granted_veils q va kind walked b = record { seals = granted_seal q va kind walked b; keeps = granted_keeps q va kind walked b; cloaked = granted_cloaked q va kind walked b; same = granted_same q va kind walked b }

same_events : (q : PageId) (g : ℕ) (m : CloakedMemory) → IsBlind m.ledger.keys.seal → (b : Bool) →
    offer_events q g (veiled m) b ≡ offer_events q g m b
same_events q g m blind true = refl
same_events q g m blind false =
    ap (λ (s : AfterSettling). (if s.missed then Touch g else offers q g false) ∷ []) (settle_veils g m blind)

-- what follows an offer
abbrev offered : PageId → ℕ → Kind → Walked → MidStep → List Event → AfterOffer → Told Answer
offered q va kind walked c events o =
    if_drawn (offered_by q va kind walked o.granted)
    (Cloaked (record c { memory = o.memory; items = c.items ++ cipher_items o.ciphers; events = c.events ++ events }))

offered_veils : (q : PageId) (va : ℕ) (kind : Kind) (walked : Walked) (c : MidStep) (events : List Event) (o : AfterOffer) →
    IsBlind o.memory.ledger.keys.seal →
    veiled_told (offered q va kind walked (veiled_step c) events (veiled_offer o)) ≡ veiled_told (offered q va kind walked c events o)
offered_veils q va kind walked c events o blind =
    (drawn_veils (offered_by q va kind walked o.granted) (granted_veils q va kind walked o.granted)).same
    (Cloaked (record c { memory = o.memory; items = c.items ++ cipher_items o.ciphers; events = c.events ++ events })) blind

offer_seals : (q : PageId) (va : ℕ) (kind : Kind) (walked : Walked) (w : World) → seal_of (ask_offer q va kind walked w).world ≡ seal_of w
unfolding ask_offer
offer_seals q va kind walked (Flat ram) = refl
offer_seals q va kind walked (Cloaked c) =
    let g = frame_of walked.pa in
    let o : AfterOffer = offer q g (is_store kind) c.memory in
    (drawn_veils (offered_by q va kind walked o.granted) (granted_veils q va kind walked o.granted)).seals
    (Cloaked (record c { memory = o.memory; items = c.items ++ cipher_items o.ciphers; events = c.events ++ offer_events q g c.memory o.granted }))
    ∙ offer_seal q g (is_store kind) c.memory
offer_seals q va kind walked (Alone h) = refl

offer_keeps_pages : (q : PageId) (va : ℕ) (kind : Kind) (walked : Walked) (w : World) → pages_of (ask_offer q va kind walked w).world ≡ pages_of w
unfolding ask_offer
offer_keeps_pages q va kind walked (Flat ram) = refl
offer_keeps_pages q va kind walked (Cloaked c) =
    let g = frame_of walked.pa in
    let o : AfterOffer = offer q g (is_store kind) c.memory in
    (drawn_veils (offered_by q va kind walked o.granted) (granted_veils q va kind walked o.granted)).keeps
    (Cloaked (record c { memory = o.memory; items = c.items ++ cipher_items o.ciphers; events = c.events ++ offer_events q g c.memory o.granted }))
    ∙ offer_plain q g (is_store kind) c.memory
offer_keeps_pages q va kind walked (Alone h) = refl

offer_cloaked : (q : PageId) (va : ℕ) (kind : Kind) (walked : Walked) (w : World) → is_cloaked (ask_offer q va kind walked w).world ≡ is_cloaked w
unfolding ask_offer
offer_cloaked q va kind walked (Flat ram) = refl
offer_cloaked q va kind walked (Cloaked c) =
    let g = frame_of walked.pa in
    let o : AfterOffer = offer q g (is_store kind) c.memory in
    (drawn_veils (offered_by q va kind walked o.granted) (granted_veils q va kind walked o.granted)).cloaked
    (Cloaked (record c { memory = o.memory; items = c.items ++ cipher_items o.ciphers; events = c.events ++ offer_events q g c.memory o.granted }))
offer_cloaked q va kind walked (Alone h) = refl

offer_same : (q : PageId) (va : ℕ) (kind : Kind) (walked : Walked) (w : World) → IsBlind (seal_of w) →
    veiled_told (ask_offer q va kind walked (veiled_world w)) ≡ veiled_told (ask_offer q va kind walked w)
unfolding ask_offer
offer_same q va kind walked (Flat ram) blind = refl
offer_same q va kind walked (Cloaked c) blind =
    let g = frame_of walked.pa in
    let m' : CloakedMemory = veiled c.memory in
    let o : AfterOffer = offer q g (is_store kind) c.memory in
    let o' : AfterOffer = offer q g (is_store kind) m' in
    let e : veiled_offer o' ≡ veiled_offer o = offer_veils q g (is_store kind) c.memory blind in
    let blind_o : IsBlind o.memory.ledger.keys.seal = subst IsBlind (sym (offer_seal q g (is_store kind) c.memory)) blind in
    let blind_o' : IsBlind o'.memory.ledger.keys.seal = subst IsBlind (sym (offer_seal q g (is_store kind) m')) blind in
    sym (offered_veils q va kind walked (veiled_step c) (offer_events q g m' o'.granted) o' blind_o')
    ∙ (ap (λ (x : AfterOffer). veiled_told (offered q va kind walked (veiled_step c) (offer_events q g m' x.granted) x)) e
    ∙ (ap (λ (events : List Event). veiled_told (offered q va kind walked (veiled_step c) events (veiled_offer o))) (same_events q g c.memory blind o.granted)
    ∙ offered_veils q va kind walked c (offer_events q g c.memory o.granted) o blind_o))
offer_same q va kind walked (Alone h) blind = refl

ask_offer_veils : (q : PageId) (va : ℕ) (kind : Kind) (walked : Walked) → IsVeiled (ask_offer q va kind walked)
ask_offer_veils q va kind walked = record { seals = offer_seals q va kind walked; keeps = offer_keeps_pages q va kind walked; cloaked = offer_cloaked q va kind walked; same = offer_same q va kind walked }

reached_veils : (q : PageId) (va : ℕ) (kind : Kind) (to : Walk) → IsVeiled (reached q va kind to)
unfolding reached
reached_veils q va kind (Err cause) = replies_veils (answer.Absent cause)
reached_veils q va kind (Ok walked) = ask_offer_veils q va kind walked

reach_veils : (q : PageId) (va : ℕ) (kind : Kind) → IsVeiled (reach_by_table q va kind)
unfolding reach_by_table
reach_veils q va kind =
    compose (ask_led_inside va kind) (λ to. if_drawn (reached q va kind to)) (led_inside_veils va kind)
    (λ to. drawn_veils (reached q va kind to) (reached_veils q va kind to))

-- Memory that is not the program's own.

opened_veils : {A : Type 0} (va : ℕ) (kind : Kind) (walked : Walked) (ask : Asking A) → IsVeiled ask →
    IsVeiled (λ w. ask (opened (regime_of w).satp (inside_access w va kind) walked w))
opened_veils va kind walked ask is =
    reading regime_of regime_veiled (λ v w. ask (noted (Born v.satp (by_regime v va kind) walked None ∷ []) (settled (frame_of walked.pa) w)))
    (λ v. changes (settled (frame_of walked.pa)) (settles (frame_of walked.pa)) _
    (changes (noted (Born v.satp (by_regime v va kind) walked None ∷ [])) (notes (Born v.satp (by_regime v va kind) walked None ∷ [])) ask is))

get_at_veils : (pa width : ℕ) → IsVeiled (get_at pa width)
unfolding get_at
get_at_veils pa width =
    compose (shown_value pa width) _
    (reading ram_of ram_veiled (λ ram w. record { answer = value_at ram pa width; world = noted (Read (frame_of pa) ∷ []) w })
    (λ ram. changes (noted (Read (frame_of pa) ∷ [])) (notes (Read (frame_of pa) ∷ [])) (answered (value_at ram pa width)) (answers (value_at ram pa width))))
    (λ value. replies_veils (answer.Word (value % 2 ^ (8 * width))))

got_veils : (va width : ℕ) (to : Walk) → IsVeiled (got va width to)
unfolding got
got_veils va width (Err cause) = replies_veils (answer.Absent cause)
got_veils va width (Ok walked) =
    opened_veils va Load walked (if_drawn (get_at walked.pa width)) (drawn_veils (get_at walked.pa width) (get_at_veils walked.pa width))

get_veils : (va width : ℕ) → IsVeiled (get_by_table va width)
unfolding get_by_table
get_veils va width =
    compose (ask_led_inside va Load) (λ to. if_drawn (got va width to)) (led_inside_veils va Load)
    (λ to. drawn_veils (got va width to) (got_veils va width to))

put_at_veils : (pa width value : ℕ) → IsVeiled (put_at pa width value)
unfolding put_at
put_at_veils pa width value =
    compose (stored_value pa width value) _
    (changes (stored_at pa width value) (stores pa width value) (answered tt) (answers tt))
    (λ done. changes (written (item.Put pa width (value % 2 ^ (8 * width)))) (writes (item.Put pa width (value % 2 ^ (8 * width)))) (replies answer.Ok) (replies_veils answer.Ok))

stored_inside_veils : (va width value : ℕ) (to : Walk) → IsVeiled (stored_inside va width value to)
unfolding stored_inside
stored_inside_veils va width value (Err cause) = replies_veils (answer.Absent cause)
stored_inside_veils va width value (Ok walked) =
    opened_veils va Store walked (if_drawn (put_at walked.pa width value)) (drawn_veils (put_at walked.pa width value) (put_at_veils walked.pa width value))

put_veils : (va width value : ℕ) → IsVeiled (put_by_table va width value)
unfolding put_by_table
put_veils va width value =
    compose (ask_led_inside va Store) (λ to. if_drawn (stored_inside va width value to)) (led_inside_veils va Store)
    (λ to. drawn_veils (stored_inside va width value to) (stored_inside_veils va width value to))

-- Clearing.

world_choice : (b : Bool) (x x' y y' : World) → veiled_world x ≡ veiled_world x' → veiled_world y ≡ veiled_world y' →
    veiled_world (if b then x else y) ≡ veiled_world (if b then x' else y')
world_choice true x x' y y' e e' = e
world_choice false x x' y y' e e' = e'

world_seal : (b : Bool) (x w : World) → seal_of x ≡ seal_of w → seal_of (if b then x else w) ≡ seal_of w
world_seal true x w e = e
world_seal false x w e = refl

world_keeps : (b : Bool) (x w : World) → pages_of x ≡ pages_of w → pages_of (if b then x else w) ≡ pages_of w
world_keeps true x w e = e
world_keeps false x w e = refl

world_cloaked : (b : Bool) (x w : World) → is_cloaked x ≡ is_cloaked w → is_cloaked (if b then x else w) ≡ is_cloaked w
world_cloaked true x w e = e
world_cloaked false x w e = refl

pub marks_veil : (domain : ℕ) (marked : List Bool) (f : ℕ) → IsVeiledChange (settled_if_marked domain marked f)
unfolding settled_if_marked
marks_veil domain marked f = record {
  seals = λ w. world_seal (is_marked domain marked (slice_index_or (owed_of w) f None)) (settled f w) w (settled_seal f w);
  keeps = λ w. world_keeps (is_marked domain marked (slice_index_or (owed_of w) f None)) (settled f w) w (settled_keeps f w);
  cloaked = λ w. world_cloaked (is_marked domain marked (slice_index_or (owed_of w) f None)) (settled f w) w (settled_cloaked f w);
  same = λ w blind.
      ap (λ (owed : List (Option PageId)). veiled_world (if is_marked domain marked (slice_index_or owed f None) then settled f (veiled_world w) else veiled_world w)) (owed_veiled w)
      ∙ world_choice (is_marked domain marked (slice_index_or (owed_of w) f None)) (settled f (veiled_world w)) (settled f w) (veiled_world w) w (settled_same f w blind) (twice w);
}

clear_veils : (domain : ℕ) (marked : List Bool) (f n : ℕ) → IsVeiled (clear_from domain marked f n)
unfolding clear_from
clear_veils domain marked f zero = replies_veils answer.Ok
clear_veils domain marked f (suc n) =
    changes (settled_if_marked domain marked f) (marks_veil domain marked f) (if_drawn (clear_from domain marked (f + 1) n))
    (drawn_veils (clear_from domain marked (f + 1) n) (clear_veils domain marked (f + 1) n))

pub asked_veils : (q : Question) (c : MidStep) → IsBlind c.memory.ledger.keys.seal →
    veiled_told (asked q (Cloaked (veiled_step c))) ≡ veiled_told (asked q (Cloaked c))
unfolding ask_reach ask_get ask_put ask_clear
asked_veils (Reach q va kind) c blind = (reach_veils q va kind).same (Cloaked c) blind
asked_veils (Get va width) c blind = (get_veils va width).same (Cloaked c) blind
asked_veils (Put va width value) c blind = (put_veils va width value).same (Cloaked c) blind
asked_veils (Clear domain marked) c blind = (clear_veils domain marked 0 (length c.memory.ram)).same (Cloaked c) blind

pub asked_seals : (q : Question) (c : MidStep) → seal_of (asked q (Cloaked c)).world ≡ c.memory.ledger.keys.seal
unfolding ask_reach ask_get ask_put ask_clear
asked_seals (Reach q va kind) c = (reach_veils q va kind).seals (Cloaked c)
asked_seals (Get va width) c = (get_veils va width).seals (Cloaked c)
asked_seals (Put va width value) c = (put_veils va width value).seals (Cloaked c)
asked_seals (Clear domain marked) c = (clear_veils domain marked 0 (length c.memory.ram)).seals (Cloaked c)

pub asked_keeps : (q : Question) (c : MidStep) → pages_of (asked q (Cloaked c)).world ≡ c.memory.plain
unfolding ask_reach ask_get ask_put ask_clear
asked_keeps (Reach q va kind) c = (reach_veils q va kind).keeps (Cloaked c)
asked_keeps (Get va width) c = (get_veils va width).keeps (Cloaked c)
asked_keeps (Put va width value) c = (put_veils va width value).keeps (Cloaked c)
asked_keeps (Clear domain marked) c = (clear_veils domain marked 0 (length c.memory.ram)).keeps (Cloaked c)

pub asked_cloaked : (q : Question) (c : MidStep) → is_cloaked (asked q (Cloaked c)).world ≡ true
unfolding ask_reach ask_get ask_put ask_clear
asked_cloaked (Reach q va kind) c = (reach_veils q va kind).cloaked (Cloaked c)
asked_cloaked (Get va width) c = (get_veils va width).cloaked (Cloaked c)
asked_cloaked (Put va width value) c = (put_veils va width value).cloaked (Cloaked c)
asked_cloaked (Clear domain marked) c = (clear_veils domain marked 0 (length c.memory.ram)).cloaked (Cloaked c)

-- The plain step.

then_veils : (s s' : AfterSettling) (next : CloakedMemory → AfterSettling) →
    ((m : CloakedMemory) → IsBlind m.ledger.keys.seal → veiled_settling (next (veiled m)) ≡ veiled_settling (next m)) →
    IsBlind s.memory.ledger.keys.seal → IsBlind s'.memory.ledger.keys.seal → veiled_settling s ≡ veiled_settling s' →
    veiled_settling (then_settle s next) ≡ veiled_settling (then_settle s' next)
then_veils s s' next commutes blind blind' e =
    ap (λ (x : AfterSettling). let t : AfterSettling = x in veiled_settling (record { memory = t.memory; ciphers = s.ciphers ++ t.ciphers; missed = s.missed || t.missed }))
    (sym (commutes s.memory blind) ∙ (ap (λ (x : AfterSettling). veiled_settling (next x.memory)) e ∙ commutes s'.memory blind'))
    ∙ ap (λ (x : AfterSettling). let t : AfterSettling = next s'.memory in veiled_settling (record { memory = t.memory; ciphers = x.ciphers ++ t.ciphers; missed = x.missed || t.missed })) e

found_veils : (o : Option ℕ) (next : CloakedMemory → AfterSettling) →
    ((m : CloakedMemory) → IsBlind m.ledger.keys.seal → veiled_settling (next (veiled m)) ≡ veiled_settling (next m)) →
    (m : CloakedMemory) → IsBlind m.ledger.keys.seal → veiled_settling (settle_found o next (veiled m)) ≡ veiled_settling (settle_found o next m)
found_veils None next commutes m blind = refl
found_veils (Some f) next commutes m blind =
    then_veils (settle f (veiled m)) (settle f m) next commutes (subst IsBlind (sym (settle_seal f (veiled m))) blind)
    (subst IsBlind (sym (settle_seal f m)) blind) (settle_veils f m blind)

while_veils : (frames : List (List ℕ) → List ℕ) (n : ℕ) (m : CloakedMemory) → IsBlind m.ledger.keys.seal →
    veiled_settling (settle_while frames n (veiled m)) ≡ veiled_settling (settle_while frames n m)
unfolding settle_while
while_veils frames zero m blind = refl
while_veils frames (suc n) m blind =
    found_veils (find (is_owed m) (frames m.ram)) (settle_while frames n) (while_veils frames n) m blind

step_veils : (h : Hart) (disk : List ℕ) (c : MidStep) → IsBlind c.memory.ledger.keys.seal →
    veiled_told (settled_step h disk (veiled_step c)) ≡ veiled_told (settled_step h disk c)
unfolding settled_step settle_touched made_after
step_veils h disk c blind =
    ap (λ (s : AfterSettling). veiled_told (made_after h disk c s))
    (while_veils (λ ram. step_frames h ram disk) (length c.memory.ledger.owed) c.memory blind)

pub questions_are_veiled : QuestionsAreVeiled
questions_are_veiled = record { asks = asked_veils; steps = step_veils }
