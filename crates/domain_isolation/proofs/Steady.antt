-- What the joint machine's questions of a program leave: the newest bytes of each page, the regime, and what each
-- program was told; and what an answer adds to that.
use Rattle.std.proofs.Common.{sym, ◌≡◌, ◌∙◌, true, false, cond, zero, suc, ◌+◌, ℕ, Bool, List, [], ◌∷◌, ◌++◌, Option, Some, None, Ok, Err, refl, ap, append-nil, if◌then◌else◌}
use Rattle.std.specs.Prelude.{is_some, ◌||◌}
use Rattle.std.proofs.lemmas.List.Elements.{filter-append}
use Rattle.std.proofs.lemmas.Bool.{false≢true}
use Rattle.cloak_base.specs.declared.names.Kind.{Kind}
use Rattle.cloak_base.specs.declared.names.Kind.TheVariants.{Load, Store}
use Rattle.cloak_base.specs.declared.names.PageId.{PageId}
use Rattle.cloak_base.specs.Random.{Random}
use Rattle.cloak_base.specs.declared.causes.Violation.TheVariants as violation
use Rattle.cloak_base.specs.Constants.{frame_of}
use Rattle.cloak_model.specs.declared.access.Access.{Access}
use Rattle.cloak_model.specs.declared.access.Walked.{Walked}
use Rattle.cloak_model.specs.declared.answer.Answer.{Answer}
use Rattle.cloak_model.specs.declared.answer.Answer.TheVariants as told
use Rattle.cloak_model.specs.Items.{Item}
use Rattle.cloak_model.specs.Events.{Event}
use Rattle.cloak_model.specs.Ledger.{next_vector}
use Rattle.cloak_model.specs.Halves.{is_inward, inward_half}
use Rattle.cloak_model.specs.Cloaking.{CloakedMemory, settle, settle_owed, offer}
use Rattle.cloak_model.specs.World.{World, Flat, Cloaked, Alone, plain_of, regime_of, items_of, violation_of, is_missed, noted, stored_at, settled, written, cipher_items}
use Rattle.cloak_model.specs.Asking.{Told, Asking}
use Rattle.cloak_model.specs.Walk.{Walk, frame_at}
use Rattle.cloak_model.specs.Ask.{opened}
use Rattle.cloak_model.specs.AskPages.{answer_item, is_store, inside_access, replies, if_drawn, ask_led_inside, offered_by, ask_offer, reached, reach_by_table, get_at, got, get_by_table, put_at, stored_inside, put_by_table, settled_if_marked, clear_from}
use Rattle.cloak_model.proofs.Offering.{SettlesKept, settle_keeps, OfferKeeps, offer_keeps}
use Rattle.script_fold.proofs.Questions.{Opens, opens_by, keeps_led_inside, keeps_if_marked}

abbrev pub is_cloaked : World → Bool
is_cloaked (Cloaked c) = true
is_cloaked _ = false

-- Settling and offering change no page.

settle_owed_plain : (f : ℕ) (q : PageId) (draw : Option (List ℕ × Random)) (m : CloakedMemory) →
    (settle_owed f q draw m).memory.plain ≡ m.plain
unfolding settle_owed
settle_owed_plain f q None m = refl
settle_owed_plain f q (Some draw) m = refl

settles_plain : (plain : PageId → List ℕ) → SettlesKept (λ m. m.plain ≡ plain)
settles_plain plain f q m is same = settle_owed_plain f q (next_vector m.ledger) m ∙ same

pub settle_plain : (f : ℕ) (m : CloakedMemory) → (settle f m).memory.plain ≡ m.plain
settle_plain f m = settle_keeps (λ x. x.plain ≡ m.plain) (settles_plain m.plain) f m refl

offers_plain : (plain : PageId → List ℕ) (q : PageId) → OfferKeeps q (λ m. m.plain ≡ plain) (λ m. m.plain ≡ plain)
offers_plain plain q = record {
  settles = settles_plain plain;
  compares = λ a b m same. same;
  takes = λ g m clean same. same;
  stays = λ m same. same;
}

offer_plain : (q : PageId) (g : ℕ) (write : Bool) (m : CloakedMemory) → (offer q g write m).memory.plain ≡ m.plain
offer_plain q g write m = offer_keeps (offers_plain m.plain q) g write m refl

-- What is shown to the kernel is told to no program.

ciphers_half : (d : ℕ) (ciphers : List (ℕ × List ℕ)) → inward_half d (cipher_items ciphers) ≡ []
ciphers_half d [] = refl
ciphers_half d (c ∷ ciphers) = ciphers_half d ciphers

pub ciphers_told : (d : ℕ) (items : List Item) (ciphers : List (ℕ × List ℕ)) →
    inward_half d (items ++ cipher_items ciphers) ≡ inward_half d items
ciphers_told d items ciphers =
    filter-append (is_inward d) items (cipher_items ciphers)
    ∙ ap (λ (l : List Item). inward_half d items ++ l) (ciphers_half d ciphers)
    ∙ append-nil (inward_half d items)

-- What a question leaves before its answer.
pub record Steady (w v : World) : Type 0 where
  pub plain : plain_of v ≡ plain_of w
  pub regime : regime_of v ≡ regime_of w
  pub form : is_cloaked v ≡ is_cloaked w
  pub items : (d : ℕ) → inward_half d (items_of v) ≡ inward_half d (items_of w)
  pub violation : violation_of v ≡ violation_of w

pub Steady-refl : (w : World) → Steady w w
Steady-refl w = record { plain = refl; regime = refl; form = refl; items = λ d. refl; violation = refl }

pub Steady-trans : (u v w : World) → Steady u v → Steady v w → Steady u w
Steady-trans u v w p q =
    record {
      plain = q.plain ∙ p.plain;
      regime = q.regime ∙ p.regime;
      form = q.form ∙ p.form;
      items = λ d. q.items d
          ∙ p.items d;
      violation = q.violation ∙ p.violation;
    }

Steady-settled : (f : ℕ) (w : World) → Steady w (settled f w)
Steady-settled f (Flat ram) = Steady-refl (Flat ram)
Steady-settled f (Cloaked c) =
    record {
      plain = settle_plain f c.memory;
      regime = refl;
      form = refl;
      items = λ d. ciphers_told d c.items
          (settle f c.memory).ciphers;
      violation = refl;
    }
Steady-settled f (Alone h) = Steady-refl (Alone h)

Steady-noted : (events : List Event) (w : World) → Steady w (noted events w)
Steady-noted events (Flat ram) = Steady-refl (Flat ram)
Steady-noted events (Cloaked c) = record { plain = refl; regime = refl; form = refl; items = λ d. refl; violation = refl }
Steady-noted events (Alone h) = Steady-refl (Alone h)

pub steady_opens : Opens Steady
steady_opens =
    opens_by Steady (record { same = Steady-refl; chained = Steady-trans; settled = Steady-settled }) Steady-noted

steady_led_inside : (va : ℕ) (kind : Kind) (w : World) → Steady w (ask_led_inside va kind w).world
steady_led_inside va kind w = keeps_led_inside Steady steady_opens va kind w

Steady-opened : (satp : ℕ) (a : Access) (walked : Walked) (w : World) → Steady w (opened satp a walked w)
Steady-opened satp a walked w = steady_opens.opened satp a walked w

Steady-stored_at : (pa width value : ℕ) (w : World) → Steady w (stored_at pa width value w)
Steady-stored_at pa width value (Alone h) = Steady-refl (Alone h)
Steady-stored_at pa width value _ = record { plain = refl; regime = refl; form = refl; items = λ d. refl; violation = refl }

Steady-written : (i : Item) (w : World) → ((d : ℕ) → is_inward d i ≡ false) → Steady w (written i w)
Steady-written i (Flat ram) outward = Steady-refl (Flat ram)
Steady-written i (Cloaked c) outward = record {
  plain = refl;
  regime = refl;
  form = refl;
  items = λ d.
      filter-append (is_inward d) c.items (i ∷ [])
      ∙ ap (λ (b : Bool). inward_half d c.items ++ cond b (i ∷ []) []) (outward d)
      ∙ append-nil (inward_half d c.items);
  violation = refl;
}
Steady-written i (Alone h) outward = Steady-refl (Alone h)

-- A step that is to stop the run: a draw was missing, or the kernel presented what is not recorded.
abbrev pub is_halted : World → Bool
is_halted w = is_missed w || is_some (violation_of w)

-- What a question leaves with its answer.
pub record Replied (w : World) (t : Told Answer) : Type 0 where
  pub plain : plain_of t.world ≡ plain_of w
  pub regime : regime_of t.world ≡ regime_of w
  pub form : is_cloaked t.world ≡ is_cloaked w
  pub items : (d : ℕ) → inward_half d (items_of t.world) ≡ inward_half d (items_of w) ++ inward_half d
      (answer_item (regime_of w).domain t.answer ∷ [])
  pub stops : t.answer ≡ told.Stopped → is_halted t.world ≡ true
  -- if the kernel presented what is not recorded, the answer says so
  pub meets : violation_of w ≡ None → is_some (violation_of t.world) ≡ true → t.answer ≡ told.Stopped

replied_after : (u v : World) (t : Told Answer) → Steady u v → Replied v t → Replied u t
replied_after u v t s r = record {
  plain = r.plain ∙ s.plain;
  regime = r.regime ∙ s.regime;
  form = r.form ∙ s.form;
  items = λ d.
      r.items d ∙ ap (λ (l : List Item). l ++ inward_half d (answer_item (regime_of v).domain t.answer ∷ [])) (s.items d)
      ∙ ap (λ (regime : _). inward_half d (items_of u) ++ inward_half d (answer_item regime.domain t.answer ∷ [])) s.regime;
  stops = r.stops;
  meets = λ none some. r.meets (s.violation ∙ none) some;
}

replied : (a : Answer) (w : World) → is_cloaked w ≡ true → (a ≡ told.Stopped → is_halted w ≡ true) →
    Replied w (replies a w)
unfolding replies
replied a (Cloaked c) cloaked halted = record {
  plain = refl;
  regime = refl;
  form = refl;
  items = λ d. filter-append (is_inward d) c.items (answer_item c.regime.domain a ∷ []);
  stops = halted;
  meets = λ none some. absurd (false≢true (sym (ap is_some none) ∙ some));
}
replied a _ cloaked halted = absurd (false≢true cloaked)

missed_halted : (w : World) → is_missed w ≡ true → is_halted w ≡ true
missed_halted w missed = ap (λ (b : Bool). b || is_some (violation_of w)) missed

replied_if_drawn : (missed : Bool) (ask : Asking Answer) (w : World) → is_missed w ≡ missed → is_cloaked w ≡ true →
    Replied w (ask w) →
    Replied w (if missed then replies told.Stopped w else ask w)
replied_if_drawn true ask w is cloaked next = replied told.Stopped w cloaked (λ e. missed_halted w is)
replied_if_drawn false ask w is cloaked next = next

replied_drawn : (ask : Asking Answer) (w : World) → is_cloaked w ≡ true → Replied w (ask w) → Replied w (if_drawn ask w)
unfolding if_drawn
replied_drawn ask w cloaked next = replied_if_drawn (is_missed w) ask w refl cloaked next

replied_offered : (q : PageId) (va : ℕ) (kind : Kind) (walked : Walked) (granted : Bool) (w : World) →
    is_cloaked w ≡ true → Replied w (offered_by q va kind walked granted w)
unfolding offered_by replies
replied_offered q va kind walked true w cloaked =
    let steady = Steady-noted _ w in
    replied_after w _ _ steady (replied told.Ok _ (steady.form ∙ cloaked) (λ e. absurd cc))
replied_offered q va kind walked false (Flat ram) cloaked = absurd (false≢true cloaked)
replied_offered q va kind walked false (Cloaked c) cloaked =
    let r = replied told.Stopped (Cloaked (record c { violation = Some (violation.Page q (frame_at walked.pa)) })) refl
    (λ e. violation_halted c.memory.ledger.missed) in
    record {
      plain = r.plain;
      regime = r.regime;
      form = r.form;
      items = r.items;
      stops = r.stops;
      meets = λ none some. refl;
    }
  where
    violation_halted : (b : Bool) → (b || true) ≡ true
    violation_halted true = refl
    violation_halted false = refl
replied_offered q va kind walked false (Alone h) cloaked = absurd (false≢true cloaked)

replied_offer : (q : PageId) (va : ℕ) (kind : Kind) (walked : Walked) (w : World) → is_cloaked w ≡ true →
    Replied w (ask_offer q va kind walked w)
unfolding ask_offer
replied_offer q va kind walked (Cloaked c) cloaked =
    let o = offer q (frame_of walked.pa) (is_store kind) c.memory in
    replied_after (Cloaked c) (Cloaked _) _
    (record {
      plain = offer_plain q (frame_of walked.pa) (is_store kind) c.memory;
      regime = refl;
      form = refl;
      items = λ d.
          ciphers_told d c.items o.ciphers;
      violation = refl;
    })
    (replied_drawn (offered_by q va kind walked o.granted) (Cloaked _) refl
    (replied_offered q va kind walked o.granted (Cloaked _) refl))
replied_offer q va kind walked _ cloaked = absurd (false≢true cloaked)

replied_reached : (q : PageId) (va : ℕ) (kind : Kind) (to : Walk) (w : World) → is_cloaked w ≡ true →
    Replied w (reached q va kind to w)
unfolding reached
replied_reached q va kind (Err cause) w cloaked = replied (told.Absent cause) w cloaked (λ e. absurd cc)
replied_reached q va kind (Ok walked) w cloaked = replied_offer q va kind walked w cloaked

pub replied_reach : (q : PageId) (va : ℕ) (kind : Kind) (w : World) → is_cloaked w ≡ true →
    Replied w (reach_by_table q va kind w)
unfolding reach_by_table
replied_reach q va kind w cloaked =
    let to = ask_led_inside va kind w in
    let steady = steady_led_inside va kind w in
    let cloaked' : is_cloaked to.world ≡ true = steady.form ∙ cloaked in
    replied_after w to.world _ steady (replied_drawn (reached q va kind to.answer) to.world cloaked'
    (replied_reached q va kind to.answer to.world cloaked'))

replied_get_at : (pa width : ℕ) (w : World) → is_cloaked w ≡ true → Replied w (get_at pa width w)
unfolding get_at
replied_get_at pa width w cloaked =
    let steady = Steady-noted _ w in replied_after w _ _ steady (replied _ _ (steady.form ∙ cloaked) (λ e. absurd cc))

replied_got : (va width : ℕ) (to : Walk) (w : World) → is_cloaked w ≡ true → Replied w (got va width to w)
unfolding got
replied_got va width (Err cause) w cloaked = replied (told.Absent cause) w cloaked (λ e. absurd cc)
replied_got va width (Ok walked) w cloaked =
    let v = opened (regime_of w).satp (inside_access w va Load) walked w in
    let steady = Steady-opened _ _ walked w in
    let cloaked' : is_cloaked v ≡ true = steady.form ∙ cloaked in
    replied_after w _ _ steady (replied_drawn (get_at walked.pa width) _ cloaked'
    (replied_get_at walked.pa width _ cloaked'))

pub replied_get : (va width : ℕ) (w : World) → is_cloaked w ≡ true → Replied w (get_by_table va width w)
unfolding get_by_table
replied_get va width w cloaked =
    let to = ask_led_inside va _ w in
    let steady = steady_led_inside va _ w in
    let cloaked' : is_cloaked to.world ≡ true = steady.form ∙ cloaked in
    replied_after w to.world _ steady (replied_drawn (got va width to.answer) to.world cloaked'
    (replied_got va width to.answer to.world cloaked'))

replied_put_at : (pa width value : ℕ) (w : World) → is_cloaked w ≡ true → Replied w (put_at pa width value w)
unfolding put_at
replied_put_at pa width value w cloaked =
    let steady = Steady-trans _ _ _ (Steady-stored_at pa width value w) (Steady-written _ _ (λ d. refl)) in
    replied_after w _ _ steady (replied told.Ok _ (steady.form ∙ cloaked) (λ e. absurd cc))

replied_stored : (va width value : ℕ) (to : Walk) (w : World) → is_cloaked w ≡ true →
    Replied w (stored_inside va width value to w)
unfolding stored_inside
replied_stored va width value (Err cause) w cloaked = replied (told.Absent cause) w cloaked (λ e. absurd cc)
replied_stored va width value (Ok walked) w cloaked =
    let v = opened (regime_of w).satp (inside_access w va Store) walked w in
    let steady = Steady-opened _ _ walked w in
    let cloaked' : is_cloaked v ≡ true = steady.form ∙ cloaked in
    replied_after w _ _ steady (replied_drawn (put_at walked.pa width value) _ cloaked'
    (replied_put_at walked.pa width value _ cloaked'))

pub replied_put : (va width value : ℕ) (w : World) → is_cloaked w ≡ true → Replied w (put_by_table va width value w)
unfolding put_by_table
replied_put va width value w cloaked =
    let to = ask_led_inside va _ w in
    let steady = steady_led_inside va _ w in
    let cloaked' : is_cloaked to.world ≡ true = steady.form ∙ cloaked in
    replied_after w to.world _ steady (replied_drawn (stored_inside va width value to.answer) to.world cloaked'
    (replied_stored va width value to.answer to.world cloaked'))

pub replied_clear : (domain : ℕ) (marked : List Bool) (f n : ℕ) (w : World) → is_cloaked w ≡ true →
    Replied w (clear_from domain marked f n w)
unfolding clear_from
replied_clear domain marked f zero w cloaked = replied told.Ok w cloaked (λ e. absurd cc)
replied_clear domain marked f (suc n) w cloaked =
    let steady = keeps_if_marked Steady steady_opens.settles domain marked f w in
    let cloaked' : is_cloaked (settled_if_marked domain marked f w) ≡ true = steady.form ∙ cloaked in
    replied_after w _ _ steady (replied_drawn (clear_from domain marked (f + 1) n) _ cloaked'
    (replied_clear domain marked (f + 1) n _ cloaked'))
