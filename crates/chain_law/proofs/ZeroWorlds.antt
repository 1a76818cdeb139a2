-- Fresh pages stay zeros by each question of a program, and by each change of its pages: a page that was reached is
-- not fresh, and what is copied is of pages that no frame is owed.
use Rattle.std.proofs.Common.{◌≡◌, ◌≢◌, ◌∙◌, ◌<◌, ◌≤◌, ◌+◌, inl, inr, ℕ, zero, suc, Bool, true, false, ◌&&◌, cond, List, length, Option, Some, None, Ok, Err, is_some, refl, sym, ap, subst, arith, eq-eqb}
use Rattle.std.specs.Prelude.{slice_index_or}
use Rattle.std.proofs.lemmas.Bool.{false≢true, cases_lt, ltb-true}
use Rattle.std.proofs.lemmas.List.{get_or_past, length-set}
use Rattle.cloak_base.specs.Constants.{frame_of}
use Rattle.cloak_base.specs.Pages.{zero_page, same_page, is_of, page_in}
use Rattle.cloak_base.specs.declared.names.Kind.{Kind}
use Rattle.cloak_base.specs.declared.names.PageId.{PageId}
use Rattle.cloak_base.proofs.Pages.{same_page_tells, is_of_tells}
use Rattle.cloak_model.specs.declared.access.Walked.{Walked}
use Rattle.cloak_model.specs.declared.answer.Answer.{Answer}
use Rattle.cloak_model.specs.declared.answer.Answer.TheVariants as told
use Rattle.cloak_model.specs.Items.{Item}
use Rattle.cloak_model.specs.Asking.{Told, Asking}
use Rattle.cloak_model.specs.AskPages.{answer_item, is_store, replies, if_drawn, ask_led_inside, offered_by, ask_offer, reached, reach_by_table, is_marked, settled_if_marked, clear_from, ask_reach, ask_write, ask_get, ask_put, ask_clear, ask_copy, ask_forget}
use Rattle.cloak_model.specs.Cloaking.{CloakedMemory, owed_in, settle, offer}
use Rattle.cloak_model.proofs.Offering.{settle_cleans}
use Rattle.cloak_model.specs.Events.{Event}
use Rattle.cloak_model.specs.Memory.{is_in_ram}
use Rattle.cloak_model.specs.PageMoves.{copy_pages, drop_pages}
use Rattle.cloak_model.specs.Walk.{Walk}
use Rattle.cloak_model.specs.World.{World, MidStep, Handed, Flat, Cloaked, Alone, is_missed, regime_of, ram_of, owed_of, noted, stored_at, settled, written, with_plain, plain_of}
use Rattle.cloak_model.specs.Script.{Question, Reach, Get, Put, Clear, asked}
use Rattle.domain_isolation.proofs.InOrder.{decided}
use Rattle.domain_isolation.proofs.Steady.{is_cloaked}
use Rattle.domain_isolation.proofs.Answers.{question_answered}
use Rattle.kernel_isolation.proofs.Leading.{leads_inside}
use Rattle.kernel_isolation.proofs.Settlings.{HasPlaces}
use Rattle.script_fold.proofs.Questions.{Kept, opens_of, replies_of, keeps_led_inside, keeps_reach, keeps_get, keeps_put, keeps_clear}
use Rattle.limit_law.proofs.Worlds.{InWorld, in_wide, kept_noted, kept_written}
use Rattle.chain_law.specs.Zeros.{IsFresh, FreshAreZeros, HaveVectors}
use Rattle.chain_law.proofs.Zeros.{FreshStay, fresh_same, fresh_then, keeps_places, IsAtHand, offer_offered, settle_fresh, settle_others}
use Rattle.cloak_base.proofs.Choices.{either}

-- No page becomes fresh by a question.

abbrev pub Stay : World → World → Type 0
Stay (Flat seen) (Flat seen') = Unit {0}
Stay (Cloaked c) (Cloaked d) = FreshStay c.memory d.memory
Stay (Alone h) (Alone h') = Unit {0}
Stay _ _ = ⊥

stay_same : (w : World) → Stay w w
stay_same (Cloaked c) = fresh_same c.memory
stay_same _ = tt

stay_then : (u v w : World) → Stay u v → Stay v w → Stay u w
stay_then (Flat a) (Flat b) (Flat c) p q = tt
stay_then (Flat a) (Flat b) (Cloaked c) p q = absurd q
stay_then (Flat a) (Flat b) (Alone c) p q = absurd q
stay_then (Flat a) (Cloaked b) w p q = absurd p
stay_then (Flat a) (Alone b) w p q = absurd p
stay_then (Cloaked a) (Flat b) w p q = absurd p
stay_then (Cloaked a) (Cloaked b) (Flat c) p q = absurd q
stay_then (Cloaked a) (Cloaked b) (Cloaked c) p q = fresh_then a.memory b.memory c.memory p q
stay_then (Cloaked a) (Cloaked b) (Alone c) p q = absurd q
stay_then (Cloaked a) (Alone b) w p q = absurd p
stay_then (Alone a) (Flat b) w p q = absurd p
stay_then (Alone a) (Cloaked b) w p q = absurd p
stay_then (Alone a) (Alone b) (Flat c) p q = absurd q
stay_then (Alone a) (Alone b) (Cloaked c) p q = absurd q
stay_then (Alone a) (Alone b) (Alone c) p q = tt

stay_settled : (f : ℕ) (w : World) → Stay w (settled f w)
stay_settled f (Cloaked c) = settle_fresh f c.memory
stay_settled f _ = tt

stay_stored : (pa width value : ℕ) (w : World) → Stay w (stored_at pa width value w)
stay_stored pa width value (Cloaked c) = record {
  frames = length-set c.memory.ram (frame_of pa) _;
  places = refl;
  vectors = λ vectors. vectors;
  drawn = λ drawn. drawn;
  fresh = λ drawn q fresh. fresh;
}
stay_stored pa width value _ = tt

stay_noted : (events : List Event) (w : World) → Stay w (noted events w)
stay_noted events (Cloaked c) = fresh_same c.memory
stay_noted events _ = tt

stay_written : (i : Item) (w : World) → Stay w (written i w)
stay_written i (Cloaked c) = fresh_same c.memory
stay_written i _ = tt

stay_plain : (domain : ℕ) (plain : PageId → List ℕ) (w : World) → Stay w (with_plain domain plain w)
stay_plain domain plain (Flat seen) = tt
stay_plain domain plain (Cloaked c) = record {
  frames = refl;
  places = refl;
  vectors = λ vectors. vectors;
  drawn = λ drawn. drawn;
  fresh = λ drawn q fresh. fresh;
}
stay_plain domain plain (Alone h) = tt

pub kept : Kept Stay
kept = record {
  same = stay_same;
  chained = stay_then;
  settled = stay_settled;
  stored_at = stay_stored;
  noted = stay_noted;
  written = stay_written;
  with_plain = stay_plain;
  offered = λ q g write c. (offer_offered q g write c.memory).stay;
  mismatched = λ q g c. fresh_same c.memory;
  told = λ h rest. tt;
  unfit = λ h. tt;
}

-- What is known of a memory, and of that of a world.

abbrev pub IsTidy : CloakedMemory → Type 0
IsTidy m = HaveVectors m × FreshAreZeros m

abbrev pub Knows : CloakedMemory → Type 0
Knows m = HasPlaces m × IsTidy m

abbrev pub KnowsIn : World → Type 0
KnowsIn w = InWorld Knows w

abbrev pub PlacesIn : World → Type 0
PlacesIn w = InWorld HasPlaces w

pub places_of : (w : World) → KnowsIn w → PlacesIn w
places_of = in_wide Knows HasPlaces (λ m knows. knows.0)

pub record Learns (w v : World) : Type 0 where
  pub by : KnowsIn w → KnowsIn v

pub learns_same : (w : World) → Learns w w
learns_same w = record { by = λ knows. knows }

pub learns_then : (u v w : World) → Learns u v → Learns v w → Learns u w
learns_then u v w p q = record { by = λ knows. q.by (p.by knows) }

pub tidy_stay : (m n : CloakedMemory) → FreshStay m n → n.plain ≡ m.plain → IsTidy m → IsTidy n
tidy_stay m n stay plain tidy = (
  stay.vectors tidy.0,
  (λ drawn q fresh.
      ap (λ (pages : PageId → List ℕ). pages q) plain ∙ tidy.1 (stay.drawn drawn) q (stay.fresh drawn q fresh)),
)

knows_stay : (m n : CloakedMemory) → FreshStay m n → n.plain ≡ m.plain → Knows m → Knows n
knows_stay m n stay plain knows = (keeps_places m n stay knows.0, tidy_stay m n stay plain knows.1)

learns_stay : (w v : World) → Stay w v → (is_cloaked w ≡ true → plain_of v ≡ plain_of w) → Learns w v
learns_stay (Flat a) (Flat b) stay plain = record { by = λ knows. tt }
learns_stay (Flat a) (Cloaked b) stay plain = absurd stay
learns_stay (Flat a) (Alone b) stay plain = absurd stay
learns_stay (Cloaked a) (Flat b) stay plain = absurd stay
learns_stay (Cloaked a) (Cloaked b) stay plain = record { by = knows_stay a.memory b.memory stay (plain refl) }
learns_stay (Cloaked a) (Alone b) stay plain = absurd stay
learns_stay (Alone a) (Flat b) stay plain = absurd stay
learns_stay (Alone a) (Cloaked b) stay plain = absurd stay
learns_stay (Alone a) (Alone b) stay plain = record { by = λ knows. tt }

-- The questions.

asked_learns : (question : Question) (w : World) → Stay w (asked question w).world → Learns w (asked question w).world
asked_learns question w stay = learns_stay w _ stay (λ is. (question_answered 0 question w is).replied.plain)

pub reach_learns : (q : PageId) (va : ℕ) (kind : Kind) (w : World) → Learns w (ask_reach q va kind w).world
reach_learns q va kind w = asked_learns (Reach q va kind) w (keeps_reach Stay kept q va kind w)

pub get_learns : (va width : ℕ) (w : World) → Learns w (ask_get va width w).world
get_learns va width w = asked_learns (Get va width) w (keeps_get Stay (replies_of Stay kept) va width w)

pub put_learns : (va width value : ℕ) (w : World) → Learns w (ask_put va width value w).world
put_learns va width value w = asked_learns (Put va width value) w (keeps_put Stay kept va width value w)

pub clear_learns : (domain : ℕ) (marked : List Bool) (w : World) → Learns w (ask_clear domain marked w).world
clear_learns domain marked w =
    asked_learns (Clear domain marked) w (keeps_clear Stay (replies_of Stay kept) domain marked w)

stay_places : (w v : World) → Stay w v → PlacesIn w → PlacesIn v
stay_places (Flat a) (Flat b) stay places = tt
stay_places (Flat a) (Cloaked b) stay places = absurd stay
stay_places (Flat a) (Alone b) stay places = absurd stay
stay_places (Cloaked a) (Flat b) stay places = absurd stay
stay_places (Cloaked a) (Cloaked b) stay places = keeps_places a.memory b.memory stay places
stay_places (Cloaked a) (Alone b) stay places = absurd stay
stay_places (Alone a) (Flat b) stay places = absurd stay
stay_places (Alone a) (Cloaked b) stay places = absurd stay
stay_places (Alone a) (Alone b) stay places = tt

both_true : (a b : Bool) → a && b ≡ true → b ≡ true
both_true true b is = is
both_true false b is = absurd (false≢true is)

stopped_ok : told.Stopped ≡ told.Ok → ⊥
stopped_ok is = cc

-- What each offer leaves that grants a page, a question for the page leaves that is answered with Ok.

module _ (P : CloakedMemory → Type 0) where
  abbrev pub IfOk : Told Answer → Type 0
  IfOk t = t.answer ≡ told.Ok → InWorld P t.world

  ok_replies : (a : Answer) (w : World) → (a ≡ told.Ok → InWorld P w) → IfOk (replies a w)
  unfolding replies
  ok_replies a w here is = (kept_written P _ w).by (here is)

  ok_stopped : (w : World) → IfOk (replies told.Stopped w)
  ok_stopped w = ok_replies told.Stopped w (λ is. absurd (stopped_ok is))

  ok_drawn : (ask : Asking Answer) (w : World) → IfOk (ask w) → IfOk (if_drawn ask w)
  unfolding if_drawn
  ok_drawn ask w here = either IfOk (is_missed w) (replies told.Stopped w) (ask w) (ok_stopped w) here

  ok_alone : (w v : World) → is_cloaked w ≡ false → Stay w v → InWorld P v
  ok_alone (Flat a) (Flat b) not stay = tt
  ok_alone (Flat a) (Cloaked b) not stay = absurd stay
  ok_alone (Flat a) (Alone b) not stay = tt
  ok_alone (Cloaked a) v not stay = absurd (false≢true (sym not))
  ok_alone (Alone a) (Flat b) not stay = tt
  ok_alone (Alone a) (Cloaked b) not stay = absurd stay
  ok_alone (Alone a) (Alone b) not stay = tt

  module _ (q : PageId) (kind : Kind) (grants : (g : ℕ) (m : CloakedMemory) → g < length m.ledger.owed →
      let o = offer q g (is_store kind) m in o.granted ≡ true → P o.memory)
    where
      ok_offered : (va : ℕ) (walked : Walked) (granted : Bool) (w : World) → (granted ≡ true → InWorld P w) →
          IfOk (offered_by q va kind walked granted w)
      unfolding offered_by
      ok_offered va walked true w here = ok_replies told.Ok _ (λ is. (kept_noted P _ w).by (here refl))
      ok_offered va walked false (Flat seen) here = ok_stopped (Flat seen)
      ok_offered va walked false (Cloaked c) here = ok_stopped _
      ok_offered va walked false (Alone h) here = ok_stopped (Alone h)

      ok_offer : (va : ℕ) (walked : Walked) (w : World) → PlacesIn w → frame_of walked.pa < length (ram_of w) →
          IfOk (ask_offer q va kind walked w)
      unfolding ask_offer
      ok_offer va walked (Cloaked c) places low =
          let g : ℕ = frame_of walked.pa in
          ok_drawn _ _
          (ok_offered va walked _ _ (grants g c.memory (subst (λ (k : ℕ). g < k) (sym places) low)))
      ok_offer va walked _ places low = λ is. absurd (stopped_ok is)

      ok_reached : (va : ℕ) (to : Walk) (w : World) → PlacesIn w →
          ((walked : Walked) → to ≡ Ok walked → is_in_ram (ram_of w) walked.pa ≡ true) → IfOk (reached q va kind to w)
      unfolding reached
      ok_reached va (Err cause) w places inside = ok_replies (told.Absent cause) w (λ is. absurd cc)
      ok_reached va (Ok walked) w places inside =
          ok_offer va walked w places
          (ltb-true (frame_of walked.pa) (length (ram_of w)) (both_true _ _ (inside walked refl)))

      ok_by_table : (va : ℕ) (w : World) → PlacesIn w → IfOk (reach_by_table q va kind w)
      unfolding reach_by_table
      ok_by_table va w places =
          let to = ask_led_inside va kind w in
          ok_drawn (reached q va kind to.answer) to.world
          (ok_reached va to.answer to.world
          (stay_places w to.world (keeps_led_inside Stay (opens_of Stay kept) va kind w) places)
          (λ walked is. ((leads_inside va kind w).inside walked is).0))

      pub reach_grants : (va : ℕ) (w : World) → PlacesIn w → IfOk (ask_reach q va kind w)
      unfolding ask_reach
      reach_grants va (Flat seen) places is = absurd (stopped_ok is)
      reach_grants va (Cloaked c) places is = ok_by_table va (Cloaked c) places is
      reach_grants va (Alone h) places is =
          ok_alone (Alone h) _ refl (keeps_reach Stay kept q va kind (Alone h))

-- A page that was reached is at hand.

abbrev pub AtHandIn : PageId → World → Type 0
AtHandIn q w = InWorld (IsAtHand q) w

pub reach_hand : (q : PageId) (va : ℕ) (kind : Kind) (w : World) → KnowsIn w → IfOk (IsAtHand q) (ask_reach q va kind w)
reach_hand q va kind w knows =
    reach_grants (IsAtHand q) q kind (λ g m. (offer_offered q g (is_store kind) m).granted) va w (places_of w knows)

-- The changes: a page that is at hand may be written.

other_page : (p q : PageId) (bytes zeros was : List ℕ) → p ≢ q → was ≡ zeros → cond (same_page p q) bytes was ≡ zeros
other_page p q bytes zeros was other is = elim (same_page_tells p q) [
  | inl same ↦ absurd (other same.1)
  | inr differs ↦ ap (λ (b : Bool). cond b bytes was) differs.0 ∙ is
]

pub write_learns : (q : PageId) (at width value : ℕ) (w : World) → (KnowsIn w → AtHandIn q w) →
    Learns w (ask_write q at width value w).world
unfolding ask_write
write_learns q at width value (Cloaked c) hand = record {
  by = λ knows. (
    knows.0,
    (
      knows.1.0,
      (λ drawn p fresh.
          other_page p q _ zero_page (c.memory.plain p)
          (λ same. hand knows drawn (subst (λ (x : PageId). IsFresh x c.memory) same fresh)) (knows.1.1 drawn p fresh)),
    ),
  );
}
write_learns q at width value _ hand = record { by = λ knows. tt }

-- no frame is owed a page of this resource
abbrev pub NoneOwedOf : ℕ → ℕ → CloakedMemory → Type 0
NoneOwedOf domain resource m =
    (q : PageId) → q.domain ≡ domain → q.resource ≡ resource → (f : ℕ) → owed_in m f ≢ Some q

abbrev pub NoneOwedIn : ℕ → ℕ → World → Type 0
NoneOwedIn domain resource (Cloaked c) = NoneOwedOf domain resource c.memory
NoneOwedIn domain resource _ = Unit {0}

both_copied : (b : Bool) (x y o p : Option (List ℕ)) → is_some x ≡ is_some y → is_some o ≡ is_some p →
    is_some (cond b x o) ≡ is_some (cond b y p)
both_copied true x y o p first second = first
both_copied false x y o p first second = second

copied_zero : (b : Bool) (x y : Option (List ℕ)) (here there : List ℕ) → cond b x y ≡ None →
    (b ≡ true → x ≡ None → here ≡ zero_page) → (y ≡ None → there ≡ zero_page) → cond b here there ≡ zero_page
copied_zero true x y here there none first second = first refl none
copied_zero false x y here there none first second = second none

copy_knows : (domain from to : ℕ) (m : CloakedMemory) → NoneOwedOf domain from m → Knows m →
    Knows (copy_pages domain from to m)
unfolding copy_pages
copy_knows domain from to m none knows = (
  knows.0,
  (
    (λ q. both_copied (is_of domain to q) (m.ledger.iv (page_in from q)) (m.ledger.recorded (page_in from q)) _ _
        (knows.1.0 (page_in from q)) (knows.1.0 q)),
    (λ drawn q fresh.
        copied_zero (is_of domain to q) (m.ledger.recorded (page_in from q)) (m.ledger.recorded q) _ _ fresh.0
        (λ is unrecorded.
        elim (is_of_tells domain to q) [
          | inl of ↦ knows.1.1 drawn (page_in from q) (unrecorded, none (page_in from q) of.1.0 refl)
          | inr differs ↦ absurd (false≢true (sym differs.0 ∙ is))
        ])
        (λ unrecorded. knows.1.1 drawn q (unrecorded, fresh.1))),
  ),
)

pub copy_learns : (domain from to : ℕ) (w : World) → NoneOwedIn domain from w →
    Learns w (ask_copy domain from to w).world
unfolding ask_copy
copy_learns domain from to (Cloaked c) none = record { by = copy_knows domain from to c.memory none }
copy_learns domain from to _ none = record { by = λ knows. tt }

-- what frames are owed stays
pub copy_owes : (domain from to : ℕ) (w : World) (resource : ℕ) → NoneOwedIn domain resource w →
    NoneOwedIn domain resource (ask_copy domain from to w).world
unfolding ask_copy copy_pages
copy_owes domain from to (Cloaked c) resource none = none
copy_owes domain from to _ resource none = tt

pub drop_tidy : (domain resource : ℕ) (m : CloakedMemory) → IsTidy m → IsTidy (drop_pages domain resource m)
unfolding drop_pages
drop_tidy domain resource m tidy = (
  (λ q. both_copied (is_of domain resource q) None None _ _ refl (tidy.0 q)),
  (λ drawn q fresh.
      copied_zero (is_of domain resource q) None (m.ledger.recorded q) zero_page (m.plain q) fresh.0
      (λ is unrecorded. refl) (λ unrecorded. tidy.1 drawn q (unrecorded, fresh.1))),
)

drop_knows : (domain resource : ℕ) (m : CloakedMemory) → Knows m → Knows (drop_pages domain resource m)
unfolding drop_pages
drop_knows domain resource m knows = (knows.0, drop_tidy domain resource m knows.1)

pub forget_learns : (domain resource : ℕ) (w : World) → Learns w (ask_forget domain resource w).world
unfolding ask_forget
forget_learns domain resource (Cloaked c) = record { by = drop_knows domain resource c.memory }
forget_learns domain resource _ = record { by = λ knows. tt }

-- Once the marked resources are cleared, no frame is owed a page of them.

abbrev pub ClearBelow : ℕ → ℕ → List Bool → World → Type 0
ClearBelow n domain marked w =
    (f : ℕ) → f < n → is_marked domain marked (slice_index_or (owed_of w) f None) ≡ false

pub settled_below : (domain : ℕ) (marked : List Bool) (f : ℕ) (w : World) → ClearBelow f domain marked w →
    ClearBelow (f + 1) domain marked (settled f w)
settled_below domain marked f (Cloaked c) clear g low =
    elim (decided g f) [
      | inl same ↦
          ap (is_marked domain marked) (ap (owed_in (settle f c.memory).memory) same ∙ settle_cleans f c.memory)
      | inr other ↦
          ap (is_marked domain marked) (settle_others f c.memory g other) ∙ clear g (omega (arith, low, other))
    ]
settled_below domain marked f _ clear g low = refl

pub if_below : (b : Bool) (domain : ℕ) (marked : List Bool) (f : ℕ) (w : World) →
    is_marked domain marked (slice_index_or (owed_of w) f None) ≡ b → ClearBelow f domain marked w →
    ClearBelow (f + 1) domain marked (cond b (settled f w) w)
if_below true domain marked f w is clear g low = settled_below domain marked f w clear g low
if_below false domain marked f w is clear g low = elim (decided g f) [
  | inl same ↦ ap (λ (k : ℕ). is_marked domain marked (slice_index_or (owed_of w) k None)) same ∙ is
  | inr other ↦ clear g (omega (arith, low, other))
]

pub marked_below : (domain : ℕ) (marked : List Bool) (f : ℕ) (w : World) → ClearBelow f domain marked w →
    ClearBelow (f + 1) domain marked (settled_if_marked domain marked f w)
unfolding settled_if_marked
marked_below domain marked f w clear = if_below _ domain marked f w refl clear

pub written_below : (n domain : ℕ) (marked : List Bool) (i : Item) (w : World) → ClearBelow n domain marked w →
    ClearBelow n domain marked (written i w)
written_below n domain marked i (Flat seen) clear = clear
written_below n domain marked i _ clear = clear

pub below_drawn : (missed : Bool) (n domain : ℕ) (marked : List Bool) (v : World) (t : Told Answer) →
    (t.answer ≡ told.Ok → ClearBelow n domain marked t.world) →
    (cond missed (replies told.Stopped v) t).answer ≡ told.Ok →
    ClearBelow n domain marked (cond missed (replies told.Stopped v) t).world
unfolding replies
below_drawn true n domain marked v t later is = absurd (stopped_ok is)
below_drawn false n domain marked v t later is = later is

pub below_from : (domain : ℕ) (marked : List Bool) (f n : ℕ) (w : World) → ClearBelow f domain marked w →
    (clear_from domain marked f n w).answer ≡ told.Ok →
    ClearBelow (f + n) domain marked (clear_from domain marked f n w).world
unfolding clear_from replies if_drawn
below_from domain marked f zero w clear is =
    let count : f ≡ f + 0 = omega arith in
    subst (λ (k : ℕ). ClearBelow k domain marked (written (answer_item (regime_of w).domain told.Ok) w)) count
    (written_below f domain marked (answer_item (regime_of w).domain told.Ok) w clear)
below_from domain marked f (suc n) w clear ok =
    let v = settled_if_marked domain marked f w in
    let count : f + 1 + n ≡ f + suc n = omega arith in
    below_drawn (is_missed v) (f + suc n) domain marked v (clear_from domain marked (f + 1) n v) (λ is.
    subst (λ (k : ℕ). ClearBelow k domain marked (clear_from domain marked (f + 1) n v).world) count
    (below_from domain marked (f + 1) n v (marked_below domain marked f w clear) is)) ok

abbrev pub MarkedClear : ℕ → List Bool → World → Type 0
MarkedClear domain marked w =
    (resource : ℕ) → slice_index_or marked resource false ≡ true → NoneOwedIn domain resource w

own_number : (domain : ℕ) (marked : List Bool) (q : PageId) → q.domain ≡ domain →
    slice_index_or marked q.resource false ≡ true → is_marked domain marked (Some q) ≡ true
own_number domain marked q own is =
    ap (λ (b : Bool). b && slice_index_or marked q.resource false) (eq-eqb q.domain domain own) ∙ is

pub cleared_world : (domain : ℕ) (marked : List Bool) (n : ℕ) (w : World) → length (owed_of w) ≤ n →
    ClearBelow n domain marked w → MarkedClear domain marked w
cleared_world domain marked n (Cloaked c) low clear = λ resource is q own of f owed. elim (cases_lt f n) [
  | inl inside ↦
      false≢true (sym (ap (is_marked domain marked) (sym owed) ∙ clear f inside)
      ∙ own_number domain marked q own (ap (λ (k : ℕ). slice_index_or marked k false) of ∙ is))
  | inr past ↦
      let clash : None ≡ Some q =
      sym (get_or_past c.memory.ledger.owed f None (omega (arith, low, past))) ∙ owed in cc
]
cleared_world domain marked n _ low clear = λ resource is. tt

-- there are no more of such frames than of all
pub owed_low : (c : MidStep) (v : World) → Stay (Cloaked c) v → HasPlaces c.memory →
    length (owed_of v) ≤ 0 + length c.memory.ram
owed_low c (Cloaked e) stay places = omega (arith, stay.places, places)
owed_low c _ stay places = absurd stay

none_alone : (domain resource : ℕ) (h : Handed) (v : World) → Stay (Alone h) v → NoneOwedIn domain resource v
none_alone domain resource h (Cloaked c) stay = absurd stay
none_alone domain resource h _ stay = tt

pub clear_clears : (domain : ℕ) (marked : List Bool) (w : World) → PlacesIn w →
    (ask_clear domain marked w).answer ≡ told.Ok → MarkedClear domain marked (ask_clear domain marked w).world
unfolding ask_clear
clear_clears domain marked (Flat seen) places is = absurd (stopped_ok is)
clear_clears domain marked (Cloaked c) places is =
    cleared_world domain marked (0 + length c.memory.ram) _
    (owed_low c _ (keeps_clear Stay (replies_of Stay kept) domain marked (Cloaked c)) places)
    (below_from domain marked 0 (length c.memory.ram) (Cloaked c) (λ f low. absurd (omega (arith, low))) is)
clear_clears domain marked (Alone h) places is =
    λ resource of. none_alone domain resource h _ (keeps_clear Stay (replies_of Stay kept) domain marked (Alone h))
