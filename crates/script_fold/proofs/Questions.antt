-- What each change of a world keeps, each question of a program keeps.
use Rattle.std.proofs.Common.{true, false, cond, ℕ, Bool, List, Ok, Err, zero, suc, ◌+◌, ◌++◌, [], ◌∷◌, Some, if◌then◌else◌}
use Rattle.cloak_base.specs.declared.names.PageId.{PageId}
use Rattle.cloak_base.specs.declared.causes.Violation.TheVariants as violation
use Rattle.cloak_model.specs.declared.access.Access.{Access}
use Rattle.cloak_model.specs.declared.access.Walked.{Walked}
use Rattle.cloak_base.specs.Constants.{frame_of}
use Rattle.cloak_model.specs.Events.{Event, Look, Read}
use Rattle.cloak_model.specs.World.{World, MidStep, Flat, Cloaked, Alone, noted, stored_at, settled, Handed, written, with_plain, cipher_items, regime_of}
use Rattle.cloak_model.specs.Asking.{Told, Asking}
use Rattle.cloak_model.specs.Walk.{Walk, FirstWord, Ends, GoesOn, first_entry}
use Rattle.cloak_model.specs.Ask.{ask_word, ask_walk, ask_in_ram, ask_translate, ask_led, known, opened}
use Rattle.cloak_model.proofs.WalkParts.{ask_second, ask_after, ask_first}
use Rattle.cloak_base.specs.declared.names.Kind.{Kind}
use Rattle.cloak_model.specs.declared.answer.Answer.{Answer}
use Rattle.cloak_model.specs.Items.{Item}
use Rattle.cloak_model.specs.AskPages.{is_store, inside_access, replies, if_drawn, ask_led_inside, offered_by, offer_events, ask_offer, reached, reach_by_table, get_at, got, get_by_table, put_at, stored_inside, put_by_table, settled_if_marked, clear_from, next_answer, ask_reach, ask_write, ask_get, ask_put, ask_clear}
use Rattle.cloak_model.specs.Cloaking.{offer}

-- What settling a frame keeps.
pub record Settles (R : World → World → Type 0) : Type 0 where
  pub same : (w : World) → R w w
  pub chained : (u v w : World) → R u v → R v w → R u w
  pub settled : (f : ℕ) (w : World) → R w (settled f w)

-- And what the way to an address keeps.
pub record Opens (R : World → World → Type 0) : Type 0 where
  pub settles : Settles R
  pub looked : (satp : ℕ) (a : Access) (w : World) → R w (noted (Look satp a ∷ []) w)
  pub opened : (satp : ℕ) (a : Access) (walked : Walked) (w : World) → R w (opened satp a walked w)
  pub read : (f : ℕ) (w : World) → R w (noted (Read f ∷ []) w)

-- if each event keeps it
pub opens_by : (R : World → World → Type 0) → Settles R → ((events : List Event) (w : World) → R w (noted events w)) →
    Opens R
opens_by R s notes = record {
  settles = s;
  looked = λ satp a w. notes _ w;
  opened = λ satp a walked w. s.chained _ _ _ (s.settled (frame_of walked.pa) w) (notes _ _);
  read = λ f w. notes _ w;
}

-- And what an answer keeps, one that was handed in, too.
pub record Replies (R : World → World → Type 0) : Type 0 where
  pub opens : Opens R
  pub replied : (a : Answer) (w : World) → R w (replies a w).world
  pub told : (h : Handed) (rest : List Answer) → R (Alone h) (Alone (record h { answers = rest }))
  pub unfit : (h : Handed) → R (Alone h) (Alone (record h { unfit = true }))

-- What an offer of a page for an address keeps: one that is granted, and one that finds another page.
pub record Offers (R : World → World → Type 0) (q : PageId) (va : ℕ) : Type 0 where
  pub offered : (g : ℕ) (write : Bool) (c : MidStep) →
      let o = offer q g write c.memory in
      R (Cloaked c) (Cloaked (record c {
        memory = o.memory;
        items = c.items ++ cipher_items o.ciphers;
        events = c.events ++ offer_events q g c.memory o.granted;
      }))
  pub granted : (kind : Kind) (walked : Walked) (w : World) →
      R w (known (regime_of w).satp (inside_access w va kind) (Some q) walked w)
  pub mismatched : (g : ℕ) (c : MidStep) →
      R (Cloaked c) (Cloaked (record c { violation = Some (violation.Page q (record { 0 = g })) }))

-- What each change that a question makes of a world keeps.
pub record Kept (R : World → World → Type 0) : Type 0 where
  pub same : (w : World) → R w w
  pub chained : (u v w : World) → R u v → R v w → R u w
  pub settled : (f : ℕ) (w : World) → R w (settled f w)
  pub stored_at : (pa width value : ℕ) (w : World) → R w (stored_at pa width value w)
  pub noted : (events : List Event) (w : World) → R w (noted events w)
  pub written : (i : Item) (w : World) → R w (written i w)
  pub with_plain : (domain : ℕ) (plain : PageId → List ℕ) (w : World) → R w (with_plain domain plain w)
  pub offered : (q : PageId) (g : ℕ) (write : Bool) (c : MidStep) →
      let o = offer q g write c.memory in
      R (Cloaked c) (Cloaked (record c {
        memory = o.memory;
        items = c.items ++ cipher_items o.ciphers;
        events = c.events ++ offer_events q g c.memory o.granted;
      }))
  pub mismatched : (q : PageId) (g : ℕ) (c : MidStep) →
      R (Cloaked c) (Cloaked (record c { violation = Some (violation.Page q (record { 0 = g })) }))
  pub told : (h : Handed) (rest : List Answer) → R (Alone h) (Alone (record h { answers = rest }))
  pub unfit : (h : Handed) → R (Alone h) (Alone (record h { unfit = true }))

pub settles_of : (R : World → World → Type 0) → Kept R → Settles R
settles_of R k = record { same = k.same; chained = k.chained; settled = k.settled }

pub opens_of : (R : World → World → Type 0) → Kept R → Opens R
opens_of R k = opens_by R (settles_of R k) k.noted

replied_by : (R : World → World → Type 0) → Kept R → (a : Answer) (w : World) → R w (replies a w).world
unfolding replies
replied_by R k a w = k.written _ w

pub replies_of : (R : World → World → Type 0) → Kept R → Replies R
replies_of R k = record { opens = opens_of R k; replied = replied_by R k; told = k.told; unfit = k.unfit }

pub keeps_either : (R : World → World → Type 0) {A : Type 0} (b : Bool) (m n : Told A) (w : World) → R w m.world → R w n.world → R w (cond b m n).world
keeps_either R true m n w p q = p
keeps_either R false m n w p q = q

-- Frames that are settled.

keeps_world : (R : World → World → Type 0) (k : Settles R) (b : Bool) (w v : World) → R w v → R w (if b then v else w)
keeps_world R k true w v later = later
keeps_world R k false w v later = k.same w

pub keeps_if_marked : (R : World → World → Type 0) (k : Settles R) (domain : ℕ) (marked : List Bool) (f : ℕ) (w : World) → R w (settled_if_marked domain marked f w)
unfolding settled_if_marked
keeps_if_marked R k domain marked f w = keeps_world R k _ w (settled f w) (k.settled f w)

-- The way to an address.

module _ (R : World → World → Type 0) (k : Opens R) where
  keeps_word : (pa : ℕ) (w : World) → R w (ask_word pa w).world
  unfolding ask_word
  keeps_word pa w = keeps_either R _ _ _ w (k.settles.settled (frame_of pa) w) (k.settles.same w)

  keeps_second : (a : Access) (at1 at0 : ℕ) (w : World) → R w (ask_second a at1 at0 w).world
  keeps_second a at1 at0 w = keeps_word at0 w

  keeps_after : (a : Access) (at1 : ℕ) (word : FirstWord) (w : World) → R w (ask_after a at1 word w).world
  keeps_after a at1 (Ends walk) w = k.settles.same w
  keeps_after a at1 (GoesOn at0) w = keeps_second a at1 at0 w

  keeps_first : (a : Access) (at1 : ℕ) (w : World) → R w (ask_first a at1 w).world
  keeps_first a at1 w = k.settles.chained _ _ _ (keeps_word at1 w) (keeps_after a at1 _ _)

  pub keeps_walk : (satp : ℕ) (a : Access) (w : World) → R w (ask_walk satp a w).world
  unfolding ask_walk
  keeps_walk satp a w = keeps_either R _ _ _ w (keeps_first a (first_entry satp a.va) w) (k.settles.same w)

  pub keeps_inside : (a : Access) (walk : Walk) (w : World) → R w (ask_in_ram a walk w).world
  unfolding ask_in_ram
  keeps_inside a (Err cause) w = k.settles.same w
  keeps_inside a (Ok walked) w = k.settles.same w

  pub keeps_translate : (satp : ℕ) (a : Access) (w : World) → R w (ask_translate satp a w).world
  unfolding ask_translate
  keeps_translate satp a w = k.settles.chained _ _ _ (keeps_walk satp a w) (keeps_inside a _ _)

  pub keeps_led : (satp : ℕ) (a : Access) (w : World) → R w (ask_led satp a w).world
  unfolding ask_led
  keeps_led satp a w = k.settles.chained _ _ _ (k.looked satp a w) (keeps_translate satp a _)

  pub keeps_led_inside : (va : ℕ) (kind : Kind) (w : World) → R w (ask_led_inside va kind w).world
  unfolding ask_led_inside
  keeps_led_inside va kind w = keeps_led _ _ w

-- The questions.

module _ (R : World → World → Type 0) (k : Replies R) where
  then_keeps : (u v w : World) → R u v → R v w → R u w
  then_keeps = k.opens.settles.chained

  pub keeps_drawn : (ask : Asking Answer) (w : World) → R w (ask w).world → R w (if_drawn ask w).world
  unfolding if_drawn
  keeps_drawn ask w next = keeps_either R _ _ _ w (k.replied _ w) next

  pub keeps_next_answer : (is_fit : Answer → Bool) (rest : List Answer) (h : Handed) → R (Alone h) (next_answer is_fit rest h).world
  unfolding next_answer
  keeps_next_answer is_fit [] h = k.unfit h
  keeps_next_answer is_fit (a ∷ rest) h = keeps_either R (is_fit a) _ _ _ (k.told h rest) (k.unfit h)

  keeps_get_at : (pa width : ℕ) (w : World) → R w (get_at pa width w).world
  unfolding get_at
  keeps_get_at pa width w = then_keeps _ _ _ (k.opens.read _ w) (k.replied _ _)

  keeps_got : (va width : ℕ) (to : Walk) (w : World) → R w (got va width to w).world
  unfolding got
  keeps_got va width (Err cause) w = k.replied _ w
  keeps_got va width (Ok walked) w = then_keeps _ _ _ (k.opens.opened _ _ walked w) (keeps_drawn _ _ (keeps_get_at walked.pa width _))

  keeps_get_by_table : (va width : ℕ) (w : World) → R w (get_by_table va width w).world
  unfolding get_by_table
  keeps_get_by_table va width w = then_keeps _ _ _ (keeps_led_inside R k.opens va _ w) (keeps_drawn _ _ (keeps_got va width _ _))

  pub keeps_get : (va width : ℕ) (w : World) → R w (ask_get va width w).world
  unfolding ask_get
  keeps_get va width (Flat ram) = k.opens.settles.same (Flat ram)
  keeps_get va width (Cloaked c) = keeps_get_by_table va width (Cloaked c)
  keeps_get va width (Alone h) = keeps_next_answer _ _ h

  keeps_clear_from : (domain : ℕ) (marked : List Bool) (f n : ℕ) (w : World) → R w (clear_from domain marked f n w).world
  unfolding clear_from
  keeps_clear_from domain marked f zero w = k.replied _ w
  keeps_clear_from domain marked f (suc n) w = then_keeps _ _ _ (keeps_if_marked R k.opens.settles domain marked f w) (keeps_drawn _ _ (keeps_clear_from domain marked (f + 1) n _))

  pub keeps_clear : (domain : ℕ) (marked : List Bool) (w : World) → R w (ask_clear domain marked w).world
  unfolding ask_clear
  keeps_clear domain marked (Flat ram) = k.opens.settles.same (Flat ram)
  keeps_clear domain marked (Cloaked c) = keeps_clear_from domain marked 0 _ (Cloaked c)
  keeps_clear domain marked (Alone h) = keeps_next_answer _ _ h

  -- a store of one width, if it is kept at an address
  module _ (width : ℕ) (put : (pa value : ℕ) (w : World) → R w (put_at pa width value w).world) where
    keeps_stored_inside : (va value : ℕ) (to : Walk) (w : World) → R w (stored_inside va width value to w).world
    unfolding stored_inside
    keeps_stored_inside va value (Err cause) w = k.replied _ w
    keeps_stored_inside va value (Ok walked) w = then_keeps _ _ _ (k.opens.opened _ _ walked w) (keeps_drawn _ _ (put walked.pa value _))

    keeps_put_by_table : (va value : ℕ) (w : World) → R w (put_by_table va width value w).world
    unfolding put_by_table
    keeps_put_by_table va value w = then_keeps _ _ _ (keeps_led_inside R k.opens va _ w) (keeps_drawn _ _ (keeps_stored_inside va value _ _))

    pub keeps_stored : (va value : ℕ) (w : World) → R w (ask_put va width value w).world
    unfolding ask_put
    keeps_stored va value (Flat ram) = k.opens.settles.same (Flat ram)
    keeps_stored va value (Cloaked c) = keeps_put_by_table va value (Cloaked c)
    keeps_stored va value (Alone h) = keeps_next_answer _ _ h

  -- a question for a page, if offers of it are kept
  module _ (q : PageId) (va : ℕ) (o : Offers R q va) where
    keeps_offered : (kind : Kind) (walked : Walked) (granted : Bool) (w : World) →
        R w (offered_by q va kind walked granted w).world
    unfolding offered_by
    keeps_offered kind walked true w = then_keeps _ _ _ (o.granted kind walked w) (k.replied _ _)
    keeps_offered kind walked false (Flat ram) = k.replied _ (Flat ram)
    keeps_offered kind walked false (Cloaked c) = then_keeps _ (Cloaked _) _ (o.mismatched (frame_of walked.pa) c) (k.replied _ _)
    keeps_offered kind walked false (Alone h) = k.replied _ (Alone h)

    keeps_offer : (kind : Kind) (walked : Walked) (w : World) → R w (ask_offer q va kind walked w).world
    unfolding ask_offer
    keeps_offer kind walked (Flat ram) = k.opens.settles.same (Flat ram)
    keeps_offer kind walked (Cloaked c) =
        then_keeps _ (Cloaked _) _ (o.offered (frame_of walked.pa) (is_store kind) c)
        (keeps_drawn _ _ (keeps_offered kind walked _ _))
    keeps_offer kind walked (Alone h) = k.opens.settles.same (Alone h)

    keeps_reached : (kind : Kind) (to : Walk) (w : World) → R w (reached q va kind to w).world
    unfolding reached
    keeps_reached kind (Err cause) w = k.replied _ w
    keeps_reached kind (Ok walked) w = keeps_offer kind walked w

    keeps_reach_by_table : (kind : Kind) (w : World) → R w (reach_by_table q va kind w).world
    unfolding reach_by_table
    keeps_reach_by_table kind w = then_keeps _ _ _ (keeps_led_inside R k.opens va kind w) (keeps_drawn _ _ (keeps_reached kind _ _))

    pub keeps_reached_page : (kind : Kind) (w : World) → R w (ask_reach q va kind w).world
    unfolding ask_reach
    keeps_reached_page kind (Flat ram) = k.opens.settles.same (Flat ram)
    keeps_reached_page kind (Cloaked c) = keeps_reach_by_table kind (Cloaked c)
    keeps_reached_page kind (Alone h) = keeps_next_answer _ _ h

pub offers_of : (R : World → World → Type 0) → Kept R → (q : PageId) (va : ℕ) → Offers R q va
offers_of R k q va = record {
  offered = k.offered q;
  granted = λ kind walked w. k.noted _ w;
  mismatched = k.mismatched q;
}

pub keeps_reach : (R : World → World → Type 0) (k : Kept R) (q : PageId) (va : ℕ) (kind : Kind) (w : World) → R w (ask_reach q va kind w).world
keeps_reach R k q va kind w = keeps_reached_page R (replies_of R k) q va (offers_of R k q va) kind w

pub keeps_write : (R : World → World → Type 0) (k : Kept R) (q : PageId) (at width value : ℕ) (w : World) → R w (ask_write q at width value w).world
unfolding ask_write
keeps_write R k q at width value w = k.with_plain _ _ w

keeps_put_at : (R : World → World → Type 0) (k : Kept R) (pa width value : ℕ) (w : World) → R w (put_at pa width value w).world
unfolding put_at
keeps_put_at R k pa width value w = k.chained _ _ _ (k.stored_at _ _ _ w) (k.chained _ _ _ (k.written _ _) (replied_by R k _ _))

pub keeps_put : (R : World → World → Type 0) (k : Kept R) (va width value : ℕ) (w : World) → R w (ask_put va width value w).world
keeps_put R k va width value w =
    keeps_stored R (replies_of R k) width (λ pa value w. keeps_put_at R k pa width value w) va value w
