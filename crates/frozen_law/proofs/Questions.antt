-- What each change of a world does, each question of a program does, with a count of the pages that are offered: a
-- question for a page offers one at most, and it is one of a kind; no other question offers any.
use Rattle.std.proofs.Common.{true, false, ℕ, Bool, List, Ok, Err, ◌+◌, ◌≤◌, ◌++◌, Some, arith}
use Rattle.std.proofs.lemmas.Bool.{cond_both}
use Rattle.cloak_base.specs.Constants.{frame_of}
use Rattle.cloak_base.specs.declared.causes.Violation.TheVariants as violation
use Rattle.cloak_base.specs.declared.names.Kind.{Kind}
use Rattle.cloak_base.specs.declared.names.PageId.{PageId}
use Rattle.cloak_model.specs.declared.access.Walked.{Walked}
use Rattle.cloak_model.specs.declared.answer.Answer.{Answer}
use Rattle.cloak_model.specs.Items.{Item}
use Rattle.cloak_model.specs.Asking.{Told, Asking}
use Rattle.cloak_model.specs.AskPages.{is_store, replies, if_drawn, ask_led_inside, offered_by, offer_events, ask_offer, reached, reach_by_table, put_at, ask_reach, ask_get, ask_put, ask_clear}
use Rattle.cloak_model.specs.Cloaking.{offer}
use Rattle.cloak_model.specs.Events.{Event}
use Rattle.cloak_model.specs.Walk.{Walk}
use Rattle.cloak_model.specs.World.{World, MidStep, Flat, Cloaked, Alone, noted, stored_at, settled, Handed, written, cipher_items, is_missed}
use Rattle.script_fold.proofs.Questions.{Opens, Replies, opens_by, keeps_led_inside, keeps_next_answer, keeps_get, keeps_stored, keeps_clear}

-- What holds of a world and of that after it, if at most this many pages were offered in between, all of this kind.
pub record Kept (P : PageId → Type 0) (R : ℕ → World → World → Type 0) : Type 0 where
  pub same : (w : World) → R 0 w w
  pub chained : (a b : ℕ) (u v w : World) → R a u v → R b v w → R (a + b) u w
  pub wider : (a b : ℕ) (w v : World) → a ≤ b → R a w v → R b w v
  pub settled : (f : ℕ) (w : World) → R 0 w (settled f w)
  pub stored_at : (pa width value : ℕ) (w : World) → R 0 w (stored_at pa width value w)
  pub noted : (events : List Event) (w : World) → R 0 w (noted events w)
  pub written : (i : Item) (w : World) → R 0 w (written i w)
  pub offered : (q : PageId) → P q → (g : ℕ) (write : Bool) (c : MidStep) →
      let o = offer q g write c.memory in
      R 1 (Cloaked c) (Cloaked (record c {
        memory = o.memory;
        items = c.items ++ cipher_items o.ciphers;
        events = c.events ++ offer_events q g c.memory o.granted;
      }))
  pub mismatched : (q : PageId) (g : ℕ) (c : MidStep) →
      R 0 (Cloaked c) (Cloaked (record c { violation = Some (violation.Page q (record { 0 = g })) }))
  pub told : (h : Handed) (rest : List Answer) → R 0 (Alone h) (Alone (record h { answers = rest }))
  pub unfit : (h : Handed) → R 0 (Alone h) (Alone (record h { unfit = true }))

module _ (P : PageId → Type 0) (R : ℕ → World → World → Type 0) (k : Kept P R) where
  one : (w v : World) → R 0 w v → R 1 w v
  one w v here = k.wider 0 1 w v (omega arith) here

  -- what no offer is made in
  pub none_opens : Opens (R 0)
  none_opens =
      opens_by (R 0)
      (record { same = k.same; chained = λ u v w first second. k.chained 0 0 u v w first second; settled = k.settled })
      k.noted

  replies_keeps : (a : Answer) (w : World) → R 0 w (replies a w).world
  unfolding replies
  replies_keeps a w = k.written _ w

  none_replies : Replies (R 0)
  none_replies = record { opens = none_opens; replied = replies_keeps; told = k.told; unfit = k.unfit }

  address_keeps : (va : ℕ) (kind : Kind) (w : World) → R 0 w (ask_led_inside va kind w).world
  address_keeps va kind w = keeps_led_inside (R 0) none_opens va kind w

  -- pages

  offered_keeps : (q : PageId) (va : ℕ) (kind : Kind) (walked : Walked) (granted : Bool) (w : World) →
      R 0 w (offered_by q va kind walked granted w).world
  unfolding offered_by
  offered_keeps q va kind walked true w = k.chained 0 0 _ _ _ (k.noted _ w) (replies_keeps _ _)
  offered_keeps q va kind walked false (Flat ram) = replies_keeps _ (Flat ram)
  offered_keeps q va kind walked false (Cloaked c) =
      k.chained 0 0 _ (Cloaked _) _ (k.mismatched q (frame_of walked.pa) c) (replies_keeps _ _)
  offered_keeps q va kind walked false (Alone h) = replies_keeps _ (Alone h)

  -- what is asked unless a draw was missing may offer as many
  drawn_keeps : (n : ℕ) (ask : Asking Answer) (w : World) → R n w (ask w).world → R n w (if_drawn ask w).world
  unfolding if_drawn
  drawn_keeps n ask w next =
      cond_both (is_missed w) _ _ (λ (t : Told Answer). R n w t.world)
      (λ missed. k.wider 0 n _ _ (omega arith) (replies_keeps _ w)) (λ drawn. next)

  offer_keeps : (q : PageId) → P q → (va : ℕ) (kind : Kind) (walked : Walked) (w : World) →
      R 1 w (ask_offer q va kind walked w).world
  unfolding ask_offer
  offer_keeps q own va kind walked (Flat ram) = one _ _ (k.same (Flat ram))
  offer_keeps q own va kind walked (Cloaked c) =
      k.chained 1 0 _ (Cloaked _) _ (k.offered q own (frame_of walked.pa) (is_store kind) c)
      (drawn_keeps 0 _ _ (offered_keeps q va kind walked _ _))
  offer_keeps q own va kind walked (Alone h) = one _ _ (k.same (Alone h))

  reached_keeps : (q : PageId) → P q → (va : ℕ) (kind : Kind) (to : Walk) (w : World) →
      R 1 w (reached q va kind to w).world
  unfolding reached
  reached_keeps q own va kind (Err cause) w = one _ _ (replies_keeps _ w)
  reached_keeps q own va kind (Ok walked) w = offer_keeps q own va kind walked w

  table_keeps : (q : PageId) → P q → (va : ℕ) (kind : Kind) (w : World) → R 1 w (reach_by_table q va kind w).world
  unfolding reach_by_table
  table_keeps q own va kind w =
      k.chained 0 1 _ _ _ (address_keeps va kind w) (drawn_keeps 1 _ _ (reached_keeps q own va kind _ _))

  pub reach_keeps : (q : PageId) → P q → (va : ℕ) (kind : Kind) (w : World) → R 1 w (ask_reach q va kind w).world
  unfolding ask_reach
  reach_keeps q own va kind (Flat ram) = one _ _ (k.same (Flat ram))
  reach_keeps q own va kind (Cloaked c) = table_keeps q own va kind (Cloaked c)
  reach_keeps q own va kind (Alone h) = one _ _ (keeps_next_answer (R 0) none_replies _ _ h)

  -- other memory, and resources as wholes

  pub get_keeps : (va width : ℕ) (w : World) → R 0 w (ask_get va width w).world
  get_keeps va width w = keeps_get (R 0) none_replies va width w

  put_at_keeps : (pa width value : ℕ) (w : World) → R 0 w (put_at pa width value w).world
  unfolding put_at
  put_at_keeps pa width value w =
      k.chained 0 0 _ _ _ (k.stored_at _ _ _ w) (k.chained 0 0 _ _ _ (k.written _ _) (replies_keeps _ _))

  pub put_keeps : (va width value : ℕ) (w : World) → R 0 w (ask_put va width value w).world
  put_keeps va width value w =
      keeps_stored (R 0) none_replies width (λ pa value' v. put_at_keeps pa width value' v) va value w

  pub clear_keeps : (domain : ℕ) (marked : List Bool) (w : World) → R 0 w (ask_clear domain marked w).world
  clear_keeps domain marked w = keeps_clear (R 0) none_replies domain marked w
