-- How often questions ask where an access leads: once, or not at all.
use Rattle.std.proofs.Common.{◌≤◌, ℕ, zero, suc, ◌+◌, Bool, true, false, cond, List, [], ◌∷◌, ◌++◌, length, Option, Some, None, Ok, Err, arith}
use Rattle.cloak_base.specs.Constants.{frame_of}
use Rattle.cloak_base.specs.declared.names.Kind.{Kind}
use Rattle.cloak_base.specs.declared.names.Kind.TheVariants.{Load, Store}
use Rattle.cloak_base.specs.declared.names.PageId.{PageId}
use Rattle.cloak_model.specs.declared.access.Access.{Access}
use Rattle.cloak_model.specs.declared.access.Walked.{Walked}
use Rattle.cloak_model.specs.declared.answer.Answer.{Answer}
use Rattle.cloak_model.specs.declared.answer.Answer.TheVariants as told
use Rattle.cloak_model.specs.Items.{Item}
use Rattle.rv_atomic.specs.declared.atomic.AtomicOp.{AtomicOp}
use Rattle.cloak_model.specs.Ask.{ask_word, ask_walk, ask_in_ram, ask_translate, ask_led, opened, ask_value, ask_store, loaded_at, ask_load, stored_to, ask_store_at, ask_frame, ask_fill, ask_mark, ask_unmark, ask_marked, stored_if, reserved_at, ask_reserve, conditional_at, ask_store_conditional, combined_at, ask_combine}
use Rattle.cloak_model.proofs.WalkParts.{ask_second, ask_after, ask_first}
use Rattle.cloak_model.specs.AskPages.{answer_item, replies, if_drawn, is_store, offer_events, inside_access, ask_led_inside, offered_by, ask_offer, reached, reach_by_table, get_at, got, get_by_table, put_at, stored_inside, put_by_table, settled_if_marked, clear_from, next_answer, ask_reach, ask_write, ask_get, ask_put, ask_clear, ask_copy, ask_forget}
use Rattle.cloak_model.specs.Asking.{Told, Asking}
use Rattle.cloak_model.specs.Cloaking.{CloakedMemory, settle, offer}
use Rattle.cloak_model.specs.Events.{Event, Look, Touch, Born, Read, Write, Drop}
use Rattle.cloak_model.specs.Events.{Offer as offers}
use Rattle.cloak_model.specs.Fork.{copy_each, forget_each}
use Rattle.cloak_model.specs.Walk.{Walk, FirstWord, Ends, GoesOn, first_entry}
use Rattle.cloak_model.specs.World.{World, Handed, Flat, Cloaked, Alone, regime_of, events_of, noted, settled, stored_at, filled_frame, written, with_plain, with_marks, cipher_items}
use Rattle.cloak_model.specs.Script.{played}
use Rattle.script_fold.proofs.Endings.{keeps_forgets}
use Rattle.shadow_fold.specs.Reads.{looks_in}
use Rattle.shadow_fold.proofs.Looks.{looks_then}

-- From one world to the other there were at most n looks.
pub record Looks (n : ℕ) (w v : World) : Type 0 where
  pub few : looks_in (events_of v) ≤ looks_in (events_of w) + n

pub still : (w : World) → Looks 0 w w
still w = record { few = omega arith }

pub none : {n : ℕ} (w : World) → Looks n w w
none w = record { few = omega arith }

pub at_most_one : (w v : World) → Looks 0 w v → Looks 1 w v
at_most_one w v p = record { few = (let few = p.few in omega (arith, few)) }

-- one after the other
pub then_one : (u v w : World) → Looks 1 u v → Looks 1 v w → Looks 2 u w
then_one u v w p q = record { few = (let one = p.few in let two = q.few in omega (arith, one, two)) }

-- none, and then some; some, and then none
pub still_then : {n : ℕ} (u v w : World) → Looks 0 u v → Looks n v w → Looks n u w
still_then u v w p q = record { few = (let one = p.few in let two = q.few in omega (arith, one, two)) }

pub then_still : {n : ℕ} (u v w : World) → Looks n u v → Looks 0 v w → Looks n u w
then_still u v w p q = record { few = (let one = p.few in let two = q.few in omega (arith, one, two)) }

pub either : {A : Type 0} {n : ℕ} (b : Bool) (m o : Told A) (w : World) → Looks n w m.world → Looks n w o.world →
    Looks n w (cond b m o).world
either true m o w p q = p
either false m o w p q = q

few_then : (n : ℕ) (es fs : List Event) → looks_in fs ≤ n → looks_in (es ++ fs) ≤ looks_in es + n
few_then n es fs few = let both = looks_then es fs in omega (arith, both, few)

-- Memory.

pub events_noted : (n : ℕ) (events : List Event) (w : World) → looks_in events ≤ n → Looks n w (noted events w)
events_noted n events (Cloaked c) few = record { few = few_then n c.events events few }
events_noted n events _ few = record { few = omega arith }

pub still_settled : (f : ℕ) (w : World) → Looks 0 w (settled f w)
still_settled f (Cloaked c) = record { few = few_then 0 c.events (Touch f ∷ []) (omega arith) }
still_settled f _ = record { few = omega arith }

pub still_stored : (pa width value : ℕ) (w : World) → Looks 0 w (stored_at pa width value w)
still_stored pa width value (Cloaked c) = record { few = few_then 0 c.events (Write (frame_of pa) ∷ []) (omega arith) }
still_stored pa width value _ = record { few = omega arith }

pub still_filled : (f : ℕ) (bytes : List ℕ) (w : World) → Looks 0 w (filled_frame f bytes w)
still_filled f bytes (Cloaked c) = record { few = few_then 0 c.events (Write f ∷ []) (omega arith) }
still_filled f bytes _ = record { few = omega arith }

pub still_written : (i : Item) (w : World) → Looks 0 w (written i w)
still_written i (Flat ram) = record { few = omega arith }
still_written i _ = record { few = omega arith }

pub still_plain : (domain : ℕ) (plain : PageId → List ℕ) (w : World) → Looks 0 w (with_plain domain plain w)
still_plain domain plain (Flat ram) = record { few = omega arith }
still_plain domain plain _ = record { few = omega arith }

pub still_marks : (marks : List (Option ℕ)) (w : World) → Looks 0 w (with_marks marks w)
still_marks marks (Flat seen) = record { few = omega arith }
still_marks marks _ = record { few = omega arith }

pub still_opened : (satp : ℕ) (a : Access) (walked : Walked) (w : World) → Looks 0 w (opened satp a walked w)
still_opened satp a walked w =
    still_then w _ _ (still_settled (frame_of walked.pa) w) (events_noted 0 (Born satp a walked None ∷ []) _ (omega arith))

-- The walk.

pub still_word : (pa : ℕ) (w : World) → Looks 0 w (ask_word pa w).world
unfolding ask_word
still_word pa w = either _ _ _ w (still_settled (frame_of pa) w) (still w)

pub still_second : (a : Access) (at1 at0 : ℕ) (w : World) → Looks 0 w (ask_second a at1 at0 w).world
still_second a at1 at0 w = still_word at0 w

pub still_after : (a : Access) (at1 : ℕ) (word : FirstWord) (w : World) → Looks 0 w (ask_after a at1 word w).world
still_after a at1 (Ends walk) w = still w
still_after a at1 (GoesOn at0) w = still_second a at1 at0 w

pub still_first : (a : Access) (at1 : ℕ) (w : World) → Looks 0 w (ask_first a at1 w).world
still_first a at1 w = still_then _ _ _ (still_word at1 w) (still_after a at1 _ _)

pub still_walk : (satp : ℕ) (a : Access) (w : World) → Looks 0 w (ask_walk satp a w).world
unfolding ask_walk
still_walk satp a w = either _ _ _ w (still_first a (first_entry satp a.va) w) (still w)

pub still_inside : (a : Access) (walk : Walk) (w : World) → Looks 0 w (ask_in_ram a walk w).world
unfolding ask_in_ram
still_inside a (Err cause) w = still w
still_inside a (Ok walked) w = still w

pub one_led : (satp : ℕ) (a : Access) (w : World) → Looks 1 w (ask_led satp a w).world
unfolding ask_led ask_translate
one_led satp a w =
    then_still _ _ _ (events_noted 1 (Look satp a ∷ []) w (omega arith))
    (still_then _ _ _ (still_walk satp a _) (still_inside a _ _))

pub one_address : (va : ℕ) (kind : Kind) (w : World) → Looks 1 w (ask_led_inside va kind w).world
unfolding ask_led_inside
one_address va kind w = one_led (regime_of w).satp (inside_access w va kind) w

-- Answers.

pub still_replies : (a : Answer) (w : World) → Looks 0 w (replies a w).world
unfolding replies
still_replies a w = still_written (answer_item (regime_of w).domain a) w

pub still_drawn : (ask : Asking Answer) (w : World) → Looks 0 w (ask w).world → Looks 0 w (if_drawn ask w).world
unfolding if_drawn
still_drawn ask w next = either _ _ _ w (still_replies told.Stopped w) next

pub still_get_at : (pa width : ℕ) (w : World) → Looks 0 w (get_at pa width w).world
unfolding get_at
still_get_at pa width w =
    still_then _ _ _ (events_noted 0 (Read (frame_of pa) ∷ []) w (omega arith)) (still_replies _ _)

pub still_got : (va width : ℕ) (to : Walk) (w : World) → Looks 0 w (got va width to w).world
unfolding got
still_got va width (Err cause) w = still_replies _ w
still_got va width (Ok walked) w =
    still_then _ _ _ (still_opened (regime_of w).satp (inside_access w va Load) walked w)
    (still_drawn (get_at walked.pa width) _ (still_get_at walked.pa width _))

pub one_get : (va width : ℕ) (w : World) → Looks 1 w (get_by_table va width w).world
unfolding get_by_table
one_get va width w = then_still _ _ _ (one_address va Load w) (still_drawn _ _ (still_got va width _ _))

pub still_put_at : (pa width value : ℕ) (w : World) → Looks 0 w (put_at pa width value w).world
unfolding put_at
still_put_at pa width value w =
    still_then _ _ _ (still_stored pa width value w) (still_then _ _ _ (still_written _ _) (still_replies told.Ok _))

pub still_stored_inside : (va width value : ℕ) (to : Walk) (w : World) →
    Looks 0 w (stored_inside va width value to w).world
unfolding stored_inside
still_stored_inside va width value (Err cause) w = still_replies _ w
still_stored_inside va width value (Ok walked) w =
    still_then _ _ _ (still_opened (regime_of w).satp (inside_access w va Store) walked w)
    (still_drawn (put_at walked.pa width value) _ (still_put_at walked.pa width value _))

pub one_put : (va width value : ℕ) (w : World) → Looks 1 w (put_by_table va width value w).world
unfolding put_by_table
one_put va width value w =
    then_still _ _ _ (one_address va Store w) (still_drawn _ _ (still_stored_inside va width value _ _))

either_world : (b : Bool) (w v : World) → Looks 0 w v → Looks 0 w (cond b v w)
either_world true w v later = later
either_world false w v later = still w

pub still_if_marked : (domain : ℕ) (marked : List Bool) (f : ℕ) (w : World) →
    Looks 0 w (settled_if_marked domain marked f w)
unfolding settled_if_marked
still_if_marked domain marked f w = either_world _ w (settled f w) (still_settled f w)

pub still_clear_from : (domain : ℕ) (marked : List Bool) (f n : ℕ) (w : World) →
    Looks 0 w (clear_from domain marked f n w).world
unfolding clear_from
still_clear_from domain marked f zero w = still_replies told.Ok w
still_clear_from domain marked f (suc n) w =
    still_then _ _ _ (still_if_marked domain marked f w)
    (still_drawn (clear_from domain marked (f + 1) n) _ (still_clear_from domain marked (f + 1) n _))

-- A page is reached.

refused_quiet : (missed : Bool) (q : PageId) (g : ℕ) → looks_in (cond missed (Touch g) (offers q g false) ∷ []) ≤ 0
refused_quiet true q g = omega arith
refused_quiet false q g = omega arith

offer_quiet : (q : PageId) (g : ℕ) (m : CloakedMemory) (granted : Bool) → looks_in (offer_events q g m granted) ≤ 0
offer_quiet q g m true = omega arith
offer_quiet q g m false = refused_quiet (settle g m).missed q g

pub still_offered : (q : PageId) (va : ℕ) (kind : Kind) (walked : Walked) (granted : Bool) (w : World) →
    Looks 0 w (offered_by q va kind walked granted w).world
unfolding offered_by
still_offered q va kind walked true w =
    still_then _ _ _ (events_noted 0 (Born _ _ walked (Some q) ∷ []) w (omega arith)) (still_replies told.Ok _)
still_offered q va kind walked false (Flat ram) = still_replies told.Stopped (Flat ram)
still_offered q va kind walked false (Cloaked c) =
    still_then _ (Cloaked _) _ (record { few = omega arith }) (still_replies told.Stopped _)
still_offered q va kind walked false (Alone h) = still_replies told.Stopped (Alone h)

pub still_offer : (q : PageId) (va : ℕ) (kind : Kind) (walked : Walked) (w : World) →
    Looks 0 w (ask_offer q va kind walked w).world
unfolding ask_offer
still_offer q va kind walked (Flat ram) = still (Flat ram)
still_offer q va kind walked (Cloaked c) =
    let g = frame_of walked.pa in
    let o = offer q g (is_store kind) c.memory in
    still_then (Cloaked c)
    (Cloaked
    (record c {
      memory = o.memory;
      items = c.items ++ cipher_items o.ciphers;
      events = c.events ++ offer_events q g c.memory o.granted;
    })) _
    (record { few = few_then 0 c.events _ (offer_quiet q g c.memory o.granted) })
    (still_drawn (offered_by q va kind walked o.granted) _ (still_offered q va kind walked o.granted _))
still_offer q va kind walked (Alone h) = still (Alone h)

pub still_reached : (q : PageId) (va : ℕ) (kind : Kind) (to : Walk) (w : World) →
    Looks 0 w (reached q va kind to w).world
unfolding reached
still_reached q va kind (Err cause) w = still_replies _ w
still_reached q va kind (Ok walked) w = still_offer q va kind walked w

pub one_reach : (q : PageId) (va : ℕ) (kind : Kind) (w : World) → Looks 1 w (reach_by_table q va kind w).world
unfolding reach_by_table
one_reach q va kind w = then_still _ _ _ (one_address va kind w) (still_drawn _ _ (still_reached q va kind _ _))

-- an answer that was handed in
pub still_next : (is_fit : Answer → Bool) (answers : List Answer) (h : Handed) →
    Looks 0 (Alone h) (next_answer is_fit answers h).world
unfolding next_answer
still_next is_fit [] h = record { few = omega arith }
still_next is_fit (a ∷ rest) h =
    either (is_fit a) _ _ (Alone h) (record { few = omega arith }) (record { few = omega arith })

-- The questions.

pub asks_reach : (q : PageId) (va : ℕ) (kind : Kind) (w : World) → Looks 1 w (ask_reach q va kind w).world
unfolding ask_reach
asks_reach q va kind (Flat ram) = none (Flat ram)
asks_reach q va kind (Cloaked c) = one_reach q va kind (Cloaked c)
asks_reach q va kind (Alone h) = at_most_one _ _ (still_next _ h.answers h)

pub asks_write : (q : PageId) (at width value : ℕ) (w : World) → Looks 0 w (ask_write q at width value w).world
unfolding ask_write
asks_write q at width value w = still_plain _ _ w

pub asks_get : (va width : ℕ) (w : World) → Looks 1 w (ask_get va width w).world
unfolding ask_get
asks_get va width (Flat ram) = none (Flat ram)
asks_get va width (Cloaked c) = one_get va width (Cloaked c)
asks_get va width (Alone h) = at_most_one _ _ (still_next _ h.answers h)

pub asks_put : (va width value : ℕ) (w : World) → Looks 1 w (ask_put va width value w).world
unfolding ask_put
asks_put va width value (Flat ram) = none (Flat ram)
asks_put va width value (Cloaked c) = one_put va width value (Cloaked c)
asks_put va width value (Alone h) = at_most_one _ _ (still_next _ h.answers h)

pub asks_clear : (domain : ℕ) (marked : List Bool) (w : World) → Looks 0 w (ask_clear domain marked w).world
unfolding ask_clear
asks_clear domain marked (Flat ram) = still (Flat ram)
asks_clear domain marked (Cloaked c) = still_clear_from domain marked 0 (length c.memory.ram) (Cloaked c)
asks_clear domain marked (Alone h) = still_next _ h.answers h

pub still_copy : (domain from to : ℕ) (w : World) → Looks 0 w (ask_copy domain from to w).world
unfolding ask_copy
still_copy domain from to (Flat ram) = still (Flat ram)
still_copy domain from to _ = record { few = omega arith }

pub still_forget : (domain resource : ℕ) (w : World) → Looks 0 w (ask_forget domain resource w).world
unfolding ask_forget
still_forget domain resource (Flat ram) = still (Flat ram)
still_forget domain resource (Cloaked c) = record { few = few_then 0 c.events (Drop domain resource ∷ []) (omega arith) }
still_forget domain resource (Alone h) = record { few = omega arith }

pub asks_copies : (domain : ℕ) (list : List (ℕ × ℕ)) (w : World) → Looks 0 w (played (copy_each domain list) w).world
unfolding copy_each
asks_copies domain [] w = still w
asks_copies domain (copy ∷ rest) w =
    still_then _ _ _ (still_copy domain copy.0 copy.1 w) (asks_copies domain rest _)

pub asks_forgets : (domain : ℕ) (list : List ℕ) (w : World) → Looks 0 w (played (forget_each domain list) w).world
asks_forgets domain list w = keeps_forgets (Looks 0) still still_then still_forget domain list w

-- Those of a hart outside.

pub still_value : (satp : ℕ) (a : Access) (walked : Walked) (width : ℕ) (w : World) →
    Looks 0 w (ask_value satp a walked width w).world
unfolding ask_value
still_value satp a walked width w =
    still_then _ _ _ (still_opened satp a walked w) (events_noted 0 (Read (frame_of walked.pa) ∷ []) _ (omega arith))

pub still_store : (satp : ℕ) (a : Access) (walked : Walked) (width value : ℕ) (w : World) →
    Looks 0 w (ask_store satp a walked width value w).world
unfolding ask_store
still_store satp a walked width value w =
    still_then _ _ _ (still_opened satp a walked w) (still_stored walked.pa width value _)

pub still_loaded : (satp : ℕ) (a : Access) (width : ℕ) (to : Walk) (w : World) →
    Looks 0 w (loaded_at satp a width to w).world
unfolding loaded_at
still_loaded satp a width (Err cause) w = still w
still_loaded satp a width (Ok walked) w = still_value satp a walked width w

pub still_stored_to : (satp : ℕ) (a : Access) (width value : ℕ) (to : Walk) (w : World) →
    Looks 0 w (stored_to satp a width value to w).world
unfolding stored_to
still_stored_to satp a width value (Err cause) w = still w
still_stored_to satp a width value (Ok walked) w = still_store satp a walked width value w

pub asks_load : (satp : ℕ) (a : Access) (width : ℕ) (w : World) → Looks 1 w (ask_load satp a width w).world
unfolding ask_load
asks_load satp a width w = then_still _ _ _ (one_led satp a w) (still_loaded satp a width _ _)

pub asks_store : (satp : ℕ) (a : Access) (width value : ℕ) (w : World) →
    Looks 1 w (ask_store_at satp a width value w).world
unfolding ask_store_at
asks_store satp a width value w = then_still _ _ _ (one_led satp a w) (still_stored_to satp a width value _ _)

pub asks_frame : (f : ℕ) (w : World) → Looks 0 w (ask_frame f w).world
unfolding ask_frame
asks_frame f w = still_then _ _ _ (still_settled f w) (events_noted 0 (Read f ∷ []) _ (omega arith))

pub asks_fill : (f : ℕ) (bytes : List ℕ) (w : World) → Looks 0 w (ask_fill f bytes w).world
unfolding ask_fill
asks_fill f bytes w = still_then _ _ _ (still_settled f w) (still_filled f bytes _)

-- Atomic instructions.

pub asks_mark : (hart pa : ℕ) (w : World) → Looks 0 w (ask_mark hart pa w).world
unfolding ask_mark
asks_mark hart pa w = still_marks _ w

pub asks_unmark : (hart : ℕ) (w : World) → Looks 0 w (ask_unmark hart w).world
unfolding ask_unmark
asks_unmark hart w = still_marks _ w

pub still_reserved : (satp : ℕ) (a : Access) (hart : ℕ) (to : Walk) (w : World) →
    Looks 0 w (reserved_at satp a hart to w).world
unfolding reserved_at
still_reserved satp a hart (Err cause) w = still w
still_reserved satp a hart (Ok walked) w =
    still_then _ _ _ (still_value satp a walked 4 w) (asks_mark hart walked.pa _)

pub asks_reserve : (satp : ℕ) (a : Access) (hart : ℕ) (w : World) → Looks 1 w (ask_reserve satp a hart w).world
unfolding ask_reserve
asks_reserve satp a hart w = then_still _ _ _ (one_led satp a w) (still_reserved satp a hart _ _)

pub still_stored_if : (is_reserved : Bool) (hart pa value : ℕ) (w : World) →
    Looks 0 w (stored_if is_reserved hart pa value w).world
unfolding stored_if
still_stored_if true hart pa value w = still_then _ _ _ (still_stored pa 4 value w) (asks_unmark hart _)
still_stored_if false hart pa value w = asks_unmark hart w

pub still_conditional : (satp : ℕ) (a : Access) (hart value : ℕ) (to : Walk) (w : World) →
    Looks 0 w (conditional_at satp a hart value to w).world
unfolding conditional_at ask_marked
still_conditional satp a hart value (Err cause) w = still w
still_conditional satp a hart value (Ok walked) w =
    still_then _ _ _ (still_value satp a walked 4 w) (still_stored_if _ hart walked.pa value _)

pub asks_store_conditional : (satp : ℕ) (a : Access) (hart value : ℕ) (w : World) →
    Looks 1 w (ask_store_conditional satp a hart value w).world
unfolding ask_store_conditional
asks_store_conditional satp a hart value w =
    then_still _ _ _ (one_led satp a w) (still_conditional satp a hart value _ _)

pub still_combined : (satp : ℕ) (a : Access) (op : AtomicOp) (operand : ℕ) (to : Walk) (w : World) →
    Looks 0 w (combined_at satp a op operand to w).world
unfolding combined_at
still_combined satp a op operand (Err cause) w = still w
still_combined satp a op operand (Ok walked) w =
    still_then _ _ _ (still_value satp a walked 4 w) (still_stored walked.pa 4 _ _)

pub asks_combine : (satp : ℕ) (a : Access) (op : AtomicOp) (operand : ℕ) (w : World) →
    Looks 1 w (ask_combine satp a op operand w).world
unfolding ask_combine
asks_combine satp a op operand w = then_still _ _ _ (one_led satp a w) (still_combined satp a op operand _ _)
