-- What a question of a load leaves. Before it no context had left, no violation was met and no draw was missing. This
-- holds afterwards if it is granted, and if it is answered with a fault, which is one of its access. Otherwise it is
-- stopped.
use Rattle.std.proofs.Common.{◌≡◌, ◌∙◌, ◌⊎◌, ℕ, ◌+◌, ◌*◌, ◌%◌, ◌^◌, Bool, true, false, cond, List, [], ◌∷◌, ◌++◌, Option, Some, None, Ok, Err, refl, ap, inl, inr}
use Rattle.std.specs.Prelude.{◌&&◌, ◌==◌, not}
use Rattle.std.proofs.lemmas.Bool.{false≢true}
use Rattle.cloak_base.specs.Constants.{frame_of}
use Rattle.cloak_base.specs.declared.causes.Shown.{Shown}
use Rattle.cloak_base.specs.declared.causes.Violation.TheVariants as violation
use Rattle.cloak_base.specs.declared.names.Frame.{Frame}
use Rattle.cloak_base.specs.declared.names.Kind.{Kind}
use Rattle.cloak_base.specs.declared.names.Kind.TheVariants.{Store}
use Rattle.cloak_base.specs.declared.names.PageId.{PageId}
use Rattle.rv_isa.specs.Fields.{bits}
use Rattle.cloak_model.specs.declared.access.Access.{Access}
use Rattle.cloak_model.specs.declared.access.Walked.{Walked}
use Rattle.cloak_model.specs.declared.answer.Answer.{Answer}
use Rattle.cloak_model.specs.declared.answer.Answer.TheVariants as told
use Rattle.cloak_model.specs.Items.{Item}
use Rattle.cloak_model.specs.Items as item
use Rattle.cloak_model.specs.Ask.{ask_word, ask_walk, ask_in_ram, ask_translate, ask_led, opened}
use Rattle.cloak_model.proofs.WalkParts.{ask_second, ask_after, ask_first}
use Rattle.cloak_model.specs.AskPages.{answer_item, inside_access, is_store, offer_events, replies, if_drawn, ask_led_inside, offered_by, ask_offer, reached, reach_by_table, put_at, stored_inside, put_by_table, ask_reach, ask_put}
use Rattle.cloak_model.specs.Asking.{Told, Asking}
use Rattle.cloak_model.specs.Cloaking.{settle, offer}
use Rattle.cloak_model.specs.Events.{Event}
use Rattle.cloak_model.specs.Memory.{is_in_ram}
use Rattle.cloak_model.specs.Walk.{Walk, FirstWord, Ends, GoesOn, access_fault, page_fault, first_entry, has_paging, is_valid, is_pointer, is_plain_pointer, allows, frame_at, first_leaf, second_leaf, first_word, second_word}
use Rattle.cloak_model.specs.World.{World, MidStep, Flat, Cloaked, Alone, noted, stored_at, settled, written, cipher_items, is_missed, items_of, violation_of, regime_of, ram_of}
use Rattle.domain_isolation.proofs.Steady.{is_cloaked}
use Rattle.load_law.specs.Outcomes.{left_by, left_in, IsFaultOf}
use Rattle.cloak_base.proofs.Choices.{either}

-- Leaves among items.

pub left_append : (xs ys : List Item) → left_in ys ≡ [] → left_in (xs ++ ys) ≡ left_in xs
left_append [] ys none = none
left_append (x ∷ xs) ys none = ap (λ (l : List Shown). left_by x ++ l) (left_append xs ys none)

pub none_left : (ciphers : List (ℕ × List ℕ)) → left_in (cipher_items ciphers) ≡ []
none_left [] = refl
none_left (c ∷ ciphers) = none_left ciphers

-- No context left, and no violation was met.
pub record IsQuiet (w : World) : Type 0 where
  pub form : is_cloaked w ≡ true
  pub left : left_in (items_of w) ≡ []
  pub met : violation_of w ≡ None

pub quiet_settled : (f : ℕ) (w : World) → IsQuiet w → IsQuiet (settled f w)
quiet_settled f (Cloaked c) q = record {
  form = refl;
  left = left_append c.items (cipher_items (settle f c.memory).ciphers) (none_left (settle f c.memory).ciphers)
      ∙ q.left;
  met = q.met;
}
quiet_settled f _ q = q

quiet_noted : (events : List Event) (w : World) → IsQuiet w → IsQuiet (noted events w)
quiet_noted events (Cloaked c) q = record { form = refl; left = q.left; met = q.met }
quiet_noted events _ q = q

quiet_stored : (pa width value : ℕ) (w : World) → IsQuiet w → IsQuiet (stored_at pa width value w)
quiet_stored pa width value (Flat seen) q = absurd (false≢true q.form)
quiet_stored pa width value (Cloaked c) q = record { form = refl; left = q.left; met = q.met }
quiet_stored pa width value (Alone h) q = q

quiet_written : (i : Item) (w : World) → left_by i ≡ [] → IsQuiet w → IsQuiet (written i w)
quiet_written i (Cloaked c) none q = record {
  form = refl;
  left = left_append c.items (i ∷ []) (ap (λ (l : List Shown). l ++ []) none) ∙ q.left;
  met = q.met;
}
quiet_written i _ none q = q

quiet_opened : (satp : ℕ) (a : Access) (walked : Walked) (w : World) → IsQuiet w → IsQuiet (opened satp a walked w)
quiet_opened satp a walked w q = quiet_noted _ _ (quiet_settled (frame_of walked.pa) w q)

-- Walks: each fault is one of the access.

abbrev WalkFits : Kind → Walk → Type 0
WalkFits kind (Ok walked) = Unit {0}
WalkFits kind (Err cause) = IsFaultOf kind cause

abbrev EndFits : Kind → FirstWord → Type 0
EndFits kind (Ends walk) = WalkFits kind walk
EndFits kind (GoesOn at0) = Unit {0}

first_leaf_fits : (a : Access) (at1 e : ℕ) → WalkFits a.kind (first_leaf a at1 e)
unfolding first_leaf
first_leaf_fits a at1 e =
    either (WalkFits a.kind) (allows a e && (bits e 19 10 == 0))
    (Ok (record { pa = 4194304 * bits e 31 20 + bits a.va 21 0; pt1 = Some (frame_at at1); pt0 = None }))
    (Err (page_fault a.kind)) tt (inl refl)

second_leaf_fits : (a : Access) (at1 at0 e : ℕ) → WalkFits a.kind (second_leaf a at1 at0 e)
unfolding second_leaf
second_leaf_fits a at1 at0 e =
    either (WalkFits a.kind) (is_valid e && (not (is_pointer e) && allows a e))
    (Ok (record { pa = 4096 * bits e 31 10 + bits a.va 11 0; pt1 = Some (frame_at at1); pt0 = Some (frame_at at0) }))
    (Err (page_fault a.kind)) tt (inl refl)

second_word_fits : (a : Access) (at1 at0 : ℕ) (word : Option ℕ) → WalkFits a.kind (second_word a at1 at0 word)
unfolding second_word
second_word_fits a at1 at0 None = inr refl
second_word_fits a at1 at0 (Some e) = second_leaf_fits a at1 at0 e

first_word_fits : (a : Access) (at1 : ℕ) (word : Option ℕ) → EndFits a.kind (first_word a at1 word)
unfolding first_word
first_word_fits a at1 None = inr refl
first_word_fits a at1 (Some e) =
    either (EndFits a.kind) (not (is_valid e)) _ _ (inl refl)
    (either (EndFits a.kind) (not (is_pointer e)) _ _ (first_leaf_fits a at1 e)
    (either (EndFits a.kind) (is_plain_pointer e) _ _ tt (inl refl)))

-- an answer, and the world after it
record QuietTold {A : Type 0} (P : A → Type 0) (t : Told A) : Type 0 where
  pub answer : P t.answer
  pub world : IsQuiet t.world

either_told : {A : Type 0} (P : A → Type 0) (b : Bool) (m n : Told A) → QuietTold P m → QuietTold P n →
    QuietTold P (cond b m n)
either_told P true m n here there = here
either_told P false m n here there = there

quiet_word : (pa : ℕ) (w : World) → IsQuiet w → IsQuiet (ask_word pa w).world
unfolding ask_word
quiet_word pa w q =
    either (λ (t : Told (Option ℕ)). IsQuiet t.world) (is_in_ram (ram_of w) pa) _ _ (quiet_settled (frame_of pa) w q) q

quiet_second : (a : Access) (at1 at0 : ℕ) (w : World) → IsQuiet w →
    QuietTold (WalkFits a.kind) (ask_second a at1 at0 w)
quiet_second a at1 at0 w q =
    record { answer = second_word_fits a at1 at0 (ask_word at0 w).answer; world = quiet_word at0 w q }

quiet_after : (a : Access) (at1 : ℕ) (word : FirstWord) (w : World) → EndFits a.kind word → IsQuiet w →
    QuietTold (WalkFits a.kind) (ask_after a at1 word w)
quiet_after a at1 (Ends walk) w fits q = record { answer = fits; world = q }
quiet_after a at1 (GoesOn at0) w fits q = quiet_second a at1 at0 w q

quiet_first : (a : Access) (at1 : ℕ) (w : World) → IsQuiet w → QuietTold (WalkFits a.kind) (ask_first a at1 w)
quiet_first a at1 w q =
    let word = ask_word at1 w in
    quiet_after a at1 (first_word a at1 word.answer) word.world (first_word_fits a at1 word.answer) (quiet_word at1 w q)

quiet_walk : (satp : ℕ) (a : Access) (w : World) → IsQuiet w → QuietTold (WalkFits a.kind) (ask_walk satp a w)
unfolding ask_walk
quiet_walk satp a w q =
    either_told (WalkFits a.kind) (has_paging satp) _ _ (quiet_first a (first_entry satp a.va) w q)
    (record { answer = tt; world = q })

quiet_inside : (a : Access) (walk : Walk) (w : World) → WalkFits a.kind walk → IsQuiet w →
    QuietTold (WalkFits a.kind) (ask_in_ram a walk w)
unfolding ask_in_ram
quiet_inside a (Err cause) w fits q = record { answer = fits; world = q }
quiet_inside a (Ok walked) w fits q = record {
  answer = either (WalkFits a.kind) (is_in_ram (ram_of w) walked.pa) (Ok walked) (Err (access_fault a.kind)) tt
      (inr refl);
  world = q;
}

quiet_led : (satp : ℕ) (a : Access) (w : World) → IsQuiet w → QuietTold (WalkFits a.kind) (ask_led satp a w)
unfolding ask_led ask_translate
quiet_led satp a w q =
    let walked = quiet_walk satp a _ (quiet_noted _ w q) in quiet_inside a _ _ walked.answer walked.world

quiet_address : (va : ℕ) (kind : Kind) (w : World) → IsQuiet w →
    QuietTold (WalkFits kind) (ask_led_inside va kind w)
unfolding ask_led_inside
quiet_address va kind w q = quiet_led (regime_of w).satp (inside_access w va kind) w q

-- What a question leaves, by its answer.

-- nothing was met, and no draw is missing
pub record IsFine (w : World) : Type 0 where
  pub quiet : IsQuiet w
  pub drawn : is_missed w ≡ false

-- the page is found in a frame that is not what is recorded of it
pub record IsRefused (page : Option PageId) (w : World) : Type 0 where
  pub found : PageId
  pub frame : Frame
  pub is : page ≡ Some found
  pub left : left_in (items_of w) ≡ []
  pub met : violation_of w ≡ Some (violation.Page found frame)

-- a draw is missing
pub record IsMissing (w : World) : Type 0 where
  pub quiet : IsQuiet w
  pub missed : is_missed w ≡ true

abbrev pub Says : Option PageId → Kind → Answer → World → Type 0
Says page kind told.Ok w = IsFine w
Says page kind (told.Absent cause) w = IsFaultOf kind cause × IsFine w
Says page kind (told.Word value) w = ⊥
Says page kind told.Stopped w = IsRefused page w ⊎ IsMissing w

abbrev pub SaysTold : Option PageId → Kind → Told Answer → Type 0
SaysTold page kind t = Says page kind t.answer t.world

missed_written : (i : Item) (w : World) → is_missed (written i w) ≡ is_missed w
missed_written i (Flat seen) = refl
missed_written i _ = refl

says_missing : (page : Option PageId) (kind : Kind) (w : World) → IsQuiet w → is_missed w ≡ true →
    SaysTold page kind (replies told.Stopped w)
unfolding replies
says_missing page kind w q missed =
    inr (record { quiet = quiet_written _ w refl q; missed = missed_written _ w ∙ missed })

says_fault : (page : Option PageId) (kind : Kind) (cause : ℕ) (w : World) → IsFaultOf kind cause → IsQuiet w →
    is_missed w ≡ false → SaysTold page kind (replies (told.Absent cause) w)
unfolding replies
says_fault page kind cause w fault q drawn =
    (fault, record { quiet = quiet_written _ w refl q; drawn = missed_written _ w ∙ drawn })

-- what is asked next, unless a draw was missing
says_drawn : (page : Option PageId) (kind : Kind) (ask : Asking Answer) (w : World) (missed : Bool) →
    is_missed w ≡ missed → IsQuiet w → (is_missed w ≡ false → SaysTold page kind (ask w)) →
    SaysTold page kind (cond missed (replies told.Stopped w) (ask w))
says_drawn page kind ask w true is q more = says_missing page kind w q is
says_drawn page kind ask w false is q more = more is

-- A page is reached.

offered_says : (q : PageId) (va : ℕ) (kind : Kind) (walked : Walked) (granted : Bool) (c : MidStep) →
    IsQuiet (Cloaked c) → c.memory.ledger.missed ≡ false →
    SaysTold (Some q) kind (offered_by q va kind walked granted (Cloaked c))
unfolding offered_by replies
offered_says q va kind walked true c quiet drawn =
    record { quiet = quiet_written _ _ refl (quiet_noted _ (Cloaked c) quiet); drawn = drawn }
offered_says q va kind walked false c quiet drawn =
    inl (record {
      found = q;
      frame = frame_at walked.pa;
      is = refl;
      left = left_append c.items (item.Stopped c.regime.domain ∷ []) refl ∙ quiet.left;
      met = refl;
    })

reached_says : (q : PageId) (va : ℕ) (kind : Kind) (to : Walk) (w : World) → WalkFits kind to → IsQuiet w →
    is_missed w ≡ false → SaysTold (Some q) kind (reached q va kind to w)
unfolding reached ask_offer if_drawn
reached_says q va kind (Err cause) w fits quiet drawn = says_fault (Some q) kind cause w fits quiet drawn
reached_says q va kind (Ok walked) (Flat seen) fits quiet drawn = absurd (false≢true quiet.form)
reached_says q va kind (Ok walked) (Cloaked c) fits quiet drawn =
    let g = frame_of walked.pa in
    let o = offer q g (is_store kind) c.memory in
    let c' : MidStep = record c {
      memory = o.memory;
      items = c.items ++ cipher_items o.ciphers;
      events = c.events ++ offer_events q g c.memory o.granted;
    } in
    let there : IsQuiet (Cloaked c') = record {
      form = refl;
      left = left_append c.items (cipher_items o.ciphers) (none_left o.ciphers) ∙ quiet.left;
      met = quiet.met;
    } in
    says_drawn (Some q) kind (offered_by q va kind walked o.granted) (Cloaked c') _ refl there
    (λ drawn'. offered_says q va kind walked o.granted c' there drawn')
reached_says q va kind (Ok walked) (Alone h) fits quiet drawn = absurd (false≢true quiet.form)

table_says : (q : PageId) (va : ℕ) (kind : Kind) (w : World) → IsQuiet w →
    SaysTold (Some q) kind (reach_by_table q va kind w)
unfolding reach_by_table if_drawn
table_says q va kind w quiet =
    let to = ask_led_inside va kind w in
    let led = quiet_address va kind w quiet in
    says_drawn (Some q) kind (reached q va kind to.answer) to.world _ refl led.world
    (λ drawn. reached_says q va kind to.answer to.world led.answer led.world drawn)

pub reach_says : (q : PageId) (va : ℕ) (kind : Kind) (w : World) → IsQuiet w →
    SaysTold (Some q) kind (ask_reach q va kind w)
unfolding ask_reach
reach_says q va kind (Cloaked c) quiet = table_says q va kind (Cloaked c) quiet
reach_says q va kind _ quiet = absurd (false≢true quiet.form)

-- A byte is put in memory that the kernel sees.

missed_stored : (pa width value : ℕ) (w : World) → is_missed (stored_at pa width value w) ≡ is_missed w
missed_stored pa width value (Flat seen) = refl
missed_stored pa width value _ = refl

put_at_says : (pa width value : ℕ) (w : World) → IsQuiet w → is_missed w ≡ false →
    SaysTold None Store (put_at pa width value w)
unfolding put_at replies
put_at_says pa width value w quiet drawn =
    let put : Item = item.Put pa width (value % 2 ^ (8 * width)) in
    let there : World = written put (stored_at pa width value w) in
    record {
      quiet = quiet_written _ there refl (quiet_written put _ refl (quiet_stored pa width value w quiet));
      drawn = missed_written (answer_item (regime_of there).domain told.Ok) there
          ∙ (missed_written put (stored_at pa width value w) ∙ (missed_stored pa width value w ∙ drawn));
    }

stored_says : (va width value : ℕ) (to : Walk) (w : World) → WalkFits Store to → IsQuiet w →
    is_missed w ≡ false → SaysTold None Store (stored_inside va width value to w)
unfolding stored_inside if_drawn
stored_says va width value (Err cause) w fits quiet drawn = says_fault None Store cause w fits quiet drawn
stored_says va width value (Ok walked) w fits quiet drawn =
    let there = quiet_opened (regime_of w).satp (inside_access w va Store) walked w quiet in
    says_drawn None Store (put_at walked.pa width value)
    (opened (regime_of w).satp (inside_access w va Store) walked w) _ refl
    there (λ drawn'. put_at_says walked.pa width value _ there drawn')

put_table_says : (va width value : ℕ) (w : World) → IsQuiet w → SaysTold None Store (put_by_table va width value w)
unfolding put_by_table if_drawn
put_table_says va width value w quiet =
    let to = ask_led_inside va Store w in
    let led = quiet_address va Store w quiet in
    says_drawn None Store (stored_inside va width value to.answer) to.world _ refl led.world
    (λ drawn. stored_says va width value to.answer to.world led.answer led.world drawn)

pub put_says : (va width value : ℕ) (w : World) → IsQuiet w → SaysTold None Store (ask_put va width value w)
unfolding ask_put
put_says va width value (Cloaked c) quiet = put_table_says va width value (Cloaked c) quiet
put_says va width value _ quiet = absurd (false≢true quiet.form)
