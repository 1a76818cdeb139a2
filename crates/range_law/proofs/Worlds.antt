-- The questions of a step: the world stays such that what is written fits, and so do the answers.
use Rattle.std.proofs.Common.{◌≡◌, ◌∙◌, inl, inr, ℕ, zero, suc, ◌+◌, ◌-◌, ◌*◌, ◌/◌, ◌%◌, ◌^◌, ◌<◌, nat_le, nat_lt, Bool, true, false, cond, not, ◌&&◌, List, [], ◌∷◌, length, slice_index_or, Option, Some, None, Result, Ok, Err, sym, subst, arith}
use Rattle.std.specs.Prelude.{◌==◌}
use Rattle.std.specs.List.{AllByRecursion}
use Rattle.std.proofs.lemmas.Bool.{cond_both, ltb-true, and_parts}
use Rattle.std.proofs.lemmas.List.{length-set}
use Rattle.rv_isa.specs.Fields.{bits}
use Rattle.rv_atomic.specs.Combine.{combined}
use Rattle.rv_atomic.specs.declared.atomic.AtomicOp.{AtomicOp}
use Rattle.cloak_base.specs.declared.names.Kind.{Kind}
use Rattle.cloak_base.specs.declared.names.Kind.TheVariants.{Fetch, Load, Store}
use Rattle.cloak_base.specs.declared.names.PageId.{PageId}
use Rattle.cloak_base.specs.Pages.{same_page, is_of, page_in}
use Rattle.cloak_model.specs.declared.access.Access.{Access}
use Rattle.cloak_model.specs.declared.access.Walked.{Walked}
use Rattle.cloak_model.specs.declared.answer.Answer.{Answer}
use Rattle.cloak_model.specs.declared.answer.Answer.TheVariants as answer
use Rattle.cloak_model.specs.Items.{Item}
use Rattle.cloak_model.specs.Ask.{ask_word, ask_walk, ask_in_ram, ask_translate, ask_led, opened, ask_count, ask_value, ask_store, loaded_at, ask_load, stored_to, ask_store_at, ask_mark, ask_unmark, ask_marked, reserved_at, ask_reserve, is_reserved, stored_value, stored_if, conditional_at, ask_store_conditional, combined_at, ask_combine, ask_frame, ask_fill}
use Rattle.cloak_model.proofs.WalkParts.{ask_second, ask_after, ask_first}
use Rattle.cloak_model.specs.AskPages.{answer_item, replies, if_drawn, inside_access, ask_led_inside, is_store, offered_by, ask_offer, reached, reach_by_table, get_at, got, get_by_table, put_at, stored_inside, put_by_table, settled_if_marked, clear_from, ask_reach, ask_read, ask_write, ask_get, ask_put, ask_clear, ask_copy, ask_forget}
use Rattle.cloak_model.specs.Asking.{Told, Asking, answered, then_ask}
use Rattle.cloak_model.specs.Cloaking.{offer, seen_in, with_seen}
use Rattle.cloak_model.specs.Effect.{IsWidth}
use Rattle.cloak_model.specs.Events.{Event}
use Rattle.cloak_base.specs.Constants.{frame_of, place_of}
use Rattle.cloak_model.specs.Memory.{Seen, is_in_ram, with_value_at, value_at, stored, filled}
use Rattle.cloak_model.specs.PageMoves.{copy_pages, drop_pages}
use Rattle.cloak_model.specs.Record.{IsItem, IsWord}
use Rattle.cloak_model.specs.Walk.{Walk, FirstWord, Ends, GoesOn, access_fault, page_fault, first_entry, has_paging, is_valid, is_pointer, is_plain_pointer, allows, frame_at, first_leaf, second_leaf, first_word, second_word}
use Rattle.cloak_model.specs.World.{World, MidStep, Flat, Cloaked, Alone, ram_of, settled, settled_in, with_marks, stored_at, filled_frame, written, noted, regime_of, plain_of, is_missed}
use Rattle.range_law.specs.Writing.{AreBytes}
use Rattle.range_law.proofs.Bounds.{all_or, zero_bytes, value_in_below, bytes_with_value}
use Rattle.range_law.proofs.Memories.{FramesFit, MemoryFits, frame_set, settle_fits, offer_fits}
use Rattle.cloak_base.proofs.Choices.{either}
use Rattle.cloak_base.proofs.Lists.{each_append}

-- The world of a step: its bytes are bytes, and what was written fits. A program alone is none.

pub record CloakFits (c : MidStep) : Type 0 where
  pub memory : MemoryFits c.memory
  pub items : AllByRecursion IsItem c.items

abbrev pub WorldFits : World → Type 0
WorldFits (Flat seen) = FramesFit seen.ram
WorldFits (Cloaked c) = CloakFits c
WorldFits (Alone h) = ⊥

pub record ToldFits {A : Type 0} (P : A → Type 0) (told : Told A) : Type 0 where
  pub answer : P told.answer
  pub world : WorldFits told.world

pub then_fits : {A B : Type 0} (P : A → Type 0) (Q : B → Type 0) (ask : Asking A) (next : A → Asking B) (w : World) →
    ToldFits P (ask w) → ((a : A) (v : World) → P a → WorldFits v → ToldFits Q (next a v)) →
    ToldFits Q (then_ask ask next w)
then_fits P Q ask next w told more = more (ask w).answer (ask w).world told.answer told.world

pub either_told : {A : Type 0} (P : A → Type 0) (b : Bool) (x y : Told A) → ToldFits P x → ToldFits P y →
    ToldFits P (cond b x y)
either_told P true x y here there = here
either_told P false x y here there = there

pub frames_of : (w : World) → WorldFits w → FramesFit (ram_of w)
frames_of (Flat ram) fits = fits
frames_of (Cloaked c) fits = fits.memory.ram
frames_of (Alone h) fits = absurd fits

pub settled_cloak : (f : ℕ) (c : MidStep) → CloakFits c → CloakFits (settled_in f c)
settled_cloak f c fits =
    let shows = settle_fits f c.memory fits.memory in
    record { memory = shows.memory; items = each_append IsItem c.items _ fits.items shows.items }

pub settled_fits : (f : ℕ) (w : World) → WorldFits w → WorldFits (settled f w)
settled_fits f (Flat ram) fits = fits
settled_fits f (Cloaked c) fits = settled_cloak f c fits
settled_fits f (Alone h) fits = absurd fits

with_ram : (c : MidStep) (seen : Seen) (events : List Event) → length seen.ram ≡ length c.memory.ram → CloakFits c →
    FramesFit seen.ram → CloakFits (record c { memory = with_seen seen c.memory; events = events })
with_ram c seen events same fits here = record {
  memory = record {
    ram = here;
    plain = fits.memory.plain;
    keys = fits.memory.keys;
    stream = fits.memory.stream;
    places = fits.memory.places ∙ sym same;
  };
  items = fits.items;
}

frame_bytes : (ram : List (List ℕ)) (f : ℕ) → FramesFit ram → AreBytes (slice_index_or ram f [])
frame_bytes ram f fits = all_or AreBytes ram f [] fits.bytes tt

stored_frames : (pa width value : ℕ) (ram : List (List ℕ)) → FramesFit ram → FramesFit (with_value_at pa width value ram)
stored_frames pa width value ram fits =
    frame_set ram (frame_of pa) _ fits (bytes_with_value _ (place_of pa) width value (frame_bytes ram (frame_of pa) fits))

stored_fits : (pa width value : ℕ) (w : World) → WorldFits w → WorldFits (stored_at pa width value w)
stored_fits pa width value (Flat seen) fits = stored_frames pa width value seen.ram fits
stored_fits pa width value (Cloaked c) fits =
    with_ram c (stored pa width value (seen_in c.memory)) _ (length-set c.memory.ram _ _) fits
    (stored_frames pa width value c.memory.ram fits.memory.ram)
stored_fits pa width value (Alone h) fits = absurd fits

filled_fits : (f : ℕ) (bytes : List ℕ) (w : World) → WorldFits w → AreBytes bytes → WorldFits (filled_frame f bytes w)
filled_fits f bytes (Flat seen) fits here = frame_set seen.ram f bytes fits here
filled_fits f bytes (Cloaked c) fits here =
    with_ram c (filled f bytes (seen_in c.memory)) _ (length-set c.memory.ram f bytes) fits
    (frame_set c.memory.ram f bytes fits.memory.ram here)
filled_fits f bytes (Alone h) fits here = absurd fits

marks_fit : (marks : List (Option ℕ)) (w : World) → WorldFits w → WorldFits (with_marks marks w)
marks_fit marks (Flat seen) fits = fits
marks_fit marks (Cloaked c) fits = record {
  memory = record {
    ram = fits.memory.ram;
    plain = fits.memory.plain;
    keys = fits.memory.keys;
    stream = fits.memory.stream;
    places = fits.memory.places;
  };
  items = fits.items;
}
marks_fit marks (Alone h) fits = absurd fits

noted_fits : (events : List Event) (w : World) → WorldFits w → WorldFits (noted events w)
noted_fits events (Flat ram) fits = fits
noted_fits events (Cloaked c) fits = record { memory = fits.memory; items = fits.items }
noted_fits events (Alone h) fits = absurd fits

pub written_fits : (i : Item) (w : World) → WorldFits w → IsItem i → WorldFits (written i w)
written_fits i (Flat ram) fits here = fits
written_fits i (Cloaked c) fits here =
    record { memory = fits.memory; items = each_append IsItem c.items (i ∷ []) fits.items (here, tt) }
written_fits i (Alone h) fits here = absurd fits

-- Walks.

access_fault_fits : (kind : Kind) → IsWord (access_fault kind)
access_fault_fits Fetch = omega arith
access_fault_fits _ = omega arith

page_fault_fits : (kind : Kind) → IsWord (page_fault kind)
page_fault_fits Fetch = omega arith
page_fault_fits _ = omega arith

abbrev CauseFits : Walk → Type 0
CauseFits (Ok walked) = Unit {0}
CauseFits (Err cause) = IsWord cause

abbrev EndFits : FirstWord → Type 0
EndFits (Ends walk) = CauseFits walk
EndFits (GoesOn at0) = Unit {0}

first_leaf_fits : (a : Access) (at1 e : ℕ) → CauseFits (first_leaf a at1 e)
unfolding first_leaf
first_leaf_fits a at1 e =
    either CauseFits (allows a e && (bits e 19 10 == 0))
    (Ok (record { pa = 4194304 * bits e 31 20 + bits a.va 21 0; pt1 = Some (frame_at at1); pt0 = None }))
    (Err (page_fault a.kind)) tt (page_fault_fits a.kind)

second_leaf_fits : (a : Access) (at1 at0 e : ℕ) → CauseFits (second_leaf a at1 at0 e)
unfolding second_leaf
second_leaf_fits a at1 at0 e =
    either CauseFits (is_valid e && (not (is_pointer e) && allows a e))
    (Ok (record { pa = 4096 * bits e 31 10 + bits a.va 11 0; pt1 = Some (frame_at at1); pt0 = Some (frame_at at0) }))
    (Err (page_fault a.kind)) tt (page_fault_fits a.kind)

second_word_fits : (a : Access) (at1 at0 : ℕ) (word : Option ℕ) → CauseFits (second_word a at1 at0 word)
unfolding second_word
second_word_fits a at1 at0 None = access_fault_fits a.kind
second_word_fits a at1 at0 (Some e) = second_leaf_fits a at1 at0 e

first_word_fits : (a : Access) (at1 : ℕ) (word : Option ℕ) → EndFits (first_word a at1 word)
unfolding first_word
first_word_fits a at1 None = access_fault_fits a.kind
first_word_fits a at1 (Some e) =
    either EndFits (not (is_valid e)) _ _ (page_fault_fits a.kind)
    (either EndFits (not (is_pointer e)) _ _ (first_leaf_fits a at1 e)
    (either EndFits (is_plain_pointer e) _ _ tt (page_fault_fits a.kind)))

abbrev pub Anything : {A : Type 0} → A → Type 0
Anything a = Unit {0}

word_told : (pa : ℕ) (w : World) → WorldFits w → ToldFits Anything (ask_word pa w)
unfolding ask_word
word_told pa w fits =
    either_told Anything (is_in_ram (ram_of w) pa) _ _
    (record { answer = tt; world = settled_fits (frame_of pa) w fits }) (record { answer = tt; world = fits })

second_told : (a : Access) (at1 at0 : ℕ) (w : World) → WorldFits w → ToldFits CauseFits (ask_second a at1 at0 w)
second_told a at1 at0 w fits =
    then_fits Anything CauseFits (ask_word at0) (λ word. answered (second_word a at1 at0 word)) w (word_told at0 w fits)
    (λ word v p there. record { answer = second_word_fits a at1 at0 word; world = there })

after_told : (a : Access) (at1 : ℕ) (word : FirstWord) (w : World) → EndFits word → WorldFits w →
    ToldFits CauseFits (ask_after a at1 word w)
after_told a at1 (Ends walk) w ends fits = record { answer = ends; world = fits }
after_told a at1 (GoesOn at0) w ends fits = second_told a at1 at0 w fits

first_told : (a : Access) (at1 : ℕ) (w : World) → WorldFits w → ToldFits CauseFits (ask_first a at1 w)
first_told a at1 w fits =
    then_fits Anything CauseFits (ask_word at1) (λ word. ask_after a at1 (first_word a at1 word)) w
    (word_told at1 w fits) (λ word v p there. after_told a at1 (first_word a at1 word) v (first_word_fits a at1 word) there)

walk_told : (satp : ℕ) (a : Access) (w : World) → WorldFits w → ToldFits CauseFits (ask_walk satp a w)
unfolding ask_walk
walk_told satp a w fits =
    either_told CauseFits (has_paging satp) _ _ (first_told a (first_entry satp a.va) w fits)
    (record { answer = tt; world = fits })

-- where an access leads

abbrev pub LeadFits : Walk → Type 0
LeadFits (Ok walked) = IsWord walked.pa
LeadFits (Err cause) = IsWord cause

in_ram_fits : (ram : List (List ℕ)) (pa : ℕ) → FramesFit ram → is_in_ram ram pa ≡ true → IsWord pa
in_ram_fits ram pa fits is =
    let both = and_parts (nat_le 0x80000000 pa) (nat_lt (frame_of pa) (length ram)) is in
    let low : (pa - 0x80000000) / 4096 < length ram = ltb-true _ _ both.1 in
    let few = fits.few in
    omega (arith, low, few)

inside_told : (a : Access) (walk : Walk) (w : World) → CauseFits walk → WorldFits w →
    ToldFits LeadFits (ask_in_ram a walk w)
unfolding ask_in_ram
inside_told a (Err cause) w walks fits = record { answer = walks; world = fits }
inside_told a (Ok walked) w walks fits = record {
  answer = cond_both (is_in_ram (ram_of w) walked.pa) (Ok walked) (Err (access_fault a.kind)) LeadFits
      (λ is. in_ram_fits (ram_of w) walked.pa (frames_of w fits) is) (λ is. access_fault_fits a.kind);
  world = fits;
}

translate_told : (satp : ℕ) (a : Access) (w : World) → WorldFits w → ToldFits LeadFits (ask_translate satp a w)
unfolding ask_translate
translate_told satp a w fits =
    then_fits CauseFits LeadFits (ask_walk satp a) (ask_in_ram a) w (walk_told satp a w fits)
    (λ walk v walks there. inside_told a walk v walks there)

led_told : (satp : ℕ) (a : Access) (w : World) → WorldFits w → ToldFits LeadFits (ask_led satp a w)
unfolding ask_led
led_told satp a w fits = translate_told satp a _ (noted_fits _ w fits)

opened_fits : (satp : ℕ) (a : Access) (walked : Walked) (w : World) → WorldFits w → WorldFits (opened satp a walked w)
opened_fits satp a walked w fits = noted_fits _ _ (settled_fits (frame_of walked.pa) w fits)

-- Memory.

pub count_told : (w : World) → WorldFits w → ToldFits Anything (ask_count w)
unfolding ask_count
count_told w fits = record { answer = tt; world = fits }

value_fits : (pa width : ℕ) (w : World) → WorldFits w → IsWord (value_at (ram_of w) pa width)
value_fits pa width w fits = value_in_below _ (place_of pa) width (frame_bytes (ram_of w) (frame_of pa) (frames_of w fits))

value_told : (satp : ℕ) (a : Access) (walked : Walked) (width : ℕ) (w : World) → WorldFits w →
    ToldFits IsWord (ask_value satp a walked width w)
unfolding ask_value
value_told satp a walked width w fits =
    let there = opened_fits satp a walked w fits in
    record { answer = value_fits walked.pa width (opened satp a walked w) there; world = noted_fits _ _ there }

store_told : (satp : ℕ) (a : Access) (walked : Walked) (width value : ℕ) (w : World) → WorldFits w →
    ToldFits Anything (ask_store satp a walked width value w)
unfolding ask_store
store_told satp a walked width value w fits =
    record { answer = tt; world = stored_fits walked.pa width value _ (opened_fits satp a walked w fits) }

-- what an access found
abbrev pub FoundFits : {A : Type 0} → (A → Type 0) → Result A ℕ → Type 0
FoundFits P (Ok found) = P found
FoundFits P (Err cause) = IsWord cause

loaded_told : (satp : ℕ) (a : Access) (width : ℕ) (to : Walk) (w : World) → LeadFits to → WorldFits w →
    ToldFits (FoundFits IsWord) (loaded_at satp a width to w)
unfolding loaded_at
loaded_told satp a width (Err cause) w leads fits = record { answer = leads; world = fits }
loaded_told satp a width (Ok walked) w leads fits =
    let told = value_told satp a walked width w fits in record { answer = told.answer; world = told.world }

pub load_told : (satp : ℕ) (a : Access) (width : ℕ) (w : World) → WorldFits w →
    ToldFits (FoundFits IsWord) (ask_load satp a width w)
unfolding ask_load
load_told satp a width w fits =
    then_fits LeadFits (FoundFits IsWord) (ask_led satp a) (loaded_at satp a width) w (led_told satp a w fits)
    (λ to v leads there. loaded_told satp a width to v leads there)

stored_to_told : (satp : ℕ) (a : Access) (width value : ℕ) (to : Walk) (w : World) → LeadFits to → WorldFits w →
    ToldFits (FoundFits Anything) (stored_to satp a width value to w)
unfolding stored_to
stored_to_told satp a width value (Err cause) w leads fits = record { answer = leads; world = fits }
stored_to_told satp a width value (Ok walked) w leads fits =
    let told = store_told satp a walked width value w fits in record { answer = tt; world = told.world }

pub store_at_told : (satp : ℕ) (a : Access) (width value : ℕ) (w : World) → WorldFits w →
    ToldFits (FoundFits Anything) (ask_store_at satp a width value w)
unfolding ask_store_at
store_at_told satp a width value w fits =
    then_fits LeadFits (FoundFits Anything) (ask_led satp a) (stored_to satp a width value) w (led_told satp a w fits)
    (λ to v leads there. stored_to_told satp a width value to v leads there)

-- Reservations, and atomic instructions.

mark_told : (hart pa : ℕ) (w : World) → WorldFits w → ToldFits Anything (ask_mark hart pa w)
unfolding ask_mark
mark_told hart pa w fits = record { answer = tt; world = marks_fit _ w fits }

pub unmark_told : (hart : ℕ) (w : World) → WorldFits w → ToldFits Anything (ask_unmark hart w)
unfolding ask_unmark
unmark_told hart w fits = record { answer = tt; world = marks_fit _ w fits }

marked_told : (hart : ℕ) (w : World) → WorldFits w → ToldFits Anything (ask_marked hart w)
unfolding ask_marked
marked_told hart w fits = record { answer = tt; world = fits }

reserved_told : (satp : ℕ) (a : Access) (hart : ℕ) (to : Walk) (w : World) → LeadFits to → WorldFits w →
    ToldFits (FoundFits IsWord) (reserved_at satp a hart to w)
unfolding reserved_at
reserved_told satp a hart (Err cause) w leads fits = record { answer = leads; world = fits }
reserved_told satp a hart (Ok walked) w leads fits =
    then_fits IsWord (FoundFits IsWord) (ask_value satp a walked 4)
    (λ value. then_ask (ask_mark hart walked.pa) (λ done. answered (Ok value))) w (value_told satp a walked 4 w fits)
    (λ value v below there. let told = mark_told hart walked.pa v there in record { answer = below; world = told.world })

pub reserve_told : (satp : ℕ) (a : Access) (hart : ℕ) (w : World) → WorldFits w →
    ToldFits (FoundFits IsWord) (ask_reserve satp a hart w)
unfolding ask_reserve
reserve_told satp a hart w fits =
    then_fits LeadFits (FoundFits IsWord) (ask_led satp a) (reserved_at satp a hart) w (led_told satp a w fits)
    (λ to v leads there. reserved_told satp a hart to v leads there)

stored_if_told : (test : Bool) (hart pa value : ℕ) (w : World) → WorldFits w →
    ToldFits Anything (stored_if test hart pa value w)
unfolding stored_if
stored_if_told true hart pa value w fits =
    let told = unmark_told hart (stored_at pa 4 value w) (stored_fits pa 4 value w fits) in
    record { answer = tt; world = told.world }
stored_if_told false hart pa value w fits =
    let told = unmark_told hart w fits in record { answer = tt; world = told.world }

conditional_told : (satp : ℕ) (a : Access) (hart value : ℕ) (to : Walk) (w : World) → LeadFits to →
    WorldFits w → ToldFits (FoundFits Anything) (conditional_at satp a hart value to w)
unfolding conditional_at
conditional_told satp a hart value (Err cause) w leads fits = record { answer = leads; world = fits }
conditional_told satp a hart value (Ok walked) w leads fits =
    let pa = walked.pa in
    let tested : Option ℕ → Asking (Result Bool ℕ) = λ mark.
    then_ask (stored_if (is_reserved pa mark) hart pa value) (λ done. answered (Ok done)) in
    then_fits IsWord (FoundFits Anything) (ask_value satp a walked 4) (λ old. then_ask (ask_marked hart) tested) w
    (value_told satp a walked 4 w fits)
    (λ old v below there. then_fits Anything (FoundFits Anything) (ask_marked hart) tested v (marked_told hart v there)
    (λ mark u p last. let told = stored_if_told (is_reserved pa mark) hart pa value u last in record {
      answer = tt;
      world = told.world;
    }))

pub store_conditional_told : (satp : ℕ) (a : Access) (hart value : ℕ) (w : World) → WorldFits w →
    ToldFits (FoundFits Anything) (ask_store_conditional satp a hart value w)
unfolding ask_store_conditional
store_conditional_told satp a hart value w fits =
    then_fits LeadFits (FoundFits Anything) (ask_led satp a) (conditional_at satp a hart value) w
    (led_told satp a w fits) (λ to v leads there. conditional_told satp a hart value to v leads there)

combined_told : (satp : ℕ) (a : Access) (op : AtomicOp) (operand : ℕ) (to : Walk) (w : World) → LeadFits to →
    WorldFits w → ToldFits (FoundFits IsWord) (combined_at satp a op operand to w)
unfolding combined_at
combined_told satp a op operand (Err cause) w leads fits = record { answer = leads; world = fits }
combined_told satp a op operand (Ok walked) w leads fits =
    then_fits IsWord (FoundFits IsWord) (ask_value satp a walked 4)
    (λ old. then_ask (stored_value walked.pa 4 (combined op old operand)) (λ done. answered (Ok old))) w
    (value_told satp a walked 4 w fits)
    (λ old v below there. record { answer = below; world = stored_fits walked.pa 4 (combined op old operand) v there })

pub combine_told : (satp : ℕ) (a : Access) (op : AtomicOp) (operand : ℕ) (w : World) → WorldFits w →
    ToldFits (FoundFits IsWord) (ask_combine satp a op operand w)
unfolding ask_combine
combine_told satp a op operand w fits =
    then_fits LeadFits (FoundFits IsWord) (ask_led satp a) (combined_at satp a op operand) w (led_told satp a w fits)
    (λ to v leads there. combined_told satp a op operand to v leads there)

-- Whole frames.

pub frame_told : (f : ℕ) (w : World) → WorldFits w → ToldFits AreBytes (ask_frame f w)
unfolding ask_frame
frame_told f w fits =
    let there = settled_fits f w fits in
    record { answer = frame_bytes (ram_of (settled f w)) f (frames_of (settled f w) there); world = noted_fits _ _ there }

pub fill_told : (f : ℕ) (bytes : List ℕ) (w : World) → WorldFits w → AreBytes bytes →
    ToldFits Anything (ask_fill f bytes w)
unfolding ask_fill
fill_told f bytes w fits here = record { answer = tt; world = filled_fits f bytes _ (settled_fits f w fits) here }

-- Answers to a program.

abbrev pub AnswerFits : Answer → Type 0
AnswerFits (answer.Absent cause) = IsWord cause
AnswerFits (answer.Word value) = IsWord value
AnswerFits _ = Unit {0}

answer_item_fits : (d : ℕ) (a : Answer) → AnswerFits a → IsItem (answer_item d a)
answer_item_fits d (answer.Absent cause) fits = fits
answer_item_fits d (answer.Word value) fits = fits
answer_item_fits d _ fits = tt

replies_told : (a : Answer) (w : World) → AnswerFits a → WorldFits w → ToldFits AnswerFits (replies a w)
unfolding replies
replies_told a w here fits = record {
  answer = here;
  world = written_fits _ w fits (answer_item_fits (regime_of w).domain a here);
}

drawn_told : (ask : Asking Answer) (w : World) → WorldFits w → (WorldFits w → ToldFits AnswerFits (ask w)) →
    ToldFits AnswerFits (if_drawn ask w)
unfolding if_drawn
drawn_told ask w fits told =
    either_told AnswerFits (is_missed w) _ _ (replies_told answer.Stopped w tt fits) (told fits)

address_told : (va : ℕ) (kind : Kind) (w : World) → WorldFits w → ToldFits LeadFits (ask_led_inside va kind w)
unfolding ask_led_inside
address_told va kind w fits = led_told _ _ w fits

offered_told : (q : PageId) (va : ℕ) (kind : Kind) (walked : Walked) (granted : Bool) (w : World) → WorldFits w →
    ToldFits AnswerFits (offered_by q va kind walked granted w)
unfolding offered_by
offered_told q va kind walked true w fits = replies_told answer.Ok _ tt (noted_fits _ w fits)
offered_told q va kind walked false (Flat ram) fits = replies_told answer.Stopped (Flat ram) tt fits
offered_told q va kind walked false (Cloaked c) fits =
    replies_told answer.Stopped (Cloaked _) tt (record { memory = fits.memory; items = fits.items })
offered_told q va kind walked false (Alone h) fits = absurd fits

offer_told : (q : PageId) (va : ℕ) (kind : Kind) (walked : Walked) (w : World) → WorldFits w →
    ToldFits AnswerFits (ask_offer q va kind walked w)
unfolding ask_offer
offer_told q va kind walked (Flat ram) fits = record { answer = tt; world = fits }
offer_told q va kind walked (Cloaked c) fits =
    let g = frame_of walked.pa in
    let o = offer_fits q g (is_store kind) c.memory fits.memory in
    let granted = (offer q g (is_store kind) c.memory).granted in
    drawn_told (offered_by q va kind walked granted) (Cloaked _)
    (record { memory = o.memory; items = each_append IsItem c.items _ fits.items o.items })
    (offered_told q va kind walked granted (Cloaked _))
offer_told q va kind walked (Alone h) fits = absurd fits

reached_told : (q : PageId) (va : ℕ) (kind : Kind) (to : Walk) (w : World) → LeadFits to → WorldFits w →
    ToldFits AnswerFits (reached q va kind to w)
unfolding reached
reached_told q va kind (Err cause) w leads fits = replies_told (answer.Absent cause) w leads fits
reached_told q va kind (Ok walked) w leads fits = offer_told q va kind walked w fits

reach_by_table_told : (q : PageId) (va : ℕ) (kind : Kind) (w : World) → WorldFits w →
    ToldFits AnswerFits (reach_by_table q va kind w)
unfolding reach_by_table
reach_by_table_told q va kind w fits =
    then_fits LeadFits AnswerFits (ask_led_inside va kind) (λ to. if_drawn (reached q va kind to)) w
    (address_told va kind w fits)
    (λ to v leads there. drawn_told (reached q va kind to) v there (reached_told q va kind to v leads))

pub low_fits : (width n : ℕ) → IsWidth width → IsWord (n % 2 ^ (8 * width))
low_fits width n (inl is) = subst (λ (k : ℕ). IsWord (n % 2 ^ (8 * k))) (sym is) (one n)
  where
    one : (n : ℕ) → IsWord (n % 2 ^ (8 * 1))
    one n = omega arith
low_fits width n (inr (inl is)) = subst (λ (k : ℕ). IsWord (n % 2 ^ (8 * k))) (sym is) (two n)
  where
    two : (n : ℕ) → IsWord (n % 2 ^ (8 * 2))
    two n = omega arith
low_fits width n (inr (inr is)) = subst (λ (k : ℕ). IsWord (n % 2 ^ (8 * k))) (sym is) (four n)
  where
    four : (n : ℕ) → IsWord (n % 2 ^ (8 * 4))
    four n = omega arith

get_at_told : (pa width : ℕ) (w : World) → IsWidth width → WorldFits w → ToldFits AnswerFits (get_at pa width w)
unfolding get_at
get_at_told pa width w is fits =
    replies_told (answer.Word _) _ (low_fits width (value_at (ram_of w) pa width) is) (noted_fits _ w fits)

got_told : (va width : ℕ) (to : Walk) (w : World) → IsWidth width → LeadFits to → WorldFits w →
    ToldFits AnswerFits (got va width to w)
unfolding got
got_told va width (Err cause) w is leads fits = replies_told (answer.Absent cause) w leads fits
got_told va width (Ok walked) w is leads fits =
    let there = opened_fits (regime_of w).satp (inside_access w va Load) walked w fits in
    drawn_told (get_at walked.pa width) _ there (get_at_told walked.pa width _ is)

get_by_table_told : (va width : ℕ) (w : World) → IsWidth width → WorldFits w →
    ToldFits AnswerFits (get_by_table va width w)
unfolding get_by_table
get_by_table_told va width w is fits =
    then_fits LeadFits AnswerFits (ask_led_inside va Load) (λ to. if_drawn (got va width to)) w
    (address_told va Load w fits)
    (λ to v leads there. drawn_told (got va width to) v there (got_told va width to v is leads))

put_at_told : (pa width value : ℕ) (w : World) → IsWidth width → IsWord pa → WorldFits w →
    ToldFits AnswerFits (put_at pa width value w)
unfolding put_at
put_at_told pa width value w is here fits =
    replies_told answer.Ok _ tt
    (written_fits _ (stored_at pa width value w) (stored_fits pa width value w fits)
    (here, is, low_fits width value is))

stored_inside_told : (va width value : ℕ) (to : Walk) (w : World) → IsWidth width → LeadFits to → WorldFits w →
    ToldFits AnswerFits (stored_inside va width value to w)
unfolding stored_inside
stored_inside_told va width value (Err cause) w is leads fits = replies_told (answer.Absent cause) w leads fits
stored_inside_told va width value (Ok walked) w is leads fits =
    let there = opened_fits (regime_of w).satp (inside_access w va Store) walked w fits in
    drawn_told (put_at walked.pa width value) _ there (put_at_told walked.pa width value _ is leads)

put_by_table_told : (va width value : ℕ) (w : World) → IsWidth width → WorldFits w →
    ToldFits AnswerFits (put_by_table va width value w)
unfolding put_by_table
put_by_table_told va width value w is fits =
    then_fits LeadFits AnswerFits (ask_led_inside va Store) (λ to. if_drawn (stored_inside va width value to)) w
    (address_told va Store w fits)
    (λ to v leads there. drawn_told (stored_inside va width value to) v there
    (stored_inside_told va width value to v is leads))

-- Resources as wholes.

either_world : (b : Bool) (v w : World) → WorldFits v → WorldFits w → WorldFits (cond b v w)
either_world true v w here there = here
either_world false v w here there = there

pub marked_fits : (domain : ℕ) (marked : List Bool) (f : ℕ) (w : World) → WorldFits w →
    WorldFits (settled_if_marked domain marked f w)
unfolding settled_if_marked
marked_fits domain marked f w fits = either_world _ (settled f w) w (settled_fits f w fits) fits

clear_from_told : (domain : ℕ) (marked : List Bool) (f n : ℕ) (w : World) → WorldFits w →
    ToldFits AnswerFits (clear_from domain marked f n w)
unfolding clear_from
clear_from_told domain marked f zero w fits = replies_told answer.Ok w tt fits
clear_from_told domain marked f (suc n) w fits =
    let there = marked_fits domain marked f w fits in
    drawn_told (clear_from domain marked (f + 1) n) _ there (clear_from_told domain marked (f + 1) n _)

-- The questions of a program.

pub reach_told : (q : PageId) (va : ℕ) (kind : Kind) (w : World) → WorldFits w →
    ToldFits AnswerFits (ask_reach q va kind w)
unfolding ask_reach
reach_told q va kind (Flat ram) fits = record { answer = tt; world = fits }
reach_told q va kind (Cloaked c) fits = reach_by_table_told q va kind (Cloaked c) fits
reach_told q va kind (Alone h) fits = absurd fits

plain_fits : (w : World) (q : PageId) → WorldFits w → AreBytes (plain_of w q)
plain_fits (Flat ram) q fits = zero_bytes
plain_fits (Cloaked c) q fits = fits.memory.plain q
plain_fits (Alone h) q fits = absurd fits

pub read_told : (q : PageId) (at width : ℕ) (w : World) → WorldFits w → ToldFits IsWord (ask_read q at width w)
unfolding ask_read
read_told q at width w fits = record { answer = value_in_below _ at width (plain_fits w q fits); world = fits }

pages_fit : (c : MidStep) (plain : PageId → List ℕ) → CloakFits c → ((q : PageId) → AreBytes (plain q)) →
    CloakFits (record c { memory = record c.memory { plain = plain } })
pages_fit c plain fits all = record {
  memory = record {
    ram = fits.memory.ram;
    plain = all;
    keys = fits.memory.keys;
    stream = fits.memory.stream;
    places = fits.memory.places;
  };
  items = fits.items;
}

pub write_told : (q : PageId) (at width value : ℕ) (w : World) → WorldFits w →
    ToldFits Anything (ask_write q at width value w)
unfolding ask_write
write_told q at width value (Flat ram) fits = record { answer = tt; world = fits }
write_told q at width value (Cloaked c) fits = record {
  answer = tt;
  world = pages_fit c _ fits (λ p. either AreBytes (same_page p q) _ _
      (bytes_with_value (c.memory.plain q) at width value (fits.memory.plain q)) (fits.memory.plain p));
}
write_told q at width value (Alone h) fits = absurd fits

pub get_told : (va width : ℕ) (w : World) → IsWidth width → WorldFits w → ToldFits AnswerFits (ask_get va width w)
unfolding ask_get
get_told va width (Flat ram) is fits = record { answer = tt; world = fits }
get_told va width (Cloaked c) is fits = get_by_table_told va width (Cloaked c) is fits
get_told va width (Alone h) is fits = absurd fits

pub put_told : (va width value : ℕ) (w : World) → IsWidth width → WorldFits w →
    ToldFits AnswerFits (ask_put va width value w)
unfolding ask_put
put_told va width value (Flat ram) is fits = record { answer = tt; world = fits }
put_told va width value (Cloaked c) is fits = put_by_table_told va width value (Cloaked c) is fits
put_told va width value (Alone h) is fits = absurd fits

pub clear_told : (domain : ℕ) (marked : List Bool) (w : World) → WorldFits w →
    ToldFits AnswerFits (ask_clear domain marked w)
unfolding ask_clear
clear_told domain marked (Flat ram) fits = record { answer = tt; world = fits }
clear_told domain marked (Cloaked c) fits = clear_from_told domain marked 0 (length c.memory.ram) (Cloaked c) fits
clear_told domain marked (Alone h) fits = absurd fits

pub copy_told : (domain from to : ℕ) (w : World) → WorldFits w → ToldFits Anything (ask_copy domain from to w)
unfolding ask_copy copy_pages
copy_told domain from to (Flat ram) fits = record { answer = tt; world = fits }
copy_told domain from to (Cloaked c) fits = record {
  answer = tt;
  world = record {
    memory = record {
      ram = fits.memory.ram;
      plain = λ p. either AreBytes (is_of domain to p) _ _ (fits.memory.plain (page_in from p)) (fits.memory.plain p);
      keys = fits.memory.keys;
      stream = fits.memory.stream;
      places = fits.memory.places;
    };
    items = fits.items;
  };
}
copy_told domain from to (Alone h) fits = absurd fits

pub forget_told : (domain resource : ℕ) (w : World) → WorldFits w → ToldFits Anything (ask_forget domain resource w)
unfolding ask_forget drop_pages
forget_told domain resource (Flat ram) fits = record { answer = tt; world = fits }
forget_told domain resource (Cloaked c) fits = record {
  answer = tt;
  world = record {
    memory = record {
      ram = fits.memory.ram;
      plain = λ p. either AreBytes (is_of domain resource p) _ _ zero_bytes (fits.memory.plain p);
      keys = fits.memory.keys;
      stream = fits.memory.stream;
      places = fits.memory.places;
    };
    items = fits.items;
  };
}
forget_told domain resource (Alone h) fits = absurd fits
