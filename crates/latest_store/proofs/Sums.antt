-- Additions to a word add up, after whatever history.
use Rattle.std.proofs.Common.{◌≡◌, ◌∙◌, inl, inr, ℕ, ◌+◌, ◌-◌, ◌%◌, ◌^◌, ◌<◌, Bool, true, false, ◌&&◌, cond, List, [], ◌∷◌, ◌++◌, get_or, Option, Some, None, unwrap_or, refl, sym, ap, arith, slice_index}
use Rattle.std.specs.Int.{w32, to_le_bytes}
use Rattle.std.specs.Prelude.{◌==◌, nat_le, nat_lt, is_some}
use Rattle.std.proofs.lemmas.Bool.{false≢true, cases_lt, leb-true, ltb-true, eqb-true, le-leb, lt-ltb, and_parts, and_from, false_from_ne_true}
use Rattle.std.proofs.lemmas.List.{get_or_past}
use Rattle.std.proofs.lemmas.List.Elements.{All-head, All-tail}
use Rattle.std.proofs.lemmas.List.Sums.{sum_by-cons}
use Rattle.std.proofs.lemmas.Nat.{from_le_bytes-to_le_bytes_4}
use Rattle.cloak_base.specs.Pages.{same_page, page_in}
use Rattle.cloak_base.proofs.Pages.{same_page-decides, same_page-self}
use Rattle.cloak_base.specs.declared.names.PageId.{PageId}
use Rattle.rv_atomic.specs.Combine.{combined}
use Rattle.rv_atomic.specs.declared.atomic.AtomicOp.TheVariants.{Add}
use Rattle.latest_store.specs.Moves.{Move, Makes, Stores, Combines, Copies, Loads, covers, bytes_from, latest, latest_value}
use Rattle.latest_store.specs.Sums.{reaches, writes_in, addend, OnlyAdd, added, RunsAddUp}
use Rattle.latest_store.proofs.Values.{byte_from, past_bytes, four_bytes}

-- A move that does not write in a word leaves it.

-- a store that covers a byte of the word reaches it
uncovered : (from width at i : ℕ) → i < 4 → reaches from width at ≡ false → covers from width (at + i) ≡ false
uncovered from width at i low none =
    false_from_ne_true (covers from width (at + i)) (λ is.
    let both = and_parts (nat_le from (at + i)) (nat_lt (at + i) (from + width)) is in
    let above = leb-true from (at + i) both.0 in
    let below = ltb-true (at + i) (from + width) both.1 in
    false≢true (sym none ∙ and_from _ _ (lt-ltb from (at + 4) (omega (arith, above, low)))
    (lt-ltb at (from + width) (omega (arith, below)))))

still_not : (page reached covered : Bool) → (page && reached) ≡ false → (reached ≡ false → covered ≡ false) →
    (page && covered) ≡ false
still_not true reached covered none so = so none
still_not false reached covered none so = refl

unwritten : (q : PageId) (at i : ℕ) (m : Move) (history : List Move) → i < 4 → writes_in q at m ≡ false →
    latest (m ∷ history) q (at + i) ≡ latest history q (at + i)
unfolding latest
unwritten q at i (Makes p bytes) history low none =
    ap (λ (b : Bool). cond b (slice_index bytes (at + i)) (latest history q (at + i))) none
unwritten q at i (Stores p from width value) history low none =
    ap (λ (b : Bool). cond b (slice_index (to_le_bytes w32 value) (at + i - from)) (latest history q (at + i)))
    (still_not (same_page q p) (reaches from width at) (covers from width (at + i)) none
    (uncovered from width at i low))
unwritten q at i (Combines p from op operand) history low none =
    ap (λ (b : Bool). cond b (slice_index (to_le_bytes w32 (combined op (latest_value history p from 4) operand))
    (at + i - from)) (latest history q (at + i)))
    (still_not (same_page q p) (reaches from 4 at) (covers from 4 (at + i)) none (uncovered from 4 at i low))
unwritten q at i (Copies domain from to) history low none =
    ap (λ (b : Bool). cond b (latest history (page_in from q) (at + i)) (latest history q (at + i))) none
unwritten q at i (Loads p address width) history low none = refl
unwritten q at i _ history low none =
    ap (λ (b : Bool). cond b 0 (latest history q (at + i))) none

unwritten_word : (q : PageId) (at : ℕ) (m : Move) (history : List Move) → writes_in q at m ≡ false →
    latest_value (m ∷ history) q at 4 ≡ latest_value history q at 4
unwritten_word q at m history none =
    let new : ℕ → ℕ = latest (m ∷ history) q in
    let old : ℕ → ℕ = latest history q in
    four_bytes (bytes_from new at 4) (bytes_from old at 4) (λ i. elim (cases_lt i 4) [
      | inl low ↦ byte_from new at 4 i low ∙ unwritten q at i m history low none ∙ sym (byte_from old at 4 i low)
      | inr past ↦ past_bytes new at 4 i past ∙ sym (past_bytes old at 4 i past)
    ])

-- An addition.

addition_byte : (q : PageId) (at operand i : ℕ) (history : List Move) → i < 4 →
    latest (Combines q at Add operand ∷ history) q (at + i)
    ≡ get_or (to_le_bytes w32 (combined Add (latest_value history q at 4) operand)) i 0
unfolding latest
addition_byte q at operand i history low =
    let bytes : List ℕ = to_le_bytes w32 (combined Add (latest_value history q at 4) operand) in
    let here : (same_page q q && covers at 4 (at + i)) ≡ true =
    and_from _ _ (same_page-self q)
    (and_from _ _ (le-leb at (at + i) (omega arith)) (lt-ltb (at + i) (at + 4) (omega (arith, low)))) in
    let place : at + i - at ≡ i = omega arith in
    ap (λ (b : Bool). cond b (slice_index bytes (at + i - at)) (latest history q (at + i))) here
    ∙ ap (λ (k : ℕ). get_or bytes k 0) place

addition_word : (q : PageId) (at operand : ℕ) (history : List Move) →
    latest_value (Combines q at Add operand ∷ history) q at 4 ≡ (latest_value history q at 4 + operand) % 2 ^ 32
unfolding combined
addition_word q at operand history =
    let new : ℕ → ℕ = latest (Combines q at Add operand ∷ history) q in
    let word : ℕ = (latest_value history q at 4 + operand) % 2 ^ 32 in
    four_bytes (bytes_from new at 4) (to_le_bytes w32 word) (λ i. elim (cases_lt i 4) [
      | inl low ↦ byte_from new at 4 i low ∙ addition_byte q at operand i history low
      | inr past ↦ past_bytes new at 4 i past ∙ sym (get_or_past {X = ℕ} (to_le_bytes w32 word) i 0 past)
    ])
    ∙ from_le_bytes-to_le_bytes_4 word (omega arith)

-- a move that adds to a word
record Adds (q : PageId) (at : ℕ) (m : Move) : Type 0 where
  pub operand : ℕ
  pub is : m ≡ Combines q at Add operand
  pub adds : addend q at m ≡ Some operand

chosen : (test : Bool) (operand : ℕ) → is_some (cond test (Some operand) None) ≡ true → test ≡ true
chosen true operand some = refl
chosen false operand some = absurd (false≢true some)

addition : (q : PageId) (at : ℕ) (m : Move) → is_some (addend q at m) ≡ true → Adds q at m
addition q at (Combines p from Add operand) some =
    let test = chosen (same_page q p && (from == at)) operand some in
    let both = and_parts (same_page q p) (from == at) test in
    record {
      operand = operand;
      is = ap (λ (x : PageId). Combines x from Add operand) (sym ((same_page-decides q p).0 both.0))
          ∙ ap (λ (x : ℕ). Combines q x Add operand) (eqb-true from at both.1);
      adds = ap (λ (b : Bool). cond b (Some operand) None) test;
    }
addition q at m some = absurd (false≢true some)

-- Moves one after another.

one_more : (word earlier before operand sum : ℕ) → word ≡ (earlier + operand) % 2 ^ 32 →
    earlier % 2 ^ 32 ≡ (before + sum) % 2 ^ 32 → word % 2 ^ 32 ≡ (before + (operand + sum)) % 2 ^ 32
one_more word earlier before operand sum is so = omega arith

none_added : (o : Option ℕ) → false ≡ is_some o → unwrap_or o 0 ≡ 0
none_added None none = refl
none_added (Some operand) none = absurd (false≢true none)

move_adds : (writes : Bool) (q : PageId) (at : ℕ) (m : Move) (history : List Move) (before sum : ℕ) →
    writes_in q at m ≡ writes → writes ≡ is_some (addend q at m) →
    latest_value history q at 4 % 2 ^ 32 ≡ (before + sum) % 2 ^ 32 →
    latest_value (m ∷ history) q at 4 % 2 ^ 32 ≡ (before + (unwrap_or (addend q at m) 0 + sum)) % 2 ^ 32
move_adds false q at m history before sum writes only so =
    let none = none_added (addend q at m) only in
    let same : sum ≡ unwrap_or (addend q at m) 0 + sum = omega (arith, none) in
    ap (λ (word : ℕ). word % 2 ^ 32) (unwritten_word q at m history writes) ∙ so
    ∙ ap (λ (k : ℕ). (before + k) % 2 ^ 32) same
move_adds true q at m history before sum writes only so =
    let a = addition q at m (sym only) in
    one_more (latest_value (m ∷ history) q at 4) (latest_value history q at 4) before a.operand sum
    (ap (λ (x : Move). latest_value (x ∷ history) q at 4) a.is ∙ addition_word q at a.operand history) so
    ∙ ap (λ (o : Option ℕ). (before + (unwrap_or o 0 + sum)) % 2 ^ 32) (sym a.adds)

add_up : (q : PageId) (at : ℕ) (since before : List Move) → OnlyAdd q at since →
    latest_value (since ++ before) q at 4 % 2 ^ 32 ≡ (latest_value before q at 4 + added q at since) % 2 ^ 32
add_up q at [] before all = ap (λ (word : ℕ). word % 2 ^ 32) (omega arith)
add_up q at (m ∷ since) before all =
    let only : Move → Type 0 = λ x. writes_in q at x ≡ is_some (addend q at x) in
    move_adds _ q at m (since ++ before) (latest_value before q at 4) (added q at since) refl
    (All-head only m since all) (add_up q at since before (All-tail only m since all))
    ∙ ap (λ (sum : ℕ). (latest_value before q at 4 + sum) % 2 ^ 32)
    (sym (sum_by-cons (λ (x : Move). unwrap_or (addend q at x) 0) m since))

-- So they do in the history of a run.
pub runs_add_up : RunsAddUp
runs_add_up b from budget r fits runs n low since before is q at all =
    ap (λ (history : List Move). latest_value history q at 4 % 2 ^ 32) is ∙ add_up q at since before all
