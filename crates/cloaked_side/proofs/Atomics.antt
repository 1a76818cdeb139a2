-- Atomic accesses, over plain variables.
use Rattle.std.proofs.Common.{◌≡◌, false, true, ℕ, Bool, List, Option, Result, Ok, Err, refl, ap, sym, subst}
use Rattle.std.proofs.lemmas.Bool.{false≢true}
use Rattle.cloak_model.specs.declared.access.Access.{Access}
use Rattle.cloak_model.specs.declared.access.Walked.{Walked}
use Rattle.cloak_model.specs.Ask.{ask_led, opened, ask_value, shown_value, stored_value, ask_mark, ask_unmark, ask_marked}
use Rattle.cloak_model.specs.Ask.{reserved_at, ask_reserve, is_reserved, stored_if, conditional_at, ask_store_conditional}
use Rattle.cloak_model.specs.Ask.{combined_at, ask_combine}
use Rattle.cloak_model.specs.Asking.{FollowsFrom}
use Rattle.cloak_model.specs.Exchange.{Piece}
use Rattle.cloak_model.specs.Memory.{mark_of}
use Rattle.cloak_model.specs.Walk.{Walk}
use Rattle.cloak_model.specs.World.{World, is_clashed}
use Rattle.cloak_model.proofs.Later.{later_reserved_at, later_conditional_at, later_combined_at}
use Rattle.rv_atomic.specs.Combine.{combined}
use Rattle.rv_atomic.specs.declared.atomic.AtomicOp.{AtomicOp}
use Rattle.cloaked_side.specs.Atomic.{word_there, ask_led_word}
use Rattle.cloaked_side.specs.Seeing.{Sees}
use Rattle.cloaked_side.specs.declared.atomic.LedWord.{LedWord}
use Rattle.cloaked_side.specs.declared.side.Side.{Side}
use Rattle.cloaked_side.proofs.Marking.{asked_mark}

-- The word to which an access leads.

pub led_word_told : {E : Type 0} (gave : E → E → List Piece → Type 0) (first mid new : Side E) (satp : ℕ) (a : Access) (walked : Walked) (pa word : ℕ)
    (w : World) → FollowsFrom (Sees gave first) mid (Ok walked) (ask_led satp a w) → pa ≡ walked.pa →
    FollowsFrom (λ side v. Sees gave first side v) new word (shown_value pa 4 (opened satp a walked (ask_led satp a w).world)) →
    FollowsFrom (Sees gave first) new (Ok (record { pa = pa; word = word })) (ask_led_word satp a w)
unfolding ask_value
led_word_told gave first mid new satp a walked pa word w led at told =
    let v = opened satp a walked (ask_led satp a w).world in
    let found : ℕ → ℕ → LedWord = λ n x. record { pa = n; word = x } in
    let read = subst (λ (n : ℕ). FollowsFrom (λ side u. Sees gave first side u) new word (shown_value n 4 v)) at told in
    subst (λ (to : Walk). FollowsFrom (Sees gave first) new (Ok (found pa word)) (word_there satp a to (ask_led satp a w).world))
    led.answer (record { answer = λ i. Ok (found (at i) (read.answer i)); stands = read.stands })

pub led_word_fault : {E : Type 0} (gave : E → E → List Piece → Type 0) (first new : Side E) (satp : ℕ) (a : Access) (cause : ℕ)
    (w : World) → FollowsFrom (Sees gave first) new (Err cause) (ask_led satp a w) →
    FollowsFrom (Sees gave first) new (Err cause) (ask_led_word satp a w)
led_word_fault gave first new satp a cause w led =
    subst (λ (to : Walk). FollowsFrom (Sees gave first) new (Err cause) (word_there satp a to (ask_led satp a w).world))
    led.answer (record { answer = refl; stands = led.stands })

not_fault : (led : LedWord) (cause : ℕ) → Ok led ≡ Err cause → ⊥
not_fault led cause is = cc

not_led : (led : LedWord) (cause : ℕ) → Err cause ≡ Ok led → ⊥
not_led led cause is = cc

same_led : (a b : LedWord) (x : Result LedWord ℕ) → Ok a ≡ x → x ≡ Ok b → a ≡ b
same_led a b x one two = cc

same_cause : (a b : ℕ) (x : Result LedWord ℕ) → Err a ≡ x → x ≡ Err b → a ≡ b
same_cause a b x one two = cc

-- LR.

pub reserve_unclashed : (satp : ℕ) (a : Access) (hart : ℕ) (w : World) → is_clashed (ask_reserve satp a hart w).world ≡ false →
    is_clashed (ask_led satp a w).world ≡ false
unfolding ask_reserve
reserve_unclashed satp a hart w unclashed =
    let told = ask_led satp a w in (later_reserved_at satp a hart told.answer told.world).mark unclashed

reserved_by : {E : Type 0} (gave : E → E → List Piece → Type 0) (first mid new : Side E) (satp : ℕ) (a : Access) (hart : ℕ) (led : LedWord)
    (to : Walk) (w : World) → FollowsFrom (Sees gave first) mid (Ok led) (word_there satp a to w) →
    FollowsFrom (Sees gave first) new (tt {0}) (ask_mark hart led.pa (word_there satp a to w).world) →
    FollowsFrom (Sees gave first) new (Ok led.word) (reserved_at satp a hart to w)
unfolding reserved_at
reserved_by gave first mid new satp a hart led (Err cause) w told marked = absurd (not_fault led cause told.answer)
reserved_by gave first mid new satp a hart led (Ok walked) w told marked =
    let asked = ask_value satp a walked 4 w in
    let is : led ≡ record { pa = walked.pa; word = asked.answer } = same_led led (record { pa = walked.pa; word = asked.answer }) _ told.answer refl in
    record {
      answer = ap (λ (x : LedWord). Ok x.word) is;
      stands = subst (λ (x : LedWord). Sees gave first new (ask_mark hart x.pa asked.world).world) is marked.stands;
    }

pub reserved_told : {E : Type 0} (gave : E → E → List Piece → Type 0) (first mid new : Side E) (satp : ℕ) (a : Access) (hart : ℕ) (led : LedWord)
    (w : World) → FollowsFrom (Sees gave first) mid (Ok led) (ask_led_word satp a w) →
    ((v : World) → Sees gave first mid v → FollowsFrom (Sees gave first) new (tt {0}) (ask_mark hart led.pa v)) →
    FollowsFrom (Sees gave first) new (Ok led.word) (ask_reserve satp a hart w)
unfolding ask_reserve
reserved_told gave first mid new satp a hart led w told marked =
    let to = ask_led satp a w in
    reserved_by gave first mid new satp a hart led to.answer to.world told (marked (ask_led_word satp a w).world told.stands)

reserve_fault_by : {E : Type 0} (gave : E → E → List Piece → Type 0) (first new : Side E) (satp : ℕ) (a : Access) (hart cause : ℕ)
    (to : Walk) (w : World) → FollowsFrom (Sees gave first) new (Err cause) (word_there satp a to w) →
    FollowsFrom (Sees gave first) new (Err cause) (reserved_at satp a hart to w)
unfolding reserved_at
reserve_fault_by gave first new satp a hart cause (Err other) w told =
    record { answer = ap (λ (n : ℕ). Err n) (same_cause cause other _ told.answer refl); stands = told.stands }
reserve_fault_by gave first new satp a hart cause (Ok walked) w told = absurd (not_led _ cause told.answer)

pub reserve_fault : {E : Type 0} (gave : E → E → List Piece → Type 0) (first new : Side E) (satp : ℕ) (a : Access) (hart cause : ℕ)
    (w : World) → FollowsFrom (Sees gave first) new (Err cause) (ask_led_word satp a w) →
    FollowsFrom (Sees gave first) new (Err cause) (ask_reserve satp a hart w)
unfolding ask_reserve
reserve_fault gave first new satp a hart cause w told =
    let to = ask_led satp a w in reserve_fault_by gave first new satp a hart cause to.answer to.world told

-- SC.

pub conditional_unclashed : (satp : ℕ) (a : Access) (hart value : ℕ) (w : World) →
    is_clashed (ask_store_conditional satp a hart value w).world ≡ false → is_clashed (ask_led satp a w).world ≡ false
unfolding ask_store_conditional
conditional_unclashed satp a hart value w unclashed =
    let told = ask_led satp a w in (later_conditional_at satp a hart value told.answer told.world).mark unclashed

-- the word was not reserved
pub unstored_told : {E : Type 0} (gave : E → E → List Piece → Type 0) (first new : Side E) (reserved : Bool) (hart pa value : ℕ) (w : World) →
    reserved ≡ false → FollowsFrom (Sees gave first) new (tt {0}) (ask_unmark hart w) →
    FollowsFrom (Sees gave first) new false (stored_if reserved hart pa value w)
unfolding stored_if
unstored_told gave first new true hart pa value w is told = absurd (false≢true (sym is))
unstored_told gave first new false hart pa value w is told = record { answer = refl; stands = told.stands }

-- it was, and was stored
pub stored_if_told : {E : Type 0} (gave : E → E → List Piece → Type 0) (first mid new : Side E) (reserved : Bool) (hart pa value : ℕ) (w : World) →
    reserved ≡ true → FollowsFrom (λ side v. Sees gave first side v) mid (tt {0}) (stored_value pa 4 value w) →
    ((v : World) → Sees gave first mid v → FollowsFrom (Sees gave first) new (tt {0}) (ask_unmark hart v)) →
    FollowsFrom (Sees gave first) new true (stored_if reserved hart pa value w)
unfolding stored_if
stored_if_told gave first mid new false hart pa value w is stored told = absurd (false≢true is)
stored_if_told gave first mid new true hart pa value w is stored told =
    record { answer = refl; stands = (told (stored_value pa 4 value w).world stored.stands).stands }

conditional_by : {E : Type 0} (gave : E → E → List Piece → Type 0) (first mid new : Side E) (satp : ℕ) (a : Access) (hart value : ℕ)
    (led : LedWord) (done : Bool) (mark : Option ℕ) (to : Walk) (w : World) →
    FollowsFrom (Sees gave first) mid (Ok led) (word_there satp a to w) →
    mark ≡ (ask_marked hart (word_there satp a to w).world).answer →
    FollowsFrom (Sees gave first) new done (stored_if (is_reserved led.pa mark) hart led.pa value (word_there satp a to w).world) →
    FollowsFrom (Sees gave first) new (Ok done) (conditional_at satp a hart value to w)
unfolding conditional_at ask_marked
conditional_by gave first mid new satp a hart value led done mark (Err cause) w told is stored = absurd (not_fault led cause told.answer)
conditional_by gave first mid new satp a hart value led done mark (Ok walked) w told is stored =
    let asked = ask_value satp a walked 4 w in
    let same : led ≡ record { pa = walked.pa; word = asked.answer } = same_led led (record { pa = walked.pa; word = asked.answer }) _ told.answer refl in
    let there = subst (λ (x : LedWord × Option ℕ). FollowsFrom (Sees gave first) new done
    (stored_if (is_reserved x.0.pa x.1) hart x.0.pa value asked.world)) (λ i. (same i, is i)) stored in
    record { answer = ap (λ (b : Bool). Ok b) there.answer; stands = there.stands }

pub conditional_told : {E : Type 0} (gave : E → E → List Piece → Type 0) (first mid new : Side E) (satp : ℕ) (a : Access) (hart value : ℕ)
    (led : LedWord) (done reserved : Bool) (mark : Option ℕ) (w : World) →
    FollowsFrom (Sees gave first) mid (Ok led) (ask_led_word satp a w) → mark ≡ mark_of hart mid.memory.now.reservations →
    reserved ≡ is_reserved led.pa mark →
    ((v : World) → Sees gave first mid v → FollowsFrom (Sees gave first) new done (stored_if reserved hart led.pa value v)) →
    FollowsFrom (Sees gave first) new (Ok done) (ask_store_conditional satp a hart value w)
unfolding ask_store_conditional
conditional_told gave first mid new satp a hart value led done reserved mark w told has is stored =
    let to = ask_led satp a w in
    let there = (ask_led_word satp a w).world in
    conditional_by gave first mid new satp a hart value led done mark to.answer to.world told
    (asked_mark gave first mid hart mark there has told.stands).answer
    (subst (λ (b : Bool). FollowsFrom (Sees gave first) new done (stored_if b hart led.pa value there)) is (stored there told.stands))

conditional_fault_by : {E : Type 0} (gave : E → E → List Piece → Type 0) (first new : Side E) (satp : ℕ) (a : Access) (hart value cause : ℕ)
    (to : Walk) (w : World) → FollowsFrom (Sees gave first) new (Err cause) (word_there satp a to w) →
    FollowsFrom (Sees gave first) new (Err cause) (conditional_at satp a hart value to w)
unfolding conditional_at
conditional_fault_by gave first new satp a hart value cause (Err other) w told =
    record { answer = ap (λ (n : ℕ). Err n) (same_cause cause other _ told.answer refl); stands = told.stands }
conditional_fault_by gave first new satp a hart value cause (Ok walked) w told = absurd (not_led _ cause told.answer)

pub conditional_fault : {E : Type 0} (gave : E → E → List Piece → Type 0) (first new : Side E) (satp : ℕ) (a : Access) (hart value cause : ℕ)
    (w : World) → FollowsFrom (Sees gave first) new (Err cause) (ask_led_word satp a w) →
    FollowsFrom (Sees gave first) new (Err cause) (ask_store_conditional satp a hart value w)
unfolding ask_store_conditional
conditional_fault gave first new satp a hart value cause w told =
    let to = ask_led satp a w in conditional_fault_by gave first new satp a hart value cause to.answer to.world told

-- The operations.

pub combine_unclashed : (satp : ℕ) (a : Access) (op : AtomicOp) (operand : ℕ) (w : World) →
    is_clashed (ask_combine satp a op operand w).world ≡ false → is_clashed (ask_led satp a w).world ≡ false
unfolding ask_combine
combine_unclashed satp a op operand w unclashed =
    let told = ask_led satp a w in (later_combined_at satp a op operand told.answer told.world).mark unclashed

combined_by : {E : Type 0} (gave : E → E → List Piece → Type 0) (first mid new : Side E) (satp : ℕ) (a : Access) (op : AtomicOp)
    (operand : ℕ) (led : LedWord) (to : Walk) (w : World) →
    FollowsFrom (Sees gave first) mid (Ok led) (word_there satp a to w) →
    FollowsFrom (λ side v. Sees gave first side v) new (tt {0})
    (stored_value led.pa 4 (combined op led.word operand) (word_there satp a to w).world) →
    FollowsFrom (Sees gave first) new (Ok led.word) (combined_at satp a op operand to w)
unfolding combined_at
combined_by gave first mid new satp a op operand led (Err cause) w told stored = absurd (not_fault led cause told.answer)
combined_by gave first mid new satp a op operand led (Ok walked) w told stored =
    let asked = ask_value satp a walked 4 w in
    let is : led ≡ record { pa = walked.pa; word = asked.answer } = same_led led (record { pa = walked.pa; word = asked.answer }) _ told.answer refl in
    record {
      answer = ap (λ (x : LedWord). Ok x.word) is;
      stands = subst (λ (x : LedWord). Sees gave first new (stored_value x.pa 4 (combined op x.word operand) asked.world).world)
          is stored.stands;
    }

pub combined_told : {E : Type 0} (gave : E → E → List Piece → Type 0) (first mid new : Side E) (satp : ℕ) (a : Access) (op : AtomicOp)
    (operand value : ℕ) (led : LedWord) (w : World) → FollowsFrom (Sees gave first) mid (Ok led) (ask_led_word satp a w) →
    value ≡ combined op led.word operand →
    ((v : World) → Sees gave first mid v → FollowsFrom (λ side u. Sees gave first side u) new (tt {0}) (stored_value led.pa 4 value v)) →
    FollowsFrom (Sees gave first) new (Ok led.word) (ask_combine satp a op operand w)
unfolding ask_combine
combined_told gave first mid new satp a op operand value led w told is stored =
    let to = ask_led satp a w in
    let there = (ask_led_word satp a w).world in
    combined_by gave first mid new satp a op operand led to.answer to.world told
    (subst (λ (n : ℕ). FollowsFrom (λ side v. Sees gave first side v) new (tt {0}) (stored_value led.pa 4 n there)) is
    (stored there told.stands))

combine_fault_by : {E : Type 0} (gave : E → E → List Piece → Type 0) (first new : Side E) (satp : ℕ) (a : Access) (op : AtomicOp)
    (operand cause : ℕ) (to : Walk) (w : World) → FollowsFrom (Sees gave first) new (Err cause) (word_there satp a to w) →
    FollowsFrom (Sees gave first) new (Err cause) (combined_at satp a op operand to w)
unfolding combined_at
combine_fault_by gave first new satp a op operand cause (Err other) w told =
    record { answer = ap (λ (n : ℕ). Err n) (same_cause cause other _ told.answer refl); stands = told.stands }
combine_fault_by gave first new satp a op operand cause (Ok walked) w told = absurd (not_led _ cause told.answer)

pub combine_fault : {E : Type 0} (gave : E → E → List Piece → Type 0) (first new : Side E) (satp : ℕ) (a : Access) (op : AtomicOp)
    (operand cause : ℕ) (w : World) → FollowsFrom (Sees gave first) new (Err cause) (ask_led_word satp a w) →
    FollowsFrom (Sees gave first) new (Err cause) (ask_combine satp a op operand w)
unfolding ask_combine
combine_fault gave first new satp a op operand cause w told =
    let to = ask_led satp a w in combine_fault_by gave first new satp a op operand cause to.answer to.world told
