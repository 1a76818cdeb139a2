-- Words of control and status registers that have only the bits that are kept, over plain variables.
use Rattle.std.proofs.Common.{◌≡◌, ◌∙◌, ◌<◌, ◌+◌, ◌-◌, ◌*◌, ◌^◌, ℕ, zero, suc, min, max, Bool, true, false, List, [], ◌∷◌, length, map, slice_index, refl, ap, sym, arith, if◌then◌else◌}
use Rattle.std.specs.Prelude.{bit_and, bit_or, ◌==◌}
use Rattle.std.specs.Int.{bit_at}
use Rattle.std.specs.Int.Bits.{or_add_and}
use Rattle.std.proofs.lemmas.Bool.Decides.{Decides-eqb}
use Rattle.std.proofs.lemmas.Nat.Bits.{and_high_mask, and_pow, bit_at-lt, bit_at-zero, bit_at_and, bit_at_or, same_from_bits}
use Rattle.cloak_base.specs.declared.names.Mode.TheVariants.{U, S}
use Rattle.cloak_model.specs.Bits.{has_bit}
use Rattle.cloak_model.specs.Csr as csr
use Rattle.cloak_model.specs.Csr.{Csrs, aligned, bit, is_supervisor, sstatus_of, sstatus_word}
use Rattle.frozen_state.specs.Ranges.{has_only, kept_bits}
use Rattle.joint_machine.proofs.Rows.{by_places}

-- Masks.

low_min : (a b c : ℕ) → a < 2 → b < 2 → c < 2 → min a (max b c) ≡ max (min a b) (min a c)
low_min a b c x y z = omega arith

and_either : (w a b : ℕ) → bit_and w (bit_or a b) ≡ bit_or (bit_and w a) (bit_and w b)
and_either w a b = same_from_bits _ _ (λ i.
    bit_at_and w (bit_or a b) i
    ∙ (ap (min (bit_at w i)) (bit_at_or a b i)
    ∙ (low_min (bit_at w i) (bit_at a i) (bit_at b i) (bit_at-lt w i) (bit_at-lt a i) (bit_at-lt b i)
    ∙ (ap (λ (x : ℕ). max x (min (bit_at w i) (bit_at b i))) (sym (bit_at_and w a i))
    ∙ (ap (max (bit_at (bit_and w a) i)) (sym (bit_at_and w b i)) ∙ sym (bit_at_or (bit_and w a) (bit_and w b) i))))))

apart_low : (w a b : ℕ) → min a b ≡ 0 → min (min w a) (min w b) ≡ 0
apart_low w a b none = omega (arith, none)

apart : (w a b : ℕ) → bit_and a b ≡ 0 → bit_and (bit_and w a) (bit_and w b) ≡ 0
apart w a b none = same_from_bits _ _ (λ i.
    let here : min (bit_at a i) (bit_at b i) ≡ 0 =
    sym (bit_at_and a b i) ∙ (ap (λ (x : ℕ). bit_at x i) none ∙ bit_at-zero i) in
    bit_at_and (bit_and w a) (bit_and w b) i
    ∙ (ap (λ (x : ℕ). min x (bit_at (bit_and w b) i)) (bit_at_and w a i)
    ∙ (ap (min (min (bit_at w i) (bit_at a i))) (bit_at_and w b i)
    ∙ (apart_low (bit_at w i) (bit_at a i) (bit_at b i) here ∙ sym (bit_at-zero i)))))

sum_of : (a b : ℕ) → bit_and a b ≡ 0 → bit_or a b ≡ a + b
sum_of a b none = (let e = or_add_and a b in omega (arith, e, none))

and_sum : (w a b : ℕ) → bit_and a b ≡ 0 → bit_and w (a + b) ≡ bit_and w a + bit_and w b
and_sum w a b none =
    ap (bit_and w) (sym (sum_of a b none))
    ∙ (and_either w a b ∙ sum_of (bit_and w a) (bit_and w b) (apart w a b none))

-- One bit.

one_bit : (n : ℕ) → n < 2 → (p : ℕ) → n * p ≡ (if n == 1 then p else 0)
one_bit zero low p = omega arith
one_bit (suc zero) low p = omega arith
one_bit (suc (suc n)) low p = absurd (omega (arith, low))

pub bit_kept : (w k : ℕ) → bit_and w (2 ^ k) ≡ bit k (has_bit w k)
bit_kept w k = and_pow w k ∙ one_bit (bit_at w k) (bit_at-lt w k) (2 ^ k)

-- Registers.

only : (bits w : ℕ) → has_only bits w ≡ true → bit_and w bits ≡ w
only bits w is = (Decides-eqb (bit_and w bits) w).0 is

supervisor_bit : (b : Bool) → bit 8 b ≡ bit 8 (is_supervisor (if b then S else U))
supervisor_bit true = refl
supervisor_bit false = refl

five_sums : (a b c d e a' b' c' d' e' : ℕ) → a ≡ a' → b ≡ b' → c ≡ c' → d ≡ d' → e ≡ e' →
    a + b + c + d + e ≡ a' + b' + c' + d' + e'
five_sums a b c d e a' b' c' d' e' p q r s t = λ i. p i + q i + r i + s i + t i

five_bits : (w : ℕ) → bit_and w (2 ^ 1 + 2 ^ 5 + 2 ^ 8 + 2 ^ 18 + 2 ^ 19) ≡ sstatus_word (sstatus_of w)
five_bits w =
    and_sum w (2 ^ 1 + 2 ^ 5 + 2 ^ 8 + 2 ^ 18) (2 ^ 19) refl
    ∙ (ap (λ (x : ℕ). x + bit_and w (2 ^ 19)) (and_sum w (2 ^ 1 + 2 ^ 5 + 2 ^ 8) (2 ^ 18) refl)
    ∙ (ap (λ (x : ℕ). x + bit_and w (2 ^ 18) + bit_and w (2 ^ 19)) (and_sum w (2 ^ 1 + 2 ^ 5) (2 ^ 8) refl)
    ∙ (ap (λ (x : ℕ). x + bit_and w (2 ^ 8) + bit_and w (2 ^ 18) + bit_and w (2 ^ 19)) (and_sum w (2 ^ 1) (2 ^ 5) refl)
    ∙ five_sums _ _ _ _ _ _ _ _ _ _ (bit_kept w 1) (bit_kept w 5) (bit_kept w 8 ∙ supervisor_bit (has_bit w 8)) (bit_kept w 18) (bit_kept w 19))))

pub status_kept : (w : ℕ) → has_only (slice_index kept_bits 0) w ≡ true → sstatus_word (sstatus_of w) ≡ w
status_kept w is = sym (five_bits w) ∙ only (2 ^ 1 + 2 ^ 5 + 2 ^ 8 + 2 ^ 18 + 2 ^ 19) w is

pub timer_kept : (w : ℕ) → has_only (2 ^ 5) w ≡ true → bit 5 (has_bit w 5) ≡ w
timer_kept w is = sym (bit_kept w 5) ∙ only (2 ^ 5) w is

pub aligned_kept : (w : ℕ) → w < 2 ^ 32 → has_only (2 ^ 32 - 4) w ≡ true → aligned w ≡ w
aligned_kept w fits is = sym (and_high_mask 32 2 (omega arith) w fits) ∙ only (2 ^ 32 - 4) w is

-- Tables.

-- two tables of the same numbers and words are one
pub same_tables : (xs ys : Csrs) → map (λ (e : ℕ × ℕ). e.0) xs ≡ map (λ (e : ℕ × ℕ). e.0) ys →
    map (λ (e : ℕ × ℕ). e.1) xs ≡ map (λ (e : ℕ × ℕ). e.1) ys → xs ≡ ys
same_tables [] [] numbers words = refl
same_tables [] (y ∷ ys) numbers words = absurd (cc)
same_tables (x ∷ xs) [] numbers words = absurd (cc)
same_tables (x ∷ xs) (y ∷ ys) numbers words =
    let first : x.0 ≡ y.0 = cc in
    let second : x.1 ≡ y.1 = cc in
    let rest = same_tables xs ys (cc) (cc) in
    λ i. (first i, second i) ∷ rest i

abbrev pub table_of : ℕ → ℕ → ℕ → ℕ → ℕ → ℕ → ℕ → ℕ → ℕ → Csrs
table_of a b c d e f g h i =
    (0x100, a) ∷ (0x104, b) ∷ (0x105, c) ∷ (0x140, d) ∷ (0x141, e) ∷ (0x142, f) ∷ (0x143, g) ∷ (0x144, h) ∷ (0x180, i) ∷ []

-- the registers after these were written
pub written_table : (a b c d e f g h i : ℕ) →
    csr.with_pending (has_bit h 5) (csr.csr_write (csr.csr_write (csr.csr_write (csr.csr_write (csr.csr_write (csr.csr_write
    (csr.csr_write (csr.csr_write csr.zero_csrs 0x100 a) 0x104 b) 0x105 c) 0x140 d) 0x141 e) 0x142 f) 0x143 g) 0x180 i)
    ≡ table_of (sstatus_word (sstatus_of a)) (bit 5 (has_bit b 5)) (aligned c) d (aligned e) f g (bit 5 (has_bit h 5)) i
unfolding csr.csr_write csr.with_pending
written_table a b c d e f g h i = refl

same_table : (a b c d e f g h i a' b' c' e' h' : ℕ) → a ≡ a' → b ≡ b' → c ≡ c' → e ≡ e' → h ≡ h' →
    table_of a b c d e f g h i ≡ table_of a' b' c' d e' f g h' i
same_table a b c d e f g h i a' b' c' e' h' p q r s t = λ k. table_of (p k) (q k) (r k) d (s k) f g (t k) i

nine : (ws : List ℕ) → length ws ≡ 9 →
    ws ≡ slice_index ws 0 ∷ slice_index ws 1 ∷ slice_index ws 2 ∷ slice_index ws 3 ∷ slice_index ws 4 ∷ slice_index ws 5
    ∷ slice_index ws 6 ∷ slice_index ws 7 ∷ slice_index ws 8 ∷ []
nine ws count = by_places ws 9 count

-- words that have only the bits that are kept are all of the registers
pub table_is : (ws : List ℕ) (csrs : Csrs) → length ws ≡ 9 → ((i : ℕ) → slice_index ws i < 2 ^ 32) →
    ((i : ℕ) → i < 9 → has_only (slice_index kept_bits i) (slice_index ws i) ≡ true) →
    map (λ (e : ℕ × ℕ). e.0) csrs ≡ csr.csr_numbers → csr.csr_words csrs ≡ ws →
    table_of (sstatus_word (sstatus_of (slice_index ws 0))) (bit 5 (has_bit (slice_index ws 1) 5)) (aligned (slice_index ws 2))
    (slice_index ws 3) (aligned (slice_index ws 4)) (slice_index ws 5) (slice_index ws 6) (bit 5 (has_bit (slice_index ws 7) 5))
    (slice_index ws 8) ≡ csrs
table_is ws csrs count fit kept numbers words =
    let w : ℕ → ℕ = λ i. slice_index ws i in
    same_table _ _ _ (w 3) _ (w 5) (w 6) _ (w 8) (w 0) (w 1) (w 2) (w 4) (w 7) (status_kept (w 0) (kept 0 (omega arith)))
    (timer_kept (w 1) (kept 1 (omega arith))) (aligned_kept (w 2) (fit 2) (kept 2 (omega arith)))
    (aligned_kept (w 4) (fit 4) (kept 4 (omega arith))) (timer_kept (w 7) (kept 7 (omega arith)))
    ∙ same_tables (table_of (w 0) (w 1) (w 2) (w 3) (w 4) (w 5) (w 6) (w 7) (w 8)) csrs (sym numbers) (sym (nine ws count) ∙ sym words)
