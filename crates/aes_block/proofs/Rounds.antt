-- The rounds, undone from the last to the first; and no two blocks have one encryption.
use Rattle.std.proofs.Common.{◌≡◌, ◌<◌, ◌+◌, ◌-◌, ℕ, zero, suc, List, length, refl, sym, ◌∙◌, ap, subst, arith, add-one}
use Rattle.aes_block.specs.Bytes.{IsBytes}
use Rattle.aes_block.specs.State.{sub_bytes, shift_rows, mix_columns, block_sum}
use Rattle.aes_block.specs.RoundKey.{round_key}
use Rattle.aes_block.specs.Cipher.{after_rounds, encrypted}
use Rattle.aes_block.proofs.Blocks.{IsBytes-sub_bytes, IsBytes-shift_rows, IsBytes-mix_columns, IsBytes-block_sum}
use Rattle.aes_block.proofs.Blocks.{IsBytes-round_key}
use Rattle.aes_block.proofs.OneToOne.{block_sum-block_sum, block_sum-one_to_one, sub_bytes-one_to_one}
use Rattle.aes_block.proofs.OneToOne.{shift_rows-one_to_one, mix_columns-one_to_one}
use Rattle.aes_block.proofs.WordRounds.{mix_columns-block_sum}

pub after_rounds-next : (key : List ℕ) (j : ℕ) (s : List ℕ) →
    after_rounds key (j + 1) s
    ≡ block_sum (mix_columns (shift_rows (sub_bytes (after_rounds key j s)))) (round_key key (j + 1))
unfolding after_rounds
after_rounds-next key j s =
    subst (λ (m : ℕ). after_rounds key m s
    ≡ block_sum (mix_columns (shift_rows (sub_bytes (after_rounds key j s)))) (round_key key (j + 1)))
    (sym (add-one j)) refl

-- the rounds, one after another
pub rounds_start : (key b new k : List ℕ) → k ≡ round_key key 0 → new ≡ block_sum b k → new ≡ after_rounds key 0 b
unfolding after_rounds
rounds_start key b new k is e = e ∙ ap (λ (x : List ℕ). block_sum b x) is

pub rounds_more : (key b : List ℕ) (j : ℕ) (s new k : List ℕ) → s ≡ after_rounds key j b → k ≡ round_key key (j + 1) →
    new ≡ block_sum (mix_columns (shift_rows (sub_bytes s))) k → new ≡ after_rounds key (j + 1) b
rounds_more key b j s new k so is e =
    e
    ∙ ap (λ (x : List ℕ). block_sum (mix_columns (shift_rows (sub_bytes x))) k) so
    ∙ ap (λ (x : List ℕ). block_sum (mix_columns (shift_rows (sub_bytes (after_rounds key j b)))) x) is
    ∙ sym (after_rounds-next key j b)

pub rounds_end : (key b s new k : List ℕ) → s ≡ after_rounds key 9 b → k ≡ round_key key 10 →
    new ≡ block_sum (shift_rows (sub_bytes s)) k → new ≡ encrypted key b
unfolding encrypted
rounds_end key b s new k so is e =
    e
    ∙ ap (λ (x : List ℕ). block_sum (shift_rows (sub_bytes x)) k) so
    ∙ ap (λ (x : List ℕ). block_sum (shift_rows (sub_bytes (after_rounds key 9 b))) x) is

-- every state is a block
pub IsBytes-after_rounds : (key s : List ℕ) → IsBytes 16 key → IsBytes 16 s → (j : ℕ) →
    IsBytes 16 (after_rounds key j s)
unfolding after_rounds
IsBytes-after_rounds key s k b zero = IsBytes-block_sum s (round_key key 0) b (IsBytes-round_key key k 0)
IsBytes-after_rounds key s k b (suc j) =
    IsBytes-block_sum _ _ (IsBytes-mix_columns (shift_rows (sub_bytes (after_rounds key j s))))
    (IsBytes-round_key key k (j + 1))

-- the state after j rounds are undone: a block that has turned into it before the last step of round 9 - j, counted
-- from the first addition, is enciphered to the old one
pub record IsUndone (key old : List ℕ) (j : ℕ) (s : List ℕ) : Type 0 where
  pub enciphers : (p : List ℕ) → shift_rows (sub_bytes (after_rounds key (9 - j) p)) ≡ s → encrypted key p ≡ old

pub undone_start : (key old s k : List ℕ) → length old ≡ 16 → k ≡ round_key key 10 → s ≡ block_sum old k →
    IsUndone key old 0 s
unfolding encrypted
undone_start key old s k long same is = record {
  enciphers = λ p e.
      ap (λ (x : List ℕ). block_sum x (round_key key 10)) (e ∙ is ∙ ap (λ (x : List ℕ). block_sum old x) same)
      ∙ block_sum-block_sum old (round_key key 10) long;
}

pub undone_more : (key old : List ℕ) (j : ℕ) (s new k : List ℕ) → j < 9 → IsUndone key old j s →
    mix_columns k ≡ round_key key (9 - j) → shift_rows (sub_bytes (mix_columns (block_sum new k))) ≡ s →
    IsUndone key old (j + 1) new
undone_more key old j s new k low u mixes is =
    let n : (9 - (j + 1)) + 1 ≡ 9 - j = omega arith in
    let next : (p : List ℕ) → after_rounds key (9 - j) p
    ≡ block_sum (mix_columns (shift_rows (sub_bytes (after_rounds key (9 - (j + 1)) p)))) (round_key key (9 - j)) =
    λ p.
    subst (λ (m : ℕ). after_rounds key m p
    ≡ block_sum (mix_columns (shift_rows (sub_bytes (after_rounds key (9 - (j + 1)) p)))) (round_key key m))
    n (after_rounds-next key (9 - (j + 1)) p) in
    record {
      enciphers = λ p h.
          u.enciphers p
          (ap (λ (x : List ℕ). shift_rows (sub_bytes x))
          (next p
          ∙ ap (λ (x : List ℕ). block_sum (mix_columns x) (round_key key (9 - j))) h
          ∙ ap (λ (x : List ℕ). block_sum (mix_columns new) x) (sym mixes)
          ∙ sym (mix_columns-block_sum new k))
          ∙ is);
    }

pub undone_end : (key old s new k : List ℕ) → IsUndone key old 9 s → k ≡ round_key key 0 →
    shift_rows (sub_bytes (block_sum new k)) ≡ s → encrypted key new ≡ old
unfolding after_rounds
undone_end key old s new k u same is =
    u.enciphers new (ap (λ (x : List ℕ). shift_rows (sub_bytes (block_sum new x))) (sym same) ∙ is)

-- no two blocks become one
after_rounds-one_to_one : (key s t : List ℕ) → IsBytes 16 key → IsBytes 16 s → IsBytes 16 t → (j : ℕ) →
    after_rounds key j s ≡ after_rounds key j t → s ≡ t
unfolding after_rounds
after_rounds-one_to_one key s t k p q zero e = block_sum-one_to_one s t (round_key key 0) p.long q.long e
after_rounds-one_to_one key s t k p q (suc j) e =
    let a = IsBytes-after_rounds key s k p j in
    let b = IsBytes-after_rounds key t k q j in
    let c = IsBytes-sub_bytes _ a in
    let d = IsBytes-sub_bytes _ b in
    let f = IsBytes-shift_rows _ c in
    let g = IsBytes-shift_rows _ d in
    let m = IsBytes-mix_columns (shift_rows (sub_bytes (after_rounds key j s))) in
    let n = IsBytes-mix_columns (shift_rows (sub_bytes (after_rounds key j t))) in
    after_rounds-one_to_one key s t k p q j
    (sub_bytes-one_to_one _ _ a b (shift_rows-one_to_one _ _ c.long d.long
    (mix_columns-one_to_one _ _ f g (block_sum-one_to_one _ _ (round_key key (j + 1)) m.long n.long e))))

pub encrypted-one_to_one : (key s t : List ℕ) → IsBytes 16 key → IsBytes 16 s → IsBytes 16 t →
    encrypted key s ≡ encrypted key t → s ≡ t
unfolding encrypted
encrypted-one_to_one key s t k p q e =
    let a = IsBytes-after_rounds key s k p 9 in
    let b = IsBytes-after_rounds key t k q 9 in
    let c = IsBytes-sub_bytes _ a in
    let d = IsBytes-sub_bytes _ b in
    let f = IsBytes-shift_rows _ c in
    let g = IsBytes-shift_rows _ d in
    after_rounds-one_to_one key s t k p q 9
    (sub_bytes-one_to_one _ _ a b (shift_rows-one_to_one _ _ c.long d.long
    (block_sum-one_to_one _ _ (round_key key 10) f.long g.long e)))
