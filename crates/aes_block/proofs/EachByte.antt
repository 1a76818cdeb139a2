-- What a test over every byte says of each.
use Rattle.std.proofs.Common.{◌≡◌, ◌<◌, ◌+◌, ℕ, zero, suc, Bool, true, arith, sym, subst, inl, inr, nat_eq, nat_lt}
use Rattle.std.specs.List.{list_all, range_with_len}
use Rattle.std.proofs.lemmas.Bool.{eqb-true, and_parts}
use Rattle.std.proofs.lemmas.Bool.Decides.{eqb_tells, nat_tests}
use Rattle.aes_block.specs.Bytes.{each_byte}

-- what passes at each number of a range
pub passes_at : (p : ℕ → Bool) (i k b : ℕ) → list_all p (range_with_len i k) ≡ true → i < b + 1 → b < i + k →
    p b ≡ true
passes_at p i zero b all low high = absurd (omega arith)
passes_at p i (suc k) b all low high =
    let each = and_parts (p i) (list_all p (range_with_len (i + 1) k)) all in
    elim (eqb_tells b i) [
      | inl e ↦ subst (λ (x : ℕ). p x ≡ true) (sym e.1) each.0
      | inr e ↦ (let ne = e.1 in passes_at p (i + 1) k b each.1 (omega arith) (omega arith))
    ]

-- two functions agree below n
abbrev pub agree_to : ℕ → (ℕ → ℕ) → (ℕ → ℕ) → Bool
agree_to n f g = list_all (λ b. nat_eq (f b) (g b)) (range_with_len 0 n)

pub agree_below : (n : ℕ) (f g : ℕ → ℕ) → agree_to n f g ≡ true → (b : ℕ) → b < n → f b ≡ g b
agree_below n f g h b low = eqb-true _ _ (passes_at (λ b. nat_eq (f b) (g b)) 0 n b h (omega arith) (omega arith))

-- two functions agree at each byte
abbrev pub agree : (ℕ → ℕ) → (ℕ → ℕ) → Bool
agree f g = list_all (λ b. nat_eq (f b) (g b)) each_byte

pub agree_at : (f g : ℕ → ℕ) → agree f g ≡ true → (b : ℕ) → b < 256 → f b ≡ g b
unfolding each_byte
agree_at f g h b low = agree_below 256 f g h b low

-- a function takes each byte to a byte
abbrev pub gives_bytes : (ℕ → ℕ) → Bool
gives_bytes f = list_all (λ b. nat_lt (f b) 256) each_byte

pub gives_bytes_at : (f : ℕ → ℕ) → gives_bytes f ≡ true → (b : ℕ) → b < 256 → f b < 256
unfolding each_byte
gives_bytes_at f h b low =
    let e = passes_at (λ b. nat_lt (f b) 256) 0 256 b h (omega arith) (omega arith) in
    grind (arith, nat_tests)
