-- Digits one after the other, as a loop reads them.
use Rattle.std.proofs.Common.{◌≡◌, ℕ, zero, suc, ◌+◌, ◌*◌, ◌^◌, ◌<◌, ◌≤◌, List, [], ◌∷◌, length, get_or, drop, Option, Some, None, refl, add-one, drop-cons, arith}
use Rattle.std.proofs.lemmas.Bool.{le-ltb}
use Rattle.rv_asm.specs.Words.{◌>>=◌, digit, digits, narrow}

pub one_more : (base n : ℕ) (text : List ℕ) (i d : ℕ) → i < length text → digit base (get_or text i 0) ≡ Some d → digits base n (drop i text) ≡ digits base (base * n + d) (drop (i + 1) text)
one_more base n text i d lt h = rw (drop-cons text i 0, h, add-one) refl

pub stops : (base n : ℕ) (text : List ℕ) (i : ℕ) → i < length text → digit base (get_or text i 0) ≡ None → digits base n (drop i text) ≡ None
stops base n text i lt h = rw (drop-cons text i 0, h) refl

grows : (base n d : ℕ) → 0 < base → n ≤ base * n + d
grows zero n d h = elim h [ ]
grows (suc b) n d h = grind arith

narrow_large : (n : ℕ) → 2 ^ 32 ≤ n → narrow n ≡ None
narrow_large n h = rw (le-ltb n (2 ^ 32) h) refl

large-next : (base n : ℕ) (bs : List ℕ) (o : Option ℕ) → 0 < base → 2 ^ 32 ≤ n → ((m : ℕ) → 2 ^ 32 ≤ m → (digits base m bs >>= narrow) ≡ None) → ((o >>= λ d. digits base (base * n + d) bs) >>= narrow) ≡ None
large-next base n bs None pos h below = refl
large-next base n bs (Some d) pos h below = let g = grows base n d pos in below (base * n + d) (omega (arith, g))

-- what no 32 bits hold, more digits bring no lower
pub large : (base n : ℕ) (bs : List ℕ) → 0 < base → 2 ^ 32 ≤ n → (digits base n bs >>= narrow) ≡ None
large base n [] pos h = narrow_large n h
large base n (b ∷ bs) pos h = large-next base n bs (digit base b) pos h (λ m g. large base m bs pos g)
