-- The fields of a file, each at its offset: its value, or the fault that it has.
use Rattle.std.specs.Prelude.{◌≡◌, ℕ, ◌+◌, ◌-◌, ◌*◌, ◌/◌, ◌%◌, ◌==◌, List, length, take, drop, Result, Ok, Err}
use Rattle.std.specs.Prelude.{MatchResult, nat_lt, if◌then◌else◌}
use Rattle.std.specs.Int.{w32, from_le_bytes}
use Rattle.cloak_model.specs.Bundle.{Range}
use Rattle.cloak_model.specs.declared.fault.BundleFault.{BundleFault}
use Rattle.cloak_model.specs.declared.fault.BundleFault.TheVariants.{Short, BadMagic, BadVersion, BadCount, TooLarge}
use Rattle.cloak_model.specs.declared.fault.BundleFault.TheVariants.{BadRange, Extra, NoMemory}

infixl 10 ◌>>=◌
abbrev pub ◌>>=◌ : {A B : Type 0} → Result A BundleFault → (A → Result B BundleFault) → Result B BundleFault
(Ok x) >>= f = f x
(Err e) >>= f = Err e

-- What a function returned, seen by view, is what reading returns, unless memory ran out.
abbrev pub Fails : {Y : Type 0} → BundleFault → Result Y BundleFault → Type 0
Fails NoMemory read = Unit {0}
Fails (Short at) read = read ≡ Err (Short at)
Fails BadMagic read = read ≡ Err BadMagic
Fails (BadVersion n) read = read ≡ Err (BadVersion n)
Fails (BadCount at) read = read ≡ Err (BadCount at)
Fails (TooLarge at) read = read ≡ Err (TooLarge at)
Fails (BadRange at) read = read ≡ Err (BadRange at)
Fails (Extra at) read = read ≡ Err (Extra at)

abbrev pub Gives : {X Y : Type 0} → (X → Y) → Result X BundleFault → Result Y BundleFault → Type 0
Gives view (Ok x) read = read ≡ Ok (view x)
Gives view (Err e) read = Fails e read

-- What a function that takes no memory returned, seen by view, is what reading returns.
abbrev pub Shows : {X Y : Type 0} → (X → Y) → Result X BundleFault → Result Y BundleFault → Type 0
Shows view result read = MatchResult result (λ x. read ≡ Ok (view x)) (λ e. read ≡ Err e)

-- n bytes
abbrev pub bytes_at : List ℕ → ℕ → ℕ → Result (List ℕ) BundleFault
bytes_at file at n = if nat_lt (length file - at) n then Err (Short at) else Ok (take n (drop at file))

-- n fields of 4096 bytes
abbrev pub pages_at : List ℕ → ℕ → ℕ → Result (List ℕ) BundleFault
pages_at file at n =
    if nat_lt (length file - at) (4096 * n)
    then Err (Short (at + (length file - at) / 4096 * 4096))
    else Ok (take (4096 * n) (drop at file))

-- four bytes, the lowest first
abbrev pub number_at : List ℕ → ℕ → Result ℕ BundleFault
number_at file at =
    if nat_lt (length file - at) 4 then Err (Short at) else Ok (from_le_bytes w32 (take 4 (drop at file)))

-- a number of a range
unfoldable pub count_at : List ℕ → ℕ → Range → Result ℕ BundleFault
count_at file at range = do
  n ← number_at file at
  if nat_lt n range.low then Err (BadCount at) else if nat_lt range.high n then Err (TooLarge at) else Ok n

-- a multiple of 4
unfoldable pub entry_at : List ℕ → ℕ → Result ℕ BundleFault
entry_at file at = do
  n ← number_at file at
  if n % 4 == 0 then Ok n else Err (BadRange at)
