-- What shelves and sinks tell of their bytes, and what their counts of faults say.
use Rattle.std.specs.Prelude.{ℕ, ◌≡◌, ◌≢◌, ◌+◌, ◌-◌, ◌^◌, ◌<◌, ◌≤◌, min, List, ◌++◌, length, take, drop, Option}
use Rattle.std.specs.Prelude.{◌⊎◌, IfSome, Result, Ok, Err}
use Rattle.cloak_base.specs.declared.causes.Failed.{Failed}

-- if bytes are told, they are these
abbrev pub Tells : Option (List ℕ) → List ℕ → Type 0
Tells told bytes = IfSome told (λ known. known ≡ bytes)

-- after what stood there, as far as it is told, stands this piece
abbrev pub Grows : Option (List ℕ) → Option (List ℕ) → List ℕ → Type 0
Grows old new piece = (before : List ℕ) → Tells old before → Tells new (before ++ piece)

-- after what stood there, as far as it is told, stands a front of this piece
abbrev pub GrowsByFront : Option (List ℕ) → Option (List ℕ) → List ℕ → Type 0
GrowsByFront old new piece = (before : List ℕ) → Tells old before →
    (n : ℕ) × (n ≤ length piece) × Tells new (before ++ take n piece)

-- A count of faults rose. One that stands at its last value, 2^64 - 1, stays there and counts as risen.
abbrev pub Rose : ℕ → ℕ → Type 0
Rose before now = min (before + 1) (2 ^ 64 - 1) ≤ now

-- a call that succeeded leaves the count, and at one that failed the count rose
abbrev pub Counts : {A : Type 0} → ℕ → ℕ → Result A Failed → Type 0
Counts before now (Ok a) = now ≡ before
Counts before now (Err e) = Rose before now

-- The name of the file of which reading failed last: a call that succeeded leaves it, and after one that failed it is this
-- one, if it is told.
abbrev pub NamesFault : {A : Type 0} → Option (List ℕ) → Option (List ℕ) → List ℕ → Result A Failed → Type 0
NamesFault before now name (Ok a) = now ≡ before
NamesFault before now name (Err e) = Tells now name

-- a call that succeeded leaves both counts, and at one that failed one of them rose
abbrev pub CountsEither : {A : Type 0} → ℕ → ℕ → ℕ → ℕ → Result A Failed → Type 0
CountsEither reading reads writing writes (Ok a) = (reads ≡ reading) × (writes ≡ writing)
CountsEither reading reads writing writes (Err e) =
    (Rose reading reads × (writes ≡ writing)) ⊎ (Rose writing writes × (reads ≡ reading))

-- the bytes of every name, as far as they are told, stay
abbrev pub SameFiles : (List ℕ → Option (List ℕ)) → (List ℕ → Option (List ℕ)) → Type 0
SameFiles old new = (name : List ℕ) → new name ≡ old name

-- the bytes of every other name stay
abbrev pub OtherFiles : List ℕ → (List ℕ → Option (List ℕ)) → (List ℕ → Option (List ℕ)) → Type 0
OtherFiles name old new = (other : List ℕ) → other ≢ name → new other ≡ old other

-- n bytes from an offset on stand at the front of a buffer, and none only at the end or for an empty buffer
pub record IsCopied (bytes : List ℕ) (at n : ℕ) (old new : List ℕ) : Type 0 where
  pub within : n ≤ length (drop at bytes)
  pub copied : new ≡ take n (drop at bytes) ++ drop n old
  pub at_end : n ≡ 0 → 0 < length old → length bytes ≤ at

-- what a call did that puts a text: all of it, or a front of it and a fault
abbrev pub Puts : Option (List ℕ) → Option (List ℕ) → ℕ → ℕ → List ℕ → Result Unit Failed → Type 0
Puts old new before now text (Ok u) = Grows old new text × (now ≡ before)
Puts old new before now text (Err e) = GrowsByFront old new text × Rose before now
