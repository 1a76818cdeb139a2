-- Grammars of files whose fields stand one after the other, and the first fault of a file that has none of their
-- values: a field that is not whole, or one whose value breaks its rule. A field is tested as soon as it is read
-- whole.
use Rattle.std.specs.Prelude.{ℕ, zero, suc, ◌-◌, Bool, List, [], ◌∷◌, ◌++◌, length, take, drop, Option, Some, None, nat_lt, if◌then◌else◌}
use Rattle.std.specs.Int.{w32, from_le_bytes}

-- a field: its offset and its size, the fault of a file that ends within it, and that of its value, if this breaks
-- its rule
pub record Field (F : Type 0) : Type 0 where
  pub at : ℕ
  pub size : ℕ
  pub cut : F
  pub wrong : Option F

abbrev pub first_of : {F : Type 0} → Option F → Option F → Option F
first_of None later = later
first_of (Some fault) later = Some fault

-- a field is not whole if fewer bytes are left than it has
abbrev pub fault_in : {F : Type 0} → List ℕ → Field F → Option F
fault_in file f = if nat_lt (length file - f.at) f.size then Some f.cut else f.wrong

abbrev pub first_in : {F : Type 0} → List ℕ → List (Field F) → Option F
first_in file [] = None
first_in file (f ∷ fs) = first_of (fault_in file f) (first_in file fs)

-- the number in the four bytes from an offset on, the lowest first
abbrev pub number : List ℕ → ℕ → ℕ
number file at = from_le_bytes w32 (take 4 (drop at file))

-- a field of any value
abbrev pub free : {F : Type 0} → ℕ → ℕ → F → Field F
free at size cut = record { at = at; size = size; cut = cut; wrong = None }

-- a field whose value is right, or has this fault
abbrev pub ruled : {F : Type 0} → ℕ → ℕ → F → Bool → F → Field F
ruled at size cut right fault = record { at = at; size = size; cut = cut; wrong = if right then None else Some fault }

-- n parts, each from the offset after the one before it: their fields, and the offset after the last
unfoldable pub parts : {F : Type 0} → (ℕ → List (Field F)) → (ℕ → ℕ) → ℕ → ℕ → List (Field F)
parts fields after zero at = []
parts fields after (suc n) at = fields at ++ parts fields after n (after at)

unfoldable pub after_parts : (ℕ → ℕ) → ℕ → ℕ → ℕ
after_parts after zero at = at
after_parts after (suc n) at = after_parts after n (after at)
