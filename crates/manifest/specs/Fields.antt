-- What stands at a key of a table, by the rule of the key; or what is wrong there.
use Rattle.std.specs.Prelude.{ℕ, suc, ◌≡◌, ◌-◌, ◌%◌, ◌==◌, ◌&&◌, ◌||◌, Bool, false, pos, negsuc, ℤ, List, [], ◌∷◌, Option, Some, None, is_some, Result, Ok, Err, MatchResult, nat_lt, nat_le, unwrap_or, bytes_eq, if◌then◌else◌}
use Rattle.cloak_model.specs.Bundle.{Range}
use Rattle.toml.specs.Data.{Data, as_integer, as_str, as_array, as_table, Items, no_items, item, Members, no_members, member}
use Rattle.manifest.specs.declared.key.Key.{Key}
use Rattle.manifest.specs.declared.key.ManifestTable.{ManifestTable}
use Rattle.manifest.specs.declared.fault.FaultyKey.{FaultyKey}
use Rattle.manifest.specs.declared.fault.KeyFault.{KeyFault}
use Rattle.manifest.specs.declared.fault.KeyFault.TheVariants.{Missing, NoNumber, NoMultiple, NoName, NoList, TooMany, BesideElf}
use Rattle.manifest.specs.Keys.{key_name, stands_at}

-- one, and then another; the first fault is the fault of both
infixl 10 ◌>>=◌
abbrev pub ◌>>=◌ : {A B : Type 0} → Result A FaultyKey → (A → Result B FaultyKey) → Result B FaultyKey
(Ok x) >>= f = f x
(Err e) >>= f = Err e

-- What a function returned, seen by view, is what is read.
abbrev pub Shows : {X A : Type 0} → (X → A) → Result X FaultyKey → Result A FaultyKey → Type 0
Shows view result read = MatchResult result (λ x. read ≡ Ok (view x)) (λ e. read ≡ Err e)

abbrev pub or_fault : {A : Type 0} → Option A → FaultyKey → Result A FaultyKey
or_fault None fault = Err fault
or_fault (Some x) fault = Ok x

-- what is read of the value that stands here, if one does
abbrev pub if_given : {A : Type 0} → (Data → Result A FaultyKey) → Option Data → Result (Option A) FaultyKey
if_given read None = Ok None
if_given read (Some value) = read value >>= (λ x. Ok (Some x))

-- the numbers below another one
abbrev pub below : ℕ → Range
below n = record { low = 0; high = n - 1 }

-- the integer is a number of a range
unfoldable pub number_from : Range → Option ℤ → Option ℕ
number_from range None = None
number_from range (Some (pos n)) = if nat_le range.low n && nat_le n range.high then Some n else None
number_from range (Some (negsuc n)) = None

-- how many values
abbrev pub count_of : Items → ℕ
count_of no_items = 0
count_of (item value values) = suc (count_of values)

-- one of these keys is written so
unfoldable pub is_among : List Key → List ℕ → Bool
is_among [] name = false
is_among (key ∷ keys) name = bytes_eq (key_name key) name || is_among keys name

-- the first key of a table that is none of these
abbrev pub first_other : List Key → Members → Option (List ℕ)
first_other keys no_members = None
first_other keys (member name value others) = if is_among keys name then first_other keys others else Some name

unfoldable pub other_key : List Key → Option Members → Option (List ℕ)
other_key keys None = None
other_key keys (Some members) = first_other keys members

module _ (part : ManifestTable) where
  abbrev pub wrong_at : Key → KeyFault → FaultyKey
  wrong_at key wrong = record { part = part; key = key; wrong = wrong }

  -- the number is a multiple of another one
  unfoldable pub multiple_at : Key → (of : ℕ) → ℕ → Result ℕ FaultyKey
  multiple_at key of n = if n % of == 0 then Ok n else Err (wrong_at key (NoMultiple of))

  module _ (table : Data) where
    -- none of these keys stands beside `elf`
    unfoldable pub alone_at : List Key → Result (Unit {0}) FaultyKey
    alone_at [] = Ok tt
    alone_at (key ∷ keys) = if is_some (stands_at key table) then Err (wrong_at key BesideElf) else alone_at keys

    -- a whole number of a range, if one is given
    unfoldable pub number_at : Key → Range → Result (Option ℕ) FaultyKey
    number_at key range =
        if_given (λ value. or_fault (number_from range (as_integer value)) (wrong_at key (NoNumber range.low range.high)))
        (stands_at key table)

    -- a whole number that is needed
    unfoldable pub needed_at : Key → Range → Result ℕ FaultyKey
    needed_at key range = number_at key range >>= (λ found. or_fault found (wrong_at key Missing))

    -- a whole number, or another one if none is given
    unfoldable pub number_or_at : Key → Range → (otherwise : ℕ) → Result ℕ FaultyKey
    number_or_at key range otherwise = number_at key range >>= (λ found. Ok (unwrap_or found otherwise))

    -- the name of a file, if one is given
    unfoldable pub name_at : Key → Result (Option (List ℕ)) FaultyKey
    name_at key = if_given (λ value. or_fault (as_str value) (wrong_at key NoName)) (stands_at key table)

    -- a list, which is empty if none is given
    unfoldable pub list_at : Key → Result Items FaultyKey
    list_at key =
        if_given (λ value. or_fault (as_array value) (wrong_at key NoList)) (stands_at key table)
        >>= (λ found. Ok (unwrap_or found no_items))

    -- a list of at most `most` values
    unfoldable pub short_list_at : Key → (most : ℕ) → Result Items FaultyKey
    short_list_at key most =
        list_at key >>= (λ values. if nat_lt most (count_of values) then Err (wrong_at key (TooMany most)) else Ok values)
