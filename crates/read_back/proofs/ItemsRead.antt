-- Items that a reader finds one after another.
use Rattle.std.proofs.Common.{◌≡◌, ◌<◌, ◌≤◌, ◌^◌, ℕ, List, [], ◌∷◌, ◌++◌, length, Option, Some, None, Result, Ok, Err, refl, sym, subst, arith, length-append}
use Rattle.cloak_model.specs.Items.{Item}
use Rattle.record_reader.specs.Ahead.{readable}
use Rattle.record_reader.specs.Reading.{IsBehind, reader_offset}
use Rattle.record_reader.specs.declared.reader.Reader.{Reader}
use Rattle.read_back.specs.Items.{Finds, ReadsItems, StandsAt}
use Rattle.read_back.specs.Reading.{FitsAs, IsFirstUnfit, IsReadTo, ReadsAs, never_unfit}
use Rattle.read_back.specs.declared.ending.Ending.{Ending}
use Rattle.read_back.specs.declared.ending.Ending.TheVariants as ending
use Rattle.read_back.proofs.NextItem.{told_begins}

-- what was found is the same of a shelf whose files are the same
pub finds : (told now : Option (List ℕ)) (was next : Reader) (r : Result Item Ending) (items : List Item) → now ≡ told →
    ((items : List Item) → StandsAt now was items → Finds now next items r) → StandsAt told was items →
    Finds told next items r
finds told now was next r items same found stands =
    subst (λ (t : Option (List ℕ)). Finds t next items r) same
    (found items (subst (λ (t : Option (List ℕ)). StandsAt t was items) (sym same) stands))

pub at_front : (told : Option (List ℕ)) (reader : Reader) → ((bytes : List ℕ) → IsBehind reader bytes []) →
    StandsAt told reader []
at_front (Some bytes) reader front = front (readable bytes)
at_front None reader front = tt

-- reading ended so since an earlier count
pub reads_since : (m n k : ℕ) (ended : Ending) → n ≡ m → ReadsAs n k (Some ended) → ReadsAs m k (Some ended)
reads_since m n k ended same reads = subst (λ (x : ℕ). ReadsAs x k (Some ended)) same reads

-- reading ended so
pub read_to : (told : Option (List ℕ)) (was next : Reader) (items : List Item) (ended : Ending) (reading reads : ℕ) →
    StandsAt told was items → Finds told next items (Err ended) → ReadsAs reading reads (Some ended) →
    IsReadTo never_unfit told reading reads items (Some ended)
read_to told was next items ending.Whole reading reads stands found counts =
    record { fits = refl; file = found; counts = counts }
read_to told was next items (ending.Fault fault) reading reads stands found counts =
    record { fits = refl; file = found; counts = counts }
read_to told was next items (ending.Unfit step) reading reads stands found counts = absurd found
read_to told was next items ending.Unread reading reads stands found counts =
    record { fits = refl; file = told_begins told was items stands; counts = counts }

-- The items before a reader were taken.
pub record TookSoFar (took : List Item → Type 0) (told : Option (List ℕ)) (reader : Reader) : Type 0 where
  pub items : List Item
  pub stands : StandsAt told reader items
  pub taken : took items
  pub few : length items ≤ reader_offset reader

-- one item more
pub took_more : (took : List Item → Type 0) (told : Option (List ℕ)) (was now : Reader) (items : List Item) (i : Item) →
    StandsAt told now (items ++ i ∷ []) → took (items ++ i ∷ []) → length items ≤ reader_offset was →
    reader_offset was < reader_offset now → TookSoFar took told now
took_more took told was now items i stands taken few moved = record {
  items = items ++ i ∷ [];
  stands = stands;
  taken = taken;
  few = let long = length-append items (i ∷ []) in omega (arith, long, few, moved);
}

-- a taker took no more
pub takes_no_more : {X : Type 0} (took : List Item → Result Unit X → Type 0) (told : Option (List ℕ)) (now : Reader)
    (m n : ℕ) (items : List Item) (stop : X) → StandsAt told now items → took items (Err stop) → length items < 2 ^ 64 →
    n ≡ m → ReadsItems took told m n (Err stop)
takes_no_more {X} took told now m n items stop stands taken few counts = record {
  items = items;
  read = record { fits = refl; file = told_begins told now items stands; counts = counts };
  taken = taken;
  few = few;
}

-- there is no item more
pub reads_no_more : {X : Type 0} (took : List Item → Result Unit X → Type 0) (told : Option (List ℕ)) (was next : Reader)
    (m n : ℕ) (items : List Item) (ended : Ending) → StandsAt told was items → took items (Ok tt) → length items < 2 ^ 64 →
    Finds told next items (Err ended) → ReadsAs m n (Some ended) → ReadsItems took told m n (Ok ended)
reads_no_more {X} took told was next m n items ended stands taken few found counts = record {
  items = items;
  read = read_to told was next items ended m n stands found counts;
  taken = taken;
  few = few;
}

-- a machine that found that these items fit, or that the last of them is unfit
pub fits_so : {unfit : List Item → Option ℕ} {told : Option (List ℕ)} {m n : ℕ} {items : List Item}
    (ended : Option Ending) → unfit items ≡ None → IsReadTo never_unfit told m n items ended →
    IsReadTo unfit told m n items ended
fits_so {unfit} {told} {m} {n} {items} ended fit read =
    record { fits = fits ended read.fits; file = read.file; counts = read.counts }
  where
    fits : (ended : Option Ending) → FitsAs never_unfit items ended → FitsAs unfit items ended
    fits None is = fit
    fits (Some ending.Whole) is = fit
    fits (Some (ending.Fault fault)) is = fit
    fits (Some ending.Unread) is = fit
    fits (Some (ending.Unfit step)) is = absurd (let clash : None ≡ Some step = is.is_unfit in cc)

pub stops_so : {unfit : List Item → Option ℕ} {told : Option (List ℕ)} {m n : ℕ} {items : List Item} (step : ℕ) →
    IsFirstUnfit unfit items step → IsReadTo never_unfit told m n items None →
    IsReadTo unfit told m n items (Some (ending.Unfit step))
stops_so {unfit} {told} {m} {n} {items} step unfits read =
    record { fits = unfits; file = read.file; counts = read.counts }
