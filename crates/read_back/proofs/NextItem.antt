-- What the next item of a file says of it.
use Rattle.std.proofs.Common.{◌≡◌, ℕ, inl, inr, List, [], ◌∷◌, ◌++◌, Option, Some, None, IfSome, Result, Ok, Err, ap, subst, ◌∙◌}
use Rattle.io_traits.specs.Told.{Rose}
use Rattle.io_traits.proofs.ToldFacts.{Rose-after}
use Rattle.cloak_model.specs.declared.item.Item as code
use Rattle.cloak_model.specs.Items.{Item}
use Rattle.cloak_model.specs.declared.fault.RecordFault.{RecordFault}
use Rattle.cloak_model.specs.Record.{IsRecord}
use Rattle.record_reader.specs.Ahead.{readable}
use Rattle.record_reader.specs.Reading.{IsBehind, ReadsNext, ReadsCount, HasFaultAt, item_read}
use Rattle.record_reader.specs.declared.fault.NextFault.{NextFault}
use Rattle.record_reader.specs.declared.fault.NextFault.TheVariants.{Read, Record}
use Rattle.record_reader.specs.declared.reader.Reader.{Reader}
use Rattle.read_back.specs.Reading.{BeginsWith}
use Rattle.std.proofs.lemmas.Option.{IfSome_then}

-- what a call of `next` says of a file
abbrev pub TellsNext : Option (List ℕ) → Reader → Reader → Result (Option code.Item) NextFault → Type 0
TellsNext told was now result =
    IfSome told (λ bytes. (front : List Item) → IsBehind was (readable bytes) front →
    ReadsNext (readable bytes) front now (item_read result))

-- a file that is told, and not told
told_by : (told told' : Option (List ℕ)) (P Q : List ℕ → Type 0) → told' ≡ told → IfSome told P →
    IfSome told' (λ b. P b → Q b) → IfSome told Q
told_by (Some bytes) told' P Q same behind next =
    let there : P bytes → Q bytes = subst (λ (t : Option (List ℕ)). IfSome t (λ b. P b → Q b)) same next in there behind
told_by None told' P Q same behind next = tt

-- what a result that is this one says after these items
at_front : (now : Option (List ℕ)) (was next : Reader) (r : Result (Option code.Item) NextFault)
    (s : Result (Option Item) NextFault) (items : List Item) → item_read r ≡ s → TellsNext now was next r →
    IfSome now (λ bytes. IsBehind was (readable bytes) items → ReadsNext (readable bytes) items next s)
at_front (Some bytes) was next r s items is tells = λ behind.
    subst (λ (x : Result (Option Item) NextFault). ReadsNext (readable bytes) items next x) is (tells items behind)
at_front None was next r s items is tells = tt

next_read : (told now : Option (List ℕ)) (was next : Reader) (r : Result (Option code.Item) NextFault)
    (s : Result (Option Item) NextFault) → now ≡ told → item_read r ≡ s → TellsNext now was next r →
    (items : List Item) → IfSome told (λ bytes. IsBehind was (readable bytes) items) →
    IfSome told (λ bytes. ReadsNext (readable bytes) items next s)
next_read told now was next r s same is tells items behind =
    told_by told now (λ bytes. IsBehind was (readable bytes) items) (λ bytes. ReadsNext (readable bytes) items next s) same
    behind (at_front now was next r s items is tells)

pub next_item : (told now : Option (List ℕ)) (was next : Reader) (r : Result (Option code.Item) NextFault)
    (i : Item) → now ≡ told → item_read r ≡ Ok (Some i) → TellsNext now was next r → (items : List Item) →
    IfSome told (λ bytes. IsBehind was (readable bytes) items) →
    IfSome told (λ bytes. IsBehind next (readable bytes) (items ++ i ∷ []))
next_item told now was next r i same is tells items behind =
    IfSome_then told (next_read told now was next r (Ok (Some i)) same is tells items behind)
    (λ bytes read. read.behind)

pub next_none : (told now : Option (List ℕ)) (was next : Reader) (r : Result (Option code.Item) NextFault) → now ≡ told → r ≡ Ok None → TellsNext now was next r → (items : List Item) →
    IfSome told (λ bytes. IsBehind was (readable bytes) items) →
    IfSome told (λ bytes. IsRecord (readable bytes) items)
next_none told now was next r same is tells items behind =
    IfSome_then told (next_read told now was next r (Ok None) same
    (ap (λ x. item_read x) is) tells items behind) (λ bytes read. read.answer)

pub next_fault : (told now : Option (List ℕ)) (was next : Reader) (r : Result (Option code.Item) NextFault) (fault : RecordFault) → now ≡ told → r ≡ Err (Record fault) → TellsNext now was next r → (items : List Item) →
    IfSome told (λ bytes. IsBehind was (readable bytes) items) →
    IfSome told (λ bytes. HasFaultAt (readable bytes) items fault)
next_fault told now was next r fault same is tells items behind =
    IfSome_then told
    (next_read told now was next r (Err (Record fault)) same (ap (λ x. item_read x) is) tells items behind)
    (λ bytes read. read.answer)

-- the file begins with the items after which a reader stands
begins : (reader : Reader) (items : List Item) (bytes : List ℕ) → IsBehind reader bytes items → BeginsWith bytes items
begins reader items bytes behind = elim behind.0.place [ inl start ↦ inl start.1 | inr there ↦ inr (_, there.1) ]

pub told_begins : (told : Option (List ℕ)) (reader : Reader) (items : List Item) →
    IfSome told (λ bytes. IsBehind reader (readable bytes) items) →
    IfSome told (λ bytes. BeginsWith (readable bytes) items)
told_begins told reader items behind =
    IfSome_then told behind (λ bytes fact. begins reader items (readable bytes) fact)

-- the count of reading faults
pub counted : {A : Type 0} (m n k : ℕ) (r : Result A NextFault) (a : A) → n ≡ m → r ≡ Ok a → ReadsCount n k r → k ≡ m
counted {A} m n k r a same is counts =
    let here : ReadsCount n k (Ok a) = subst (λ (x : Result A NextFault). ReadsCount n k x) is counts in here ∙ same

pub counted_fault : {A : Type 0} (m n k : ℕ) (r : Result A NextFault) (fault : RecordFault) → n ≡ m →
    r ≡ Err (Record fault) → ReadsCount n k r → k ≡ m
counted_fault {A} m n k r fault same is counts =
    let here : ReadsCount {A = A} n k (Err (Record fault)) =
    subst (λ (x : Result A NextFault). ReadsCount n k x) is counts in here ∙ same

pub risen : {A : Type 0} (m n k : ℕ) (r : Result A NextFault) → n ≡ m → r ≡ Err Read → ReadsCount n k r → Rose m k
risen {A} m n k r same is counts =
    let here : ReadsCount {A = A} n k (Err Read) =
    subst (λ (x : Result A NextFault). ReadsCount n k x) is counts in Rose-after m n k same here
