-- The values of a list in turn, as a loop goes over them.
use Rattle.std.proofs.Common.{◌≡◌, ◌∙◌, ◌<◌, ◌≤◌, ◌+◌, ◌-◌, ℕ, suc, List, [], ◌∷◌, ◌++◌, length, get_or, drop, Option, Some, None, Result, Ok, Err, refl, sym, ap, subst, add-one}
use Rattle.std.proofs.lemmas.List.{drop_all}
use Rattle.std.proofs.Math.Seq.{drop-cons}
use Rattle.toml.specs.declared.value.Value.{Value}
use Rattle.toml.specs.Data.{Data, as_integer}
use Rattle.toml.specs.View.{view, items_view}
use Rattle.manifest.specs.declared.key.ManifestTable.{ManifestTable}
use Rattle.manifest.specs.declared.key.Key.TheVariants.{Schedule}
use Rattle.manifest.specs.declared.fault.KeyFault.TheVariants.{NoTurn}
use Rattle.manifest.specs.declared.fault.FaultyKey.{FaultyKey}
use Rattle.manifest.specs.Fields.{below, number_from, wrong_at}
use Rattle.manifest.specs.Parts.{turns_of}
use Rattle.manifest.specs.Faults.{Fault, Then}
use Rattle.manifest.specs.Sources.{InTurn}

-- the value at an index, and those after it
split : (values : List Value) (i : ℕ) (value : Value) → i < length values → value ≡ get_or values i value →
    value ∷ drop (i + 1) values ≡ drop i values
split values i value inside here =
    ap (λ (x : Value). x ∷ drop (i + 1) values) here
    ∙ ap (λ (n : ℕ). get_or values i value ∷ drop n values) (add-one i)
    ∙ sym (drop-cons values i value inside)

pub goes_on : {A : Type 0} (Reads : ℕ → Data → A → Result A Fault → Type 0) (tables : List Value) (i : ℕ) (table : Value)
    (so_far next : A) (r : Result A Fault) → i < length tables → table ≡ get_or tables i table →
    Reads (i + 1) (view table) so_far (Ok next) → InTurn Reads (i + 1 + 1) (items_view (drop (i + 1) tables)) next r →
    InTurn Reads (i + 1) (items_view (drop i tables)) so_far r
unfolding InTurn
goes_on Reads tables i table so_far next r inside here reads rest =
    subst (λ (values : List Value). InTurn Reads (i + 1) (items_view values) so_far r) (split tables i table inside here)
    (Ok next, reads, rest)

pub ends_wrong : {A : Type 0} (Reads : ℕ → Data → A → Result A Fault → Type 0) (tables : List Value) (i : ℕ) (table : Value)
    (so_far : A) (fault : Fault) → i < length tables → table ≡ get_or tables i table →
    Reads (i + 1) (view table) so_far (Err fault) → InTurn Reads (i + 1) (items_view (drop i tables)) so_far (Err fault)
unfolding InTurn
ends_wrong Reads tables i table so_far fault inside here reads =
    subst (λ (values : List Value). InTurn Reads (i + 1) (items_view values) so_far (Err fault)) (split tables i table inside here)
    (Err fault, reads, refl)

pub is_over : {A : Type 0} (Reads : ℕ → Data → A → Result A Fault → Type 0) (number : ℕ) (tables : List Value) (i : ℕ)
    (so_far : A) → length tables ≤ i → InTurn Reads number (items_view (drop i tables)) so_far (Ok so_far)
unfolding InTurn
is_over Reads number tables i so_far past =
    subst (λ (values : List Value). InTurn Reads number (items_view values) so_far (Ok so_far)) (sym (drop_all i tables past)) refl

-- ---- the turns of a schedule

pub turn_more : (at : ManifestTable) (harts : ℕ) (turns : List Value) (i : ℕ) (value : Value) (so_far : List ℕ) (turn : ℕ) →
    i < length turns → value ≡ get_or turns i value → number_from (below harts) (as_integer (view value)) ≡ Some turn →
    turns_of at harts so_far (items_view (drop i turns))
    ≡ turns_of at harts (so_far ++ turn ∷ []) (items_view (drop (i + 1) turns))
unfolding turns_of
turn_more at harts turns i value so_far turn inside here is = rw (← split turns i value inside here, is) refl

pub turn_wrong : (at : ManifestTable) (harts : ℕ) (turns : List Value) (i : ℕ) (value : Value) (so_far : List ℕ) →
    i < length turns → value ≡ get_or turns i value → number_from (below harts) (as_integer (view value)) ≡ None →
    turns_of at harts so_far (items_view (drop i turns)) ≡ Err (wrong_at at Schedule (NoTurn (harts - 1)))
unfolding turns_of
turn_wrong at harts turns i value so_far inside here is = rw (← split turns i value inside here, is) refl

pub turns_over : (at : ManifestTable) (harts : ℕ) (turns : List Value) (i : ℕ) (so_far : List ℕ) → length turns ≤ i →
    turns_of at harts so_far (items_view (drop i turns)) ≡ Ok so_far
unfolding turns_of
turns_over at harts turns i so_far past = rw (drop_all i turns past) refl
