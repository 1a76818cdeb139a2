-- What a command finds in the words that it takes, and that it finds nothing in those that it refuses.
use Rattle.std.proofs.Common.{◌≡◌, ◌&&◌, Bool, true, false, ℕ, List, [], ◌∷◌, Some, None, ap₂, refl, sym, inl, inr}
use Rattle.clap.specs.Words.{App, HasKind, IsAmong, Kinds, Row, fault_of, is_simple, is_simple_and_free, kind_of, matches_of}
use Rattle.clap.specs.declared.error.Error.{Error}
use Rattle.clap.specs.declared.error.kind.ErrorKind.{ErrorKind}
use Rattle.clap.specs.declared.error.kind.ErrorKind.TheVariants.{OutOfMemory}
use Rattle.command_words.specs.Command.{found_in, unless_refused}

first_of_both : (a b : Bool) → (a && b) ≡ true → a ≡ true
first_of_both true b both = refl
first_of_both false b both = both

pub simple_of_free : (form : App) → is_simple_and_free form ≡ true → is_simple form ≡ true
simple_of_free form free = first_of_both (is_simple form) _ free

pub found : (form : App) (words : List (List ℕ)) (rows : List Row) → fault_of form words ≡ [] →
    rows ≡ matches_of form words → Some rows ≡ found_in form words
found form words rows taken same = sym (ap₂ unless_refused taken (sym same))

refused_of : (k : ErrorKind) (kinds : Kinds) (rows : List Row) → IsAmong k kinds → None ≡ unless_refused kinds rows
refused_of k [] rows among = absurd among
refused_of k (x ∷ xs) rows among = refl

pub refused : (error : Error) (kinds : Kinds) (rows : List Row) → HasKind kinds error →
    (kind_of error ≡ OutOfMemory → ⊥) → None ≡ unless_refused kinds rows
refused error kinds rows has other = elim has [
  | inl memory ↦ absurd (other memory)
  | inr among ↦ refused_of (kind_of error) kinds rows among
]
