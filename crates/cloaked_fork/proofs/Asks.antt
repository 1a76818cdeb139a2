-- Questions that are asked one after another: for copies, and for drops.
use Rattle.std.proofs.Common.{◌≡◌, ◌<◌, ◌+◌, ℕ, Bool, true, false, List, [], ◌∷◌, length, drop, get_or, add-one}
use Rattle.std.proofs.Math.Seq.{drop-cons}
use Rattle.cloak_model.specs.World.{World}
use Rattle.cloak_model.specs.Asking.{Follows}
use Rattle.cloak_model.specs.AskPages.{ask_copy, ask_forget}
use Rattle.cloak_model.specs.Fork.{copy_each, forget_each, places}
use Rattle.cloak_model.specs.Script.{played}
use Rattle.cloak_model.proofs.ScriptLater.{later_played}
use Rattle.cloak_model.proofs.Following.{then_follows}

-- what is left from a place on
pub drop_next : {A : Type 0} (xs : List A) (i : ℕ) (d : A) → i < length xs → drop i xs ≡ get_or xs i d ∷ drop (i + 1) xs
drop_next xs i d inside = rw add-one (drop-cons xs i d inside)

-- if nothing is left to be asked, nothing happens
pub copies_end : {S : Type 0} (stands_for : S → S → World → Type 0) (now : S) (domain : ℕ) → Follows stands_for now now tt (played (copy_each domain []))
unfolding copy_each
copies_end stands_for now domain first w stands unclashed = record { answer = λ i. tt; stands = stands }

pub forgets_end : {S : Type 0} (stands_for : S → S → World → Type 0) (now : S) (domain : ℕ) → Follows stands_for now now tt (played (forget_each domain []))
unfolding forget_each
forgets_end stands_for now domain first w stands unclashed = record { answer = λ i. tt; stands = stands }

-- the next copy, and those that are left
pub copies_next : {S : Type 0} (stands_for : S → S → World → Type 0) (now next new : S) (domain : ℕ) (copy : ℕ × ℕ) (rest : List (ℕ × ℕ)) →
    Follows stands_for now next tt (ask_copy domain copy.0 copy.1) → Follows stands_for next new tt (played (copy_each domain rest)) → Follows stands_for now new tt (played (copy_each domain (copy ∷ rest)))
unfolding copy_each
copies_next stands_for now next new domain copy rest here later =
    then_follows stands_for now next new tt tt (ask_copy domain copy.0 copy.1) (λ done. played (copy_each domain rest)) (λ done w. later_played (copy_each domain rest) w) here later

pub forgets_next : {S : Type 0} (stands_for : S → S → World → Type 0) (now next new : S) (domain n : ℕ) (rest : List ℕ) →
    Follows stands_for now next tt (ask_forget domain n) → Follows stands_for next new tt (played (forget_each domain rest)) → Follows stands_for now new tt (played (forget_each domain (n ∷ rest)))
unfolding forget_each
forgets_next stands_for now next new domain n rest here later =
    then_follows stands_for now next new tt tt (ask_forget domain n) (λ done. played (forget_each domain rest)) (λ done w. later_played (forget_each domain rest) w) here later

-- the next number, which is marked or is not, and those that are left
pub marked_next : {S : Type 0} (stands_for : S → S → World → Type 0) (now next new : S) (domain n : ℕ) (mark : Bool) (rest : List Bool) → mark ≡ true →
    Follows stands_for now next tt (ask_forget domain n) → Follows stands_for next new tt (played (forget_each domain (places (λ m. m) (n + 1) rest))) → Follows stands_for now new tt (played (forget_each domain (places (λ m. m) n (mark ∷ rest))))
marked_next stands_for now next new domain n mark rest is here later = rw is (forgets_next stands_for now next new domain n _ here later)

pub unmarked_next : {S : Type 0} (stands_for : S → S → World → Type 0) (now new : S) (domain n : ℕ) (mark : Bool) (rest : List Bool) → mark ≡ false →
    Follows stands_for now new tt (played (forget_each domain (places (λ m. m) (n + 1) rest))) → Follows stands_for now new tt (played (forget_each domain (places (λ m. m) n (mark ∷ rest))))
unmarked_next stands_for now new domain n mark rest is later = rw is later
