-- What reading meets is the first fault of the fields that it reads.
use Rattle.std.proofs.Common.{◌≡◌, ℕ, zero, suc, ◌+◌, ◌-◌, ◌*◌, ◌/◌, ◌%◌, Bool, true, false, cond, ltb, leb, eqb, List}
use Rattle.std.proofs.Common.{[], ◌∷◌, ◌++◌, length, get_or, take, drop, Option, Some, None, Result, Ok, Err, refl, sym}
use Rattle.std.proofs.Common.{ap, subst, ◌∙◌, arith, inl, inr}
use Rattle.std.proofs.lemmas.Bool.{lt-ltb, le-ltb, cases_lt}
use Rattle.cloak_model.specs.Bundle.{Range}
use Rattle.cloak_model.specs.declared.fault.BundleFault.{BundleFault}
use Rattle.cloak_model.specs.declared.fault.BundleFault.TheVariants.{Short, BadCount, TooLarge, BadRange}
use Rattle.guest_bundle.specs.Fields.{◌>>=◌, bytes_at, pages_at, number_at, count_at, entry_at}
use Rattle.cloak_model.specs.Fields.{first_of, fault_in, first_in, number, parts, after_parts}
use Rattle.cloak_model.specs.BundleFault.{BundleField, ruled_at, count, is_base_of, after_page, pages, scheduled}
use Rattle.guest_bundle.specs.Reading.{turn_at, place_at, base_at, parts_at}
use Rattle.guest_bundle.proofs.Steps.{bind_ok, refused_not, ok_is}

-- what reading returns, beside the first fault that there is
abbrev pub Tells : {A : Type 0} → Result A BundleFault → Option BundleFault → Type 0
Tells (Ok x) fault = fault ≡ None
Tells (Err e) fault = fault ≡ Some e

pub first_of-none : (o : Option BundleFault) → first_of o None ≡ o
first_of-none None = refl
first_of-none (Some f) = refl

pub first_of-assoc : (a b c : Option BundleFault) → first_of (first_of a b) c ≡ first_of a (first_of b c)
first_of-assoc None b c = refl
first_of-assoc (Some f) b c = refl

pub first_in-append : (file : List ℕ) (fs gs : List BundleField) →
    first_in file (fs ++ gs) ≡ first_of (first_in file fs) (first_in file gs)
first_in-append file [] gs = refl
first_in-append file (f ∷ fs) gs =
    ap (first_of (fault_in file f)) (first_in-append file fs gs)
    ∙ sym (first_of-assoc (fault_in file f) (first_in file fs) (first_in file gs))

pub bind_tells : {A B : Type 0} (r : Result A BundleFault) (k : A → Result B BundleFault) (o p : Option BundleFault) →
    Tells r o → ((x : A) → r ≡ Ok x → Tells (k x) p) → Tells (r >>= k) (first_of o p)
bind_tells (Ok x) k o p h then = rw h (then x refl)
bind_tells (Err e) k o p h then = rw h refl

-- a test that refuses, and one that lets pass
pub refused_tells : {A : Type 0} (b : Bool) (e : BundleFault) (r : Result A BundleFault) (o : Option BundleFault) →
    Tells r o → Tells (cond b (Err e) r) (cond b (Some e) o)
refused_tells true e r o h = refl
refused_tells false e r o h = h

pub passed_tells : {A : Type 0} (b : Bool) (e : BundleFault) (r : Result A BundleFault) (o : Option BundleFault) →
    Tells r o → Tells (cond b r (Err e)) (first_of (cond b None (Some e)) o)
passed_tells true e r o h = h
passed_tells false e r o h = refl

-- the fault if this many bytes are not there
abbrev pub short : List ℕ → ℕ → ℕ → Option BundleFault
short file at size = cond (ltb (length file - at) size) (Some (Short at)) None

fault_apart : (b : Bool) (e : BundleFault) (wrong : Option BundleFault) →
    cond b (Some e) wrong ≡ first_of (cond b (Some e) None) wrong
fault_apart true e wrong = refl
fault_apart false e wrong = refl

-- the fault of a field that is not whole
abbrev pub cut_in : List ℕ → BundleField → Option BundleFault
cut_in file f = cond (ltb (length file - f.at) f.size) (Some f.cut) None

-- a field that is read whole, and what is read after it
pub field_tells : {A B : Type 0} (file : List ℕ) (f : BundleField) (fs : List BundleField) (r : Result A BundleFault) (k : A →
    Result B BundleFault)
    → Tells r (cut_in file f) → ((x : A) → r ≡ Ok x → Tells (k x) (first_of f.wrong (first_in file fs))) →
    Tells (r >>= k) (first_in file (f ∷ fs))
field_tells file f fs r k h then =
    let apart : first_in file (f ∷ fs) ≡ first_of (cut_in file f) (first_of f.wrong (first_in file fs)) =
    ap (λ o. first_of o (first_in file fs)) (fault_apart (ltb (length file - f.at) f.size) f.cut f.wrong)
    ∙ first_of-assoc (cut_in file f) f.wrong (first_in file fs) in
    subst (Tells (r >>= k)) (sym apart) (bind_tells r k (cut_in file f) (first_of f.wrong (first_in file fs)) h then)

pub number_tells : (file : List ℕ) (at : ℕ) → Tells (number_at file at) (short file at 4)
number_tells file at = refused_tells (ltb (length file - at) 4) (Short at) (Ok (number file at)) None refl

pub number_is : (file : List ℕ) (at n : ℕ) → number_at file at ≡ Ok n → number file at ≡ n
number_is file at n e = ok_is _ _ (refused_not (ltb (length file - at) 4) (Short at) (Ok (number file at)) n e).1

pub bytes_tell : (file : List ℕ) (at size : ℕ) → Tells (bytes_at file at size) (short file at size)
bytes_tell file at size = refused_tells (ltb (length file - at) size) (Short at) (Ok (take size (drop at file))) None
    refl

pub bytes_are : (file : List ℕ) (at size : ℕ) (x : List ℕ) → bytes_at file at size ≡ Ok x → take size (drop at file) ≡ x
bytes_are file at size x e = ok_is _ _
    (refused_not (ltb (length file - at) size) (Short at) (Ok (take size (drop at file))) x e).1

-- a field whose value is tested once it is whole
pub tested_tells : {A B : Type 0} (file : List ℕ) (f : BundleField) (r : Result A BundleFault) (k : A → Result B BundleFault)
    → Tells r (cut_in file f) → ((x : A) → r ≡ Ok x → Tells (k x) f.wrong) → Tells (r >>= k) (fault_in file f)
tested_tells file f r k h then =
    subst (Tells (r >>= k)) (sym (fault_apart (ltb (length file - f.at) f.size) f.cut f.wrong))
    (bind_tells r k (cut_in file f) f.wrong h then)

-- a rule, and what is read if it is kept
pub guarded_tells : {A B : Type 0} (b : Bool) (e : BundleFault) (r : Result A BundleFault) (k : A →
    Result B BundleFault) (o : Option BundleFault) → Tells (r >>= k) o →
    Tells (cond b r (Err e) >>= k) (first_of (cond b None (Some e)) o)
guarded_tells true e r k o h = h
guarded_tells false e r k o h = refl

-- a value that breaks a rule or not
pub ruled_tells : {A : Type 0} (b : Bool) (e : BundleFault) (x : A) →
    Tells (cond b (Ok x) (Err e)) (cond b None (Some e))
ruled_tells true e x = refl
ruled_tells false e x = refl

pub count_tells : (file : List ℕ) (at : ℕ) (range : Range) →
    Tells (count_at file at range) (fault_in file (count file at range))
unfolding count_at
count_tells file at range =
    let k : ℕ → Result ℕ BundleFault =
    λ n. cond (ltb n range.low) (Err (BadCount at)) (cond (ltb range.high n) (Err (TooLarge at)) (Ok n)) in
    let wrong : ℕ → Option BundleFault =
    λ n. cond (ltb n range.low) (Some (BadCount at)) (cond (ltb range.high n) (Some (TooLarge at)) None) in
    tested_tells file (count file at range) (number_at file at) k (number_tells file at) (λ n e.
    subst (λ m. Tells (k n) (wrong m)) (sym (number_is file at n e))
    (refused_tells (ltb n range.low) (BadCount at) (cond (ltb range.high n) (Err (TooLarge at)) (Ok n))
    (cond (ltb range.high n) (Some (TooLarge at)) None) (refused_tells (ltb range.high n) (TooLarge at) (Ok n) None refl)))

pub count_is : (file : List ℕ) (at : ℕ) (range : Range) (n : ℕ) → count_at file at range ≡ Ok n → number file at ≡ n
unfolding count_at
count_is file at range n e =
    let b = bind_ok (number_at file at)
    (λ m. cond (ltb m range.low) (Err (BadCount at)) (cond (ltb range.high m) (Err (TooLarge at)) (Ok m))) n e in
    let above = refused_not (ltb b.0 range.low) (BadCount at) (cond (ltb range.high b.0) (Err (TooLarge at)) (Ok b.0)) n b.2 in
    let below = refused_not (ltb range.high b.0) (TooLarge at) (Ok b.0) n above.1 in
    number_is file at b.0 b.1 ∙ ok_is _ _ below.1

-- a number with one rule
pub one_rule_tells : (file : List ℕ) (at : ℕ) (rule : ℕ → Bool) →
    Tells (number_at file at >>= λ n. cond (rule n) (Ok n) (Err (BadRange at)))
    (fault_in file (ruled_at at 4 (rule (number file at)) (BadRange at)))
one_rule_tells file at rule =
    let k : ℕ → Result ℕ BundleFault = λ n. cond (rule n) (Ok n) (Err (BadRange at)) in
    tested_tells file (ruled_at at 4 (rule (number file at)) (BadRange at)) (number_at file at) k (number_tells file at)
    (λ n e.
    subst (λ m. Tells (k n) (cond (rule m) None (Some (BadRange at)))) (sym (number_is file at n e))
    (ruled_tells (rule n) (BadRange at) n))

pub entry_tells : (file : List ℕ) (at : ℕ) →
    Tells (entry_at file at) (fault_in file (ruled_at at 4 (eqb (number file at % 4) 0) (BadRange at)))
unfolding entry_at
entry_tells file at = one_rule_tells file at (λ n. eqb (n % 4) 0)

pub place_tells : (frames page_count : ℕ) (file : List ℕ) (at : ℕ) →
    Tells (place_at frames page_count file at)
    (fault_in file (ruled_at at 4 (leb (number file at + page_count) frames) (BadRange at)))
unfolding place_at
place_tells frames page_count file at = one_rule_tells file at (λ n. leb (n + page_count) frames)

pub base_tells : (page_count : ℕ) (file : List ℕ) (at : ℕ) →
    Tells (base_at page_count file at)
    (fault_in file (ruled_at at 4 (is_base_of page_count (number file at)) (BadRange at)))
unfolding base_at
base_tells page_count file at = one_rule_tells file at (is_base_of page_count)

pub turn_tells : (file : List ℕ) (harts at : ℕ) → number file 16 ≡ harts →
    Tells (turn_at harts file at) (first_in file (scheduled file at))
turn_tells file harts at is =
    let b = get_or file at 0 in
    let named = ltb b harts in
    let one : Tells (turn_at harts file at) (fault_in file (ruled_at at 1 named (BadRange at))) =
    refused_tells (ltb (length file - at) 1) (Short at) (cond named (Ok b) (Err (BadRange at)))
    (cond named None (Some (BadRange at))) (ruled_tells named (BadRange at) b) in
    subst (λ m. Tells (turn_at harts file at) (first_in file (ruled_at at 1 (ltb b m) (BadRange at) ∷ []))) (sym is)
    (subst (Tells (turn_at harts file at)) (sym (first_of-none (fault_in file (ruled_at at 1 named (BadRange at)))))
    one)

-- parts one after the other, and where they end
pub parts_tell : {X : Type 0} (file : List ℕ) (fields : ℕ → List BundleField) (after : ℕ → ℕ) (part_at : ℕ →
    Result X BundleFault) (size : X → ℕ)
    → ((at : ℕ) → Tells (part_at at) (first_in file (fields at))) →
    ((at : ℕ) (x : X) → part_at at ≡ Ok x → after at ≡ at + size x)
    → (n at : ℕ) → Tells (parts_at part_at size n at) (first_in file (parts fields after n at))
unfolding parts_at parts
parts_tell file fields after part_at size tells next zero at = refl
parts_tell {X} file fields after part_at size tells next (suc n) at =
    let last : (x : X) → List X × ℕ → Result (List X × ℕ) BundleFault = λ x others. Ok (x ∷ others.0, others.1) in
    let k : X → Result (List X × ℕ) BundleFault = λ x. parts_at part_at size n (at + size x) >>= last x in
    let rest = first_in file (parts fields after n (after at)) in
    let inner : (x : X) → part_at at ≡ Ok x → Tells (k x) rest = λ x e.
    let others = subst (λ m. Tells (parts_at part_at size n m) rest) (next at x e)
    (parts_tell file fields after part_at size tells next n (after at)) in
    subst (Tells (k x)) (first_of-none rest)
    (bind_tells (parts_at part_at size n (at + size x)) (last x) rest None others (λ _ _. refl)) in
    subst (Tells (part_at at >>= k)) (sym (first_in-append file (fields at) (parts fields after n (after at))))
    (bind_tells (part_at at) k (first_in file (fields at)) rest (tells at) inner)

pub parts_end : {X : Type 0} (after : ℕ → ℕ) (part_at : ℕ → Result X BundleFault) (size : X → ℕ) →
    ((at : ℕ) (x : X) → part_at at ≡ Ok x → after at ≡ at + size x)
    → (n at : ℕ) (x : List X × ℕ) → parts_at part_at size n at ≡ Ok x → after_parts after n at ≡ x.1
unfolding parts_at after_parts
parts_end {X} after part_at size next zero at x e = ap (λ (y : List X × ℕ). y.1) (ok_is ([], at) x e)
parts_end {X} after part_at size next (suc n) at x e =
    let a = bind_ok (part_at at) (λ first. parts_at part_at size n (at + size first) >>= λ others. Ok
    (first ∷ others.0, others.1)) x e in
    let b = bind_ok (parts_at part_at size n (at + size a.0)) (λ others. Ok (a.0 ∷ others.0, others.1)) x a.2 in
    let made : List X × ℕ = (a.0 ∷ b.0.0, b.0.1) in
    let end : after_parts after n (at + size a.0) ≡ b.0.1 =
    parts_end after part_at size next n (at + size a.0) b.0 b.1 in
    ap (after_parts after n) (next at a.0 a.1) ∙ end ∙ ap (λ (y : List X × ℕ). y.1) (ok_is made x b.2)

-- pages, of which the first that is not whole is the fault
pages_first : (file : List ℕ) (n at : ℕ) →
    first_in file (pages n at) ≡ cond (ltb (length file - at) (4096 * n))
    (Some (Short (at + (length file - at) / 4096 * 4096))) None
unfolding parts
pages_first file zero at = rw (le-ltb (length file - at) (4096 * 0) (omega arith)) refl
pages_first file (suc n) at =
    elim (cases_lt (length file - at) 4096)
    as (λ _. first_in file (pages (suc n) at) ≡ cond (ltb (length file - at) (4096 * suc n))
    (Some (Short (at + (length file - at) / 4096 * 4096))) None) [
      | inl lt ↦
          let same : at + (length file - at) / 4096 * 4096 ≡ at = omega arith in
          let few : ltb (length file - at) (4096 * suc n) ≡ true = lt-ltb _ _ (omega arith) in
          rw (few, same, lt-ltb (length file - at) 4096 lt) refl
      | inr le ↦
          let same : (at + 4096) + (length file - (at + 4096)) / 4096 * 4096 ≡ at + (length file - at) / 4096 * 4096 =
          omega arith in
          let test : ltb (length file - (at + 4096)) (4096 * n) ≡ ltb (length file - at) (4096 * suc n) =
          elim (cases_lt (length file - at) (4096 * suc n))
          as (λ _. ltb (length file - (at + 4096)) (4096 * n) ≡ ltb (length file - at) (4096 * suc n)) [
            | inl below ↦ lt-ltb (length file - (at + 4096)) (4096 * n) (omega arith)
                ∙ sym (lt-ltb (length file - at) (4096 * suc n) below)
            | inr above ↦ le-ltb (length file - (at + 4096)) (4096 * n) (omega arith)
                ∙ sym (le-ltb (length file - at) (4096 * suc n) above)
          ] in
          let others = pages_first file n (at + 4096) in
          rw (le-ltb (length file - at) 4096 le, others, test, same) refl
    ]

pub pages_tell : (file : List ℕ) (at n : ℕ) → Tells (pages_at file at n) (first_in file (pages n at))
pages_tell file at n =
    subst (Tells (pages_at file at n)) (sym (pages_first file n at))
    (refused_tells (ltb (length file - at) (4096 * n)) (Short (at + (length file - at) / 4096 * 4096))
    (Ok (take (4096 * n) (drop at file))) None refl)

pub pages_end : (n at : ℕ) → after_parts after_page n at ≡ at + 4096 * n
unfolding after_parts
pages_end zero at = omega arith
pages_end (suc n) at = pages_end n (at + 4096) ∙ omega arith
