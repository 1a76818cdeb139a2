-- Reading parts one after the other, as a loop does.
use Rattle.std.proofs.Common.{◌≡◌, ◌≢◌, ℕ, suc, ◌-◌, ◌+◌, ◌≤◌, ◌<◌, List, [], ◌∷◌, ◌++◌, Result, Ok, Err, refl, sym, ap}
use Rattle.std.proofs.Common.{◌∙◌, append_assoc, arith}
use Rattle.std.proofs.lemmas.List.{append-nil}
use Rattle.cloak_model.specs.declared.fault.BundleFault.{BundleFault}
use Rattle.cloak_model.specs.declared.fault.BundleFault.TheVariants.{Short, BadMagic, BadVersion, BadCount, TooLarge}
use Rattle.cloak_model.specs.declared.fault.BundleFault.TheVariants.{BadRange, Extra, NoMemory}
use Rattle.guest_bundle.specs.Fields.{◌>>=◌, Fails}
use Rattle.guest_bundle.specs.Reading.{parts_at}

-- what was read before, and what is still read
abbrev pub with_front : {X : Type 0} → List X → Result (List X × ℕ) BundleFault → Result (List X × ℕ) BundleFault
with_front front read = read >>= λ x. Ok (front ++ x.0, x.1)

regroup : {X : Type 0} (front : List X) (x : X) (read : Result (List X × ℕ) BundleFault) →
    with_front front (read >>= λ others. Ok (x ∷ others.0, others.1)) ≡ with_front (front ++ x ∷ []) read
regroup front x (Ok others) = ap (λ xs. Ok (xs, others.1)) (simp append_assoc)
regroup front x (Err f) = refl

pub starts : {X : Type 0} (read : Result (List X × ℕ) BundleFault) → with_front [] read ≡ read
starts (Ok x) = refl
starts (Err f) = refl

-- one part more
pub goes_on : {X : Type 0} (part_at : ℕ → Result X BundleFault) (size : X →
    ℕ) (front : List X) (n i at : ℕ) (x : X) (total : Result (List X × ℕ) BundleFault) → i < n → part_at at ≡ Ok x
    → with_front front (parts_at part_at size (n - i) at) ≡ total →
    with_front (front ++ x ∷ []) (parts_at part_at size (n - (i + 1)) (at + size x)) ≡ total
unfolding parts_at
goes_on part_at size front n i at x total lt h so_far =
    let k : n - i ≡ suc (n - (i + 1)) = omega arith in
    let one : with_front front (parts_at part_at size (n - i) at) ≡ with_front (front ++ x ∷ [])
    (parts_at part_at size (n - (i + 1)) (at + size x)) =
    rw (k, h) (regroup front x (parts_at part_at size (n - (i + 1)) (at + size x))) in
    sym one ∙ so_far

pub fails : {Y : Type 0} (e : BundleFault) (read : Result Y BundleFault) → read ≡ Err e → Fails e read
fails NoMemory read h = tt
fails (Short at) read h = h
fails BadMagic read h = h
fails (BadVersion n) read h = h
fails (BadCount at) read h = h
fails (TooLarge at) read h = h
fails (BadRange at) read h = h
fails (Extra at) read h = h

-- a part has a fault
pub ends : {X : Type 0} (e : BundleFault) (part_at : ℕ → Result X BundleFault) (size : X →
    ℕ) (front : List X) (n i at : ℕ) (total : Result (List X × ℕ) BundleFault) → i < n → part_at at ≡ Err e
    → with_front front (parts_at part_at size (n - i) at) ≡ total → Fails e total
unfolding parts_at
ends e part_at size front n i at total lt h so_far =
    let k : n - i ≡ suc (n - (i + 1)) = omega arith in
    let one : with_front front (parts_at part_at size (n - i) at) ≡ Err e = rw (k, h) refl in
    fails e total (sym so_far ∙ one)

pub is_done : {X : Type 0} (part_at : ℕ → Result X BundleFault) (size : X →
    ℕ) (front : List X) (n i at : ℕ) (total : Result (List X × ℕ) BundleFault) → n ≤ i
    → with_front front (parts_at part_at size (n - i) at) ≡ total → total ≡ Ok (front, at)
unfolding parts_at
is_done part_at size front n i at total le so_far =
    let k : n - i ≡ 0 = omega arith in
    let one : with_front front (parts_at part_at size (n - i) at) ≡ Ok (front, at) =
    rw k (ap (λ xs. Ok (xs, at)) (append-nil front)) in
    sym so_far ∙ one

-- a fault that is not of memory is the one that reading meets
pub failed : {Y : Type 0} (e : BundleFault) (read : Result Y BundleFault) → e ≢ NoMemory → Fails e read → read ≡ Err e
failed NoMemory read other h = absurd (other refl)
failed (Short at) read other h = h
failed BadMagic read other h = h
failed (BadVersion n) read other h = h
failed (BadCount at) read other h = h
failed (TooLarge at) read other h = h
failed (BadRange at) read other h = h
failed (Extra at) read other h = h
