-- Steps of reading that did not fail.
use Rattle.std.proofs.Common.{◌≡◌, ℕ, ◌≤◌, Bool, true, false, cond, List, [], ◌++◌, length, Result}
use Rattle.std.proofs.Common.{Ok, Err, refl, sym, ap, ◌∙◌, arith}
use Rattle.cloak_model.specs.declared.fault.BundleFault.{BundleFault}
use Rattle.cloak_model.specs.Bits.{word}
use Rattle.cloak_model.specs.Bundle.{key_numbers}
use Rattle.guest_bundle.specs.Fields.{◌>>=◌}
use Rattle.guest_bundle.specs.Places.{key_size}

-- the value of a step that did not fail
pub bind_ok : {A B : Type 0} (r : Result A BundleFault) (f : A → Result B BundleFault) (y : B) → (r >>= f) ≡ Ok y →
    (x : A) × (r ≡ Ok x) × (f x ≡ Ok y)
bind_ok (Ok x) f y e = (x, refl, e)
bind_ok (Err d) f y e = absurd cc

-- a test that did not fail
pub refused_not : {A : Type 0} (b : Bool) (d : BundleFault) (r : Result A BundleFault) (y : A) →
    cond b (Err d) r ≡ Ok y → (b ≡ false) × (r ≡ Ok y)
refused_not true d r y e = absurd cc
refused_not false d r y e = (refl, e)

pub passed : {A : Type 0} (b : Bool) (d : BundleFault) (r : Result A BundleFault) (y : A) → cond b r (Err d) ≡ Ok y →
    (b ≡ true) × (r ≡ Ok y)
passed true d r y e = (refl, e)
passed false d r y e = absurd cc

abbrev done : {A : Type 0} → A → Result A BundleFault
done x = Ok x

pub ok_is : {A : Type 0} (x y : A) → done x ≡ done y → x ≡ y
ok_is x y e = cc

-- ---- bytes

-- ---- keys

-- what is known of a key, in a file with keys and in one without
abbrev pub KeyFits : Bool → ℕ → Type 0
KeyFits true key = key ≤ key_numbers.high
KeyFits false key = key ≡ 0

pub key_small : (keys : Bool) (key : ℕ) → KeyFits keys key → key ≤ key_numbers.high
key_small true key h = h
key_small false key h = omega arith

-- the bytes of a key
abbrev pub key_text : Bool → ℕ → List ℕ
key_text keys key = cond keys (word key) []

pub key_text-length : (keys : Bool) (key : ℕ) → length (key_text keys key) ≡ key_size keys
key_text-length true key = refl
key_text-length false key = refl
