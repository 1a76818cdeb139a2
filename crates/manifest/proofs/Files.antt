-- The bytes of a file that a key names.
use Rattle.std.proofs.Common.{◌≡◌, ◌<◌, ◌≤◌, ◌==◌, ◌+◌, ℕ, List, length, take, true, false, Option, Some, None, IfSome, Result, Ok, Err, refl, sym, ap, ◌∙◌, subst, arith, nat_lt}
use Rattle.std.proofs.lemmas.Grind.{common_steps}
use Rattle.io_traits.specs.Told.{Tells}
use Rattle.cloak_base.specs.Constants.{largest_bundle}
use Rattle.manifest.specs.declared.key.ManifestTable.{ManifestTable}
use Rattle.manifest.specs.declared.key.Key.{Key}
use Rattle.manifest.specs.declared.fault.KeyFault.{KeyFault}
use Rattle.manifest.specs.declared.fault.KeyFault.TheVariants.{NoFile, NoRoom}
use Rattle.manifest.specs.declared.fault.FaultyKey.{FaultyKey}
use Rattle.manifest.specs.Fields.{wrong_at}
use Rattle.manifest.specs.Parts.{file_bytes}
use Rattle.manifest.specs.Faults.{at_key, by_keys}
use Rattle.manifest.specs.Sources.{IsFileAt}

pub not_larger : (n most : ℕ) → n ≤ most → nat_lt most n ≡ false
not_larger n most h = grind (arith, common_steps)

pub larger : (n most : ℕ) → most < n → nat_lt most n ≡ true
larger n most h = grind (arith, common_steps)

pub file_whole : (at : ManifestTable) (key : Key) (bytes : List ℕ) → length bytes ≤ largest_bundle → (length bytes == 0) ≡ false →
    file_bytes at key bytes ≡ Ok bytes
unfolding file_bytes
file_whole at key bytes small some = rw (not_larger (length bytes) largest_bundle small, some) refl

pub file_empty : (at : ManifestTable) (key : Key) (bytes : List ℕ) → length bytes ≤ largest_bundle → (length bytes == 0) ≡ true →
    file_bytes at key bytes ≡ Err (wrong_at at key NoFile)
unfolding file_bytes
file_empty at key bytes small none = rw (not_larger (length bytes) largest_bundle small, none) refl

pub file_larger : (at : ManifestTable) (key : Key) (bytes : List ℕ) → largest_bundle < length bytes →
    file_bytes at key bytes ≡ Err (wrong_at at key (NoRoom largest_bundle))
unfolding file_bytes
file_larger at key bytes large = rw (larger (length bytes) largest_bundle large) refl

pub is_file : (at : ManifestTable) (key : Key) (told : Option (List ℕ)) (bytes : List ℕ) → Tells told bytes →
    file_bytes at key bytes ≡ Ok bytes → IsFileAt at key told (Ok bytes)
is_file at key told bytes tells is = record { bytes = bytes; tells = tells; is = sym (ap by_keys is) }

pub is_wrong_file : (at : ManifestTable) (key : Key) (told : Option (List ℕ)) (bytes : List ℕ) (fault : FaultyKey) (wrong : KeyFault) →
    Tells told bytes → file_bytes at key bytes ≡ Err (wrong_at at key wrong) → fault ≡ wrong_at at key wrong →
    IsFileAt at key told (Err (at_key fault))
is_wrong_file at key told bytes fault wrong tells is same = record {
  bytes = bytes;
  tells = tells;
  is = ap (λ (f : FaultyKey). Err (at_key f)) same ∙ sym (ap by_keys is);
}
