-- One of some keys is written so.
use Rattle.std.proofs.Common.{◌≡◌, ◌∙◌, ◌<◌, ◌≤◌, ◌+◌, ℕ, suc, List, length, get_or, drop, true, false, refl, ap, add-one}
use Rattle.std.specs.Prelude.{bytes_eq}
use Rattle.std.proofs.lemmas.List.{drop_all}
use Rattle.std.proofs.Math.Seq.{drop-cons}
use Rattle.manifest.specs.declared.key.Key.{Key}
use Rattle.manifest.specs.Keys.{key_name}
use Rattle.manifest.specs.Fields.{is_among}

pub among_next : (keys : List Key) (i : ℕ) (name : List ℕ) (key : Key) → i < length keys →
    bytes_eq (key_name (get_or keys i key)) name ≡ false → is_among (drop i keys) name ≡ is_among (drop (i + 1) keys) name
unfolding is_among
among_next keys i name key inside other = rw (add-one, drop-cons keys i key inside, other) refl

pub among_here : (keys : List Key) (i : ℕ) (name : List ℕ) (key : Key) → i < length keys →
    bytes_eq (key_name (get_or keys i key)) name ≡ true → is_among (drop i keys) name ≡ true
unfolding is_among
among_here keys i name key inside same = rw (drop-cons keys i key inside, same) refl

pub among_none : (keys : List Key) (i : ℕ) (name : List ℕ) → length keys ≤ i → is_among (drop i keys) name ≡ false
unfolding is_among
among_none keys i name past = rw (drop_all i keys past) refl
