-- Bytes, and the stream of a file.
use Rattle.std.proofs.Common.{◌≡◌, ◌<◌, ◌≤◌, ◌+◌, ℕ, zero, suc, List, [], ◌∷◌, length, take, take_all, get_or}
use Rattle.std.proofs.Common.{Option, Some, None, subst, refl, inr, arith}
use Rattle.std.specs.List.{AllByRecursion}
use Rattle.cloak_base.specs.Random.{Random, numbered}
use Rattle.command_words.specs.Command as spec
use Rattle.io_traits.specs.Told.{SameFiles}
use Rattle.command_parts.specs.Bundles.{IsSomeBundle}
use Rattle.command_parts.specs.NoRun.{AsksFile}
use Rattle.command_parts.specs.Order.{IsNextToRead}
use Rattle.command_parts.specs.Streams.{IsOfFile, IsStream, IsStreamFile}
use Rattle.range_law.specs.Writing.{AreBytes, IsStreamOfBytes}

-- What a loop over a slice found of each element so far.

all_none : {A : Type 0} (P : A → Type 0) (xs : List A) → AllByRecursion P (take zero xs)
all_none P [] = tt
all_none P (x ∷ xs) = tt

one_more : {A : Type 0} (P : A → Type 0) (xs : List A) (i : ℕ) (x : A) → x ≡ get_or xs i x →
    AllByRecursion P (take i xs) → P x → AllByRecursion P (take (suc i) xs)
one_more P [] i x is all here = tt
one_more P (y ∷ ys) zero x is all here = (subst P is here, all_none P ys)
one_more P (y ∷ ys) (suc i) x is all here = (all.0, one_more P ys i x is all.1 here)

pub all_so_far : {A : Type 0} (P : A → Type 0) (xs : List A) (i : ℕ) (x : A) → x ≡ get_or xs i x →
    AllByRecursion P (take i xs) → P x → AllByRecursion P (take (i + 1) xs)
all_so_far P xs i x is all here =
    let next : suc i ≡ i + 1 = omega arith in
    subst (λ (n : ℕ). AllByRecursion P (take n xs)) next (one_more P xs i x is all here)

pub all_at_end : {A : Type 0} (P : A → Type 0) (xs : List A) (n : ℕ) → length xs ≤ n → AllByRecursion P (take n xs) →
    AllByRecursion P xs
all_at_end P xs n past all = subst (AllByRecursion P) (take_all n xs past) all

pub each_below : (bytes : List ℕ) → ((i : ℕ) → get_or bytes i 0 < 256) → AreBytes bytes
each_below [] all = tt
each_below (b ∷ bytes) all = (all 0, each_below bytes (λ i. all (suc i)))

-- the words name the bundle of a run, even if it has no record
pub run_named : (bundle_name : List ℕ) (record_name : Option (List ℕ)) (steps : ℕ) (from : spec.Randomness) →
    AsksFile (spec.asked_run bundle_name record_name steps from) bundle_name
run_named bundle_name (Some record_name) steps from = refl
run_named bundle_name None steps from = refl

-- the file of its random stream is read after the bundle
pub stream_is_next : (bundle_name : List ℕ) (record_name : Option (List ℕ)) (steps : ℕ) (from : spec.Randomness)
    (held : List ℕ → Option (List ℕ)) → IsSomeBundle (held bundle_name) → (file : List ℕ) → IsStreamFile from file →
    IsNextToRead (spec.asked_run bundle_name record_name steps from) held file
stream_is_next bundle_name (Some record_name) steps from held is file named = inr (is, named)
stream_is_next bundle_name None steps from held is file named = inr (is, named)

-- a stream of a file that stayed as it was
pub stream_before : (held now : List ℕ → Option (List ℕ)) (randomness : spec.Randomness) (stream : Random) →
    SameFiles held now → IsStream now randomness stream → IsStream held randomness stream
stream_before held now (spec.Numbered number) stream same is = is
stream_before held now (spec.FromFile name) stream same is =
    subst (λ (told : Option (List ℕ)). IsOfFile told stream) (same name) is

pub numbered_bytes : (n : ℕ) → IsStreamOfBytes (numbered n)
unfolding numbered
numbered_bytes n = tt
