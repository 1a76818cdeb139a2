-- Images of the rows are in the grammar and of bytes; and a run that there is.
use Rattle.std.proofs.Common.{◌≡◌, ◌<◌, ◌%◌, ℕ, zero, suc, refl, Bool, true, List, [], ◌∷◌, length, ◌&&◌, nat_lt, leb, ltb, All, arith, Result, Ok, Err, is_ok}
use Rattle.std.specs.List.{AllByRecursion, flat_map, list_all}
use Rattle.std.specs.Result.{result_unwrap_or}
use Rattle.std.specs.Int.{byte_at, bytes_high_first, to_be_bytes, w32}
use Rattle.std.specs.Prelude.{slice_index}
use Rattle.std.proofs.lemmas.Bool.{and_parts, leb-true, ltb-true}
use Rattle.std.proofs.lemmas.List.Elements.{All-nil, All-cons, All-append, All-from_recursion, recursion_from_All}
use Rattle.std.proofs.lemmas.List.Sums.{AllPass-from_list_all}
use Rattle.sha2.specs.Sha256 as hash
use Rattle.sha2.specs.Sha256.{sha256, digest_bytes}
use Rattle.sha2.proofs.Facts256.{length-sha256}
use Rattle.aes_block.specs.Bytes.{IsBytes}
use Rattle.cloak_base.specs.Constants.{largest_bundle}
use Rattle.cloak_model.specs.declared.image.Bundle.{Bundle}
use Rattle.cloak_model.specs.Bits.{word}
use Rattle.cloak_model.specs.Bundle.{hart_counts, schedule_lengths, IsKernelImage, IsSegmentIn, IsProgramIn, IsInGrammar}
use Rattle.cloak_model.specs.Bundle.{bundle_bytes}
use Rattle.range_law.specs.Writing.{AreBytes, IsOfBytes}
use Rattle.worked_rows.specs.Images.{kernel_of, program_of, lone_image}

-- so many harts, and a page of words at most
pub kernel_in : (harts : ℕ) (schedule words : List ℕ) → (leb hart_counts.low harts && leb harts hart_counts.high) ≡ true →
    (leb schedule_lengths.low (length schedule) && leb (length schedule) schedule_lengths.high) ≡ true → list_all (λ h. ltb h harts) schedule ≡ true →
    leb (length (flat_map word words)) 4096 ≡ true → IsKernelImage (kernel_of harts schedule words)
kernel_in harts schedule words few short turns small =
    let count = and_parts _ _ few in
    let long = and_parts _ _ short in
    let fits = leb-true (length (flat_map word words)) 4096 small in record {
      some_frames = omega arith;
      few_frames = omega arith;
      some_harts = leb-true _ _ count.0;
      few_harts = leb-true _ _ count.1;
      some_turns = leb-true _ _ long.0;
      few_turns = leb-true _ _ long.1;
      turns = λ k d h. ltb-true _ _ (AllPass-from_list_all (λ x. ltb x harts) schedule turns k d h);
      entry = refl;
      entry_fits = omega arith;
      few_segments = omega arith;
      segments =
          All-cons (IsSegmentIn 64) (record { address = 0x80000000; bytes = flat_map word words }) []
          (record { from_start = omega arith; to_end = omega (arith, fits) }) (All-nil (IsSegmentIn 64));
      blocks = refl;
      few_blocks = omega arith;
    }

program_in : (page : List ℕ) → length page ≡ 4096 → IsProgramIn 64 (program_of page)
program_in page long = record {
  some_pages = omega arith;
  few_pages = omega arith;
  place = omega arith;
  base = refl;
  top = omega arith;
  entry = refl;
  entry_fits = omega arith;
  sp_fits = omega arith;
  key = omega arith;
  bytes = long;
}

pub lone_in : (words : List ℕ) → leb (length (flat_map word words)) 4096 ≡ true →
    leb (length (bundle_bytes 1 (lone_image words))) largest_bundle ≡ true → IsInGrammar (lone_image words)
lone_in words short small = record {
  kernel = kernel_in 1 (0 ∷ []) words refl refl refl short;
  few_programs = omega arith;
  programs = All-nil (IsProgramIn 64);
  not_too_large = leb-true _ _ small;
}

-- a kernel of these words on so many harts, and a program of this page
abbrev pub with_program : ℕ → List ℕ → List ℕ → List ℕ → Bundle
with_program harts schedule words page =
    record { kernel = kernel_of harts schedule words; programs = program_of page ∷ [] }

pub image_in : (harts : ℕ) (schedule words page : List ℕ) →
    IsKernelImage (kernel_of harts schedule words) → length page ≡ 4096 →
    leb (length (bundle_bytes 1 (with_program harts schedule words page))) largest_bundle ≡ true →
    IsInGrammar (with_program harts schedule words page)
image_in harts schedule words page kernel long small = record {
  kernel = kernel;
  few_programs = omega arith;
  programs = All-cons (IsProgramIn 64) (program_of page) [] (program_in page long) (All-nil (IsProgramIn 64));
  not_too_large = leb-true _ _ small;
}

-- Bytes.

abbrev pub have_bytes : List ℕ → Bool
have_bytes xs = list_all (λ b. nat_lt b 256) xs

pub are_bytes : (xs : List ℕ) → have_bytes xs ≡ true → AreBytes xs
are_bytes xs low =
    recursion_from_All (λ b. b < 256) xs
    (λ k d h. ltb-true _ _ (AllPass-from_list_all (λ b. nat_lt b 256) xs low k d h))

pub lone_bytes : (words : List ℕ) → have_bytes (flat_map word words) ≡ true → IsOfBytes (lone_image words)
lone_bytes words low = record { segments = (are_bytes (flat_map word words) low, tt); disk = tt; programs = tt }

pub image_bytes : (harts : ℕ) (schedule words page : List ℕ) → have_bytes (flat_map word words) ≡ true →
    have_bytes page ≡ true → IsOfBytes (with_program harts schedule words page)
image_bytes harts schedule words page low page_low = record {
  segments = (are_bytes (flat_map word words) low, tt);
  disk = tt;
  programs = (are_bytes page page_low, tt);
}

-- A digest is of bytes.

low : (n : ℕ) → n % 256 < 256
low n = omega arith

byte_low : (k n : ℕ) → byte_at k n < 256
byte_low zero n = low n
byte_low (suc k) n = low _

high_first : (k n : ℕ) → AllByRecursion (λ b. b < 256) (bytes_high_first k n)
high_first zero n = tt
high_first (suc k) n = (byte_low k n, high_first k n)

words_high_first : (h : List ℕ) (n : ℕ) → All (λ b. b < 256) (digest_bytes h n)
unfolding hash.digest_bytes
words_high_first h zero = All-nil (λ b. b < 256)
words_high_first h (suc n) =
    All-append (λ b. b < 256) (digest_bytes h n) (to_be_bytes w32 (slice_index h n)) (words_high_first h n)
    (All-from_recursion (λ b. b < 256) (to_be_bytes w32 (slice_index h n)) (high_first 4 (slice_index h n)))

pub IsBytes-sha256 : (m : List ℕ) → IsBytes 32 (sha256 m)
unfolding hash.sha256
IsBytes-sha256 m = record { long = length-sha256 m; bytes = words_high_first _ 8 }

-- A result that is good.

pub is-ok : {A E : Type 0} (x : Result A E) (d : A) → is_ok x ≡ true → x ≡ Ok (result_unwrap_or x d)
is-ok (Ok a) d h = refl
is-ok (Err e) d h = absurd (cc)
