-- What is made of words, and how long it is.
use Rattle.std.proofs.Common.{◌≡◌, ◌-◌, ℕ, List, [], ◌∷◌, ◌++◌, length, take, ap, ◌∙◌, refl, sym, arith, length-append}
use Rattle.std.specs.Prelude.{replicate}
use Rattle.std.specs.List.{flat_map}
use Rattle.std.proofs.lemmas.List.{length-replicate, length-take-le, take_all}
use Rattle.std.proofs.lemmas.Grind.{flat_map-append}
use Rattle.cloak_model.specs.Bits.{word}
use Rattle.cloak_model.specs.declared.image.Program.{Program}
use Rattle.guest_kernel.specs.Layout.{kernel_words, demo_words, demo_frame, demo_start}
use Rattle.guest_kernel.specs.Generated.{demo_code, demo_program}
use Rattle.cloak_model.proofs.Lengths.{length-words}

pub length-kernel_words : length kernel_words ≡ 174
unfolding kernel_words
length-kernel_words = refl

pub length-demo_words : length demo_words ≡ 61
unfolding demo_words
length-demo_words = refl

pub length-demo_code : (d rounds : ℕ) → length (demo_code d rounds) ≡ 244
unfolding demo_code
length-demo_code d rounds =
    let whole = length-demo_words in
    let front : length (take (length demo_words - 2) demo_words) ≡ length demo_words - 2 =
    length-take-le (length demo_words - 2) demo_words (omega arith) in
    let both = length-append (take (length demo_words - 2) demo_words) (d ∷ rounds ∷ []) in
    let last : length (d ∷ rounds ∷ []) ≡ 2 = refl in
    length-words (take (length demo_words - 2) demo_words ++ d ∷ rounds ∷ [])
    ∙ omega (arith, whole, front, both, last)

pub length-demo_bytes : (d rounds : ℕ) → length (demo_program d rounds).bytes ≡ 4096
unfolding demo_program
length-demo_bytes d rounds =
    let code = length-demo_code d rounds in
    let zeros = length-replicate {A = ℕ} (4096 - length (demo_code d rounds)) 0 in
    length-append (demo_code d rounds) (replicate (4096 - length (demo_code d rounds)) 0)
    ∙ omega (arith, code, zeros)

-- what the code makes, piece by piece

pub made_code : (d rounds n : ℕ) (words none front whole : List ℕ) → words ≡ demo_words → none ≡ [] →
    front ≡ none ++ flat_map word (take n words) → whole ≡ front ++ flat_map word (d ∷ rounds ∷ []) →
    n ≡ length words - 2 → whole ≡ demo_code d rounds
unfolding demo_code
made_code d rounds n words none front whole is empty first last count =
    rw (last, first, empty, count, is)
    (sym (flat_map-append word (take (length demo_words - 2) demo_words) (d ∷ rounds ∷ [])))

pub made_program : (d rounds place count : ℕ) (code bytes : List ℕ) → place ≡ demo_frame d →
    code ≡ demo_code d rounds → bytes ≡ take 4096 code ++ replicate (4096 - count) 0 → count ≡ length code →
    let p : Program = record { place = place; start = demo_start; key = d; bytes = bytes } in p ≡ demo_program d rounds
unfolding demo_program
made_program d rounds place count code bytes at is filled counted =
    let size : length code ≡ 244 = ap (λ (l : List ℕ). length l) is ∙ length-demo_code d rounds in
    let whole : take 4096 code ≡ code = take_all 4096 code (omega (arith, size)) in
    let page : bytes ≡ demo_code d rounds ++ replicate (4096 - length (demo_code d rounds)) 0 =
    filled
    ∙ (ap (λ (l : List ℕ). l ++ replicate (4096 - count) 0) whole
    ∙ (ap (λ (k : ℕ). code ++ replicate (4096 - k) 0) counted
    ∙ ap (λ (l : List ℕ). l ++ replicate (4096 - length l) 0) is)) in
    λ i. record { place = at i; start = demo_start; key = d; bytes = page i }
