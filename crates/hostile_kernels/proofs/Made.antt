-- What the code makes, part by part.
use Rattle.std.proofs.Common.{◌≡◌, ◌≤◌, ◌-◌, ◌*◌, ℕ, List, [], ◌++◌, length, take, ap, ◌∙◌, Result, Ok, Err, IfOk}
use Rattle.std.specs.Prelude.{map, replicate}
use Rattle.std.specs.List.{flat_map}
use Rattle.std.proofs.lemmas.List.{take_all}
use Rattle.cloak_base.specs.declared.names.Start.{Start}
use Rattle.cloak_model.specs.Bits.{word}
use Rattle.cloak_model.specs.declared.image.Segment.{Segment}
use Rattle.cloak_model.specs.declared.image.KernelImage.{KernelImage}
use Rattle.cloak_model.specs.declared.image.Program.{Program}
use Rattle.cloak_model.specs.declared.image.Bundle.{Bundle}
use Rattle.hostile_kernels.specs.Parts.{guest, image}

pub made_guest : (frame count : ℕ) (start : Start) (words none code bytes : List ℕ) → none ≡ [] →
    code ≡ none ++ flat_map word words →
    bytes ≡ take (4096 * start.pages) code ++ replicate (4096 * start.pages - count) 0 → count ≡ length code →
    let p : Program = record { place = frame; start = start; key = 0; bytes = bytes } in p ≡ guest frame start words
unfolding guest
made_guest frame count start words none code bytes empty put filled counted =
    let size = 4096 * start.pages in
    let is : code ≡ flat_map word words = put ∙ ap (λ (l : List ℕ). l ++ flat_map word words) empty in
    let page : bytes ≡ take size (flat_map word words) ++ replicate (size - length (flat_map word words)) 0 =
    filled
    ∙ (ap (λ (k : ℕ). take size code ++ replicate (size - k) 0) counted
    ∙ ap (λ (l : List ℕ). take size l ++ replicate (size - length l) 0) is) in
    λ i. record { place = frame; start = start; key = 0; bytes = page i }

-- all that a loop made
pub all_made : {X Y : Type 0} (f : X → Y) (xs : List X) (ys : List Y) (n : ℕ) → ys ≡ map f (take n xs) → length xs ≤ n →
    ys ≡ map f xs
all_made f xs ys n made past = made ∙ ap (map f) (take_all n xs past)

pub made_image : (frames harts entry blocks : ℕ) (schedule turns disk : List ℕ) (segments segments_of : List Segment)
    (programs programs_of : List Program) → schedule ≡ turns → segments ≡ segments_of →
    disk ≡ replicate (4096 * blocks) 0 → programs ≡ programs_of →
    let k : KernelImage = record {
      frames = frames;
      harts = harts;
      schedule = schedule;
      entry = entry;
      segments = segments;
      disk = disk;
    } in
    let b : Bundle = record { kernel = k; programs = programs } in
    b ≡ image frames harts turns entry segments_of blocks programs_of
unfolding image
made_image frames harts entry blocks schedule turns disk segments segments_of programs programs_of is_schedule
    is_segments is_disk is_programs = λ i. record {
      kernel = record {
        frames = frames;
        harts = harts;
        schedule = is_schedule i;
        entry = entry;
        segments = is_segments i;
        disk = is_disk i;
      };
      programs = is_programs i;
    }

-- what one clause says of an answer, another one says too
pub ok-then : {A E : Type 0} {P Q : A → Type 0} (r : Result A E) → IfOk r P → ((x : A) → P x → Q x) → IfOk r Q
ok-then (Ok x) is then = then x is
ok-then (Err e) is then = tt
