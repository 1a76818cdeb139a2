-- Each image is in the grammar of bundles, and its file of version 2 is not too large: by a test that is computed.
use Rattle.std.proofs.Common.{◌≡◌, ◌<◌, ◌+◌, ◌*◌, ◌%◌, ◌^◌, ◌≤◌, ℕ, List, [], ◌∷◌, length, Bool, true, ◌&&◌, refl, arith}
use Rattle.std.proofs.Math.Dec.{leb, ltb, eqb}
use Rattle.std.specs.Prelude.{All}
use Rattle.std.specs.List.{list_all}
use Rattle.std.proofs.lemmas.Bool.{and_parts, leb-true, ltb-true, eqb-true}
use Rattle.std.proofs.lemmas.List.Elements.{All-nil, All-cons, All-get_or}
use Rattle.cloak_base.specs.Constants.{largest_bundle}
use Rattle.cloak_model.specs.Bundle.{bundle_bytes, IsSegmentIn, IsKernelImage, IsProgramIn, IsInGrammar}
use Rattle.cloak_model.specs.Bundle.{Range, frame_counts, hart_counts, schedule_lengths, segment_counts, block_counts}
use Rattle.cloak_model.specs.Bundle.{program_counts, page_counts, key_numbers}
use Rattle.cloak_model.specs.BundleFault.{lies_in_ram, is_base_of}
use Rattle.cloak_model.specs.declared.image.Segment.{Segment}
use Rattle.cloak_model.specs.declared.image.KernelImage.{KernelImage}
use Rattle.cloak_model.specs.declared.image.Program.{Program}
use Rattle.cloak_model.specs.declared.image.Bundle.{Bundle}
use Rattle.guest_kernel.proofs.Images.{fewer_bytes}
use Rattle.hostile_kernels.specs.Parts.{guest, image}
use Rattle.hostile_kernels.specs.Images.{hostile_image, hostile_images, image_0, image_1, image_2, image_3, image_4, image_5, image_6, image_7, image_8, image_9, image_10, image_11, image_12, image_13, image_14, image_15, image_16, image_17, image_18, image_19, image_20, image_21, image_22, image_23}

abbrev segment_fits : ℕ → Segment → Bool
segment_fits frames s = lies_in_ram frames s.address (length s.bytes)

abbrev is_within : Range → ℕ → Bool
is_within range n = leb range.low n && leb n range.high

abbrev kernel_fits : KernelImage → Bool
kernel_fits k =
    is_within frame_counts k.frames && (is_within hart_counts k.harts && (is_within schedule_lengths (length k.schedule)
    && (list_all (λ h. ltb h k.harts) k.schedule && (eqb (k.entry % 4) 0 && (ltb k.entry (2 ^ 32)
    && (leb (length k.segments) segment_counts.high && (list_all (segment_fits k.frames) k.segments
    && (eqb (length k.disk % 4096) 0 && leb (length k.disk) (4096 * block_counts.high)))))))))

abbrev program_fits : ℕ → Program → Bool
program_fits frames p =
    is_within page_counts p.start.pages && (leb (p.place + p.start.pages) frames
    && (is_base_of p.start.pages p.start.base && (eqb (p.start.entry % 4) 0 && (ltb p.start.entry (2 ^ 32)
    && (ltb p.start.sp (2 ^ 32) && (leb p.key key_numbers.high && eqb (length p.bytes) (4096 * p.start.pages)))))))

abbrev fits : Bundle → Bool
fits b =
    kernel_fits b.kernel && (leb (length b.programs) program_counts.high && (list_all (program_fits b.kernel.frames) b.programs
    && leb (length (bundle_bytes 2 b)) largest_bundle))

-- what each element's test tells
told : {X : Type 0} (test : X → Bool) (P : X → Type 0) → ((x : X) → test x ≡ true → P x) → (xs : List X) →
    list_all test xs ≡ true → All P xs
told test P each [] passed = All-nil P
told test P each (x ∷ xs) passed =
    let both = and_parts (test x) (list_all test xs) passed in
    All-cons P x xs (each x both.0) (told test P each xs both.1)

within : (range : Range) (n : ℕ) → is_within range n ≡ true → (range.low ≤ n) × (n ≤ range.high)
within range n passed =
    let both = and_parts _ _ passed in
    (leb-true _ _ both.0, leb-true _ _ both.1)

segment_in : (frames : ℕ) (s : Segment) → segment_fits frames s ≡ true → IsSegmentIn frames s
segment_in frames s passed =
    let both = and_parts _ _ passed in
    record { from_start = leb-true _ _ both.0; to_end = leb-true _ _ both.1 }

kernel_in : (k : KernelImage) → kernel_fits k ≡ true → IsKernelImage k
kernel_in k passed =
    let a = and_parts _ _ passed in
    let b = and_parts _ _ a.1 in
    let c = and_parts _ _ b.1 in
    let d = and_parts _ _ c.1 in
    let e = and_parts _ _ d.1 in
    let f = and_parts _ _ e.1 in
    let g = and_parts _ _ f.1 in
    let h = and_parts _ _ g.1 in
    let i = and_parts _ _ h.1 in
    let frames = within frame_counts k.frames a.0 in
    let harts = within hart_counts k.harts b.0 in
    let turns = within schedule_lengths (length k.schedule) c.0 in record {
      some_frames = frames.0;
      few_frames = frames.1;
      some_harts = harts.0;
      few_harts = harts.1;
      some_turns = turns.0;
      few_turns = turns.1;
      turns = told (λ h. ltb h k.harts) (λ h. h < k.harts) (λ h. ltb-true h k.harts) k.schedule d.0;
      entry = eqb-true _ _ e.0;
      entry_fits = ltb-true _ _ f.0;
      few_segments = leb-true _ _ g.0;
      segments = told (segment_fits k.frames) (IsSegmentIn k.frames) (segment_in k.frames) k.segments h.0;
      blocks = eqb-true _ _ i.0;
      few_blocks = leb-true _ _ i.1;
    }

program_in : (frames : ℕ) (p : Program) → program_fits frames p ≡ true → IsProgramIn frames p
program_in frames p passed =
    let a = and_parts _ _ passed in
    let b = and_parts _ _ a.1 in
    let c = and_parts _ _ b.1 in
    let d = and_parts _ _ c.1 in
    let e = and_parts _ _ d.1 in
    let f = and_parts _ _ e.1 in
    let g = and_parts _ _ f.1 in
    let pages = within page_counts p.start.pages a.0 in
    let base = and_parts _ _ c.0 in record {
      some_pages = pages.0;
      few_pages = pages.1;
      place = leb-true _ _ b.0;
      base = eqb-true _ _ base.0;
      top = leb-true _ _ base.1;
      entry = eqb-true _ _ d.0;
      entry_fits = ltb-true _ _ e.0;
      sp_fits = ltb-true _ _ f.0;
      key = leb-true _ _ g.0;
      bytes = eqb-true _ _ g.1;
    }

-- what `write` asks of a bundle
abbrev pub IsWritable : Bundle → Type 0
IsWritable b = IsInGrammar b × (length (bundle_bytes 2 b) ≤ largest_bundle)

writable : (b : Bundle) → fits b ≡ true → IsWritable b
writable b passed =
    let a = and_parts _ _ passed in
    let c = and_parts _ _ a.1 in
    let d = and_parts _ _ c.1 in
    let few_bytes : length (bundle_bytes 2 b) ≤ largest_bundle = leb-true _ _ d.1 in
    let fewer = fewer_bytes b in (
      record {
        kernel = kernel_in b.kernel a.0;
        few_programs = leb-true _ _ c.0;
        programs = told (program_fits b.kernel.frames) (IsProgramIn b.kernel.frames) (program_in b.kernel.frames) b.programs d.0;
        not_too_large = omega (arith, few_bytes, fewer);
      },
      few_bytes,
    )

all_fit : list_all fits hostile_images ≡ true
unfolding hostile_images image_0 image_1 image_2 image_3 image_4 image_5 image_6 image_7 image_8 image_9 image_10 image_11 image_12 image_13 image_14 image_15 image_16 image_17 image_18 image_19 image_20 image_21 image_22 image_23 image guest bundle_bytes
all_fit = refl

count : length hostile_images ≡ 24
unfolding hostile_images
count = refl

-- the image of each number
pub image_in : (i : ℕ) → i < 24 → IsWritable (hostile_image i)
image_in i low =
    All-get_or IsWritable hostile_images i image_0 (let all = count in omega (arith, low, all))
    (told fits IsWritable writable hostile_images all_fit)
