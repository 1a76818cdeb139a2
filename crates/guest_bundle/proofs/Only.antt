-- A file that a bundle spells is read as that bundle.
use Rattle.std.proofs.Common.{◌≡◌, ℕ, ◌+◌, ◌*◌, ◌/◌, ◌^◌, ◌<◌, Bool, true, false, ◌||◌, eqb, List, [], ◌∷◌}
use Rattle.std.proofs.Common.{◌++◌, length, drop, codes, Ok, refl, sym, ap, ◌∙◌, arith, inl, inr}
use Rattle.std.specs.List.{flat_map, AllByRecursion}
use Rattle.std.proofs.lemmas.Bool.{le-ltb, eq-eqb, eqb-true, cases_Bool}
use Rattle.std.proofs.lemmas.List.{append-nil}
use Rattle.std.proofs.lemmas.List.Elements.{recursion_from_All}
use Rattle.cloak_model.specs.Bits.{word}
use Rattle.cloak_model.specs.Bundle.{segment_bytes, is_version, program_bytes, bundle_bytes, IsSegmentIn, IsProgramIn}
use Rattle.cloak_model.specs.Bundle.{IsBundleIn, IsBundle, frame_counts, hart_counts, schedule_lengths}
use Rattle.cloak_model.specs.Bundle.{segment_counts, block_counts, program_counts}
use Rattle.cloak_model.specs.declared.image.Program.{Program}
use Rattle.cloak_base.specs.Constants.{largest_bundle}
use Rattle.cloak_model.specs.declared.image.Bundle.{Bundle}
use Rattle.field_facts.proofs.Stands.{behind}
use Rattle.guest_bundle.specs.declared.header.Header.{Header}
use Rattle.guest_bundle.specs.Reading.{version_at, header_at, turn_at, segment_at, segment_size, program_at}
use Rattle.guest_bundle.specs.Reading.{program_size, parts_at, bundle_at}
use Rattle.guest_bundle.proofs.Steps.{ok_is, KeyFits}
use Rattle.guest_bundle.proofs.Lengths.{program_bytes-length, bundle_bytes-length}
use Rattle.guest_bundle.proofs.Found.{HeaderFits, joined}
use Rattle.guest_bundle.proofs.Again.{number_again, bytes_again, pages_again, count_again, entry_again, turn_again}
use Rattle.guest_bundle.proofs.Again.{segment_again, program_again, parts_again}

either : (a b : Bool) → (a || b) ≡ true → b ≡ false → a ≡ true
either true b e f = refl
either false true e f = absurd cc
either false false e f = absurd cc

-- a version that is not 2 is 1
is_first : (version : ℕ) → is_version version ≡ true → eqb version 2 ≡ false → version ≡ 1
is_first version known other = eqb-true version 1 (either (eqb version 1) (eqb version 2) known other)

is_small : (version : ℕ) → is_version version ≡ true → version < 2 ^ 32
is_small version known =
    elim (cases_Bool (eqb version 2)) [
      | inl is ↦ omega (arith, eqb-true version 2 is)
      | inr other ↦ omega (arith, is_first version known other)
    ]

version_again : (version : ℕ) (file rest : List ℕ) → is_version version ≡ true →
    drop 0 file ≡ codes "CLOAKBND" ++ (word version ++ rest) → version_at file ≡ Ok version
unfolding version_at
version_again version file rest known e =
    let magic = bytes_again file 0 8 (codes "CLOAKBND") (word version ++ rest) e refl in
    let e8 : drop 8 file ≡ word version ++ rest = behind file 0 (codes "CLOAKBND") (word version ++ rest) e in
    let number = number_again file 8 version rest (is_small version known) e8 in
    rw (magic, number, known) refl

header_again : (version : ℕ) (file rest : List ℕ) (h : Header) → is_version version ≡ true →
    h.keys ≡ eqb version 2 → HeaderFits h → drop 0 file ≡ codes "CLOAKBND" ++
    (word version ++ (word h.frames ++ (word
    h.harts ++ (word h.turns ++ (word
    h.entry ++ (word h.segments ++ (word h.blocks ++ (word h.programs ++ rest))))))))
    → header_at file ≡ Ok h
unfolding header_at
header_again version file rest h known keys fits e =
    let r36 = word h.programs ++ rest in
    let r32 = word h.blocks ++ r36 in
    let r28 = word h.segments ++ r32 in
    let r24 = word h.entry ++ r28 in
    let r20 = word h.turns ++ r24 in
    let r16 = word h.harts ++ r20 in
    let r12 = word h.frames ++ r16 in
    let e12 : drop 12 file ≡ r12 = behind file 0 (codes "CLOAKBND" ++ word version) r12 e in
    let e16 : drop 16 file ≡ r16 = behind file 12 (word h.frames) r16 e12 in
    let e20 : drop 20 file ≡ r20 = behind file 16 (word h.harts) r20 e16 in
    let e24 : drop 24 file ≡ r24 = behind file 20 (word h.turns) r24 e20 in
    let e28 : drop 28 file ≡ r28 = behind file 24 (word h.entry) r28 e24 in
    let e32 : drop 32 file ≡ r32 = behind file 28 (word h.segments) r32 e28 in
    let e36 : drop 36 file ≡ r36 = behind file 32 (word h.blocks) r36 e32 in
    rw (
      keys,
      version_again version file r12 known e,
      count_again file 12 frame_counts h.frames r16 (omega arith) fits.some_frames fits.few_frames e12,
      count_again file 16 hart_counts h.harts r20 (omega arith) fits.some_harts fits.few_harts e16,
      count_again file 20 schedule_lengths h.turns r24 (omega arith) fits.some_turns fits.few_turns e20,
      entry_again file 24 h.entry r28 fits.entry fits.entry_fits e24,
      count_again file 28 segment_counts h.segments r32 (omega arith) (omega arith) fits.few_segments e28,
      count_again file 32 block_counts h.blocks r36 (omega arith) (omega arith) fits.few_blocks e32,
      count_again file 36 program_counts h.programs rest (omega arith) (omega arith) fits.few_programs e36,
    ) refl

-- the key of each program, in a file with keys and in one without
are_keyed : (keys : Bool) (frames : ℕ) (ps : List Program) → AllByRecursion (IsProgramIn frames) ps →
    (keys ≡ false → AllByRecursion (λ (p : Program). p.key ≡ 0) ps) →
    AllByRecursion (λ (p : Program). IsProgramIn frames p × KeyFits keys p.key) ps
are_keyed keys frames [] h none = tt
are_keyed true frames (p ∷ ps) h none = ((h.0, h.0.key), are_keyed true frames ps h.1 (λ e. absurd cc))
are_keyed false frames (p ∷ ps) h none = ((h.0, (none refl).0), are_keyed false frames ps h.1 (λ _. (none refl).1))

in_version : (version : ℕ) (file : List ℕ) (b : Bundle) → IsBundleIn version file b →
    AllByRecursion (λ (p : Program). IsProgramIn b.kernel.frames p × KeyFits (eqb version 2) p.key) b.programs
in_version version file b is =
    are_keyed (eqb version 2) b.kernel.frames b.programs
    (recursion_from_All (IsProgramIn b.kernel.frames) b.programs is.in_grammar.programs)
    (λ other. recursion_from_All (λ (p : Program). p.key ≡ 0) b.programs
    (is.of_version (is_first version is.known other)))

again_in : (version : ℕ) (file : List ℕ) (b : Bundle) → IsBundleIn version file b → bundle_at file ≡ Ok b
unfolding bundle_at bundle_bytes
again_in version file b is =
    let k = b.kernel in
    let g = is.in_grammar in
    let keys = eqb version 2 in
    let segments_text = flat_map segment_bytes k.segments in
    let programs_text = flat_map (program_bytes version) b.programs in
    let r3 = k.disk ++ programs_text in
    let r2 = segments_text ++ r3 in
    let r1 = k.schedule ++ r2 in
    let h : Header = record {
      keys = keys;
      frames = k.frames;
      harts = k.harts;
      turns = length k.schedule;
      entry = k.entry;
      segments = length k.segments;
      blocks = length k.disk / 4096;
      programs = length b.programs;
    } in
    let front = codes "CLOAKBND" ++
    (word version ++ (word h.frames ++ (word
    h.harts ++ (word h.turns ++ (word h.entry ++ (word h.segments ++ (word h.blocks ++ word h.programs))))))) in
    let text : drop 0 file ≡ front ++ r1 = sym is.spelled in
    let fits : HeaderFits h = record {
      some_frames = g.kernel.some_frames;
      few_frames = g.kernel.few_frames;
      some_harts = g.kernel.some_harts;
      few_harts = g.kernel.few_harts;
      some_turns = g.kernel.some_turns;
      few_turns = g.kernel.few_turns;
      entry = g.kernel.entry;
      entry_fits = g.kernel.entry_fits;
      few_segments = g.kernel.few_segments;
      few_blocks = omega (arith, g.kernel.few_blocks);
      few_programs = g.few_programs;
    } in
    let header = header_again version file r1 h is.known refl fits text in
    let e40 : drop 40 file ≡ r1 = behind file 0 front r1 text in
    let at1 = 40 + length k.schedule in
    let at2 = at1 + length segments_text in
    let at3 = at2 + length k.disk in
    let at4 = at3 + length programs_text in
    let e1 : drop at1 file ≡ r2 = behind file 40 k.schedule r2 e40 in
    let e2 : drop at2 file ≡ r3 = behind file at1 segments_text r3 e1 in
    let e3 : drop at3 file ≡ programs_text = behind file at2 k.disk programs_text e2 in
    let schedule : parts_at (turn_at k.harts file) (λ _. 1) (length k.schedule) 40 ≡ Ok (k.schedule, at1) =
    parts_again (λ x. x ∷ []) (λ x. x < k.harts) file (turn_at k.harts file) (λ _. 1)
    (λ at x rest lt here. turn_again k.harts file at x rest lt here) (λ _. refl) k.schedule 40 r2
    (recursion_from_All (λ x. x < k.harts) k.schedule g.kernel.turns) (rw (joined k.schedule) e40)
    ∙ ap (λ (t : List ℕ). Ok (k.schedule, 40 + length t)) (joined k.schedule) in
    let segments : parts_at (segment_at k.frames file) segment_size (length k.segments) at1 ≡ Ok (k.segments, at2) =
    parts_again segment_bytes (IsSegmentIn k.frames) file (segment_at k.frames file) segment_size
    (λ at s rest inside here. segment_again k.frames file at s rest g.kernel.few_frames inside here)
    (λ s. omega arith) k.segments at1 r3
    (recursion_from_All (IsSegmentIn k.frames) k.segments g.kernel.segments) e1 in
    let blocks : length k.disk ≡ 4096 * (length k.disk / 4096) = omega (arith, g.kernel.blocks) in
    let disk = pages_again file at2 (length k.disk / 4096) k.disk programs_text e2 blocks in
    let programs : parts_at (program_at keys k.frames file) (program_size keys) (length b.programs) at3
    ≡ Ok (b.programs, at4) =
    parts_again (program_bytes version) (λ p. IsProgramIn k.frames p × KeyFits keys p.key) file
    (program_at keys k.frames file) (program_size keys)
    (λ at p rest inside here. program_again version k.frames file at p rest g.kernel.few_frames inside here)
    (λ p. sym (program_bytes-length version p)) b.programs at3 [] (in_version version file b is)
    (e3 ∙ sym (append-nil programs_text)) in
    let size : length file ≡ length (bundle_bytes version b) = ap length (sym is.spelled) in
    let total : at4 ≡ length (bundle_bytes version b) = sym (bundle_bytes-length version b) in
    let end : eqb at4 (length file) ≡ true = eq-eqb _ _ (total ∙ sym size) in
    rw (le-ltb largest_bundle (length file) is.fits, header, schedule, segments, disk, programs, end) refl

pub bundle_again : (file : List ℕ) (b : Bundle) → IsBundle file b → bundle_at file ≡ Ok b
bundle_again file b is = again_in is.0 file b is.1

-- a bundle is determined by its bytes, in whichever version they are
pub one_bundle : (file : List ℕ) (a b : Bundle) → IsBundle file a → IsBundle file b → a ≡ b
one_bundle file a b is_a is_b = ok_is a b (sym (bundle_again file a is_a) ∙ bundle_again file b is_b)
