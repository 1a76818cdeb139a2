-- A file that is read is the spelling of what is read.
use Rattle.std.proofs.Common.{◌≡◌, ℕ, ◌+◌, ◌*◌, ◌/◌, ◌%◌, ◌^◌, ◌<◌, ◌≤◌, true, cond, ltb, eqb, List, [], ◌∷◌, ◌++◌}
use Rattle.std.proofs.Common.{length, drop, codes, Result, Ok, Err, refl, sym, ap, subst, ◌∙◌, arith}
use Rattle.std.specs.Str.{bytes_eq}
use Rattle.std.proofs.lemmas.Slice.Eq.{bytes_eq-Decides}
use Rattle.std.specs.List.{flat_map, AllByRecursion}
use Rattle.std.proofs.lemmas.Bool.{ltb-false, eqb-true}
use Rattle.std.proofs.lemmas.List.{append-nil, drop_all}
use Rattle.std.proofs.lemmas.List.Concat.{flat_map-cons}
use Rattle.std.proofs.lemmas.List.Elements.{All-from_recursion}
use Rattle.cloak_model.specs.Bits.{word}
use Rattle.cloak_model.specs.Bundle.{segment_bytes, program_bytes, bundle_bytes, IsSegmentIn, IsProgramIn, IsInGrammar}
use Rattle.cloak_base.specs.Constants.{largest_bundle}
use Rattle.cloak_model.specs.Bundle.{is_version, IsOfVersion, IsBundle, frame_counts, hart_counts, schedule_lengths}
use Rattle.cloak_model.specs.Bundle.{segment_counts, block_counts, program_counts}
use Rattle.cloak_model.specs.declared.image.Segment.{Segment}
use Rattle.cloak_model.specs.declared.image.Program.{Program}
use Rattle.cloak_model.specs.declared.image.Bundle.{Bundle}
use Rattle.cloak_model.specs.declared.fault.BundleFault.{BundleFault}
use Rattle.cloak_model.specs.declared.fault.BundleFault.TheVariants.{BadMagic, BadVersion, TooLarge, Extra}
use Rattle.field_facts.proofs.Stands.{Stands, Stands-then}
use Rattle.guest_bundle.specs.declared.header.Header.{Header}
use Rattle.guest_bundle.specs.Fields.{◌>>=◌, bytes_at, pages_at, number_at, count_at, entry_at}
use Rattle.guest_bundle.specs.Reading.{version_at, header_at, turn_at, segment_at, segment_size, program_at}
use Rattle.guest_bundle.specs.Reading.{program_size, parts_at, bundle_of, bundle_at}
use Rattle.guest_bundle.proofs.Steps.{bind_ok, refused_not, passed, ok_is, KeyFits}
use Rattle.guest_bundle.proofs.Lengths.{first_shortest}
use Rattle.guest_bundle.proofs.Takes.{bytes_take, pages_take, number_takes, count_takes, entry_takes, turn_takes}
use Rattle.guest_bundle.proofs.Takes.{segment_takes, program_takes, parts_take}
use Rattle.cloak_base.proofs.Lists.{IsBytes}

-- what a version that was read says
pub record VersionSteps (file : List ℕ) (v : ℕ) : Type 0 where
  pub magic : bytes_at file 0 8 ≡ Ok (codes "CLOAKBND")
  pub number : number_at file 8 ≡ Ok v
  pub known : is_version v ≡ true

pub version_steps : (file : List ℕ) (v : ℕ) → version_at file ≡ Ok v → VersionSteps file v
unfolding version_at
version_steps file v e =
    let last : ℕ → Result ℕ BundleFault = λ n. cond (is_version n) (Ok n) (Err (BadVersion n)) in
    let a = bind_ok (bytes_at file 0 8)
    (λ magic. cond (bytes_eq magic (codes "CLOAKBND")) (number_at file 8) (Err BadMagic) >>= last) v e in
    let b = bind_ok (cond (bytes_eq a.0 (codes "CLOAKBND")) (number_at file 8) (Err BadMagic)) last v a.2 in
    let magic = passed (bytes_eq a.0 (codes "CLOAKBND")) BadMagic (number_at file 8) b.0 b.1 in
    let known = passed (is_version b.0) (BadVersion b.0) (Ok b.0) v b.2 in
    let is : b.0 ≡ v = ok_is _ _ known.1 in
    record {
      magic = a.1 ∙ ap (λ t. Ok t) ((bytes_eq-Decides a.0 (codes "CLOAKBND")).0 magic.0);
      number = magic.1 ∙ ap (λ n. Ok n) is;
      known = subst (λ n. is_version n ≡ true) is known.0;
    }

version_takes : (file : List ℕ) (v : ℕ) → IsBytes file → VersionSteps file v →
    Stands file 0 (codes "CLOAKBND" ++ word v) 12
version_takes file v fits s =
    Stands-then file 0 (codes "CLOAKBND") 8 (word v) 12 (bytes_take file 0 8 (codes "CLOAKBND") s.magic).0
    (number_takes file 8 v fits s.number).text

-- what a header that was read says of its numbers
pub record HeaderSteps (v a b c d e f g : Result ℕ BundleFault) (h : Header) : Type 0 where
  pub version : (n : ℕ) × (v ≡ Ok n) × (h.keys ≡ eqb n 2)
  pub frames : a ≡ Ok h.frames
  pub harts : b ≡ Ok h.harts
  pub turns : c ≡ Ok h.turns
  pub entry : d ≡ Ok h.entry
  pub segments : e ≡ Ok h.segments
  pub blocks : f ≡ Ok h.blocks
  pub programs : g ≡ Ok h.programs

unfoldable pub header_from : Result ℕ BundleFault → Result ℕ BundleFault → Result ℕ BundleFault → Result ℕ BundleFault →
    Result ℕ BundleFault → Result ℕ BundleFault → Result ℕ BundleFault → Result ℕ BundleFault →
    Result Header BundleFault
header_from v a b c d e f g = do
  version ← v
  frames ← a
  harts ← b
  turns ← c
  entry ← d
  segments ← e
  blocks ← f
  programs ← g
  Ok (record {
    keys = eqb version 2;
    frames = frames;
    harts = harts;
    turns = turns;
    entry = entry;
    segments = segments;
    blocks =
        blocks;
    programs = programs;
  })

pub header_steps : (v a b c d e f g : Result ℕ BundleFault) (h : Header) → header_from v a b c d e f g ≡ Ok h →
    HeaderSteps v a b c d e f g h
unfolding header_from
header_steps (Ok v) (Ok a) (Ok b) (Ok c) (Ok d) (Ok e) (Ok f) (Ok g) h is =
    let made : Header = record {
      keys = eqb v 2;
      frames = a;
      harts = b;
      turns = c;
      entry = d;
      segments = e;
      blocks = f;
      programs =
          g;
    } in
    subst (λ (x : Header). HeaderSteps (Ok v) (Ok a) (Ok b) (Ok c) (Ok d) (Ok e) (Ok f) (Ok g) x) (ok_is made h is)
    (record {
      version = (v, refl, refl);
      frames = refl;
      harts = refl;
      turns = refl;
      entry = refl;
      segments =
          refl;
      blocks = refl;
      programs = refl;
    })
header_steps (Ok v) (Ok a) (Ok b) (Ok c) (Ok d) (Ok e) (Ok f) (Err x) h is = absurd cc
header_steps (Ok v) (Ok a) (Ok b) (Ok c) (Ok d) (Ok e) (Err x) g h is = absurd cc
header_steps (Ok v) (Ok a) (Ok b) (Ok c) (Ok d) (Err x) f g h is = absurd cc
header_steps (Ok v) (Ok a) (Ok b) (Ok c) (Err x) e f g h is = absurd cc
header_steps (Ok v) (Ok a) (Ok b) (Err x) d e f g h is = absurd cc
header_steps (Ok v) (Ok a) (Err x) c d e f g h is = absurd cc
header_steps (Ok v) (Err x) b c d e f g h is = absurd cc
header_steps (Err x) a b c d e f g h is = absurd cc

header_text : Header → List ℕ
header_text h = word h.frames ++
    (word h.harts ++ (word h.turns ++ (word h.entry ++ (word h.segments ++ (word h.blocks ++ word h.programs)))))

-- the numbers of a header in their ranges
pub record HeaderFits (h : Header) : Type 0 where
  pub some_frames : frame_counts.low ≤ h.frames
  pub few_frames : h.frames ≤ frame_counts.high
  pub some_harts : hart_counts.low ≤ h.harts
  pub few_harts : h.harts ≤ hart_counts.high
  pub some_turns : schedule_lengths.low ≤ h.turns
  pub few_turns : h.turns ≤ schedule_lengths.high
  pub entry : h.entry % 4 ≡ 0
  pub entry_fits : h.entry < 2 ^ 32
  pub few_segments : h.segments ≤ segment_counts.high
  pub few_blocks : h.blocks ≤ block_counts.high
  pub few_programs : h.programs ≤ program_counts.high

-- what a header that was read says, beside its numbers
record HeaderStands (file : List ℕ) (h : Header) : Type 0 where
  version : ℕ
  known : is_version version ≡ true
  keys : h.keys ≡ eqb version 2
  text : Stands file 0 ((codes "CLOAKBND" ++ word version) ++ header_text h) 40
  fits : HeaderFits h

header_takes : (file : List ℕ) (h : Header) → IsBytes file → header_at file ≡ Ok h → HeaderStands file h
unfolding header_at header_from header_text
header_takes file h fits e =
    let s = header_steps (version_at file) (count_at file 12 frame_counts) (count_at file 16 hart_counts) (count_at file 20 schedule_lengths)
    (entry_at file 24) (count_at file 28 segment_counts) (count_at file 32 block_counts) (count_at file 36 program_counts) h e in
    let v = s.version.0 in
    let version = version_steps file v s.version.1 in
    let frames = count_takes file 12 frame_counts h.frames fits s.frames in
    let harts = count_takes file 16 hart_counts h.harts fits s.harts in
    let turns = count_takes file 20 schedule_lengths h.turns fits s.turns in
    let entry = entry_takes file 24 h.entry fits s.entry in
    let segments = count_takes file 28 segment_counts h.segments fits s.segments in
    let blocks = count_takes file 32 block_counts h.blocks fits s.blocks in
    let programs = count_takes file 36 program_counts h.programs fits s.programs in
    let text = Stands-then file 0 (codes "CLOAKBND" ++ word v) 12 (header_text h) 40 (version_takes file v fits version)
    (Stands-then file 12 (word h.frames) 16
    (word h.harts ++ (word h.turns ++ (word h.entry ++ (word h.segments ++ (word h.blocks ++ word h.programs))))) 40
    frames.0.text
    (Stands-then file 16 (word h.harts) 20
    (word h.turns ++ (word h.entry ++ (word h.segments ++ (word h.blocks ++ word h.programs)))) 40 harts.0.text
    (Stands-then file 20 (word h.turns) 24 (word h.entry ++ (word h.segments ++ (word h.blocks ++ word h.programs))) 40
    turns.0.text
    (Stands-then file 24 (word h.entry) 28 (word h.segments ++ (word h.blocks ++ word h.programs)) 40 entry.0.text
    (Stands-then file 28 (word h.segments) 32 (word h.blocks ++ word h.programs) 40 segments.0.text
    (Stands-then file 32 (word h.blocks) 36 (word h.programs) 40 blocks.0.text programs.0.text)))))) in
    record {
      version = v;
      known = version.known;
      keys = s.version.2;
      text = text;
      fits = record {
        some_frames = frames.1;
        few_frames = frames.2;
        some_harts = harts.1;
        few_harts =
            harts.2;
        some_turns = turns.1;
        few_turns = turns.2;
        entry = entry.1;
        entry_fits = entry.0.small;
        few_segments =
            segments.2;
        few_blocks = blocks.2;
        few_programs = programs.2;
      };
    }

-- bytes, each as a list of its own
pub joined : (xs : List ℕ) → flat_map (λ x. x ∷ []) xs ≡ xs
joined [] = refl
joined (x ∷ xs) = rw (flat_map-cons, joined xs) refl

-- what a bundle that was read says of its parts
record BundleSteps (file : List ℕ) (bundle : Bundle) : Type 0 where
  h : Header
  schedule : List ℕ × ℕ
  segments : List Segment × ℕ
  disk : List ℕ
  programs : List Program × ℕ
  small : length file ≤ largest_bundle
  header_is : header_at file ≡ Ok h
  schedule_is : parts_at (turn_at h.harts file) (λ _. 1) h.turns 40 ≡ Ok schedule
  segments_is : parts_at (segment_at h.frames file) segment_size h.segments schedule.1 ≡ Ok segments
  disk_is : pages_at file segments.1 h.blocks ≡ Ok disk
  programs_is : parts_at (program_at h.keys h.frames file) (program_size h.keys) h.programs (segments.1 + length disk)
      ≡ Ok programs
  end : programs.1 ≡ length file
  bundle_is : bundle_of h schedule.0 segments.0 disk programs.0 ≡ bundle

bundle_steps : (file : List ℕ) (bundle : Bundle) → bundle_at file ≡ Ok bundle → BundleSteps file bundle
unfolding bundle_at
bundle_steps file bundle e =
    let k4 = λ (h : Header) (schedule : List ℕ × ℕ) (segments : List Segment × ℕ) (disk : List ℕ)
    (programs : List Program × ℕ). cond (eqb programs.1 (length file))
    (Ok (bundle_of h schedule.0 segments.0 disk programs.0)) (Err (Extra programs.1)) in
    let k3 = λ (h : Header) (schedule : List ℕ × ℕ) (segments : List Segment × ℕ) (disk : List ℕ). parts_at
    (program_at h.keys h.frames file) (program_size h.keys) h.programs (segments.1 + length disk)
    >>= k4 h schedule segments disk in
    let k2 = λ (h : Header) (schedule : List ℕ × ℕ) (segments : List Segment × ℕ). pages_at file segments.1 h.blocks >>=
    k3 h schedule segments in
    let k1 = λ (h : Header) (schedule : List ℕ × ℕ). parts_at (segment_at h.frames file) segment_size h.segments
    schedule.1 >>= k2 h schedule in
    let k0 = λ (h : Header). parts_at (turn_at h.harts file) (λ _. 1) h.turns 40 >>= k1 h in
    let a = bind_ok (cond (ltb largest_bundle (length file)) (Err (TooLarge 0)) (header_at file)) k0 bundle e in
    let small = refused_not (ltb largest_bundle (length file)) (TooLarge 0) (header_at file) a.0 a.1 in
    let b = bind_ok (parts_at (turn_at a.0.harts file) (λ _. 1) a.0.turns 40) (k1 a.0) bundle a.2 in
    let c = bind_ok (parts_at (segment_at a.0.frames file) segment_size a.0.segments b.0.1) (k2 a.0 b.0) bundle b.2 in
    let d = bind_ok (pages_at file c.0.1 a.0.blocks) (k3 a.0 b.0 c.0) bundle c.2 in
    let p = bind_ok (parts_at (program_at a.0.keys a.0.frames file) (program_size a.0.keys) a.0.programs
    (c.0.1 + length d.0))
    (k4 a.0 b.0 c.0 d.0) bundle d.2 in
    let end = passed (eqb p.0.1 (length file)) (Extra p.0.1) (Ok (bundle_of a.0 b.0.0 c.0.0 d.0 p.0.0)) bundle p.2 in
    record {
      h = a.0;
      schedule = b.0;
      segments = c.0;
      disk = d.0;
      programs = p.0;
      small =
          ltb-false _ _ small.0;
      header_is = small.1;
      schedule_is = b.1;
      segments_is = c.1;
      disk_is = d.1;
      programs_is =
          p.1;
      end = eqb-true _ _ end.0;
      bundle_is = ok_is _ _ end.1;
    }

-- the numbers of a header that its parts fit
record CountsAre (h : Header) (schedule : List ℕ) (segments : List Segment) (disk : List ℕ)
    (programs : List Program) : Type 0 where
  turn_count : length schedule ≡ h.turns
  segment_count : length segments ≡ h.segments
  block_bytes : length disk ≡ 4096 * h.blocks
  program_count : length programs ≡ h.programs

made_spelled : (version : ℕ) (h : Header) (schedule : List ℕ) (segments : List Segment) (disk : List ℕ)
    (programs : List Program) → CountsAre h schedule segments disk programs
    → bundle_bytes version (bundle_of h schedule segments disk programs)
    ≡ ((codes "CLOAKBND" ++ word version) ++ header_text h) ++
    (schedule ++ (flat_map segment_bytes segments ++ (disk ++ flat_map (program_bytes version) programs)))
unfolding bundle_bytes header_text
made_spelled version h schedule segments disk programs counts =
    let blocks : length disk / 4096 ≡ h.blocks = omega (arith, counts.block_bytes) in
    rw (counts.turn_count, counts.segment_count, blocks, counts.program_count) refl

made_in_grammar : (h : Header) (schedule : List ℕ) (segments : List Segment) (disk : List ℕ) (programs : List Program) →
    HeaderFits h → CountsAre h schedule segments disk programs
    → AllByRecursion (λ x. x < h.harts) schedule → AllByRecursion (IsSegmentIn h.frames) segments →
    AllByRecursion (IsProgramIn h.frames) programs
    → length (bundle_bytes 1 (bundle_of h schedule segments disk programs)) ≤ largest_bundle →
    IsInGrammar (bundle_of h schedule segments disk programs)
made_in_grammar h schedule segments disk programs fits counts turns_fit segments_fit programs_fit small = record {
  kernel = record {
    some_frames = fits.some_frames;
    few_frames = fits.few_frames;
    some_harts = fits.some_harts;
    few_harts = fits.few_harts;
    some_turns = omega (arith, counts.turn_count, fits.some_turns);
    few_turns = omega (arith, counts.turn_count, fits.few_turns);
    turns = All-from_recursion (λ x. x < h.harts) schedule turns_fit;
    entry = fits.entry;
    entry_fits = fits.entry_fits;
    few_segments = omega (arith, counts.segment_count, fits.few_segments);
    segments = All-from_recursion (IsSegmentIn h.frames) segments segments_fit;
    blocks = omega (arith, counts.block_bytes);
    few_blocks = omega (arith, counts.block_bytes, fits.few_blocks);
  };
  few_programs = omega (arith, counts.program_count, fits.few_programs);
  programs = All-from_recursion (IsProgramIn h.frames) programs programs_fit;
  not_too_large = small;
}

-- the programs of a file, in the version that it has
abbrev ProgramFits : ℕ → ℕ → Program → Type 0
ProgramFits version frames p = IsProgramIn frames p × KeyFits (eqb version 2) p.key

fit_in : (version frames : ℕ) (ps : List Program) → AllByRecursion (ProgramFits version frames) ps →
    AllByRecursion (IsProgramIn frames) ps
fit_in version frames [] h = tt
fit_in version frames (p ∷ ps) h = (h.0.0, fit_in version frames ps h.1)

-- in version 1 there are no keys
no_keys : (frames : ℕ) (ps : List Program) → AllByRecursion (ProgramFits 1 frames) ps →
    AllByRecursion (λ (p : Program). p.key ≡ 0) ps
no_keys frames [] h = tt
no_keys frames (p ∷ ps) h = (h.0.1, no_keys frames ps h.1)

is_of_version : (version frames : ℕ) (b : Bundle) → AllByRecursion (ProgramFits version frames) b.programs →
    IsOfVersion version b
is_of_version version frames b h one =
    All-from_recursion (λ (p : Program). p.key ≡ 0) b.programs
    (no_keys frames b.programs (subst (λ v. AllByRecursion (ProgramFits v frames) b.programs) one h))

made_takes : (file : List ℕ) (h : Header) (schedule : List ℕ × ℕ) (segments : List Segment × ℕ) (disk : List ℕ)
    (programs : List Program × ℕ) → IsBytes file → length file ≤ largest_bundle
    → header_at file ≡ Ok h → parts_at (turn_at h.harts file) (λ _. 1) h.turns 40 ≡ Ok schedule →
    parts_at (segment_at h.frames file) segment_size h.segments schedule.1 ≡ Ok segments
    → pages_at file segments.1 h.blocks ≡ Ok disk →
    parts_at (program_at h.keys h.frames file) (program_size h.keys) h.programs (segments.1 + length disk) ≡ Ok programs
    → programs.1 ≡ length file → IsBundle file (bundle_of h schedule.0 segments.0 disk programs.0)
made_takes file h schedule segments disk programs fits small header_is schedule_is segments_is disk_is programs_is end =
    let a = header_takes file h fits header_is in
    let v = a.version in
    let from = segments.1 + length disk in
    let b = parts_take (λ x. x ∷ []) (λ x. x < h.harts) file (turn_at h.harts file) (λ _. 1)
    (λ at x is. turn_takes h.harts file at x is) h.turns 40 schedule schedule_is in
    let c = parts_take segment_bytes (IsSegmentIn h.frames) file (segment_at h.frames file) segment_size
    (λ at x is. segment_takes h.frames file at x fits is) h.segments schedule.1 segments segments_is in
    let d = pages_take file segments.1 h.blocks disk disk_is in
    let p = parts_take (program_bytes v) (ProgramFits v h.frames) file (program_at (eqb v 2) h.frames file)
    (program_size (eqb v 2)) (λ at x is. program_takes v h.frames file at x fits is) h.programs from programs
    (subst (λ k. parts_at (program_at k h.frames file) (program_size k) h.programs from ≡ Ok programs) a.keys
    programs_is) in
    let counts : CountsAre h schedule.0 segments.0 disk programs.0 =
    record { turn_count = b.1; segment_count = c.1; block_bytes = d.1; program_count = p.1 } in
    let disk_text : Stands file segments.1 disk from =
    subst (λ k. Stands file segments.1 disk (segments.1 + k)) (sym d.1) d.0 in
    let schedule_text : Stands file 40 schedule.0 schedule.1 =
    subst (λ t. Stands file 40 t schedule.1) (joined schedule.0) b.0 in
    let front = (codes "CLOAKBND" ++ word v) ++ header_text h in
    let programs_text = flat_map (program_bytes v) programs.0 in
    let body = schedule.0 ++ (flat_map segment_bytes segments.0 ++ (disk ++ programs_text)) in
    let whole : Stands file 0 (front ++ body) programs.1 =
    Stands-then file 0 front 40 body programs.1 a.text
    (Stands-then file 40 schedule.0 schedule.1 (flat_map segment_bytes segments.0 ++ (disk ++ programs_text)) programs.1
    schedule_text
    (Stands-then file schedule.1 (flat_map segment_bytes segments.0) segments.1 (disk ++ programs_text) programs.1 c.0
    (Stands-then file segments.1 disk from programs_text programs.1 disk_text p.0))) in
    let nothing : drop programs.1 file ≡ [] = drop_all programs.1 file (omega (arith, end)) in
    let text : file ≡ front ++ body =
    whole.parts ∙ ap (λ (r : List ℕ). (front ++ body) ++ r) nothing ∙ append-nil (front ++ body) in
    let made = bundle_of h schedule.0 segments.0 disk programs.0 in
    let spelling : bundle_bytes v made ≡ file = made_spelled v h schedule.0 segments.0 disk programs.0 counts ∙ sym text
    in
    let shorter : length (bundle_bytes 1 made) ≤ largest_bundle =
    omega (arith, first_shortest v made, ap length spelling, small) in (
      v,
      record {
        known = a.known;
        spelled = spelling;
        in_grammar = made_in_grammar h schedule.0 segments.0 disk programs.0 a.fits counts b.2 c.2
            (fit_in v h.frames programs.0 p.2) shorter;
        of_version = is_of_version v h.frames made p.2;
        fits = small;
      },
    )

-- a file that was read is a bundle's
pub bundle_takes : (file : List ℕ) (b : Bundle) → IsBytes file → bundle_at file ≡ Ok b → IsBundle file b
bundle_takes file bundle fits e =
    let s = bundle_steps file bundle e in
    subst (IsBundle file) s.bundle_is
    (made_takes file s.h s.schedule s.segments s.disk s.programs fits s.small s.header_is s.schedule_is
    s.segments_is s.disk_is s.programs_is s.end)
