-- What reading a file meets is its first fault.
use Rattle.std.proofs.Common.{◌≡◌, ℕ, ◌+◌, ◌%◌, Bool, true, false, cond, ltb, leb, eqb, List, [], ◌∷◌, ◌++◌}
use Rattle.std.proofs.Common.{length, take, codes, Option, Some, None, Result, Ok, Err, refl, sym, ap, subst, ◌∙◌, arith}
use Rattle.std.specs.Str.{bytes_eq}
use Rattle.cloak_base.specs.Constants.{largest_bundle}
use Rattle.cloak_model.specs.declared.image.Segment.{Segment}
use Rattle.cloak_model.specs.declared.image.Program.{Program}
use Rattle.cloak_model.specs.declared.image.Bundle.{Bundle}
use Rattle.cloak_model.specs.declared.fault.BundleFault.{BundleFault}
use Rattle.cloak_model.specs.declared.fault.BundleFault.TheVariants.{Short, BadMagic, BadVersion, TooLarge, BadRange}
use Rattle.cloak_model.specs.declared.fault.BundleFault.TheVariants.{Extra}
use Rattle.guest_bundle.specs.declared.header.Header.{Header}
use Rattle.guest_bundle.specs.Fields.{◌>>=◌, bytes_at, pages_at, number_at, count_at, entry_at}
use Rattle.guest_bundle.specs.Reading.{version_at, header_at, turn_at, segment_at, segment_size, place_at, base_at}
use Rattle.guest_bundle.specs.Reading.{key_at, program_at, program_size, parts_at, bundle_of, bundle_at}
use Rattle.guest_bundle.specs.Places.{key_size}
use Rattle.cloak_model.specs.Bundle.{is_version, frame_counts, hart_counts, schedule_lengths, segment_counts}
use Rattle.cloak_model.specs.Bundle.{block_counts, program_counts, page_counts, key_numbers}
use Rattle.cloak_model.specs.BundleFault.{lies_in_ram, is_base_of}
use Rattle.cloak_model.specs.BundleFault as format
use Rattle.cloak_model.specs.Fields as grammar
use Rattle.cloak_model.specs.Fields.{first_of, fault_in, first_in, number}
use Rattle.cloak_model.specs.BundleFault.{BundleField, any_at, ruled_at, bundle_fault}
use Rattle.guest_bundle.proofs.Steps.{bind_ok, passed, ok_is}
use Rattle.guest_bundle.proofs.Takes.{bytes_take, pages_take, program_steps}
use Rattle.guest_bundle.proofs.Found.{version_steps, header_from, header_steps}
use Rattle.guest_bundle.proofs.Tells.{Tells, first_of-none, first_of-assoc, first_in-append, bind_tells, refused_tells}
use Rattle.guest_bundle.proofs.Tells.{passed_tells, ruled_tells, guarded_tells, short, field_tells, number_tells}
use Rattle.guest_bundle.proofs.Tells.{number_is, bytes_tell, bytes_are, count_tells, count_is, entry_tells, place_tells}
use Rattle.guest_bundle.proofs.Tells.{base_tells, turn_tells, parts_tell, parts_end, pages_tell, pages_end}

-- ---- segments and programs

pub segment_tells : (file : List ℕ) (frames at : ℕ) → number file 12 ≡ frames →
    Tells (segment_at frames file at) (first_in file (format.segment file at))
unfolding segment_at
segment_tells file frames at is =
    let last : ℕ → List ℕ → Result Segment BundleFault =
    λ address bytes. Ok (record { address = address; bytes = bytes }) in
    let k3 : ℕ → ℕ → Result (List ℕ) BundleFault =
    λ address size. cond (lies_in_ram frames address size) (bytes_at file (at + 8) size) (Err (BadRange at)) in
    let k2 : ℕ → ℕ → Result Segment BundleFault = λ address size. k3 address size >>= last address in
    let k1 : ℕ → Result Segment BundleFault = λ address. number_at file (at + 4) >>= k2 address in
    let wrong : ℕ → ℕ → ℕ → Option BundleFault =
    λ f address size. cond (lies_in_ram f address size) None (Some (BadRange at)) in
    let ruled_field : ℕ → ℕ → ℕ → BundleField =
    λ f address size. record { at = at + 4; size = 4; cut = Short (at + 4); wrong = wrong f address size } in
    let rest : ℕ → List BundleField = λ size. any_at (at + 8) size ∷ [] in
    let inner : (address size : ℕ) →
    Tells (k2 address size) (first_of (wrong frames address size) (first_in file (rest size))) = λ address size.
    subst (Tells (k2 address size)) (first_of-assoc (wrong frames address size) (short file (at + 8) size) None)
    (bind_tells (k3 address size) (last address) (first_of (wrong frames address size) (short file (at + 8) size)) None
    (passed_tells (lies_in_ram frames address size) (BadRange at) (bytes_at file (at + 8) size)
    (short file (at + 8) size) (bytes_tell file (at + 8) size)) (λ _ _. refl)) in
    field_tells file (any_at at 4) (ruled_field (number file 12) (number file at) (number file (at + 4)) ∷ rest
    (number file (at + 4))) (number_at file at) k1 (number_tells file at) (λ address e1.
    field_tells file (ruled_field (number file 12) (number file at) (number file (at + 4)))
    (rest (number file (at + 4))) (number_at file (at + 4)) (k2 address) (number_tells file (at + 4)) (λ size e2.
    rw (is, number_is file at address e1, number_is file (at + 4) size e2) (inner address size)))

pub after_segment_is : (file : List ℕ) (frames at : ℕ) (s : Segment) → segment_at frames file at ≡ Ok s →
    format.after_segment file at ≡ at + segment_size s
unfolding segment_at
after_segment_is file frames at s e =
    let made : ℕ → List ℕ → Segment = λ address bytes. record { address = address; bytes = bytes } in
    let a = bind_ok (number_at file at)
    (λ address. number_at file (at + 4) >>= λ size. cond (lies_in_ram frames address size)
    (bytes_at file (at + 8) size) (Err (BadRange at)) >>= λ bytes. Ok (made address bytes)) s e in
    let b = bind_ok (number_at file (at + 4))
    (λ size. cond (lies_in_ram frames a.0 size) (bytes_at file (at + 8) size) (Err (BadRange at)) >>= λ bytes. Ok
    (made a.0 bytes)) s a.2 in
    let c = bind_ok (cond (lies_in_ram frames a.0 b.0) (bytes_at file (at + 8) b.0) (Err (BadRange at)))
    (λ bytes. Ok (made a.0 bytes)) s b.2 in
    let g = passed (lies_in_ram frames a.0 b.0) (BadRange at) (bytes_at file (at + 8) b.0) c.0 c.1 in
    let t = bytes_take file (at + 8) b.0 c.0 g.1 in
    let size : number file (at + 4) ≡ length c.0 = number_is file (at + 4) b.0 b.1 ∙ sym t.1 in
    ap (λ n. at + (8 + n)) size ∙ ap (λ x. at + segment_size x) (ok_is (made a.0 c.0) s c.2)

-- the fields of a key
abbrev key_fields : List ℕ → ℕ → Bool → List BundleField
key_fields file at keys = cond keys (format.count file at key_numbers ∷ []) []

key_tells : (keys : Bool) (file : List ℕ) (at : ℕ) →
    Tells (key_at keys file at) (first_in file (key_fields file at keys))
unfolding key_at
key_tells true file at =
    let field = fault_in file (format.count file at key_numbers) in
    subst (Tells (count_at file at key_numbers)) (sym (first_of-none field)) (count_tells file at key_numbers)
key_tells false file at = refl

-- what stands before the bytes of a program's pages
header_is : (keys : Bool) → cond keys 24 20 ≡ 20 + key_size keys
header_is true = refl
header_is false = refl

pages_at_is : (keys : Bool) (at : ℕ) → at + 20 + key_size keys ≡ at + cond keys 24 20
pages_at_is keys at = omega (arith, header_is keys)

pub program_tells : (file : List ℕ) (keys : Bool) (frames at : ℕ) → format.has_keys file ≡ keys →
    number file 12 ≡ frames → Tells (program_at keys frames file at) (first_in file (format.program file at))
unfolding program_at
program_tells file keys frames at has is =
    let made : ℕ → ℕ → ℕ → ℕ → ℕ → ℕ → List ℕ → Result Program BundleFault =
    λ pages place base entry sp key bytes. Ok (record {
      place = place;
      start = record { pages = pages; base = base; entry = entry; sp = sp };
      key = key;
      bytes = bytes;
    }) in
    let k6 = λ (pages place base entry sp key : ℕ). pages_at file (at + 20 + key_size keys) pages >>=
    made pages place base entry sp key in
    let k5 = λ (pages place base entry sp : ℕ). key_at keys file (at + 20) >>= k6 pages place base entry sp in
    let k4 = λ (pages place base entry : ℕ). number_at file (at + 16) >>= k5 pages place base entry in
    let k3 = λ (pages place base : ℕ). entry_at file (at + 12) >>= k4 pages place base in
    let k2 = λ (pages place : ℕ). base_at pages file (at + 8) >>= k3 pages place in
    let k1 = λ (pages : ℕ). place_at frames pages file (at + 4) >>= k2 pages in
    let f1 : ℕ → ℕ → BundleField = λ f pages. ruled_at (at + 4) 4 (leb (number file (at + 4) + pages) f) (BadRange (at + 4)) in
    let f2 : ℕ → BundleField = λ pages. ruled_at (at + 8) 4 (is_base_of pages (number file (at + 8))) (BadRange (at + 8)) in
    let f3 : BundleField = ruled_at (at + 12) 4 (eqb (number file (at + 12) % 4) 0) (BadRange (at + 12)) in
    let f4 : BundleField = any_at (at + 16) 4 in
    let last : Bool → ℕ → List BundleField = λ k pages. format.pages pages (at + cond k 24 20) in
    let tail : Bool → ℕ → List BundleField = λ k pages. key_fields file (at + 20) k ++ last k pages in
    let t6 : (pages place base entry sp key : ℕ) →
    Tells (k6 pages place base entry sp key) (first_in file (last keys pages)) =
    λ pages place base entry sp key.
    let told = pages_tell file (at + 20 + key_size keys) pages in
    let fault = first_in file (last keys pages) in
    subst (Tells (k6 pages place base entry sp key)) (first_of-none fault)
    (bind_tells (pages_at file (at + 20 + key_size keys) pages) (made pages place base entry sp key) fault None
    (subst (λ n. Tells (pages_at file (at + 20 + key_size keys) pages) (first_in file (format.pages pages n)))
    (pages_at_is keys at) told) (λ _ _. refl)) in
    let t5 : (pages place base entry sp : ℕ) → Tells (k5 pages place base entry sp) (first_in file (tail keys pages)) =
    λ pages place base entry sp.
    subst (Tells (k5 pages place base entry sp))
    (sym (first_in-append file (key_fields file (at + 20) keys) (last keys pages)))
    (bind_tells (key_at keys file (at + 20)) (k6 pages place base entry sp)
    (first_in file (key_fields file (at + 20) keys)) (first_in file (last keys pages)) (key_tells keys file (at + 20))
    (λ key _. t6 pages place base entry sp key)) in
    let t4 : (pages place base entry : ℕ) → Tells (k4 pages place base entry) (first_in file (f4 ∷ tail keys pages)) =
    λ pages place base entry.
    field_tells file f4 (tail keys pages) (number_at file (at + 16)) (k5 pages place base entry)
    (number_tells file (at + 16)) (λ sp _. t5 pages place base entry sp) in
    let t3 : (pages place base : ℕ) → Tells (k3 pages place base) (first_in file (f3 ∷ f4 ∷ tail keys pages)) =
    λ pages place base.
    bind_tells (entry_at file (at + 12)) (k4 pages place base) (fault_in file f3) (first_in file (f4 ∷ tail keys pages))
    (entry_tells file (at + 12)) (λ entry _. t4 pages place base entry) in
    let t2 : (pages place : ℕ) → Tells (k2 pages place) (first_in file (f2 pages ∷ f3 ∷ f4 ∷ tail keys pages)) =
    λ pages place.
    bind_tells (base_at pages file (at + 8)) (k3 pages place) (fault_in file (f2 pages))
    (first_in file (f3 ∷ f4 ∷ tail keys pages)) (base_tells pages file (at + 8)) (λ base _. t3 pages place base) in
    let t1 : (pages : ℕ) → Tells (k1 pages) (first_in file (f1 frames pages ∷ f2 pages ∷ f3 ∷ f4 ∷ tail keys pages)) =
    λ pages.
    bind_tells (place_at frames pages file (at + 4)) (k2 pages) (fault_in file (f1 frames pages))
    (first_in file (f2 pages ∷ f3 ∷ f4 ∷ tail keys pages)) (place_tells frames pages file (at + 4))
    (λ place _. t2 pages place) in
    let rest : Bool → ℕ → ℕ → Option BundleFault =
    λ k f pages. first_in file (f1 f pages ∷ f2 pages ∷ f3 ∷ f4 ∷ tail k pages) in
    bind_tells (count_at file at page_counts) k1 (fault_in file (format.count file at page_counts))
    (rest (format.has_keys file) (number file 12) (number file at)) (count_tells file at page_counts) (λ pages e.
    subst (λ k. Tells (k1 pages) (rest k (number file 12) (number file at))) (sym has)
    (subst (λ f. Tells (k1 pages) (rest keys f (number file at))) (sym is)
    (subst (λ n. Tells (k1 pages) (rest keys frames n)) (sym (count_is file at page_counts pages e)) (t1 pages))))

pub after_program_is : (file : List ℕ) (keys : Bool) (frames at : ℕ) (p : Program) → format.has_keys file ≡ keys →
    program_at keys frames file at ≡ Ok p → format.after_program file at ≡ at + program_size keys p
after_program_is file keys frames at p has e =
    let s = program_steps keys frames file at p e in
    let bytes = pages_take file (at + 20 + key_size keys) p.start.pages p.bytes s.bytes in
    let header : format.program_header file ≡ 20 + key_size keys = ap (λ k. cond k 24 20) has ∙ header_is keys in
    omega (arith, header, count_is file at page_counts p.start.pages s.pages, bytes.1)

-- ---- the header

version_tells : (file : List ℕ) →
    Tells (version_at file) (first_in file
    (ruled_at 0 8 (bytes_eq (take 8 file) (codes "CLOAKBND")) BadMagic ∷ ruled_at 8 4 (is_version (number file 8))
    (BadVersion (number file 8)) ∷ []))
unfolding version_at
version_tells file =
    let is_magic : List ℕ → Bool = λ bytes. bytes_eq bytes (codes "CLOAKBND") in
    let k2 : ℕ → Result ℕ BundleFault = λ n. cond (is_version n) (Ok n) (Err (BadVersion n)) in
    let after_magic : List ℕ → Result ℕ BundleFault =
    λ bytes. cond (is_magic bytes) (number_at file 8) (Err BadMagic) in
    let k1 : List ℕ → Result ℕ BundleFault = λ bytes. after_magic bytes >>= k2 in
    let wrong_magic : List ℕ → Option BundleFault = λ bytes. cond (is_magic bytes) None (Some BadMagic) in
    let wrong_version : ℕ → Option BundleFault = λ n. cond (is_version n) None (Some (BadVersion n)) in
    let version : BundleField = ruled_at 8 4 (is_version (number file 8)) (BadVersion (number file 8)) in
    let second : Tells (number_at file 8 >>= k2) (first_in file (version ∷ [])) =
    field_tells file version [] (number_at file 8) k2 (number_tells file 8) (λ n e.
    subst (λ m. Tells (k2 n) (first_of (wrong_version m) None)) (sym (number_is file 8 n e))
    (subst (Tells (k2 n)) (sym (first_of-none (wrong_version n))) (ruled_tells (is_version n) (BadVersion n) n))) in
    field_tells file (ruled_at 0 8 (is_magic (take 8 file)) BadMagic) (version ∷ []) (bytes_at file 0 8) k1
    (bytes_tell file 0 8) (λ bytes e.
    subst (λ m. Tells (k1 bytes) (first_of (wrong_magic m) (first_in file (version ∷ []))))
    (sym (bytes_are file 0 8 bytes e))
    (guarded_tells (is_magic bytes) BadMagic (number_at file 8) k2 (first_in file (version ∷ [])) second))

header_from_tells : (v a b c d e f g : Result ℕ BundleFault) (ov oa ob oc od oe of og : Option BundleFault) →
    Tells v ov → Tells a oa → Tells b ob → Tells c oc → Tells d od → Tells e oe → Tells f of → Tells g og
    → Tells (header_from v a b c d e f g)
    (first_of ov (first_of oa (first_of ob
    (first_of oc (first_of od (first_of oe (first_of of (first_of og None))))))))
unfolding header_from
header_from_tells (Ok v) (Ok a) (Ok b) (Ok c) (Ok d) (Ok e) (Ok f) (Ok g) ov oa ob oc od oe of og hv ha hb hc hd he hf
    hg = rw (hv, ha, hb, hc, hd, he, hf, hg) refl
header_from_tells (Ok v) (Ok a) (Ok b) (Ok c) (Ok d) (Ok e) (Ok f) (Err x) ov oa ob oc od oe of og hv ha hb hc hd he hf
    hg = rw (hv, ha, hb, hc, hd, he, hf, hg) refl
header_from_tells (Ok v) (Ok a) (Ok b) (Ok c) (Ok d) (Ok e) (Err x) g ov oa ob oc od oe of og hv ha hb hc hd he hf hg =
    rw (hv, ha, hb, hc, hd, he, hf) refl
header_from_tells (Ok v) (Ok a) (Ok b) (Ok c) (Ok d) (Err x) f g ov oa ob oc od oe of og hv ha hb hc hd he hf hg =
    rw (hv, ha, hb, hc, hd, he) refl
header_from_tells (Ok v) (Ok a) (Ok b) (Ok c) (Err x) e f g ov oa ob oc od oe of og hv ha hb hc hd he hf hg =
    rw (hv, ha, hb, hc, hd) refl
header_from_tells (Ok v) (Ok a) (Ok b) (Err x) d e f g ov oa ob oc od oe of og hv ha hb hc hd he hf hg =
    rw (hv, ha, hb, hc) refl
header_from_tells (Ok v) (Ok a) (Err x) c d e f g ov oa ob oc od oe of og hv ha hb hc hd he hf hg = rw (hv, ha, hb) refl
header_from_tells (Ok v) (Err x) b c d e f g ov oa ob oc od oe of og hv ha hb hc hd he hf hg = rw (hv, ha) refl
header_from_tells (Err x) a b c d e f g ov oa ob oc od oe of og hv ha hb hc hd he hf hg = rw hv refl

pub header_tells : (file : List ℕ) → Tells (header_at file) (first_in file (format.header file))
unfolding header_at header_from format.header
header_tells file =
    let m : BundleField = ruled_at 0 8 (bytes_eq (take 8 file) (codes "CLOAKBND")) BadMagic in
    let v : BundleField = ruled_at 8 4 (is_version (number file 8)) (BadVersion (number file 8)) in
    let c1 = format.count file 12 frame_counts in
    let c2 = format.count file 16 hart_counts in
    let c3 = format.count file 20 schedule_lengths in
    let c4 : BundleField = ruled_at 24 4 (eqb (number file 24 % 4) 0) (BadRange 24) in
    let c5 = format.count file 28 segment_counts in
    let c6 = format.count file 32 block_counts in
    let c7 = format.count file 36 program_counts in
    let steps = header_from_tells (version_at file) (count_at file 12 frame_counts) (count_at file 16 hart_counts)
    (count_at file 20 schedule_lengths) (entry_at file 24) (count_at file 28 segment_counts) (count_at file 32 block_counts)
    (count_at file 36 program_counts)
    (first_in file (m ∷ v ∷ [])) (fault_in file c1) (fault_in file c2) (fault_in file c3) (fault_in file c4)
    (fault_in file c5) (fault_in file c6) (fault_in file c7)
    (version_tells file) (count_tells file 12 frame_counts) (count_tells file 16 hart_counts) (count_tells file 20 schedule_lengths)
    (entry_tells file 24) (count_tells file 28 segment_counts) (count_tells file 32 block_counts) (count_tells file 36 program_counts) in
    subst (Tells (header_at file)) (sym (first_in-append file (m ∷ v ∷ []) (c1 ∷ c2 ∷ c3 ∷ c4 ∷ c5 ∷ c6 ∷ c7 ∷ [])))
    steps

-- ---- the file

chain : (file : List ℕ) (a b c d e : List BundleField) (end : Option BundleFault) →
    first_of (first_in file (a ++ (b ++ (c ++ (d ++ e))))) end
    ≡ first_of (first_in file a) (first_of (first_in file b)
    (first_of (first_in file c) (first_of (first_in file d) (first_of (first_in file e) end))))
chain file a b c d e end = simp (first_in-append, first_of-assoc)

refused_bind : {A B : Type 0} (t : Bool) (e : BundleFault) (r : Result A BundleFault) (k : A → Result B BundleFault) →
    (cond t (Err e) r >>= k) ≡ cond t (Err e) (r >>= k)
refused_bind true e r k = refl
refused_bind false e r k = refl

-- the numbers of a header that was read
record NumbersAre (file : List ℕ) (h : Header) : Type 0 where
  keys : format.has_keys file ≡ h.keys
  frames : number file 12 ≡ h.frames
  harts : number file 16 ≡ h.harts
  turns : number file 20 ≡ h.turns
  segments : number file 28 ≡ h.segments
  blocks : number file 32 ≡ h.blocks
  programs : number file 36 ≡ h.programs

numbers_are : (file : List ℕ) (h : Header) → header_at file ≡ Ok h → NumbersAre file h
unfolding header_at header_from
numbers_are file h e =
    let s = header_steps (version_at file) (count_at file 12 frame_counts) (count_at file 16 hart_counts) (count_at file 20 schedule_lengths)
    (entry_at file 24) (count_at file 28 segment_counts) (count_at file 32 block_counts) (count_at file 36 program_counts) h e in
    let version : number file 8 ≡ s.version.0 =
    number_is file 8 s.version.0 (version_steps file s.version.0 s.version.1).number in
    record {
      keys = ap (λ n. eqb n 2) version ∙ sym s.version.2;
      frames = count_is file 12 frame_counts h.frames s.frames;
      harts = count_is file 16 hart_counts h.harts s.harts;
      turns = count_is file 20 schedule_lengths h.turns s.turns;
      segments = count_is file 28 segment_counts h.segments s.segments;
      blocks = count_is file 32 block_counts h.blocks s.blocks;
      programs = count_is file 36 program_counts h.programs s.programs;
    }

-- what is read after the disk, after the segments, after the schedule and after the header
abbrev at_end : List ℕ → Header → List ℕ → List Segment → List ℕ → List Program × ℕ → Result Bundle BundleFault
at_end file h schedule segments disk programs =
    cond (eqb programs.1 (length file)) (Ok (bundle_of h schedule segments disk programs.0)) (Err (Extra programs.1))

abbrev after_disk : List ℕ → Header → List ℕ → List Segment × ℕ → List ℕ → Result Bundle BundleFault
after_disk file h schedule segments disk =
    parts_at (program_at h.keys h.frames file) (program_size h.keys) h.programs (segments.1 + length disk)
    >>= at_end file h schedule segments.0 disk

abbrev after_segments : List ℕ → Header → List ℕ → List Segment × ℕ → Result Bundle BundleFault
after_segments file h schedule segments = pages_at file segments.1 h.blocks >>= after_disk file h schedule segments

abbrev after_schedule : List ℕ → Header → List ℕ × ℕ → Result Bundle BundleFault
after_schedule file h schedule =
    parts_at (segment_at h.frames file) segment_size h.segments schedule.1 >>= after_segments file h schedule.0

abbrev after_header : List ℕ → Header → Result Bundle BundleFault
after_header file h = parts_at (turn_at h.harts file) (λ _. 1) h.turns 40 >>= after_schedule file h

-- the faults from an offset on
abbrev end_fault : List ℕ → ℕ → Option BundleFault
end_fault file at = cond (eqb at (length file)) None (Some (Extra at))

abbrev programs_fault : List ℕ → ℕ → ℕ → Option BundleFault
programs_fault file n at = first_of
    (first_in file (grammar.parts (format.program file) (format.after_program file) n at))
    (end_fault file (grammar.after_parts (format.after_program file) n at))

abbrev disk_fault : List ℕ → ℕ → ℕ → Option BundleFault
disk_fault file n at = first_of (first_in file (format.pages n at))
    (programs_fault file (number file 36) (grammar.after_parts format.after_page n at))

abbrev segments_fault : List ℕ → ℕ → ℕ → Option BundleFault
segments_fault file n at = first_of
    (first_in file (grammar.parts (format.segment file) (format.after_segment file) n at))
    (disk_fault file (number file 32) (grammar.after_parts (format.after_segment file) n at))

abbrev schedule_fault : List ℕ → ℕ → Option BundleFault
schedule_fault file n = first_of (first_in file (grammar.parts (format.scheduled file) format.after_byte n 40))
    (segments_fault file (number file 28) (grammar.after_parts format.after_byte n 40))

programs_tell : (file : List ℕ) (h : Header) (schedule : List ℕ) (segments : List Segment × ℕ) (disk : List ℕ)
    (at : ℕ) → NumbersAre file h → at ≡ segments.1 + length disk
    → Tells (after_disk file h schedule segments disk) (programs_fault file (number file 36) at)
programs_tell file h schedule segments disk at numbers is =
    let from = segments.1 + length disk in
    let next = λ (at : ℕ) (p : Program) (e : program_at h.keys h.frames file at ≡ Ok p). after_program_is file h.keys
    h.frames at p numbers.keys e in
    let read = parts_tell file (format.program file) (format.after_program file) (program_at h.keys h.frames file)
    (program_size h.keys) (λ at. program_tells file h.keys h.frames at numbers.keys numbers.frames) next h.programs from
    in
    rw (numbers.programs, is) (bind_tells (parts_at (program_at h.keys h.frames file) (program_size h.keys) h.programs from)
    (at_end file h schedule segments.0 disk)
    (first_in file (grammar.parts (format.program file) (format.after_program file) h.programs from))
    (end_fault file (grammar.after_parts (format.after_program file) h.programs from)) read (λ programs e.
    subst (λ k. Tells (at_end file h schedule segments.0 disk programs) (end_fault file k))
    (sym (parts_end (format.after_program file) (program_at h.keys h.frames file) (program_size h.keys) next h.programs
    from programs e))
    (ruled_tells (eqb programs.1 (length file)) (Extra programs.1) (bundle_of h schedule segments.0 disk programs.0))))

disk_tells : (file : List ℕ) (h : Header) (schedule : List ℕ) (segments : List Segment × ℕ) (at : ℕ) →
    NumbersAre file h → at ≡ segments.1
    → Tells (after_segments file h schedule segments) (disk_fault file (number file 32) at)
disk_tells file h schedule segments at numbers is =
    rw (numbers.blocks, is) (bind_tells (pages_at file segments.1 h.blocks) (after_disk file h schedule segments)
    (first_in file (format.pages h.blocks segments.1))
    (programs_fault file (number file 36) (grammar.after_parts format.after_page h.blocks segments.1))
    (pages_tell file segments.1 h.blocks) (λ disk e.
    let size = (pages_take file segments.1 h.blocks disk e).1 in
    programs_tell file h schedule segments disk (grammar.after_parts format.after_page h.blocks segments.1) numbers
    (pages_end h.blocks segments.1 ∙ ap (λ k. segments.1 + k) (sym size))))

segments_tell : (file : List ℕ) (h : Header) (schedule : List ℕ × ℕ) (at : ℕ) → NumbersAre file h → at ≡ schedule.1
    → Tells (after_schedule file h schedule) (segments_fault file (number file 28) at)
segments_tell file h schedule at numbers is =
    let next = λ (at : ℕ) (s : Segment) (e : segment_at h.frames file at ≡ Ok s). after_segment_is file h.frames at s e
    in
    let read = parts_tell file (format.segment file) (format.after_segment file) (segment_at h.frames file) segment_size
    (λ at. segment_tells file h.frames at numbers.frames) next h.segments schedule.1 in
    rw (numbers.segments, is) (bind_tells (parts_at (segment_at h.frames file) segment_size h.segments schedule.1)
    (after_segments file h schedule.0)
    (first_in file (grammar.parts (format.segment file) (format.after_segment file) h.segments schedule.1))
    (disk_fault file (number file 32) (grammar.after_parts (format.after_segment file) h.segments schedule.1)) read
    (λ segments e.
    disk_tells file h schedule.0 segments (grammar.after_parts (format.after_segment file) h.segments schedule.1)
    numbers (parts_end (format.after_segment file) (segment_at h.frames file) segment_size next h.segments
    schedule.1 segments e)))

stays : (at : ℕ) → format.after_byte at ≡ at + 1
stays at = refl

schedule_tells : (file : List ℕ) (h : Header) → NumbersAre file h →
    Tells (after_header file h) (schedule_fault file (number file 20))
schedule_tells file h numbers =
    let next = λ (at : ℕ) (x : ℕ) (e : turn_at h.harts file at ≡ Ok x). stays at in
    let read = parts_tell file (format.scheduled file) format.after_byte (turn_at h.harts file) (λ _. 1)
    (λ at. turn_tells file h.harts at numbers.harts) next h.turns 40 in
    rw numbers.turns (bind_tells (parts_at (turn_at h.harts file) (λ _. 1) h.turns 40) (after_schedule file h)
    (first_in file (grammar.parts (format.scheduled file) format.after_byte h.turns 40))
    (segments_fault file (number file 28) (grammar.after_parts format.after_byte h.turns 40)) read (λ schedule e.
    segments_tell file h schedule (grammar.after_parts format.after_byte h.turns 40) numbers
    (parts_end format.after_byte (turn_at h.harts file) (λ _. 1) next h.turns 40 schedule e)))

pub bundle_tells : (file : List ℕ) → Tells (bundle_at file) (bundle_fault file)
unfolding bundle_at bundle_fault
bundle_tells file =
    let too_large = ltb largest_bundle (length file) in
    let read : Tells (header_at file >>= after_header file)
    (first_of (first_in file (format.header file)) (schedule_fault file (number file 20))) =
    bind_tells (header_at file) (after_header file) (first_in file (format.header file))
    (schedule_fault file (number file 20)) (header_tells file) (λ h e. schedule_tells file h (numbers_are file h e))
    in
    let regrouped = chain file (format.header file)
    (grammar.parts (format.scheduled file) format.after_byte (number file 20) 40)
    (grammar.parts (format.segment file) (format.after_segment file) (number file 28) (format.segments_from file))
    (format.pages (number file 32) (format.disk_from file))
    (grammar.parts (format.program file) (format.after_program file) (number file 36) (format.programs_from file))
    (end_fault file (format.fields_end file)) in
    let whole : Tells (header_at file >>= after_header file)
    (first_of (first_in file (format.bundle_fields file)) (end_fault file (format.fields_end file))) =
    subst (Tells (header_at file >>= after_header file)) (sym regrouped) read in
    subst (λ r. Tells r (cond too_large (Some (TooLarge 0))
    (first_of (first_in file (format.bundle_fields file)) (end_fault file (format.fields_end file)))))
    (sym (refused_bind too_large (TooLarge 0) (header_at file) (after_header file)))
    (refused_tells too_large (TooLarge 0) (header_at file >>= after_header file)
    (first_of (first_in file (format.bundle_fields file)) (end_fault file (format.fields_end file))) whole)
