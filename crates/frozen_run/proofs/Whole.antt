-- A file without a fault is a frozen state.
use Rattle.std.proofs.Common.{◌≡◌, ◌∙◌, ℕ, zero, suc, ◌+◌, ◌-◌, ◌*◌, ◌^◌, ◌<◌, ◌≤◌, true, cond, not, ltb, leb, eqb, List, [], ◌∷◌, ◌++◌, length, take, drop, slice_get, Some, None, sym, ap, subst, arith, inl, inr, zero-add}
use Rattle.std.specs.Str.{bytes_eq}
use Rattle.std.specs.List.{flat_map}
use Rattle.std.specs.Option.{IfSome}
use Rattle.std.proofs.lemmas.Bool.{ltb-true, ltb-false, leb-true, le-leb, eqb-true, not-false, and_cases, true≢false}
use Rattle.std.proofs.lemmas.List.{take-append-drop, take-take, drop_all, append-nil}
use Rattle.std.proofs.lemmas.List.Elements.{All-take, All-from_recursion}
use Rattle.std.proofs.lemmas.Slice.Eq.{bytes_eq-Decides}
use Rattle.sha2.specs.Sha256.{sha256}
use Rattle.cloak_model.specs.declared.image.KernelImage.{KernelImage}
use Rattle.cloak_model.specs.Bits.{word}
use Rattle.cloak_model.specs.StoredFiles.{long}
use Rattle.cloak_model.specs.Run.{most_steps}
use Rattle.cloak_model.specs.StoreFault.{long_at, body_of, code_of}
use Rattle.cloak_model.specs.Fields.{first_of, fault_in, first_in, number, parts, after_parts}
use Rattle.frozen_state.specs.declared.fault.FrozenFault.TheVariants.{Short, BadMagic, Digest, OtherBundle, Form}
use Rattle.frozen_state.specs.declared.frozen.FrozenFrame.{FrozenFrame}
use Rattle.frozen_state.specs.declared.frozen.FrozenPage.{FrozenPage}
use Rattle.frozen_state.specs.FrozenState.{domain_bytes, hart_bytes, frame_bytes, recorded_bytes, frozen_magic, body_bytes, frozen_bytes}
use Rattle.frozen_state.specs.Ranges.{IsFrozenHart, IsPage, IsInRange, IsFrozen, owed_page}
use Rattle.frozen_state.specs.FrozenFault.{FrozenField, any_in, ruled_in, domain_fields, after_domain, hart_fields, after_hart, frames_fields, after_frame, recorded_fields, header, harts_from, disk_from, frames_from, count_at, fields_end, frozen_fields, form_fault, is_other_bundle, frozen_fault}
use Rattle.field_facts.proofs.Firsts.{first_in-append, none_parts, not_so, kept, field_holds}
use Rattle.field_facts.proofs.Stands.{AreBytes, piece_bytes, piece_length, Stands, Stands-then, piece_stands, number_stands, long_is}
use Rattle.frozen_run.specs.Reading.{values, hart_in, frame_in, recorded_in, after_recorded, domains_in, frozen_in}
use Rattle.frozen_run.proofs.Rows.{length-values, length-domains_in}
use Rattle.frozen_run.proofs.Spelled.{any_whole, ends_at, values_stand, values_all, ruled_holds}
use Rattle.frozen_run.proofs.Parts.{IsRightAt, domains_hold, hart_holds}
use Rattle.frozen_run.proofs.Frames.{frames_hold}
use Rattle.frozen_run.proofs.Recorded.{recorded_hold}

-- ---- the front

long_stands : (body : List ℕ) (at : ℕ) → AreBytes body → 8 ≤ length body - at →
    Stands body at (long (long_at body at)) (at + 8)
long_stands body at are le =
    let eight = take 8 (drop at body) in
    subst (λ t. Stands body at t (at + 8)) (sym (long_is eight (piece_bytes 8 at body are) (piece_length 8 at body le)))
    (piece_stands body at 8)

pub after_records : (n at : ℕ) → after_parts after_recorded n at ≡ at + 60 * n
unfolding after_parts
after_records zero at = omega arith
after_records (suc n) at = after_records n (at + 60) ∙ omega arith

-- what the header says, and the fields after it
record HeaderHolds (body : List ℕ) (rest : List FrozenField) : Type 0 where
  steps : Stands body 8 (word (number body 8)) 12
  draws : Stands body 12 (long (long_at body 12)) 20
  bundle : Stands body 20 (take 32 (drop 20 body)) 52
  refused : Stands body 52 (long (long_at body 52)) 60
  long_enough : 60 ≤ length body
  few_steps : number body 8 ≤ most_steps
  few_draws : long_at body 12 < 2 ^ 60
  few_refused : long_at body 52 ≤ number body 8
  none : first_in body rest ≡ None

header_holds : (body : List ℕ) (rest : List FrozenField) → AreBytes body →
    first_in body (header body ++ rest) ≡ None → HeaderHolds body rest
header_holds body rest are h =
    let r8 = leb (number body 8) most_steps in
    let r12 = ltb (long_at body 12) (2 ^ 60) in
    let r52 = leb (long_at body 52) (number body 8) in
    let f8 = fault_in body (ruled_in body 8 4 r8) in
    let f12 = fault_in body (ruled_in body 12 8 r12) in
    let f20 = fault_in body (any_in body 20 32) in
    let f52 = fault_in body (ruled_in body 52 8 r52) in
    let last = first_in body rest in
    let a = none_parts f8 (first_of f12 (first_of f20 (first_of f52 last))) h in
    let b = none_parts f12 (first_of f20 (first_of f52 last)) a.1 in
    let c = none_parts f20 (first_of f52 last) b.1 in
    let d = none_parts f52 last c.1 in
    let steps = ruled_holds body 8 r8 are a.0 in
    let draws = field_holds (length body - 12) 8 r12 (Form (length body)) (Form 12) b.0 in
    let refused = field_holds (length body - 52) 8 r52 (Form (length body)) (Form 52) d.0 in
    record {
      steps = steps.text;
      draws = long_stands body 12 are draws.whole;
      bundle = piece_stands body 20 32;
      refused = long_stands body 52 are refused.whole;
      long_enough = omega (arith, refused.whole);
      few_steps = leb-true _ _ steps.right;
      few_draws = ltb-true _ _ draws.right;
      few_refused = leb-true _ _ refused.right;
      none = d.1;
    }

-- ---- the body

pub record FormHolds (body : List ℕ) (k : KernelImage) (programs : ℕ) : Type 0 where
  pub spelled : take 8 body ≡ frozen_magic → body_bytes (frozen_in body k programs) (take 32 (drop 20 body)) ≡ body
  pub long_enough : 60 ≤ length body
  pub in_range : IsInRange k programs (frozen_in body k programs)

pub form_holds : (body : List ℕ) (k : KernelImage) (programs : ℕ) → AreBytes body →
    form_fault body k programs ≡ None → FormHolds body k programs
unfolding form_fault frozen_in body_bytes
form_holds body k programs are h =
    let hf = harts_from body programs in
    let df = disk_from body k programs in
    let ff = frames_from body k programs in
    let ct = count_at body k programs in
    let n = number body ct in
    let end = fields_end body k programs in
    let domains = parts (domain_fields body k.frames) (after_domain body) programs 60 in
    let harts = parts (hart_fields body k.frames) (after_hart body) k.harts hf in
    let disk = any_in body df (length k.disk) in
    let frames = frames_fields body programs k.frames [] ff in
    let count = any_in body ct 4 in
    let recorded = recorded_fields body programs n None (ct + 4) in
    let after_frames : List FrozenField = count ∷ recorded in
    let after_disk : List FrozenField = frames ++ after_frames in
    let after_harts : List FrozenField = disk ∷ after_disk in
    let after_domains : List FrozenField = harts ++ after_harts in
    let a = none_parts (first_in body (frozen_fields body k programs)) (cond (eqb end (length body)) None (Some (Form end))) h in
    let front = header_holds body (domains ++ after_domains) are a.0 in
    let b = none_parts (first_in body domains) (first_in body after_domains)
    (sym (first_in-append body domains after_domains) ∙ front.none) in
    let c = none_parts (first_in body harts) (first_in body after_harts)
    (sym (first_in-append body harts after_harts) ∙ b.1) in
    let d = none_parts (fault_in body disk) (first_in body after_disk) c.1 in
    let e = none_parts (first_in body frames) (first_in body after_frames)
    (sym (first_in-append body frames after_frames) ∙ d.1) in
    let f = none_parts (fault_in body count) (first_in body recorded) e.1 in
    let the_domains = domains_hold body k.frames 0 programs 60 are b.0 in
    let the_frames = frames_hold body programs k.frames [] ff are e.0 in
    let the_recorded = recorded_hold body programs n None (ct + 4) are f.1 in
    let last : end ≡ length body = eqb-true _ _ (kept (eqb end (length body)) (Form end) a.1) in
    let domains_are = domains_in body 0 programs 60 in
    let harts_are = values (hart_in body) (after_hart body) k.harts hf in
    let disk_is = take (length k.disk) (drop df body) in
    let frames_are = values (frame_in body) (after_frame body) k.frames ff in
    let recorded_are = values (recorded_in body) after_recorded n (ct + 4) in
    let t_domains = flat_map domain_bytes domains_are in
    let t_harts = flat_map hart_bytes harts_are in
    let t_frames = flat_map frame_bytes frames_are in
    let t_recorded = flat_map recorded_bytes recorded_are in
    let size : length recorded_are ≡ n = length-values (recorded_in body) after_recorded n (ct + 4) in
    let t_count = word (length recorded_are) in
    let s_harts = values_stand body (hart_fields body k.frames) (after_hart body) (hart_in body) hart_bytes
    (λ at g. (hart_holds body k.frames at are g).text) k.harts hf c.0 in
    let s_count : Stands body ct t_count (ct + 4) =
    subst (λ (m : ℕ). Stands body ct (word m) (ct + 4)) (sym size)
    (number_stands body ct are (any_whole body ct 4 f.0)) in
    let s_recorded : Stands body (ct + 4) t_recorded (length body) =
    ends_at body (ct + 4) t_recorded (after_parts after_recorded n (ct + 4)) (length body)
    (after_records n (ct + 4) ∙ last) the_recorded.text in
    let r_count : Stands body ct (t_count ++ t_recorded) (length body) =
    Stands-then body ct t_count (ct + 4) t_recorded (length body) s_count s_recorded in
    let r_frames : Stands body ff (t_frames ++ (t_count ++ t_recorded)) (length body) =
    Stands-then body ff t_frames ct (t_count ++ t_recorded) (length body) the_frames.text r_count in
    let r_disk : Stands body df (disk_is ++ (t_frames ++ (t_count ++ t_recorded))) (length body) =
    Stands-then body df disk_is ff (t_frames ++ (t_count ++ t_recorded)) (length body)
    (piece_stands body df (length k.disk)) r_frames in
    let r_harts : Stands body hf (t_harts ++ (disk_is ++ (t_frames ++ (t_count ++ t_recorded)))) (length body) =
    Stands-then body hf t_harts df (disk_is ++ (t_frames ++ (t_count ++ t_recorded))) (length body) s_harts r_disk in
    let r_domains = Stands-then body 60 t_domains hf
    (t_harts ++ (disk_is ++ (t_frames ++ (t_count ++ t_recorded)))) (length body) the_domains.text r_harts in
    let after_refused = t_domains ++ (t_harts ++ (disk_is ++ (t_frames ++ (t_count ++ t_recorded)))) in
    let w8 = word (number body 8) in
    let l12 = long (long_at body 12) in
    let p20 = take 32 (drop 20 body) in
    let l52 = long (long_at body 52) in
    let r52 = Stands-then body 52 l52 60 after_refused (length body) front.refused r_domains in
    let r20 = Stands-then body 20 p20 52 (l52 ++ after_refused) (length body) front.bundle r52 in
    let r12 = Stands-then body 12 l12 20 (p20 ++ (l52 ++ after_refused)) (length body) front.draws r20 in
    let whole : Stands body 8 (w8 ++ (l12 ++ (p20 ++ (l52 ++ after_refused)))) (length body) =
    Stands-then body 8 w8 12 (l12 ++ (p20 ++ (l52 ++ after_refused))) (length body) front.steps r12 in
    let text = w8 ++ (l12 ++ (p20 ++ (l52 ++ after_refused))) in
    let tail : text ≡ drop 8 body =
    sym (append-nil text) ∙ ap (λ t. text ++ t) (sym (drop_all (length body) body (omega arith))) ∙ sym whole.parts in
    record {
      spelled = λ magic. ap (λ t. t ++ text) (sym magic) ∙ ap (λ t. take 8 body ++ t) tail ∙ take-append-drop 8 body;
      long_enough = front.long_enough;
      in_range = record {
        steps = front.few_steps;
        draws = front.few_draws;
        refused = front.few_refused;
        domains = length-domains_in body 0 programs 60;
        violations = λ i. subst (λ (m : ℕ). IsRightAt k.frames m (slice_get domains_are i)) (zero-add i) (the_domains.right i);
        hart_count = length-values (hart_in body) (after_hart body) k.harts hf;
        harts = All-from_recursion (IsFrozenHart k.frames) harts_are
            (values_all body (hart_fields body k.frames) (after_hart body) (hart_in body) (IsFrozenHart k.frames)
            (λ at g. (hart_holds body k.frames at are g).right) k.harts hf c.0);
        disk = piece_length (length k.disk) df body (any_whole body df (length k.disk) d.0);
        frames = length-values (frame_in body) (after_frame body) k.frames ff;
        owed = All-from_recursion (λ (x : FrozenFrame). IfSome (owed_page x) (IsPage programs)) frames_are the_frames.pages;
        owed_once = the_frames.once;
        recorded = All-from_recursion (λ (p : FrozenPage). IsPage programs p.page) recorded_are the_recorded.pages;
        rising = the_recorded.rising;
      };
    }

-- ---- the file

take_front : (n m : ℕ) (file : List ℕ) → n ≤ m → take n (take m file) ≡ take n file
take_front n m file le = take-take n m file le

pub is_frozen : (k : KernelImage) (programs : ℕ) (bundle file : List ℕ) → AreBytes file →
    frozen_fault bundle k programs file ≡ None →
    IsFrozen k programs bundle file (frozen_in (body_of file) k programs)
unfolding frozen_fault frozen_bytes
is_frozen k programs bundle file are h =
    let size = length file in
    let body = body_of file in
    let magic = bytes_eq (take 8 file) frozen_magic in
    let closed = bytes_eq (code_of file) (sha256 body) in
    let other = is_other_bundle body bundle in
    let form = form_fault body k programs in
    let t0 = not_so (ltb size 40) (Short size) (cond (not magic) (Some BadMagic) (cond (not closed) (Some Digest)
    (cond other (Some OtherBundle) form))) h in
    let t1 = not_so (not magic) BadMagic (cond (not closed) (Some Digest) (cond other (Some OtherBundle) form)) t0.1 in
    let t2 = not_so (not closed) Digest (cond other (Some OtherBundle) form) t1.1 in
    let t3 = not_so other OtherBundle form t2.1 in
    let long_enough : 40 ≤ size = ltb-false _ _ t0.0 in
    let are_body : AreBytes body = All-take (λ b. b < 256) (size - 32) file are in
    let holds = form_holds body k programs are_body t3.1 in
    let magic_is : take 8 body ≡ frozen_magic =
    take_front 8 (size - 32) file (omega arith)
    ∙ (bytes_eq-Decides (take 8 file) frozen_magic).0 (not-false magic t1.0) in
    let code_is : code_of file ≡ sha256 body = (bytes_eq-Decides (code_of file) (sha256 body)).0 (not-false closed t2.0) in
    let there : leb 52 (length body) ≡ true = le-leb 52 (length body) (omega (arith, holds.long_enough)) in
    let same = bytes_eq (take 32 (drop 20 body)) bundle in
    let same_is : same ≡ true = elim (and_cases (leb 52 (length body)) (not same) t3.0) [
      | inl short ↦ absurd (true≢false (sym there ∙ short))
      | inr good ↦ not-false same good
    ] in
    let bundle_is : take 32 (drop 20 body) ≡ bundle = (bytes_eq-Decides (take 32 (drop 20 body)) bundle).0 same_is in
    let f = frozen_in body k programs in
    let body_is : body_bytes f bundle ≡ body =
    ap (body_bytes f) (sym bundle_is) ∙ holds.spelled magic_is in
    record {
      spelled = ap (λ t. t ++ sha256 t) body_is ∙ ap (λ t. body ++ t) (sym code_is) ∙ take-append-drop (size - 32) file;
      in_range = holds.in_range;
    }
