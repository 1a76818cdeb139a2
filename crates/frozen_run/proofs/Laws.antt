-- A file spells one state of an image at most. What spells a state has no fault, and bytes without a fault spell one.
use Rattle.std.proofs.Common.{◌≡◌, ◌∙◌, ℕ, ◌+◌, ◌-◌, ◌*◌, ◌^◌, ◌<◌, ◌≤◌, Bool, true, false, cond, not, ltb, leb, List, [], ◌∷◌, ◌++◌, length, take, drop, slice_get, Option, Some, None, refl, sym, ap, subst, arith, zero-add}
use Rattle.std.specs.Int.{w64, from_le_bytes}
use Rattle.std.specs.Str.{bytes_eq}
use Rattle.std.specs.List.{flat_map}
use Rattle.std.specs.Option.{IfSome}
use Rattle.std.proofs.lemmas.Bool.{le-ltb, lt-ltb, le-leb, eq-eqb, and_right, not_from_true}
use Rattle.std.proofs.lemmas.List.{take_at, drop_at, length-append, length-drop, append-nil}
use Rattle.std.proofs.lemmas.List.Elements.{recursion_from_All}
use Rattle.std.proofs.lemmas.Nat.{from_le_bytes-to_le_bytes_8}
use Rattle.std.proofs.lemmas.Slice.Eq.{bytes_eq-Decides}
use Rattle.sha2.proofs.Facts256.{length-sha256}
use Rattle.sha2.specs.Sha256.{sha256}
use Rattle.cloak_model.specs.declared.image.KernelImage.{KernelImage}
use Rattle.cloak_model.specs.Bits.{word}
use Rattle.cloak_model.specs.StoredFiles.{long}
use Rattle.cloak_model.specs.Run.{most_steps}
use Rattle.cloak_model.specs.StoreFault.{long_at, body_of, code_of}
use Rattle.cloak_model.specs.Fields.{first_in, number, parts, after_parts}
use Rattle.frozen_state.specs.declared.fault.FrozenFault.{FrozenFault}
use Rattle.frozen_state.specs.declared.fault.FrozenFault.TheVariants.{Short, BadMagic, Digest, OtherBundle, Form}
use Rattle.frozen_state.specs.declared.frozen.Frozen.{Frozen}
use Rattle.frozen_state.specs.declared.frozen.FrozenFrame.{FrozenFrame}
use Rattle.frozen_state.specs.declared.frozen.FrozenPage.{FrozenPage}
use Rattle.frozen_state.specs.declared.frozen.FrozenHart.{FrozenHart}
use Rattle.frozen_state.specs.FrozenState.{domain_bytes, hart_bytes, frame_bytes, recorded_bytes, frozen_magic, body_bytes, frozen_bytes}
use Rattle.frozen_state.specs.Ranges.{IsFrozenHart, IsPage, IsInRange, IsFrozen, owed_page}
use Rattle.frozen_state.specs.FrozenFault.{FrozenField, any_in, domain_fields, after_domain, hart_fields, after_hart, frames_fields, recorded_fields, harts_from, disk_from, frames_from, count_at, fields_end, frozen_fields, form_fault, is_other_bundle, frozen_fault}
use Rattle.field_facts.proofs.Firsts.{first_in-append, holds, two}
use Rattle.field_facts.proofs.Stands.{behind}
use Rattle.field_facts.proofs.Again.{number_again, piece_again, after_text}
use Rattle.frozen_run.specs.Reading.{values, hart_in, recorded_in, after_recorded, frozen_in}
use Rattle.frozen_run.specs.Shapes.{HasDomainShape, HasHartShape, HasFrameShape, HasRecordedShape, HasShape}
use Rattle.frozen_run.specs.Laws.{SpellsOne, HasFaultOrState}
use Rattle.frozen_run.proofs.Parts.{IsRightAt}
use Rattle.frozen_run.proofs.Whole.{after_records, is_frozen}
use Rattle.frozen_run.proofs.Again.{any_again, ruled_again, row_again}
use Rattle.frozen_run.proofs.AgainParts.{domains_again, hart_again, frames_again, recorded_again}

long_again : (body : List ℕ) (at n : ℕ) (rest : List ℕ) → n < 2 ^ 64 → drop at body ≡ long n ++ rest → long_at body at ≡ n
long_again body at n rest lt e =
    ap (λ t. from_le_bytes w64 (take 8 t)) e ∙ ap (from_le_bytes w64) (take_at (long n) rest 8 refl)
    ∙ from_le_bytes-to_le_bytes_8 n lt

-- how much is left from a place on
long_left : (body : List ℕ) (at : ℕ) (text : List ℕ) (n : ℕ) → drop at body ≡ word n ++ text →
    4 + length text ≡ length body - at
long_left body at text n e =
    let all : length (drop at body) ≡ length (word n ++ text) = ap length e in
    omega (arith, length-drop at body, length-append (word n) text)

inside_from : (body : List ℕ) (at : ℕ) (text rest : List ℕ) → drop at body ≡ text ++ rest → length text ≡ 4 →
    at ≤ length body
inside_from body at text rest e size =
    let all : length (drop at body) ≡ length (text ++ rest) = ap length e in
    omega (arith, length-drop at body, length-append text rest)

-- a hart of its shape and in its range
record IsHart (frames : ℕ) (h : FrozenHart) : Type 0 where
  shape : HasHartShape h
  right : IsFrozenHart frames h

record FormAgain (body : List ℕ) (k : KernelImage) (programs : ℕ) (f : Frozen) : Type 0 where
  none : form_fault body k programs ≡ None
  value : frozen_in body k programs ≡ f

form_again : (f : Frozen) (k : KernelImage) (programs : ℕ) (bundle : List ℕ) → HasShape f → IsInRange k programs f →
    length bundle ≡ 32 → FormAgain (body_bytes f bundle) k programs f
unfolding form_fault frozen_in body_bytes
form_again f k programs bundle shape is bundle_long =
    let body = body_bytes f bundle in
    let hf = harts_from body programs in
    let df = disk_from body k programs in
    let ff = frames_from body k programs in
    let ct = count_at body k programs in
    let t_domains = flat_map domain_bytes f.domains in
    let t_harts = flat_map hart_bytes f.harts in
    let t_frames = flat_map frame_bytes f.frames in
    let n : ℕ = length f.recorded in
    let t_count = word n in
    let t_recorded = flat_map recorded_bytes f.recorded in
    let r_frames = t_frames ++ (t_count ++ t_recorded) in
    let r_harts = t_harts ++ (f.disk ++ r_frames) in
    let r_domains = t_domains ++ r_harts in
    let w8 = word f.steps in
    let l12 = long f.draws in
    let l52 = long f.refused in
    let e8 : drop 8 body ≡ w8 ++ (l12 ++ (bundle ++ (l52 ++ r_domains))) =
    behind body 0 frozen_magic (w8 ++ (l12 ++ (bundle ++ (l52 ++ r_domains)))) refl in
    let e12 : drop 12 body ≡ l12 ++ (bundle ++ (l52 ++ r_domains)) = behind body 8 w8 (l12 ++ (bundle ++ (l52 ++ r_domains))) e8 in
    let e20 : drop 20 body ≡ bundle ++ (l52 ++ r_domains) = behind body 12 l12 (bundle ++ (l52 ++ r_domains)) e12 in
    let e52 : drop 52 body ≡ l52 ++ r_domains =
    after_text body 20 bundle (l52 ++ r_domains) 52 e20 (omega (arith, bundle_long)) in
    let e60 : drop 60 body ≡ t_domains ++ r_harts = behind body 52 l52 r_domains e52 in
    let steps = number_again body 8 f.steps (l12 ++ (bundle ++ (l52 ++ r_domains))) shape.steps e8 in
    let draws = long_again body 12 f.draws (bundle ++ (l52 ++ r_domains)) (omega (arith, is.draws)) e12 in
    let refused = long_again body 52 f.refused r_domains (omega (arith, is.refused, is.steps)) e52 in
    let domains = domains_again body k.frames f.domains 0 programs 60 r_harts is.domains
    (recursion_from_All HasDomainShape f.domains shape.domains)
    (λ i. subst (λ (m : ℕ). IsRightAt k.frames m (slice_get f.domains i)) (sym (zero-add i)) (is.violations i)) e60 in
    let e_harts : drop hf body ≡ t_harts ++ (f.disk ++ r_frames) = after_text body 60 t_domains r_harts hf e60 domains.ends in
    let harts = row_again body (hart_fields body k.frames) (after_hart body) (hart_in body) hart_bytes (IsHart k.frames)
    (λ at h rest right e. hart_again body k.frames at h rest right.shape right.right e) f.harts k.harts hf
    (f.disk ++ r_frames) is.hart_count
    (recursion_from_All (IsHart k.frames) f.harts
    (λ i d low. record { shape = shape.harts i d low; right = is.harts i d low })) e_harts in
    let e_disk : drop df body ≡ f.disk ++ r_frames = after_text body hf t_harts (f.disk ++ r_frames) df e_harts harts.ends in
    let disk = piece_again body df f.disk r_frames (length k.disk) e_disk is.disk in
    let e_frames : drop ff body ≡ t_frames ++ (t_count ++ t_recorded) =
    after_text body df f.disk r_frames ff e_disk (ap (λ (m : ℕ). df + m) (sym is.disk)) in
    let frames = frames_again body programs f.frames k.frames [] ff (t_count ++ t_recorded) is.frames
    (recursion_from_All HasFrameShape f.frames shape.frames)
    (recursion_from_All (λ (x : FrozenFrame). IfSome (owed_page x) (IsPage programs)) f.frames is.owed)
    (λ q i was there. absurd cc) is.owed_once e_frames in
    let e_count : drop ct body ≡ t_count ++ t_recorded =
    after_text body ff t_frames (t_count ++ t_recorded) ct e_frames frames.ends in
    let count = number_again body ct n t_recorded shape.count e_count in
    let e_recorded : drop (ct + 4) body ≡ t_recorded ++ [] = behind body ct t_count t_recorded e_count ∙ sym (append-nil t_recorded) in
    let recorded = recorded_again body programs f.recorded n None (ct + 4) [] refl
    (recursion_from_All HasRecordedShape f.recorded shape.recorded)
    (recursion_from_All (λ (p : FrozenPage). IsPage programs p.page) f.recorded is.recorded) (λ i d low. refl) is.rising e_recorded in
    let the_domains = parts (domain_fields body k.frames) (after_domain body) programs 60 in
    let the_harts = parts (hart_fields body k.frames) (after_hart body) k.harts hf in
    let the_disk = any_in body df (length k.disk) in
    let the_frames = frames_fields body programs k.frames [] ff in
    let the_count = any_in body ct 4 in
    let the_recorded = λ (m : ℕ). recorded_fields body programs m None (ct + 4) in
    let m = number body ct in
    let last : List FrozenField = the_count ∷ the_recorded m in
    let none_recorded : first_in body (the_recorded m) ≡ None =
    ap (λ (j : ℕ). first_in body (the_recorded j)) count ∙ recorded.none in
    let none_last : first_in body last ≡ None = two _ _ (any_again body ct t_count t_recorded 4 e_count refl) none_recorded in
    let none_frames : first_in body (the_frames ++ last) ≡ None =
    first_in-append body the_frames last ∙ two _ _ frames.none none_last in
    let none_disk : first_in body (the_disk ∷ (the_frames ++ last)) ≡ None =
    two _ _ (any_again body df f.disk r_frames (length k.disk) e_disk is.disk) none_frames in
    let none_harts : first_in body (the_harts ++ (the_disk ∷ (the_frames ++ last))) ≡ None =
    first_in-append body the_harts (the_disk ∷ (the_frames ++ last)) ∙ two _ _ harts.none none_disk in
    let none_domains : first_in body (the_domains ++ (the_harts ++ (the_disk ∷ (the_frames ++ last)))) ≡ None =
    first_in-append body the_domains (the_harts ++ (the_disk ∷ (the_frames ++ last))) ∙ two _ _ domains.none none_harts in
    let few_steps : leb (number body 8) most_steps ≡ true = ap (λ (j : ℕ). leb j most_steps) steps ∙ le-leb _ _ is.steps in
    let few_draws : ltb (long_at body 12) (2 ^ 60) ≡ true = ap (λ (j : ℕ). ltb j (2 ^ 60)) draws ∙ lt-ltb _ _ is.draws in
    let few_refused : leb (long_at body 52) (number body 8) ≡ true =
    ap (λ (j : ℕ). leb j (number body 8)) refused ∙ ap (leb f.refused) steps ∙ le-leb _ _ is.refused in
    let fields_none : first_in body (frozen_fields body k programs) ≡ None =
    two _ _ (ruled_again body 8 w8 (l12 ++ (bundle ++ (l52 ++ r_domains))) 4 (leb (number body 8) most_steps) e8 refl few_steps)
    (two _ _ (ruled_again body 12 l12 (bundle ++ (l52 ++ r_domains)) 8 (ltb (long_at body 12) (2 ^ 60)) e12 refl few_draws)
    (two _ _ (any_again body 20 bundle (l52 ++ r_domains) 32 e20 bundle_long)
    (two _ _ (ruled_again body 52 l52 r_domains 8 (leb (long_at body 52) (number body 8)) e52 refl few_refused)
    none_domains))) in
    let rest_long : 4 + length t_recorded ≡ length body - ct =
    long_left body ct t_recorded n e_count in
    let ct_inside : ct ≤ length body = inside_from body ct t_count t_recorded e_count refl in
    let records : after_parts after_recorded n (ct + 4) ≡ ct + 4 + 60 * n = after_records n (ct + 4) in
    let end : fields_end body k programs ≡ length body =
    ap (λ (j : ℕ). ct + 4 + 60 * j) count ∙ omega (arith, rest_long, ct_inside, records, recorded.ends) in
    let recorded_value : values (recorded_in body) after_recorded m (ct + 4) ≡ f.recorded =
    ap (λ (j : ℕ). values (recorded_in body) after_recorded j (ct + 4)) count ∙ recorded.value in
    record {
      none = two _ _ fields_none
          (holds false _ (Form 0) (Form (fields_end body k programs)) refl (eq-eqb _ _ end));
      value = λ i. record {
        steps = steps i;
        draws = draws i;
        refused = refused i;
        domains = domains.value i;
        harts = harts.value i;
        disk = disk i;
        frames = frames.value i;
        recorded = recorded_value i;
      };
    }

record Front (f : Frozen) (bundle : List ℕ) : Type 0 where
  long_enough : 8 ≤ length (body_bytes f bundle)
  magic : (code : List ℕ) → take 8 (body_bytes f bundle ++ code) ≡ frozen_magic
  bundle_is : take 32 (drop 20 (body_bytes f bundle)) ≡ bundle

front_of : (f : Frozen) (bundle : List ℕ) → length bundle ≡ 32 → Front f bundle
unfolding body_bytes
front_of f bundle bundle_long =
    let rest = long f.refused ++ (flat_map domain_bytes f.domains ++ (flat_map hart_bytes f.harts ++ (f.disk
    ++ (flat_map frame_bytes f.frames ++ (word (length f.recorded) ++ flat_map recorded_bytes f.recorded))))) in
    let front = word f.steps ++ (long f.draws ++ (bundle ++ rest)) in
    let body = frozen_magic ++ front in
    let e20 : drop 20 body ≡ bundle ++ rest = behind body 0 (frozen_magic ++ (word f.steps ++ long f.draws)) (bundle ++ rest) refl in
    record {
      long_enough = omega (arith, length-append frozen_magic front);
      magic = λ code. take_at frozen_magic (front ++ code) 8 refl;
      bundle_is = piece_again body 20 bundle rest 32 e20 bundle_long;
    }

passes : (b : Bool) (e : FrozenFault) (o : Option FrozenFault) → b ≡ false → cond b (Some e) o ≡ o
passes true e o h = absurd cc
passes false e o h = refl

record FileAgain (k : KernelImage) (programs : ℕ) (bundle bytes : List ℕ) (f : Frozen) : Type 0 where
  none : frozen_fault bundle k programs bytes ≡ None
  value : frozen_in (body_of bytes) k programs ≡ f

file_again : (k : KernelImage) (programs : ℕ) (bundle : List ℕ) (f : Frozen) → HasShape f → length bundle ≡ 32 →
    IsInRange k programs f → FileAgain k programs bundle (frozen_bytes f bundle) f
unfolding frozen_fault frozen_bytes
file_again k programs bundle f shape bundle_long is =
    let body = body_bytes f bundle in
    let code = sha256 body in
    let file = body ++ code in
    let size : ℕ = length file in
    let form = form_again f k programs bundle shape is bundle_long in
    let code_long : length code ≡ 32 = length-sha256 body in
    let sizes : size ≡ length body + 32 = omega (arith, length-append body code, code_long) in
    let front = front_of f bundle bundle_long in
    let body_is : body_of file ≡ body = take_at body code (size - 32) (omega (arith, sizes)) in
    let code_is : code_of file ≡ code = drop_at body code (size - 32) (omega (arith, sizes)) in
    let t0 : ltb size 40 ≡ false = le-ltb size 40 (omega (arith, sizes, front.long_enough)) in
    let magic : take 8 file ≡ frozen_magic = front.magic code in
    let t1 : not (bytes_eq (take 8 file) frozen_magic) ≡ false =
    not_from_true _ ((bytes_eq-Decides (take 8 file) frozen_magic).1 magic) in
    let t2 : not (bytes_eq (code_of file) (sha256 (body_of file))) ≡ false =
    not_from_true _ ((bytes_eq-Decides (code_of file) (sha256 (body_of file))).1 (code_is ∙ ap sha256 (sym body_is))) in
    let t3 : is_other_bundle (body_of file) bundle ≡ false =
    ap (λ b. is_other_bundle b bundle) body_is
    ∙ and_right (leb 52 (length body)) _ (not_from_true _ ((bytes_eq-Decides (take 32 (drop 20 body)) bundle).1 front.bundle_is)) in
    record {
      none = passes _ (Short size) _ t0 ∙ passes _ BadMagic _ t1 ∙ passes _ Digest _ t2 ∙ passes _ OtherBundle _ t3
          ∙ ap (λ b. form_fault b k programs) body_is ∙ form.none;
      value = ap (λ b. frozen_in b k programs) body_is ∙ form.value;
    }

-- A state in range that these bytes spell is the one that is read of them.
pub read_again : (k : KernelImage) (programs : ℕ) (bundle bytes : List ℕ) (f : Frozen) → HasShape f → length bundle ≡ 32 →
    IsFrozen k programs bundle bytes f → frozen_in (body_of bytes) k programs ≡ f
read_again k programs bundle bytes f shape long is =
    subst (λ b. frozen_in (body_of b) k programs ≡ f) is.spelled (file_again k programs bundle f shape long is.in_range).value

pub has_fault_or_state : (k : KernelImage) (programs : ℕ) (bundle bytes : List ℕ) → HasFaultOrState k programs bundle bytes
has_fault_or_state k programs bundle bytes = record {
  right = λ f shape long is. subst (λ b. frozen_fault bundle k programs b ≡ None) is.spelled
      (file_again k programs bundle f shape long is.in_range).none;
  spelled = λ are none. (frozen_in (body_of bytes) k programs, is_frozen k programs bundle bytes are none);
}

pub spells_one : (k : KernelImage) (programs : ℕ) (bundle bytes : List ℕ) → SpellsOne k programs bundle bytes
spells_one k programs bundle bytes f g f_shape g_shape long f_is g_is =
    sym (read_again k programs bundle bytes g g_shape long g_is) ∙ read_again k programs bundle bytes f f_shape long f_is
