-- Domains, harts, frames and recorded pages, that are read again.
use Rattle.std.proofs.Common.{◌≡◌, ◌∙◌, ℕ, zero, suc, ◌+◌, ◌%◌, true, false, cond, not, ltb, eqb, ◌||◌, List, [], ◌∷◌, ◌++◌, length, get_or, take, drop, map, slice_get, Option, Some, None, refl, sym, ap, subst, arith, inl, inr, add-zero}
use Rattle.std.specs.List.{flat_map, list_any, AllByRecursion, AllPairs}
use Rattle.std.specs.Option.{IfSome}
use Rattle.std.proofs.lemmas.Bool.{eq-eqb, cases_Bool}
use Rattle.std.proofs.lemmas.List.{length-append, append_assoc, length-drop}
use Rattle.std.proofs.lemmas.List.Concat.{flat_map-cons}
use Rattle.std.proofs.lemmas.List.Elements.{recursion_from_All, All-drop}
use Rattle.cloak_base.specs.Pages.{same_page}
use Rattle.cloak_base.specs.declared.names.Meta.{Meta}
use Rattle.cloak_base.specs.declared.names.Mode.{Mode}
use Rattle.cloak_base.specs.declared.names.Mode.TheVariants.{U, S}
use Rattle.cloak_base.specs.declared.names.PageId.{PageId}
use Rattle.cloak_base.proofs.Pages.{same_page_tells}
use Rattle.cloak_model.specs.Bits.{word}
use Rattle.cloak_model.specs.Fields.{first_of, fault_in, first_in, number, parts, after_parts}
use Rattle.cloak_model.specs.Record.{IsWord}
use Rattle.frozen_state.specs.declared.fault.FrozenFault.{FrozenFault}
use Rattle.frozen_state.specs.declared.fault.FrozenFault.TheVariants.{Form}
use Rattle.frozen_state.specs.declared.frozen.FrozenDomain.{FrozenDomain}
use Rattle.frozen_state.specs.declared.frozen.FrozenFrame.{FrozenFrame}
use Rattle.frozen_state.specs.declared.frozen.FrozenHart.{FrozenHart}
use Rattle.frozen_state.specs.declared.frozen.FrozenPage.{FrozenPage}
use Rattle.frozen_state.specs.FrozenState.{maybe_word, meta_bytes, violation_bytes, domain_bytes, mode_byte, hart_bytes, page_words, owed_bytes, frame_bytes, recorded_bytes}
use Rattle.frozen_state.specs.Ranges.{kept_bits, IsFrozenHart, IsPage, IsViolationOf, owed_page, Rises}
use Rattle.frozen_state.specs.Limits.{IsOnce}
use Rattle.frozen_state.specs.FrozenFault.{FrozenField, any_in, ruled_in, maybe_fields, after_maybe, mark_fields, violation_fields, after_violation, page_from, domain_fields, after_domain, csr_fields, regs_from, csrs_from, mark_from, hart_fields, after_hart, page_at, page_fields, after_frame, frames_fields, rises, recorded_fields}
use Rattle.field_facts.proofs.Firsts.{first_in-append, holds, two}
use Rattle.field_facts.proofs.Stands.{behind}
use Rattle.field_facts.proofs.Again.{is_left, number_again, piece_again, after_text, byte_again}
use Rattle.frozen_run.specs.Reading.{values, after_word, maybe_in, meta_in, domain_in, domains_in, mode_in, hart_in, frame_in, frame_fields, seen_after, recorded_in, after_recorded}
use Rattle.frozen_run.specs.Shapes.{HasPageShape, HasDomainShape, HasHartShape, HasFrameShape, HasRecordedShape}
use Rattle.frozen_run.proofs.Parts.{IsRightAt, after_words}
use Rattle.frozen_run.proofs.Frames.{AreNew, frames_step}
use Rattle.frozen_run.proofs.Recorded.{AreAfter, recorded_step}
use Rattle.frozen_run.proofs.Again.{Again, any_again, ruled_again, maybe_again, mark_again, row_again, word_again, meta_again, page_again, violation_again, csrs_again}

three : (a b c : Option FrozenFault) → first_of a (first_of b None) ≡ None → c ≡ None →
    first_of a (first_of b (first_of c None)) ≡ None
three None None c first second = two c None second refl
three None (Some x) c first second = absurd cc
three (Some x) b c first second = absurd cc

-- ---- domains

pub domain_again : (body : List ℕ) (frames d at : ℕ) (x : FrozenDomain) (rest : List ℕ) → HasDomainShape x →
    IfSome x.violation (IsViolationOf frames d) → drop at body ≡ domain_bytes x ++ rest →
    Again body (domain_fields body frames at) at (domain_in body d at) x (after_domain body at) (domain_bytes x)
domain_again body frames d at x rest shape right e =
    let tables = after_violation body at in
    let sealed = page_from body at in
    let t_v = violation_bytes x.violation in
    let t_r = flat_map maybe_word x.roots in
    let t_m = meta_bytes x.meta in
    let e0 : drop at body ≡ t_v ++ ((t_r ++ (t_m ++ x.page)) ++ rest) = e ∙ append_assoc t_v (t_r ++ (t_m ++ x.page)) rest in
    let v = violation_again body frames d at x.violation ((t_r ++ (t_m ++ x.page)) ++ rest) shape.violation right e0 in
    let e1 : drop tables body ≡ t_r ++ ((t_m ++ x.page) ++ rest) =
    after_text body at t_v ((t_r ++ (t_m ++ x.page)) ++ rest) tables e0 v.ends ∙ append_assoc t_r (t_m ++ x.page) rest in
    let roots = row_again body (maybe_fields body) (after_maybe body) (maybe_in body) maybe_word (λ o. IfSome o IsWord)
    (λ k o r is g. maybe_again body k o r is g) x.roots 8 tables ((t_m ++ x.page) ++ rest) shape.eight
    (recursion_from_All (λ o. IfSome o IsWord) x.roots shape.roots) e1 in
    let e2 : drop sealed body ≡ t_m ++ (x.page ++ rest) =
    after_text body tables t_r ((t_m ++ x.page) ++ rest) sealed e1 roots.ends ∙ append_assoc t_m x.page rest in
    let meta = meta_again body sealed x.meta (x.page ++ rest) shape.meta e2 in
    let e3 : drop (sealed + 48) body ≡ x.page ++ rest =
    after_text body sealed t_m (x.page ++ rest) (sealed + 48) e2 meta.ends in
    let page : take 4096 (drop (sealed + 48) body) ≡ x.page = piece_again body (sealed + 48) x.page rest 4096 e3 shape.page in
    let rows = parts (maybe_fields body) (after_maybe body) 8 tables in
    let iv = fault_in body (any_in body sealed 16) in
    let digest = fault_in body (any_in body (sealed + 16) 32) in
    let last = fault_in body (any_in body (sealed + 48) 4096) in
    let last_fields : List FrozenField = any_in body sealed 16 ∷ any_in body (sealed + 16) 32 ∷ any_in body (sealed + 48) 4096 ∷ [] in
    let meta_none : first_of iv (first_of digest None) ≡ None = meta.none in
    let last_none : first_of iv (first_of digest (first_of last None)) ≡ None =
    three iv digest last meta_none (any_again body (sealed + 48) x.page rest 4096 e3 shape.page) in
    record {
      none = first_in-append body (violation_fields body frames at) (rows ++ last_fields)
          ∙ two _ _ v.none (first_in-append body rows last_fields ∙ two _ _ roots.none last_none);
      value = λ i. record { violation = v.value i; roots = roots.value i; meta = meta.value i; page = page i };
      ends = omega (
        arith,
        v.ends,
        roots.ends,
        meta.ends,
        shape.page,
        length-append t_v (t_r ++ (t_m ++ x.page)),
        length-append t_r (t_m ++ x.page),
        length-append t_m x.page,
      );
    }

pub domains_again : (body : List ℕ) (frames : ℕ) (xs : List FrozenDomain) (d n at : ℕ) (rest : List ℕ) → length xs ≡ n →
    AllByRecursion HasDomainShape xs → ((i : ℕ) → IsRightAt frames (d + i) (slice_get xs i)) →
    drop at body ≡ flat_map domain_bytes xs ++ rest →
    Again body (parts (domain_fields body frames) (after_domain body) n at) at (domains_in body d n at) xs
    (after_parts (after_domain body) n at) (flat_map domain_bytes xs)
unfolding parts after_parts domains_in
domains_again body frames [] d zero at rest size all right e =
    record { none = refl; value = refl; ends = sym (add-zero at) }
domains_again body frames [] d (suc n) at rest size all right e = absurd (omega (arith, size))
domains_again body frames (x ∷ xs) d zero at rest size all right e = absurd (omega (arith, size))
domains_again body frames (x ∷ xs) d (suc n) at rest size all right e =
    let later = flat_map domain_bytes xs in
    let text = domain_bytes x in
    let apart : drop at body ≡ text ++ (later ++ rest) =
    e ∙ ap (λ t. t ++ rest) (flat_map-cons domain_bytes x xs) ∙ append_assoc text later rest in
    let here : IfSome x.violation (IsViolationOf frames d) =
    subst (λ (k : ℕ). IfSome x.violation (IsViolationOf frames k)) (add-zero d) (right 0) in
    let first = domain_again body frames d at x (later ++ rest) all.0 here apart in
    let next = after_domain body at in
    let there = after_text body at text (later ++ rest) next apart first.ends in
    let others = domains_again body frames xs (d + 1) n next rest (omega (arith, size)) all.1
    (λ i. let same : d + suc i ≡ d + 1 + i = omega arith in
    subst (λ (k : ℕ). IsRightAt frames k (slice_get xs i)) same (right (suc i))) there in
    record {
      none = first_in-append body (domain_fields body frames at) (parts (domain_fields body frames) (after_domain body) n next)
          ∙ two _ _ first.none others.none;
      value = ap (λ (y : FrozenDomain). y ∷ domains_in body (d + 1) n next) first.value
          ∙ ap (λ (ys : List FrozenDomain). x ∷ ys) others.value;
      ends = others.ends ∙ (let long = ap length (flat_map-cons domain_bytes x xs) in
          omega (arith, first.ends, long, length-append text later));
    }

-- ---- harts

mode_again : (m : Mode) → cond (eqb (mode_byte m) 0) U S ≡ m
mode_again U = refl
mode_again S = refl

mode_small : (m : Mode) → ltb (mode_byte m) 2 ≡ true
mode_small U = refl
mode_small S = refl

regs_split : (regs : List ℕ) → length regs ≡ 32 → get_or regs 0 0 ≡ 0 → 0 ∷ drop 1 regs ≡ regs
regs_split [] size is = absurd (omega (arith, size))
regs_split (x ∷ xs) size is = ap (λ (k : ℕ). k ∷ xs) (sym is)

pub hart_again : (body : List ℕ) (frames at : ℕ) (h : FrozenHart) (rest : List ℕ) → HasHartShape h → IsFrozenHart frames h →
    drop at body ≡ hart_bytes h ++ rest →
    Again body (hart_fields body frames at) at (hart_in body at) h (after_hart body at) (hart_bytes h)
hart_again body frames at h rest shape right e =
    let rf = regs_from body at in
    let cf = csrs_from body at in
    let mf = mark_from body at in
    let end = after_hart body at in
    let w1 = word h.pc in
    let w5 = word h.timer in
    let t_in = maybe_word h.inside in
    let words = drop 1 h.regs in
    let t_regs = flat_map word words in
    let t_csrs = flat_map word h.csrs in
    let t_mark = maybe_word h.mark in
    let r_csrs = t_csrs ++ t_mark in
    let r_regs = t_regs ++ r_csrs in
    let r_in = t_in ++ r_regs in
    let e0 : drop at body ≡ mode_byte h.mode ∷ (w1 ++ (w5 ++ (r_in ++ rest))) = e in
    let mode = byte_again body at (mode_byte h.mode) (w1 ++ (w5 ++ (r_in ++ rest))) e0 in
    let e1 : drop (at + 1) body ≡ w1 ++ (w5 ++ (r_in ++ rest)) =
    behind body at (mode_byte h.mode ∷ []) (w1 ++ (w5 ++ (r_in ++ rest))) e0 in
    let e5 : drop (at + 5) body ≡ w5 ++ (r_in ++ rest) = behind body at (mode_byte h.mode ∷ w1) (w5 ++ (r_in ++ rest)) e0 in
    let e9 : drop (at + 9) body ≡ t_in ++ (r_regs ++ rest) =
    behind body at (mode_byte h.mode ∷ (w1 ++ w5)) (r_in ++ rest) e0 ∙ append_assoc t_in r_regs rest in
    let pc = number_again body (at + 1) h.pc (w5 ++ (r_in ++ rest)) shape.pc e1 in
    let timer = number_again body (at + 5) h.timer (r_in ++ rest) shape.timer e5 in
    let inside = maybe_again body (at + 9) h.inside (r_regs ++ rest) shape.inside e9 in
    let e_regs : drop rf body ≡ t_regs ++ (r_csrs ++ rest) =
    after_text body (at + 9) t_in (r_regs ++ rest) rf e9 inside.ends ∙ append_assoc t_regs r_csrs rest in
    let words_long : length words ≡ 31 = omega (arith, length-drop 1 h.regs, shape.registers) in
    let regs = row_again body (λ (k : ℕ). any_in body k 4 ∷ []) after_word (number body) word IsWord
    (λ k w r is g. word_again body k w r is g) words 31 rf (r_csrs ++ rest) words_long
    (recursion_from_All IsWord words (All-drop IsWord 1 h.regs shape.register_words)) e_regs in
    let cf_is : cf ≡ rf + length t_regs = sym (after_words 31 rf) ∙ regs.ends in
    let e_csrs : drop cf body ≡ t_csrs ++ (t_mark ++ rest) =
    after_text body rf t_regs (r_csrs ++ rest) cf e_regs cf_is ∙ append_assoc t_csrs t_mark rest in
    let csrs = csrs_again body kept_bits h.csrs cf (t_mark ++ rest) shape.nine
    (recursion_from_All IsWord h.csrs shape.csr_words) (λ i low. right.csrs i low) e_csrs in
    let e_mark : drop mf body ≡ t_mark ++ rest = after_text body cf t_csrs (t_mark ++ rest) mf e_csrs csrs.ends in
    let mark = mark_again body frames mf h.mark rest shape.mark right.mark e_mark in
    let inside_fields = maybe_fields body (at + 9) in
    let regs_fields = parts (λ (k : ℕ). any_in body k 4 ∷ []) after_word 31 rf in
    let csr_row = csr_fields body kept_bits cf in
    let mark_row = mark_fields body frames mf in
    let regs_value : 0 ∷ values (number body) after_word 31 rf ≡ h.regs =
    ap (λ (l : List ℕ). 0 ∷ l) regs.value ∙ regs_split h.regs shape.registers shape.zero_register in
    let mode_value : mode_in body at ≡ h.mode = ap (λ (k : ℕ). cond (eqb k 0) U S) mode ∙ mode_again h.mode in
    record {
      none = two _ _ (ruled_again body at (mode_byte h.mode ∷ []) (w1 ++ (w5 ++ (r_in ++ rest))) 1
          (ltb (get_or body at 0) 2) e0 refl (ap (λ (k : ℕ). ltb k 2) mode ∙ mode_small h.mode))
          (two _ _ (ruled_again body (at + 1) w1 (w5 ++ (r_in ++ rest)) 4 (eqb (number body (at + 1) % 4) 0) e1 refl
          (ap (λ (k : ℕ). eqb (k % 4) 0) pc ∙ eq-eqb _ _ right.aligned))
          (two _ _ (any_again body (at + 5) w5 (r_in ++ rest) 4 e5 refl)
          (first_in-append body inside_fields (regs_fields ++ (csr_row ++ mark_row)) ∙ two _ _ inside.none
          (first_in-append body regs_fields (csr_row ++ mark_row) ∙ two _ _ regs.none
          (first_in-append body csr_row mark_row ∙ two _ _ csrs.none mark.none)))));
      value = λ i. record {
        mode = mode_value i;
        pc = pc i;
        timer = timer i;
        inside = inside.value i;
        regs = regs_value i;
        csrs = csrs.value i;
        mark = mark.value i;
      };
      ends = omega (
        arith,
        inside.ends,
        cf_is,
        csrs.ends,
        mark.ends,
        length-append t_in r_regs,
        length-append t_regs r_csrs,
        length-append t_csrs t_mark,
      );
    }

-- ---- frames

abbrev after_owed : Option PageId → List PageId → List PageId
after_owed None seen = seen
after_owed (Some q) seen = q ∷ seen

pub record FrameAgain (body : List ℕ) (programs : ℕ) (seen : List PageId) (at : ℕ) (f : FrozenFrame) : Type 0 where
  pub none : first_in body (frame_fields body programs seen at) ≡ None
  pub value : frame_in body at ≡ f
  pub ends : after_frame body at ≡ at + length (frame_bytes f)
  pub seen_is : seen_after body seen at ≡ after_owed (owed_page f) seen

-- fields, value and end of a frame with this byte after its bytes
abbrev frame_fields_by : ℕ → List ℕ → ℕ → List PageId → ℕ → List FrozenField
frame_fields_by b body programs seen at =
    any_in body at 4096 ∷ ruled_in body (at + 4096) 1 (ltb b 2)
    ∷ cond (eqb b 1) (page_fields body programs (not (list_any (same_page (page_at body (at + 4097))) seen)) (at + 4097)) []

abbrev owed_value_by : ℕ → List ℕ → ℕ → Option (PageId × Meta)
owed_value_by b body at = cond (eqb b 1) (Some (page_at body (at + 4097), meta_in body (at + 4097 + 12))) None

-- the numbers of a page that stands there with its metadata
page_at_again : (body : List ℕ) (at : ℕ) (q : PageId) (m : Meta) (rest : List ℕ) → HasPageShape q →
    drop at body ≡ (page_words q ++ meta_bytes m) ++ rest → page_at body at ≡ q
page_at_again body at q m rest shape e =
    let after = meta_bytes m ++ rest in
    let w0 = word q.domain in
    let w4 = word q.resource in
    let w8 = word q.page in
    let e0 : drop at body ≡ w0 ++ (w4 ++ (w8 ++ after)) = e ∙ append_assoc (page_words q) (meta_bytes m) rest in
    let e4 : drop (at + 4) body ≡ w4 ++ (w8 ++ after) = behind body at w0 (w4 ++ (w8 ++ after)) e0 in
    let e8 : drop (at + 8) body ≡ w8 ++ after = behind body at (w0 ++ w4) (w8 ++ after) e0 in
    let d = number_again body at q.domain (w4 ++ (w8 ++ after)) shape.domain e0 in
    let r = number_again body (at + 4) q.resource (w8 ++ after) shape.resource e4 in
    let p = number_again body (at + 8) q.page after shape.page e8 in
    λ i. record { domain = d i; resource = r i; page = p i }

no_frames_left : (body : List ℕ) (programs : ℕ) (seen : List PageId) (at : ℕ) →
    first_in body (frames_fields body programs 0 seen at) ≡ None
unfolding frames_fields
no_frames_left body programs seen at = refl

no_recorded_left : (body : List ℕ) (programs : ℕ) (last : Option PageId) (at : ℕ) →
    first_in body (recorded_fields body programs 0 last at) ≡ None
unfolding recorded_fields
no_recorded_left body programs last at = refl

new_here : (seen : List PageId) (o : Option PageId) (owed : List (Option PageId)) → AreNew seen (o ∷ owed) →
    IfSome o (λ q. list_any (same_page q) seen ≡ false)
new_here seen None owed new = tt
new_here seen (Some q) owed new = elim (cases_Bool (list_any (same_page q) seen)) [
  | inl was ↦ absurd (new q 0 was refl)
  | inr not_yet ↦ not_yet
]

new_after : (seen : List PageId) (o : Option PageId) (owed : List (Option PageId)) → AreNew seen (o ∷ owed) →
    IsOnce (o ∷ owed) → AreNew (after_owed o seen) owed
new_after seen None owed new once q f was is = new q (suc f) was is
new_after seen (Some p) owed new once q f was is = elim (same_page_tells q p) [
  | inl same ↦
      let there : get_or (Some p ∷ owed) 0 None ≡ Some q = ap (λ (x : PageId). Some x) (sym same.1) in
      let never : 0 ≡ suc f = once 0 (suc f) q there is in
      absurd (omega (arith, never))
  | inr other ↦
      let before : list_any (same_page q) seen ≡ true =
      sym (ap (λ b. b || list_any (same_page q) seen) other.0) ∙ was in
      new q (suc f) before is
]

once_after : (o : Option PageId) (owed : List (Option PageId)) → IsOnce (o ∷ owed) → IsOnce owed
once_after o owed once f g q a b = let same : suc f ≡ suc g = once (suc f) (suc g) q a b in omega (arith, same)

frame_again_by : (body : List ℕ) (programs : ℕ) (seen : List PageId) (at : ℕ) (bytes : List ℕ) (owed : Option (PageId × Meta))
    (rest : List ℕ) → HasFrameShape (record { bytes = bytes; owed = owed }) →
    IfSome (owed_page (record { bytes = bytes; owed = owed })) (IsPage programs) →
    IfSome (owed_page (record { bytes = bytes; owed = owed })) (λ q. list_any (same_page q) seen ≡ false) →
    drop at body ≡ (bytes ++ owed_bytes owed) ++ rest →
    FrameAgain body programs seen at (record { bytes = bytes; owed = owed })
unfolding frame_fields
frame_again_by body programs seen at bytes None rest shape is new e =
    let e0 : drop at body ≡ bytes ++ (0 ∷ rest) = e ∙ append_assoc bytes (0 ∷ []) rest in
    let e4096 : drop (at + 4096) body ≡ 0 ∷ rest =
    after_text body at bytes (0 ∷ rest) (at + 4096) e0 (omega (arith, shape.bytes)) in
    let b : get_or body (at + 4096) 0 ≡ 0 = byte_again body (at + 4096) 0 rest e4096 in
    let left = is_left body (at + 4096) (0 ∷ []) rest 1 e4096 refl in
    let none : first_in body (frame_fields_by 0 body programs seen at) ≡ None =
    two _ _ (any_again body at bytes (0 ∷ rest) 4096 e0 shape.bytes)
    (two _ _ (holds _ true (Form (length body)) (Form (at + 4096)) left refl) refl) in
    let page = piece_again body at bytes (0 ∷ rest) 4096 e0 shape.bytes in
    let owed = ap (λ (k : ℕ). owed_value_by k body at) b in
    record {
      none = ap (λ (k : ℕ). first_in body (frame_fields_by k body programs seen at)) b ∙ none;
      value = λ i. record { bytes = page i; owed = owed i };
      ends = ap (λ (k : ℕ). at + cond (eqb k 1) 4157 4097) b
          ∙ omega (arith, shape.bytes, length-append bytes (0 ∷ []));
      seen_is = ap (λ (k : ℕ). cond (eqb k 1) (page_at body (at + 4097) ∷ seen) seen) b;
    }
frame_again_by body programs seen at bytes (Some o) rest shape is new e =
    let q = o.0 in
    let m = o.1 in
    let text = page_words q ++ meta_bytes m in
    let e0 : drop at body ≡ bytes ++ (1 ∷ (text ++ rest)) = e ∙ append_assoc bytes (1 ∷ text) rest in
    let e4096 : drop (at + 4096) body ≡ 1 ∷ (text ++ rest) =
    after_text body at bytes (1 ∷ (text ++ rest)) (at + 4096) e0 (omega (arith, shape.bytes)) in
    let b : get_or body (at + 4096) 0 ≡ 1 = byte_again body (at + 4096) 1 (text ++ rest) e4096 in
    let left = is_left body (at + 4096) (1 ∷ []) (text ++ rest) 1 e4096 refl in
    let e4097 : drop (at + 4097) body ≡ text ++ rest =
    after_text body (at + 4096) (1 ∷ []) (text ++ rest) (at + 4097) e4096 (omega arith) in
    let right = not (list_any (same_page (page_at body (at + 4097))) seen) in
    let numbers = page_at_again body (at + 4097) q m rest shape.owed.0 e4097 in
    let good : right ≡ true =
    ap (λ (x : PageId). not (list_any (same_page x) seen)) numbers ∙ ap not new in
    let page = page_again body programs right (at + 4097) q m rest shape.owed.0 shape.owed.1 is good e4097 in
    let none : first_in body (frame_fields_by 1 body programs seen at) ≡ None =
    two _ _ (any_again body at bytes (1 ∷ (text ++ rest)) 4096 e0 shape.bytes)
    (two _ _ (holds _ true (Form (length body)) (Form (at + 4096)) left refl) page.none) in
    let bytes_are = piece_again body at bytes (1 ∷ (text ++ rest)) 4096 e0 shape.bytes in
    let meta_is = page.meta in
    let pair : owed_value_by 1 body at ≡ Some o = λ i. Some (page.page i, meta_is i) in
    let owed : owed_value_by (get_or body (at + 4096) 0) body at ≡ Some o = ap (λ (k : ℕ). owed_value_by k body at) b ∙ pair in
    record {
      none = ap (λ (k : ℕ). first_in body (frame_fields_by k body programs seen at)) b ∙ none;
      value = λ i. record { bytes = bytes_are i; owed = owed i };
      ends = ap (λ (k : ℕ). at + cond (eqb k 1) 4157 4097) b
          ∙ omega (
            arith,
            shape.bytes,
            shape.owed.1.iv,
            shape.owed.1.digest,
            length-append bytes (1 ∷ text),
            length-append m.iv m.digest,
            length-append (page_words q) (meta_bytes m),
          );
      seen_is = ap (λ (k : ℕ). cond (eqb k 1) (page_at body (at + 4097) ∷ seen) seen) b
          ∙ ap (λ (x : PageId). x ∷ seen) page.page;
    }

pub frames_again : (body : List ℕ) (programs : ℕ) (xs : List FrozenFrame) (n : ℕ) (seen : List PageId) (at : ℕ) (rest : List ℕ) →
    length xs ≡ n → AllByRecursion HasFrameShape xs →
    AllByRecursion (λ (f : FrozenFrame). IfSome (owed_page f) (IsPage programs)) xs →
    AreNew seen (map owed_page xs) → IsOnce (map owed_page xs) → drop at body ≡ flat_map frame_bytes xs ++ rest →
    Again body (frames_fields body programs n seen at) at (values (frame_in body) (after_frame body) n at) xs
    (after_parts (after_frame body) n at) (flat_map frame_bytes xs)
unfolding values after_parts
frames_again body programs [] zero seen at rest size all pages new once e =
    record { none = no_frames_left body programs seen at; value = refl; ends = sym (add-zero at) }
frames_again body programs [] (suc n) seen at rest size all pages new once e = absurd (omega (arith, size))
frames_again body programs (x ∷ xs) zero seen at rest size all pages new once e = absurd (omega (arith, size))
frames_again body programs (x ∷ xs) (suc n) seen at rest size all pages new once e =
    let later = flat_map frame_bytes xs in
    let text = frame_bytes x in
    let o = owed_page x in
    let apart : drop at body ≡ text ++ (later ++ rest) =
    e ∙ ap (λ t. t ++ rest) (flat_map-cons frame_bytes x xs) ∙ append_assoc text later rest in
    let first = frame_again_by body programs seen at x.bytes x.owed (later ++ rest) all.0 pages.0
    (new_here seen o (map owed_page xs) new) apart in
    let next = after_frame body at in
    let there = after_text body at text (later ++ rest) next apart first.ends in
    let new_then : AreNew (seen_after body seen at) (map owed_page xs) =
    subst (λ (s : List PageId). AreNew s (map owed_page xs)) (sym first.seen_is)
    (new_after seen o (map owed_page xs) new once) in
    let others = frames_again body programs xs n (seen_after body seen at) next rest (omega (arith, size)) all.1 pages.1
    new_then (once_after o (map owed_page xs) once) there in
    record {
      none = frames_step body programs n seen at ∙ two _ _ first.none others.none;
      value = ap (λ (y : FrozenFrame). y ∷ values (frame_in body) (after_frame body) n next) first.value
          ∙ ap (λ (ys : List FrozenFrame). x ∷ ys) others.value;
      ends = others.ends ∙ (let long = ap length (flat_map-cons frame_bytes x xs) in
          omega (arith, first.ends, long, length-append text later));
    }

-- ---- recorded pages

pub recorded_again : (body : List ℕ) (programs : ℕ) (xs : List FrozenPage) (n : ℕ) (last : Option PageId) (at : ℕ) (rest : List ℕ) →
    length xs ≡ n → AllByRecursion HasRecordedShape xs →
    AllByRecursion (λ (p : FrozenPage). IsPage programs p.page) xs → AreAfter last xs → AllPairs Rises xs →
    drop at body ≡ flat_map recorded_bytes xs ++ rest →
    Again body (recorded_fields body programs n last at) at (values (recorded_in body) after_recorded n at) xs
    (after_parts after_recorded n at) (flat_map recorded_bytes xs)
unfolding values after_parts
recorded_again body programs [] zero last at rest size all pages after rising e =
    record { none = no_recorded_left body programs last at; value = refl; ends = sym (add-zero at) }
recorded_again body programs [] (suc n) last at rest size all pages after rising e = absurd (omega (arith, size))
recorded_again body programs (x ∷ xs) zero last at rest size all pages after rising e = absurd (omega (arith, size))
recorded_again body programs (x ∷ xs) (suc n) last at rest size all pages after rising e =
    let later = flat_map recorded_bytes xs in
    let text = recorded_bytes x in
    let apart : drop at body ≡ text ++ (later ++ rest) =
    e ∙ ap (λ t. t ++ rest) (flat_map-cons recorded_bytes x xs) ∙ append_assoc text later rest in
    let numbers = page_at_again body at x.page x.meta (later ++ rest) all.0.page apart in
    let rises_here : rises last x.page ≡ true = after 0 x (omega arith) in
    let page = page_again body programs (rises last (page_at body at)) at x.page x.meta (later ++ rest) all.0.page
    all.0.meta pages.0 (ap (rises last) numbers ∙ rises_here) apart in
    let long_text : length text ≡ 60 =
    omega (arith, all.0.meta.iv, all.0.meta.digest, length-append x.meta.iv x.meta.digest, length-append (page_words x.page) (meta_bytes x.meta)) in
    let there = after_text body at text (later ++ rest) (at + 60) apart (omega (arith, long_text)) in
    let after_then : AreAfter (Some (page_at body at)) xs =
    subst (λ (q : PageId). AreAfter (Some q) xs) (sym numbers) (λ k d low. rising 0 (suc k) d (omega arith) (omega arith)) in
    let others = recorded_again body programs xs n (Some (page_at body at)) (at + 60) rest (omega (arith, size)) all.1 pages.1
    after_then (λ i j d low inside. rising (suc i) (suc j) d (omega arith) (omega arith)) there in
    let value : recorded_in body at ≡ x = λ i. record { page = page.page i; meta = page.meta i } in
    record {
      none = recorded_step body programs n last at ∙ two _ _ page.none others.none;
      value = ap (λ (y : FrozenPage). y ∷ values (recorded_in body) after_recorded n (at + 60)) value
          ∙ ap (λ (ys : List FrozenPage). x ∷ ys) others.value;
      ends = others.ends ∙ (let long = ap length (flat_map-cons recorded_bytes x xs) in
          omega (arith, long_text, long, length-append text later));
    }
