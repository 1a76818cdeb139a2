-- Domains and harts of a body without a fault.
use Rattle.std.proofs.Common.{◌≡◌, ◌∙◌, ℕ, zero, suc, ◌+◌, ◌-◌, ◌*◌, ◌%◌, ◌<◌, ◌≤◌, Bool, true, false, cond, ltb, eqb, List, [], ◌∷◌, ◌++◌, length, get_or, take, drop, Option, None, slice_get, refl, sym, subst, arith, add-zero}
use Rattle.std.specs.List.{flat_map}
use Rattle.std.specs.Option.{IfSome}
use Rattle.std.proofs.lemmas.Bool.{ltb-true, eqb-true, eqb-false}
use Rattle.std.proofs.lemmas.List.Concat.{flat_map-cons}
use Rattle.cloak_base.specs.declared.names.Mode.TheVariants.{U, S}
use Rattle.cloak_model.specs.Bits.{word}
use Rattle.cloak_model.specs.Fields.{first_of, fault_in, first_in, number, parts, after_parts}
use Rattle.frozen_state.specs.declared.fault.FrozenFault.TheVariants.{Form}
use Rattle.frozen_state.specs.declared.frozen.FrozenDomain.{FrozenDomain}
use Rattle.frozen_state.specs.FrozenState.{maybe_word, meta_bytes, violation_bytes, domain_bytes, mode_byte, hart_bytes}
use Rattle.frozen_state.specs.Ranges.{kept_bits, is_word_in_ram, IsViolationOf, IsFrozenHart}
use Rattle.frozen_state.specs.FrozenFault.{FrozenField, any_in, ruled_in, byte_below, maybe_fields, after_maybe, violation_fields, after_violation, page_from, domain_fields, after_domain, csr_fields, mark_fields, regs_from, csrs_from, mark_from, hart_fields, after_hart}
use Rattle.field_facts.proofs.Firsts.{first_in-append, none_parts, field_holds}
use Rattle.field_facts.proofs.Stands.{AreBytes, Stands, Stands-then, piece_stands, number_stands}
use Rattle.frozen_run.specs.Reading.{values, after_word, maybe_in, meta_in, violation_in, domain_in, domains_in, mode_in, hart_in}
use Rattle.frozen_run.proofs.Spelled.{any_whole, ends_at, byte_then, maybe_by, maybe_stands_by, maybe_stands, values_stand, word_stands, ruled_holds, meta_stands, violation_holds, csrs_stand, csrs_kept}

-- ---- domains

pub record DomainHolds (body : List ℕ) (frames d at : ℕ) : Type 0 where
  pub text : Stands body at (domain_bytes (domain_in body d at)) (after_domain body at)
  pub right : IfSome (violation_in body d at) (IsViolationOf frames d)

pub domain_holds : (body : List ℕ) (frames d at : ℕ) → AreBytes body →
    first_in body (domain_fields body frames at) ≡ None → DomainHolds body frames d at
domain_holds body frames d at are h =
    let tables = after_violation body at in
    let sealed = page_from body at in
    let rows = parts (maybe_fields body) (after_maybe body) 8 tables in
    let iv = any_in body sealed 16 in
    let digest = any_in body (sealed + 16) 32 in
    let page = any_in body (sealed + 48) 4096 in
    let last : List FrozenField = iv ∷ digest ∷ page ∷ [] in
    let a = none_parts (first_in body (violation_fields body frames at)) (first_in body (rows ++ last))
    (sym (first_in-append body (violation_fields body frames at) (rows ++ last)) ∙ h) in
    let b = none_parts (first_in body rows) (first_in body last) (sym (first_in-append body rows last) ∙ a.1) in
    let c = none_parts (fault_in body iv) (first_of (fault_in body digest) (first_of (fault_in body page) None)) b.1 in
    let e = none_parts (fault_in body digest) (first_of (fault_in body page) None) c.1 in
    let v = violation_holds body frames d at are a.0 in
    let roots = values (maybe_in body) (after_maybe body) 8 tables in
    let rest = take 4096 (drop (sealed + 48) body) in
    let tables_text = values_stand body (maybe_fields body) (after_maybe body) (maybe_in body) maybe_word
    (λ at h. maybe_stands body at are h) 8 tables b.0 in
    record {
      text = Stands-then body at (violation_bytes (violation_in body d at)) tables
          (flat_map maybe_word roots ++ (meta_bytes (meta_in body sealed) ++ rest)) (sealed + 4144) v.text
          (Stands-then body tables (flat_map maybe_word roots) sealed (meta_bytes (meta_in body sealed) ++ rest)
          (sealed + 4144) tables_text
          (Stands-then body sealed (meta_bytes (meta_in body sealed)) (sealed + 48) rest (sealed + 4144)
          (meta_stands body sealed c.0 e.0)
          (ends_at body (sealed + 48) rest (sealed + 48 + 4096) (sealed + 4144) (omega arith)
          (piece_stands body (sealed + 48) 4096))));
      right = v.right;
    }

-- the violation at this place is of the domain with this number
abbrev pub IsRightAt : ℕ → ℕ → Option FrozenDomain → Type 0
IsRightAt frames d o = IfSome o (λ domain. IfSome domain.violation (IsViolationOf frames d))

pub record DomainsHold (body : List ℕ) (frames d n at : ℕ) : Type 0 where
  pub text : Stands body at (flat_map domain_bytes (domains_in body d n at)) (after_parts (after_domain body) n at)
  pub right : (i : ℕ) → IsRightAt frames (d + i) (slice_get (domains_in body d n at) i)

right_from : (body : List ℕ) (frames d n at : ℕ) → IfSome (violation_in body d at) (IsViolationOf frames d) →
    ((i : ℕ) → IsRightAt frames (d + 1 + i) (slice_get (domains_in body (d + 1) n (after_domain body at)) i)) →
    (i : ℕ) → IsRightAt frames (d + i) (slice_get (domain_in body d at ∷ domains_in body (d + 1) n (after_domain body at)) i)
right_from body frames d n at first others zero =
    subst (λ (k : ℕ). IfSome (violation_in body d at) (IsViolationOf frames k)) (sym (add-zero d)) first
right_from body frames d n at first others (suc i) =
    let same : d + 1 + i ≡ d + suc i = omega arith in
    subst (λ (k : ℕ). IsRightAt frames k (slice_get (domains_in body (d + 1) n (after_domain body at)) i)) same (others i)

pub domains_hold : (body : List ℕ) (frames d n at : ℕ) → AreBytes body →
    first_in body (parts (domain_fields body frames) (after_domain body) n at) ≡ None →
    DomainsHold body frames d n at
unfolding parts after_parts domains_in
domains_hold body frames d zero at are h = record { text = record { parts = refl }; right = λ i. tt }
domains_hold body frames d (suc n) at are h =
    let next = after_domain body at in
    let later = parts (domain_fields body frames) (after_domain body) n next in
    let a = none_parts (first_in body (domain_fields body frames at)) (first_in body later)
    (sym (first_in-append body (domain_fields body frames at) later) ∙ h) in
    let first = domain_holds body frames d at are a.0 in
    let others = domains_hold body frames (d + 1) n next are a.1 in
    record {
      text = rw flat_map-cons (Stands-then body at (domain_bytes (domain_in body d at)) next
          (flat_map domain_bytes (domains_in body (d + 1) n next)) (after_parts (after_domain body) n next) first.text
          others.text);
      right = right_from body frames d n at first.right others.right;
    }

-- ---- harts

mode_stands_by : (n : ℕ) (zero_is : Bool) → eqb n 0 ≡ zero_is → n < 2 →
    n ≡ mode_byte (cond zero_is U S)
mode_stands_by n true is below = eqb-true n 0 is
mode_stands_by n false is below = let other = eqb-false n 0 is in omega (arith, other)

pub after_words : (n at : ℕ) → after_parts after_word n at ≡ at + 4 * n
unfolding after_parts
after_words zero at = omega arith
after_words (suc n) at = after_words n (at + 4) ∙ omega arith

abbrev mark_rest : Bool → List ℕ → ℕ → ℕ → List FrozenField
mark_rest there body frames at =
    cond there (ruled_in body (at + 1) 4 (is_word_in_ram frames (number body (at + 1))) ∷ []) []

mark_there_by : (body : List ℕ) (frames at : ℕ) (there : Bool) → first_in body (mark_rest there body frames at) ≡ None →
    there ≡ true → 4 ≤ length body - (at + 1)
mark_there_by body frames at true h is =
    let rule = is_word_in_ram frames (number body (at + 1)) in
    (field_holds (length body - (at + 1)) 4 rule (Form (length body)) (Form (at + 1))
    (none_parts (fault_in body (ruled_in body (at + 1) 4 rule)) None h).0).whole
mark_there_by body frames at false h is = absurd cc

mark_right_by : (body : List ℕ) (frames at : ℕ) (there : Bool) → first_in body (mark_rest there body frames at) ≡ None →
    IfSome (maybe_by there body at) (λ pa. is_word_in_ram frames pa ≡ true)
mark_right_by body frames at true h =
    let rule = is_word_in_ram frames (number body (at + 1)) in
    (field_holds (length body - (at + 1)) 4 rule (Form (length body)) (Form (at + 1))
    (none_parts (fault_in body (ruled_in body (at + 1) 4 rule)) None h).0).right
mark_right_by body frames at false h = tt

record MarkHolds (body : List ℕ) (frames at : ℕ) : Type 0 where
  text : Stands body at (maybe_word (maybe_in body at)) (after_maybe body at)
  right : IfSome (maybe_in body at) (λ pa. is_word_in_ram frames pa ≡ true)

mark_holds : (body : List ℕ) (frames at : ℕ) → AreBytes body → first_in body (mark_fields body frames at) ≡ None →
    MarkHolds body frames at
mark_holds body frames at are h =
    let b = eqb (get_or body at 0) 1 in
    let a = none_parts (fault_in body (byte_below body at 2)) (first_in body (mark_rest b body frames at)) h in
    let first = field_holds (length body - at) 1 (ltb (get_or body at 0) 2) (Form (length body)) (Form at) a.0 in
    record {
      text = maybe_stands_by body at b refl are first.whole (ltb-true _ _ first.right) (mark_there_by body frames at b a.1);
      right = mark_right_by body frames at b a.1;
    }

pub record HartHolds (body : List ℕ) (frames at : ℕ) : Type 0 where
  pub text : Stands body at (hart_bytes (hart_in body at)) (after_hart body at)
  pub right : IsFrozenHart frames (hart_in body at)

pub hart_holds : (body : List ℕ) (frames at : ℕ) → AreBytes body →
    first_in body (hart_fields body frames at) ≡ None → HartHolds body frames at
hart_holds body frames at are h =
    let rf = regs_from body at in
    let cf = csrs_from body at in
    let mf = mark_from body at in
    let mode = byte_below body at 2 in
    let pc = ruled_in body (at + 1) 4 (eqb (number body (at + 1) % 4) 0) in
    let timer = any_in body (at + 5) 4 in
    let inside = maybe_fields body (at + 9) in
    let regs = parts (λ (k : ℕ). any_in body k 4 ∷ []) after_word 31 rf in
    let csrs = csr_fields body kept_bits cf in
    let mark = mark_fields body frames mf in
    let a = none_parts (fault_in body mode)
    (first_of (fault_in body pc) (first_of (fault_in body timer) (first_in body (inside ++ (regs ++ (csrs ++ mark)))))) h in
    let b = none_parts (fault_in body pc)
    (first_of (fault_in body timer) (first_in body (inside ++ (regs ++ (csrs ++ mark))))) a.1 in
    let c = none_parts (fault_in body timer) (first_in body (inside ++ (regs ++ (csrs ++ mark)))) b.1 in
    let d = none_parts (first_in body inside) (first_in body (regs ++ (csrs ++ mark)))
    (sym (first_in-append body inside (regs ++ (csrs ++ mark))) ∙ c.1) in
    let e = none_parts (first_in body regs) (first_in body (csrs ++ mark))
    (sym (first_in-append body regs (csrs ++ mark)) ∙ d.1) in
    let f = none_parts (first_in body csrs) (first_in body mark) (sym (first_in-append body csrs mark) ∙ e.1) in
    let first = field_holds (length body - at) 1 (ltb (get_or body at 0) 2) (Form (length body)) (Form at) a.0 in
    let mode_is = mode_stands_by (get_or body at 0) (eqb (get_or body at 0) 0) refl (ltb-true _ _ first.right) in
    let pc_holds = ruled_holds body (at + 1) (eqb (number body (at + 1) % 4) 0) are b.0 in
    let mark_right = mark_holds body frames mf are f.1 in
    let end = after_hart body at in
    let w1 = word (number body (at + 1)) in
    let w5 = word (number body (at + 5)) in
    let in_text = maybe_word (maybe_in body (at + 9)) in
    let regs_text = flat_map word (values (number body) after_word 31 rf) in
    let csrs_text = flat_map word (values (number body) after_word 9 cf) in
    let mark_text = maybe_word (maybe_in body mf) in
    let s_regs : Stands body rf regs_text cf =
    ends_at body rf regs_text (after_parts after_word 31 rf) cf (after_words 31 rf)
    (values_stand body (λ (k : ℕ). any_in body k 4 ∷ []) after_word (number body) word
    (λ k g. word_stands body k are g) 31 rf e.0) in
    let s_csrs : Stands body cf csrs_text mf = csrs_stand body kept_bits cf are f.0 in
    record {
      text = byte_then body at (mode_byte (mode_in body at))
          (w1 ++ (w5 ++ (in_text ++ (regs_text ++ (csrs_text ++ mark_text))))) end first.whole mode_is
          (Stands-then body (at + 1) w1 (at + 5) (w5 ++ (in_text ++ (regs_text ++ (csrs_text ++ mark_text)))) end
          (ends_at body (at + 1) w1 (at + 1 + 4) (at + 5) (omega arith) pc_holds.text)
          (Stands-then body (at + 5) w5 (at + 9) (in_text ++ (regs_text ++ (csrs_text ++ mark_text))) end
          (ends_at body (at + 5) w5 (at + 5 + 4) (at + 9) (omega arith)
          (number_stands body (at + 5) are (any_whole body (at + 5) 4 c.0)))
          (Stands-then body (at + 9) in_text rf (regs_text ++ (csrs_text ++ mark_text)) end
          (maybe_stands body (at + 9) are d.0)
          (Stands-then body rf regs_text cf (csrs_text ++ mark_text) end s_regs
          (Stands-then body cf csrs_text mf mark_text end s_csrs mark_right.text)))));
      right = record {
        aligned = eqb-true _ _ pc_holds.right;
        csrs = λ i low. csrs_kept body kept_bits cf are f.0 i low;
        mark = mark_right.right;
      };
    }
