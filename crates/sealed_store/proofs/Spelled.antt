-- A body without a fault spells the files that stand in it.
use Rattle.std.proofs.Common.{◌≡◌, ◌∙◌, ℕ, zero, suc, ◌+◌, ◌-◌, ◌<◌, ◌≤◌, ◌⊎◌, Bool, true, false, cond, ltb, leb, ◌&&◌, List, [], ◌∷◌, ◌++◌, length, get_or, take, drop, sum_by, Option, Some, None, refl, sym, ap, subst, arith, inl, inr}
use Rattle.std.specs.List.{flat_map, AllByRecursion}
use Rattle.std.proofs.lemmas.Bool.{cases_lt, ltb-true, ltb-false, leb-true, eqb-true, eqb-false, and_parts, or_cases}
use Rattle.std.proofs.lemmas.List.{drop_more}
use Rattle.std.proofs.lemmas.List.Concat.{flat_map-cons}
use Rattle.std.proofs.lemmas.List.Sums.{sum_by-cons}
use Rattle.std.proofs.lemmas.List.Elements.{All-from_recursion}
use Rattle.cloak_base.specs.declared.names.Meta.{Meta}
use Rattle.cloak_model.specs.Bits.{word}
use Rattle.cloak_model.specs.declared.fault.StoreFault.TheVariants.{Form}
use Rattle.cloak_model.specs.Fields.{first_of, fault_in, first_in, number, parts, after_parts}
use Rattle.cloak_model.specs.StoredFiles.{StoredFile, page_bytes, file_bytes, IsMetaIfKnown, IsFile, Rise, page_count}
use Rattle.cloak_model.specs.StoreFault.{StoreField, FilesBefore, ruled_at, any_at, is_shown, page_fields, after_page, domain_rises, number_rises, pages_fit, files_fields, files_end}
use Rattle.field_facts.proofs.Firsts.{first_in-append, none_parts, not_so, field_holds}
use Rattle.field_facts.proofs.Stands.{AreBytes, piece_bytes, piece_length, Stands, Stands-then, piece_stands, number_stands, number_small, byte_stands}
use Rattle.sealed_store.specs.Reading.{page_in, pages_in, file_in, after_file, files_in}
use Rattle.sealed_store.proofs.Rows.{pages_in-length}

-- ---- pages

-- a page of which it is said whether it was shown
abbrev page_by : Bool → List ℕ → ℕ → Option Meta
page_by shown body at =
    cond shown (Some (record { iv = take 16 (drop (at + 1) body); digest = take 32 (drop (at + 17) body) })) None

abbrev rest_by : Bool → ℕ → List StoreField
rest_by shown at = cond shown (any_at (at + 1) 16 ∷ any_at (at + 17) 32 ∷ []) []

zero_of : (n : ℕ) → n < 2 → (n ≡ 1 → ⊥) → n ≡ 0
zero_of zero lt other = refl
zero_of (suc zero) lt other = absurd (other refl)
zero_of (suc (suc n)) lt other = absurd (omega arith)

record PageStands (body : List ℕ) (at : ℕ) (p : Option Meta) (next : ℕ) : Type 0 where
  text : Stands body at (page_bytes p) next
  known : IsMetaIfKnown p

page_stands_by : (body : List ℕ) (at : ℕ) (shown : Bool) → is_shown body at ≡ shown → AreBytes body →
    first_in body (ruled_at at 1 (ltb (get_or body at 0) 2) ∷ rest_by shown at) ≡ None →
    PageStands body at (page_by shown body at) (at + cond shown 49 1)
page_stands_by body at true is are h =
    let a = none_parts (fault_in body (ruled_at at 1 (ltb (get_or body at 0) 2))) (first_in body (rest_by true at)) h in
    let first = field_holds (length body - at) 1 (ltb (get_or body at 0) 2) (Form at) (Form at) a.0 in
    let b = none_parts (fault_in body (any_at (at + 1) 16)) (first_of (fault_in body (any_at (at + 17) 32)) None) a.1 in
    let c = none_parts (fault_in body (any_at (at + 17) 32)) None b.1 in
    let iv = not_so (ltb (length body - (at + 1)) 16) (Form (at + 1)) None b.0 in
    let digest = not_so (ltb (length body - (at + 17)) 32) (Form (at + 17)) None c.0 in
    let one = byte_stands body at 1 first.whole (eqb-true (get_or body at 0) 1 is) in
    let x1 : Stands body (at + 1) (take 16 (drop (at + 1) body)) (at + 17) =
    subst (λ (k : ℕ). Stands body (at + 1) (take 16 (drop (at + 1) body)) k) (omega arith)
    (piece_stands body (at + 1) 16) in
    let x2 : Stands body (at + 17) (take 32 (drop (at + 17) body)) (at + 49) =
    subst (λ (k : ℕ). Stands body (at + 17) (take 32 (drop (at + 17) body)) k) (omega arith)
    (piece_stands body (at + 17) 32) in
    record {
      text = Stands-then body at (1 ∷ []) (at + 1) (take 16 (drop (at + 1) body) ++ take 32 (drop (at + 17) body))
          (at + 49) one
          (Stands-then body (at + 1) (take 16 (drop (at + 1) body)) (at + 17) (take 32 (drop (at + 17) body)) (at + 49)
          x1 x2);
      known = record {
        iv = record {
          long = piece_length 16 (at + 1) body (ltb-false _ _ iv.0);
          bytes = piece_bytes 16 (at + 1) body are;
        };
        digest = record {
          long = piece_length 32 (at + 17) body (ltb-false _ _ digest.0);
          bytes = piece_bytes 32 (at + 17) body are;
        };
      };
    }
page_stands_by body at false is are h =
    let a = none_parts (fault_in body (ruled_at at 1 (ltb (get_or body at 0) 2))) None h in
    let first = field_holds (length body - at) 1 (ltb (get_or body at 0) 2) (Form at) (Form at) a.0 in
    let below : get_or body at 0 < 2 = ltb-true _ _ first.right in
    let other = eqb-false (get_or body at 0) 1 is in
    let none : get_or body at 0 ≡ 0 = zero_of (get_or body at 0) below other in
    record { text = byte_stands body at 0 first.whole none; known = tt }

page_stands : (body : List ℕ) (at : ℕ) → AreBytes body → first_in body (page_fields body at) ≡ None →
    PageStands body at (page_in body at) (after_page body at)
page_stands body at are h = page_stands_by body at (is_shown body at) refl are h

-- what n pages say
pub record PagesStand (body : List ℕ) (n at : ℕ) : Type 0 where
  pub text : Stands body at (flat_map page_bytes (pages_in body n at)) (after_parts (after_page body) n at)
  pub known : AllByRecursion IsMetaIfKnown (pages_in body n at)

pub pages_stand : (body : List ℕ) (n at : ℕ) → AreBytes body →
    first_in body (parts (page_fields body) (after_page body) n at) ≡ None → PagesStand body n at
unfolding parts after_parts pages_in
pages_stand body zero at are h = record { text = record { parts = refl }; known = tt }
pages_stand body (suc n) at are h =
    let next = after_page body at in
    let later = parts (page_fields body) (after_page body) n next in
    let a = none_parts (first_in body (page_fields body at)) (first_in body later)
    (sym (first_in-append body (page_fields body at) later) ∙ h) in
    let first = page_stands body at are a.0 in
    let others = pages_stand body n next are a.1 in
    record {
      text = rw flat_map-cons (Stands-then body at (page_bytes (page_in body at)) next
          (flat_map page_bytes (pages_in body n next)) (after_parts (after_page body) n next) first.text others.text);
      known = (first.known, others.known);
    }

-- ---- files

-- files rise, also from a file of this domain and number before them
abbrev pub RiseAfter : Option (ℕ × ℕ) → List StoredFile → Type 0
RiseAfter None files = Rise files
RiseAfter (Some last) files = Rise (record { domain = last.0; number = last.1; pages = [] } ∷ files)

refront : (f : StoredFile) (files : List StoredFile) → RiseAfter (Some (f.domain, f.number)) files → Rise (f ∷ files)
refront f [] rise = tt
refront f (g ∷ files) rise = rise

domain_small : (last : Option (ℕ × ℕ)) (d : ℕ) → domain_rises last d ≡ true → d < 4
domain_small None d h = ltb-true d 4 h
domain_small (Some last) d h = ltb-true d 4 (and_parts (ltb d 4) (leb last.0 d) h).0

precedes : (last : ℕ × ℕ) (d n : ℕ) → domain_rises (Some last) d ≡ true → number_rises (Some last) d n ≡ true →
    (last.0 < d) ⊎ ((last.0 ≡ d) × (last.1 < n))
precedes last d n domain name =
    let le : last.0 ≤ d = leb-true last.0 d (and_parts (ltb d 4) (leb last.0 d) domain).1 in
    elim (cases_lt last.0 d) [
      | inl lt ↦ inl lt
      | inr ge ↦ elim (or_cases (ltb last.0 d) (ltb last.1 n) name) [
        | inl below ↦ inl (ltb-true _ _ below)
        | inr above ↦ inr (omega arith, ltb-true _ _ above)
      ]
    ]

join_rise : (last : Option (ℕ × ℕ)) (f : StoredFile) (files : List StoredFile) → domain_rises last f.domain ≡ true →
    number_rises last f.domain f.number ≡ true → RiseAfter (Some (f.domain, f.number)) files →
    RiseAfter last (f ∷ files)
join_rise None f files domain name rise = refront f files rise
join_rise (Some last) f files domain name rise =
    (precedes last f.domain f.number domain name, refront f files rise)

-- what a file says whose fields have no fault
record FileHolds (body : List ℕ) (before : FilesBefore) (at : ℕ) : Type 0 where
  text : Stands body at (file_bytes (file_in body at)) (after_file body at)
  is_file : IsFile (file_in body at)
  domain : domain_rises before.last (number body at) ≡ true
  name : number_rises before.last (number body at) (number body (at + 4)) ≡ true
  few_pages : before.pages + number body (at + 8) ≤ 4096

file_holds : (body : List ℕ) (before : FilesBefore) (at : ℕ) → AreBytes body →
    fault_in body (ruled_at at 4 (domain_rises before.last (number body at))) ≡ None →
    fault_in body (ruled_at (at + 4) 4 (number_rises before.last (number body at) (number body (at + 4)))) ≡ None →
    fault_in body (ruled_at (at + 8) 4 (pages_fit before.pages (number body (at + 8)))) ≡ None →
    first_in body (parts (page_fields body) (after_page body) (number body (at + 8)) (at + 12)) ≡ None →
    FileHolds body before at
file_holds body before at are domain_right name_right count_right pages_right =
    let d = number body at in
    let name = number body (at + 4) in
    let count = number body (at + 8) in
    let domain = field_holds (length body - at) 4 (domain_rises before.last d) (Form at) (Form at) domain_right in
    let second = field_holds (length body - (at + 4)) 4 (number_rises before.last d name) (Form (at + 4))
    (Form (at + 4)) name_right in
    let third = field_holds (length body - (at + 8)) 4 (pages_fit before.pages count) (Form (at + 8)) (Form (at + 8))
    count_right in
    let some = and_parts (leb 1 count) (leb count 1024 && leb (before.pages + count) 4096) third.right in
    let few = and_parts (leb count 1024) (leb (before.pages + count) 4096) some.1 in
    let pages = pages_stand body count (at + 12) are pages_right in
    let all = pages_in body count (at + 12) in
    let size : length all ≡ count = pages_in-length body count (at + 12) in
    let least : 1 ≤ count = leb-true 1 count some.0 in
    let most : count ≤ 1024 = leb-true count 1024 few.0 in
    let x0 = number_stands body at are domain.whole in
    let x1 : Stands body (at + 4) (word name) (at + 8) =
    subst (λ (k : ℕ). Stands body (at + 4) (word name) k) (omega arith)
    (number_stands body (at + 4) are second.whole) in
    let x2 : Stands body (at + 8) (word (length all)) (at + 12) =
    subst (λ (k : ℕ). Stands body (at + 8) (word k) (at + 12)) (sym size)
    (subst (λ (k : ℕ). Stands body (at + 8) (word count) k) (omega arith)
    (number_stands body (at + 8) are third.whole)) in
    let end = after_file body at in
    let pages_text = flat_map page_bytes all in
    record {
      text = Stands-then body at (word d) (at + 4) (word name ++ (word (length all) ++ pages_text)) end x0
          (Stands-then body (at + 4) (word name) (at + 8) (word (length all) ++ pages_text) end x1
          (Stands-then body (at + 8) (word (length all)) (at + 12) pages_text end x2 pages.text));
      is_file = record {
        domain = domain_small before.last d domain.right;
        number = number_small body (at + 4) are;
        some_pages = omega (arith, size, least);
        few_pages = omega (arith, size, most);
        pages = All-from_recursion IsMetaIfKnown all pages.known;
      };
      domain = domain.right;
      name = second.right;
      few_pages = leb-true _ _ few.1;
    }

-- what n files say
pub record FilesStand (body : List ℕ) (n : ℕ) (before : FilesBefore) (at : ℕ) : Type 0 where
  pub text : Stands body at (flat_map file_bytes (files_in body n at)) (files_end body n at)
  pub each : AllByRecursion IsFile (files_in body n at)
  pub few_pages : before.pages + sum_by page_count (files_in body n at) ≤ 4096
  pub rise : RiseAfter before.last (files_in body n at)

none_rise : (last : Option (ℕ × ℕ)) → RiseAfter last []
none_rise None = tt
none_rise (Some last) = tt

pub files_stand : (body : List ℕ) (n : ℕ) (before : FilesBefore) (at : ℕ) → AreBytes body → before.pages ≤ 4096 →
    first_in body (files_fields body n before at) ≡ None → FilesStand body n before at
unfolding files_fields files_end files_in
files_stand body zero before at are fits h = record {
  text = record { parts = refl };
  each = tt;
  few_pages = omega arith;
  rise = none_rise before.last;
}
files_stand body (suc n) before at are fits h =
    let d = number body at in
    let name = number body (at + 4) in
    let count = number body (at + 8) in
    let next = after_file body at in
    let later : FilesBefore = record { last = Some (d, name); pages = before.pages + count } in
    let pages = parts (page_fields body) (after_page body) count (at + 12) in
    let others = files_fields body n later next in
    let domain_field = ruled_at at 4 (domain_rises before.last d) in
    let name_field = ruled_at (at + 4) 4 (number_rises before.last d name) in
    let count_field = ruled_at (at + 8) 4 (pages_fit before.pages count) in
    let a = none_parts (fault_in body domain_field)
    (first_in body (name_field ∷ count_field ∷ (pages ++ others))) h in
    let b = none_parts (fault_in body name_field) (first_in body (count_field ∷ (pages ++ others))) a.1 in
    let c = none_parts (fault_in body count_field) (first_in body (pages ++ others)) b.1 in
    let e = none_parts (first_in body pages) (first_in body others) (sym (first_in-append body pages others) ∙ c.1) in
    let first = file_holds body before at are a.0 b.0 c.0 e.0 in
    let rest = files_stand body n later next are first.few_pages e.1 in
    let size : length (pages_in body count (at + 12)) ≡ count = pages_in-length body count (at + 12) in
    record {
      text = rw flat_map-cons (Stands-then body at (file_bytes (file_in body at)) next
          (flat_map file_bytes (files_in body n next)) (files_end body n next) first.text rest.text);
      each = (first.is_file, rest.each);
      few_pages = rw sum_by-cons (omega (arith, size, rest.few_pages));
      rise = join_rise before.last (file_in body at) (files_in body n next) first.domain first.name rest.rise;
    }

pub files_in-length : (body : List ℕ) (n at : ℕ) → length (files_in body n at) ≡ n
unfolding files_in
files_in-length body zero at = refl
files_in-length body (suc n) at = ap suc (files_in-length body n (after_file body at))
