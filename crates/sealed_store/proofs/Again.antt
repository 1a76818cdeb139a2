-- What a table spells has no fault.
use Rattle.std.proofs.Common.{◌≡◌, ◌∙◌, ℕ, ◌+◌, ◌-◌, ◌*◌, ◌^◌, ◌<◌, ◌≤◌, Bool, true, false, cond, not, ltb, leb, eqb, ◌&&◌, List, [], ◌∷◌, ◌++◌, length, get_or, take, drop, codes, sum_by, Option, Some, None, refl, sym, ap, subst, arith, inl, inr, add-zero}
use Rattle.std.specs.Int.{w32, w64, from_le_bytes}
use Rattle.std.specs.Str.{bytes_eq}
use Rattle.std.specs.List.{flat_map, AllByRecursion}
use Rattle.std.proofs.lemmas.Bool.{lt-ltb, le-ltb, le-leb, eq-eqb, and_from, or_left, or_right, not_from_true}
use Rattle.std.proofs.lemmas.List.{take_at, drop_at, get_or-drop, length-drop, length-append, append_assoc, append-nil}
use Rattle.std.proofs.lemmas.List.Concat.{flat_map-cons}
use Rattle.std.proofs.lemmas.List.Sums.{sum_by-cons}
use Rattle.std.proofs.lemmas.List.Elements.{recursion_from_All}
use Rattle.std.proofs.lemmas.Nat.{from_le_bytes-to_le_bytes_4, from_le_bytes-to_le_bytes_8}
use Rattle.std.proofs.lemmas.Slice.Eq.{bytes_eq-Decides}
use Rattle.sha2.proofs.Facts256.{length-sha256}
use Rattle.sha2.specs.Sha256.{sha256}
use Rattle.cloak_base.specs.declared.names.Meta.{Meta}
use Rattle.cloak_model.specs.Bits.{word}
use Rattle.cloak_model.specs.Hmac.{hmac, padded}
use Rattle.cloak_model.specs.declared.fault.StoreFault.{StoreFault}
use Rattle.cloak_model.specs.declared.fault.StoreFault.TheVariants.{Short, BadMagic, Seal, Counter, Form}
use Rattle.cloak_model.specs.Fields.{first_of, fault_in, first_in, number, parts, after_parts}
use Rattle.cloak_model.specs.StoredFiles.{StoredFile, long, page_bytes, file_bytes, table_bytes, store_bytes, IsMetaIfKnown, IsFile, IsTable, IsStore, Rise, page_count}
use Rattle.cloak_model.specs.StoreFault.{StoreField, FilesBefore, ruled_at, any_at, page_fields, after_page, domain_rises, number_rises, pages_fit, files_fields, files_end, none_before, form_fields, form_fault, long_at, body_of, code_of, store_fault, largest_store}
use Rattle.field_facts.proofs.Firsts.{first_in-append, holds, whole_is, two}
use Rattle.field_facts.proofs.Stands.{behind}
use Rattle.field_facts.proofs.Again.{is_left, number_again, byte_again}
use Rattle.sealed_store.specs.Reading.{after_file}
use Rattle.sealed_store.proofs.Spelled.{RiseAfter}

-- ---- fields that are whole and keep their rules

-- ---- pages

-- fields without a fault, and where they end
record Reads (body : List ℕ) (fields : List StoreField) (end to : ℕ) : Type 0 where
  none : first_in body fields ≡ None
  ends : end ≡ to

abbrev fields_by : ℕ → ℕ → List StoreField
fields_by b at =
    ruled_at at 1 (ltb b 2) ∷ cond (eqb b 1) (any_at (at + 1) 16 ∷ any_at (at + 17) 32 ∷ []) []

page_again : (body : List ℕ) (at : ℕ) (p : Option Meta) (rest : List ℕ) → IsMetaIfKnown p →
    drop at body ≡ page_bytes p ++ rest →
    Reads body (page_fields body at) (after_page body at) (at + length (page_bytes p))
page_again body at None rest is e =
    let b : get_or body at 0 ≡ 0 = byte_again body at 0 rest e in
    let left = is_left body at (0 ∷ []) rest 1 e refl in
    let fields : first_in body (fields_by 0 at) ≡ None =
    two (fault_in body (ruled_at at 1 true)) None (holds _ true (Form at) (Form at) left refl) refl in
    record {
      none = ap (λ (k : ℕ). first_in body (fields_by k at)) b ∙ fields;
      ends = ap (λ (k : ℕ). at + cond (eqb k 1) 49 1) b;
    }
page_again body at (Some m) rest is e =
    let b : get_or body at 0 ≡ 1 = byte_again body at 1 ((m.iv ++ m.digest) ++ rest) e in
    let left = is_left body at (1 ∷ []) ((m.iv ++ m.digest) ++ rest) 1 e refl in
    let e1 : drop (at + 1) body ≡ m.iv ++ (m.digest ++ rest) =
    behind body at (1 ∷ []) ((m.iv ++ m.digest) ++ rest) e ∙ append_assoc m.iv m.digest rest in
    let e17 : drop (at + 17) body ≡ m.digest ++ rest =
    subst (λ (k : ℕ). drop k body ≡ m.digest ++ rest) (omega (arith, is.iv.long))
    (behind body (at + 1) m.iv (m.digest ++ rest) e1) in
    let iv = is_left body (at + 1) m.iv (m.digest ++ rest) 16 e1 is.iv.long in
    let digest = is_left body (at + 17) m.digest rest 32 e17 is.digest.long in
    let fields : first_in body (fields_by 1 at) ≡ None =
    two (fault_in body (ruled_at at 1 true)) (first_in body (any_at (at + 1) 16 ∷ any_at (at + 17) 32 ∷ []))
    (holds _ true (Form at) (Form at) left refl)
    (two (fault_in body (any_at (at + 1) 16)) (first_in body (any_at (at + 17) 32 ∷ []))
    (whole_is _ (Form (at + 1)) iv)
    (two (fault_in body (any_at (at + 17) 32)) None (whole_is _ (Form (at + 17)) digest) refl)) in
    record {
      none = ap (λ (k : ℕ). first_in body (fields_by k at)) b ∙ fields;
      ends = ap (λ (k : ℕ). at + cond (eqb k 1) 49 1) b
          ∙ omega (arith, is.iv.long, is.digest.long, length-append m.iv m.digest);
    }

pages_again : (body : List ℕ) (ps : List (Option Meta)) (at : ℕ) (rest : List ℕ) → AllByRecursion IsMetaIfKnown ps →
    drop at body ≡ flat_map page_bytes ps ++ rest →
    Reads body (parts (page_fields body) (after_page body) (length ps) at)
    (after_parts (after_page body) (length ps) at)
    (at + length (flat_map page_bytes ps))
unfolding parts after_parts
pages_again body [] at rest are e = record { none = refl; ends = sym (add-zero at) }
pages_again body (p ∷ ps) at rest are e =
    let after = flat_map page_bytes ps in
    let apart : drop at body ≡ page_bytes p ++ (after ++ rest) =
    e ∙ ap (λ t. t ++ rest) (flat_map-cons page_bytes p ps) ∙ append_assoc (page_bytes p) after rest in
    let first = page_again body at p (after ++ rest) are.0 apart in
    let next = after_page body at in
    let there : drop next body ≡ after ++ rest =
    ap (λ (k : ℕ). drop k body) first.ends ∙ behind body at (page_bytes p) (after ++ rest) apart in
    let others = pages_again body ps next rest are.1 there in
    record {
      none = first_in-append body (page_fields body at) (parts (page_fields body) (after_page body) (length ps) next)
          ∙ two _ _ first.none others.none;
      ends = others.ends ∙ (let size = ap length (flat_map-cons page_bytes p ps) in
          omega (arith, first.ends, size, length-append (page_bytes p) after));
    }

-- ---- files

domain_right : (last : Option (ℕ × ℕ)) (f : StoredFile) (files : List StoredFile) → f.domain < 4 →
    RiseAfter last (f ∷ files) → domain_rises last f.domain ≡ true
domain_right None f files small rise = lt-ltb f.domain 4 small
domain_right (Some last) f files small rise =
    and_from (ltb f.domain 4) (leb last.0 f.domain) (lt-ltb f.domain 4 small) (elim rise.0 [
      | inl below ↦ le-leb _ _ (omega arith)
      | inr same ↦ le-leb _ _ (omega (arith, same.0))
    ])

name_right : (last : Option (ℕ × ℕ)) (f : StoredFile) (files : List StoredFile) → RiseAfter last (f ∷ files) →
    number_rises last f.domain f.number ≡ true
name_right None f files rise = refl
name_right (Some last) f files rise = elim rise.0 [
  | inl below ↦ or_left (ltb last.0 f.domain) (ltb last.1 f.number) (lt-ltb _ _ below)
  | inr same ↦ or_right (ltb last.0 f.domain) (ltb last.1 f.number) (lt-ltb _ _ same.1)
]

unfront : (f : StoredFile) (files : List StoredFile) → Rise (f ∷ files) → RiseAfter (Some (f.domain, f.number)) files
unfront f [] rise = tt
unfront f (g ∷ files) rise = rise

rise_on : (last : Option (ℕ × ℕ)) (f : StoredFile) (files : List StoredFile) → RiseAfter last (f ∷ files) →
    RiseAfter (Some (f.domain, f.number)) files
rise_on None f files rise = unfront f files rise
rise_on (Some last) f files rise = unfront f files rise.1

files_again : (body : List ℕ) (files : List StoredFile) (before : FilesBefore) (at : ℕ) (rest : List ℕ) →
    AllByRecursion IsFile files → before.pages + sum_by page_count files ≤ 4096 → RiseAfter before.last files →
    drop at body ≡ flat_map file_bytes files ++ rest →
    Reads body (files_fields body (length files) before at) (files_end body (length files) at)
    (at + length (flat_map file_bytes files))
unfolding files_fields files_end
files_again body [] before at rest are few rise e = record { none = refl; ends = sym (add-zero at) }
files_again body (f ∷ files) before at rest are few rise e =
    let after = flat_map file_bytes files in
    let k : ℕ = length f.pages in
    let all = flat_map page_bytes f.pages in
    let apart : drop at body ≡ file_bytes f ++ (after ++ rest) =
    e ∙ ap (λ t. t ++ rest) (flat_map-cons file_bytes f files) ∙ append_assoc (file_bytes f) after rest in
    let r12 = all ++ (after ++ rest) in
    let r8 = word k ++ r12 in
    let r4 = word f.number ++ r8 in
    let e0 : drop at body ≡ word f.domain ++ r4 = apart in
    let e4 : drop (at + 4) body ≡ r4 = behind body at (word f.domain) r4 e0 in
    let e8 : drop (at + 8) body ≡ r8 = behind body at (word f.domain ++ word f.number) r8 e0 in
    let e12 : drop (at + 12) body ≡ r12 = behind body at (word f.domain ++ (word f.number ++ word k)) r12 e0 in
    let is = are.0 in
    let d_is : number body at ≡ f.domain = number_again body at f.domain r4 (omega (arith, is.domain)) e0 in
    let n_is : number body (at + 4) ≡ f.number = number_again body (at + 4) f.number r8 is.number e4 in
    let k_is : number body (at + 8) ≡ k = number_again body (at + 8) k r12 (omega (arith, is.few_pages)) e8 in
    let sum : before.pages + k + sum_by page_count files ≤ 4096 =
    omega (arith, few, sum_by-cons page_count f files) in
    let fits : pages_fit before.pages k ≡ true =
    and_from (leb 1 k) (leb k 1024 && leb (before.pages + k) 4096) (le-leb 1 k is.some_pages)
    (and_from (leb k 1024) (leb (before.pages + k) 4096) (le-leb k 1024 is.few_pages)
    (le-leb (before.pages + k) 4096 (omega (arith, sum)))) in
    let a : fault_in body (ruled_at at 4 (domain_rises before.last (number body at))) ≡ None =
    holds _ _ (Form at) (Form at) (is_left body at (word f.domain) r4 4 e0 refl)
    (ap (domain_rises before.last) d_is ∙ domain_right before.last f files is.domain rise) in
    let name = number_rises before.last (number body at) (number body (at + 4)) in
    let b : fault_in body (ruled_at (at + 4) 4 name) ≡ None =
    holds _ _ (Form (at + 4)) (Form (at + 4)) (is_left body (at + 4) (word f.number) r8 4 e4 refl)
    (ap (λ (d : ℕ). number_rises before.last d (number body (at + 4))) d_is
    ∙ ap (number_rises before.last f.domain) n_is ∙ name_right before.last f files rise) in
    let c : fault_in body (ruled_at (at + 8) 4 (pages_fit before.pages (number body (at + 8)))) ≡ None =
    holds _ _ (Form (at + 8)) (Form (at + 8)) (is_left body (at + 8) (word k) r12 4 e8 refl)
    (ap (pages_fit before.pages) k_is ∙ fits) in
    let pages = pages_again body f.pages (at + 12) (after ++ rest) (recursion_from_All IsMetaIfKnown f.pages is.pages)
    e12 in
    let page_parts = parts (page_fields body) (after_page body) (number body (at + 8)) (at + 12) in
    let pages_none : first_in body page_parts ≡ None =
    ap (λ (n : ℕ). first_in body (parts (page_fields body) (after_page body) n (at + 12))) k_is ∙ pages.none in
    let next : after_file body at ≡ at + length (file_bytes f) =
    ap (λ (n : ℕ). after_parts (after_page body) n (at + 12)) k_is ∙ pages.ends ∙ omega arith in
    let there : drop (after_file body at) body ≡ after ++ rest =
    ap (λ (n : ℕ). drop n body) next ∙ behind body at (file_bytes f) (after ++ rest) apart in
    let made : ℕ → ℕ → ℕ → FilesBefore =
    λ d n m. record { last = Some (d, n); pages = before.pages + m } in
    let others = files_again body files (made f.domain f.number k) (after_file body at) rest are.1 sum
    (rise_on before.last f files rise) there in
    let from = after_file body at in
    let later : made (number body at) (number body (at + 4)) (number body (at + 8)) ≡ made f.domain f.number k =
    ap (λ (d : ℕ). made d (number body (at + 4)) (number body (at + 8))) d_is
    ∙ ap (λ (n : ℕ). made f.domain n (number body (at + 8))) n_is ∙ ap (made f.domain f.number) k_is in
    let others_none : first_in body (files_fields body (length files)
    (made (number body at) (number body (at + 4)) (number body (at + 8))) from) ≡ None =
    ap (λ (x : FilesBefore). first_in body (files_fields body (length files) x from)) later ∙ others.none in
    record {
      none = two _ _ a (two _ _ b (two _ _ c
          (first_in-append body page_parts
          (files_fields body (length files) (made (number body at) (number body (at + 4)) (number body (at + 8))) from)
          ∙ two _ _ pages_none others_none)));
      ends = others.ends ∙ (let size = ap length (flat_map-cons file_bytes f files) in
          omega (arith, next, size, length-append (file_bytes f) after));
    }

-- ---- lengths

pages_short : (ps : List (Option Meta)) → AllByRecursion IsMetaIfKnown ps →
    length (flat_map page_bytes ps) ≤ 49 * length ps
pages_short [] are = omega arith
pages_short (None ∷ ps) are =
    let size = ap length (flat_map-cons page_bytes None ps) in
    let others = pages_short ps are.1 in
    omega arith
pages_short (Some m ∷ ps) are =
    let size = ap length (flat_map-cons page_bytes (Some m) ps) in
    let others = pages_short ps are.1 in
    omega (
      arith,
      are.0.iv.long,
      are.0.digest.long,
      length-append m.iv m.digest,
      length-append (1 ∷ (m.iv ++ m.digest)) (flat_map page_bytes ps),
    )

files_short : (files : List StoredFile) → AllByRecursion IsFile files →
    length (flat_map file_bytes files) ≤ 12 * length files + 49 * sum_by page_count files
files_short [] are = omega arith
files_short (f ∷ files) are =
    let size = ap length (flat_map-cons file_bytes f files) in
    let others = files_short files are.1 in
    let pages = pages_short f.pages (recursion_from_All IsMetaIfKnown f.pages are.0.pages) in
    omega (arith, sum_by-cons page_count f files, length-append (file_bytes f) (flat_map file_bytes files))

-- ---- a whole file

form_again : (counter : ℕ) (files : List StoredFile) → IsTable files → form_fault (table_bytes counter files) ≡ None
unfolding form_fault table_bytes
form_again counter files is =
    let body = table_bytes counter files in
    let n : ℕ = length files in
    let all = flat_map file_bytes files in
    let e16 : drop 16 body ≡ word n ++ all = behind body 0 (codes "CLOAKSTO" ++ long counter) (word n ++ all) refl in
    let e20 : drop 20 body ≡ all ++ [] = behind body 16 (word n) all e16 ∙ sym (append-nil all) in
    let n_is : number body 16 ≡ n = number_again body 16 n all (omega (arith, is.few)) e16 in
    let count : fault_in body (ruled_at 16 4 (leb (number body 16) 64)) ≡ None =
    holds _ _ (Form 16) (Form 16) (is_left body 16 (word n) all 4 e16 refl)
    (ap (λ (k : ℕ). leb k 64) n_is ∙ le-leb n 64 is.few) in
    let sum : none_before.pages + sum_by page_count files ≤ 4096 = omega (arith, is.few_pages) in
    let read = files_again body files none_before 20 [] (recursion_from_All IsFile files is.each) sum is.rise e20 in
    let fields : first_in body (files_fields body (number body 16) none_before 20) ≡ None =
    ap (λ (k : ℕ). first_in body (files_fields body k none_before 20)) n_is ∙ read.none in
    let end : files_end body (number body 16) 20 ≡ length body =
    ap (λ (k : ℕ). files_end body k 20) n_is ∙ read.ends ∙ omega arith in
    let none : first_in body (form_fields body) ≡ None = two _ _ count fields in
    two _ _ none (holds false _ (Form 0) (Form (files_end body (number body 16) 20)) refl (eq-eqb _ _ end))

passes : (b : Bool) (e : StoreFault) (o : Option StoreFault) → b ≡ false → cond b (Some e) o ≡ o
passes true e o h = absurd cc
passes false e o h = refl

code_length : (mac text : List ℕ) → length (hmac mac text) ≡ 32
unfolding hmac
code_length mac text = length-sha256 (padded 0x5c mac ++ sha256 (padded 0x36 mac ++ text))

again : (mac : List ℕ) (counter : ℕ) (files : List StoredFile) → IsTable files → counter < 2 ^ 64 →
    store_fault mac counter (store_bytes mac counter files) ≡ None
unfolding store_fault store_bytes table_bytes
again mac counter files is fits =
    let body = table_bytes counter files in
    let code = hmac mac body in
    let file = body ++ code in
    let size : ℕ = length file in
    let n : ℕ = length files in
    let all = flat_map file_bytes files in
    let body_size : length body ≡ 20 + length all = omega arith in
    let sizes : size ≡ length body + 32 = omega (arith, length-append body code, code_length mac body) in
    let short = files_short files (recursion_from_All IsFile files is.each) in
    let body_is : body_of file ≡ body = take_at body code (size - 32) (omega arith) in
    let code_is : code_of file ≡ code = drop_at body code (size - 32) (omega arith) in
    let text : drop 0 file ≡ codes "CLOAKSTO" ++ (long counter ++ ((word n ++ all) ++ code)) = refl in
    let magic_is : take 8 file ≡ codes "CLOAKSTO" =
    take_at (codes "CLOAKSTO") (long counter ++ ((word n ++ all) ++ code)) 8 refl in
    let e8 : drop 8 file ≡ long counter ++ ((word n ++ all) ++ code) =
    behind file 0 (codes "CLOAKSTO") (long counter ++ ((word n ++ all) ++ code)) text in
    let counter_is : long_at file 8 ≡ counter =
    ap (λ t. from_le_bytes w64 (take 8 t)) e8
    ∙ ap (from_le_bytes w64) (take_at (long counter) ((word n ++ all) ++ code) 8 refl)
    ∙ from_le_bytes-to_le_bytes_8 counter fits in
    let t0 : ltb largest_store size ≡ false =
    le-ltb largest_store size (omega (arith, sizes, body_size, short, is.few, is.few_pages)) in
    let t1 : ltb size 52 ≡ false = le-ltb size 52 (omega (arith, sizes, body_size)) in
    let t2 : not (bytes_eq (take 8 file) (codes "CLOAKSTO")) ≡ false =
    not_from_true _ ((bytes_eq-Decides (take 8 file) (codes "CLOAKSTO")).1 magic_is) in
    let t3 : not (bytes_eq (code_of file) (hmac mac (body_of file))) ≡ false =
    not_from_true _ ((bytes_eq-Decides (code_of file) (hmac mac (body_of file))).1
    (code_is ∙ ap (hmac mac) (sym body_is))) in
    let t4 : not (eqb (long_at file 8) counter) ≡ false = not_from_true _ (eq-eqb _ _ counter_is) in
    passes _ (Form largest_store) _ t0 ∙ passes _ (Short size) _ t1 ∙ passes _ BadMagic _ t2 ∙ passes _ Seal _ t3
    ∙ passes _ (Counter (long_at file 8)) _ t4 ∙ ap form_fault body_is ∙ form_again counter files is

pub no_fault : (mac : List ℕ) (counter : ℕ) (file : List ℕ) (files : List StoredFile) → IsStore mac counter file files →
    store_fault mac counter file ≡ None
no_fault mac counter file files is =
    subst (λ t. store_fault mac counter t ≡ None) is.spelled (again mac counter files is.is_table is.counter_fits)
