-- A file has no fault exactly if it spells a table.
use Rattle.std.proofs.Common.{◌≡◌, ◌∙◌, ℕ, ◌+◌, ◌-◌, ◌^◌, ◌<◌, ◌≤◌, cond, not, ltb, leb, eqb, List, ◌++◌, length, take, drop, codes, Some, None, sym, ap, subst, arith}
use Rattle.std.specs.Str.{bytes_eq}
use Rattle.std.specs.List.{flat_map}
use Rattle.std.proofs.lemmas.Bool.{ltb-false, leb-true, eqb-true, not-false}
use Rattle.std.proofs.lemmas.List.{take-append-drop, take-take, drop-take, drop_all, append-nil, length-take}
use Rattle.std.proofs.lemmas.List.Elements.{All-take, All-from_recursion}
use Rattle.std.proofs.lemmas.Slice.Eq.{bytes_eq-Decides}
use Rattle.cloak_model.specs.Bits.{word}
use Rattle.cloak_model.specs.Hmac.{hmac}
use Rattle.cloak_model.specs.declared.fault.StoreFault.TheVariants.{Short, BadMagic, Seal, Counter, Form}
use Rattle.cloak_model.specs.Fields.{fault_in, first_in, number}
use Rattle.cloak_model.specs.StoredFiles.{long, file_bytes, table_bytes, store_bytes, IsFile, IsTable, IsStore}
use Rattle.cloak_model.specs.StoreFault.{ruled_at, files_fields, files_end, none_before, form_fields, form_fault, long_at, body_of, code_of, store_fault, largest_store}
use Rattle.field_facts.proofs.Firsts.{none_parts, not_so, kept, field_holds}
use Rattle.field_facts.proofs.Stands.{AreBytes, piece_bytes, piece_length, Stands, Stands-then, piece_stands, number_stands, long_is, long_small}
use Rattle.sealed_store.specs.Reading.{files_in}
use Rattle.sealed_store.proofs.Spelled.{files_stand, files_in-length}

-- ---- a file without a fault

-- the tables of a body without a fault
record FormHolds (body : List ℕ) : Type 0 where
  text : Stands body 16 (word (number body 16) ++ flat_map file_bytes (files_in body (number body 16) 20)) (length body)
  is_table : IsTable (files_in body (number body 16) 20)

form_holds : (body : List ℕ) → AreBytes body → form_fault body ≡ None → FormHolds body
unfolding form_fault
form_holds body are h =
    let n = number body 16 in
    let end = files_end body n 20 in
    let a = none_parts (first_in body (form_fields body)) (cond (eqb end (length body)) None (Some (Form end))) h in
    let b = none_parts (fault_in body (ruled_at 16 4 (leb n 64))) (first_in body (files_fields body n none_before 20))
    a.0 in
    let count = field_holds (length body - 16) 4 (leb n 64) (Form 16) (Form 16) b.0 in
    let files = files_stand body n none_before 20 are (omega arith) b.1 in
    let last : end ≡ length body = eqb-true _ _ (kept (eqb end (length body)) (Form end) a.1) in
    let few : n ≤ 64 = leb-true _ _ count.right in
    let all = files_in body n 20 in
    record {
      text = subst (λ (k : ℕ). Stands body 16 (word n ++ flat_map file_bytes all) k) last
          (Stands-then body 16 (word n) 20 (flat_map file_bytes all) end (number_stands body 16 are count.whole)
          files.text);
      is_table = record {
        few = omega (arith, files_in-length body n 20, few);
        each = All-from_recursion IsFile all files.each;
        few_pages = omega (arith, files.few_pages);
        rise = files.rise;
      };
    }

-- bytes at the front of a front
front_piece : (n at k : ℕ) (file : List ℕ) → at + n ≤ k → take n (drop at (take k file)) ≡ take n (drop at file)
front_piece n at k file le =
    let m : ℕ = k - at in
    let whole : k ≡ at + m = omega arith in
    ap (λ (j : ℕ). take n (drop at (take j file))) whole ∙ ap (take n) (drop-take at m file)
    ∙ take-take n m (drop at file) (omega arith)

pub spells : (mac : List ℕ) (counter : ℕ) (file : List ℕ) → AreBytes file → store_fault mac counter file ≡ None →
    IsStore mac counter file (files_in (body_of file) (number (body_of file) 16) 20)
unfolding store_fault store_bytes table_bytes
spells mac counter file are h =
    let size = length file in
    let body = body_of file in
    let its_own = long_at file 8 in
    let sealed = bytes_eq (code_of file) (hmac mac body) in
    let magic = bytes_eq (take 8 file) (codes "CLOAKSTO") in
    let last = cond (not (eqb its_own counter)) (Some (Counter its_own)) (form_fault body) in
    let t0 = not_so (ltb largest_store size) (Form largest_store) (cond (ltb size 52) (Some (Short size))
    (cond (not magic) (Some BadMagic) (cond (not sealed) (Some Seal) last))) h in
    let t1 = not_so (ltb size 52) (Short size) (cond (not magic) (Some BadMagic) (cond (not sealed) (Some Seal) last))
    t0.1 in
    let t2 = not_so (not magic) BadMagic (cond (not sealed) (Some Seal) last) t1.1 in
    let t3 = not_so (not sealed) Seal last t2.1 in
    let t4 = not_so (not (eqb its_own counter)) (Counter its_own) (form_fault body) t3.1 in
    let long_enough : 52 ≤ size = ltb-false _ _ t1.0 in
    let body_size : length body ≡ size - 32 = omega (arith, length-take (size - 32) file) in
    let are_body : AreBytes body = All-take (λ b. b < 256) (size - 32) file are in
    let form = form_holds body are_body t4.1 in
    let magic_is : take 8 file ≡ codes "CLOAKSTO" =
    (bytes_eq-Decides (take 8 file) (codes "CLOAKSTO")).0 (not-false magic t2.0) in
    let code_is : code_of file ≡ hmac mac body =
    (bytes_eq-Decides (code_of file) (hmac mac body)).0 (not-false sealed t3.0) in
    let counter_is : its_own ≡ counter = eqb-true _ _ (not-false _ t4.0) in
    let x0 : Stands body 0 (codes "CLOAKSTO") 8 =
    subst (λ t. Stands body 0 t 8) (front_piece 8 0 (size - 32) file (omega arith) ∙ magic_is)
    (piece_stands body 0 8) in
    let eight = take 8 (drop 8 file) in
    let are_eight : AreBytes eight = piece_bytes 8 8 file are in
    let long_bytes : long counter ≡ eight =
    ap long (sym counter_is) ∙ long_is eight are_eight (piece_length 8 8 file (omega arith)) in
    let x1 : Stands body 8 (long counter) 16 =
    subst (λ t. Stands body 8 t 16) (front_piece 8 8 (size - 32) file (omega arith) ∙ sym long_bytes)
    (piece_stands body 8 8) in
    let files = files_in body (number body 16) 20 in
    let number_is : number body 16 ≡ length files = sym (files_in-length body (number body 16) 20) in
    let x2 : Stands body 16 (word (length files) ++ flat_map file_bytes files) (length body) =
    subst (λ (k : ℕ). Stands body 16 (word k ++ flat_map file_bytes files) (length body)) number_is form.text in
    let whole = Stands-then body 0 (codes "CLOAKSTO") 8
    (long counter ++ (word (length files) ++ flat_map file_bytes files)) (length body) x0
    (Stands-then body 8 (long counter) 16 (word (length files) ++ flat_map file_bytes files) (length body) x1 x2) in
    let text = table_bytes counter files in
    let body_is : body ≡ text =
    whole.parts ∙ ap (λ t. text ++ t) (drop_all (length body) body (omega arith)) ∙ append-nil text in
    record {
      spelled = ap (λ t. t ++ hmac mac t) (sym body_is) ∙ ap (λ t. body ++ t) (sym code_is)
          ∙ take-append-drop (size - 32) file;
      is_table = form.is_table;
      counter_fits = subst (λ (k : ℕ). k < 2 ^ 64) counter_is (long_small eight are_eight);
    }
