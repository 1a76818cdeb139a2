-- The text of an object, piece by piece.
use Rattle.std.proofs.Common.{◌≡◌, ◌<◌, ◌≤◌, ◌^◌, ◌/◌, ◌%◌, get_or, ℕ, List, [], ◌∷◌, ◌++◌, codes, decimal, true, Some, refl, sym, ap, ap₂, ◌∙◌, arith, take, drop, zero, suc, length, ◌+◌, append_assoc}
use Rattle.std.specs.List.{flat_map}
use Rattle.json.specs.Json as json
use Rattle.json.specs.Tree.{HasNumbers, ItemsHaveNumbers, MembersHaveNumbers}
use Rattle.json.specs.Print.{escape, quoted, escape_byte}
use Rattle.json.proofs.Printed.Trees.{document-print}
use Rattle.json.proofs.Printed.Decimals.{IsNumber-decimal}
use Rattle.hex.specs.Hex.{encode_lower, encode_with, lower_digits, IsBytes}
use Rattle.std.specs.List.{AllByRecursion}
use Rattle.std.proofs.lemmas.Grind.{flat_map-append}
use Rattle.std.proofs.lemmas.List.{append-nil, take_all, take_more}
use Rattle.json.specs.Tree.{depth, items_depth, members_depth}
use Rattle.json.specs.Json.{max_depth}
use Rattle.serde_json.specs.Data.{Data, array}
use Rattle.serde_json.specs.Written.{compact_text, items_text, members_text, outline, members_outline, items_outline}
use Rattle.serde_json.proofs.Texts.{print-outline}
use Rattle.record_json.specs.JsonLaw.{IsObjectLine}
use Rattle.record_json.specs.Members.{Member, begun, json_line, with_number, with_numbers, with_text, member_text, members_of, more_numbers, next_member, numbers, object_of}

regroup_member : (q v rest : List ℕ) → q ++ 58 ∷ (v ++ rest) ≡ (q ++ 58 ∷ v) ++ rest
regroup_member q v rest = sym (append_assoc q (58 ∷ v) rest)

-- members after the first, with the closing bracket
rest_text : (ms : List Member) → members_text true (members_of ms) ≡ flat_map next_member ms ++ codes "}"
rest_text [] = refl
rest_text (m ∷ ms) =
    ap (λ (r : List ℕ). 44 ∷ (quoted m.name ++ 58 ∷ (compact_text m.value ++ r))) (rest_text ms)
    ∙ ap (λ (r : List ℕ). 44 ∷ r) (regroup_member (quoted m.name) (compact_text m.value) (flat_map next_member ms ++ codes "}"))
    ∙ sym (append_assoc (next_member m) (flat_map next_member ms) (codes "}"))

-- a line begins with the first member and ends with the others
pub line_text : (m : Member) (ms : List Member) →
    json_line (m ∷ ms) ≡ (codes "{" ++ member_text m) ++ (flat_map next_member ms ++ codes "}\n")
line_text m ms =
    ap (λ (r : List ℕ). 123 ∷ ((quoted m.name ++ 58 ∷ (compact_text m.value ++ r)) ++ codes "\n")) (rest_text ms)
    ∙ ap (λ (r : List ℕ). 123 ∷ (r ++ codes "\n")) (regroup_member (quoted m.name) (compact_text m.value) (flat_map next_member ms ++ codes "}"))
    ∙ append_assoc (codes "{" ++ member_text m) (flat_map next_member ms ++ codes "}") (codes "\n")
    ∙ ap (λ (r : List ℕ). (codes "{" ++ member_text m) ++ r) (append_assoc (flat_map next_member ms) (codes "}") (codes "\n"))

-- numbers after the first, with the closing bracket
rest_numbers : (ns : List ℕ) → items_text true (numbers ns) ≡ more_numbers ns ++ codes "]"
rest_numbers [] = refl
rest_numbers (n ∷ ns) =
    ap (λ (r : List ℕ). 44 ∷ (decimal n ++ r)) (rest_numbers ns)
    ∙ sym (append_assoc (codes "," ++ decimal n) (more_numbers ns) (codes "]"))

pub numbers_text : (n : ℕ) (ns : List ℕ) →
    compact_text (array (numbers (n ∷ ns))) ≡ codes "[" ++ (decimal n ++ (more_numbers ns ++ codes "]"))
numbers_text n ns = ap (λ (r : List ℕ). 91 ∷ (decimal n ++ r)) (rest_numbers ns)

-- no digit is escaped
digits_plain : AllByRecursion (λ x. escape_byte x ≡ x ∷ []) lower_digits
unfolding escape_byte
digits_plain = (refl, (refl, (refl, (refl, (refl, (refl, (refl, (refl, (refl, (refl, (refl, (refl, (refl, (refl, (refl, (refl, tt))))))))))))))))

plain_at : (xs : List ℕ) → AllByRecursion (λ x. escape_byte x ≡ x ∷ []) xs → (k : ℕ) → k < length xs →
    escape_byte (get_or xs k 0) ≡ get_or xs k 0 ∷ []
plain_at [] h k low = absurd (omega (arith, low))
plain_at (x ∷ xs) h zero low = h.0
plain_at (x ∷ xs) h (suc k) low = plain_at xs h.1 k (omega (arith, low))

digit_plain : (k : ℕ) → k < 16 → escape_byte (get_or lower_digits k 0) ≡ get_or lower_digits k 0 ∷ []
digit_plain k low = plain_at lower_digits digits_plain k low

-- hexadecimal digits are not escaped
pub escape_lower : (bytes : List ℕ) → IsBytes bytes → escape (encode_lower bytes) ≡ encode_lower bytes
unfolding encode_with
escape_lower [] h = refl
escape_lower (b ∷ bytes) h =
    let low : b < 256 = h 0 in
    let high : b / 16 < 16 = omega (arith, low) in
    let rest : b % 16 < 16 = omega arith in
    let first = digit_plain (b / 16) high in
    let second = digit_plain (b % 16) rest in
    let others = escape_lower bytes (λ i. h (suc i)) in
    ap₂ (λ (x y : List ℕ). x ++ (y ++ escape (encode_lower bytes))) first second
    ∙ ap (λ (r : List ℕ). get_or lower_digits (b / 16) 0 ∷ get_or lower_digits (b % 16) 0 ∷ r) others

-- numbers of 64 bits, and no deep nesting
abbrev pub FitsMember : Member → Type 0
FitsMember m = HasNumbers (outline m.value) × (depth (outline m.value) ≤ 1)

members_fit : (ms : List Member) → AllByRecursion FitsMember ms →
    MembersHaveNumbers (members_outline (members_of ms)) × (members_depth (members_outline (members_of ms)) ≤ 1)
members_fit [] h = (tt, omega arith)
members_fit (m ∷ ms) h =
    let rest = members_fit ms h.1 in
    ((h.0.0, rest.0), omega (arith, h.0.1, rest.1))

-- the reader reads the object in its text
pub reads_object : (d : Data) → HasNumbers (outline d) → depth (outline d) ≤ max_depth → json.document (compact_text d) ≡ Some (outline d)
reads_object d h shallow = ap json.document (sym (print-outline d)) ∙ document-print (outline d) h shallow

-- so of a line
pub reads_line : (ms : List Member) → AllByRecursion FitsMember ms → IsObjectLine (json_line ms) ms
reads_line ms h =
    let fits = members_fit ms h in
    record {
      text = compact_text (object_of ms);
      line = refl;
      reads = reads_object (object_of ms) fits.0 (let few = fits.1 in omega (arith, few));
    }

pub fits_number : (name : List ℕ) (n : ℕ) → n < 2 ^ 64 → FitsMember (with_number name n)
fits_number name n low = (IsNumber-decimal n low, omega arith)

pub fits_text : (name text : List ℕ) → FitsMember (with_text name text)
fits_text name text = (tt, omega arith)

-- members after one another
pub fits-append : (ms ns : List Member) → AllByRecursion FitsMember ms → AllByRecursion FitsMember ns →
    AllByRecursion FitsMember (ms ++ ns)
fits-append [] ns first more = more
fits-append (m ∷ ms) ns first more = (first.0, fits-append ms ns first.1 more)

numbers_fit : (ns : List ℕ) → AllByRecursion (λ n. n < 2 ^ 64) ns →
    ItemsHaveNumbers (items_outline (numbers ns)) × (items_depth (items_outline (numbers ns)) ≤ 0)
numbers_fit [] h = (tt, omega arith)
numbers_fit (n ∷ ns) h =
    let rest = numbers_fit ns h.1 in
    ((IsNumber-decimal n h.0, rest.0), omega (arith, rest.1))

pub fits_numbers : (name ns : List ℕ) → AllByRecursion (λ n. n < 2 ^ 64) ns → FitsMember (with_numbers name ns)
fits_numbers name ns h =
    let fits = numbers_fit ns h in
    (fits.0, let few = fits.1 in omega (arith, few))

-- a line in two parts, of which the first is not empty
pub line_parts : (m : Member) (ms ns : List Member) →
    begun m ms ++ (flat_map next_member ns ++ codes "}\n") ≡ json_line (m ∷ (ms ++ ns))
line_parts m ms ns =
    append_assoc (codes "{" ++ member_text m) (flat_map next_member ms) (flat_map next_member ns ++ codes "}\n")
    ∙ ap (λ (r : List ℕ). (codes "{" ++ member_text m) ++ r)
    (sym (append_assoc (flat_map next_member ms) (flat_map next_member ns) (codes "}\n"))
    ∙ ap (λ (r : List ℕ). r ++ codes "}\n") (sym (flat_map-append next_member ms ns)))
    ∙ sym (line_text m (ms ++ ns))

-- one number more
more_numbers-last : (ns : List ℕ) (n : ℕ) → more_numbers (ns ++ n ∷ []) ≡ more_numbers ns ++ (codes "," ++ decimal n)
more_numbers-last [] n = append-nil (codes "," ++ decimal n)
more_numbers-last (m ∷ ns) n =
    ap (λ (l : List ℕ). (codes "," ++ decimal m) ++ l) (more_numbers-last ns n)
    ∙ sym (append_assoc (codes "," ++ decimal m) (more_numbers ns) (codes "," ++ decimal n))

pub more_numbers-take_more : (ns : List ℕ) (i d : ℕ) → i < length ns →
    more_numbers (take i ns) ++ (codes "," ++ decimal (get_or ns i d)) ≡ more_numbers (take (i + 1) ns)
more_numbers-take_more ns i d low =
    sym (ap more_numbers (take_more ns i d low) ∙ more_numbers-last (take i ns) (get_or ns i d))

-- six numbers in brackets
pub six_text : (ns : List ℕ) → length ns ≡ 6 →
    codes "[" ++ (decimal (get_or ns 0 0) ++ (more_numbers (take 5 (drop 1 ns)) ++ codes "]"))
    ≡ compact_text (array (numbers ns))
six_text [] six = absurd (omega (arith, six))
six_text (n ∷ ns) six =
    let whole : take 5 ns ≡ ns = take_all 5 ns (omega (arith, six)) in
    ap (λ (r : List ℕ). codes "[" ++ (decimal n ++ (more_numbers r ++ codes "]"))) whole ∙ sym (numbers_text n ns)
