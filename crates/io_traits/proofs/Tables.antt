-- What a table of files has at a name, before and after it is written.
use Rattle.std.proofs.Common.{◌≡◌, ◌≢◌, rules, ℕ, Bool, true, false, cond, List, [], ◌∷◌, map, refl, sym, ◌∙◌, ap}
use Rattle.std.proofs.Common.{Option, None, Some, option_map, unwrap_or, is_some, String, string_bytes, Vec}
use Rattle.std.specs.Ordering.{nat_cmp, is_eq, eq_by_cmp}
use Rattle.std.specs.Cmp.{eq_by_cmp_equiv}
use Rattle.std.specs.Cmp.Lexicographic.{slice_cmp, nat_list_cmp_total}
use Rattle.std.specs.FinMap.{get, insert, find, get-insert, get-from_entries, same_map, slice_cmp-IsAntisymmetric}
use Rattle.std.specs.FinMap.{nat_cmp-IsAntisymmetric}
use Rattle.std.specs.BTreeMap.{BTreeMap, get_by_text, is_at}
use Rattle.std.specs.Map.{lookup, update}
use Rattle.std.specs.Str.{bytes_eq}
use Rattle.std.proofs.lemmas.Map.Text.{is_eq-slice_cmp}
use Rattle.std.proofs.lemmas.Slice.Eq.{bytes_eq-Decides}
use Rattle.io_traits.specs.Memory.{Files, bytes_of, IsThere}
use Rattle.io_traits.specs.Table.{files_of}

find-map : {A : Type 0} (q : List ℕ) (es : List (String A × Vec ℕ A)) →
    find (slice_cmp nat_cmp) q (map (λ e. (string_bytes e.0, e.1.items)) es)
    ≡ option_map (λ v. v.items) (lookup (is_at (λ k. slice_cmp nat_cmp q (string_bytes k))) es)
find-map q [] = refl
find-map q (e ∷ es) =
    elim (is_eq (slice_cmp nat_cmp q (string_bytes e.0)))
    as (λ b. cond b (Some e.1.items) (find (slice_cmp nat_cmp) q (map (λ e. (string_bytes e.0, e.1.items)) es))
    ≡ option_map (λ v. v.items) (cond b (Some e.1) (lookup (is_at (λ k. slice_cmp nat_cmp q (string_bytes k))) es)))
    [ true ↦ refl | false ↦ find-map q es ]

-- the bytes at a name are those of its entry
pub get-files_of : {A : Type 0} (m : BTreeMap (String A) (Vec ℕ A)) (q : List ℕ) →
    get (files_of m) q ≡ option_map (λ v. v.items) (get_by_text m q)
get-files_of m q = get-from_entries nat_list_cmp_total _ q ∙ find-map q m.entries

tied_bytes : (q name : List ℕ) → eq_by_cmp (slice_cmp nat_cmp) q name ≡ bytes_eq name q
tied_bytes q name = (eq_by_cmp_equiv nat_list_cmp_total).symm q name ∙ is_eq-slice_cmp name q

option_map-cond : {X Y : Type 0} (f : X → Y) (b : Bool) (x : X) (o : Option X) →
    option_map f (cond b (Some x) o) ≡ cond b (Some (f x)) (option_map f o)
option_map-cond f true x o = refl
option_map-cond f false x o = refl

-- a table whose entry at a name is set has these bytes there, and the others stay
pub files_of-set : {A : Type 0} (name : List ℕ) (m n : BTreeMap (String A) (Vec ℕ A)) (v : Vec ℕ A) →
    ((q : List ℕ) → get_by_text n q ≡ update bytes_eq (get_by_text m) name (Some v) q) →
    files_of n ≡ insert (files_of m) name v.items
files_of-set name m n v sets = same_map nat_list_cmp_total (slice_cmp-IsAntisymmetric nat_cmp-IsAntisymmetric) _ _ (λ q.
    get-files_of n q ∙ ap (λ (o : Option (Vec ℕ _)). option_map (λ v. v.items) o) (sets q)
    ∙ option_map-cond (λ (v : Vec ℕ _). v.items) (bytes_eq name q) v (get_by_text m q)
    ∙ sym (get-insert nat_list_cmp_total (files_of m) name v.items q
    ∙ ap (λ (b : Bool). cond b (Some v.items) (get (files_of m) q)) (tied_bytes q name)
    ∙ ap (λ (o : Option (List ℕ)). cond (bytes_eq name q) (Some v.items) o) (get-files_of m q)))

cond_same : {X : Type 0} (b : Bool) (x y : X) → (b ≡ true → x ≡ y) → cond b x y ≡ y
cond_same true x y same = same refl
cond_same false x y same = refl

itself : (name : List ℕ) → eq_by_cmp (slice_cmp nat_cmp) name name ≡ true
itself name = (eq_by_cmp_equiv nat_list_cmp_total).refl name

same_name : (q name : List ℕ) → eq_by_cmp (slice_cmp nat_cmp) q name ≡ true → q ≡ name
same_name q name tied =
    let equal : bytes_eq q name ≡ true = sym (is_eq-slice_cmp q name) ∙ tied in
    search (rules, bytes_eq-Decides)

-- to set what stands there changes nothing
pub insert-same : (files : Files) (name bytes : List ℕ) → get files name ≡ Some bytes → insert files name bytes ≡ files
insert-same files name bytes there =
    same_map nat_list_cmp_total (slice_cmp-IsAntisymmetric nat_cmp-IsAntisymmetric) _ _ (λ q.
    get-insert nat_list_cmp_total files name bytes q
    ∙ cond_same (eq_by_cmp (slice_cmp nat_cmp) q name) (Some bytes) (get files q)
    (λ tied. sym there ∙ ap (get files) (sym (same_name q name tied))))

-- the bytes that are set are there
pub bytes_of-insert : (files : Files) (name bytes : List ℕ) → bytes_of (insert files name bytes) name ≡ bytes
bytes_of-insert files name bytes =
    ap (λ (o : Option (List ℕ)). unwrap_or o [])
    (get-insert nat_list_cmp_total files name bytes name
    ∙ ap (λ (b : Bool). cond b (Some bytes) (get files name)) (itself name))

-- the bytes of another name stay
pub bytes_of-insert_other : (files : Files) (name bytes other : List ℕ) → other ≢ name →
    bytes_of (insert files name bytes) other ≡ bytes_of files other
bytes_of-insert_other files name bytes other apart =
    ap (λ (o : Option (List ℕ)). unwrap_or o []) (get-insert nat_list_cmp_total files name bytes other
    ∙ cond_same (eq_by_cmp (slice_cmp nat_cmp) other name) (Some bytes) (get files other)
    (λ tied. absurd (apart (same_name other name tied))))

-- without an entry there is no file
pub IsThere-none : {A : Type 0} (m : BTreeMap (String A) (Vec ℕ A)) (name : List ℕ) → None ≡ get_by_text m name →
    IsThere (files_of m) name → ⊥
IsThere-none m name none there =
    let e : get (files_of m) name ≡ None =
    get-files_of m name ∙ ap (λ (o : Option (Vec ℕ _)). option_map (λ v. v.items) o) (sym none) in
    let no : is_some (get (files_of m) name) ≡ false = ap (λ (o : Option (List ℕ)). is_some o) e in
    cc

-- the bytes of an entry, and none if there is no entry
pub bytes_of-some : {A : Type 0} (m : BTreeMap (String A) (Vec ℕ A)) (name : List ℕ) (v : Vec ℕ A) →
    Some v ≡ get_by_text m name → bytes_of (files_of m) name ≡ v.items
bytes_of-some m name v there =
    ap (λ (o : Option (List ℕ)). unwrap_or o [])
    (get-files_of m name ∙ ap (λ (o : Option (Vec ℕ _)). option_map (λ v. v.items) o) (sym there))

pub bytes_of-none : {A : Type 0} (m : BTreeMap (String A) (Vec ℕ A)) (name : List ℕ) → None ≡ get_by_text m name →
    bytes_of (files_of m) name ≡ []
bytes_of-none m name there =
    ap (λ (o : Option (List ℕ)). unwrap_or o [])
    (get-files_of m name ∙ ap (λ (o : Option (Vec ℕ _)). option_map (λ v. v.items) o) (sym there))

-- an entry that is set to the bytes that it has changes nothing
pub files_of-same : {A : Type 0} (name : List ℕ) (m n : BTreeMap (String A) (Vec ℕ A)) (old new : Vec ℕ A) →
    ((q : List ℕ) → get_by_text n q ≡ update bytes_eq (get_by_text m) name (Some new) q) →
    Some old ≡ get_by_text m name → new.items ≡ old.items →
    files_of n ≡ files_of m
files_of-same name m n old new sets there same =
    files_of-set name m n new sets ∙ ap (insert (files_of m) name) same
    ∙ insert-same (files_of m) name old.items
    (get-files_of m name ∙ ap (λ (o : Option (Vec ℕ _)). option_map (λ v. v.items) o) (sym there))
