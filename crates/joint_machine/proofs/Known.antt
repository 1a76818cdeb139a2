-- Files that are told to a table one after another, over plain variables.
use Rattle.std.proofs.Common.{◌≡◌, ◌∙◌, ◌≤◌, ◌<◌, ◌+◌, ◌-◌, ◌^◌, ℕ, zero, suc, List, [], ◌∷◌, ◌++◌, length, take, map, replicate, slice_set, slice_index_or, Option, None, All, refl, ap, sym, subst, arith, add-one, append_assoc, append-nil, length-append, inl, inr}
use Rattle.std.specs.Prelude.{sum_by, AllPairs}
use Rattle.std.proofs.lemmas.List.{length-map, length-replicate, length_push, get_or_push, set_at, length-take, map-append, take_more, get_or-take, get_or_read}
use Rattle.std.proofs.lemmas.List.Sums.{sum_by-append, sum_by-cons}
use Rattle.cloak_base.specs.declared.names.Meta.{Meta}
use Rattle.cloak_model.specs.Opening.{numbers_below}
use Rattle.cloak_model.specs.StoredFiles.{StoredFile, IsFile, IsMetaIfKnown, IsTable, Precedes, Rise, page_count}
use Rattle.protect_meta.specs.FileTable.{file_at, with_meta}
use Rattle.protect_meta.specs.Table.{MetaRow, meta_at}
use Rattle.hypercalls.specs.declared.domain.Domain.{Domain}
use Rattle.joint_machine.specs.Storing.{HasLowerNumber, known_file, known_files, known_pages, pages_at, places_of}
use Rattle.joint_machine.specs.declared.storing.FilePlace.{FilePlace}
use Rattle.std.proofs.lemmas.List.Elements.{All-append}

-- One file.

pub count_below : (n : ℕ) → length (numbers_below n) ≡ n
count_below zero = refl
count_below (suc n) =
    let a = length_push (numbers_below n) n in
    let b = count_below n in
    omega (arith, a, b)

pub count_known : (t : MetaRow) (d resource n : ℕ) → length (known_pages t d resource n) ≡ n
count_known t d resource n = length-map (numbers_below n) _ ∙ count_below n

-- one more page
pub known_more : (t : MetaRow) (d resource n : ℕ) →
    known_pages t d resource (n + 1)
    ≡ known_pages t d resource n ++ meta_at t (record { domain = d; resource = resource; page = n }) ∷ []
known_more t d resource n =
    ap (known_pages t d resource) (add-one n)
    ∙ map-append (λ (page : ℕ). meta_at t (record { domain = d; resource = resource; page = page })) (numbers_below n) (n ∷ [])

-- the pages of a file of which the first n are told
abbrev pub told_pages : MetaRow → ℕ → FilePlace → ℕ → List (Option Meta)
told_pages t d f n = known_pages t d f.resource n ++ replicate (f.pages - n) None

abbrev pub told_file : MetaRow → ℕ → FilePlace → ℕ → StoredFile
told_file t d f n = record { domain = d; number = f.number; pages = told_pages t d f n }

pub count_told : (t : MetaRow) (d : ℕ) (f : FilePlace) (n : ℕ) → n ≤ f.pages → length (told_pages t d f n) ≡ f.pages
count_told t d f n low =
    let a = length-append (known_pages t d f.resource n) (replicate (f.pages - n) (let none : Option Meta = None in none)) in
    let b = count_known t d f.resource n in
    let none : Option Meta = None in
    let c = length-replicate (f.pages - n) none in
    omega (arith, a, b, c, low)

rest_next : (none : Option Meta) (n pages : ℕ) → n < pages →
    replicate (pages - n) none ≡ none ∷ replicate (pages - (n + 1)) none
rest_next none n pages low =
    ap (λ (k : ℕ). replicate k none) (let e : pages - n ≡ suc (pages - (n + 1)) = omega (arith, low) in e)

pub told_next : (t : MetaRow) (d : ℕ) (f : FilePlace) (n : ℕ) → n < f.pages →
    slice_set (told_pages t d f n) n (meta_at t (record { domain = d; resource = f.resource; page = n }))
    ≡ told_pages t d f (n + 1)
told_next t d f n low =
    let known = known_pages t d f.resource n in
    let v = meta_at t (record { domain = d; resource = f.resource; page = n }) in
    ap (λ (l : List (Option Meta)). slice_set (known ++ l) n v) (rest_next None n f.pages low)
    ∙ (set_at known None (replicate (f.pages - (n + 1)) None) v n (count_known t d f.resource n)
    ∙ (sym (append_assoc known (v ∷ []) (replicate (f.pages - (n + 1)) None))
    ∙ ap (λ (l : List (Option Meta)). l ++ replicate (f.pages - (n + 1)) None) (sym (known_more t d f.resource n))))

pub told_all : (t : MetaRow) (d : ℕ) (f : FilePlace) (n : ℕ) → n ≡ f.pages → told_file t d f n ≡ known_file t d f
told_all t d f n same = ap (λ (l : List (Option Meta)). record { domain = d; number = f.number; pages = l })
    (ap (told_pages t d f) same
    ∙ (ap (λ (k : ℕ). known_pages t d f.resource f.pages ++ replicate k None) (let e : f.pages - f.pages ≡ 0 = omega arith in e)
    ∙ append-nil (known_pages t d f.resource f.pages)))

-- the last file of a table
pub last_is : (old : List StoredFile) (f : StoredFile) (i : ℕ) → i ≡ length old → file_at (old ++ f ∷ []) i ≡ f
last_is old f i at = get_or_push old f _ i (sym at)

pub last_set : (old : List StoredFile) (f : StoredFile) (i page : ℕ) (m : Option Meta) → i ≡ length old →
    with_meta i page m (old ++ f ∷ []) ≡ old ++ record f { pages = slice_set f.pages page m } ∷ []
last_set old f i page m at =
    ap (λ (g : StoredFile). slice_set (old ++ f ∷ []) i (record g { pages = slice_set g.pages page m })) (last_is old f i at)
    ∙ set_at old f [] (record f { pages = slice_set f.pages page m }) i (sym at)

-- The table.

rise_push : (old : List StoredFile) (f : StoredFile) → Rise old → All (λ (g : StoredFile). Precedes g f) old →
    Rise (old ++ f ∷ [])
rise_push [] f rise all = tt
rise_push (g ∷ []) f rise all = (all 0 g (omega arith), tt)
rise_push (g ∷ h ∷ old) f rise all =
    (rise.0, rise_push (h ∷ old) f rise.1 (λ i d low. all (suc i) d (omega (arith, low))))

all_push : {A : Type 0} (P : A → Type 0) (xs : List A) (x : A) → All P xs → P x → All P (xs ++ x ∷ [])
all_push P [] x all here zero d low = here
all_push P [] x all here (suc i) d low = absurd (omega (arith, low))
all_push P (y ∷ xs) x all here zero d low = all 0 d (omega arith)
all_push P (y ∷ xs) x all here (suc i) d low =
    all_push P xs x (λ k e less. all (suc k) e (omega (arith, less))) here i d (omega (arith, low))

pub sum_push : (old : List StoredFile) (f : StoredFile) →
    sum_by page_count (old ++ f ∷ []) ≡ sum_by page_count old + length f.pages
sum_push old f =
    let a = sum_by-append page_count old (f ∷ []) in
    let b = sum_by-cons page_count f [] in
    omega (arith, a, b)

pub table_push : (old : List StoredFile) (f : StoredFile) → IsTable old → IsFile f →
    All (λ (g : StoredFile). Precedes g f) old → length old < 64 → sum_by page_count old + length f.pages ≤ 4096 →
    IsTable (old ++ f ∷ [])
table_push old f table file follows few low = record {
  few = (let a = length_push old f in omega (arith, a, few));
  each = all_push IsFile old f table.each file;
  few_pages = (let a = sum_push old f in omega (arith, a, low));
  rise = rise_push old f table.rise follows;
}

pub metas_push : (t : MetaRow) (d resource n : ℕ) → All IsMetaIfKnown (known_pages t d resource n) →
    IsMetaIfKnown (meta_at t (record { domain = d; resource = resource; page = n })) →
    All IsMetaIfKnown (known_pages t d resource (n + 1))
metas_push t d resource n all here =
    subst (All IsMetaIfKnown) (sym (known_more t d resource n)) (all_push IsMetaIfKnown (known_pages t d resource n) _ all here)

pub known_is_file : (t : MetaRow) (d : ℕ) (f : FilePlace) (n : ℕ) → n ≡ f.pages → d < 4 → f.number < 2 ^ 32 →
    1 ≤ f.pages → f.pages ≤ 1024 → All IsMetaIfKnown (known_pages t d f.resource n) → IsFile (known_file t d f)
known_is_file t d f n same domain number some few metas =
    let count = count_known t d f.resource f.pages in record {
      domain = domain;
      number = number;
      some_pages = omega (arith, count, some);
      few_pages = omega (arith, count, few);
      pages = subst (λ (k : ℕ). All IsMetaIfKnown (known_pages t d f.resource k)) same metas;
    }

-- Files of a domain.

all_map : {A B : Type 0} (P : B → Type 0) (f : A → B) (xs : List A) → All (λ x. P (f x)) xs → All P (map f xs)
all_map P f [] all i d low = absurd (omega (arith, low))
all_map P f (x ∷ xs) all zero d low = all 0 x (omega arith)
all_map P f (x ∷ xs) all (suc i) d low =
    all_map P f xs (λ k e less. all (suc k) e (omega (arith, less))) i d (omega (arith, low))

lower_before : (places : List FilePlace) (i : ℕ) (f : FilePlace) → AllPairs HasLowerNumber places → i < length places →
    f ≡ slice_index_or places i f → All (λ (g : FilePlace). g.number < f.number) (take i places)
lower_before places i f rise low is k d less =
    let count = length-take i places in
    let here : slice_index_or (take i places) k d ≡ slice_index_or places k d =
    get_or-take i places k d (omega (arith, less, count)) in
    let pair : HasLowerNumber (slice_index_or places k d) (slice_index_or places i d) =
    rise k i d (omega (arith, less, count)) low in
    let there : f ≡ slice_index_or places i d = get_or_read places i f low is d in
    let a = ap (λ (x : FilePlace). x.number) here in
    let b = ap (λ (x : FilePlace). x.number) there in
    omega (arith, pair, a, b)

-- all that were told stand before the next one
pub all_precede : (t : MetaRow) (d : ℕ) (old : List StoredFile) (places : List FilePlace) (i : ℕ) (f : FilePlace) →
    All (λ (g : StoredFile). g.domain < d) old → AllPairs HasLowerNumber places → i < length places →
    f ≡ slice_index_or places i f →
    All (λ (g : StoredFile). Precedes g (known_file t d f)) (old ++ map (known_file t d) (take i places))
all_precede t d old places i f below rise low is =
    All-append (λ (g : StoredFile). Precedes g (known_file t d f)) old (map (known_file t d) (take i places))
    (λ k e less. inl (below k e less))
    (all_map (λ (g : StoredFile). Precedes g (known_file t d f)) (known_file t d) (take i places)
    (λ k e less. inr (refl, lower_before places i f rise low is k e less)))

pub sum_known : (t : MetaRow) (d : ℕ) (places : List FilePlace) →
    sum_by page_count (map (known_file t d) places) ≡ sum_by pages_at places
sum_known t d [] = refl
sum_known t d (f ∷ places) =
    let a = sum_by-cons page_count (known_file t d f) (map (known_file t d) places) in
    let b = sum_by-cons pages_at f places in
    let c = sum_known t d places in
    let e = count_known t d f.resource f.pages in
    omega (arith, a, b, c, e)

pub sum_told : (t : MetaRow) (d : ℕ) (old : List StoredFile) (places : List FilePlace) →
    sum_by page_count (old ++ map (known_file t d) places) ≡ sum_by page_count old + sum_by pages_at places
sum_told t d old places =
    sum_by-append page_count old (map (known_file t d) places)
    ∙ ap (λ (n : ℕ). sum_by page_count old + n) (sum_known t d places)

pub below_next : (t : MetaRow) (d : ℕ) (old : List StoredFile) (places : List FilePlace) →
    All (λ (g : StoredFile). g.domain < d) old →
    All (λ (g : StoredFile). g.domain < d + 1) (old ++ map (known_file t d) places)
below_next t d old places below =
    All-append (λ (g : StoredFile). g.domain < d + 1) old (map (known_file t d) places)
    (λ k e less. let h = below k e less in omega (arith, h))
    (all_map (λ (g : StoredFile). g.domain < d + 1) (known_file t d) places (λ k e less. omega arith))

-- Domains.

known_last : (t : MetaRow) (n : ℕ) (domains : List Domain) (x : Domain) →
    known_files t n (domains ++ x ∷ [])
    ≡ known_files t n domains ++ map (known_file t (n + length domains)) (places_of x)
known_last t n [] x =
    append-nil (map (known_file t n) (places_of x))
    ∙ ap (λ (k : ℕ). map (known_file t k) (places_of x)) (let e : n ≡ n + 0 = omega arith in e)
known_last t n (y ∷ domains) x =
    ap (λ (l : List StoredFile). map (known_file t n) (places_of y) ++ l)
    (known_last t (n + 1) domains x
    ∙ ap (λ (k : ℕ). known_files t (n + 1) domains ++ map (known_file t k) (places_of x))
    (let e : n + 1 + length domains ≡ n + suc (length domains) = omega arith in e))
    ∙ sym (append_assoc (map (known_file t n) (places_of y)) (known_files t (n + 1) domains) _)

pub domains_next : (t : MetaRow) (domains : List Domain) (i : ℕ) (x : Domain) → i < length domains →
    x ≡ slice_index_or domains i x →
    known_files t 0 (take i domains) ++ map (known_file t i) (places_of x) ≡ known_files t 0 (take (i + 1) domains)
domains_next t domains i x low is =
    let count : 0 + length (take i domains) ≡ i = (let e = length-take i domains in omega (arith, e, low)) in
    sym (ap (known_files t 0) (take_more domains i x low ∙ ap (λ (y : Domain). take i domains ++ y ∷ []) (sym is))
    ∙ (known_last t 0 (take i domains) x
    ∙ ap (λ (k : ℕ). known_files t 0 (take i domains) ++ map (known_file t k) (places_of x)) count))
