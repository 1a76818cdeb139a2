-- What a machine leaves of its files is a table: of at most 64 files, which rise, with at most 4096 pages.
use Rattle.std.proofs.Common.{length-append, ◌≡◌, ◌≢◌, ◌∙◌, ℕ, suc, ◌+◌, ◌*◌, ◌<◌, ◌≤◌, nat_lt, Bool, true, false, cond, List, [], ◌∷◌, ◌++◌, length, map, slice_get, slice_index_or, Option, Some, None, inl, inr, refl, sym, ap, subst, arith}
use Rattle.std.specs.Prelude.{count_by, option_map, sum_by}
use Rattle.std.specs.List.{AllByRecursion}
use Rattle.std.proofs.lemmas.Bool.{cases_lt, eq-eqb, ltb-false, ltb-true}
use Rattle.std.proofs.lemmas.List.{length-map}
use Rattle.std.proofs.lemmas.List.Elements.{All-from_recursion}
use Rattle.std.proofs.lemmas.List.Sums.{sum_by-cons}
use Rattle.cloak_base.proofs.Lists.{each_append}
use Rattle.cloak_model.specs.declared.resource.Owner.{Owner}
use Rattle.cloak_model.specs.declared.resource.Owner.TheVariants.{Space, File}
use Rattle.cloak_model.specs.declared.resource.Resource.{Resource}
use Rattle.cloak_model.specs.Cloaking.{CloakedMemory}
use Rattle.cloak_model.specs.DomainState.{Domain}
use Rattle.cloak_model.specs.Files.{holds_file, is_file}
use Rattle.cloak_model.specs.Opening.{numbers_below}
use Rattle.cloak_model.specs.Resources.{pages_of}
use Rattle.cloak_model.specs.StoredFiles.{FileContents, IsFile, IsTable, Precedes, Rise, meta_of, page_count, stored_file, table_of}
use Rattle.cloak_model.specs.StoredRun.{contents_from, content_of, file_in, file_owned, files_in, inserted, sorted}
use Rattle.chain_law.proofs.Contents.{pages_length}

-- Files in order.

abbrev Numbers : (ℕ → Type 0) → List FileContents → Type 0
Numbers P files = AllByRecursion (λ (f : FileContents). P f.number) files

-- no two have one number
abbrev AreDistinct : List FileContents → Type 0
AreDistinct [] = Unit {0}
AreDistinct (f ∷ files) = Numbers (λ n. n ≢ f.number) files × AreDistinct files

-- their numbers rise
abbrev AreRising : List FileContents → Type 0
AreRising [] = Unit {0}
AreRising (f ∷ files) = Numbers (λ n. f.number < n) files × AreRising files

-- what holds of each holds of each of them in another order
inserted_each : (P : FileContents → Type 0) (f : FileContents) (files : List FileContents) → P f → AllByRecursion P files →
    AllByRecursion P (inserted f files)
inserted_each P f [] here all = (here, tt)
inserted_each P f (g ∷ files) here all =
    either_list (nat_lt f.number g.number) (f ∷ g ∷ files) (g ∷ inserted f files) (here, all)
    (all.0, inserted_each P f files here all.1)
  where
    either_list : (b : Bool) (x y : List FileContents) → AllByRecursion P x → AllByRecursion P y →
        AllByRecursion P (cond b x y)
    either_list true x y one other = one
    either_list false x y one other = other

pub sorted_each : (P : FileContents → Type 0) (files : List FileContents) → AllByRecursion P files →
    AllByRecursion P (sorted files)
sorted_each P [] all = tt
sorted_each P (f ∷ files) all = inserted_each P f (sorted files) all.0 (sorted_each P files all.1)

-- Numbers that rise.

each_above : (low n : ℕ) (files : List FileContents) → low < n → Numbers (λ k. n < k) files → Numbers (λ k. low < k) files
each_above low n [] less all = tt
each_above low n (f ∷ files) less all =
    ((let here = all.0 in omega (arith, less, here)), each_above low n files less all.1)

inserted_by : (b : Bool) (f g : FileContents) (files : List FileContents) → nat_lt f.number g.number ≡ b →
    g.number ≢ f.number → AreRising (g ∷ files) → AreRising (inserted f files) →
    AreRising (cond b (f ∷ g ∷ files) (g ∷ inserted f files))
inserted_by true f g files is apart rise more =
    let less = ltb-true f.number g.number is in ((less, each_above f.number g.number files less rise.0), rise)
inserted_by false f g files is apart rise more =
    let high = ltb-false f.number g.number is in
    let less : g.number < f.number = less_by g.number f.number high apart in
    (inserted_each (λ (h : FileContents). g.number < h.number) f files less rise.0, more)
  where
    less_by : (a b : ℕ) → a ≤ b → a ≢ b → a < b
    less_by a b le apart = elim (cases_lt a b) [
      | inl less ↦ less
      | inr high ↦ absurd (apart (omega (arith, le, high)))
    ]

inserted_rise : (f : FileContents) (files : List FileContents) → Numbers (λ n. n ≢ f.number) files → AreRising files →
    AreRising (inserted f files)
inserted_rise f [] apart rise = (tt, tt)
inserted_rise f (g ∷ files) apart rise =
    inserted_by (nat_lt f.number g.number) f g files refl apart.0 rise (inserted_rise f files apart.1 rise.1)

sorted_rise : (files : List FileContents) → AreDistinct files → AreRising (sorted files)
sorted_rise [] apart = tt
sorted_rise (f ∷ files) apart =
    inserted_rise f (sorted files) (sorted_each (λ (g : FileContents). g.number ≢ f.number) files apart.0)
    (sorted_rise files apart.1)

-- Sizes.

abbrev pages_told : List FileContents → ℕ
pages_told files = sum_by page_count (table_of files)

told_more : (f : FileContents) (files : List FileContents) → pages_told (f ∷ files) ≡ length f.pages + pages_told files
told_more f files =
    sum_by-cons page_count (stored_file f) (table_of files)
    ∙ ap (λ (n : ℕ). n + pages_told files) (length-map f.pages (option_map meta_of))

told_append : (a b : List FileContents) → pages_told (a ++ b) ≡ pages_told a + pages_told b
told_append [] b = let none : pages_told b ≡ 0 + pages_told b = omega arith in none
told_append (f ∷ a) b =
    let whole = told_more f (a ++ b) in
    let first = told_more f a in
    let rest = told_append a b in
    omega (arith, whole, first, rest)

-- as many files, and as many pages
AreAsMany : List FileContents → List FileContents → Type 0
AreAsMany a b = (length a ≡ length b) × (pages_told a ≡ pages_told b)

many_by : (b : Bool) (x y z : List FileContents) → AreAsMany x z → AreAsMany y z → AreAsMany (cond b x y) z
many_by true x y z one other = one
many_by false x y z one other = other

inserted_many : (f : FileContents) (files : List FileContents) → AreAsMany (inserted f files) (f ∷ files)
unfolding AreAsMany
inserted_many f [] = (refl, refl)
inserted_many f (g ∷ files) =
    let rest = inserted_many f files in
    many_by (nat_lt f.number g.number) (f ∷ g ∷ files) (g ∷ inserted f files) (f ∷ g ∷ files) (refl, refl) (
      (let count = rest.0 in omega (arith, count)),
      (
          let pages = rest.1 in
          let one = told_more g (inserted f files) in
          let two = told_more f (g ∷ files) in
          let three = told_more g files in
          let four = told_more f files in
          omega (arith, pages, one, two, three, four)
          ),
    )

sorted_many : (files : List FileContents) → AreAsMany (sorted files) files
unfolding AreAsMany
sorted_many [] = (refl, refl)
sorted_many (f ∷ files) =
    let here = inserted_many f (sorted files) in
    let rest = sorted_many files in (
      (let a = here.0 in let b = rest.0 in omega (arith, a, b)),
      (
          let a = here.1 in
          let b = rest.1 in
          let c = told_more f (sorted files) in
          let e = told_more f files in
          omega (arith, a, b, c, e)
          ),
    )

-- The files of a program.

holds_more : (k : ℕ) (x : Option Resource) (held : List (Option Resource)) →
    count_by (holds_file k) (x ∷ held) ≡ cond (holds_file k x) 1 0 + count_by (holds_file k) held
holds_more k x held = sum_by-cons (λ (o : Option Resource). cond (holds_file k o) 1 0) x held

pages_more : (x : Option Resource) (held : List (Option Resource)) →
    sum_by pages_of (x ∷ held) ≡ pages_of x + sum_by pages_of held
pages_more x held = sum_by-cons pages_of x held

not_one : (b : Bool) (n : ℕ) → cond b 1 0 + n ≡ 0 → (b ≡ false) × (n ≡ 0)
not_one true n is = absurd (omega (arith, is))
not_one false n is = (refl, omega (arith, is))

module _ (m : CloakedMemory) (d : ℕ) where
  none_owned : (k n pages : ℕ) (owner : Owner) → is_file k owner ≡ false →
      Numbers (λ number. number ≢ k) (file_owned m d n pages owner)
  none_owned k n pages (Space space) other = tt
  none_owned k n pages (File number) other =
      ((λ same. let clash : true ≡ false = sym (eq-eqb number k same) ∙ other in cc), tt)

  none_held : (k n : ℕ) (x : Option Resource) → holds_file k x ≡ false →
      Numbers (λ number. number ≢ k) (file_in m d n x)
  none_held k n None other = tt
  none_held k n (Some held) other = none_owned k n held.pages held.owner other

  -- none has this number, if no resource is the file of this number
  none_named : (k n : ℕ) (held : List (Option Resource)) → count_by (holds_file k) held ≡ 0 →
      Numbers (λ number. number ≢ k) (files_in m d n held)
  unfolding files_in
  none_named k n [] none = tt
  none_named k n (x ∷ held) none =
      let parts = not_one (holds_file k x) (count_by (holds_file k) held) (sym (holds_more k x held) ∙ none) in
      each_append (λ (f : FileContents). f.number ≢ k) (file_in m d n x) (files_in m d (n + 1) held)
      (none_held k n x parts.0) (none_named k (n + 1) held parts.1)

  distinct_owned : (n pages : ℕ) (owner : Owner) (held : List (Option Resource)) (rest : List FileContents) →
      ((k : ℕ) → is_file k owner ≡ true → count_by (holds_file k) held ≡ 0) →
      ((k : ℕ) → count_by (holds_file k) held ≡ 0 → Numbers (λ number. number ≢ k) rest) → AreDistinct rest →
      AreDistinct (file_owned m d n pages owner ++ rest)
  distinct_owned n pages (Space space) held rest none names distinct = distinct
  distinct_owned n pages (File number) held rest none names distinct =
      (names number (none number (eq-eqb number number refl)), distinct)

  distinct_held : (n : ℕ) (x : Option Resource) (held : List (Option Resource)) (rest : List FileContents) →
      ((k : ℕ) → holds_file k x ≡ true → count_by (holds_file k) held ≡ 0) →
      ((k : ℕ) → count_by (holds_file k) held ≡ 0 → Numbers (λ number. number ≢ k) rest) → AreDistinct rest →
      AreDistinct (file_in m d n x ++ rest)
  distinct_held n None held rest none names distinct = distinct
  distinct_held n (Some r) held rest none names distinct =
      distinct_owned n r.pages r.owner held rest none names distinct

  distinct_files : (n : ℕ) (held : List (Option Resource)) → ((k : ℕ) → count_by (holds_file k) held ≤ 1) →
      AreDistinct (files_in m d n held)
  unfolding files_in
  distinct_files n [] once = tt
  distinct_files n (x ∷ held) once =
      distinct_held n x held (files_in m d (n + 1) held)
      (λ k is.
      let one = once k in
      let more = holds_more k x held in
      let count : Bool → ℕ = λ b. cond b 1 0 in
      let here : count (holds_file k x) ≡ count true = ap count is in
      omega (arith, one, more, here))
      (λ k none. none_named k (n + 1) held none)
      (distinct_files (n + 1) held (λ k. let one = once k in let more = holds_more k x held in omega (arith, one, more)))

  -- at most as many as there are resources, with no more pages
  AreFewer : List FileContents → ℕ → ℕ → Type 0
  AreFewer files count pages = (length files ≤ count) × (pages_told files ≤ pages)

  one_owned : (n pages : ℕ) (owner : Owner) → AreFewer (file_owned m d n pages owner) 1 pages
  unfolding AreFewer
  one_owned n pages (Space space) = (omega arith, omega arith)
  one_owned n pages (File number) =
      let f : FileContents = record {
        domain = d;
        number = number;
        pages = map (λ (page : ℕ). content_of m (record { domain = d; resource = n; page = page })) (numbers_below pages);
      } in
      let count = pages_length (λ (page : ℕ). content_of m (record { domain = d; resource = n; page = page })) pages in
      let told = told_more f [] in
      (omega arith, omega (arith, count, told))

  one_held : (n : ℕ) (x : Option Resource) → AreFewer (file_in m d n x) 1 (pages_of x)
  unfolding AreFewer
  one_held n None = (omega arith, omega arith)
  one_held n (Some held) = one_owned n held.pages held.owner

  few_files : (n : ℕ) (held : List (Option Resource)) →
      AreFewer (files_in m d n held) (length held) (sum_by pages_of held)
  unfolding files_in AreFewer
  few_files n [] = (omega arith, omega arith)
  few_files n (x ∷ held) =
      let one = one_held n x in
      let rest = few_files (n + 1) held in (
        (
            let both = length-append (file_in m d n x) (files_in m d (n + 1) held) in
            let a = one.0 in
            let b = rest.0 in
            omega (arith, both, a, b)
            ),
        (
            let both = told_append (file_in m d n x) (files_in m d (n + 1) held) in
            let more = pages_more x held in
            let a = one.1 in
            let b = rest.1 in
            omega (arith, both, more, a, b)
            ),
      )

  -- what holds of each resource's file
  pub each_file : (P : FileContents → Type 0) (n : ℕ) (held : List (Option Resource)) →
      ((i : ℕ) → AllByRecursion P (file_in m d (n + i) (slice_index_or held i None))) →
      AllByRecursion P (files_in m d n held)
  unfolding files_in
  each_file P n [] each = tt
  each_file P n (x ∷ held) each =
      each_append P (file_in m d n x) (files_in m d (n + 1) held)
      (subst (λ (k : ℕ). AllByRecursion P (file_in m d k x)) (let same : n + 0 ≡ n = omega arith in same) (each 0))
      (each_file P (n + 1) held (λ i.
      subst (λ (k : ℕ). AllByRecursion P (file_in m d k (slice_index_or held i None)))
      (let same : n + suc i ≡ (n + 1) + i = omega arith in same) (each (suc i))))

-- The files of all programs.

-- one stands before each of these
abbrev AreAfter : FileContents → List FileContents → Type 0
AreAfter f files = AllByRecursion (λ (g : FileContents). Precedes (stored_file f) (stored_file g)) files

-- and so on
abbrev AreOrdered : List FileContents → Type 0
AreOrdered [] = Unit {0}
AreOrdered (f ∷ files) = AreAfter f files × AreOrdered files

ordered_append : (a b : List FileContents) → AreOrdered a → AreOrdered b →
    AllByRecursion (λ (f : FileContents). AreAfter f b) a → AreOrdered (a ++ b)
ordered_append [] b first second each = second
ordered_append (f ∷ a) b first second each = (
  each_append (λ (g : FileContents). Precedes (stored_file f) (stored_file g)) a b first.0 each.0,
  ordered_append a b first.1 second each.1,
)

pub rises : (files : List FileContents) → AreOrdered files → Rise (table_of files)
rises [] ordered = tt
rises (f ∷ []) ordered = tt
rises (f ∷ g ∷ files) ordered = (ordered.0.0, rises (g ∷ files) ordered.1)

after_one : (d : ℕ) (f : FileContents) (files : List FileContents) → f.domain ≡ d →
    AllByRecursion (λ (g : FileContents). g.domain ≡ d) files → Numbers (λ n. f.number < n) files → AreAfter f files
after_one d f [] here same less = tt
after_one d f (g ∷ files) here same less =
    (inr (here ∙ sym same.0, less.0), after_one d f files here same.1 less.1)

-- of one program
ordered_one : (d : ℕ) (files : List FileContents) → AllByRecursion (λ (g : FileContents). g.domain ≡ d) files →
    AreRising files → AreOrdered files
ordered_one d [] same rise = tt
ordered_one d (f ∷ files) same rise =
    (after_one d f files same.0 same.1 rise.0, ordered_one d files same.1 rise.1)

-- files of later programs
after_lower : (d : ℕ) (f : FileContents) (files : List FileContents) → f.domain ≡ d →
    AllByRecursion (λ (g : FileContents). d + 1 ≤ g.domain) files → AreAfter f files
after_lower d f [] here later = tt
after_lower d f (g ∷ files) here later =
    (inl (let high = later.0 in omega (arith, here, high)), after_lower d f files here later.1)

after_all : (d : ℕ) (files later : List FileContents) → AllByRecursion (λ (g : FileContents). g.domain ≡ d) files →
    AllByRecursion (λ (g : FileContents). d + 1 ≤ g.domain) later →
    AllByRecursion (λ (f : FileContents). AreAfter f later) files
after_all d [] later same high = tt
after_all d (f ∷ files) later same high = (after_lower d f later same.0 high, after_all d files later same.1 high)

wider : (P Q : FileContents → Type 0) (files : List FileContents) → ((f : FileContents) → P f → Q f) →
    AllByRecursion P files → AllByRecursion Q files
wider P Q [] wide all = tt
wider P Q (f ∷ files) wide all = (wide f all.0, wider P Q files wide all.1)

-- What is asked of the resources of a program: as many numbers as there are, few pages, and no two files of one number.
pub record AreSound (held : List (Option Resource)) : Type 0 where
  pub numbers : length held ≡ 16
  pub few : sum_by pages_of held ≤ 1024
  pub once : (k : ℕ) → count_by (holds_file k) held ≤ 1

abbrev held_by : Domain → List (Option Resource)
held_by domain = domain.control.resources.held

module _ (m : CloakedMemory) where
  named : (d n : ℕ) (held : List (Option Resource)) →
      AllByRecursion (λ (g : FileContents). g.domain ≡ d) (files_in m d n held)
  named d n held = each_file m d (λ (g : FileContents). g.domain ≡ d) n held (λ i. one (n + i) (slice_index_or held i None))
    where
      one : (k : ℕ) (x : Option Resource) → AllByRecursion (λ (g : FileContents). g.domain ≡ d) (file_in m d k x)
      one k None = tt
      one k (Some r) = owned k r.pages r.owner
        where
          owned : (k pages : ℕ) (owner : Owner) →
              AllByRecursion (λ (g : FileContents). g.domain ≡ d) (file_owned m d k pages owner)
          owned k pages (Space space) = tt
          owned k pages (File number) = (refl, tt)

  pub each_left : (P : FileContents → Type 0) (d : ℕ) (domains : List Domain) →
      ((i : ℕ) (domain : Domain) → slice_get domains i ≡ Some domain →
      AllByRecursion P (files_in m (d + i) 0 (held_by domain))) → AllByRecursion P (contents_from m d domains)
  unfolding contents_from
  each_left P d [] each = tt
  each_left P d (x ∷ domains) each =
      each_append P (sorted (files_in m d 0 (held_by x))) (contents_from m (d + 1) domains)
      (sorted_each P (files_in m d 0 (held_by x))
      (subst (λ (k : ℕ). AllByRecursion P (files_in m k 0 (held_by x))) (let same : d + 0 ≡ d = omega arith in same)
      (each 0 x refl)))
      (each_left P (d + 1) domains (λ i domain there.
      subst (λ (k : ℕ). AllByRecursion P (files_in m k 0 (held_by domain)))
      (let same : d + suc i ≡ (d + 1) + i = omega arith in same) (each (suc i) domain there)))

  high : (d : ℕ) (domains : List Domain) →
      AllByRecursion (λ (g : FileContents). d ≤ g.domain) (contents_from m d domains)
  unfolding contents_from
  high d [] = tt
  high d (x ∷ domains) =
      each_append (λ (g : FileContents). d ≤ g.domain) (sorted (files_in m d 0 (held_by x))) (contents_from m (d + 1) domains)
      (sorted_each (λ (g : FileContents). d ≤ g.domain) (files_in m d 0 (held_by x))
      (wider (λ (g : FileContents). g.domain ≡ d) (λ (g : FileContents). d ≤ g.domain) (files_in m d 0 (held_by x))
      (λ f same. omega (arith, same)) (named d 0 (held_by x))))
      (wider (λ (g : FileContents). d + 1 ≤ g.domain) (λ (g : FileContents). d ≤ g.domain) (contents_from m (d + 1) domains)
      (λ f more. omega (arith, more)) (high (d + 1) domains))

  ordered : (d : ℕ) (domains : List Domain) → AllByRecursion (λ (x : Domain). AreSound (held_by x)) domains →
      AreOrdered (contents_from m d domains)
  unfolding contents_from
  ordered d [] all = tt
  ordered d (x ∷ domains) all =
      let files = files_in m d 0 (held_by x) in
      let same = sorted_each (λ (g : FileContents). g.domain ≡ d) files (named d 0 (held_by x)) in
      ordered_append (sorted files) (contents_from m (d + 1) domains)
      (ordered_one d (sorted files) same (sorted_rise files (distinct_files m d 0 (held_by x) all.0.once)))
      (ordered (d + 1) domains all.1) (after_all d (sorted files) (contents_from m (d + 1) domains) same (high (d + 1) domains))

  few_left : (d : ℕ) (domains : List Domain) → AllByRecursion (λ (x : Domain). AreSound (held_by x)) domains →
      (length (contents_from m d domains) ≤ 16 * length domains)
      × (pages_told (contents_from m d domains) ≤ 1024 * length domains)
  unfolding contents_from AreFewer AreAsMany
  few_left d [] all = (omega arith, omega arith)
  few_left d (x ∷ domains) all =
      let files = files_in m d 0 (held_by x) in
      let rest = few_left (d + 1) domains all.1 in
      let here = few_files m d 0 (held_by x) in
      let many = sorted_many files in (
        (
            let both = length-append (sorted files) (contents_from m (d + 1) domains) in
            let a = here.0 in
            let b = many.0 in
            let c = rest.0 in
            let n = all.0.numbers in
            omega (arith, both, a, b, c, n)
            ),
        (
            let both = told_append (sorted files) (contents_from m (d + 1) domains) in
            let a = here.1 in
            let b = many.1 in
            let c = rest.1 in
            let n = all.0.few in
            omega (arith, both, a, b, c, n)
            ),
      )

  -- It is a table, if each file is one of a table.
  pub left_table : (domains : List Domain) → length domains ≤ 4 →
      AllByRecursion (λ (x : Domain). AreSound (held_by x)) domains →
      AllByRecursion (λ (f : FileContents). IsFile (stored_file f)) (contents_from m 0 domains) →
      IsTable (table_of (contents_from m 0 domains))
  left_table domains four all each =
      let files = contents_from m 0 domains in
      let few = few_left 0 domains all in
      let count = length-map files stored_file in
      record {
        few = (let a = few.0 in omega (arith, a, count, four));
        each = All-from_recursion IsFile (table_of files) (told_each files each);
        few_pages = (let a = few.1 in omega (arith, a, four));
        rise = rises files (ordered 0 domains all);
      }
    where
      told_each : (files : List FileContents) → AllByRecursion (λ (f : FileContents). IsFile (stored_file f)) files →
          AllByRecursion IsFile (table_of files)
      told_each [] each = tt
      told_each (f ∷ files) each = (each.0, told_each files each.1)
