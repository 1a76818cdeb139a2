-- What is read of the files at the end of a run: each file is among them, with the contents of its pages.
use Rattle.std.proofs.Common.{◌≡◌, ◌∙◌, ◌⊎◌, inl, inr, ℕ, zero, suc, ◌+◌, ◌<◌, Bool, true, false, cond, List, [], ◌∷◌, ◌++◌, length, map, slice_get, slice_index_or, Option, Some, None, refl, sym, ap, subst, arith, eq-eqb}
use Rattle.std.specs.Prelude.{nat_lt}
use Rattle.std.proofs.lemmas.Bool.{cases_lt}
use Rattle.cloak_model.specs.declared.resource.Owner.{Owner}
use Rattle.cloak_model.specs.declared.resource.Owner.TheVariants.{Space, File}
use Rattle.cloak_model.specs.declared.resource.Resource.{Resource}
use Rattle.cloak_model.specs.Cloaking.{CloakedMemory}
use Rattle.cloak_model.specs.DomainState.{Domain}
use Rattle.cloak_model.specs.Files.{is_file, holds_file}
use Rattle.cloak_model.specs.Opening.{numbers_below}
use Rattle.cloak_model.specs.Parts.{Joint}
use Rattle.cloak_model.specs.StoredFiles.{FileContents}
use Rattle.cloak_model.specs.StoredRun.{content_of, file_owned, file_in, files_in, inserted, sorted, contents_from, contents_of}

-- a file is among others
abbrev pub Has : FileContents → List FileContents → Type 0
Has f [] = ⊥
Has f (g ∷ files) = (g ≡ f) ⊎ Has f files

has_first : (f : FileContents) (xs ys : List FileContents) → Has f xs → Has f (xs ++ ys)
has_first f [] ys has = absurd has
has_first f (x ∷ xs) ys (inl same) = inl same
has_first f (x ∷ xs) ys (inr rest) = inr (has_first f xs ys rest)

has_second : (f : FileContents) (xs ys : List FileContents) → Has f ys → Has f (xs ++ ys)
has_second f [] ys has = has
has_second f (x ∷ xs) ys has = inr (has_second f xs ys has)

has_either : (f : FileContents) (b : Bool) (xs ys : List FileContents) → Has f xs → Has f ys → Has f (cond b xs ys)
has_either f true xs ys here there = here
has_either f false xs ys here there = there

has_new : (f g : FileContents) (files : List FileContents) → g ≡ f → Has f (inserted g files)
has_new f g [] same = inl same
has_new f g (h ∷ files) same =
    has_either f (nat_lt g.number h.number) (g ∷ h ∷ files) (h ∷ inserted g files) (inl same)
    (inr (has_new f g files same))

has_old : (f g : FileContents) (files : List FileContents) → Has f files → Has f (inserted g files)
has_old f g [] has = absurd has
has_old f g (h ∷ files) (inl same) =
    has_either f (nat_lt g.number h.number) (g ∷ h ∷ files) (h ∷ inserted g files) (inr (inl same)) (inl same)
has_old f g (h ∷ files) (inr rest) =
    has_either f (nat_lt g.number h.number) (g ∷ h ∷ files) (h ∷ inserted g files) (inr (inr rest))
    (inr (has_old f g files rest))

has_sorted : (f : FileContents) (files : List FileContents) → Has f files → Has f (sorted files)
has_sorted f [] has = absurd has
has_sorted f (g ∷ files) (inl same) = has_new f g (sorted files) same
has_sorted f (g ∷ files) (inr rest) = has_old f g (sorted files) (has_sorted f files rest)

-- the contents of a file of domain d, which is resource n
abbrev pub file_at : CloakedMemory → ℕ → ℕ → ℕ → ℕ → FileContents
file_at m d n number pages = record {
  domain = d;
  number = number;
  pages = map (λ (page : ℕ). content_of m (record { domain = d; resource = n; page = page })) (numbers_below pages);
}

has_resource : (m : CloakedMemory) (d first i number pages : ℕ) (held : List (Option Resource)) →
    slice_index_or held i None ≡ Some (record { owner = File number; pages = pages }) →
    Has (file_at m d (first + i) number pages) (files_in m d first held)
unfolding files_in
has_resource m d first i number pages [] is = absurd cc
has_resource m d first zero number pages (o ∷ held) is =
    let x : Resource = record { owner = File number; pages = pages } in
    let count : first ≡ first + 0 = omega arith in
    has_first (file_at m d (first + 0) number pages) (file_in m d first o) (files_in m d (first + 1) held)
    (subst (λ (y : Option Resource). Has (file_at m d (first + 0) number pages) (file_in m d first y)) (sym is)
    (inl (ap (λ (k : ℕ). file_at m d k number pages) count)))
has_resource m d first (suc i) number pages (o ∷ held) is =
    let count : first + 1 + i ≡ first + suc i = omega arith in
    has_second (file_at m d (first + suc i) number pages) (file_in m d first o) (files_in m d (first + 1) held)
    (subst (λ (k : ℕ). Has (file_at m d k number pages) (files_in m d (first + 1) held)) count
    (has_resource m d (first + 1) i number pages held is))

has_domain : (m : CloakedMemory) (first i : ℕ) (domains : List Domain) (program : Domain) (f : FileContents) →
    slice_get domains i ≡ Some program → Has f (files_in m (first + i) 0 program.control.resources.held) →
    Has f (contents_from m first domains)
unfolding contents_from
has_domain m first i [] program f is has = absurd cc
has_domain m first zero (x ∷ domains) program f is has =
    let same : program ≡ x = cc in
    let count : first + 0 ≡ first = omega arith in
    let files : List FileContents = files_in m first 0 x.control.resources.held in
    has_first f (sorted files) (contents_from m (first + 1) domains)
    (has_sorted f files
    (subst (λ (k : ℕ). Has f (files_in m k 0 x.control.resources.held)) count
    (subst (λ (p : Domain). Has f (files_in m (first + 0) 0 p.control.resources.held)) same has)))
has_domain m first (suc i) (x ∷ domains) program f is has =
    let count : first + suc i ≡ first + 1 + i = omega arith in
    has_second f (sorted (files_in m first 0 x.control.resources.held)) (contents_from m (first + 1) domains)
    (has_domain m (first + 1) i domains program f is
    (subst (λ (k : ℕ). Has f (files_in m k 0 program.control.resources.held)) count has))

-- each file of a machine is among its contents
pub has_contents : (j : Joint) (d n number pages : ℕ) (program : Domain) → slice_get j.domains d ≡ Some program →
    slice_index_or program.control.resources.held n None ≡ Some (record { owner = File number; pages = pages }) →
    Has (file_at j.memory d n number pages) (contents_of j)
has_contents j d n number pages program there is =
    let held = program.control.resources.held in
    let domain : d ≡ 0 + d = omega arith in
    let count : 0 + n ≡ n = omega arith in
    has_domain j.memory 0 d j.domains program (file_at j.memory d n number pages) there
    (subst (λ (e : ℕ). Has (file_at j.memory d n number pages) (files_in j.memory e 0 held)) domain
    (subst (λ (k : ℕ). Has (file_at j.memory d k number pages) (files_in j.memory d 0 held)) count
    (has_resource j.memory d 0 n number pages held is)))

-- And each that is among them is a file of the machine.

by_append : (f : FileContents) (xs ys : List FileContents) → Has f (xs ++ ys) → Has f xs ⊎ Has f ys
by_append f [] ys has = inr has
by_append f (x ∷ xs) ys (inl same) = inl (inl same)
by_append f (x ∷ xs) ys (inr rest) = elim (by_append f xs ys rest) [
  | inl first ↦ inl (inr first)
  | inr second ↦ inr second
]

by_either : (f : FileContents) (b : Bool) (xs ys : List FileContents) → Has f (cond b xs ys) → Has f xs ⊎ Has f ys
by_either f true xs ys has = inl has
by_either f false xs ys has = inr has

after_first : (f g h : FileContents) (files rest : List FileContents) → (Has f rest → (g ≡ f) ⊎ Has f files) →
    Has f (h ∷ rest) → (g ≡ f) ⊎ Has f (h ∷ files)
after_first f g h files rest later (inl same) = inr (inl same)
after_first f g h files rest later (inr has) = elim (later has) [
  | inl here ↦ inl here
  | inr there ↦ inr (inr there)
]

by_inserted : (f g : FileContents) (files : List FileContents) → Has f (inserted g files) → (g ≡ f) ⊎ Has f files
by_inserted f g [] (inl same) = inl same
by_inserted f g [] (inr none) = absurd none
by_inserted f g (h ∷ files) has =
    elim (by_either f (nat_lt g.number h.number) (g ∷ h ∷ files) (h ∷ inserted g files) has) [
      | inl first ↦ first
      | inr second ↦ after_first f g h files (inserted g files) (by_inserted f g files) second
    ]

by_sorted : (f : FileContents) (files : List FileContents) → Has f (sorted files) → Has f files
by_sorted f [] has = absurd has
by_sorted f (g ∷ files) has = elim (by_inserted f g (sorted files) has) [
  | inl same ↦ inl same
  | inr rest ↦ inr (by_sorted f files rest)
]

-- a resource with this number is the file, of this domain
record IsHeld (d : ℕ) (held : List (Option Resource)) (f : FileContents) : Type 0 where
  pub domain : f.domain ≡ d
  pub resource : ℕ
  pub holds : holds_file f.number (slice_index_or held resource None) ≡ true

owned_held : (m : CloakedMemory) (d n pages : ℕ) (owner : Owner) (f : FileContents) →
    Has f (file_owned m d n pages owner) →
    (f.domain ≡ d) × (is_file f.number owner ≡ true)
owned_held m d n pages (Space space) f has = absurd has
owned_held m d n pages (File number) f (inl same) = (
  sym (ap (λ (x : FileContents). x.domain) same),
  eq-eqb number f.number (ap (λ (x : FileContents). x.number) same),
)
owned_held m d n pages (File number) f (inr none) = absurd none

first_held : (m : CloakedMemory) (d n : ℕ) (o : Option Resource) (f : FileContents) → Has f (file_in m d n o) →
    (f.domain ≡ d) × (holds_file f.number o ≡ true)
first_held m d n None f has = absurd has
first_held m d n (Some held) f has = owned_held m d n held.pages held.owner f has

files_held : (m : CloakedMemory) (d first : ℕ) (held : List (Option Resource)) (f : FileContents) →
    Has f (files_in m d first held) → IsHeld d held f
unfolding files_in
files_held m d first [] f has = absurd has
files_held m d first (o ∷ held) f has =
    elim (by_append f (file_in m d first o) (files_in m d (first + 1) held) has) [
      | inl here ↦
          let is = first_held m d first o f here in
          record { domain = is.0; resource = 0; holds = is.1 }
      | inr later ↦
          let is = files_held m d (first + 1) held f later in
          record { domain = is.domain; resource = suc is.resource; holds = is.holds }
    ]

-- the file is there
pub record IsOf (domains : List Domain) (d : ℕ) (number : ℕ) : Type 0 where
  pub program : Domain
  pub there : slice_get domains d ≡ Some program
  pub resource : ℕ
  pub holds : holds_file number (slice_index_or program.control.resources.held resource None) ≡ true

record IsFrom (domains : List Domain) (first : ℕ) (f : FileContents) : Type 0 where
  pub place : ℕ
  pub domain : f.domain ≡ first + place
  pub is : IsOf domains place f.number

domains_held : (m : CloakedMemory) (first : ℕ) (domains : List Domain) (f : FileContents) →
    Has f (contents_from m first domains) → IsFrom domains first f
unfolding contents_from
domains_held m first [] f has = absurd has
domains_held m first (x ∷ domains) f has =
    let files : List FileContents = files_in m first 0 x.control.resources.held in
    elim (by_append f (sorted files) (contents_from m (first + 1) domains) has) [
      | inl here ↦
          let is = files_held m first 0 x.control.resources.held f (by_sorted f files here) in
          let own = is.domain in
          record {
            place = 0;
            domain = omega (arith, own);
            is = record { program = x; there = refl; resource = is.resource; holds = is.holds };
          }
      | inr later ↦
          let is = domains_held m (first + 1) domains f later in
          let own = is.domain in
          record {
            place = suc is.place;
            domain = omega (arith, own);
            is = record {
              program = is.is.program;
              there = is.is.there;
              resource = is.is.resource;
              holds = is.is.holds;
            };
          }
    ]

pub contents_are : (j : Joint) (f : FileContents) → Has f (contents_of j) → IsOf j.domains f.domain f.number
contents_are j f has =
    let is = domains_held j.memory 0 j.domains f has in
    let own = is.domain in
    let place : is.place ≡ f.domain = omega (arith, own) in
    subst (λ (d : ℕ). IsOf j.domains d f.number) place is.is

-- The pages of a file, by their numbers.

get_append : {A : Type 0} (xs : List (Option A)) (y : Option A) (i : ℕ) → i < length xs →
    slice_index_or (xs ++ y ∷ []) i None ≡ slice_index_or xs i None
get_append [] y i low = absurd (omega (arith, low))
get_append (x ∷ xs) y zero low = refl
get_append (x ∷ xs) y (suc i) low = get_append xs y i (omega (arith, low))

get_last : {A : Type 0} (xs : List (Option A)) (y : Option A) → slice_index_or (xs ++ y ∷ []) (length xs) None ≡ y
get_last [] y = refl
get_last (x ∷ xs) y = get_last xs y

map_push : {A : Type 0} (g : ℕ → Option A) (xs : List ℕ) (n : ℕ) → map g (xs ++ n ∷ []) ≡ map g xs ++ g n ∷ []
map_push g [] n = refl
map_push g (x ∷ xs) n = ap (λ (ys : List (Option _)). g x ∷ ys) (map_push g xs n)

push_length : {A : Type 0} (xs : List A) (y : A) → length (xs ++ y ∷ []) ≡ length xs + 1
push_length [] y = refl
push_length (x ∷ xs) y = let rest = push_length xs y in omega (arith, rest)

pub pages_length : {A : Type 0} (g : ℕ → Option A) (n : ℕ) → length (map g (numbers_below n)) ≡ n
pages_length g zero = refl
pages_length g (suc n) =
    let rest = pages_length g n in
    let push = push_length (map g (numbers_below n)) (g n) in
    ap length (map_push g (numbers_below n) n) ∙ omega (arith, rest, push)

pub page_at : {A : Type 0} (g : ℕ → Option A) (n i : ℕ) → i < n →
    slice_index_or (map g (numbers_below n)) i None ≡ g i
page_at g zero i low = absurd (omega (arith, low))
page_at g (suc n) i low =
    ap (λ (l : List (Option _)). slice_index_or l i None) (map_push g (numbers_below n) n)
    ∙ elim (cases_lt i n) [
      | inl inside ↦
          get_append (map g (numbers_below n)) (g n) i (subst (λ (k : ℕ). i < k) (sym (pages_length g n)) inside)
          ∙ page_at g n i inside
      | inr past ↦
          let last : i ≡ n = omega (arith, low, past) in
          let long : i ≡ length (map g (numbers_below n)) = last ∙ sym (pages_length g n) in
          ap (λ (k : ℕ). slice_index_or (map g (numbers_below n) ++ g n ∷ []) k None) long
          ∙ get_last (map g (numbers_below n)) (g n) ∙ ap g (sym last)
    ]
