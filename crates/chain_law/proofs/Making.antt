-- The history with which a run over files begins: each page of a file has the bytes with which it is made.
use Rattle.std.proofs.Common.{◌≡◌, ◌≢◌, ◌∙◌, inl, inr, ℕ, zero, suc, ◌+◌, ◌≤◌, Bool, true, cond, List, [], ◌∷◌, slice_get, slice_index, slice_index_or, Option, Some, None, refl, sym, ap, subst, arith, eqb-true}
use Rattle.std.specs.Prelude.{option_and_then, position}
use Rattle.std.proofs.lemmas.Bool.{false≢true}
use Rattle.std.proofs.lemmas.List.Quantifiers.{position-Some}
use Rattle.cloak_base.specs.Pages.{same_page}
use Rattle.cloak_base.proofs.Pages.{same_page-other, same_page-self}
use Rattle.cloak_base.specs.declared.names.PageId.{PageId}
use Rattle.cloak_model.specs.declared.image.Program.{Program}
use Rattle.cloak_model.specs.declared.resource.Owner.{Owner}
use Rattle.cloak_model.specs.declared.resource.Owner.TheVariants.{Space, File}
use Rattle.cloak_model.specs.declared.resource.Resource.{Resource}
use Rattle.cloak_model.specs.DomainState.{Domain}
use Rattle.cloak_model.specs.Files.{is_file, holds_file}
use Rattle.cloak_model.specs.Resources.{resource_at}
use Rattle.cloak_model.specs.StoredFiles.{PageContent, FileContents, Precedes, Rise, stored_file, table_of}
use Rattle.latest_store.specs.LatestStore.{made_programs, resource_of_file, made_contents, made_file, made_files}
use Rattle.latest_store.specs.Moves.{Move, Makes, latest}
use Rattle.chain_law.proofs.Contents.{Has}
use Rattle.latest_store.proofs.Histories.{programs_latest}

abbrev page_of : ℕ → ℕ → ℕ → PageId
page_of d n page = record { domain = d; resource = n; page = page }

-- Which files a resource is.

-- the file of this number is resource n of a domain
pub record IsAt (domains : List Domain) (d number n : ℕ) : Type 0 where
  pub program : Domain
  pub there : slice_get domains d ≡ Some program
  pub place : position (holds_file number) program.control.resources.held ≡ Some n

at_program : (d number n : ℕ) (domains : List Domain) (o : Option Domain) → slice_get domains d ≡ o →
    option_and_then (λ (program : Domain). position (holds_file number) program.control.resources.held) o ≡ Some n →
    IsAt domains d number n
at_program d number n domains None there is = absurd cc
at_program d number n domains (Some program) there is = record { program = program; there = there; place = is }

pub is_at : (d number n : ℕ) (domains : List Domain) → resource_of_file domains d number ≡ Some n →
    IsAt domains d number n
is_at d number n domains is = at_program d number n domains (slice_get domains d) refl is

pub held_at : (domains : List Domain) (d number n : ℕ) (at : IsAt domains d number n) →
    holds_file number (resource_at at.program.control.resources n) ≡ true
held_at domains d number n at = (position-Some (holds_file number) at.program.control.resources.held n None at.place).1

same_owner : (a b : ℕ) (o : Owner) → is_file a o ≡ true → is_file b o ≡ true → a ≡ b
same_owner a b (Space space) first second = absurd (false≢true first)
same_owner a b (File n) first second = sym (eqb-true n a first) ∙ eqb-true n b second

pub same_file : (a b : ℕ) (o : Option Resource) → holds_file a o ≡ true → holds_file b o ≡ true → a ≡ b
same_file a b None first second = absurd (false≢true first)
same_file a b (Some held) first second = same_owner a b held.owner first second

-- a resource is one file
one_file : (domains : List Domain) (d a b n : ℕ) → IsAt domains d a n → IsAt domains d b n → a ≡ b
one_file domains d a b n first second =
    let same : first.program ≡ second.program =
    some_same first.program second.program (sym first.there ∙ second.there) in
    same_file a b (resource_at second.program.control.resources n)
    (subst (λ (p : Domain). holds_file a (resource_at p.control.resources n) ≡ true) same (held_at domains d a n first))
    (held_at domains d b n second)
  where
    some_same : (x y : Domain) → Some x ≡ Some y → x ≡ y
    some_same x y is = cc

-- Files in order.

-- a file stands before each of these
abbrev pub PrecedesAll : FileContents → List FileContents → Type 0
PrecedesAll f [] = Unit {0}
PrecedesAll f (g ∷ files) = Precedes (stored_file f) (stored_file g) × PrecedesAll f files

precedes_then : (f g h : FileContents) → Precedes (stored_file f) (stored_file g) →
    Precedes (stored_file g) (stored_file h) → Precedes (stored_file f) (stored_file h)
precedes_then f g h (inl first) (inl second) = inl (omega (arith, first, second))
precedes_then f g h (inl first) (inr second) = inl (omega (arith, first, second.0))
precedes_then f g h (inr first) (inl second) = inl (omega (arith, first.0, second))
precedes_then f g h (inr first) (inr second) = inr (first.0 ∙ second.0, omega (arith, first.1, second.1))

before_then : (f g : FileContents) (files : List FileContents) → Precedes (stored_file f) (stored_file g) →
    PrecedesAll g files → PrecedesAll f files
before_then f g [] first before = tt
before_then f g (h ∷ files) first before =
    (precedes_then f g h first before.0, before_then f g files first before.1)

pub rise_before : (f : FileContents) (files : List FileContents) → Rise (table_of (f ∷ files)) → PrecedesAll f files
rise_before f [] rise = tt
rise_before f (g ∷ files) rise = (rise.0, before_then f g files rise.0 (rise_before g files rise.1))

pub rise_later : (f : FileContents) (files : List FileContents) → Rise (table_of (f ∷ files)) → Rise (table_of files)
rise_later f [] rise = tt
rise_later f (g ∷ files) rise = rise.1

-- another domain or another number
abbrev Differ : FileContents → ℕ → ℕ → Type 0
Differ g d number = g.domain ≡ d → g.number ≢ number

after_differs : (f g : FileContents) → Precedes (stored_file f) (stored_file g) → Differ g f.domain f.number
after_differs f g (inl less) same number = omega (arith, less, same)
after_differs f g (inr less) same number = omega (arith, less.1, number)

before_differs : (f g : FileContents) → Precedes (stored_file g) (stored_file f) → Differ g f.domain f.number
before_differs f g (inl less) same number = omega (arith, less, same)
before_differs f g (inr less) same number = omega (arith, less.1, number)

found_before : (f g : FileContents) (files : List FileContents) → PrecedesAll g files → Has f files →
    Precedes (stored_file g) (stored_file f)
found_before f g [] before has = absurd has
found_before f g (h ∷ files) before (inl same) =
    subst (λ (x : FileContents). Precedes (stored_file g) (stored_file x)) same before.0
found_before f g (h ∷ files) before (inr rest) = found_before f g files before.1 rest

-- Pages of one file.

pub contents_latest : (d n page : ℕ) (contents : List (Option PageContent)) (history : List Move) (q : PageId)
    (at : ℕ) →
    ((k : ℕ) → page ≤ k → q ≢ page_of d n k) →
    latest (made_contents d n page contents history) q at ≡ latest history q at
unfolding latest
contents_latest d n page [] history q at other = refl
contents_latest d n page (None ∷ contents) history q at other =
    contents_latest d n (page + 1) contents history q at (λ k low. other k (omega (arith, low)))
contents_latest d n page (Some c ∷ contents) history q at other =
    contents_latest d n (page + 1) contents (Makes (page_of d n page) c.plain ∷ history) q at
    (λ k low. other k (omega (arith, low)))
    ∙ ap (λ (b : Bool). cond b (slice_index c.plain at) (latest history q at))
    (same_page-other q (page_of d n page) (other page (omega arith)))

-- the byte with which a page is made, if it was shown
abbrev pub made_byte : Option PageContent → ℕ → ℕ → ℕ
made_byte None at was = was
made_byte (Some c) at was = slice_index c.plain at

contents_made : (d n page i : ℕ) (contents : List (Option PageContent)) (history : List Move) (at : ℕ) →
    latest (made_contents d n page contents history) (page_of d n (page + i)) at
    ≡ made_byte (slice_index_or contents i None) at (latest history (page_of d n (page + i)) at)
unfolding latest
contents_made d n page i [] history at = refl
contents_made d n page zero (None ∷ contents) history at =
    contents_latest d n (page + 1) contents history (page_of d n (page + 0)) at (λ k low same.
    let number : page + 0 ≡ k = ap (λ (x : PageId). x.page) same in omega (arith, low, number))
contents_made d n page zero (Some c ∷ contents) history at =
    let q : PageId = page_of d n (page + 0) in
    let here : q ≡ page_of d n page = ap (page_of d n) (omega arith) in
    contents_latest d n (page + 1) contents (Makes (page_of d n page) c.plain ∷ history) q at (λ k low same.
    let number : page + 0 ≡ k = ap (λ (x : PageId). x.page) same in omega (arith, low, number))
    ∙ ap (λ (x : PageId). cond (same_page x (page_of d n page)) (slice_index c.plain at) (latest history x at)) here
    ∙ ap (λ (b : Bool). cond b (slice_index c.plain at) (latest history (page_of d n page) at))
    (same_page-self (page_of d n page))
contents_made d n page (suc i) (None ∷ contents) history at =
    let count : page + 1 + i ≡ page + suc i = omega arith in
    subst (λ (k : ℕ). latest (made_contents d n (page + 1) contents history) (page_of d n k) at
    ≡ made_byte (slice_index_or contents i None) at (latest history (page_of d n k) at)) count
    (contents_made d n (page + 1) i contents history at)
contents_made d n page (suc i) (Some c ∷ contents) history at =
    let count : page + 1 + i ≡ page + suc i = omega arith in
    let q : PageId = page_of d n (page + suc i) in
    let made : List Move = Makes (page_of d n page) c.plain ∷ history in
    subst (λ (k : ℕ). latest (made_contents d n (page + 1) contents made) (page_of d n k) at
    ≡ made_byte (slice_index_or contents i None) at (latest made (page_of d n k) at)) count
    (contents_made d n (page + 1) i contents made at)
    ∙ ap (made_byte (slice_index_or contents i None) at)
    (ap (λ (b : Bool). cond b (slice_index c.plain at) (latest history q at))
    (same_page-other q (page_of d n page) (λ same.
    let number : page + suc i ≡ page = ap (λ (x : PageId). x.page) same in omega (arith, number))))

-- All files.

module _ (domains : List Domain) (d number n : ℕ) (here : IsAt domains d number n) where
  file_apart : (g : FileContents) (o : Option ℕ) (history : List Move) (page at : ℕ) → Differ g d number →
      resource_of_file domains g.domain g.number ≡ o →
      latest (made_file g o history) (page_of d n page) at ≡ latest history (page_of d n page) at
  file_apart g None history page at other is = refl
  file_apart g (Some k) history page at other is =
      contents_latest g.domain k 0 g.pages history (page_of d n page) at (λ i low same.
      let domain : d ≡ g.domain = ap (λ (x : PageId). x.domain) same in
      let resource : n ≡ k = ap (λ (x : PageId). x.resource) same in
      let there : IsAt domains d g.number n =
      subst (λ (e : ℕ). IsAt domains e g.number n) (sym domain)
      (subst (λ (r : ℕ). IsAt domains g.domain g.number r) (sym resource)
      (is_at g.domain g.number k domains is)) in
      other (sym domain) (one_file domains d g.number number n there here))

  files_apart : (f : FileContents) (files : List FileContents) (history : List Move) (page at : ℕ) → f.domain ≡ d →
      f.number ≡ number → PrecedesAll f files →
      latest (made_files domains files history) (page_of d n page) at ≡ latest history (page_of d n page) at
  files_apart f [] history page at domain same before = refl
  files_apart f (g ∷ files) history page at domain same before =
      files_apart f files _ page at domain same before.1
      ∙ file_apart g (resource_of_file domains g.domain g.number) history page at
      (λ own file. after_differs f g before.0 (own ∙ sym domain) (file ∙ sym same)) refl

  file_made : (f : FileContents) (o : Option ℕ) (history : List Move) (page at : ℕ) → f.domain ≡ d → o ≡ Some n →
      latest (made_file f o history) (page_of d n page) at
      ≡ made_byte (slice_index_or f.pages page None) at (latest history (page_of d n page) at)
  file_made f None history page at domain is = absurd cc
  file_made f (Some k) history page at domain is =
      let same : k ≡ n = cc in
      let count : 0 + page ≡ page = omega arith in
      subst (λ (e : ℕ). latest (made_contents e k 0 f.pages history) (page_of d n page) at
      ≡ made_byte (slice_index_or f.pages page None) at (latest history (page_of d n page) at)) (sym domain)
      (subst (λ (r : ℕ). latest (made_contents d r 0 f.pages history) (page_of d n page) at
      ≡ made_byte (slice_index_or f.pages page None) at (latest history (page_of d n page) at)) (sym same)
      (subst (λ (i : ℕ). latest (made_contents d n 0 f.pages history) (page_of d n i) at
      ≡ made_byte (slice_index_or f.pages page None) at (latest history (page_of d n i) at)) count
      (contents_made d n 0 page f.pages history at)))

  pub files_made : (f : FileContents) (files : List FileContents) (history : List Move) (page at : ℕ) → f.domain ≡ d →
      f.number ≡ number → resource_of_file domains d number ≡ Some n → Rise (table_of files) → Has f files →
      latest (made_files domains files history) (page_of d n page) at
      ≡ made_byte (slice_index_or f.pages page None) at (latest history (page_of d n page) at)
  files_made f [] history page at domain same is rise has = absurd has
  files_made f (g ∷ files) history page at domain same is rise (inl first) =
      files_apart g files _ page at (ap (λ (x : FileContents). x.domain) first ∙ domain)
      (ap (λ (x : FileContents). x.number) first ∙ same) (rise_before g files rise)
      ∙ file_made g (resource_of_file domains g.domain g.number) history page at
      (ap (λ (x : FileContents). x.domain) first ∙ domain)
      (ap (λ (x : FileContents). resource_of_file domains x.domain x.number) first
      ∙ (ap (λ (e : ℕ). resource_of_file domains e f.number) domain
      ∙ (ap (λ (k : ℕ). resource_of_file domains d k) same ∙ is)))
      ∙ ap (λ (x : FileContents). made_byte (slice_index_or x.pages page None) at
      (latest history (page_of d n page) at)) first
  files_made f (g ∷ files) history page at domain same is rise (inr rest) =
      let before = found_before f g files (rise_before g files rise) rest in
      files_made f files _ page at domain same is (rise_later g files rise) rest
      ∙ ap (made_byte (slice_index_or f.pages page None) at)
      (file_apart g (resource_of_file domains g.domain g.number) history page at
      (λ own file. before_differs f g before (own ∙ sym domain) (file ∙ sym same)) refl)

-- The programs' pages are of resource 0.

pub no_program : (programs : List Program) (q : PageId) (at : ℕ) → q.resource ≢ 0 →
    latest (made_programs 0 programs []) q at ≡ 0
unfolding latest
no_program programs q at other = programs_latest 0 programs [] q at other
