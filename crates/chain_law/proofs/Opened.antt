-- As a run over files begins, each of them is there with its pages, and no two files of a domain have one number.
use Rattle.std.proofs.Common.{◌≡◌, ◌∙◌, ◌⊎◌, inl, inr, ℕ, zero, suc, ◌+◌, Bool, true, false, cond, List, [], ◌∷◌, length, get_or, slice_get, slice_set, Option, Some, None, Ok, refl, sym, ap, subst}
use Rattle.std.specs.Prelude.{position, is_none, ◌==◌}
use Rattle.std.proofs.lemmas.Bool.{false≢true, eqb-true}
use Rattle.std.proofs.lemmas.List.{get_or-set_same, get_or-set_other}
use Rattle.std.proofs.lemmas.List.Quantifiers.{position-Some}
use Rattle.cloak_model.specs.declared.image.Bundle.{Bundle}
use Rattle.cloak_model.specs.declared.image.Program.{Program}
use Rattle.cloak_model.specs.declared.resource.MapFault.TheVariants.{BadArg}
use Rattle.cloak_model.specs.declared.resource.Owner.TheVariants.{File}
use Rattle.cloak_model.specs.declared.resource.Resource.{Resource}
use Rattle.cloak_model.specs.Beginning.{Beginning, opening_from}
use Rattle.cloak_model.specs.Cloaking.{CloakedMemory}
use Rattle.cloak_model.specs.DomainState.{Domain, with_resources, started_control, started_domain}
use Rattle.cloak_model.specs.Files.{holds_file, file_found, file_resource}
use Rattle.cloak_model.specs.Opening.{RunEdge, started_domains, started_joint}
use Rattle.cloak_model.specs.Parts.{Joint}
use Rattle.cloak_model.specs.Resources.{Resources, Mapped, resource_at, pages_of, refused, started_resources}
use Rattle.cloak_model.specs.Run.{Run, run_from, run_of}
use Rattle.cloak_model.specs.StoredFiles.{FileContents}
use Rattle.domain_isolation.proofs.InOrder.{decided}
use Rattle.kernel_isolation.proofs.FilesAdded.{IsGiven, file_made, files_of, files_carry, files_keep, opens_over}
use Rattle.kernel_isolation.proofs.Isolated.{of_opened}
use Rattle.resource_map.proofs.Lists.{none_from_test, get_or-replicate_none}
use Rattle.page_law.proofs.Given.{ComesBy, WasThere, IsNew, comes_by, new_at, after_set, HasOwn, added_own}
use Rattle.chain_law.proofs.Contents.{Has}
use Rattle.chain_law.proofs.Making.{same_file}
use Rattle.latest_store.proofs.Begun.{holds_itself, given_place, place_stays, get_other, get_same}
use Rattle.cloak_model.proofs.Opening.{joint_domains}

-- The size of a file.

size_by : (right : Bool) (pages m n : ℕ) (r : Resources) → (pages_of (resource_at r m) == pages) ≡ right →
    let made : Mapped ℕ = cond right (record { answer = Ok m; resources = r }) (refused BadArg r) in
    made.answer ≡ Ok n → pages_of (resource_at made.resources n) ≡ pages
size_by true pages m n r is made =
    let same : m ≡ n = cc in
    subst (λ (k : ℕ). pages_of (resource_at r k) ≡ pages) same (eqb-true (pages_of (resource_at r m)) pages is)
size_by false pages m n r is made = absurd cc

found_size : (place : Option ℕ) (number pages n : ℕ) (r : Resources) →
    (file_found number pages place r).answer ≡ Ok n →
    pages_of (resource_at (file_found number pages place r).resources n) ≡ pages
unfolding file_found
found_size None number pages n r made =
    let new = new_at (File number) pages r n made in
    subst (λ (x : Resources). pages_of (resource_at x n) ≡ pages) new.is
    (ap pages_of (get_or-set_same r.held n (Some (record { owner = File number; pages = pages })) None
    (position-Some is_none r.held n None new.free).0))
found_size (Some m) number pages n r made = size_by _ pages m n r refl made

file_size : (number pages n : ℕ) (r : Resources) → (file_resource number pages r).answer ≡ Ok n →
    pages_of (resource_at (file_resource number pages r).resources n) ≡ pages
unfolding file_resource
file_size number pages n r made = found_size (position (holds_file number) r.held) number pages n r made

-- Which resource a file is.

resource_stays : (number other pages k n : ℕ) (r r' : Resources) → ComesBy other pages r k r' →
    holds_file number (resource_at r n) ≡ true → resource_at r' n ≡ resource_at r n
resource_stays number other pages k n r r' (WasThere there same) holds = ap (λ (x : Resources). resource_at x n) same
resource_stays number other pages k n r r' (IsNew none made same) holds =
    let new = new_at (File other) pages r k made in
    let empty = none_from_test (get_or r.held k None) (position-Some is_none r.held k None new.free).1 in
    ap (λ (x : Resources). resource_at x n) (same ∙ sym new.is)
    ∙ get_or-set_other r.held k n _ None (λ is.
    false≢true (sym (ap (holds_file number) (ap (λ (i : ℕ). get_or r.held i None) is ∙ empty)) ∙ holds))

-- a file is one that was there, or the new one
new_or_old : (other pages k n number : ℕ) (r r' : Resources) → ComesBy other pages r k r' →
    holds_file number (resource_at r' n) ≡ true →
    ((n ≡ k) × (number ≡ other)) ⊎ (holds_file number (resource_at r n) ≡ true)
new_or_old other pages k n number r r' (WasThere there same) holds =
    inr (ap (λ (x : Resources). holds_file number (resource_at x n)) (sym same) ∙ holds)
new_or_old other pages k n number r r' (IsNew none made same) holds =
    let new = new_at (File other) pages r k made in
    let x : Option Resource = Some (record { owner = File other; pages = pages }) in
    let is : r' ≡ record r { held = slice_set r.held k x } = same ∙ sym new.is in
    let inside = (position-Some is_none r.held k None new.free).0 in
    elim (decided n k) [
      | inl here ↦
          let there : resource_at r' n ≡ x =
          ap (λ (y : Resources). resource_at y n) is
          ∙ (ap (λ (i : ℕ). get_or (slice_set r.held k x) i None) here ∙ get_or-set_same r.held k x None inside) in
          inl (
            here,
            same_file number other x (ap (holds_file number) (sym there) ∙ holds) (holds_itself other pages),
          )
      | inr apart ↦
          let was : resource_at r' n ≡ resource_at r n =
          ap (λ (y : Resources). resource_at y n) is ∙ get_or-set_other r.held k n x None apart in
          inr (ap (holds_file number) (sym was) ∙ holds)
    ]

-- No two files have one number: a resource that is a file is the one that is found under its number.

abbrev pub IsUnique : Resources → Type 0
IsUnique r =
    (n number : ℕ) → holds_file number (resource_at r n) ≡ true → position (holds_file number) r.held ≡ Some n

unique_stays : (other pages k : ℕ) (r r' : Resources) → ComesBy other pages r k r' → IsUnique r → IsUnique r'
unique_stays other pages k r r' comes unique n number holds =
    elim (new_or_old other pages k n number r r' comes holds) [
      | inl new ↦
          ap (λ (i : ℕ). position (holds_file i) r'.held) new.1
          ∙ (given_place other pages k r r' comes ∙ ap (λ (i : ℕ). Some i) (sym new.0))
      | inr old ↦ place_stays number other pages k n r r' comes (unique n number old)
    ]

-- a program begins without files
started_none : (pages base n number : ℕ) → holds_file number (resource_at (started_resources pages base) n) ≡ true → ⊥
unfolding started_resources
started_none pages base zero number holds = false≢true holds
started_none pages base (suc n) number holds =
    false≢true (ap (holds_file number) (sym (get_or-replicate_none 15 n)) ∙ holds)

abbrev HasNoFile : Resources → Type 0
HasNoFile r = (n number : ℕ) → holds_file number (resource_at r n) ≡ true → ⊥

domains_none : (d e : ℕ) (programs : List Program) (program : Domain) →
    slice_get (started_domains d programs) e ≡ Some program → HasNoFile program.control.resources
unfolding started_domain started_control
domains_none d e [] program is = absurd cc
domains_none d zero (p ∷ programs) program is =
    (let same : started_domain d p.start ≡ program = cc in
    subst (λ (x : Domain). HasNoFile x.control.resources) same (started_none p.start.pages p.start.base))
domains_none d (suc e) (p ∷ programs) program is = domains_none (d + 1) e programs program is

abbrev AllUnique : Joint → Type 0
AllUnique j = (d : ℕ) (program : Domain) → slice_get j.domains d ≡ Some program → IsUnique program.control.resources

given_unique : (f : FileContents) (x y : Joint) → IsGiven f x y → AllUnique x → AllUnique y
given_unique f x y given all =
    let made = file_made f given.domain in
    let comes = comes_by f.number (length f.pages) given.resource given.domain.control.resources given.answer in
    subst AllUnique given.is (λ d program is.
    after_set (λ (z : Domain). IsUnique z.control.resources) x.domains f.domain d given.domain _ program given.there is
    (all d)
    (unique_stays f.number (length f.pages) given.resource given.domain.control.resources made.resources comes))

-- Each file is there with its pages.

pub record IsSized (domains : List Domain) (f : FileContents) : Type 0 where
  pub program : Domain
  pub there : slice_get domains f.domain ≡ Some program
  pub resource : ℕ
  pub place : position (holds_file f.number) program.control.resources.held ≡ Some resource
  pub size : pages_of (resource_at program.control.resources resource) ≡ length f.pages

some_same : (x y : Domain) → Some x ≡ Some y → x ≡ y
some_same x y is = cc

module _ (f : FileContents) (x y : Joint) (given : IsGiven f x y) where
  abbrev was : Resources
  was = given.domain.control.resources

  abbrev made : Resources
  made = (file_made f given.domain).resources

  abbrev now : Domain
  now = with_resources made given.domain

  comes : ComesBy f.number (length f.pages) was given.resource made
  comes = comes_by f.number (length f.pages) given.resource was given.answer

  domains_are : slice_set x.domains f.domain now ≡ y.domains
  domains_are = ap (λ (j : Joint). j.domains) given.is

  here_sized : IsSized y.domains f
  here_sized = subst (λ (domains : List Domain). IsSized domains f) domains_are (record {
    program = now;
    there = get_same x.domains f.domain given.domain now given.there;
    resource = given.resource;
    place = given_place f.number (length f.pages) given.resource was made comes;
    size = file_size f.number (length f.pages) given.resource was given.answer;
  })

  still_sized : (g : FileContents) → IsSized x.domains g → IsSized y.domains g
  still_sized g sized =
      let holds = (position-Some (holds_file g.number) sized.program.control.resources.held sized.resource None
      sized.place).1 in
      subst (λ (domains : List Domain). IsSized domains g) domains_are
      (elim (decided g.domain f.domain) [
        | inl same ↦
            let own : sized.program ≡ given.domain =
            some_same sized.program given.domain
            (sym sized.there ∙ ap (λ (e : ℕ). slice_get x.domains e) same ∙ given.there) in
            let place = subst (λ (p : Domain). position (holds_file g.number) p.control.resources.held
            ≡ Some sized.resource) own sized.place in
            let held = subst (λ (p : Domain). holds_file g.number (resource_at p.control.resources sized.resource)
            ≡ true) own holds in
            let size = subst (λ (p : Domain). pages_of (resource_at p.control.resources sized.resource)
            ≡ length g.pages) own sized.size in
            record {
              program = now;
              there = ap (λ (e : ℕ). slice_get (slice_set x.domains f.domain now) e) same
                  ∙ get_same x.domains f.domain given.domain now given.there;
              resource = sized.resource;
              place = place_stays g.number f.number (length f.pages) given.resource sized.resource was made comes place;
              size = ap pages_of (resource_stays g.number f.number (length f.pages) given.resource sized.resource was
                  made comes held) ∙ size;
            }
        | inr other ↦ record {
          program = sized.program;
          there = get_other x.domains f.domain g.domain now other ∙ sized.there;
          resource = sized.resource;
          place = sized.place;
          size = sized.size;
        }
      ])

abbrev SizedUpTo : List FileContents → List FileContents → Joint → Type 0
SizedUpTo files rest j = (g : FileContents) → Has g files → Has g rest ⊎ IsSized j.domains g

one_sized : (files : List FileContents) (f : FileContents) (rest : List FileContents) (x y : Joint) → IsGiven f x y →
    SizedUpTo files (f ∷ rest) x → SizedUpTo files rest y
one_sized files f rest x y given sized g has = elim (sized g has) [
  | inl later ↦ first_or_rest later
  | inr before ↦ inr (still_sized f x y given g before)
] where
  first_or_rest : Has g (f ∷ rest) → Has g rest ⊎ IsSized y.domains g
  first_or_rest (inl same) = inr (subst (λ (h : FileContents). IsSized y.domains h) same (here_sized f x y given))
  first_or_rest (inr later) = inl later

none_left : (g : FileContents) (j : Joint) → Has g [] ⊎ IsSized j.domains g → IsSized j.domains g
none_left g j (inl none) = absurd none
none_left g j (inr sized) = sized

-- Each file of the machine is one of those that were given.

pub record IsAmong (files : List FileContents) (d number : ℕ) : Type 0 where
  pub file : FileContents
  pub has : Has file files
  pub domain : file.domain ≡ d
  pub same : file.number ≡ number

abbrev ComeFrom : List FileContents → Joint → Type 0
ComeFrom files j =
    (d : ℕ) (program : Domain) → slice_get j.domains d ≡ Some program → (n number : ℕ) →
    holds_file number (resource_at program.control.resources n) ≡ true → IsAmong files d number

abbrev ComeUpTo : List FileContents → List FileContents → Joint → Type 0
ComeUpTo files rest j = ((g : FileContents) → Has g rest → Has g files) × ComeFrom files j

module _ (files : List FileContents) (f : FileContents) (x y : Joint) (given : IsGiven f x y) (has : Has f files)
    (before : ComeFrom files x)
  where
    here_from : (program : Domain) → now f x y given ≡ program → (n number : ℕ) →
        holds_file number (resource_at program.control.resources n) ≡ true → IsAmong files f.domain number
    here_from program is n number holds =
        elim (new_or_old f.number (length f.pages) given.resource n number (was f x y given) (made f x y given)
        (comes f x y given)
        (ap (λ (p : Domain). holds_file number (resource_at p.control.resources n)) is ∙ holds)) [
          | inl new ↦ record { file = f; has = has; domain = refl; same = sym new.1 }
          | inr old ↦ before f.domain given.domain given.there n number old
        ]

    domain_from : ComeFrom files (record x { domains = slice_set x.domains f.domain (now f x y given) })
    domain_from d program is n number holds = elim (decided d f.domain) [
      | inl same ↦
          let there = ap (λ (e : ℕ). slice_get (slice_set x.domains f.domain (now f x y given)) e) (sym same) ∙ is in
          let own : now f x y given ≡ program =
          some_same (now f x y given) program
          (sym (get_same x.domains f.domain given.domain (now f x y given) given.there) ∙ there) in
          subst (λ (e : ℕ). IsAmong files e number) (sym same) (here_from program own n number holds)
      | inr other ↦
          before d program (sym (get_other x.domains f.domain d (now f x y given) other) ∙ is) n number holds
    ]

    given_from : ComeFrom files y
    given_from d program is =
        domain_from d program (ap (λ (l : List Domain). slice_get l d) (domains_are f x y given) ∙ is)

one_comes : (files : List FileContents) (f : FileContents) (rest : List FileContents) (x y : Joint) → IsGiven f x y →
    ComeUpTo files (f ∷ rest) x → ComeUpTo files rest y
one_comes files f rest x y given come = (
  (λ g has. come.0 g (inr has)),
  given_from files f x y given (come.0 f (inl refl)) come.1,
)

-- The opened machine.
pub record OpensFiles (files : List FileContents) (j : Joint) : Type 0 where
  pub from : (d : ℕ) (program : Domain) → slice_get j.domains d ≡ Some program → (n number : ℕ) →
      holds_file number (resource_at program.control.resources n) ≡ true → IsAmong files d number
  pub sized : (g : FileContents) → Has g files → IsSized j.domains g
  pub own : (d : ℕ) (program : Domain) → slice_get j.domains d ≡ Some program → HasOwn program.control.resources
  pub unique : (d : ℕ) (program : Domain) → slice_get j.domains d ≡ Some program → IsUnique program.control.resources

joint_unique : (b : Bundle) (m : CloakedMemory) → AllUnique (started_joint b m)
unfolding started_joint
joint_unique b m d program is n number holds = absurd (domains_none 0 d b.programs program is n number holds)

joint_from : (files : List FileContents) (b : Bundle) (m : CloakedMemory) → ComeFrom files (started_joint b m)
unfolding started_joint
joint_from files b m d program is n number holds = absurd (domains_none 0 d b.programs program is n number holds)

machine_opens : (b : Bundle) (from : Beginning) (o : RunEdge) → opening_from b from ≡ Ok o →
    OpensFiles (files_of from) o.joint
machine_opens b from o opens =
    let over = opens_over b from o opens in
    let files = files_of from in
    let first = started_joint b over.memory in
    let own = added_own files b.programs first o.joint over.added (joint_domains b over.memory) in
    let sized : SizedUpTo files [] o.joint =
    files_carry (SizedUpTo files) (one_sized files) files first o.joint over.added (λ g has. inl has) in
    let come : ComeUpTo files [] o.joint =
    files_carry (ComeUpTo files) (one_comes files) files first o.joint over.added
    ((λ g has. has), joint_from files b over.memory) in
    record {
      from = come.1;
      sized = λ g has. none_left g o.joint (sized g has);
      own = own.own;
      unique = files_keep AllUnique given_unique files first o.joint over.added (joint_unique b over.memory);
    }

run_opens : (b : Bundle) (budget : ℕ) (files : List FileContents) (o : RunEdge) → OpensFiles files o.joint →
    OpensFiles files (run_of b budget o).opened.joint
unfolding run_of
run_opens b budget files o opens = opens

pub opens_files : (b : Bundle) (from : Beginning) (budget : ℕ) (r : Run) → run_from b from budget ≡ Ok r →
    OpensFiles (files_of from) r.opened.joint
opens_files b from budget r is =
    of_opened b budget (λ (x : Run). OpensFiles (files_of from) x.opened.joint) (opening_from b from) r is
    (λ o opens. run_opens b budget (files_of from) o (machine_opens b from o opens))
