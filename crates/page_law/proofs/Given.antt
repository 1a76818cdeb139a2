-- The resource that a domain gets for a file, and that files leave what is of its program: resource 0 and its pages.
use Rattle.std.proofs.Common.{◌≡◌, ◌≢◌, ◌∙◌, ℕ, zero, suc, ◌+◌, Bool, true, false, cond, List, [], ◌∷◌, length, slice_get, slice_set, get_or, Option, Some, None, Ok, refl, sym, ap, subst}
use Rattle.std.specs.Prelude.{◌==◌, ◌||◌, nat_lt, position, is_none}
use Rattle.std.proofs.lemmas.Bool.{false≢true}
use Rattle.std.proofs.lemmas.List.{get_or-set_other}
use Rattle.std.proofs.lemmas.List.Quantifiers.{position-Some}
use Rattle.cloak_base.proofs.Pages.{same_page-other}
use Rattle.cloak_base.specs.declared.names.PageId.{PageId}
use Rattle.cloak_model.specs.declared.image.Program.{Program}
use Rattle.cloak_model.specs.declared.resource.MapFault.{MapFault}
use Rattle.cloak_model.specs.declared.resource.MapFault.TheVariants.{BadArg, Full}
use Rattle.cloak_model.specs.declared.resource.Owner.{Owner}
use Rattle.cloak_model.specs.declared.resource.Owner.TheVariants.{Space, File}
use Rattle.cloak_model.specs.declared.resource.Resource.{Resource}
use Rattle.cloak_model.specs.Beginning.{with_content, with_contents, files_added}
use Rattle.cloak_model.specs.Cloaking.{CloakedMemory}
use Rattle.cloak_model.specs.DomainState.{Domain, started_control, started_domain}
use Rattle.cloak_model.specs.Files.{holds_file, file_found, file_resource}
use Rattle.cloak_model.specs.Opening.{started_domains}
use Rattle.cloak_model.specs.Parts.{Joint}
use Rattle.cloak_model.specs.Resources.{Resources, Mapped, resource_at, started_resources, all_pages, first_free, refused, made_at, new_resource}
use Rattle.cloak_model.specs.StoredFiles.{PageContent, FileContents}
use Rattle.kernel_isolation.proofs.FilesAdded.{IsGiven, file_made, files_keep}

-- Resources.

-- These resources come of those by a file of this number: it has been there as resource n, or is new.
pub data ComesBy (number pages : ℕ) (r : Resources) (n : ℕ) (r' : Resources) : Type 0 where
  WasThere : position (holds_file number) r.held ≡ Some n → r' ≡ r → ComesBy number pages r n r'
  IsNew : position (holds_file number) r.held ≡ None → (new_resource (File number) pages r).answer ≡ Ok n →
      r' ≡ (new_resource (File number) pages r).resources → ComesBy number pages r n r'

there_by : (right : Bool) (number pages m n : ℕ) (r : Resources) → position (holds_file number) r.held ≡ Some m →
    let made : Mapped ℕ = cond right (record { answer = Ok m; resources = r }) (refused BadArg r) in
    made.answer ≡ Ok n → ComesBy number pages r n made.resources
there_by true number pages m n r is made =
    (let same : m ≡ n = cc in WasThere (is ∙ ap (λ (k : ℕ). Some k) same) refl)
there_by false number pages m n r is made = absurd cc

found_by : (place : Option ℕ) (number pages n : ℕ) (r : Resources) → position (holds_file number) r.held ≡ place →
    (file_found number pages place r).answer ≡ Ok n → ComesBy number pages r n (file_found number pages place r).resources
unfolding file_found
found_by None number pages n r is made = IsNew is made refl
found_by (Some m) number pages n r is made = there_by _ number pages m n r is made

pub comes_by : (number pages n : ℕ) (r : Resources) → (file_resource number pages r).answer ≡ Ok n →
    ComesBy number pages r n (file_resource number pages r).resources
unfolding file_resource
comes_by number pages n r made = found_by (position (holds_file number) r.held) number pages n r refl made

-- A new resource is at the lowest free number.
pub record IsNewAt (owner : Owner) (pages : ℕ) (r : Resources) (n : ℕ) (r' : Resources) : Type 0 where
  pub free : first_free r.held ≡ Some n
  pub is : record r { held = slice_set r.held n (Some (record { owner = owner; pages = pages })) } ≡ r'

new_by : (owner : Owner) (pages : ℕ) (place : Option ℕ) (r : Resources) (n : ℕ) → first_free r.held ≡ place →
    (made_at owner pages place r).answer ≡ Ok n → IsNewAt owner pages r n (made_at owner pages place r).resources
unfolding made_at
new_by owner pages None r n is made = absurd cc
new_by owner pages (Some m) r n is made = (let same : m ≡ n = cc in record {
  free = is ∙ ap (λ (k : ℕ). Some k) same;
  is = ap (λ (k : ℕ). record r { held = slice_set r.held k (Some (record { owner = owner; pages = pages })) }) (sym same);
})

new_either : (test : Bool) (fault : MapFault) (owner : Owner) (pages : ℕ) (r : Resources) (n : ℕ) (made : Mapped ℕ) →
    (made.answer ≡ Ok n → IsNewAt owner pages r n made.resources) → (cond test (refused fault r) made).answer ≡ Ok n →
    IsNewAt owner pages r n (cond test (refused fault r) made).resources
new_either true fault owner pages r n made new is = absurd cc
new_either false fault owner pages r n made new is = new is

pub new_at : (owner : Owner) (pages : ℕ) (r : Resources) (n : ℕ) → (new_resource owner pages r).answer ≡ Ok n →
    IsNewAt owner pages r n (new_resource owner pages r).resources
unfolding new_resource
new_at owner pages r n made =
    let full : Bool = nat_lt 1024 (all_pages r + pages) in
    let free : Mapped ℕ = made_at owner pages (first_free r.held) r in
    new_either ((pages == 0) || nat_lt 1024 pages) BadArg owner pages r n (cond full (refused Full r) free)
    (new_either full Full owner pages r n free (new_by owner pages (first_free r.held) r n refl)) made

-- The program's own resource.

-- resource 0 is there, and is no file
pub record HasOwn (r : Resources) : Type 0 where
  pub space : ℕ
  pub pages : ℕ
  pub is : resource_at r 0 ≡ Some (record { owner = Space space; pages = pages })

-- what resource 0 fails is true of another
apart : (test : Option Resource → Bool) (n : ℕ) (r : Resources) (own : HasOwn r) →
    test (Some (record { owner = Space own.space; pages = own.pages })) ≡ false → test (get_or r.held n None) ≡ true →
    n ≢ 0
apart test n r own fails passes same =
    false≢true (sym (ap (λ (k : ℕ). test (get_or r.held k None)) same ∙ (ap test own.is ∙ fails)) ∙ passes)

-- a file is another resource, and leaves it
pub own_stays : (number pages n : ℕ) (r r' : Resources) → ComesBy number pages r n r' → HasOwn r →
    (n ≢ 0) × HasOwn r'
own_stays number pages n r r' (WasThere found same) own = (
  apart (holds_file number) n r own refl (position-Some (holds_file number) r.held n None found).1,
  subst HasOwn (sym same) own,
)
own_stays number pages n r r' (IsNew none made same) own =
    let new = new_at (File number) pages r n made in
    let other = apart is_none n r own refl (position-Some is_none r.held n None new.free).1 in (
      other,
      subst HasOwn (sym same)
          (subst HasOwn new.is (record {
            space = own.space;
            pages = own.pages;
            is = get_or-set_other r.held n 0 _ None (λ same. other (sym same)) ∙ own.is;
          })),
    )

-- as a program begins
started_own : (d e : ℕ) (programs : List Program) (domain : Domain) →
    slice_get (started_domains d programs) e ≡ Some domain → HasOwn domain.control.resources
unfolding started_domain started_control started_resources
started_own d e [] domain is = absurd cc
started_own d zero (p ∷ programs) domain is =
    (let same : started_domain d p.start ≡ domain = cc in
    subst (λ (x : Domain). HasOwn x.control.resources) same (record { space = 0; pages = p.start.pages; is = refl }))
started_own d (suc e) (p ∷ programs) domain is = started_own (d + 1) e programs domain is

-- Pages.

content_apart : (p : PageId) (c : Option PageContent) (m : CloakedMemory) (q : PageId) → q.resource ≢ p.resource →
    (with_content p c m).plain q ≡ m.plain q
content_apart p None m q other = refl
content_apart p (Some c) m q other =
    ap (λ (b : Bool). cond b c.plain (m.plain q))
    (same_page-other q p (λ same. other (ap (λ (x : PageId). x.resource) same)))

-- pages of other resources stay
pub contents_apart : (d resource page : ℕ) (contents : List (Option PageContent)) (m : CloakedMemory) (q : PageId) →
    q.resource ≢ resource → (with_contents d resource page contents m).plain q ≡ m.plain q
unfolding with_contents
contents_apart d resource page [] m q other = refl
contents_apart d resource page (c ∷ contents) m q other =
    let p : PageId = record { domain = d; resource = resource; page = page } in
    contents_apart d resource (page + 1) contents (with_content p c m) q other ∙ content_apart p c m q other

-- The machine.

-- what holds of each domain holds of those that there are after one has become another
pub after_set : (P : Domain → Type 0) (now : List Domain) (e d : ℕ) (found made new : Domain) →
    slice_get now e ≡ Some found → slice_get (slice_set now e made) d ≡ Some new →
    ((x : Domain) → slice_get now d ≡ Some x → P x) → (P found → P made) → P new
after_set P [] zero d found made new there is all so = absurd cc
after_set P [] (suc e) d found made new there is all so = absurd cc
after_set P (x ∷ now) zero zero found made new there is all so =
    let same : made ≡ new = cc in subst P same (so (all found there))
after_set P (x ∷ now) zero (suc d) found made new there is all so = all new is
after_set P (x ∷ now) (suc e) zero found made new there is all so = all new is
after_set P (x ∷ now) (suc e) (suc d) found made new there is all so =
    after_set P now e d found made new there is all so

-- Each domain has its program's resource, whose pages are as in this memory.
pub record KeepsOwn (m : CloakedMemory) (j : Joint) : Type 0 where
  pub plain : (q : PageId) → q.resource ≡ 0 → j.memory.plain q ≡ m.plain q
  pub own : (d : ℕ) (domain : Domain) → slice_get j.domains d ≡ Some domain → HasOwn domain.control.resources

given_own : (m : CloakedMemory) (f : FileContents) (j j' : Joint) → IsGiven f j j' → KeepsOwn m j → KeepsOwn m j'
given_own m f j j' given keeps =
    let made = file_made f given.domain in
    let comes = comes_by f.number (length f.pages) given.resource given.domain.control.resources given.answer in
    let stays = own_stays f.number (length f.pages) given.resource given.domain.control.resources made.resources comes in
    let here = stays (keeps.own f.domain given.domain given.there) in
    subst (KeepsOwn m) given.is (record {
      plain = λ q first.
          contents_apart f.domain given.resource 0 f.pages j.memory q (λ same. here.0 (sym same ∙ first))
          ∙ keeps.plain q first;
      own = λ d domain is.
          after_set (λ (x : Domain). HasOwn x.control.resources) j.domains f.domain d given.domain _ domain given.there
          is (keeps.own d) (λ own. here.1);
    })

pub added_own : (files : List FileContents) (programs : List Program) (j j' : Joint) → files_added files j ≡ Ok j' →
    j.domains ≡ started_domains 0 programs → KeepsOwn j.memory j'
added_own files programs j j' is starts =
    files_keep (KeepsOwn j.memory) (given_own j.memory) files j j' is (record {
      plain = λ q first. refl;
      own = λ d domain there.
          started_own 0 d programs domain (ap (λ (l : List Domain). slice_get l d) (sym starts) ∙ there);
    })
