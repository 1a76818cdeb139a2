-- The part of a program as files are added: that of the joint machine is the one that the files give.
use Rattle.std.proofs.Common.{◌≡◌, ◌≢◌, ◌∙◌, inl, inr, ◌+◌, true, cond, ℕ, Bool, List, [], ◌∷◌, Option, Some, None, Result, Ok, refl, ap, sym, subst, eq-eqb, ne_eqb, length}
use mathlib.Core.Path.{fun_ext}
use Rattle.std.specs.Prelude.{◌&&◌, ◌==◌}
use Rattle.cloak_base.specs.Pages.{same_page, with_page}
use Rattle.cloak_base.specs.declared.names.PageId.{PageId}
use Rattle.cloak_model.specs.declared.resource.MapFault.{MapFault}
use Rattle.cloak_model.specs.Beginning.{with_content, with_contents, files_added}
use Rattle.cloak_model.specs.Cloaking.{CloakedMemory}
use Rattle.cloak_model.specs.DomainAlone.{with_bytes_of, with_given_pages, with_given, with_file, with_files}
use Rattle.cloak_model.specs.DomainState.{Domain, with_resources}
use Rattle.cloak_model.specs.Hart.{Hart}
use Rattle.cloak_model.specs.Contexts.{Context}
use Rattle.cloak_model.specs.Parts.{Joint, DomainPart, domain_pages}
use Rattle.cloak_model.specs.Resources.{Mapped}
use Rattle.cloak_model.specs.StoredFiles.{PageContent, FileContents}
use Rattle.kernel_isolation.proofs.FilesAdded.{IsGiven, file_made, with_given_file, files_carry, KeepsMachine, was_there}
use Rattle.script_fold.proofs.Runs.{runs_in}
use Rattle.domain_isolation.proofs.InOrder.{decided, inside_at, is_running, InOrder, get_set_same}
use Rattle.domain_isolation.proofs.JointSteps.{HoldsPart}
use Rattle.std.proofs.lemmas.Option.{same_Some}
use Rattle.cloak_base.proofs.Lists.{slice_get-set_other}

-- The pages.

pub own_page : (d resource page : ℕ) (bytes : List ℕ) (plain : PageId → List ℕ) →
    domain_pages d (with_page plain (record { domain = d; resource = resource; page = page }) bytes)
    ≡ with_bytes_of resource page bytes (domain_pages d plain)
unfolding same_page
own_page d resource page bytes plain =
    fun_ext (λ r. fun_ext (λ i.
    ap (λ (b : Bool). cond (b && ((r == resource) && (i == page))) bytes (domain_pages d plain r i)) (eq-eqb d d refl)))

pub other_page : (d : ℕ) (q : PageId) (bytes : List ℕ) (plain : PageId → List ℕ) → d ≢ q.domain →
    domain_pages d (with_page plain q bytes) ≡ domain_pages d plain
unfolding same_page
other_page d q bytes plain other =
    fun_ext (λ r. fun_ext (λ i.
    ap (λ (b : Bool). cond (b && ((r == q.resource) && (i == q.page))) bytes (domain_pages d plain r i))
    (ne_eqb d q.domain other)))

-- of the domain whose file it is
own_contents : (d n page : ℕ) (contents : List (Option PageContent)) (m : CloakedMemory) →
    domain_pages d (with_contents d n page contents m).plain ≡ with_given_pages n page contents (domain_pages d m.plain)
unfolding with_contents with_given_pages
own_contents d n page [] m = refl
own_contents d n page (None ∷ contents) m = own_contents d n (page + 1) contents m
own_contents d n page (Some c ∷ contents) m =
    let q : PageId = record { domain = d; resource = n; page = page } in
    own_contents d n (page + 1) contents (with_content q (Some c) m)
    ∙ ap (with_given_pages n (page + 1) contents) (own_page d n page c.plain m.plain)

-- of another one
other_contents : (d e n page : ℕ) (contents : List (Option PageContent)) (m : CloakedMemory) → d ≢ e →
    domain_pages d (with_contents e n page contents m).plain ≡ domain_pages d m.plain
unfolding with_contents
other_contents d e n page [] m other = refl
other_contents d e n page (None ∷ contents) m other = other_contents d e n (page + 1) contents m other
other_contents d e n page (Some c ∷ contents) m other =
    let q : PageId = record { domain = e; resource = n; page = page } in
    other_contents d e n (page + 1) contents (with_content q (Some c) m) other ∙ other_page d q c.plain m.plain other

-- One file.

-- it is of another domain
file_apart : (d : ℕ) (f : FileContents) (p : DomainPart) → f.domain ≢ d → with_file d f p ≡ p
file_apart d f p other =
    let made : Mapped ℕ = file_made f p.domain in
    ap (λ (b : Bool). cond b (with_given f.pages made.answer made.resources p) p) (ne_eqb f.domain d other)

-- it is of this one, and found room
file_own : (d : ℕ) (f : FileContents) (p : DomainPart) (n : ℕ) → f.domain ≡ d → (file_made f p.domain).answer ≡ Ok n →
    with_file d f p ≡ record {
      domain = with_resources (file_made f p.domain).resources p.domain;
      plain = with_given_pages n 0 f.pages p.plain;
    }
unfolding with_given
file_own d f p n own answer =
    let made : Mapped ℕ = file_made f p.domain in
    ap (λ (b : Bool). cond b (with_given f.pages made.answer made.resources p) p) (eq-eqb f.domain d own)
    ∙ ap (λ (a : Result ℕ MapFault). with_given f.pages a made.resources p) answer

given_apart : (d : ℕ) (f : FileContents) (x y : Joint) (p : DomainPart) → IsGiven f x y → HoldsPart d x p →
    d ≢ f.domain → HoldsPart d y p
given_apart d f x y p given has other =
    subst (λ (j : Joint). HoldsPart d j p) given.is
    (record {
      domain = slice_get-set_other x.domains f.domain d _ other ∙ has.domain;
      plain = other_contents d f.domain given.resource 0 f.pages x.memory other ∙ has.plain;
    })

given_own : (f : FileContents) (x y : Joint) (p : DomainPart) → IsGiven f x y → HoldsPart f.domain x p →
    HoldsPart f.domain y (with_file f.domain f p)
given_own f x y p given has =
    let d = f.domain in
    let same : given.domain ≡ p.domain = same_Some given.domain p.domain (sym given.there ∙ has.domain) in
    let made : Mapped ℕ = file_made f p.domain in
    let answer : made.answer ≡ Ok given.resource =
    subst (λ (x : Domain). (file_made f x).answer ≡ Ok given.resource) same given.answer in
    let is : with_given_file f p.domain made.resources given.resource x ≡ y =
    subst (λ (o : Domain). with_given_file f o (file_made f o).resources given.resource x ≡ y) same given.is in
    let now : DomainPart = record {
      domain = with_resources made.resources p.domain;
      plain = with_given_pages given.resource 0 f.pages p.plain;
    } in
    subst (HoldsPart d y) (sym (file_own d f p given.resource refl answer))
    (subst (λ (j : Joint). HoldsPart d j now) is
    (record {
      domain = get_set_same x.domains d p.domain _ has.domain;
      plain = own_contents d given.resource 0 f.pages x.memory
          ∙ ap (with_given_pages given.resource 0 f.pages) has.plain;
    }))

given_has : (d : ℕ) (f : FileContents) (x y : Joint) (p : DomainPart) → IsGiven f x y → HoldsPart d x p →
    HoldsPart d y (with_file d f p)
given_has d f x y p given has = elim (decided d f.domain) [
  | inl own ↦
      subst (λ (e : ℕ). HoldsPart e y (with_file e f p)) (sym own)
      (given_own f x y p given (subst (λ (e : ℕ). HoldsPart e x p) own has))
  | inr other ↦
      subst (HoldsPart d y) (sym (file_apart d f p (λ same. other (sym same))))
      (given_apart d f x y p given has other)
]

-- All files.

-- the part there, with the files that remain, is this one
record HoldsWith (d : ℕ) (whole : DomainPart) (rest : List FileContents) (j : Joint) : Type 0 where
  pub part : DomainPart
  pub has : HoldsPart d j part
  pub with_rest : with_files d rest part ≡ whole

pub files_have : (d : ℕ) (files : List FileContents) (j j' : Joint) (p : DomainPart) → files_added files j ≡ Ok j' →
    HoldsPart d j p → HoldsPart d j' (with_files d files p)
unfolding with_files
files_have d files j j' p added has =
    let whole : DomainPart = with_files d files p in
    let last = files_carry (HoldsWith d whole)
    (λ f rest x y given was. record {
      part = with_file d f was.part;
      has = given_has d f x y was.part given was.has;
      with_rest = was.with_rest;
    })
    files j j' added (record { part = p; has = has; with_rest = refl }) in
    subst (HoldsPart d j') last.with_rest last.has

-- Contexts run on the same harts.
pub files_order : (count : ℕ) (j j' : Joint) → KeepsMachine j j' → InOrder count j.harts j.domains →
    InOrder count j'.harts j'.domains
files_order count j j' keeps order = record {
  harts_count = ap (λ (harts : List Hart). length harts) keeps.harts ∙ order.harts_count;
  numbers = λ d domain found. let was = was_there j j' d domain keeps found in
      was.keeps.number ∙ order.numbers d was.domain was.there;
  runs = λ d domain found hart slot on. let was = was_there j j' d domain keeps found in
      subst (λ (harts : List Hart). is_running d slot (inside_at harts hart) ≡ true) (sym keeps.harts)
      (order.runs d was.domain was.there hart slot
      (ap (λ (contexts : List (Option Context)). runs_in hart contexts slot) (sym was.keeps.contexts) ∙ on));
}
