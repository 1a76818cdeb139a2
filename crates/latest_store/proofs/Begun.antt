-- The pages that a run over files begins with: the opened machine has those that its history makes of them.
use Rattle.std.proofs.Common.{◌≡◌, ◌≢◌, ◌∙◌, inl, inr, ℕ, zero, suc, ◌+◌, ◌<◌, nat_lt, Bool, true, false, cond, List, [], ◌∷◌, length, get_or, slice_get, slice_set, slice_index, Option, Some, None, Ok, refl, sym, ap, subst, arith, All, eq-eqb}
use Rattle.std.specs.Prelude.{option_and_then, position, is_none, ◌==◌, is_some}
use Rattle.std.specs.List.{position_or_len}
use Rattle.std.proofs.lemmas.Bool.{false≢true, cases_eq, eqb-true, lt-ltb}
use Rattle.std.proofs.lemmas.List.{length-set, get_or-set_same, get_or-set_other}
use Rattle.std.proofs.lemmas.List.Elements.{All-nil, All-cons, All-head, All-tail}
use Rattle.std.proofs.lemmas.List.Folds.{position_or_len-set}
use Rattle.std.proofs.lemmas.List.Quantifiers.{position-Some}
use Rattle.std.proofs.lemmas.List.Sums.{position_or_len_is}
use Rattle.cloak_base.proofs.Pages.{same_page-other}
use Rattle.cloak_base.specs.declared.names.PageId.{PageId}
use Rattle.cloak_model.specs.declared.resource.Owner.TheVariants.{File}
use Rattle.cloak_model.specs.declared.resource.Resource.{Resource}
use Rattle.cloak_model.specs.Beginning.{with_content, with_contents, files_added}
use Rattle.cloak_model.specs.Cloaking.{CloakedMemory}
use Rattle.cloak_model.specs.DomainState.{Domain, with_resources}
use Rattle.cloak_model.specs.Files.{holds_file, file_resource}
use Rattle.cloak_model.specs.Ledger.{Keys}
use Rattle.cloak_model.specs.Parts.{Joint}
use Rattle.cloak_model.specs.Resources.{Resources, resource_at, first_free}
use Rattle.cloak_model.specs.StoredFiles.{PageContent, FileContents, IsSealedIfShown, HasSealedPages}
use Rattle.kernel_isolation.proofs.FilesAdded.{IsGiven, file_made, files_carry}
use Rattle.resource_map.proofs.Lists.{none_from_test}
use Rattle.page_law.proofs.Given.{ComesBy, WasThere, IsNew, comes_by, new_at, after_set}
use Rattle.latest_store.specs.Moves.{Move, Makes, latest, loads_of}
use Rattle.latest_store.specs.LatestStore.{resource_of_file, made_contents, made_file, made_files, IsThere}
use Rattle.latest_store.proofs.Fits.{FreeZero}
use Rattle.latest_store.proofs.Held.{Holds}
use Rattle.latest_store.proofs.Moved.{Agrees, move_agrees}
use Rattle.latest_store.proofs.Numbers.{MapsHeld, HasFew, ResourcesFollow, found_follows}
use Rattle.latest_store.proofs.Turned.{set_same, set_other}
use Rattle.cloak_base.proofs.Lists.{fails_all}

-- The pages of a file.

-- a page of a resource of a domain
abbrev page_of : ℕ → ℕ → ℕ → PageId
page_of d resource page = record { domain = d; resource = resource; page = page }

contents_agree : (key : List ℕ) (d resource page : ℕ) (contents : List (Option PageContent)) (m : CloakedMemory)
    (history : List Move) → All (IsSealedIfShown key) contents → Agrees history m.plain →
    Agrees (made_contents d resource page contents history) (with_contents d resource page contents m).plain
unfolding with_contents
contents_agree key d resource page [] m history all agrees = agrees
contents_agree key d resource page (None ∷ contents) m history all agrees =
    contents_agree key d resource (page + 1) contents m history (All-tail (IsSealedIfShown key) None contents all)
    agrees
contents_agree key d resource page (Some c ∷ contents) m history all agrees =
    let q : PageId = page_of d resource page in
    let whole = (All-head (IsSealedIfShown key) (Some c) contents all).plain.long in
    contents_agree key d resource (page + 1) contents (with_content q (Some c) m) (Makes q c.plain ∷ history)
    (All-tail (IsSealedIfShown key) (Some c) contents all)
    (move_agrees d (Makes q c.plain) history m.plain (refl, whole) agrees)

pub contents_loads : (e d resource page : ℕ) (contents : List (Option PageContent)) (history : List Move) →
    loads_of e (made_contents d resource page contents history) ≡ loads_of e history
unfolding loads_of
contents_loads e d resource page [] history = refl
contents_loads e d resource page (None ∷ contents) history =
    contents_loads e d resource (page + 1) contents history
contents_loads e d resource page (Some c ∷ contents) history =
    contents_loads e d resource (page + 1) contents (Makes (page_of d resource page) c.plain ∷ history)

-- pages of other domains and resources stay
contents_latest : (d resource page : ℕ) (contents : List (Option PageContent)) (history : List Move) (q : PageId)
    (at : ℕ) → ((page : ℕ) → q ≢ page_of d resource page) →
    latest (made_contents d resource page contents history) q at ≡ latest history q at
unfolding latest
contents_latest d resource page [] history q at other = refl
contents_latest d resource page (None ∷ contents) history q at other =
    contents_latest d resource (page + 1) contents history q at other
contents_latest d resource page (Some c ∷ contents) history q at other =
    contents_latest d resource (page + 1) contents (Makes (page_of d resource page) c.plain ∷ history) q at other
    ∙ ap (λ (b : Bool). cond b (slice_index c.plain at) (latest history q at)) (same_page-other q _ (other page))

-- Which resource a file is.

pub holds_itself : (number pages : ℕ) → holds_file number (Some (record { owner = File number; pages = pages })) ≡ true
holds_itself number pages = eq-eqb number number refl

-- the place of the first that passes
pub place_is : {A : Type 0} (p : A → Bool) (xs : List A) (n : ℕ) → position_or_len p xs ≡ n → n < length xs →
    position p xs ≡ Some n
place_is p xs n is less =
    ap (λ (b : Bool). cond b (Some (position_or_len p xs)) None)
    (lt-ltb (position_or_len p xs) (length xs) (omega (arith, is, less)))
    ∙ ap (λ (k : ℕ). Some k) is

-- the file is the resource that it was given
pub given_place : (number pages n : ℕ) (r r' : Resources) → ComesBy number pages r n r' →
    position (holds_file number) r'.held ≡ Some n
given_place number pages n r r' (WasThere found same) =
    ap (λ (x : Resources). position (holds_file number) x.held) same ∙ found
given_place number pages n r r' (IsNew none made same) =
    let new = new_at (File number) pages r n made in
    let x : Option Resource = Some (record { owner = File number; pages = pages }) in
    let inside = (position-Some is_none r.held n None new.free).0 in
    let long = length-set r.held n x in
    ap (λ (y : Resources). position (holds_file number) y.held) (same ∙ sym new.is)
    ∙ place_is (holds_file number) (slice_set r.held n x) n
    (position_or_len_is (holds_file number) (slice_set r.held n x) n None (omega (arith, inside, long))
    (λ k less. ap (holds_file number) (get_or-set_other r.held n k x None (λ is. absurd (omega (arith, is, less))))
    ∙ fails_all (holds_file number) r.held k None none (omega (arith, less, inside)))
    (λ there. ap (holds_file number) (get_or-set_same r.held n x None inside) ∙ holds_itself number pages))
    (omega (arith, inside, long))

-- another resource is no other file
pub new_place : (test : Bool) (number other pages k n : ℕ) (r : Resources) → (other == number) ≡ test →
    position (holds_file other) r.held ≡ None → first_free r.held ≡ Some k →
    position (holds_file number) r.held ≡ Some n →
    position (holds_file number) (slice_set r.held k (Some (record { owner = File other; pages = pages }))) ≡ Some n
new_place true number other pages k n r is none free found =
    (let same : Some n ≡ None =
    sym found ∙ ap (λ (x : ℕ). position (holds_file x) r.held) (sym (eqb-true other number is)) ∙ none in absurd cc)
new_place false number other pages k n r is none free found =
    let x : Option Resource = Some (record { owner = File other; pages = pages }) in
    let empty = none_from_test (get_or r.held k None) (position-Some is_none r.held k None free).1 in
    let fails : holds_file number x ≡ holds_file number (get_or r.held k None) =
    is ∙ ap (holds_file number) (sym empty) in
    let place = position_or_len-set (holds_file number) r.held k x None fails in
    let long = length-set r.held k x in
    ap (λ (i : ℕ). cond (nat_lt i (length (slice_set r.held k x))) (Some i) None) place
    ∙ (ap (λ (l : ℕ). cond (nat_lt (position_or_len (holds_file number) r.held) l)
    (Some (position_or_len (holds_file number) r.held)) None) long ∙ found)

-- a file that was there stays the same resource
pub place_stays : (number other pages k n : ℕ) (r r' : Resources) → ComesBy other pages r k r' →
    position (holds_file number) r.held ≡ Some n → position (holds_file number) r'.held ≡ Some n
place_stays number other pages k n r r' (WasThere there same) found =
    ap (λ (x : Resources). position (holds_file number) x.held) same ∙ found
place_stays number other pages k n r r' (IsNew none made same) found =
    let new = new_at (File other) pages r k made in
    ap (λ (y : Resources). position (holds_file number) y.held) (same ∙ sym new.is)
    ∙ new_place (other == number) number other pages k n r refl none new.free found

-- Domains.

pub get_other : (domains : List Domain) (e d : ℕ) (made : Domain) → d ≢ e →
    slice_get (slice_set domains e made) d ≡ slice_get domains d
get_other [] e d made other = refl
get_other (x ∷ domains) zero zero made other = absurd (other refl)
get_other (x ∷ domains) zero (suc d) made other = refl
get_other (x ∷ domains) (suc e) zero made other = refl
get_other (x ∷ domains) (suc e) (suc d) made other =
    get_other domains e d made (λ same. other (ap (λ (k : ℕ). suc k) same))

pub get_same : (domains : List Domain) (e : ℕ) (found made : Domain) → slice_get domains e ≡ Some found →
    slice_get (slice_set domains e made) e ≡ Some made
get_same [] zero found made there = absurd cc
get_same [] (suc e) found made there = absurd cc
get_same (x ∷ domains) zero found made there = refl
get_same (x ∷ domains) (suc e) found made there = get_same domains e found made there

abbrev place_in_domain : ℕ → Option Domain → Option ℕ
place_in_domain number o =
    option_and_then (λ (program : Domain). position (holds_file number) program.control.resources.held) o

-- each file that is among the first domains is the same resource in the second
abbrev Stay : List Domain → List Domain → Type 0
Stay was now =
    (d number n : ℕ) → resource_of_file was d number ≡ Some n → resource_of_file now d number ≡ Some n

module _ (f : FileContents) (j j' : Joint) (given : IsGiven f j j') where
  abbrev found : Domain
  found = given.domain

  abbrev made : Resources
  made = (file_made f found).resources

  abbrev n : ℕ
  n = given.resource

  comes : ComesBy f.number (length f.pages) found.control.resources n made
  comes = comes_by f.number (length f.pages) n found.control.resources given.answer

  domains_are : slice_set j.domains f.domain (with_resources made found) ≡ j'.domains
  domains_are = ap (λ (x : Joint). x.domains) given.is

  given_stay : Stay j.domains j'.domains
  given_stay d number k is =
      subst (λ (domains : List Domain). resource_of_file domains d number ≡ Some k) domains_are
      (elim (cases_eq d f.domain) [
        | inl same ↦
            ap (λ (e : ℕ). resource_of_file (slice_set j.domains f.domain (with_resources made found)) e number) same
            ∙ (ap (place_in_domain number) (get_same j.domains f.domain found (with_resources made found) given.there)
            ∙ place_stays number f.number (length f.pages) n k found.control.resources made comes
            (sym (ap (λ (e : ℕ). resource_of_file j.domains e number) same
            ∙ ap (place_in_domain number) given.there) ∙ is))
        | inr other ↦
            ap (place_in_domain number) (get_other j.domains f.domain d (with_resources made found) other) ∙ is
      ])

  given_is : resource_of_file j'.domains f.domain f.number ≡ Some n
  given_is =
      subst (λ (domains : List Domain). resource_of_file domains f.domain f.number ≡ Some n) domains_are
      (ap (place_in_domain f.number) (get_same j.domains f.domain found (with_resources made found) given.there)
      ∙ given_place f.number (length f.pages) n found.control.resources made comes)

  follows : ResourcesFollow found.control.resources made
  unfolding file_resource
  follows =
      found_follows f.number (length f.pages) (position (holds_file f.number) found.control.resources.held)
      found.control.resources

  -- the resource of the file is there
  taken : resource_at made n ≢ None
  taken free =
      let at = position-Some (holds_file f.number) made.held n None
      (given_place f.number (length f.pages) n found.control.resources made comes) in
      false≢true (sym (ap (holds_file f.number) free) ∙ at.1)

  given_holds : (key : List ℕ) (history : List Move) → All (IsSealedIfShown key) f.pages → Holds history j →
      Holds (made_contents f.domain n 0 f.pages history) j'
  given_holds key history sealed holds =
      let later : List Move = made_contents f.domain n 0 f.pages history in
      let now : Domain = with_resources made found in
      subst (Holds later) given.is (record {
        agrees = contents_agree key f.domain n 0 f.pages j.memory history sealed holds.agrees;
        loads = λ d program is.
            after_set (λ (x : Domain). x.loads ≡ loads_of d history) j.domains f.domain d found now program
            given.there is (holds.loads d) (λ loads. loads)
            ∙ sym (contents_loads d f.domain n 0 f.pages history);
        maps = λ d program is.
            after_set (λ (x : Domain). MapsHeld x.control.resources) j.domains f.domain d found now program
            given.there is (holds.maps d) follows.maps;
        few = λ d program is.
            after_set (λ (x : Domain). HasFew x.control.resources) j.domains f.domain d found now program
            given.there is (holds.few d) follows.few;
        free = λ d program is. elim (cases_eq d f.domain) [
          | inl same ↦
              let here = subst (λ (e : ℕ). slice_get (slice_set j.domains f.domain now) e ≡ Some program) same is in
              let mine : now ≡ program = set_same j.domains f.domain found now program given.there here in
              subst (λ (x : Domain). FreeZero later d x.control.resources) mine
              (λ q own free at.
              contents_latest f.domain n 0 f.pages history q at
              (λ page is'. taken (ap (λ (x : PageId). resource_at made x.resource) (sym is') ∙ free))
              ∙ holds.free f.domain found given.there q (own ∙ same) (follows.free q.resource free) at)
          | inr other ↦
              let was = set_other j.domains f.domain d now program (λ same. other (sym same)) is in
              λ q own free at.
              contents_latest f.domain n 0 f.pages history q at
              (λ page is'. other (sym own ∙ ap (λ (x : PageId). x.domain) is'))
              ∙ holds.free d program was q own free at
        ];
      })

-- All files.

-- The machine has the pages of a history, which the files that remain continue as they are in the opened machine.
record Begins (keys : Keys) (first : List Move) (files rest : List FileContents) (j : Joint) : Type 0 where
  pub sealed : All (HasSealedPages keys) rest
  pub history : List Move
  pub holds : Holds history j
  pub same : (domains : List Domain) → Stay j.domains domains →
      made_files domains rest history ≡ made_files domains files first
  pub there : (domains : List Domain) → Stay j.domains domains → All (IsThere domains) rest →
      All (IsThere domains) files

one_begins : (keys : Keys) (first : List Move) (files : List FileContents) (f : FileContents)
    (rest : List FileContents) (j j' : Joint) → IsGiven f j j' → Begins keys first files (f ∷ rest) j →
    Begins keys first files rest j'
one_begins keys first files f rest j j' given was =
    let history : List Move = made_contents f.domain given.resource 0 f.pages was.history in
    record {
      sealed = All-tail (HasSealedPages keys) f rest was.sealed;
      history = history;
      holds = given_holds f j j' given _ was.history (All-head (HasSealedPages keys) f rest was.sealed) was.holds;
      same = λ domains stay.
          let here = stay f.domain f.number given.resource (given_is f j j' given) in
          ap (λ (o : Option ℕ). made_files domains rest (made_file f o was.history)) (sym here)
          ∙ was.same domains (λ d number k is. stay d number k (given_stay f j j' given d number k is));
      there = λ domains stay all.
          let here = stay f.domain f.number given.resource (given_is f j j' given) in
          was.there domains (λ d number k is. stay d number k (given_stay f j j' given d number k is))
          (All-cons (IsThere domains) f rest (ap is_some here) all);
    }

-- The machine with all files has them, and the pages of the history that they make.
pub record Opens (files : List FileContents) (history : List Move) (j : Joint) : Type 0 where
  pub there : All (IsThere j.domains) files
  pub holds : Holds (made_files j.domains files history) j

pub files_open : (keys : Keys) (files : List FileContents) (j j' : Joint) (history : List Move) →
    files_added files j ≡ Ok j' → All (HasSealedPages keys) files → Holds history j → Opens files history j'
files_open keys files j j' history added sealed holds =
    let all : Begins keys history files [] j' =
    files_carry (Begins keys history files) (one_begins keys history files) files j j' added (record {
      sealed = sealed;
      history = history;
      holds = holds;
      same = λ domains stay. refl;
      there = λ domains stay all. all;
    }) in
    let stay : Stay j'.domains j'.domains = λ d number k is. is in
    record {
      there = all.there j'.domains stay (All-nil (IsThere j'.domains));
      holds = subst (λ (h : List Move). Holds h j') (all.same j'.domains stay) all.holds;
    }
