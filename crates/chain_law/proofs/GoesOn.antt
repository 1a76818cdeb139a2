-- Each page of a file begins in a run with the bytes that were stored last in the run before.
use Rattle.std.proofs.Common.{◌≡◌, ◌≢◌, ◌∙◌, ℕ, zero, suc, ◌<◌, nat_lt, Bool, true, false, cond, List, [], length, slice_get, slice_index, slice_index_or, replicate, Option, Some, None, is_some, Ok, inl, inr, arith, refl, sym, ap, subst}
use Rattle.std.specs.Prelude.{option_and_then, position}
use Rattle.std.specs.List.{position_or_len}
use Rattle.std.proofs.lemmas.Bool.{cases_lt, false≢true, ltb-true, lt-ltb, eqb-true}
use Rattle.std.proofs.lemmas.List.{get_or_past}
use Rattle.std.proofs.lemmas.List.Quantifiers.{position-Some}
use Rattle.std.proofs.lemmas.List.Sums.{fails_before_first}
use Rattle.cloak_base.specs.Pages.{zero_page}
use Rattle.cloak_base.specs.Random.{Random}
use Rattle.cloak_base.specs.declared.causes.Stop.TheVariants as stop
use Rattle.cloak_base.specs.declared.names.PageId.{PageId}
use Rattle.cloak_model.specs.declared.image.Bundle.{Bundle}
use Rattle.cloak_model.specs.declared.resource.Owner.{Owner}
use Rattle.cloak_model.specs.declared.resource.Owner.TheVariants.{Space, File}
use Rattle.cloak_model.specs.declared.resource.Resource.{Resource}
use Rattle.cloak_model.specs.Beginning.{Beginning, Stored, IsBeginning}
use Rattle.cloak_model.specs.Cloaking.{CloakedMemory}
use Rattle.cloak_model.specs.DomainState.{Domain}
use Rattle.cloak_model.specs.Files.{is_file, holds_file}
use Rattle.cloak_model.specs.Parts.{Joint}
use Rattle.cloak_model.specs.Resources.{resource_at, pages_of}
use Rattle.cloak_model.specs.Run.{Run, run_from}
use Rattle.cloak_model.specs.StoredFiles.{PageContent, FileContents, Rise, table_of}
use Rattle.cloak_model.specs.StoredRun.{shown_content, content_of, contents_of}
use Rattle.kernel_isolation.proofs.FilesAdded.{files_of}
use Rattle.page_law.proofs.Given.{HasOwn}
use Rattle.latest_store.specs.LatestStore.{made_programs, made_files, resource_of_file, history_until}
use Rattle.latest_store.specs.Moves.{Move, latest}
use Rattle.latest_store.proofs.Histories.{runs_give_latest}
use Rattle.chain_law.specs.Chain.{MadeRun, IsMade, GoesOnFrom, FilePage, resource_in, page_in_resource, page_of_file, page_at_opening, page_at_end, history, whole_history, FilesGoOn}
use Rattle.chain_law.proofs.Contents.{Has, IsOf, contents_are, file_at, has_contents, pages_length, page_at}
use Rattle.chain_law.proofs.Making.{IsAt, made_byte, files_made, no_program}
use Rattle.chain_law.proofs.Opened.{OpensFiles, IsSized, IsAmong, opens_files}
use Rattle.chain_law.proofs.ZeroRuns.{left_unshown_are_zeros}
use Rattle.cloak_base.proofs.Lists.{none_by}

-- A page of a file of the earlier run is there as the next one begins, and each byte is the one that was stored last.
pub record PageGoesOn (next earlier : MadeRun) (p : FilePage) (q : PageId) : Type 0 where
  pub page : PageId
  pub there : page_at_opening next p ≡ Some page
  pub bytes : (at : ℕ) → latest (history next 0) page at ≡ latest (whole_history earlier) q at

-- The page of a file in these domains.
pub record IsPage (domains : List Domain) (p : FilePage) (q : PageId) : Type 0 where
  pub program : Domain
  pub there : slice_get domains p.domain ≡ Some program
  pub resource : ℕ
  pub place : position (holds_file p.number) program.control.resources.held ≡ Some resource
  pub low : p.page < pages_of (resource_at program.control.resources resource)
  pub is : q ≡ record { domain = p.domain; resource = resource; page = p.page }

abbrev page_named : FilePage → ℕ → PageId
page_named p n = record { domain = p.domain; resource = n; page = p.page }

-- in these resources

pub size_in : (domains : List Domain) (d n : ℕ) (program : Domain) → slice_get domains d ≡ Some program →
    resource_in domains d n ≡ resource_at program.control.resources n
size_in domains d n program there =
    ap (λ (o : Option Domain). option_and_then (λ (x : Domain). resource_at x.control.resources n) o) there

pub number_in : (domains : List Domain) (d number : ℕ) (program : Domain) → slice_get domains d ≡ Some program →
    resource_of_file domains d number ≡ position (holds_file number) program.control.resources.held
number_in domains d number program there =
    ap (λ (o : Option Domain). option_and_then
    (λ (x : Domain). position (holds_file number) x.control.resources.held) o) there

low_by : (b : Bool) (p : FilePage) (n : ℕ) (q : PageId) → cond b (Some (page_named p n)) None ≡ Some q →
    (b ≡ true) × (q ≡ page_named p n)
low_by true p n q is = (refl, (let same : page_named p n ≡ q = cc in sym same))
low_by false p n q is = absurd cc

page_by : (domains : List Domain) (p : FilePage) (q : PageId) (program : Domain) (place : Option ℕ) →
    slice_get domains p.domain ≡ Some program → position (holds_file p.number) program.control.resources.held ≡ place →
    option_and_then (page_in_resource domains p) place ≡ Some q → IsPage domains p q
page_by domains p q program None there place is = absurd cc
page_by domains p q program (Some n) there place is =
    let low = low_by (nat_lt p.page (pages_of (resource_in domains p.domain n))) p n q is in
    record {
      program = program;
      there = there;
      resource = n;
      place = place;
      low = subst (λ (o : Option Resource). p.page < pages_of o) (size_in domains p.domain n program there)
          (ltb-true p.page (pages_of (resource_in domains p.domain n)) low.0);
      is = low.1;
    }

page_in_domain : (domains : List Domain) (p : FilePage) (q : PageId) (o : Option Domain) →
    slice_get domains p.domain ≡ o →
    option_and_then (page_in_resource domains p)
    (option_and_then (λ (x : Domain). position (holds_file p.number) x.control.resources.held) o) ≡ Some q →
    IsPage domains p q
page_in_domain domains p q None there is = absurd cc
page_in_domain domains p q (Some program) there is =
    page_by domains p q program (position (holds_file p.number) program.control.resources.held) there refl is

pub is_page : (domains : List Domain) (p : FilePage) (q : PageId) → page_of_file domains p ≡ Some q → IsPage domains p q
is_page domains p q is = page_in_domain domains p q (slice_get domains p.domain) refl is

pub page_is : (domains : List Domain) (p : FilePage) (program : Domain) (n : ℕ) →
    slice_get domains p.domain ≡ Some program → position (holds_file p.number) program.control.resources.held ≡ Some n →
    p.page < pages_of (resource_at program.control.resources n) → page_of_file domains p ≡ Some (page_named p n)
page_is domains p program n there place low =
    ap (option_and_then (page_in_resource domains p)) (number_in domains p.domain p.number program there ∙ place)
    ∙ ap (λ (b : Bool). cond b (Some (page_named p n)) None)
    (ap (λ (o : Option Resource). nat_lt p.page (pages_of o)) (size_in domains p.domain n program there)
    ∙ lt-ltb p.page (pages_of (resource_at program.control.resources n)) low)

-- The resource of a file.

owner_is : (number pages : ℕ) (o : Owner) → is_file number o ≡ true →
    let held : Resource = record { owner = o; pages = pages } in
    let file : Resource = record { owner = File number; pages = pages } in held ≡ file
owner_is number pages (Space space) is = absurd (false≢true is)
owner_is number pages (File n) is =
    ap (λ (k : ℕ). let held : Resource = record { owner = File k; pages = pages } in held) (eqb-true n number is)

pub file_is : (number : ℕ) (o : Option Resource) → holds_file number o ≡ true →
    o ≡ Some (record { owner = File number; pages = pages_of o })
file_is number None is = absurd (false≢true is)
file_is number (Some held) is = ap (λ (r : Resource). Some r) (owner_is number held.pages held.owner is)

-- The byte with which a page goes on.

zero_from : (n at : ℕ) → slice_index (replicate n 0) at ≡ 0
zero_from zero at = refl
zero_from (suc n) zero = refl
zero_from (suc n) (suc at) = zero_from n at

zero_at : (at : ℕ) → slice_index zero_page at ≡ 0
unfolding zero_page
zero_at at = zero_from 4096 at

content_byte : (plain : List ℕ) (recorded iv : Option (List ℕ)) (at : ℕ) → is_some iv ≡ is_some recorded →
    (recorded ≡ None → plain ≡ zero_page) → made_byte (shown_content plain recorded iv) at 0 ≡ slice_index plain at
content_byte plain (Some c) (Some v) at same zeros = refl
content_byte plain (Some c) None at same zeros = absurd (false≢true same)
content_byte plain None (Some v) at same zeros = absurd (false≢true (sym same))
content_byte plain None None at same zeros =
    sym (ap (λ (bytes : List ℕ). slice_index bytes at) (zeros refl) ∙ zero_at at)

pub not_own : (number n : ℕ) (program : Domain) → HasOwn program.control.resources →
    holds_file number (resource_at program.control.resources n) ≡ true → n ≢ 0
not_own number n program own holds same =
    false≢true (sym (ap (λ (k : ℕ). holds_file number (resource_at program.control.resources k)) same
    ∙ ap (holds_file number) own.is) ∙ holds)

-- The next run.

pub begun_history : (b : Bundle) (keys : List (List ℕ)) (stream : Random) (files : List FileContents) (r : Run) →
    history_until b (Stored keys stream files) 0 r
    ≡ made_files r.opened.joint.domains files (made_programs 0 b.programs [])
unfolding history_until
begun_history b keys stream files r = refl

-- the byte of a page of a file as a run over files begins
pub file_begins : (b : Bundle) (keys : List (List ℕ)) (stream : Random) (files : List FileContents) (r : Run)
    (f : FileContents) → Rise (table_of files) → Has f files → OpensFiles files r.opened.joint →
    (sized : IsSized r.opened.joint.domains f) (page at : ℕ) →
    latest (history_until b (Stored keys stream files) 0 r)
    (record { domain = f.domain; resource = sized.resource; page = page }) at
    ≡ made_byte (slice_index_or f.pages page None) at 0
file_begins b keys stream files r f rise has opens sized page at =
    let domains : List Domain = r.opened.joint.domains in
    let n = sized.resource in
    let q : PageId = record { domain = f.domain; resource = n; page = page } in
    let here : IsAt domains f.domain f.number n =
    record { program = sized.program; there = sized.there; place = sized.place } in
    let holds = (position-Some (holds_file f.number) sized.program.control.resources.held n None sized.place).1 in
    ap (λ (h : List Move). latest h q at) (begun_history b keys stream files r)
    ∙ (files_made domains f.domain f.number n here f files (made_programs 0 b.programs []) page at refl refl
    (number_in domains f.domain f.number sized.program sized.there ∙ sized.place) rise has
    ∙ ap (made_byte (slice_index_or f.pages page None) at)
    (no_program b.programs q at
    (not_own f.number n sized.program (opens.own f.domain sized.program sized.there) holds)))

stored_goes_on : (earlier next : MadeRun) (keys : List (List ℕ)) (stream : Random) → IsMade earlier → IsMade next →
    earlier.run.stop ≢ stop.NoRandom →
    next.from ≡ Stored keys stream (contents_of earlier.run.closed.joint) →
    IsBeginning next.bundle (Stored keys stream (contents_of earlier.run.closed.joint)) →
    OpensFiles (contents_of earlier.run.closed.joint) next.run.opened.joint →
    (p : FilePage) (q : PageId) → IsPage earlier.run.closed.joint.domains p q → PageGoesOn next earlier p q
stored_goes_on earlier next keys stream made made' drawn over begins opens p q is =
    let j : Joint = earlier.run.closed.joint in
    let files : List FileContents = contents_of j in
    let m : CloakedMemory = j.memory in
    let held = is.program.control.resources.held in
    let n = is.resource in
    let pages = pages_of (resource_at is.program.control.resources n) in
    let file = file_is p.number (resource_at is.program.control.resources n)
    (position-Some (holds_file p.number) held n None is.place).1 in
    let f : FileContents = file_at m p.domain n p.number pages in
    let has : Has f files = has_contents j p.domain n p.number pages is.program is.there file in
    let sized : IsSized next.run.opened.joint.domains f = opens.sized f has in
    let page : ℕ → Option PageContent = λ (k : ℕ).
    content_of m (record { domain = p.domain; resource = n; page = k }) in
    let long : length f.pages ≡ pages = pages_length page pages in
    let left = left_unshown_are_zeros earlier.bundle earlier.from earlier.budget earlier.run made.runs drawn in
    let old : PageId = page_named p n in
    let latest_old = (runs_give_latest earlier.bundle earlier.from earlier.budget earlier.run made.in_grammar
    made.beginning made.runs).closed q in
    record {
      page = page_named p sized.resource;
      there = page_is next.run.opened.joint.domains p sized.program sized.resource sized.there sized.place
          (subst (λ (k : ℕ). p.page < k) (sym (sized.size ∙ long)) is.low);
      bytes = λ at.
          ap (λ (from : Beginning). latest (history_until next.bundle from 0 next.run) (page_named p sized.resource) at)
          over
          ∙ (file_begins next.bundle keys stream files next.run f begins.table.rise has opens sized p.page at
          ∙ (ap (λ (o : Option PageContent). made_byte o at 0) (page_at page pages p.page is.low)
          ∙ (content_byte (m.plain old) (m.ledger.recorded old) (m.ledger.iv old) at (left.0 old) (left.1 old)
          ∙ (ap (λ (x : PageId). slice_index (m.plain x) at) (sym is.is) ∙ latest_old.each at))));
    }

pub opens_over_files : (b : Bundle) (from from' : Beginning) (budget : ℕ) (r : Run) → run_from b from budget ≡ Ok r →
    from ≡ from' → OpensFiles (files_of from') r.opened.joint
opens_over_files b from from' budget r is same =
    subst (λ (x : Beginning). OpensFiles (files_of x) r.opened.joint) same (opens_files b from budget r is)

pub page_goes_on : (earlier next : MadeRun) → IsMade earlier → IsMade next → GoesOnFrom next earlier →
    (p : FilePage) (q : PageId) → page_at_end earlier p ≡ Some q → PageGoesOn next earlier p q
page_goes_on earlier next made made' goes p q is =
    stored_goes_on earlier next goes.keys goes.stream made made' goes.drawn goes.over
    (subst (IsBeginning next.bundle) goes.over made'.beginning)
    (opens_over_files next.bundle next.from _ next.budget next.run made'.runs goes.over) p q
    (is_page earlier.run.closed.joint.domains p q is)

-- And no page is there of another file.

-- a file that is there has a place
pub no_place : (number : ℕ) (held : List (Option Resource)) (k : ℕ) →
    holds_file number (slice_index_or held k None) ≡ true → position (holds_file number) held ≡ None → ⊥
no_place number held k holds none = elim (cases_lt (position_or_len (holds_file number) held) (length held)) [
  | inl inside ↦
      false≢true (sym (none_by (nat_lt (position_or_len (holds_file number) held) (length held)) _ none)
      ∙ lt-ltb (position_or_len (holds_file number) held) (length held) inside)
  | inr past ↦
      elim (cases_lt k (length held)) [
        | inl low ↦
            false≢true (sym (fails_before_first (holds_file number) held k None (omega (arith, past, low))) ∙ holds)
        | inr high ↦ false≢true (ap (holds_file number) (sym (get_or_past held k None high)) ∙ holds)
      ]
]

pub some_number : (a b : ℕ) → Some a ≡ Some b → a ≡ b
some_number a b is = cc

module _ (j : Joint) (now : List Domain) (opens : (g : FileContents) → Has g (contents_of j) → IsSized now g)
    (p : FilePage) (q : PageId) (is : IsPage now p q)
  where
    placed_before : (program : Domain) (o : Option ℕ) → slice_get j.domains p.domain ≡ Some program →
        position (holds_file p.number) program.control.resources.held ≡ o → (o ≡ None → ⊥) →
        is_some (page_of_file j.domains p) ≡ true
    placed_before program None there place some = absurd (some refl)
    placed_before program (Some n) there place some =
        let pages = pages_of (resource_at program.control.resources n) in
        let file = file_is p.number (resource_at program.control.resources n)
        (position-Some (holds_file p.number) program.control.resources.held n None place).1 in
        let f : FileContents = file_at j.memory p.domain n p.number pages in
        let sized : IsSized now f = opens f (has_contents j p.domain n p.number pages program there file) in
        let resource : is.resource ≡ sized.resource =
        some_number is.resource sized.resource
        (sym (number_in now p.domain p.number is.program is.there ∙ is.place)
        ∙ (number_in now p.domain p.number sized.program sized.there ∙ sized.place)) in
        let held : resource_at is.program.control.resources is.resource
        ≡ resource_at sized.program.control.resources sized.resource =
        sym (size_in now p.domain is.resource is.program is.there)
        ∙ (ap (resource_in now p.domain) resource
        ∙ size_in now p.domain sized.resource sized.program sized.there) in
        let long : length f.pages ≡ pages =
        pages_length (λ (k : ℕ). content_of j.memory (record { domain = p.domain; resource = n; page = k })) pages in
        ap is_some (page_is j.domains p program n there place
        (subst (λ (k : ℕ). p.page < k) (ap pages_of held ∙ (sized.size ∙ long)) is.low))

    was_before : IsAmong (contents_of j) p.domain p.number → is_some (page_of_file j.domains p) ≡ true
    was_before among =
        let of = contents_are j among.file among.has in
        let of' : IsOf j.domains p.domain p.number =
        subst (λ (k : ℕ). IsOf j.domains p.domain k) among.same
        (subst (λ (d : ℕ). IsOf j.domains d among.file.number) among.domain of) in
        placed_before of'.program _ of'.there refl
        (no_place p.number of'.program.control.resources.held of'.resource of'.holds)

page_was : (j : Joint) (k : Joint) → OpensFiles (contents_of j) k → (p : FilePage) (q : PageId) →
    page_of_file k.domains p ≡ Some q → is_some (page_of_file j.domains p) ≡ true
page_was j k opens p q is =
    let page = is_page k.domains p q is in
    let holds =
    (position-Some (holds_file p.number) page.program.control.resources.held page.resource None page.place).1 in
    was_before j k.domains opens.sized p q page
    (opens.from p.domain page.program page.there page.resource p.number holds)

both_there : (o o' : Option PageId) → ((q : PageId) → o ≡ Some q → is_some o' ≡ true) →
    ((q : PageId) → o' ≡ Some q → is_some o ≡ true) → is_some o ≡ is_some o'
both_there None None first second = refl
both_there None (Some q) first second = second q refl
both_there (Some q) None first second = sym (first q refl)
both_there (Some q) (Some q') first second = refl

same_page_id : (o : Option PageId) (q q' : PageId) → o ≡ Some q → o ≡ Some q' → q ≡ q'
same_page_id o q q' first second = let same : Some q ≡ Some q' = sym first ∙ second in cc

pub files_go_on : FilesGoOn
files_go_on earlier next made made' goes = record {
  there = λ p.
      both_there (page_at_opening next p) (page_at_end earlier p)
      (λ q is.
      page_was earlier.run.closed.joint next.run.opened.joint
      (opens_over_files next.bundle next.from _ next.budget next.run made'.runs goes.over) p q is)
      (λ q is. ap is_some (page_goes_on earlier next made made' goes p q is).there);
  bytes = λ p q old there was at.
      let goes_on = page_goes_on earlier next made made' goes p old was in
      ap (λ (x : PageId). latest (history next 0) x at) (same_page_id _ q goes_on.page there goes_on.there)
      ∙ goes_on.bytes at;
}
