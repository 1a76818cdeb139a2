-- The law of chains: what is stored last in a run is what was stored last in all the runs on whose files it goes on.
use Rattle.std.proofs.Common.{◌≡◌, ◌≢◌, ◌∙◌, ◌≤◌, inl, inr, ℕ, true, false, List, [], ◌∷◌, ◌++◌, length, slice_get, Option, Some, None, refl, sym, ap, subst, eq-eqb}
use Rattle.std.specs.Prelude.{option_map, option_and_then}
use Rattle.std.proofs.lemmas.Bool.{false≢true, cases_lt}
use Rattle.std.proofs.lemmas.List.{get_or_past}
use Rattle.cloak_base.specs.Random.{Random}
use Rattle.cloak_base.specs.declared.names.PageId.{PageId}
use Rattle.cloak_model.specs.declared.resource.Owner.{Owner}
use Rattle.cloak_model.specs.declared.resource.Owner.TheVariants.{Space, File}
use Rattle.cloak_model.specs.declared.resource.Resource.{Resource}
use Rattle.cloak_model.specs.Beginning.{Beginning, Stored, IsBeginning}
use Rattle.cloak_model.specs.DomainState.{Domain}
use Rattle.cloak_model.specs.Files.{is_file, holds_file}
use Rattle.cloak_model.specs.Parts.{Joint}
use Rattle.cloak_model.specs.Resources.{resource_at, pages_of}
use Rattle.cloak_model.specs.StoredFiles.{PageContent, FileContents}
use Rattle.cloak_model.specs.StoredRun.{content_of, contents_of}
use Rattle.latest_store.specs.LatestStore.{made_programs, made_file, made_files, resource_of_file, history_until}
use Rattle.latest_store.specs.Moves.{Move, latest, loads_of}
use Rattle.latest_store.proofs.Histories.{runs_give_latest}
use Rattle.chain_law.specs.Chain.{MadeRun, IsMade, GoesOnFrom, FilePage, resource_in, page_of_file, page_at_end, history, whole_history, latest_since, loads_since, moves_until, owner_number, file_number, page_before, begun_byte, begun_over, IsChain, ChainsGiveLatest}
use Rattle.chain_law.proofs.Contents.{Has, file_at, has_contents, contents_are, pages_length}
use Rattle.chain_law.proofs.Making.{IsAt, is_at, held_at, same_file, made_byte, contents_latest, no_program}
use Rattle.chain_law.proofs.Opened.{OpensFiles, IsSized}
use Rattle.chain_law.proofs.GoesOn.{is_page, page_is, file_is, size_in, number_in, not_own, begun_history, file_begins, page_goes_on, no_place, opens_over_files, some_number}
use Rattle.chain_law.proofs.Since.{since_append, loads_append, no_load, history_is}

-- Which file a page is of.

owner_holds : (number : ℕ) (o : Owner) → owner_number o ≡ Some number → is_file number o ≡ true
owner_holds number (Space space) is = absurd cc
owner_holds number (File n) is = eq-eqb n number (some_number n number is)

number_holds : (number : ℕ) (o : Option Resource) → file_number o ≡ Some number → holds_file number o ≡ true
number_holds number None is = absurd cc
number_holds number (Some held) is = owner_holds number held.owner is

owner_is_none : (number : ℕ) (o : Owner) → owner_number o ≡ None → is_file number o ≡ false
owner_is_none number (Space space) is = refl
owner_is_none number (File n) is = absurd cc

none_holds : (number : ℕ) (o : Option Resource) → file_number o ≡ None → holds_file number o ≡ false
none_holds number None is = refl
none_holds number (Some held) is = owner_is_none number held.owner is

-- a resource that is a file is in a domain that is there
record InDomain (domains : List Domain) (d n number : ℕ) : Type 0 where
  pub program : Domain
  pub there : slice_get domains d ≡ Some program
  pub holds : holds_file number (resource_at program.control.resources n) ≡ true

in_domain : (domains : List Domain) (d n number : ℕ) (o : Option Domain) → slice_get domains d ≡ o →
    file_number (option_and_then (λ (x : Domain). resource_at x.control.resources n) o) ≡ Some number →
    InDomain domains d n number
in_domain domains d n number None there is = absurd cc
in_domain domains d n number (Some program) there is =
    record { program = program; there = there; holds = number_holds number _ is }

-- Pages that no file makes.

skipped : (domains : List Domain) (all files : List FileContents) (history : List Move) (q : PageId) (at : ℕ) →
    ((g : FileContents) → Has g all → (k : ℕ) → resource_of_file domains g.domain g.number ≡ Some k →
    q.domain ≡ g.domain → q.resource ≢ k) →
    ((g : FileContents) → Has g files → Has g all) →
    latest (made_files domains files history) q at ≡ latest history q at
skipped domains all [] history q at apart within = refl
skipped domains all (f ∷ files) history q at apart within =
    skipped domains all files _ q at apart (λ g has. within g (inr has))
    ∙ one (resource_of_file domains f.domain f.number) refl
  where
    one : (o : Option ℕ) → resource_of_file domains f.domain f.number ≡ o →
        latest (made_file f o history) q at ≡ latest history q at
    one None is = refl
    one (Some k) is =
        contents_latest f.domain k 0 f.pages history q at (λ page low same.
        apart f (within f (inl refl)) k is (ap (λ (x : PageId). x.domain) same) (ap (λ (x : PageId). x.resource) same))

-- One run after another.

module _ (earlier next : MadeRun) (keys : List (List ℕ)) (stream : Random) (made : IsMade earlier) (made' : IsMade next)
    (goes : GoesOnFrom next earlier) (over : next.from ≡ Stored keys stream (contents_of earlier.run.closed.joint))
    (begins : IsBeginning next.bundle (Stored keys stream (contents_of earlier.run.closed.joint)))
    (opens : OpensFiles (contents_of earlier.run.closed.joint) next.run.opened.joint)
  where
    abbrev files : List FileContents
    files = contents_of earlier.run.closed.joint

    abbrev now : List Domain
    now = next.run.opened.joint.domains

    abbrev was : List Domain
    was = earlier.run.closed.joint.domains

    abbrev image : PageId → ℕ → ℕ
    image q at = latest (made_programs 0 next.bundle.programs []) q at

    first_history : history next 0 ≡ made_files now files (made_programs 0 next.bundle.programs [])
    first_history =
        ap (λ (from : Beginning). history_until next.bundle from 0 next.run) over
        ∙ begun_history next.bundle keys stream files next.run

    -- a page that is of no file
    no_file : (q : PageId) (at : ℕ) → file_number (resource_in now q.domain q.resource) ≡ None →
        latest (history next 0) q at ≡ image q at
    no_file q at none =
        ap (λ (h : List Move). latest h q at) first_history
        ∙ skipped now files files _ q at (λ g has k is domain resource.
        let place = is_at g.domain g.number k now is in
        let held : resource_in now q.domain q.resource ≡ resource_at place.program.control.resources k =
        ap (λ (d : ℕ). resource_in now d q.resource) domain
        ∙ (ap (resource_in now g.domain) resource ∙ size_in now g.domain k place.program place.there) in
        false≢true (sym (none_holds g.number (resource_in now q.domain q.resource) none)
        ∙ (ap (holds_file g.number) held ∙ held_at now g.domain g.number k place))) (λ g has. has)

    -- a page of a file of which the earlier run had none
    new_file : (q : PageId) (at number : ℕ) → InDomain now q.domain q.resource number →
        resource_of_file was q.domain number ≡ None → latest (history next 0) q at ≡ image q at
    new_file q at number here none =
        ap (λ (h : List Move). latest h q at) first_history
        ∙ skipped now files files _ q at (λ g has k is domain resource.
        let place = is_at g.domain g.number k now is in
        let program : place.program ≡ here.program =
        same_program place.program here.program (sym place.there ∙ (ap (slice_get now) (sym domain) ∙ here.there)) in
        let holds = subst (λ (p : Domain). holds_file g.number (resource_at p.control.resources q.resource) ≡ true)
        program (ap (λ (i : ℕ). holds_file g.number (resource_at place.program.control.resources i)) resource
        ∙ held_at now g.domain g.number k place) in
        let file : g.number ≡ number =
        same_file g.number number (resource_at here.program.control.resources q.resource) holds here.holds in
        let there = contents_are earlier.run.closed.joint g has in
        no_place g.number there.program.control.resources.held there.resource there.holds
        (sym (number_in was g.domain g.number there.program there.there)
        ∙ (ap (λ (d : ℕ). resource_of_file was d g.number) (sym domain)
        ∙ (ap (resource_of_file was q.domain) file ∙ none)))) (λ g has. has)
      where
        same_program : (x y : Domain) → Some x ≡ Some y → x ≡ y
        same_program x y is = cc

    -- a page of a file, past its end
    past_file : (q : PageId) (at number n : ℕ) → InDomain now q.domain q.resource number →
        IsAt was q.domain number n →
        page_of_file was (record { domain = q.domain; number = number; page = q.page }) ≡ None →
        latest (history next 0) q at ≡ image q at
    past_file q at number n here place none =
        let p : FilePage = record { domain = q.domain; number = number; page = q.page } in
        let pages = pages_of (resource_at place.program.control.resources n) in
        let file = file_is number (resource_at place.program.control.resources n)
        (held_at was q.domain number n place) in
        let j : Joint = earlier.run.closed.joint in
        let f : FileContents = file_at j.memory q.domain n number pages in
        let has : Has f files = has_contents j q.domain n number pages place.program place.there file in
        let sized : IsSized now f = opens.sized f has in
        let unique = opens.unique q.domain here.program here.there q.resource number here.holds in
        let resource : sized.resource ≡ q.resource =
        some_number sized.resource q.resource
        (sym (number_in now q.domain number sized.program sized.there ∙ sized.place)
        ∙ (number_in now q.domain number here.program here.there ∙ unique)) in
        let page : ℕ → Option PageContent = λ (k : ℕ).
        content_of j.memory (record { domain = q.domain; resource = n; page = k }) in
        let long : length f.pages ≡ pages = pages_length page pages in
        let past : pages ≤ q.page = elim (cases_lt q.page pages) [
          | inl low ↦
              absurd (none_some _ (sym none ∙ page_is was p place.program n place.there place.place low))
          | inr high ↦ high
        ] in
        let start : latest (history next 0)
        (record { domain = q.domain; resource = sized.resource; page = q.page }) at ≡ 0 =
        ap (λ (from : Beginning). latest (history_until next.bundle from 0 next.run)
        (record { domain = q.domain; resource = sized.resource; page = q.page }) at) over
        ∙ (file_begins next.bundle keys stream files next.run f begins.table.rise has opens sized q.page at
        ∙ ap (λ (o : Option PageContent). made_byte o at 0)
        (get_or_past f.pages q.page None (subst (λ (k : ℕ). k ≤ q.page) (sym long) past))) in
        ap (λ (k : ℕ). latest (history next 0) (record { domain = q.domain; resource = k; page = q.page }) at)
        (sym resource)
        ∙ (start
        ∙ sym (no_program next.bundle.programs q at
        (not_own number q.resource here.program (opens.own q.domain here.program here.there) here.holds)))
      where
        none_some : (x : PageId) → None ≡ Some x → ⊥
        none_some x is = cc

    -- a page that the earlier run had
    old_page : (q old : PageId) (at number : ℕ) → InDomain now q.domain q.resource number →
        page_at_end earlier (record { domain = q.domain; number = number; page = q.page }) ≡ Some old →
        latest (history next 0) q at ≡ latest (whole_history earlier) old at
    old_page q old at number here is =
        let p : FilePage = record { domain = q.domain; number = number; page = q.page } in
        let goes_on = page_goes_on earlier next made made' goes p old is in
        let page = is_page now p goes_on.page goes_on.there in
        let unique = opens.unique q.domain here.program here.there q.resource number here.holds in
        let resource : page.resource ≡ q.resource =
        some_number page.resource q.resource
        (sym (number_in now q.domain number page.program page.there ∙ page.place)
        ∙ (number_in now q.domain number here.program here.there ∙ unique)) in
        let same : goes_on.page ≡ q =
        page.is
        ∙ ap (λ (k : ℕ). let x : PageId = record { domain = q.domain; resource = k; page = q.page } in x) resource in
        ap (λ (x : PageId). latest (history next 0) x at) (sym same) ∙ goes_on.bytes at

    -- what each page begins with
    begins_with : (before : PageId → ℕ → ℕ) →
        ((q : PageId) (at : ℕ) → latest (whole_history earlier) q at ≡ before q at) → (q : PageId) (at : ℕ) →
        latest (history next 0) q at ≡ begun_byte next.bundle before (page_before next earlier q) q at
    begins_with before same q at = by_number (file_number (resource_in now q.domain q.resource)) refl
      where
        p : ℕ → FilePage
        p number = record { domain = q.domain; number = number; page = q.page }

        at_place : (number : ℕ) (o : Option ℕ) → InDomain now q.domain q.resource number →
            resource_of_file was q.domain number ≡ o → page_of_file was (p number) ≡ None →
            latest (history next 0) q at ≡ image q at
        at_place number None here is none = new_file q at number here is
        at_place number (Some n) here is none =
            past_file q at number n here (is_at q.domain number n was is) none

        by_page : (number : ℕ) (o : Option PageId) → InDomain now q.domain q.resource number →
            page_at_end earlier (p number) ≡ o →
            latest (history next 0) q at ≡ begun_byte next.bundle before o q at
        by_page number None here is = at_place number (resource_of_file was q.domain number) here refl is
        by_page number (Some old) here is = old_page q old at number here is ∙ same old at

        by_number : (o : Option ℕ) → file_number (resource_in now q.domain q.resource) ≡ o →
            latest (history next 0) q at
            ≡ begun_byte next.bundle before
            (option_and_then (page_at_end earlier) (option_map (λ (number : ℕ). p number) o)) q at
        by_number None is = no_file q at is
        by_number (Some number) is =
            by_page number (page_at_end earlier (p number))
            (in_domain now q.domain q.resource number (slice_get now q.domain) refl is) refl

next_begins : (earlier next : MadeRun) → IsMade earlier → IsMade next → GoesOnFrom next earlier →
    (before : PageId → ℕ → ℕ) → ((q : PageId) (at : ℕ) → latest (whole_history earlier) q at ≡ before q at) →
    (q : PageId) (at : ℕ) →
    latest (history next 0) q at ≡ begun_byte next.bundle before (page_before next earlier q) q at
next_begins earlier next made made' goes =
    begins_with earlier next goes.keys goes.stream made made' goes goes.over
    (subst (IsBeginning next.bundle) goes.over made'.beginning)
    (opens_over_files next.bundle next.from _ next.budget next.run made'.runs goes.over)

-- The chain.

newest_made : (m : MadeRun) (earlier : List MadeRun) → IsChain m earlier → IsMade m
newest_made m [] chain = chain
newest_made m (e ∷ earlier) chain = chain.0

-- by what they begin with
stored_since : (m : MadeRun) (begun : PageId → ℕ → ℕ) →
    ((q : PageId) (at : ℕ) → latest (history m 0) q at ≡ begun q at) →
    (n : ℕ) (q : PageId) (at : ℕ) → latest (history m n) q at ≡ latest_since begun (moves_until m n) q at
stored_since m begun begins n q at =
    let same : latest (history m 0) ≡ begun = λ i q' at'. begins q' at' i in
    ap (λ (h : List Move). latest h q at) (history_is m n)
    ∙ (since_append (moves_until m n) (history m 0) q at
    ∙ ap (λ (first : PageId → ℕ → ℕ). latest_since first (moves_until m n) q at) same)

loaded_since : (m : MadeRun) (begun : PageId → ℕ → ℕ) →
    ((q : PageId) (at : ℕ) → latest (history m 0) q at ≡ begun q at) →
    (n d : ℕ) → loads_of d (history m n) ≡ loads_since begun d (moves_until m n)
loaded_since m begun begins n d =
    let same : latest (history m 0) ≡ begun = λ i q' at'. begins q' at' i in
    ap (loads_of d) (history_is m n)
    ∙ (loads_append (moves_until m n) (history m 0) d
    ∙ (ap (λ (first : List (ℕ × ℕ)). first ++ loads_since (latest (history m 0)) d (moves_until m n)) (no_load m d)
    ∙ ap (λ (first : PageId → ℕ → ℕ). loads_since first d (moves_until m n)) same))

-- what pages begin with, in the newest run
chain_begins : (m : MadeRun) (earlier : List MadeRun) → IsChain m earlier → (q : PageId) (at : ℕ) →
    latest (history m 0) q at ≡ begun_over m earlier q at
chain_begins m [] chain q at = refl
chain_begins m (e ∷ earlier) chain q at =
    next_begins e m (newest_made e earlier chain.1.1) chain.0 chain.1.0
    (latest_since (begun_over e earlier) (moves_until e (length e.run.turns)))
    (stored_since e (begun_over e earlier) (chain_begins e earlier chain.1.1) (length e.run.turns)) q at

pub chains_give_latest : ChainsGiveLatest
chains_give_latest m earlier chain =
    let made = newest_made m earlier chain in
    let gives = runs_give_latest m.bundle m.from m.budget m.run made.in_grammar made.beginning made.runs in
    let begins = chain_begins m earlier chain in
    let stored = stored_since m (begun_over m earlier) begins in
    record {
      loads = λ n low d program is.
          gives.loads n low d program is ∙ loaded_since m (begun_over m earlier) begins n d;
      pages = λ n low q at. (gives.pages n low q).each at ∙ stored n q at;
      stored = stored;
    }
