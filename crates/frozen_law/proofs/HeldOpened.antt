-- Pages that are owed or recorded are held, as a run begins, and so at every moment of it.
use Rattle.std.proofs.Common.{◌≡◌, ◌∙◌, inl, inr, ℕ, zero, suc, ◌+◌, ◌<◌, nat_lt, Bool, true, false, cond, List, [], ◌∷◌, length, replicate, slice_get, slice_index_or, slice_set, Option, Some, None, IfSome, Ok, refl, sym, ap, subst, arith}
use Rattle.std.specs.Prelude.{◌==◌, ◌||◌, IsSomeAnd, option_and_then, position}
use Rattle.std.proofs.lemmas.Bool.{false≢true, eqb-true}
use Rattle.std.proofs.lemmas.List.{get_or-set_same}
use Rattle.cloak_base.specs.Pages.{same_page}
use Rattle.cloak_base.specs.Random.{Random}
use Rattle.cloak_base.specs.declared.names.PageId.{PageId}
use Rattle.cloak_model.specs.declared.image.Bundle.{Bundle}
use Rattle.cloak_model.specs.declared.image.Program.{Program}
use Rattle.cloak_model.specs.declared.resource.MapFault.TheVariants as fault
use Rattle.cloak_model.specs.declared.resource.Owner.{Owner}
use Rattle.cloak_model.specs.declared.resource.Owner.TheVariants.{File}
use Rattle.cloak_model.specs.declared.resource.Resource.{Resource}
use Rattle.cloak_model.specs.Beginning.{Beginning, opening_from, with_content, with_contents}
use Rattle.cloak_model.specs.Bundle.{IsInGrammar}
use Rattle.cloak_model.specs.Cloaking.{CloakedMemory}
use Rattle.cloak_model.specs.DomainState.{Domain, started_control, started_domain, with_resources}
use Rattle.cloak_model.specs.Files.{holds_file, file_found, file_resource}
use Rattle.cloak_model.specs.Ledger.{Keys, next_vector}
use Rattle.cloak_model.specs.Opening.{RunEdge, started_joint, started_ledger, started_memory, started_domains, place_pages, place_programs}
use Rattle.cloak_model.specs.PageMoves.{place, place_with}
use Rattle.cloak_model.specs.Parts.{Joint}
use Rattle.cloak_model.specs.Resources.{Resources, Mapped, resource_at, pages_of, all_pages, first_free, refused, made_at, new_resource, started_resources}
use Rattle.cloak_model.specs.StoredFiles.{PageContent, FileContents}
use Rattle.domain_isolation.proofs.InOrder.{decided}
use Rattle.kernel_isolation.proofs.FilesAdded.{IsGiven, files_keep, files_of, opens_over}
use Rattle.kernel_isolation.proofs.Opened.{is_opened}
use Rattle.resource_map.proofs.Lists.{get_or-replicate_none, first_free-at}
use Rattle.limit_law.proofs.Moments.{at_every_moment}
use Rattle.limit_law.proofs.Runs.{opened_keep, next_is_low}
use Rattle.frozen_law.specs.Held.{IsHeldBy, IsHeldIn, RunsHoldPages}
use Rattle.frozen_law.proofs.HeldPages.{HeldStay, file_stay}
use Rattle.frozen_law.proofs.HeldRuns.{HeldIf, JointHolds, Fits, step_fits}
use Rattle.frozen_law.proofs.Owned.{PagesAreOf, of_wide, recorded_by}
use Rattle.latest_store.proofs.Begun.{get_other, get_same}
use Rattle.cloak_model.proofs.Opening.{domain_started}

-- A page gets a record.

place_of_kind : (P : PageId → Type 0) (q : PageId) (f : ℕ) (bytes : List ℕ) (draw : Option (List ℕ × Random))
    (m : CloakedMemory) → P q → PagesAreOf P m → IfSome (place_with q f bytes draw m) (PagesAreOf P)
unfolding place_with
place_of_kind P q f bytes None m own of = tt
place_of_kind P q f bytes (Some draw) m own of = record {
  owed = of.owed;
  recorded = λ p some. recorded_by P (same_page p q) p q _ (m.ledger.recorded p) refl own (of.recorded p) some;
}

content_of_kind : (P : PageId → Type 0) (q : PageId) (c : Option PageContent) (m : CloakedMemory) → P q →
    PagesAreOf P m → PagesAreOf P (with_content q c m)
content_of_kind P q None m own of = of
content_of_kind P q (Some c) m own of = record {
  owed = of.owed;
  recorded = λ p some. recorded_by P (same_page p q) p q _ (m.ledger.recorded p) refl own (of.recorded p) some;
}

-- Pages of programs.

and_then_kind : (P : PageId → Type 0) (f : CloakedMemory → Option CloakedMemory) (o : Option CloakedMemory) →
    ((m : CloakedMemory) → PagesAreOf P m → IfSome (f m) (PagesAreOf P)) → IfSome o (PagesAreOf P) →
    IfSome (option_and_then f o) (PagesAreOf P)
and_then_kind P f None later of = tt
and_then_kind P f (Some m) later of = later m of

placed_kind : (P : PageId → Type 0) (q : PageId) (f : ℕ) (bytes : List ℕ) (m : CloakedMemory) → P q → PagesAreOf P m →
    IfSome (place q f bytes m) (PagesAreOf P)
unfolding place
placed_kind P q f bytes m own of = place_of_kind P q f bytes (next_vector m.ledger) m own of

pages_kind : (P : PageId → Type 0) (d : ℕ) (p : Program) (n : ℕ) (m : CloakedMemory) →
    ((page : ℕ) → page < n → P (record { domain = d; resource = 0; page = page })) → PagesAreOf P m →
    IfSome (place_pages d p n m) (PagesAreOf P)
pages_kind P d p zero m own of = of
pages_kind P d p (suc n) m own of =
    and_then_kind P (place _ _ _) (place_pages d p n m)
    (λ x there. placed_kind P _ _ _ x (own n (omega arith)) there)
    (pages_kind P d p n m (λ page low. own page (omega (arith, low))) of)

-- each page of these programs, of which the first has this number
abbrev HasPages : (PageId → Type 0) → ℕ → List Program → Type 0
HasPages P d programs =
    (k : ℕ) (p : Program) → slice_get programs k ≡ Some p → (page : ℕ) → page < p.start.pages →
    P (record { domain = d + k; resource = 0; page = page })

programs_kind : (P : PageId → Type 0) (d : ℕ) (programs : List Program) (m : CloakedMemory) → HasPages P d programs →
    PagesAreOf P m → IfSome (place_programs d programs m) (PagesAreOf P)
programs_kind P d [] m own of = of
programs_kind P d (p ∷ programs) m own of =
    let first : d + 0 ≡ d = omega arith in
    and_then_kind P (place_programs (d + 1) programs) (place_pages d p p.start.pages m)
    (λ x there. programs_kind P (d + 1) programs x
    (λ k q is page low.
    let same : d + suc k ≡ d + 1 + k = omega arith in
    subst (λ (n : ℕ). P (record { domain = n; resource = 0; page = page })) same (own (suc k) q is page low)) there)
    (pages_kind P d p p.start.pages m
    (λ page low.
    subst (λ (n : ℕ). P (record { domain = n; resource = 0; page = page })) first (own 0 p refl page low)) of)

own_page : (d : ℕ) (p : Program) (page : ℕ) → page < p.start.pages →
    IsHeldBy (started_domain d p.start).control.resources (record { domain = d; resource = 0; page = page })
unfolding started_domain started_control started_resources
own_page d p page low = low

programs_held : (programs : List Program) → HasPages (IsHeldIn (started_domains 0 programs)) 0 programs
programs_held programs k p is page low =
    subst (λ (o : Option Domain).
    IsSomeAnd o (λ d. IsHeldBy d.control.resources (record { domain = 0 + k; resource = 0; page = page })))
    (sym (ap (slice_get (started_domains 0 programs)) (let same : 0 + k ≡ k = omega arith in same)
    ∙ domain_started 0 k programs p is)) (own_page (0 + k) p page low)

none_some : {A : Type 0} (P : A → Type 0) (n f : ℕ) → IfSome (slice_index_or (replicate n None) f None) P
none_some P n f = subst (λ (o : Option _). IfSome o P) (sym (get_or-replicate_none n f)) tt

started_kind : (P : PageId → Type 0) (b : Bundle) (keys : Keys) (rest : Random) →
    PagesAreOf P (started_memory b.kernel keys rest)
unfolding started_memory started_ledger
started_kind P b keys rest =
    record { owed = λ f. none_some P b.kernel.frames f; recorded = λ q some. absurd (false≢true some) }

joint_holds : (b : Bundle) (m : CloakedMemory) → PagesAreOf (IsHeldIn (started_domains 0 b.programs)) m →
    JointHolds (started_joint b m)
unfolding started_joint
joint_holds b m of = of

-- Pages of files.

size_by : (n pages : ℕ) (t : Bool) (x y : Mapped ℕ) →
    (t ≡ true → x.answer ≡ Ok n → pages_of (resource_at x.resources n) ≡ pages) →
    (y.answer ≡ Ok n → pages_of (resource_at y.resources n) ≡ pages) → (cond t x y).answer ≡ Ok n →
    pages_of (resource_at (cond t x y).resources n) ≡ pages
size_by n pages true x y here there is = here refl is
size_by n pages false x y here there is = there is

made_size : (owner : Owner) (pages : ℕ) (o : Option ℕ) (r : Resources) (n : ℕ) → first_free r.held ≡ o →
    (made_at owner pages o r).answer ≡ Ok n → pages_of (resource_at (made_at owner pages o r).resources n) ≡ pages
unfolding made_at
made_size owner pages None r n free is = absurd cc
made_size owner pages (Some k) r n free is =
    let same : k ≡ n = cc in
    let x : Resource = record { owner = owner; pages = pages } in
    subst (λ (i : ℕ). pages_of (slice_index_or (slice_set r.held k (Some x)) i None) ≡ pages) same
    (ap pages_of (get_or-set_same r.held k (Some x) None (first_free-at r.held k free).0))

new_size : (owner : Owner) (pages : ℕ) (r : Resources) (n : ℕ) → (new_resource owner pages r).answer ≡ Ok n →
    pages_of (resource_at (new_resource owner pages r).resources n) ≡ pages
unfolding new_resource
new_size owner pages r n is =
    size_by n pages ((pages == 0) || nat_lt 1024 pages) (refused fault.BadArg r) _ (λ t bad. absurd cc)
    (size_by n pages (nat_lt 1024 (all_pages r + pages)) (refused fault.Full r) (made_at owner pages (first_free r.held) r)
    (λ t bad. absurd cc) (made_size owner pages (first_free r.held) r n refl)) is

found_size : (number pages : ℕ) (o : Option ℕ) (r : Resources) (n : ℕ) → (file_found number pages o r).answer ≡ Ok n →
    pages_of (resource_at (file_found number pages o r).resources n) ≡ pages
unfolding file_found
found_size number pages None r n is = new_size (File number) pages r n is
found_size number pages (Some k) r n is =
    size_by n pages (pages_of (resource_at r k) == pages) (record { answer = Ok k; resources = r }) (refused fault.BadArg r)
    (λ t ok.
    let same : k ≡ n = cc in
    subst (λ (i : ℕ). pages_of (resource_at r i) ≡ pages) same (eqb-true (pages_of (resource_at r k)) pages t))
    (λ bad. absurd cc) is

file_size : (number pages : ℕ) (r : Resources) (n : ℕ) → (file_resource number pages r).answer ≡ Ok n →
    pages_of (resource_at (file_resource number pages r).resources n) ≡ pages
unfolding file_resource
file_size number pages r n is = found_size number pages (position (holds_file number) r.held) r n is

below_size : (o : Option Resource) (page pages : ℕ) → pages_of o ≡ pages → page < pages →
    IsSomeAnd o (λ held. page < held.pages)
below_size None page pages is low = absurd (omega (arith, is, low))
below_size (Some x) page pages is low = omega (arith, is, low)

contents_kind : (P : PageId → Type 0) (d n page : ℕ) (contents : List (Option PageContent)) (m : CloakedMemory) →
    ((k : ℕ) → k < length contents → P (record { domain = d; resource = n; page = page + k })) → PagesAreOf P m →
    PagesAreOf P (with_contents d n page contents m)
unfolding with_contents
contents_kind P d n page [] m own of = of
contents_kind P d n page (c ∷ contents) m own of =
    let first : page + 0 ≡ page = omega arith in
    contents_kind P d n (page + 1) contents _
    (λ k low.
    let same : page + suc k ≡ page + 1 + k = omega arith in
    subst (λ (i : ℕ). P (record { domain = d; resource = n; page = i })) same (own (suc k) (omega (arith, low))))
    (content_of_kind P _ c m
    (subst (λ (i : ℕ). P (record { domain = d; resource = n; page = i })) first (own 0 (omega arith))) of)

-- a program gets more resources
more_held : (domains : List Domain) (d : ℕ) (was new : Domain) → slice_get domains d ≡ Some was →
    HeldStay was.control.resources new.control.resources → (q : PageId) → IsHeldIn domains q →
    IsHeldIn (slice_set domains d new) q
more_held domains d was new there stay q held = elim (decided q.domain d) [
  | inl same ↦
      let before : slice_get domains q.domain ≡ Some was = ap (slice_get domains) same ∙ there in
      let after : slice_get (slice_set domains d new) q.domain ≡ Some new =
      ap (slice_get (slice_set domains d new)) same ∙ get_same domains d was new there in
      subst (HeldIf q) (sym after) (stay q (subst (HeldIf q) before held))
  | inr apart ↦ subst (HeldIf q) (sym (get_other domains d q.domain new apart)) held
]

given_holds : (f : FileContents) (x y : Joint) → IsGiven f x y → JointHolds x → JointHolds y
given_holds f x y given of =
    let made = file_resource f.number (length f.pages) given.domain.control.resources in
    let n = given.resource in
    let new : Domain = with_resources made.resources given.domain in
    let after : List Domain = slice_set x.domains f.domain new in
    let there = get_same x.domains f.domain given.domain new given.there in
    let size = file_size f.number (length f.pages) given.domain.control.resources n given.answer in
    subst JointHolds given.is
    (contents_kind (IsHeldIn after) f.domain n 0 f.pages x.memory
    (λ k low.
    subst (HeldIf (record { domain = f.domain; resource = n; page = 0 + k })) (sym there)
    (below_size (resource_at made.resources n) (0 + k) (length f.pages) size (omega (arith, low))))
    (of_wide (IsHeldIn x.domains) (IsHeldIn after) x.memory
    (more_held x.domains f.domain given.domain new given.there
    (file_stay f.number (length f.pages) given.domain.control.resources)) of))

-- The run.

opened_holds : (b : Bundle) (from : Beginning) (o : RunEdge) → opening_from b from ≡ Ok o → JointHolds o.joint
opened_holds b from o opens =
    let over = opens_over b from o opens in
    let held : PageId → Type 0 = IsHeldIn (started_domains 0 b.programs) in
    let placed = subst (λ (m : Option CloakedMemory). IfSome m (PagesAreOf held)) over.placed
    (programs_kind held 0 b.programs _ (programs_held b.programs) (started_kind held b over.keys over.stream)) in
    files_keep JointHolds given_holds (files_of from) (started_joint b over.memory) o.joint over.added
    (joint_holds b over.memory placed)

opened_fits : (b : Bundle) (from : Beginning) → IsInGrammar b → (o : RunEdge) → opening_from b from ≡ Ok o → Fits o.joint
opened_fits b from grammar o opens = record {
  steady = (is_opened b from o opens).steady;
  keep = opened_keep b from grammar o opens;
  of = opened_holds b from o opens;
}

pub runs_hold_pages : RunsHoldPages
runs_hold_pages b from budget r grammar is n =
    let here = at_every_moment Fits b from budget r (opened_fits b from grammar)
    (λ m same fits. step_fits m (next_is_low b m grammar same) fits) is n in
    record { owed = here.of.owed; recorded = here.of.recorded }
