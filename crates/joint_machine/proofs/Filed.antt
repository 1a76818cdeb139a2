-- Files that are added to a machine one after another, over plain variables.
use Rattle.std.proofs.Common.{◌≡◌, ◌≢◌, ◌<◌, ◌≤◌, ◌+◌, ◌∙◌, ℕ, zero, suc, Bool, true, false, List, [], ◌∷◌, length, drop, map, slice_get, slice_set, slice_index_or, Option, None, Some, Result, Ok, Err, All, refl, ap, sym, subst, arith, ◌⊎◌, inl, inr}
use Rattle.std.specs.Prelude.{option_map, position, is_none, nat_lt, if◌then◌else◌}
use Rattle.std.specs.List.{position_or_len}
use Rattle.std.proofs.lemmas.List.{at_drop_more, at_drop_all, get_or-set_same, get_or-set_other, get_or-map, get_or_default, set_past, length-map}
use Rattle.std.proofs.lemmas.List.Sums.{position_or_len_is, passes_at_first}
use Rattle.std.proofs.lemmas.Option.{cond_some}
use Rattle.std.proofs.lemmas.Bool.{cases_lt, ltb-true}
use Rattle.std.proofs.lemmas.Bool.Decides.{Decides-eqb, nat_tests}
use Rattle.cloak_base.proofs.Pages.{told, is_of-other}
use Rattle.cloak_base.specs.declared.names.Meta.{Meta}
use Rattle.cloak_model.specs.declared.resource.MapFault.{MapFault}
use Rattle.cloak_model.specs.declared.resource.MapFault.TheVariants.{BadArg, Full}
use Rattle.cloak_model.specs.declared.resource.Owner.TheVariants.{File}
use Rattle.cloak_model.specs.declared.resource.Resource.{Resource}
use Rattle.cloak_model.specs.Beginning.{and_then, file_added, file_given, files_added, with_contents}
use Rattle.cloak_model.specs.DomainState as model
use Rattle.cloak_model.specs.DomainState.{with_resources}
use Rattle.cloak_model.specs.Files.{file_resource, file_found, holds_file}
use Rattle.cloak_model.specs.Ledger.{Keys}
use Rattle.cloak_model.specs.Opening.{Lack, NoRoom}
use Rattle.cloak_model.specs.Parts.{Joint}
use Rattle.cloak_model.specs.Resources.{Mapped, Resources, resource_at, refused, new_resource, made_at, first_free}
use Rattle.cloak_model.specs.StoredFiles.{StoredFile, FileContents, Precedes, Rise, HasSealedPages, meta_of, stored_file, table_of}
use Rattle.protect_meta.specs.FileTable.{file_at}
use Rattle.cloak_pager.specs.State.{PagerState}
use Rattle.cloak_pager.proofs.Pages.{same_or_not}
use Rattle.cloaked_side.specs.declared.memory.Memory.{Memory}
use Rattle.hypercalls.specs.declared.domain.Domain.{Domain}
use Rattle.hypercalls.specs.Standing.{StandsFor, control_of}
use Rattle.joint_machine.specs.Filing.{AddsTo, AreFreeUnshown, AreTwoFiles, HasAddedFiles, HasNoFile, IsNewFile, IsSameBut, KeepsOtherPages, StandFiled}
use Rattle.joint_machine.specs.Standing.{AreDomains}
use Rattle.joint_machine.proofs.Continued.{IsSameMemory, contents_continue, continued_keys, continued_roots, holds_continued}
use Rattle.joint_machine.proofs.Places.{domain_at, domains_set, none_past}

-- A file that is made.

-- A resource was made for the file: its number was free, and nothing else changed.
pub record MakesFile (r after : Resources) (number pages n : ℕ) : Type 0 where
  pub free : resource_at r n ≡ None
  pub inside : n < length r.held
  pub held : after.held ≡ slice_set r.held n (Some (record { owner = File number; pages = pages }))

-- if no number holds the file, none is found
not_found : (r : Resources) (number : ℕ) → HasNoFile r number → position (holds_file number) r.held ≡ None
not_found r number none =
    let all : position_or_len (holds_file number) r.held ≡ length r.held =
    position_or_len_is (holds_file number) r.held (length r.held) None (omega arith) (λ k low. none k)
    (λ low. absurd (omega (arith, low))) in
    found_past (holds_file number) r.held all
  where
    found_past : (p : Option Resource → Bool) (xs : List (Option Resource)) → position_or_len p xs ≡ length xs →
        position p xs ≡ None
    found_past p xs all = grind (arith, nat_tests)

-- the lowest free number is free
free_at : (xs : List (Option Resource)) (n : ℕ) → first_free xs ≡ Some n →
    (slice_index_or xs n None ≡ None) × (n < length xs)
free_at xs n is =
    let first = cond_some (nat_lt (position_or_len is_none xs) (length xs)) (position_or_len is_none xs) n is in
    let low : position_or_len is_none xs < length xs = ltb-true _ _ first.0 in (
      none_by _ (subst (λ (k : ℕ). is_none (slice_index_or xs k None) ≡ true) first.1 (passes_at_first is_none xs None low)),
      subst (λ (k : ℕ). k < length xs) first.1 low,
    )
  where
    none_by : (o : Option Resource) → is_none o ≡ true → o ≡ None
    none_by None is = refl
    none_by (Some x) is = absurd (cc)

made_by : (number pages : ℕ) (free : Option ℕ) (r : Resources) (n : ℕ) → first_free r.held ≡ free →
    (made_at (File number) pages free r).answer ≡ Ok n →
    MakesFile r (made_at (File number) pages free r).resources number pages n
unfolding made_at
made_by number pages None r n found is = absurd (cc)
made_by number pages (Some k) r n found is =
    let same : k ≡ n = cc in record {
      free = (free_at r.held n (found ∙ ap Some same)).0;
      inside = (free_at r.held n (found ∙ ap Some same)).1;
      held = ap (λ (m : ℕ). slice_set r.held m (Some (record { owner = File number; pages = pages }))) same;
    }

new_by : (number pages n : ℕ) (r : Resources) (bad full : Bool) →
    (if bad then refused BadArg r else if full then refused Full r else
    made_at (File number) pages (first_free r.held) r).answer ≡ Ok n →
    MakesFile r (if bad then refused BadArg r else if full then refused Full r else
    made_at (File number) pages (first_free r.held) r).resources number pages n
new_by number pages n r true full is = absurd (cc)
new_by number pages n r false true is = absurd (cc)
new_by number pages n r false false is = made_by number pages (first_free r.held) r n refl is

new_made : (number pages n : ℕ) (r : Resources) → (new_resource (File number) pages r).answer ≡ Ok n →
    MakesFile r (new_resource (File number) pages r).resources number pages n
unfolding new_resource
new_made number pages n r is = new_by number pages n r _ _ is

found_by : (number pages n : ℕ) (r : Resources) (found : Option ℕ) → found ≡ None →
    (file_found number pages found r).answer ≡ Ok n → MakesFile r (file_found number pages found r).resources number pages n
unfolding file_found
found_by number pages n r None none is = new_made number pages n r is
found_by number pages n r (Some k) none is = absurd (cc)

pub file_made : (number pages n : ℕ) (r : Resources) → HasNoFile r number → (file_resource number pages r).answer ≡ Ok n →
    MakesFile r (file_resource number pages r).resources number pages n
unfolding file_resource
file_made number pages n r none is = found_by number pages n r _ (not_found r number none) is

-- What is told of numbers then.

there_or_past : (xs : List (Option Resource)) (n : ℕ) (x : Option Resource) →
    (slice_index_or (slice_set xs n x) n None ≡ x) ⊎ (slice_set xs n x ≡ xs)
there_or_past xs n x = elim (cases_lt n (length xs)) [
  | inl lt ↦ inl (get_or-set_same xs n x None lt)
  | inr ge ↦ inr (set_past xs n x ge)
]

-- a file of another number is still not there
pub still_new : (r after : Resources) (number pages n other : ℕ) → MakesFile r after number pages n → number ≢ other →
    HasNoFile r other → HasNoFile after other
still_new r after number pages n other made differ none k =
    let x : Option Resource = Some (record { owner = File number; pages = pages }) in
    let away : holds_file other x ≡ false =
    elim (told _ (Decides-eqb number other)) [ inl same ↦ absurd (differ same.1) | inr apart ↦ apart.0 ] in
    subst (λ (xs : List (Option Resource)). holds_file other (slice_index_or xs k None) ≡ false) (sym made.held)
    (elim (same_or_not k n) [
      | inl same ↦ subst (λ (m : ℕ). holds_file other (slice_index_or (slice_set r.held n x) m None) ≡ false) (sym same)
          (elim (there_or_past r.held n x) [
            | inl there ↦ ap (holds_file other) there ∙ away
            | inr past ↦ ap (λ (xs : List (Option Resource)). holds_file other (slice_index_or xs n None)) past ∙ none n
          ])
      | inr apart ↦ ap (holds_file other) (get_or-set_other r.held n k x None apart) ∙ none k
    ])

-- a number that is free was free, and is another one
pub still_free : (r after : Resources) (number pages n k : ℕ) → MakesFile r after number pages n →
    resource_at after k ≡ None → (resource_at r k ≡ None) × (k ≢ n)
still_free r after number pages n k made free =
    let x : Option Resource = Some (record { owner = File number; pages = pages }) in
    let is : slice_index_or (slice_set r.held n x) k None ≡ None =
    ap (λ (xs : List (Option Resource)). slice_index_or xs k None) (sym made.held) ∙ free in
    elim (same_or_not k n) [
      | inl same ↦ absurd (let taken : slice_index_or (slice_set r.held n x) k None ≡ x =
          ap (λ (m : ℕ). slice_index_or (slice_set r.held n x) m None) same ∙ get_or-set_same r.held n x None made.inside in
          let no : x ≡ None = sym taken ∙ is in cc)
      | inr apart ↦ (sym (get_or-set_other r.held n k x None apart) ∙ is, apart)
    ]

-- Domains after one of them got a file.

at_own : (ys : List Domain) (i : ℕ) (y z : Domain) → slice_get (slice_set ys i y) i ≡ Some z → z ≡ y
at_own [] i y z is = absurd (cc)
at_own (o ∷ ys) zero y z is = cc
at_own (o ∷ ys) (suc i) y z is = at_own ys i y z is

at_other : (ys : List Domain) (i j : ℕ) (y z : Domain) → j ≢ i → slice_get (slice_set ys i y) j ≡ Some z →
    slice_get ys j ≡ Some z
at_other [] i j y z n is = is
at_other (o ∷ ys) zero zero y z n is = absurd (n refl)
at_other (o ∷ ys) zero (suc j) y z n is = is
at_other (o ∷ ys) (suc i) zero y z n is = is
at_other (o ∷ ys) (suc i) (suc j) y z n is = at_other ys i j y z (λ e. n (ap suc e)) is

-- what was new and differs is still new
pub others_new : (xs : List Domain) (d : ℕ) (x x' : Domain) (number pages n : ℕ) (f : StoredFile) →
    slice_get xs d ≡ Some x →
    MakesFile (control_of x).resources (control_of x').resources number pages n →
    (d ≡ f.domain → number ≢ f.number) → IsNewFile xs f → IsNewFile (slice_set xs d x') f
others_new xs d x x' number pages n f there made differ is z at = elim (same_or_not f.domain d) [
  | inl same ↦
      let own : z ≡ x' = at_own xs d x' z (subst (λ (k : ℕ). slice_get (slice_set xs d x') k ≡ Some z) same at) in
      subst (λ (o : Domain). HasNoFile (control_of o).resources f.number) (sym own)
      (still_new (control_of x).resources (control_of x').resources number pages n f.number made (differ (sym same))
      (is x (ap (slice_get xs) same ∙ there)))
  | inr other ↦ is z (at_other xs d f.domain x' z other at)
]

pub unshown_after : (xs : List Domain) (d : ℕ) (x x' : Domain) (number pages n : ℕ) (old new : PagerState) →
    slice_get xs d ≡ Some x → MakesFile (control_of x).resources (control_of x').resources number pages n →
    KeepsOtherPages d n old new → AreFreeUnshown xs old →
    AreFreeUnshown (slice_set xs d x') new
unshown_after xs d x x' number pages n old new there made keeps unshown k m z at free q domain here =
    elim (same_or_not k d) [
      | inl same ↦
          let own : z ≡ x' = at_own xs d x' z (subst (λ (i : ℕ). slice_get (slice_set xs d x') i ≡ Some z) same at) in
          let was = still_free (control_of x).resources (control_of x').resources number pages n m made
          (ap (λ (o : Domain). resource_at (control_of o).resources m) (sym own) ∙ free) in
          keeps.metas q (is_of-other d n q (λ both. was.1 (sym here ∙ both.1)))
          ∙ unshown d m x there was.0 q (domain ∙ same) here
      | inr other ↦
          keeps.metas q (is_of-other d n q (λ both. other (sym domain ∙ both.0)))
          ∙ unshown k m z (at_other xs d k x' z other at) free q domain here
    ]

-- The machine after a file.

pub same_rest : (j : Joint) → IsSameBut j j
same_rest j = record { harts = refl; disk = refl; ended = refl; refused = refl; keys = refl; roots = λ s. refl }

pub has_none : (memory : Memory) (domains : List Domain) (j : Joint) → AreDomains domains j.domains →
    HasAddedFiles memory memory domains j j
has_none memory domains j are = record { domains = are; memory = λ holds. holds; rest = same_rest j }

pub has_then : (a b c : Memory) (domains domains' : List Domain) (j k l : Joint) → HasAddedFiles a b domains j k →
    HasAddedFiles b c domains' k l → HasAddedFiles a c domains' j l
has_then a b c domains domains' j k l first second = record {
  domains = second.domains;
  memory = λ holds. second.memory (first.memory holds);
  rest = record {
    harts = second.rest.harts ∙ first.rest.harts;
    disk = second.rest.disk ∙ first.rest.disk;
    ended = second.rest.ended ∙ first.rest.ended;
    refused = second.rest.refused ∙ first.rest.refused;
    keys = second.rest.keys ∙ first.rest.keys;
    roots = λ s. second.rest.roots s ∙ first.rest.roots s;
  };
}

-- the file as its domain makes it
abbrev pub made_of : ℕ → ℕ → model.Domain → Mapped ℕ
made_of number pages d = file_resource number pages d.control.resources

given : (old new : Memory) (xs : List Domain) (x' : Domain) (f : FileContents) (was : model.Domain) (j : Joint) (n : ℕ)
    (resources : Resources) (answer : Result ℕ MapFault) → answer ≡ Ok n → AreDomains xs j.domains →
    StandsFor x' (with_resources resources was) → IsSameMemory old new →
    StandFiled old.pager new.pager f.domain n (map (option_map meta_of) f.pages) →
    HasSealedPages j.memory.ledger.keys f →
    AddsTo old new (slice_set xs f.domain x') j (Ok tt) (file_given f was j answer resources)
unfolding file_given
given old new xs x' f was j n resources (Err fault) is are stands same filed sealed = absurd (cc)
given old new xs x' f was j n resources (Ok k) is are stands same filed sealed =
    let here : n ≡ k = cc in
    let goes = contents_continue f.domain k 0 f.pages j.memory in
    record {
      domains = domains_set xs j.domains f.domain x' (with_resources resources was) are stands;
      memory = λ holds.
          holds_continued old new j.memory (with_contents f.domain k 0 f.pages j.memory) same goes holds
          (subst (λ (m : ℕ). StandFiled old.pager new.pager f.domain m (map (option_map meta_of) f.pages)) here filed
          holds.wiped j.memory f.pages holds.pager sealed refl);
      rest = record {
        harts = refl;
        disk = refl;
        ended = refl;
        refused = refl;
        keys = continued_keys j.memory _ goes;
        roots = continued_roots j.memory _ goes;
      };
    }

refused_by : (f : FileContents) (was : model.Domain) (j : Joint) (resources : Resources) (answer : Result ℕ MapFault)
    (fault : MapFault) → answer ≡ Err fault → file_given f was j answer resources ≡ Err (NoRoom f.domain)
unfolding file_given
refused_by f was j resources (Err other) fault is = refl
refused_by f was j resources (Ok n) fault is = absurd (cc)

added_at : (f : FileContents) (j : Joint) (was : model.Domain) (found : Option model.Domain) → found ≡ Some was →
    file_added f j found
    ≡ file_given f was j (made_of f.number (length f.pages) was).answer (made_of f.number (length f.pages) was).resources
unfolding file_added
added_at f j was None is = absurd (cc)
added_at f j was (Some other) is =
    ap (λ (d : model.Domain). file_given f d j (made_of f.number (length f.pages) d).answer (made_of f.number (length f.pages) d).resources)
    (let same : other ≡ was = cc in same)

-- the machine's numbers of a file are those of these contents
pub record IsOf (f : FileContents) (d number pages : ℕ) : Type 0 where
  pub domain : d ≡ f.domain
  pub number_is : number ≡ f.number
  pub pages_are : pages ≡ length f.pages

-- the domain answers what the code's own domain answers
answer_at : (x : Domain) (was : model.Domain) (f : FileContents) (d number pages : ℕ) → IsOf f d number pages →
    StandsFor x was →
    (made_of f.number (length f.pages) was).answer ≡ (file_resource number pages (control_of x).resources).answer
answer_at x was f d number pages is stands =
    ap (λ (k : ℕ). (made_of k (length f.pages) was).answer) (sym is.number_is)
    ∙ (ap (λ (k : ℕ). (made_of number k was).answer) (sym is.pages_are)
    ∙ ap (λ (c : model.Control). (file_resource number pages c.resources).answer) stands.control)

stands_at : (x' : Domain) (was : model.Domain) (f : FileContents) (d number pages : ℕ) → IsOf f d number pages →
    StandsFor x' (with_resources (made_of number pages was).resources was) →
    StandsFor x' (with_resources (made_of f.number (length f.pages) was).resources was)
stands_at x' was f d number pages is stands =
    subst (λ (k : ℕ). StandsFor x' (with_resources (made_of k (length f.pages) was).resources was)) is.number_is
    (subst (λ (k : ℕ). StandsFor x' (with_resources (made_of number k was).resources was)) is.pages_are stands)

-- the domain has the file now, and the memory its pages
pub file_added_as : (old new : Memory) (xs : List Domain) (x x' : Domain) (f : FileContents) (j : Joint)
    (d number pages n : ℕ) (known : List (Option Meta)) → IsOf f d number pages → known ≡ map (option_map meta_of) f.pages →
    slice_get xs d ≡ Some x → AreDomains xs j.domains →
    (file_resource number pages (control_of x).resources).answer ≡ Ok n →
    ((e : model.Domain) → StandsFor x e → StandsFor x' (with_resources (made_of number pages e).resources e)) →
    IsSameMemory old new → StandFiled old.pager new.pager d n known → HasSealedPages j.memory.ledger.keys f →
    AddsTo old new (slice_set xs d x') j (Ok tt) (file_added f j (slice_get j.domains f.domain))
file_added_as old new xs x x' f j d number pages n known is tells there are answer stands same filed sealed =
    let at = domain_at xs j.domains d x are there in
    let was = at.0 in
    let resources = (made_of f.number (length f.pages) was).resources in
    let files : StandFiled old.pager new.pager f.domain n (map (option_map meta_of) f.pages) =
    subst (λ (k : ℕ). StandFiled old.pager new.pager k n (map (option_map meta_of) f.pages)) is.domain
    (subst (StandFiled old.pager new.pager d n) tells filed) in
    subst (λ (k : ℕ). AddsTo old new (slice_set xs k x') j (Ok tt) (file_added f j (slice_get j.domains f.domain)))
    (sym is.domain)
    (subst (λ (r : Result Joint Lack). AddsTo old new (slice_set xs f.domain x') j (Ok tt) r)
    (sym (added_at f j was (slice_get j.domains f.domain) (ap (slice_get j.domains) (sym is.domain) ∙ at.1.0)))
    (given old new xs x' f was j n resources _ (answer_at x was f d number pages is at.1.1 ∙ answer) are
    (stands_at x' was f d number pages is (stands was at.1.1)) same files sealed))

-- there is no room for it
pub file_refused : (xs : List Domain) (x : Domain) (f : FileContents) (j : Joint) (d number pages : ℕ) (fault : MapFault) →
    IsOf f d number pages → slice_get xs d ≡ Some x → AreDomains xs j.domains →
    (file_resource number pages (control_of x).resources).answer ≡ Err fault →
    file_added f j (slice_get j.domains f.domain) ≡ Err (NoRoom d)
file_refused xs x f j d number pages fault is there are answer =
    let at = domain_at xs j.domains d x are there in
    let was = at.0 in
    added_at f j was (slice_get j.domains f.domain) (ap (slice_get j.domains) (sym is.domain) ∙ at.1.0)
    ∙ (refused_by f was j _ _ fault (answer_at x was f d number pages is at.1.1 ∙ answer)
    ∙ ap (λ (k : ℕ). Err (NoRoom k)) (sym is.domain))

none_there : (f : FileContents) (j : Joint) (found : Option model.Domain) → found ≡ None →
    file_added f j found ≡ Err (NoRoom f.domain)
unfolding file_added
none_there f j None is = refl
none_there f j (Some d) is = absurd (cc)

-- or no such domain
pub file_absent : (xs : List Domain) (f : FileContents) (j : Joint) (d number pages : ℕ) → IsOf f d number pages →
    length xs ≤ d → AreDomains xs j.domains → file_added f j (slice_get j.domains f.domain) ≡ Err (NoRoom d)
file_absent xs f j d number pages is past are =
    none_there f j _ (ap (slice_get j.domains) (sym is.domain) ∙ none_past xs j.domains d are past)
    ∙ ap (λ (k : ℕ). Err (NoRoom k)) (sym is.domain)

-- The machine's numbers of a file of the table.

abbrev pub AreNumbersOf : ℕ × ℕ × ℕ → StoredFile → Type 0
AreNumbersOf t file = t ≡ (file.domain, file.number, length file.pages)

pub is_of_contents : (t : ℕ × ℕ × ℕ) (file : StoredFile) (f : FileContents) → AreNumbersOf t file → file ≡ stored_file f →
    IsOf f t.0 t.1 t.2
is_of_contents t file f told is = record {
  domain = ap (λ (x : ℕ × ℕ × ℕ). x.0) told ∙ ap (λ (s : StoredFile). s.domain) is;
  number_is = ap (λ (x : ℕ × ℕ × ℕ). x.1) told ∙ ap (λ (s : StoredFile). s.number) is;
  pages_are = ap (λ (x : ℕ × ℕ × ℕ). x.2) told
      ∙ (ap (λ (s : StoredFile). length s.pages) is ∙ length-map f.pages (option_map meta_of));
}

pub made_here : (xs : List Domain) (x x' : Domain) (t : ℕ × ℕ × ℕ) (file : StoredFile) (n : ℕ) → AreNumbersOf t file →
    slice_get xs t.0 ≡ Some x → IsNewFile xs file → (file_resource t.1 t.2 (control_of x).resources).answer ≡ Ok n →
    control_of x' ≡ record (control_of x) { resources = (file_resource t.1 t.2 (control_of x).resources).resources } →
    MakesFile (control_of x).resources (control_of x').resources t.1 t.2 n
made_here xs x x' t file n told there is answer control =
    let domain = ap (λ (x : ℕ × ℕ × ℕ). x.0) told in
    let number = ap (λ (x : ℕ × ℕ × ℕ). x.1) told in
    let none : HasNoFile (control_of x).resources t.1 =
    subst (HasNoFile (control_of x).resources) (sym number) (is x (ap (slice_get xs) (sym domain) ∙ there)) in
    subst (λ (r : Resources). MakesFile (control_of x).resources r t.1 t.2 n)
    (sym (ap (λ (c : model.Control). c.resources) control))
    (file_made t.1 t.2 n (control_of x).resources none answer)

-- One file after another.

-- Of these files the first ones, up to this many, were added: the rest, added to what is there, is all.
pub record AddsFrom (old new : Memory) (domains : List Domain) (i : ℕ) (contents : List FileContents) (j : Joint) : Type 0 where
  pub so_far : Joint
  pub has : HasAddedFiles old new domains j so_far
  pub left : files_added (drop i contents) so_far ≡ files_added contents j

pub adds_none : (memory : Memory) (domains : List Domain) (contents : List FileContents) (j : Joint) →
    AreDomains domains j.domains → AddsFrom memory memory domains 0 contents j
adds_none memory domains contents j are = record { so_far = j; has = has_none memory domains j are; left = refl }

next_file : (i : ℕ) (contents : List FileContents) (j : Joint) (f : FileContents) → i < length contents →
    files_added (drop i contents) j
    ≡ and_then (files_added (drop (i + 1) contents))
    (file_added (slice_index_or contents i f) j (slice_get j.domains (slice_index_or contents i f).domain))
unfolding files_added
next_file i contents j f low = at_drop_more (λ (l : List FileContents). files_added l j) contents i f low

with_file : (old new : Memory) (domains : List Domain) (j : Joint) (made : Result Joint Lack) →
    AddsTo old new domains j (Ok tt) made → (after : Joint) × ((made ≡ Ok after) × HasAddedFiles old new domains j after)
with_file old new domains j (Ok after) adds = (after, (refl, adds))
with_file old new domains j (Err lack) adds = absurd adds

pub adds_next : (a b c : Memory) (domains domains' : List Domain) (i : ℕ) (contents : List FileContents) (j : Joint)
    (f : FileContents) → i < length contents → slice_index_or contents i f ≡ f → AddsFrom a b domains i contents j →
    ((k : Joint) → k.memory.ledger.keys ≡ j.memory.ledger.keys → AreDomains domains k.domains →
    AddsTo b c domains' k (Ok tt) (file_added f k (slice_get k.domains f.domain))) →
    AddsFrom a c domains' (i + 1) contents j
adds_next a b c domains domains' i contents j f low at so_far adds =
    let was = so_far.so_far in
    let made = with_file b c domains' was _ (adds was so_far.has.rest.keys so_far.has.domains) in
    record {
      so_far = made.0;
      has = has_then a b c domains domains' j was made.0 so_far.has made.1.1;
      left =
          sym (next_file i contents was f low
          ∙ (ap (λ (x : FileContents). and_then (files_added (drop (i + 1) contents)) (file_added x was (slice_get was.domains x.domain))) at
          ∙ ap (and_then (files_added (drop (i + 1) contents))) made.1.0))
          ∙ so_far.left;
    }

pub adds_refused : (a b : Memory) (domains : List Domain) (i d : ℕ) (contents : List FileContents) (j : Joint)
    (f : FileContents) → i < length contents → slice_index_or contents i f ≡ f → AddsFrom a b domains i contents j →
    ((k : Joint) → k.memory.ledger.keys ≡ j.memory.ledger.keys → AreDomains domains k.domains →
    file_added f k (slice_get k.domains f.domain) ≡ Err (NoRoom d)) →
    files_added contents j ≡ Err (NoRoom d)
adds_refused a b domains i d contents j f low at so_far refused =
    let was = so_far.so_far in
    sym so_far.left
    ∙ (next_file i contents was f low
    ∙ (ap (λ (x : FileContents). and_then (files_added (drop (i + 1) contents)) (file_added x was (slice_get was.domains x.domain))) at
    ∙ ap (and_then (files_added (drop (i + 1) contents))) (refused was so_far.has.rest.keys so_far.has.domains)))

pub adds_all : (a b : Memory) (domains : List Domain) (i : ℕ) (contents : List FileContents) (j : Joint) →
    length contents ≤ i → AddsFrom a b domains i contents j → AddsTo a b domains j (Ok tt) (files_added contents j)
unfolding files_added
adds_all a b domains i contents j past so_far =
    subst (λ (r : Result Joint Lack). AddsTo a b domains j (Ok tt) r)
    (sym (at_drop_all (λ (l : List FileContents). files_added l so_far.so_far) contents i past) ∙ so_far.left) so_far.has

-- Tables.

-- of two files of a table the first stands before the second, so they differ
pub differs : (f g : StoredFile) → Precedes f g → AreTwoFiles f g
differs f g (inl less) domain number = absurd (omega (arith, less, domain))
differs f g (inr same) domain number = absurd (let less = same.1 in omega (arith, less, number))

precedes_then : (f g h : StoredFile) → Precedes f g → Precedes g h → Precedes f h
precedes_then f g h (inl a) (inl b) = inl (omega (arith, a, b))
precedes_then f g h (inl a) (inr b) = inl (let e = b.0 in omega (arith, a, e))
precedes_then f g h (inr a) (inl b) = inl (let e = a.0 in omega (arith, b, e))
precedes_then f g h (inr a) (inr b) = inr (a.0 ∙ b.0, let x = a.1 in let y = b.1 in omega (arith, x, y))

first_precedes : (f : StoredFile) (files : List StoredFile) → Rise (f ∷ files) → (k : ℕ) → k < length files →
    Precedes f (file_at files k)
first_precedes f [] rise k low = absurd (omega (arith, low))
first_precedes f (g ∷ files) rise zero low = rise.0
first_precedes f (g ∷ files) rise (suc k) low =
    precedes_then f g (file_at files k) rise.0 (first_precedes g files rise.1 k (omega (arith, low)))

pub precedes_at : (files : List StoredFile) → Rise files → (i k : ℕ) → i < k → k < length files →
    Precedes (file_at files i) (file_at files k)
precedes_at [] rise i k less low = absurd (omega (arith, low))
precedes_at (f ∷ files) rise zero zero less low = absurd (omega (arith, less))
precedes_at (f ∷ files) rise zero (suc k) less low = first_precedes f files rise k (omega (arith, low))
precedes_at (f ∷ files) rise (suc i) zero less low = absurd (omega (arith, less))
precedes_at (f ∷ []) rise (suc i) (suc k) less low = absurd (omega (arith, low))
precedes_at (f ∷ g ∷ files) rise (suc i) (suc k) less low =
    precedes_at (g ∷ files) rise.1 i k (omega (arith, less)) (omega (arith, low))

-- the file of contents in its place of the table
pub stored_at : (contents : List FileContents) (files : List StoredFile) (i : ℕ) (f : FileContents) →
    files ≡ table_of contents → i < length contents → file_at files i ≡ stored_file (slice_index_or contents i f)
stored_at contents files i f same low =
    ap (λ (l : List StoredFile). file_at l i) same ∙ get_or-map stored_file contents i f _ low

-- as many
pub count_stored : (contents : List FileContents) (files : List StoredFile) → files ≡ table_of contents →
    length files ≡ length contents
count_stored contents files same = ap (λ (l : List StoredFile). length l) same ∙ length-map contents stored_file

-- a file that is there
abbrev pub content_at : List FileContents → ℕ → FileContents
content_at contents i = slice_index_or contents i (record { domain = 0; number = 0; pages = [] })

-- one more file
pub one_more : (a b c : Memory) (domains domains' : List Domain) (i : ℕ) (contents : List FileContents)
    (files : List StoredFile) (j : Joint) → i < length files → files ≡ table_of contents →
    All (HasSealedPages j.memory.ledger.keys) contents → AddsFrom a b domains i contents j →
    ((f : FileContents) (k : Joint) → file_at files i ≡ stored_file f → HasSealedPages k.memory.ledger.keys f →
    AreDomains domains k.domains → AddsTo b c domains' k (Ok tt) (file_added f k (slice_get k.domains f.domain))) →
    AddsFrom a c domains' (i + 1) contents j
one_more a b c domains domains' i contents files j low same sealed so_far adds =
    let within : i < length contents = omega (arith, low, count_stored contents files same) in
    let f = content_at contents i in
    adds_next a b c domains domains' i contents j f within
    (get_or_default contents i f (record { domain = 0; number = 0; pages = [] }) within) so_far
    (λ k keys are. adds f k (stored_at contents files i _ same within)
    (subst (λ (x : Keys). HasSealedPages x f) (sym keys) (sealed i _ within)) are)

-- none more
pub no_more : (a b : Memory) (domains : List Domain) (i d : ℕ) (contents : List FileContents) (files : List StoredFile)
    (j : Joint) → i < length files → files ≡ table_of contents → All (HasSealedPages j.memory.ledger.keys) contents →
    AddsFrom a b domains i contents j →
    ((f : FileContents) (k : Joint) → file_at files i ≡ stored_file f → HasSealedPages k.memory.ledger.keys f →
    AreDomains domains k.domains → file_added f k (slice_get k.domains f.domain) ≡ Err (NoRoom d)) →
    files_added contents j ≡ Err (NoRoom d)
no_more a b domains i d contents files j low same sealed so_far refused =
    let within : i < length contents = omega (arith, low, count_stored contents files same) in
    let f = content_at contents i in
    adds_refused a b domains i d contents j f within
    (get_or_default contents i f (record { domain = 0; number = 0; pages = [] }) within) so_far
    (λ k keys are. refused f k (stored_at contents files i _ same within)
    (subst (λ (x : Keys). HasSealedPages x f) (sym keys) (sealed i _ within)) are)
