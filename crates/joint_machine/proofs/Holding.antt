-- What files hold, by what the pager knows, over plain variables.
use Rattle.std.proofs.Common.{◌≡◌, ◌≢◌, ◌∙◌, ◌+◌, ℕ, zero, suc, Bool, true, false, cond, List, [], ◌∷◌, ◌++◌, map, slice_index_or, Option, Some, None, All, refl, ap, sym, subst, arith}
use Rattle.std.specs.Prelude.{nat_lt, option_map}
use Rattle.std.proofs.lemmas.List.{map-append}
use Rattle.cloak_base.specs.declared.names.Meta.{Meta}
use Rattle.cloak_base.specs.declared.names.PageId.{PageId}
use Rattle.cloak_model.specs.declared.resource.Owner.{Owner}
use Rattle.cloak_model.specs.declared.resource.Owner.TheVariants.{Space, File}
use Rattle.cloak_model.specs.declared.resource.Resource.{Resource}
use Rattle.cloak_model.specs.Cloaking.{CloakedMemory}
use Rattle.cloak_model.specs.DomainState as model
use Rattle.cloak_model.specs.Ledger.{domain_key}
use Rattle.cloak_model.specs.Opening.{numbers_below}
use Rattle.cloak_model.specs.Parts.{Joint as Machine}
use Rattle.cloak_model.specs.StoredFiles.{FileContents, HasSealedPages, IsSealedIfShown, StoredFile, meta_of, stored_file, table_of}
use Rattle.cloak_model.specs.StoredRun.{content_of, contents_from, contents_of, file_in, file_owned, files_in, inserted, sorted}
use Rattle.protect_meta.specs.Table.{MetaRow, meta_at}
use Rattle.cloak_pager.specs.State.{PagerState, held_in, owed_under, page_of, right_at}
use Rattle.cloak_pager.specs.Relation.{IsUnowed, StandsForMemory}
use Rattle.cloak_pager.specs.declared.frame_right.FrameRight.{FrameRight}
use Rattle.cloak_pager.specs.declared.frame_right.FrameRight.TheVariants.{Outside, Clean, Changed, Spent}
use Rattle.cloak_pager.proofs.Contents.{knows_content}
use Rattle.hypercalls.specs.declared.domain.Domain.{Domain}
use Rattle.hypercalls.specs.Standing.{StandsFor, control_of}
use Rattle.joint_machine.specs.declared.joint.Joint.{Joint}
use Rattle.joint_machine.specs.declared.storing.FilePlace.{FilePlace}
use Rattle.joint_machine.specs.Standing.{AllOutside, AreDomains, StandsForJoint}
use Rattle.joint_machine.specs.Storing.{known_file, known_files, place_in, place_inserted, place_owned, places_in, places_of, places_sorted}
use Rattle.std.proofs.lemmas.List.Elements.{All-append}

-- The contents of a file.

content_at : CloakedMemory → ℕ → FilePlace → FileContents
content_at m d f = record {
  domain = d;
  number = f.number;
  pages = map (λ (page : ℕ). content_of m (record { domain = d; resource = f.resource; page = page })) (numbers_below f.pages);
}

owned_contents : (m : CloakedMemory) (d n pages : ℕ) (owner : Owner) →
    map (content_at m d) (place_owned n pages owner) ≡ file_owned m d n pages owner
unfolding content_at
owned_contents m d n pages (Space space) = refl
owned_contents m d n pages (File number) = refl

in_contents : (m : CloakedMemory) (d n : ℕ) (held : Option Resource) →
    map (content_at m d) (place_in n held) ≡ file_in m d n held
in_contents m d n None = refl
in_contents m d n (Some held) = owned_contents m d n held.pages held.owner

places_contents : (m : CloakedMemory) (d n : ℕ) (held : List (Option Resource)) →
    map (content_at m d) (places_in n held) ≡ files_in m d n held
unfolding files_in
places_contents m d n [] = refl
places_contents m d n (h ∷ held) =
    map-append (content_at m d) (place_in n h) (places_in (n + 1) held)
    ∙ (ap (λ (l : List FileContents). l ++ map (content_at m d) (places_in (n + 1) held)) (in_contents m d n h)
    ∙ ap (λ (l : List FileContents). file_in m d n h ++ l) (places_contents m d (n + 1) held))

inserted_contents : (m : CloakedMemory) (d : ℕ) (f : FilePlace) (places : List FilePlace) →
    map (content_at m d) (place_inserted f places) ≡ inserted (content_at m d f) (map (content_at m d) places)
unfolding content_at
inserted_contents m d f [] = refl
inserted_contents m d f (g ∷ places) =
    elim (nat_lt f.number g.number) as (λ b. map (content_at m d) (cond b (f ∷ g ∷ places) (g ∷ place_inserted f places)) ≡ cond b (content_at m d f ∷ content_at m d g ∷ map (content_at m d) places) (content_at m d g ∷ inserted (content_at m d f) (map (content_at m d) places))) [
      | true ↦ refl
      | false ↦ ap (λ (l : List FileContents). content_at m d g ∷ l) (inserted_contents m d f places)
    ]

sorted_contents : (m : CloakedMemory) (d : ℕ) (places : List FilePlace) →
    map (content_at m d) (places_sorted places) ≡ sorted (map (content_at m d) places)
sorted_contents m d [] = refl
sorted_contents m d (f ∷ places) =
    inserted_contents m d f (places_sorted places) ∙ ap (inserted (content_at m d f)) (sorted_contents m d places)

-- those of a domain
domain_contents : (m : CloakedMemory) (d : ℕ) (x : Domain) (was : model.Domain) → StandsFor x was →
    map (content_at m d) (places_of x) ≡ sorted (files_in m d 0 was.control.resources.held)
domain_contents m d x was stands =
    sorted_contents m d (places_in 0 (control_of x).resources.held)
    ∙ (ap sorted (places_contents m d 0 (control_of x).resources.held)
    ∙ ap (λ (c : model.Control). sorted (files_in m d 0 c.resources.held)) (sym stands.control))

-- What is known of them.

-- the metadata of each page tells of its content
abbrev Tells : CloakedMemory → MetaRow → Type 0
Tells m t = (q : PageId) → option_map meta_of (content_of m q) ≡ meta_at t q

pages_known : (m : CloakedMemory) (t : MetaRow) (d resource : ℕ) → Tells m t → (numbers : List ℕ) →
    map (option_map meta_of) (map (λ (page : ℕ). content_of m (record { domain = d; resource = resource; page = page })) numbers)
    ≡ map (λ (page : ℕ). meta_at t (record { domain = d; resource = resource; page = page })) numbers
pages_known m t d resource tells [] = refl
pages_known m t d resource tells (n ∷ numbers) =
    ap (λ (o : Option Meta). o ∷ map (option_map meta_of) (map (λ (page : ℕ). content_of m (record { domain = d; resource = resource; page = page })) numbers))
    (tells (record { domain = d; resource = resource; page = n }))
    ∙ ap (λ (l : List (Option Meta)). meta_at t (record { domain = d; resource = resource; page = n }) ∷ l)
    (pages_known m t d resource tells numbers)

file_known : (m : CloakedMemory) (t : MetaRow) (d : ℕ) (f : FilePlace) → Tells m t →
    stored_file (content_at m d f) ≡ known_file t d f
unfolding content_at
file_known m t d f tells =
    ap (λ (l : List (Option Meta)). record { domain = d; number = f.number; pages = l })
    (pages_known m t d f.resource tells (numbers_below f.pages))

files_known : (m : CloakedMemory) (t : MetaRow) (d : ℕ) → Tells m t → (places : List FilePlace) →
    map stored_file (map (content_at m d) places) ≡ map (known_file t d) places
files_known m t d tells [] = refl
files_known m t d tells (f ∷ places) =
    ap (λ (s : StoredFile). s ∷ map stored_file (map (content_at m d) places)) (file_known m t d f tells)
    ∙ ap (λ (l : List StoredFile). known_file t d f ∷ l) (files_known m t d tells places)

pub tells_all : (m : CloakedMemory) (t : MetaRow) (d : ℕ) (xs : List Domain) (ds : List model.Domain) → AreDomains xs ds →
    Tells m t → known_files t d xs ≡ table_of (contents_from m d ds)
unfolding contents_from
tells_all m t d [] [] are tells = refl
tells_all m t d [] (was ∷ ds) are tells = absurd are
tells_all m t d (x ∷ xs) [] are tells = absurd are
tells_all m t d (x ∷ xs) (was ∷ ds) are tells =
    let here = sorted (files_in m d 0 was.control.resources.held) in
    ap (λ (l : List StoredFile). l ++ known_files t (d + 1) xs)
    (sym (files_known m t d tells (places_of x)) ∙ ap (map stored_file) (domain_contents m d x was are.0))
    ∙ (ap (λ (l : List StoredFile). map stored_file here ++ l) (tells_all m t (d + 1) xs ds are.1 tells)
    ∙ sym (map-append stored_file here (contents_from m (d + 1) ds)))

-- And they are sealed.

-- each content is that of its page, sealed under the key of its domain
abbrev Sealed : CloakedMemory → Type 0
Sealed m = (q : PageId) → IsSealedIfShown (domain_key m.ledger.keys q.domain) (content_of m q)

all_mapped : {A B : Type 0} (P : B → Type 0) (f : A → B) → ((x : A) → P (f x)) → (xs : List A) → All P (map f xs)
all_mapped P f each [] i d low = absurd (omega (arith, low))
all_mapped P f each (x ∷ xs) zero d low = each x
all_mapped P f each (x ∷ xs) (suc i) d low = all_mapped P f each xs i d (omega (arith, low))

file_sealed : (m : CloakedMemory) (d : ℕ) (f : FilePlace) → Sealed m → HasSealedPages m.ledger.keys (content_at m d f)
unfolding content_at
file_sealed m d f sealed =
    all_mapped (IsSealedIfShown (domain_key m.ledger.keys d))
    (λ (page : ℕ). content_of m (record { domain = d; resource = f.resource; page = page }))
    (λ page. sealed (record { domain = d; resource = f.resource; page = page })) (numbers_below f.pages)

pub sealed_all : (m : CloakedMemory) (d : ℕ) (xs : List Domain) (ds : List model.Domain) → AreDomains xs ds → Sealed m →
    All (HasSealedPages m.ledger.keys) (contents_from m d ds)
unfolding contents_from
sealed_all m d [] [] are sealed i x low = absurd (omega (arith, low))
sealed_all m d [] (was ∷ ds) are sealed i x low = absurd are
sealed_all m d (y ∷ xs) [] are sealed i x low = absurd are
sealed_all m d (y ∷ xs) (was ∷ ds) are sealed i x low =
    All-append (HasSealedPages m.ledger.keys) (sorted (files_in m d 0 was.control.resources.held)) (contents_from m (d + 1) ds)
    (subst (All (HasSealedPages m.ledger.keys)) (domain_contents m d y was are.0)
    (all_mapped (HasSealedPages m.ledger.keys) (content_at m d) (λ f. file_sealed m d f sealed) (places_of y)))
    (sealed_all m (d + 1) xs ds are.1 sealed) i x low

-- The pager.

mapped_at : (rights : List FrameRight) (f : ℕ) →
    slice_index_or (map owed_under rights) f None ≡ owed_under (slice_index_or rights f Spent)
mapped_at [] f = refl
mapped_at (h ∷ rights) zero = refl
mapped_at (h ∷ rights) (suc f) = mapped_at rights f

none_owed : (h : FrameRight) (q : PageId) → page_of h ≡ None → owed_under h ≢ Some q
none_owed (Outside r) q none some = cc
none_owed (Clean r) q none some = cc
none_owed (Changed r) q none some = cc
none_owed Spent q none some = cc

-- a frame that holds nothing is owed nothing
unowed : (p : PagerState) (wiped : PageId → Bool) (m : CloakedMemory) → StandsForMemory p wiped m →
    ((k : ℕ) → held_in p k ≡ None) → (q : PageId) → IsUnowed m q
unowed p wiped m stands outside q f some =
    none_owed (right_at p f) q (outside f)
    (sym (ap (λ (l : List (Option PageId)). slice_index_or l f None) stands.owed ∙ mapped_at p.rights f) ∙ some)

pub files_tell : (joint : Joint) (j : Machine) → StandsForJoint joint j →
    known_files joint.memory.pager.table 0 joint.domains.items ≡ table_of (contents_of j)
files_tell joint j stands =
    let p = joint.memory.pager in
    let h = stands.memory in
    tells_all j.memory p.table 0 joint.domains.items j.domains stands.domains
    (λ q. (knows_content p q (meta_at p.table q) refl h.wiped j.memory h.pager).tells)

pub files_sealed : (joint : Joint) (j : Machine) → StandsForJoint joint j → AllOutside joint →
    j.memory.ledger.missed ≡ false → All (HasSealedPages j.memory.ledger.keys) (contents_of j)
files_sealed joint j stands outside none =
    let p = joint.memory.pager in
    let h = stands.memory in
    sealed_all j.memory 0 joint.domains.items j.domains stands.domains
    (λ q. (knows_content p q (meta_at p.table q) refl h.wiped j.memory h.pager).sealed (h.whole (h.missed ∙ none) q)
    (unowed p h.wiped j.memory h.pager outside q))
