-- What a run leaves of its files tells no key as a vector.
use Rattle.std.proofs.Common.{◌≡◌, ℕ, ◌+◌, Bool, true, false, cond, List, [], ◌∷◌, ◌++◌, map, Option, Some, None, IfSome, refl}
use Rattle.std.specs.Prelude.{All, nat_lt, option_map}
use Rattle.std.specs.List.{AllByRecursion}
use Rattle.std.proofs.lemmas.List.Elements.{All-from_recursion}
use Rattle.cloak_base.specs.declared.names.Meta.{Meta}
use Rattle.cloak_base.specs.declared.names.PageId.{PageId}
use Rattle.cloak_model.specs.declared.image.Program.{Program}
use Rattle.cloak_model.specs.declared.resource.Owner.{Owner}
use Rattle.cloak_model.specs.declared.resource.Owner.TheVariants.{Space, File}
use Rattle.cloak_model.specs.declared.resource.Resource.{Resource}
use Rattle.cloak_model.specs.Beginning.{Beginning}
use Rattle.cloak_model.specs.Cloaking.{CloakedMemory}
use Rattle.cloak_model.specs.DomainState.{Domain}
use Rattle.cloak_model.specs.Opening.{numbers_below}
use Rattle.cloak_model.specs.StoredFiles.{FileContents, StoredFile, meta_of, stored_file, table_of}
use Rattle.cloak_model.specs.StoredRun.{content_of, shown_content, file_owned, file_in, files_in, inserted, sorted, contents_from, contents_of}
use Rattle.vector_law.specs.Vectors.{IsNoKey, HasNoKeys, StoresTellNoKey}
use Rattle.vector_law.proofs.Vectors.{closed_without_keys}

all_append : {A : Type 0} (P : A → Type 0) (xs ys : List A) → AllByRecursion P xs → AllByRecursion P ys →
    AllByRecursion P (xs ++ ys)
all_append P [] ys first second = second
all_append P (x ∷ xs) ys first second = (first.0, all_append P xs ys first.1 second)

all_either : {A : Type 0} (P : A → Type 0) (test : Bool) (xs ys : List A) → AllByRecursion P xs → AllByRecursion P ys →
    AllByRecursion P (cond test xs ys)
all_either P true xs ys first second = first
all_either P false xs ys first second = second

module _ (programs : List Program) (from : Beginning) (m : CloakedMemory) (has : HasNoKeys programs from m.ledger) where
  abbrev PageTells : Option Meta → Type 0
  PageTells o = IfSome o (λ x. IsNoKey programs from x.iv)

  -- of a file with its contents, the file that is stored
  abbrev Tells : FileContents → Type 0
  Tells f = AllByRecursion PageTells (map (option_map meta_of) f.pages)

  content_tells : (q : PageId) (cipher iv : Option (List ℕ)) → m.ledger.iv q ≡ iv →
      PageTells (option_map meta_of (shown_content (m.plain q) cipher iv))
  content_tells q None iv is = tt
  content_tells q (Some c) None is = tt
  content_tells q (Some c) (Some iv) is = has q iv is

  pages_tell : (d n : ℕ) (numbers : List ℕ) →
      AllByRecursion PageTells
      (map (option_map meta_of)
      (map (λ (page : ℕ). content_of m (record { domain = d; resource = n; page = page })) numbers))
  pages_tell d n [] = tt
  pages_tell d n (page ∷ numbers) =
      let q : PageId = record { domain = d; resource = n; page = page } in
      (content_tells q (m.ledger.recorded q) (m.ledger.iv q) refl, pages_tell d n numbers)

  owned_tells : (d n pages : ℕ) (owner : Owner) → AllByRecursion Tells (file_owned m d n pages owner)
  owned_tells d n pages (Space space) = tt
  owned_tells d n pages (File number) = (pages_tell d n (numbers_below pages), tt)

  one_tells : (d n : ℕ) (held : Option Resource) → AllByRecursion Tells (file_in m d n held)
  one_tells d n None = tt
  one_tells d n (Some held) = owned_tells d n held.pages held.owner

  files_tell : (d n : ℕ) (held : List (Option Resource)) → AllByRecursion Tells (files_in m d n held)
  unfolding files_in
  files_tell d n [] = tt
  files_tell d n (o ∷ held) =
      all_append Tells (file_in m d n o) (files_in m d (n + 1) held) (one_tells d n o) (files_tell d (n + 1) held)

  inserted_tells : (f : FileContents) (files : List FileContents) → Tells f → AllByRecursion Tells files →
      AllByRecursion Tells (inserted f files)
  inserted_tells f [] first rest = (first, tt)
  inserted_tells f (g ∷ files) first rest =
      all_either Tells (nat_lt f.number g.number) (f ∷ g ∷ files) (g ∷ inserted f files) (first, rest)
      (rest.0, inserted_tells f files first rest.1)

  sorted_tells : (files : List FileContents) → AllByRecursion Tells files → AllByRecursion Tells (sorted files)
  sorted_tells [] all = tt
  sorted_tells (f ∷ files) all = inserted_tells f (sorted files) all.0 (sorted_tells files all.1)

  contents_tell : (d : ℕ) (domains : List Domain) → AllByRecursion Tells (contents_from m d domains)
  unfolding contents_from
  contents_tell d [] = tt
  contents_tell d (domain ∷ domains) =
      let files : List FileContents = files_in m d 0 domain.control.resources.held in
      all_append Tells (sorted files) (contents_from m (d + 1) domains)
      (sorted_tells files (files_tell d 0 domain.control.resources.held)) (contents_tell (d + 1) domains)

  abbrev FileTells : StoredFile → Type 0
  FileTells f = All PageTells f.pages

  table_tells : (files : List FileContents) → AllByRecursion Tells files → AllByRecursion FileTells (table_of files)
  table_tells [] all = tt
  table_tells (f ∷ files) all =
      (All-from_recursion PageTells (stored_file f).pages all.0, table_tells files all.1)

  all_tell : (files : List FileContents) → AllByRecursion Tells files → All FileTells (table_of files)
  all_tell files all = All-from_recursion FileTells (table_of files) (table_tells files all)

pub stores_tell_no_key : StoresTellNoKey
stores_tell_no_key b from budget r is =
    let j = r.closed.joint in
    let has = closed_without_keys b from budget r is in
    all_tell b.programs from j.memory has (contents_of j) (contents_tell b.programs from j.memory has 0 j.domains)
