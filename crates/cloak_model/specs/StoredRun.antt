-- What the cloaked files hold at the end of a run, for the next one to go on from.
use Rattle.std.specs.Prelude.{ℕ, ◌+◌, List, [], ◌∷◌, ◌++◌, map, Option, Some, None, nat_lt, if◌then◌else◌}
use Rattle.cloak_base.specs.declared.names.PageId.{PageId}
use Rattle.cloak_model.specs.declared.resource.Owner.{Owner}
use Rattle.cloak_model.specs.declared.resource.Owner.TheVariants.{Space, File}
use Rattle.cloak_model.specs.declared.resource.Resource.{Resource}
use Rattle.cloak_model.specs.Cloaking.{CloakedMemory}
use Rattle.cloak_model.specs.DomainState.{Domain}
use Rattle.cloak_model.specs.Parts.{Joint}
use Rattle.cloak_model.specs.Opening.{numbers_below}
use Rattle.cloak_model.specs.StoredFiles.{PageContent, FileContents}

-- a page that was shown, with its vector
abbrev pub shown_content : List ℕ → Option (List ℕ) → Option (List ℕ) → Option PageContent
shown_content plain (Some cipher) (Some iv) = Some (record { plain = plain; iv = iv; cipher = cipher })
shown_content plain _ _ = None

abbrev pub content_of : CloakedMemory → PageId → Option PageContent
content_of m q = shown_content (m.plain q) (m.ledger.recorded q) (m.ledger.iv q)

-- a resource of domain d with this number, if it is a file
abbrev pub file_owned : CloakedMemory → ℕ → ℕ → ℕ → Owner → List FileContents
file_owned m d n pages (Space space) = []
file_owned m d n pages (File number) = record {
  domain = d;
  number = number;
  pages = map (λ (page : ℕ). content_of m (record { domain = d; resource = n; page = page })) (numbers_below pages);
} ∷ []

abbrev pub file_in : CloakedMemory → ℕ → ℕ → Option Resource → List FileContents
file_in m d n None = []
file_in m d n (Some held) = file_owned m d n held.pages held.owner

-- the files among resources, of which the first has this number
unfoldable pub files_in : CloakedMemory → ℕ → ℕ → List (Option Resource) → List FileContents
files_in m d n [] = []
files_in m d n (held ∷ more) = file_in m d n held ++ files_in m d (n + 1) more

-- files by rising number
abbrev pub inserted : FileContents → List FileContents → List FileContents
inserted f [] = f ∷ []
inserted f (g ∷ files) = if nat_lt f.number g.number then f ∷ g ∷ files else g ∷ inserted f files

abbrev pub sorted : List FileContents → List FileContents
sorted [] = []
sorted (f ∷ files) = inserted f (sorted files)

-- the files of domains, of which the first has this number; one that has ended has no resources any more
unfoldable pub contents_from : CloakedMemory → ℕ → List Domain → List FileContents
contents_from m d [] = []
contents_from m d (domain ∷ domains) =
    sorted (files_in m d 0 domain.control.resources.held) ++ contents_from m (d + 1) domains

-- what the files of a machine hold, once all frames are settled
abbrev pub contents_of : Joint → List FileContents
contents_of j = contents_from j.memory 0 j.domains
