-- What the files of programs hold as a run ends, by what the pager knows of each page.
use Rattle.std.specs.Prelude.{ℕ, ◌<◌, ◌+◌, nat_lt, List, [], ◌∷◌, ◌++◌, Option, Some, None, map, if◌then◌else◌}
use Rattle.cloak_base.specs.declared.names.Meta.{Meta}
use Rattle.cloak_model.specs.declared.resource.Owner.{Owner}
use Rattle.cloak_model.specs.declared.resource.Owner.TheVariants.{Space, File}
use Rattle.cloak_model.specs.declared.resource.Resource.{Resource}
use Rattle.cloak_model.specs.Opening.{numbers_below}
use Rattle.cloak_model.specs.StoredFiles.{StoredFile}
use Rattle.protect_meta.specs.Table.{MetaRow, meta_at}
use Rattle.hypercalls.specs.declared.domain.Domain.{Domain}
use Rattle.hypercalls.specs.Standing.{control_of}
use Rattle.joint_machine.specs.declared.storing.FilePlace.{FilePlace}

-- Where files are.

-- a resource with this number, if it is a file
abbrev pub place_owned : ℕ → ℕ → Owner → List FilePlace
place_owned n pages (Space space) = []
place_owned n pages (File number) = record { resource = n; number = number; pages = pages } ∷ []

abbrev pub place_in : ℕ → Option Resource → List FilePlace
place_in n None = []
place_in n (Some held) = place_owned n held.pages held.owner

-- the files among resources, of which the first has this number
abbrev pub places_in : ℕ → List (Option Resource) → List FilePlace
places_in n [] = []
places_in n (held ∷ more) = place_in n held ++ places_in (n + 1) more

-- the place of a number among files by rising number: before the first one with a greater number
abbrev pub place_before : ℕ → List FilePlace → ℕ
place_before number [] = 0
place_before number (f ∷ places) = if nat_lt number f.number then 0 else place_before number places + 1

-- by rising number of the file
abbrev pub place_inserted : FilePlace → List FilePlace → List FilePlace
place_inserted f [] = f ∷ []
place_inserted f (g ∷ places) = if nat_lt f.number g.number then f ∷ g ∷ places else g ∷ place_inserted f places

abbrev pub places_sorted : List FilePlace → List FilePlace
places_sorted [] = []
places_sorted (f ∷ places) = place_inserted f (places_sorted places)

-- the files of a domain, by rising number
abbrev pub places_of : Domain → List FilePlace
places_of domain = places_sorted (places_in 0 (control_of domain).resources.held)

-- each has a lower number than every later one
abbrev pub HasLowerNumber : FilePlace → FilePlace → Type 0
HasLowerNumber f g = f.number < g.number

abbrev pub pages_at : FilePlace → ℕ
pages_at f = f.pages

-- What they hold.

-- what is known of the first pages of a resource, up to this many
abbrev pub known_pages : MetaRow → ℕ → ℕ → ℕ → List (Option Meta)
known_pages t d resource pages =
    map (λ (page : ℕ). meta_at t (record { domain = d; resource = resource; page = page })) (numbers_below pages)

-- a file of a domain
abbrev pub known_file : MetaRow → ℕ → FilePlace → StoredFile
known_file t d f = record { domain = d; number = f.number; pages = known_pages t d f.resource f.pages }

-- those of domains, of which the first has this number
abbrev pub known_files : MetaRow → ℕ → List Domain → List StoredFile
known_files t d [] = []
known_files t d (domain ∷ domains) = map (known_file t d) (places_of domain) ++ known_files t (d + 1) domains
