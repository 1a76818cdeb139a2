-- The opening of a run: what holds of the joint machine with each memory that may stand there, and is kept as files are
-- added, holds as the run begins.
use Rattle.std.proofs.Common.{◌≡◌, ℕ, zero, suc, ◌+◌, List, [], ◌∷◌, length, Option, Some, None, IfSome, Ok, subst}
use Rattle.std.specs.Prelude.{option_and_then}
use Rattle.cloak_base.specs.Random.{Random}
use Rattle.cloak_base.specs.declared.names.PageId.{PageId}
use Rattle.cloak_model.specs.declared.image.Bundle.{Bundle}
use Rattle.cloak_model.specs.declared.image.Program.{Program}
use Rattle.cloak_model.specs.Beginning.{Beginning, opening_from}
use Rattle.cloak_model.specs.Cloaking.{CloakedMemory}
use Rattle.cloak_model.specs.DomainState.{Domain, with_resources}
use Rattle.cloak_model.specs.Files.{file_resource}
use Rattle.cloak_model.specs.Ledger.{Keys, next_vector}
use Rattle.cloak_model.specs.Opening.{RunEdge, started_joint, started_memory, place_pages, place_programs}
use Rattle.cloak_model.specs.PageMoves.{place, place_with}
use Rattle.cloak_model.specs.Parts.{Joint}
use Rattle.cloak_model.specs.StoredFiles.{FileContents}
use Rattle.kernel_isolation.proofs.FilesAdded.{IsGiven, files_keep, files_of, opens_over}
use Rattle.limit_law.proofs.Programs.{AllOf, set_all, all_at}

-- Of a memory: what holds before any page is placed, and is kept as one is placed.

module _ (N : CloakedMemory → Type 0)
    (one : (q : PageId) (f : ℕ) (bytes : List ℕ) (m : CloakedMemory) → N m → IfSome (place q f bytes m) N)
  where
    and_then : (f : CloakedMemory → Option CloakedMemory) (o : Option CloakedMemory) →
        ((m : CloakedMemory) → N m → IfSome (f m) N) → IfSome o N → IfSome (option_and_then f o) N
    and_then f None later here = tt
    and_then f (Some m) later here = later m here

    pages : (d : ℕ) (p : Program) (n : ℕ) (m : CloakedMemory) → N m → IfSome (place_pages d p n m) N
    pages d p zero m here = here
    pages d p (suc n) m here =
        and_then (place _ _ _) (place_pages d p n m) (λ x there. one _ _ _ x there) (pages d p n m here)

    pub programs_placed : (d : ℕ) (programs : List Program) (m : CloakedMemory) → N m →
        IfSome (place_programs d programs m) N
    programs_placed d [] m here = here
    programs_placed d (p ∷ programs) m here =
        and_then (place_programs (d + 1) programs) (place_pages d p p.start.pages m)
        (λ x there. programs_placed (d + 1) programs x there) (pages d p p.start.pages m here)

-- Of the joint machine.

-- a file that is added keeps the property
abbrev pub KeepsFiles : (Joint → Type 0) → Type 0
KeepsFiles P = (f : FileContents) (x y : Joint) → IsGiven f x y → P x → P y

-- of the memory alone
pub begins_in_memory : (N : CloakedMemory → Type 0) (b : Bundle) (from : Beginning) →
    ((q : PageId) (f : ℕ) (bytes : List ℕ) (draw : Option (List ℕ × Random)) (m : CloakedMemory) → N m →
    IfSome (place_with q f bytes draw m) N) →
    ((keys : Keys) (rest : Random) → N (started_memory b.kernel keys rest)) → KeepsFiles (λ j. N j.memory) →
    (o : RunEdge) → opening_from b from ≡ Ok o → N o.joint.memory
unfolding place started_joint
begins_in_memory N b from one first keeps o opens =
    let over = opens_over b from o opens in
    let placed = subst (λ (m : Option CloakedMemory). IfSome m N) over.placed
    (programs_placed N (λ q f bytes m here. one q f bytes (next_vector m.ledger) m here) 0 b.programs _
    (first over.keys over.stream)) in
    files_keep (λ j. N j.memory) keeps (files_of from) (started_joint b over.memory) o.joint over.added placed

-- whatever the memory is
pub begins : (P : Joint → Type 0) (b : Bundle) (from : Beginning) → ((m : CloakedMemory) → P (started_joint b m)) →
    KeepsFiles P → (o : RunEdge) → opening_from b from ≡ Ok o → P o.joint
begins P b from gives keeps o opens =
    let over = opens_over b from o opens in
    files_keep P keeps (files_of from) (started_joint b over.memory) o.joint over.added (gives over.memory)

-- What each program keeps as it gets the resource of a file.

abbrev pub with_made : ℕ → ℕ → Domain → Domain
with_made number pages d = with_resources (file_resource number pages d.control.resources).resources d

pub given_all : (Q : Domain → Type 0) (f : FileContents) (x y : Joint) →
    ((d : Domain) → Q d → Q (with_made f.number (length f.pages) d)) → IsGiven f x y → AllOf Q x.domains →
    AllOf Q y.domains
given_all Q f x y made given all =
    let here = made given.domain (all_at Q x.domains f.domain given.domain given.there all) in
    subst (λ (j : Joint). AllOf Q j.domains) given.is
    (set_all Q x.domains f.domain (with_made f.number (length f.pages) given.domain) all here)
