-- What becomes of a machine as the files of an earlier run are added to it.
use Rattle.std.specs.Prelude.{ℕ, ◌≡◌, ◌≢◌, Bool, false, List, Option, None, Result, Ok, Err, map, option_map, slice_get, All}
use Rattle.std.specs.Option.{ForSome}
use Rattle.cloak_base.specs.declared.names.Meta.{Meta}
use Rattle.cloak_base.specs.declared.names.PageId.{PageId}
use Rattle.cloak_base.specs.declared.names.SpaceId.{SpaceId}
use Rattle.cloak_base.specs.Pages.{is_of}
use Rattle.cloak_model.specs.Beginning.{with_content, with_contents}
use Rattle.cloak_model.specs.Cloaking.{CloakedMemory}
use Rattle.cloak_model.specs.Files.{holds_file}
use Rattle.cloak_model.specs.Ledger.{domain_key, key_of}
use Rattle.cloak_model.specs.Opening.{Lack, NoRoom}
use Rattle.cloak_model.specs.Parts as model
use Rattle.cloak_model.specs.Resources.{Resources, resource_at}
use Rattle.cloak_model.specs.StoredFiles.{PageContent, StoredFile, IsSealedIfShown, meta_of}
use Rattle.protect_meta.specs.Table.{meta_at, domains_of}
use Rattle.cloak_pager.specs.State.{PagerState}
use Rattle.cloak_pager.specs.Relation.{StandsForMemory}
use Rattle.cloaked_side.specs.Holding.{Holds}
use Rattle.cloaked_side.specs.declared.memory.Memory.{Memory}
use Rattle.hypercalls.specs.declared.domain.Domain.{Domain}
use Rattle.hypercalls.specs.Standing.{control_of}
use Rattle.joint_machine.specs.Standing.{AreDomains}

-- Pages.

-- The page goes on with every content of which this is known: one that is sealed under its key, or none.
abbrev pub StandsContinued : PagerState → PagerState → PageId → Option Meta → Type 0
StandsContinued old new q known =
    (wiped : PageId → Bool) (m : CloakedMemory) (c : Option PageContent) → StandsForMemory old wiped m →
    IsSealedIfShown (key_of m.ledger q) c → option_map meta_of c ≡ known → StandsForMemory new wiped (with_content q c m)

-- So do all pages of a resource, of which this is known.
abbrev pub StandFiled : PagerState → PagerState → ℕ → ℕ → List (Option Meta) → Type 0
StandFiled old new domain resource known =
    (wiped : PageId → Bool) (m : CloakedMemory) (contents : List (Option PageContent)) → StandsForMemory old wiped m →
    All (IsSealedIfShown (domain_key m.ledger.keys domain)) contents → map (option_map meta_of) contents ≡ known →
    StandsForMemory new wiped (with_contents domain resource 0 contents m)

-- Frames stay, and what is known of the pages of other resources.
pub record KeepsOtherPages (domain resource : ℕ) (old new : PagerState) : Type 0 where
  pub frames : new.frames ≡ old.frames
  pub rights : new.rights ≡ old.rights
  pub domains : domains_of new.table ≡ domains_of old.table
  pub metas : (q : PageId) → is_of domain resource q ≡ false → meta_at new.table q ≡ meta_at old.table q

-- Domains.

-- no resource is the file of this number
abbrev pub HasNoFile : Resources → ℕ → Type 0
HasNoFile r number = (n : ℕ) → holds_file number (resource_at r n) ≡ false

-- the domain of the file has none of its number
abbrev pub IsNewFile : List Domain → StoredFile → Type 0
IsNewFile domains f = ForSome (slice_get domains f.domain) (λ domain. HasNoFile (control_of domain).resources f.number)

-- one of two files has another domain or another number
abbrev pub AreTwoFiles : StoredFile → StoredFile → Type 0
AreTwoFiles f g = f.domain ≡ g.domain → f.number ≢ g.number

-- nothing is known of the pages of a number that is free
abbrev pub AreFreeUnshown : List Domain → PagerState → Type 0
AreFreeUnshown domains pager = (d n : ℕ) →
    ForSome (slice_get domains d) (λ domain. resource_at (control_of domain).resources n ≡ None →
    (q : PageId) → q.domain ≡ d → q.resource ≡ n → meta_at pager.table q ≡ None)

-- The machine.

-- all but domains and memory is as it was, and in the memory keys and recorded page tables are
pub record IsSameBut (j after : model.Joint) : Type 0 where
  pub harts : after.harts ≡ j.harts
  pub disk : after.disk ≡ j.disk
  pub ended : after.ended ≡ j.ended
  pub refused : after.refused ≡ j.refused
  pub keys : after.memory.ledger.keys ≡ j.memory.ledger.keys
  pub roots : (s : SpaceId) → after.memory.ledger.root s ≡ j.memory.ledger.root s

-- This came of the state: the domains are its domains, and the memory holds its memory if it held that before.
pub record HasAddedFiles (old new : Memory) (xs : List Domain) (j after : model.Joint) : Type 0 where
  pub domains : AreDomains xs after.domains
  pub memory : Holds old j.memory → Holds new after.memory
  pub rest : IsSameBut j after

-- what comes of the state, or the domain that has no room
abbrev pub AddsTo :
    Memory → Memory → List Domain → model.Joint → Result (Unit {0}) ℕ → Result model.Joint Lack → Type 0
AddsTo old new xs j (Ok done) (Ok after) = HasAddedFiles old new xs j after
AddsTo old new xs j (Ok done) (Err lack) = ⊥
AddsTo old new xs j (Err d) made = made ≡ Err (NoRoom d)
