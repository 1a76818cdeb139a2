-- Cloaked files over a chain of runs: a file's page has, in each run, the bytes that were stored last in all runs
-- before.
use Rattle.std.specs.Prelude.{ℕ, ◌≡◌, ◌≢◌, ◌≤◌, ◌-◌, ◌%◌, ◌==◌, nat_lt, true, ◌&&◌, List, [], ◌∷◌, ◌++◌, length, take, slice_get, slice_index, Option, Some, None, is_some, option_map, option_and_then, Ok, if◌then◌else◌}
use Rattle.std.specs.Int.{w32, to_le_bytes}
use Rattle.cloak_base.specs.Pages.{same_page, is_of, page_in}
use Rattle.cloak_base.specs.Random.{Random}
use Rattle.cloak_base.specs.declared.causes.Stop.TheVariants as stop
use Rattle.cloak_base.specs.declared.names.PageId.{PageId}
use Rattle.rv_atomic.specs.Combine.{combined}
use Rattle.cloak_model.specs.declared.image.Bundle.{Bundle}
use Rattle.cloak_model.specs.declared.resource.Owner.{Owner}
use Rattle.cloak_model.specs.declared.resource.Owner.TheVariants.{Space, File}
use Rattle.cloak_model.specs.declared.resource.Resource.{Resource}
use Rattle.cloak_model.specs.Beginning.{Beginning, Stored, IsBeginning}
use Rattle.cloak_model.specs.Bundle.{IsInGrammar}
use Rattle.cloak_model.specs.DomainState.{Domain}
use Rattle.cloak_model.specs.Resources.{resource_at, pages_of}
use Rattle.cloak_model.specs.Run.{Run, run_from}
use Rattle.cloak_model.specs.StoredRun.{contents_of}
use Rattle.kernel_isolation.specs.Isolation.{joint_until}
use Rattle.latest_store.specs.LatestStore.{made_programs, history_until, resource_of_file}
use Rattle.latest_store.specs.Moves.{Move, Makes, Stores, Combines, Copies, Zeros, Drops, Loads, covers, value_from, latest}

-- A run with what it came from.
pub record MadeRun : Type 0 where
  pub bundle : Bundle
  pub from : Beginning
  pub budget : ℕ
  pub run : Run

pub record IsMade (m : MadeRun) : Type 0 where
  pub in_grammar : IsInGrammar m.bundle
  pub beginning : IsBeginning m.bundle m.from
  pub runs : run_from m.bundle m.from m.budget ≡ Ok m.run

-- The next run goes on over the files of an earlier one, in which no random draw was missing.
pub record GoesOnFrom (next earlier : MadeRun) : Type 0 where
  pub drawn : earlier.run.stop ≢ stop.NoRandom
  pub keys : List (List ℕ)
  pub stream : Random
  pub over : next.from ≡ Stored keys stream (contents_of earlier.run.closed.joint)

-- Pages of files.

-- A page of a file, by what outlives a run: its domain, the file's number, and the page in the file.
pub record FilePage : Type 0 where
  pub domain : ℕ
  pub number : ℕ
  pub page : ℕ

-- a resource of a domain, if both are there
abbrev pub resource_in : List Domain → ℕ → ℕ → Option Resource
resource_in domains d n =
    option_and_then (λ (program : Domain). resource_at program.control.resources n) (slice_get domains d)

-- the page of a resource, if it has that many pages
abbrev pub page_in_resource : List Domain → FilePage → ℕ → Option PageId
page_in_resource domains p n =
    if nat_lt p.page (pages_of (resource_in domains p.domain n))
    then Some (record { domain = p.domain; resource = n; page = p.page }) else None

-- the page that it is in these domains
abbrev pub page_of_file : List Domain → FilePage → Option PageId
page_of_file domains p = option_and_then (page_in_resource domains p) (resource_of_file domains p.domain p.number)

-- as the run begins, and at its end
abbrev pub page_at_opening : MadeRun → FilePage → Option PageId
page_at_opening m p = page_of_file m.run.opened.joint.domains p

abbrev pub page_at_end : MadeRun → FilePage → Option PageId
page_at_end m p = page_of_file m.run.closed.joint.domains p

-- From one run to the next.

-- the history of a run up to a moment, and at its end
abbrev pub history : MadeRun → ℕ → List Move
history m n = history_until m.bundle m.from n m.run

abbrev pub whole_history : MadeRun → List Move
whole_history m = history m (length m.run.turns)

-- The next run begins with the files of the earlier one.
pub record GoesOnWith (next earlier : MadeRun) : Type 0 where
  -- each file is there with as many pages, and no other one is
  pub there : (p : FilePage) → is_some (page_at_opening next p) ≡ is_some (page_at_end earlier p)
  -- and each byte of its pages is the one that was stored last
  pub bytes : (p : FilePage) (q old : PageId) → page_at_opening next p ≡ Some q → page_at_end earlier p ≡ Some old →
      (at : ℕ) → latest (history next 0) q at ≡ latest (whole_history earlier) old at

-- The law of two runs.
abbrev pub FilesGoOn : Type 0
FilesGoOn =
    (earlier next : MadeRun) → IsMade earlier → IsMade next → GoesOnFrom next earlier → GoesOnWith next earlier

-- The law of ends: a program that ended in a run has left no file.
abbrev pub EndUnmakesFiles : Type 0
EndUnmakesFiles =
    (m : MadeRun) → IsMade m → (p : FilePage) (program : Domain) →
    slice_get m.run.closed.joint.domains p.domain ≡ Some program → program.control.ended ≡ true →
    page_at_end m p ≡ None

-- Over a chain of runs.

-- The byte that was stored last at a place of a page by these moves, the newest first; if they stored none, the one
-- that was there before.
unfoldable pub latest_since : (PageId → ℕ → ℕ) → List Move → PageId → ℕ → ℕ
latest_since before [] q at = before q at
latest_since before (Makes p bytes ∷ earlier) q at =
    if same_page q p then slice_index bytes at else latest_since before earlier q at
latest_since before (Stores p from width value ∷ earlier) q at =
    if same_page q p && covers from width at then slice_index (to_le_bytes w32 value) (at - from) else
    latest_since before earlier q at
latest_since before (Combines p from op operand ∷ earlier) q at =
    if same_page q p && covers from 4 at then
    slice_index (to_le_bytes w32 (combined op (value_from (latest_since before earlier p) from 4) operand)) (at - from)
    else latest_since before earlier q at
latest_since before (Copies domain from to ∷ earlier) q at =
    if is_of domain to q then latest_since before earlier (page_in from q) at else latest_since before earlier q at
latest_since before (Zeros domain resource ∷ earlier) q at =
    if is_of domain resource q then 0 else latest_since before earlier q at
latest_since before (Drops domain resource ∷ earlier) q at =
    if is_of domain resource q then 0 else latest_since before earlier q at
latest_since before (Loads p address width ∷ earlier) q at = latest_since before earlier q at

-- `latest` is this with zeros before.
abbrev pub LatestIsSince : Type 0
LatestIsSince =
    (moves : List Move) (q : PageId) (at : ℕ) → latest moves q at ≡ latest_since (λ page place. 0) moves q at

-- the loads that a domain completed among these moves, in order, each with its address and with the value of its bytes
-- that were stored last before it
unfoldable pub loads_since : (PageId → ℕ → ℕ) → ℕ → List Move → List (ℕ × ℕ)
loads_since before domain [] = []
loads_since before domain (Loads q address width ∷ earlier) =
    let rest = loads_since before domain earlier in
    if q.domain == domain
    then rest ++ (address, value_from (latest_since before earlier q) (address % 4096) width) ∷ [] else rest
loads_since before domain (_ ∷ earlier) = loads_since before domain earlier

-- what the first n steps of a run did
abbrev pub moves_until : MadeRun → ℕ → List Move
moves_until m n = take (length (history m n) - length (history m 0)) (history m n)

abbrev pub owner_number : Owner → Option ℕ
owner_number (Space space) = None
owner_number (File number) = Some number

abbrev pub file_number : Option Resource → Option ℕ
file_number None = None
file_number (Some held) = owner_number held.owner

-- the page of a file that a page is in these domains
abbrev pub file_page : List Domain → PageId → Option FilePage
file_page domains q =
    option_map (λ (number : ℕ). let p : FilePage = record { domain = q.domain; number = number; page = q.page } in p)
    (file_number (resource_in domains q.domain q.resource))

-- the page of the earlier run that a page of the next one is as it begins
abbrev pub page_before : MadeRun → MadeRun → PageId → Option PageId
page_before next earlier q = option_and_then (page_at_end earlier) (file_page next.run.opened.joint.domains q)

-- the byte that a page begins with: that of the page before, or else that of the image
abbrev pub begun_byte : Bundle → (PageId → ℕ → ℕ) → Option PageId → PageId → ℕ → ℕ
begun_byte b before None q at = latest (made_programs 0 b.programs []) q at
begun_byte b before (Some old) q at = before old at

-- What pages begin with in a run that goes on over the files of these, the newest first: with the bytes that were
-- stored last in all of them. The oldest begins as its opening makes it.
abbrev pub begun_over : MadeRun → List MadeRun → PageId → ℕ → ℕ
begun_over m [] q at = latest (history m 0) q at
begun_over m (e ∷ earlier) q at =
    let before = latest_since (begun_over e earlier) (moves_until e (length e.run.turns)) in
    begun_byte m.bundle before (page_before m e q) q at

-- the byte that was stored last in all these runs, up to the first n steps of the newest
abbrev pub latest_over : MadeRun → List MadeRun → ℕ → PageId → ℕ → ℕ
latest_over m earlier n = latest_since (begun_over m earlier) (moves_until m n)

-- each run goes on over the files of the next in the list
abbrev pub IsChain : MadeRun → List MadeRun → Type 0
IsChain m [] = IsMade m
IsChain m (e ∷ earlier) = IsMade m × (GoesOnFrom m e × IsChain e earlier)

-- What a chain of runs gives to the programs of its newest run. At each moment of it, also after the last step:
pub record GivesLatestOver (m : MadeRun) (earlier : List MadeRun) : Type 0 where
  -- the loads that a program completed are those of the run's moves, each with the value of the bytes that were stored
  -- last in all the runs
  pub loads : (n : ℕ) → n ≤ length m.run.turns → (d : ℕ) (program : Domain) →
      slice_get (joint_until n m.run).domains d ≡ Some program →
      program.loads ≡ loads_since (begun_over m earlier) d (moves_until m n)
  -- each page has these bytes
  pub pages : (n : ℕ) → n ≤ length m.run.turns → (q : PageId) (at : ℕ) →
      slice_index ((joint_until n m.run).memory.plain q) at ≡ latest_over m earlier n q at
  -- so it is by the history of the run
  pub stored : (n : ℕ) (q : PageId) (at : ℕ) → latest (history m n) q at ≡ latest_over m earlier n q at

-- The law of chains.
abbrev pub ChainsGiveLatest : Type 0
ChainsGiveLatest = (m : MadeRun) (earlier : List MadeRun) → IsChain m earlier → GivesLatestOver m earlier
