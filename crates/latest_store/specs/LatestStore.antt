-- Every completed cloaked load of a run gives what its own program stored last, or the byte with which the page was
-- made. As a run begins, pages are made of its image and of the files that it begins over.
use Rattle.std.specs.Prelude.{ℕ, zero, suc, false, true, ◌≡◌, ◌≢◌, ◌≤◌, ◌+◌, List, [], ◌∷◌, length, slice_get, slice_index, Option, Some, None, is_some, option_and_then, position, All, Ok}
use Rattle.cloak_base.specs.declared.names.PageId.{PageId}
use Rattle.cloak_model.specs.declared.image.Bundle.{Bundle}
use Rattle.cloak_model.specs.declared.image.Program.{Program}
use Rattle.cloak_model.specs.Beginning.{Beginning, Fresh, Stored, IsBeginning}
use Rattle.cloak_model.specs.Bundle.{IsInGrammar}
use Rattle.cloak_model.specs.DomainState.{Domain}
use Rattle.cloak_model.specs.Files.{holds_file}
use Rattle.cloak_model.specs.Opening.{program_page}
use Rattle.cloak_model.specs.Run.{Run, run_from}
use Rattle.cloak_model.specs.StoredFiles.{PageContent, FileContents}
use Rattle.kernel_isolation.specs.Isolation.{joint_until}
use Rattle.page_law.specs.Ciphers.{items_of_turn}
use Rattle.page_law.specs.OwnPages.{context_of_step, program_of_step, ends_in}
use Rattle.latest_store.specs.Moves.{Move, Makes, latest, loads_of, with_moves}
use Rattle.latest_store.specs.Deeds.{step_moves, end_moves}

-- The history of a run.

-- the first pages of a program, up to this many, are made with its bytes
abbrev pub made_pages : ℕ → Program → ℕ → List Move → List Move
made_pages d p zero history = history
made_pages d p (suc n) history =
    Makes (record { domain = d; resource = 0; page = n }) (program_page p.bytes n) ∷ made_pages d p n history

-- the programs, of which the first has this number
abbrev pub made_programs : ℕ → List Program → List Move → List Move
made_programs d [] history = history
made_programs d (p ∷ programs) history = made_programs (d + 1) programs (made_pages d p p.start.pages history)

-- The files that a run begins over: none of a fresh one.
abbrev pub files_of : Beginning → List FileContents
files_of (Fresh stream) = []
files_of (Stored keys stream files) = files

-- the resource that the file of this number is in one of these domains
abbrev pub resource_of_file : List Domain → ℕ → ℕ → Option ℕ
resource_of_file domains d number =
    option_and_then (λ (program : Domain). position (holds_file number) program.control.resources.held)
    (slice_get domains d)

-- pages of a resource, of which the first has this number: each that was shown is made with its bytes
abbrev pub made_contents : ℕ → ℕ → ℕ → List (Option PageContent) → List Move → List Move
made_contents d resource page [] history = history
made_contents d resource page (None ∷ contents) history = made_contents d resource (page + 1) contents history
made_contents d resource page (Some c ∷ contents) history =
    made_contents d resource (page + 1) contents
    (Makes (record { domain = d; resource = resource; page = page }) c.plain ∷ history)

abbrev pub made_file : FileContents → Option ℕ → List Move → List Move
made_file f None history = history
made_file f (Some resource) history = made_contents f.domain resource 0 f.pages history

-- each as the resource that it is in these domains
abbrev pub made_files : List Domain → List FileContents → List Move → List Move
made_files domains [] history = history
made_files domains (f ∷ files) history =
    made_files domains files (made_file f (resource_of_file domains f.domain f.number) history)

-- the opening, after which the domains are these: what else there is of pages is zeros
abbrev pub made_opening : Bundle → Beginning → List Domain → List Move
made_opening b from domains = made_files domains (files_of from) (made_programs 0 b.programs [])

-- the opening and the first n steps: each with what it did, and then the ends of domains in it
unfoldable pub history_until : Bundle → Beginning → ℕ → Run → List Move
history_until b from zero r = made_opening b from r.opened.joint.domains
history_until b from (suc n) r =
    let items = items_of_turn (slice_get r.turns n) in
    with_moves (end_moves items)
    (with_moves (step_moves (history_until b from n r) (joint_until n r).domains (context_of_step b r n) items)
    (history_until b from n r))

-- The law.

-- The page has 4096 bytes, and each was stored last.
pub record IsLatest (history : List Move) (q : PageId) (bytes : List ℕ) : Type 0 where
  pub whole : length bytes ≡ 4096
  pub each : (at : ℕ) → slice_index bytes at ≡ latest history q at

-- From one history of a run to a later one the domain completed no load, and then all bytes of its pages are zeros.
pub record StaysOver (d : ℕ) (history later : List Move) : Type 0 where
  pub loads : loads_of d later ≡ loads_of d history
  pub pages : (q : PageId) → q.domain ≡ d → (at : ℕ) → latest later q at ≡ 0

-- The file is a resource in one of these domains.
abbrev pub IsThere : List Domain → FileContents → Type 0
IsThere domains f = is_some (resource_of_file domains f.domain f.number) ≡ true

-- What a run gives to programs. At each moment, also after the last step:
pub record GivesLatest (b : Bundle) (from : Beginning) (r : Run) : Type 0 where
  -- the loads that a program completed are those of the history, each with the value of the bytes stored last
  pub loads : (n : ℕ) → n ≤ length r.turns → (d : ℕ) (program : Domain) →
      slice_get (joint_until n r).domains d ≡ Some program → program.loads ≡ loads_of d (history_until b from n r)
  -- so are those that the report of the run counts
  pub ends : (d : ℕ) (program : Domain) → slice_get r.closed.joint.domains d ≡ Some program →
      program.loads ≡ loads_of d (history_until b from (length r.turns) r)
  -- each page has the bytes that were stored last
  pub pages : (n : ℕ) → n ≤ length r.turns → (q : PageId) →
      IsLatest (history_until b from n r) q ((joint_until n r).memory.plain q)
  -- so it has after the closing
  pub closed : (q : PageId) → IsLatest (history_until b from (length r.turns) r) q (r.closed.joint.memory.plain q)
  -- a step that is not the program's own, whatever it settles, moves or maps, changes nothing of what was stored last,
  -- unless the domain ends in it
  pub others : (n : ℕ) → suc n ≤ length r.turns → (q : PageId) → program_of_step b r n ≢ Some q.domain →
      ends_in q.domain (items_of_turn (slice_get r.turns n)) ≡ false → (at : ℕ) →
      latest (history_until b from (suc n) r) q at ≡ latest (history_until b from n r) q at
  -- after a step in which a domain ended it completes no load, and its pages are zeros
  pub over : (n later : ℕ) → suc n ≤ later → later ≤ length r.turns → (d : ℕ) →
      ends_in d (items_of_turn (slice_get r.turns n)) ≡ true →
      StaysOver d (history_until b from (suc n) r) (history_until b from later r)
  -- each file that the run begins over is there as the run was opened
  pub files : All (IsThere r.opened.joint.domains) (files_of from)

-- Every run of an image does, from whatever beginning.
abbrev pub RunsGiveLatest : Type 0
RunsGiveLatest =
    (b : Bundle) (from : Beginning) (budget : ℕ) (r : Run) → IsInGrammar b → IsBeginning b from →
    run_from b from budget ≡ Ok r → GivesLatest b from r
