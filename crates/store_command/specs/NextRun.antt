-- Two calls of `store`, of which the second one goes on over the files that the first one left: loads return what was
-- stored last in both, and so over any number of calls.
use Rattle.std.specs.Prelude.{ℕ, ◌≡◌, ◌≢◌, ◌+◌, List, [], ◌∷◌, map, Some}
use Rattle.cloak_base.specs.declared.causes.Stop.TheVariants as stop
use Rattle.chain_law.specs.Chain.{GivesLatestOver, IsChain, MadeRun}
use Rattle.cloak_model.specs.declared.image.Bundle.{Bundle}
use Rattle.cloak_model.specs.declared.image.Program.{Program}
use Rattle.cloak_model.specs.Run.{NoClash}
use Rattle.cloak_model.specs.StoredFiles.{FileContents}
use Rattle.cloak_model.specs.StoredRun.{contents_of}
use Rattle.store_command.specs.TwoRuns.{Call, Over, image_read, made_run, run_made}

-- What the second one reads.

-- It has the secret of the first one, it reads the store file that the first one wrote, and its counter is the one that
-- the first one wrote. Between them anything may have been done to other files.
pub record ReadsNew {S O : Type 0} (first next : Call S O) : Type 0 where
  pub secret : List ℕ
  pub first_secret : first.before.files.held first.stored.names.secret_name ≡ Some secret
  pub next_secret : next.before.files.held next.stored.names.secret_name ≡ Some secret
  pub file : List ℕ
  pub written : first.after.files.held first.stored.names.new_name ≡ Some file
  pub read : next.before.files.held next.stored.names.old_name ≡ Some file
  pub counter : next.stored.counter ≡ first.stored.counter + 1

-- the numbers of the programs' keys
abbrev pub key_numbers : Bundle → List ℕ
key_numbers b = map (λ (p : Program). p.key) b.programs

-- The second one reads the image that the first one wrote.
pub record ReadsNext {S O : Type 0} (first next : Call S O) : Type 0 where
  pub image : List ℕ
  pub written : first.after.files.held first.stored.names.next_name ≡ Some image
  pub read : next.before.files.held next.stored.names.bundle ≡ Some image

-- The run of the first one.

-- No draw was missing in it, and no two different pages that were compared had one digest.
pub record IsLeft {S O : Type 0} (first : Call S O) (files : List FileContents) (over : Over first files) : Type 0 where
  pub drawn : (run_made first files over).stop ≢ stop.NoRandom
  pub unclashed : NoClash (run_made first files over)

-- what its files hold at its end
abbrev pub left_by : {S O : Type 0} (first : Call S O) (files : List FileContents) → Over first files →
    List FileContents
left_by first files over = contents_of (run_made first files over).closed.joint

-- The run of the second one.

-- The store file that it read stands for what the first run left. Its run over that is the next one of each chain of runs
-- that ends with the first one, and so its programs are given what was stored last in all of them.
pub record GoesOnOver {S O : Type 0} (first next : Call S O) (files : List FileContents) (over : Over first files) :
    Type 0 where
  pub stands : Over next (left_by first files over)
  pub chain : (earlier : List MadeRun) → IsChain (made_run first files over) earlier →
      IsChain (made_run next (left_by first files over) stands) (made_run first files over ∷ earlier)
  pub latest : (earlier : List MadeRun) → IsChain (made_run first files over) earlier →
      GivesLatestOver (made_run next (left_by first files over) stands) (made_run first files over ∷ earlier)

-- The laws.

-- of two calls, whose images have the same key numbers
abbrev pub NextRunsGoOn : (S O : Type 0) → Type 0
NextRunsGoOn S O =
    (first next : Call S O) → ReadsNew first next → key_numbers (image_read next) ≡ key_numbers (image_read first) →
    (files : List FileContents) (over : Over first files) → IsLeft first files over →
    GoesOnOver first next files over

-- So they are if the second one reads the image that the first one wrote.
abbrev pub NextImagesKeepKeys : (S O : Type 0) → Type 0
NextImagesKeepKeys S O =
    (first next : Call S O) → ReadsNext first next → (files : List FileContents) (over : Over first files) →
    IsLeft first files over → key_numbers (image_read next) ≡ key_numbers (image_read first)

-- A chain begins with any call: its run, over whatever contents, is made of an image in the grammar.
abbrev pub RunsBeginChains : (S O : Type 0) → Type 0
RunsBeginChains S O =
    (call : Call S O) (files : List FileContents) (over : Over call files) → IsChain (made_run call files over) []

-- With counter 0 there are no files.
abbrev pub FirstRunsHaveNoFiles : (S O : Type 0) → Type 0
FirstRunsHaveNoFiles S O = (call : Call S O) → call.stored.counter ≡ 0 → Over call []
