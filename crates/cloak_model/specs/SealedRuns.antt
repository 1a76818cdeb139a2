-- Runs under another seal: the joint run as it would be with another cipher in place of chained AES, and what is public of
-- it. Under a seal that depends on the vector alone, two runs of images that are alike but for the bytes of their programs
-- show the same.
use Rattle.std.specs.Prelude.{ℕ, ◌≡◌, List, [], length, map, Option, Some, None, option_map, Result, Ok, Err}
use Rattle.std.specs.Result.{result_map_both}
use Rattle.cloak_base.specs.Random.{Random}
use Rattle.cloak_base.specs.declared.causes.Stop.{Stop}
use Rattle.cloak_base.specs.declared.causes.Violation.{Violation}
use Rattle.cloak_model.specs.declared.image.Program.{Program}
use Rattle.cloak_model.specs.declared.image.Bundle.{Bundle}
use Rattle.cloak_model.specs.Items.{Item}
use Rattle.cloak_model.specs.Sealing.{Sealing, Chained, Padded}
use Rattle.cloak_model.specs.Ledger.{Keys}
use Rattle.cloak_model.specs.StoredFiles.{PageContent, FileContents}
use Rattle.cloak_model.specs.Opening.{Lack, NoKey, RunEdge, key_count, drawn_keys, keys_for, opened_with, place_programs, started_joint, started_memory}
use Rattle.cloak_model.specs.Beginning.{Beginning, Fresh, Stored, stored_keys, opened_over}
use Rattle.cloak_model.specs.Parts.{KernelPart, kernel_part}
use Rattle.cloak_model.specs.Run.{Run, run_of, run_from, first_moment, exchange}
use Rattle.cloak_model.specs.Joint.{Turn}
use Rattle.cloak_model.specs.Veil.{IsBlind}
use Rattle.cloak_model.specs.BlindRuns.{HaveOneShape}

-- The run under a seal.

-- keys for another cipher
abbrev pub keys_under : Sealing → Keys → Keys
keys_under seal keys = record keys { seal = seal }

unfoldable pub opened_under : Sealing → Bundle → Option (List (List ℕ) × Random) → Result RunEdge Lack
opened_under seal b None = Err NoKey
opened_under seal b (Some draw) =
    opened_with b (place_programs 0 b.programs (started_memory b.kernel (keys_under seal (keys_for b.programs draw.0)) draw.1))

unfoldable pub opening_stored_under : Sealing → Bundle → List (List ℕ) → Random → List FileContents → Result RunEdge Lack
opening_stored_under seal b keys stream files =
    let m = started_memory b.kernel (keys_under seal (stored_keys b keys)) stream in
    opened_over b files (started_joint b m) (place_programs 0 b.programs m)

abbrev pub opening_under : Sealing → Bundle → Beginning → Result RunEdge Lack
opening_under seal b (Fresh stream) = opened_under seal b (drawn_keys (key_count b.programs) stream)
opening_under seal b (Stored keys stream files) = opening_stored_under seal b keys stream files

abbrev pub run_under : Sealing → Bundle → Beginning → ℕ → Result Run Lack
run_under seal b from budget = result_map_both (run_of b budget) (λ lack. lack) (opening_under seal b from)

-- The run of an image, however it begins, is the one under chained AES.
abbrev pub RunIsChained : Type 0
RunIsChained = (b : Bundle) (from : Beginning) (budget : ℕ) → run_under Chained b from budget ≡ run_from b from budget

-- What is public.

-- all items; what each step showed on the console; the kernel's part as the run was closed: harts, RAM, disk, console and
-- reservations; how many steps there were, and why it stopped; which domains ended, and how many refusals there were
-- beside
pub record PublicRun : Type 0 where
  pub items : List Item
  pub consoles : List (List ℕ)
  pub kernel : KernelPart
  pub steps : ℕ
  pub stop : Stop
  pub ended : List (Option Violation)
  pub refused : ℕ

abbrev pub public_run : Run → PublicRun
public_run r = record {
  items = exchange r;
  consoles = map (λ (t : Turn). t.console) r.turns;
  kernel = kernel_part r.closed.joint;
  steps = length r.turns;
  stop = r.stop;
  ended = r.closed.joint.ended;
  refused = r.closed.joint.refused;
}

-- or why there is no run
abbrev pub public_of : Result Run Lack → Result PublicRun Lack
public_of r = result_map_both public_run (λ lack. lack) r

-- Alike in public.

-- an image without the bytes of its programs
abbrev pub without_bytes : Program → Program
without_bytes p = record p { bytes = [] }

-- Two images differ at most in the bytes of their programs.
pub record ImagesAreAlike (b b' : Bundle) : Type 0 where
  pub kernel : b.kernel ≡ b'.kernel
  pub programs : map without_bytes b.programs ≡ map without_bytes b'.programs

-- Two streams have this many draws, or both have fewer, and are one after them.
abbrev pub rest_after : ℕ → Random → Option Random
rest_after n stream = option_map (λ (d : List (List ℕ) × Random). d.1) (drawn_keys n stream)

abbrev pub GoOnAlike : ℕ → Random → Random → Type 0
GoOnAlike n stream stream' = rest_after n stream ≡ rest_after n stream'

-- a file with what was last shown of its pages
abbrev pub cipher_alone : PageContent → PageContent
cipher_alone c = record c { plain = []; iv = [] }

abbrev pub without_contents : FileContents → FileContents
without_contents f = record f { pages = map (option_map cipher_alone) f.pages }

-- Two beginnings differ at most in their keys, and in the bytes and vectors of the pages of their files.
abbrev pub BeginAlike : ℕ → Beginning → Beginning → Type 0
BeginAlike n (Fresh stream) (Fresh stream') = GoOnAlike n stream stream'
BeginAlike n (Stored keys stream files) (Stored keys' stream' files') =
    (stream ≡ stream') × (map without_contents files ≡ map without_contents files')
BeginAlike n (Fresh stream) (Stored keys stream' files) = ⊥
BeginAlike n (Stored keys stream files) (Fresh stream') = ⊥

-- each step that the runs make has one shape in both
abbrev pub RunsHaveOneShape : Sealing → ℕ → Bundle → Bundle → Beginning → Beginning → Type 0
RunsHaveOneShape seal budget b b' from from' =
    (o o' : RunEdge) → opening_under seal b from ≡ Ok o → opening_under seal b' from' ≡ Ok o' →
    HaveOneShape budget (first_moment b o.joint) (first_moment b' o'.joint)

-- Under a seal that depends on the vector alone two runs of images that are alike but for the bytes of their programs, that
-- begin alike, under any keys, and whose programs' steps have one shape each, have the same items, console, disk, RAM, steps
-- and stop.
abbrev pub BlindRunsAreOne : Type 0
BlindRunsAreOne =
    (seal : Sealing) → IsBlind seal → (b b' : Bundle) (from from' : Beginning) (budget : ℕ) →
    ImagesAreAlike b b' → BeginAlike (key_count b.programs) from from' → RunsHaveOneShape seal budget b b' from from' →
    public_of (run_under seal b from budget) ≡ public_of (run_under seal b' from' budget)

-- So it is of an ideal cipher: of each table that has a page for a vector.
abbrev pub PaddedRunsAreOne : Type 0
PaddedRunsAreOne =
    (rows : List (List ℕ × List ℕ)) (b b' : Bundle) (from from' : Beginning) (budget : ℕ) →
    ImagesAreAlike b b' → BeginAlike (key_count b.programs) from from' → RunsHaveOneShape (Padded rows) budget b b' from from' →
    public_of (run_under (Padded rows) b from budget) ≡ public_of (run_under (Padded rows) b' from' budget)
