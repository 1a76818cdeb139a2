-- What is known of a page that was presented for a question.
use Rattle.std.specs.Prelude.{ℕ, Bool, false, List, Option, Some, None, bytes_eq, slice_get, if◌then◌else◌}
use Rattle.sha2.specs.Sha256.{sha256}
use Rattle.cloak_model.specs.declared.image.Bundle.{Bundle}
use Rattle.cloak_model.specs.Items.{Item}
use Rattle.cloak_model.specs.KernelAlone.{kernel_alone}
use Rattle.replayed_run.specs.Leading.{presented_by, tables_in}
use Rattle.replayed_run.specs.Noted.{noted_in}
use Rattle.replayed_run.specs.PagesTold.{last_shown, paged_in}
use Rattle.replayed_run.specs.Questions.{questioned_in}
use Rattle.replayed_run.specs.declared.frames.PresentedPage.{PresentedPage}
use Rattle.replayed_run.specs.declared.frames.Tables.{Tables}
use Rattle.replayed_run.specs.declared.pages.Showing.{Showing}
use Rattle.run_story.specs.declared.presented.Presented.{Presented}
use Rattle.run_story.specs.declared.presented.StoppedQuestion.{StoppedQuestion}

-- bytes of this digest are what was last shown of the page
abbrev pub is_last_shown : List ℕ → Option Showing → Bool
is_last_shown digest None = false
is_last_shown digest (Some showing) = bytes_eq showing.digest digest

-- no more is known of a page if its frame has what was last shown of it
abbrev pub presented_unless : Bool → Presented → Option Presented
presented_unless same p = if same then None else Some p

-- a page was presented for a question under these tables, in a frame of these bytes
abbrev pub presented_as : StoppedQuestion → PresentedPage → Option Showing → Tables → List ℕ → Option Presented
presented_as question found showing tables bytes =
    presented_unless (is_last_shown (sha256 bytes) showing) (record {
      step = question.step;
      hart = question.hart;
      ctx = question.ctx;
      before = question.before;
      found = found;
      tables = tables;
      digest = sha256 bytes;
      showing = showing;
    })

abbrev pub presented_under : StoppedQuestion → PresentedPage → Option Showing → Option Tables → Option (List ℕ) → Option Presented
presented_under question found showing (Some tables) (Some bytes) = presented_as question found showing tables bytes
presented_under question found showing None bytes = None
presented_under question found showing (Some tables) None = None

-- a question for which this page was presented, after these items
abbrev pub presented_for : Bundle → List Item → StoppedQuestion → Option PresentedPage → Option Presented
presented_for b items question None = None
presented_for b items question (Some found) =
    presented_under question found (last_shown (paged_in b items).pages found.page) (tables_in (kernel_alone b.kernel items))
    (slice_get (kernel_alone b.kernel items).kernel.ram found.frame)

-- The last question of these items was one of this context on this hart, and so many items stand before it.
abbrev pub presented_in : Bundle → List Item → ℕ → ℕ → ℕ → Option Presented
presented_in b items before hart ctx =
    presented_for b items (record { step = (noted_in b items).notes.step; hart = hart; ctx = ctx; before = before })
    (presented_by (kernel_alone b.kernel items) (questioned_in b items).questions.last)
