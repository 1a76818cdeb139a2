-- What a run stands for that is made again from the items of its record.
use Rattle.std.specs.Prelude.{◌≡◌, ◌++◌, List, [], ◌∷◌, Result, Ok, Err}
use Rattle.cloak_model.specs.declared.image.Bundle.{Bundle}
use Rattle.cloak_model.specs.Items.{Item}
use Rattle.cloak_model.specs.KernelAlone as model
use Rattle.cloak_model.specs.KernelAlone.{kernel_alone}
use Rattle.alone_views.specs.declared.asked.AskedAccess.{AskedAccess}
use Rattle.alone_views.specs.declared.unfit.Unfit.{Unfit}
use Rattle.replayed_run.specs.Alone.{IsUnfitAlone}
use Rattle.replayed_run.specs.Machines.{StandAlone, TookItem}
use Rattle.replayed_run.specs.Noted.{noted_in}
use Rattle.replayed_run.specs.PagesTold.{paged_in, pages_of}
use Rattle.replayed_run.specs.Questions.{questioned_in}
use Rattle.replayed_run.specs.declared.notes.Notes.{Notes}
use Rattle.replayed_run.specs.declared.watch.Watch.{Watch}

-- the notes of a run that is made again
abbrev pub notes_of : Watch → Notes
notes_of w = w.notes

-- The machines that run alone took these items, which fit them, and what is noted of them is noted, with the
-- questions that the programs asked, and the pages that frames hold and were shown.
pub record Watches (b : Bundle) (items : List Item) (w : Watch) : Type 0 where
  pub machines : StandAlone b items w.machines
  pub notes : notes_of w ≡ (noted_in b items).notes
  pub questions : w.questions ≡ (questioned_in b items).questions
  pub pages : pages_of w.pages ≡ (paged_in b items).pages

-- After these items one more was taken, or did not fit one of the machines.
abbrev pub WatchTakes : {A : Type 0} → Bundle → List Item → Item → Watch → Result A Unfit → Type 0
WatchTakes b items i w (Ok a) = Watches b (items ++ i ∷ []) w
WatchTakes b items i w (Err unfit) = IsUnfitAlone b (items ++ i ∷ []) unfit.step

-- The machines took an item, before which the kernel alone was at this stage.
pub record WatchTook (b : Bundle) (items : List Item) (i : Item) (at : model.KernelStage) (w : Watch) : Type 0 where
  pub took : TookItem b items i w.machines
  pub stage : (kernel_alone b.kernel items).stage ≡ at

-- The machines took an item, of which this is the question. What it adds to notes and pages is not noted yet.
pub record PagesNext (b : Bundle) (items : List Item) (i : Item) (asked : AskedAccess) (w : Watch) : Type 0 where
  pub machines : StandAlone b (items ++ i ∷ []) w.machines
  pub notes : notes_of w ≡ (noted_in b items).notes
  pub question : asked ≡ (questioned_in b (items ++ i ∷ [])).questions.last

-- Machines, notes and questions stay.
pub record KeepsRun (old new : Watch) : Type 0 where
  pub machines : new.machines ≡ old.machines
  pub notes : notes_of new ≡ notes_of old
  pub questions : new.questions ≡ old.questions
