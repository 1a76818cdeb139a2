-- What is gathered of a page that was presented, as far as the items of a record were read once more.
use Rattle.std.specs.Prelude.{ℕ, ◌≡◌, Bool, true, false, List, [], ◌∷◌, ◌++◌, Option, Result, Ok, Err}
use Rattle.cloak_base.specs.declared.causes.NoMemory.{NoMemory}
use Rattle.cloak_model.specs.declared.image.Bundle.{Bundle}
use Rattle.cloak_model.specs.Items.{Item}
use Rattle.replayed_run.specs.Alone.{IsUnfitAlone}
use Rattle.replayed_run.specs.Watching.{Watches}
use Rattle.replayed_run.specs.declared.watch.Watch.{Watch}
use Rattle.run_story.specs.Carrying.{carrying_of}
use Rattle.run_story.specs.Deeds.{done_in, last_events, left_out}
use Rattle.run_story.specs.Passages.{AreReadAgain}
use Rattle.run_story.specs.declared.deeds.Deeds.{Deeds}
use Rattle.run_story.specs.declared.deeds.PageEvent.{PageEvent}
use Rattle.run_story.specs.declared.presented.Presented.{Presented}

-- the last of these events are kept
pub record KeepsLast (all : List PageEvent) (d : Deeds) : Type 0 where
  pub events : d.events.items ≡ last_events all
  pub left_out : d.left_out ≡ left_out all

-- What these items did to a page is gathered.
pub record Gathers (b : Bundle) (p : Presented) (items : List Item) (d : Deeds) : Type 0 where
  pub target : d.target ≡ p
  pub last : KeepsLast (done_in b p items).events d
  pub origin : d.origin ≡ (done_in b p items).origin
  pub carrying : carrying_of d.carriers ≡ (done_in b p items).carrying

-- It is gathered of the items before the question, which were read once more.
pub record GathersAgain (b : Bundle) (file : Option (List ℕ)) (p : Presented) (d : Deeds) : Type 0 where
  pub items : List Item
  pub again : AreReadAgain file p.before items
  pub gathers : Gathers b p items d

-- After these items one more was read, or did not fit a machine, or there was no memory.
abbrev pub GathersNext : Bundle → Presented → List Item → Item → Watch → Deeds → Result Bool NoMemory → Type 0
GathersNext b p items i w d (Ok true) = Watches b (items ++ i ∷ []) w × Gathers b p (items ++ i ∷ []) d
GathersNext b p items i w d (Ok false) = ((step : ℕ) × IsUnfitAlone b (items ++ i ∷ []) step) × Gathers b p items d
GathersNext b p items i w d (Err e) = Unit {0}
