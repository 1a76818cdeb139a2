-- What a story stands for, as far as the items of a record were taken.
use Rattle.std.specs.Prelude.{ℕ, ◌≡◌, ◌<◌, ◌++◌, length, List, [], ◌∷◌, Option, Some, None, Result, Ok, Err, string_bytes}
use Rattle.cloak_model.specs.declared.image.Bundle.{Bundle}
use Rattle.cloak_model.specs.Items.{Item}
use Rattle.read_back.specs.declared.ending.Ending.TheVariants as ending
use Rattle.replayed_run.specs.Watching.{Watches, notes_of}
use Rattle.run_story.specs.Passages.{AreToldBy, IsToldAtOnce, summary}
use Rattle.run_story.specs.Told.{ByPage, Due, IsUnfitNext, Nothing, OfNone, Outcome, Page, Question, Quiet, Resume, Uncaused, Violated, Violation, due_after, ended_after, ended_count, outcome_of, refused_after, told_in}
use Rattle.run_story.specs.declared.presented.Presented.{Presented}
use Rattle.run_story.specs.declared.presented.Target.{Target}
use Rattle.run_story.specs.declared.presented.Target.TheVariants as target
use Rattle.run_story.specs.declared.story.Story.{Story}
use Rattle.run_story.specs.declared.untold.Untold.{Untold}
use Rattle.run_story.specs.declared.untold.Untold.TheVariants as untold

-- what a target is
abbrev pub due_of : Target → Due
due_of target.Nothing = Nothing
due_of (target.Question ctx) = Question ctx
due_of (target.Page presented) = Page presented
due_of (target.Context asking why) = Resume asking why

-- What a story says besides its text is what these items tell, which fit.
pub record Knows (b : Bundle) (items : List Item) (s : Story) : Type 0 where
  pub watches : Watches b items s.watch
  pub due : due_of s.target ≡ (told_in b items).due
  pub ended : s.ended ≡ (told_in b items).ended
  pub refused : s.refused ≡ (told_in b items).refused
  pub caused : (told_in b items).uncaused ≡ None

-- A story tells these items, which fit, of a record file of which this is told.
pub record Tells (b : Bundle) (file : Option (List ℕ)) (items : List Item) (s : Story) : Type 0 where
  pub knows : Knows b items s
  pub text : AreToldBy b file (told_in b items).violations (string_bytes s.text)

-- A story tells these items but for the last violation, in which this was presented, for a question that stands before.
pub record TellsBut (b : Bundle) (file : Option (List ℕ)) (items : List Item) (p : Presented) (s : Story) : Type 0 where
  pub knows : Knows b items s
  pub before : List Violation
  pub violations : (told_in b items).violations ≡ before ++ ByPage p ∷ []
  pub text : AreToldBy b file before (string_bytes s.text)
  pub within : p.before < length items

-- why a story does not go on with an item
abbrev pub LacksNext : Bundle → List Item → Item → Untold → Type 0
LacksNext b items i untold.NoMemory = Unit {0}
LacksNext b items i (untold.Ended (ending.Unfit step)) = IsUnfitNext b items i step
LacksNext b items i (untold.Ended _) = ⊥

-- After these items one more was taken, or why not.
abbrev pub StoryTakes :
    Bundle → Option (List ℕ) → List Item → Item → Story → Result (Option Presented) Untold → Type 0
StoryTakes b file items i s (Ok None) = Tells b file (items ++ i ∷ []) s
StoryTakes b file items i s (Ok (Some p)) = TellsBut b file (items ++ i ∷ []) p s
StoryTakes b file items i s (Err why) = LacksNext b items i why

-- more was told, or there was no memory
abbrev pub TellsOn : Result (Unit {0}) Untold → Type 0
TellsOn (Ok done) = Unit {0}
TellsOn (Err untold.NoMemory) = Unit {0}
TellsOn (Err (untold.Ended _)) = ⊥

-- all but the text stays
pub record KeepsStory (old new : Story) : Type 0 where
  pub watch : new.watch ≡ old.watch
  pub target : new.target ≡ old.target
  pub ended : new.ended ≡ old.ended
  pub refused : new.refused ≡ old.refused

-- watch, target and ends stay
pub record KeepsRest (old new : Story) : Type 0 where
  pub watch : new.watch ≡ old.watch
  pub target : new.target ≡ old.target
  pub ended : new.ended ≡ old.ended

-- What an item tells was told.

abbrev pub GrowsBy : Outcome → List ℕ → List ℕ → Type 0
GrowsBy Quiet old new = new ≡ old
GrowsBy (Violated v) old new = (text : List ℕ) × (new ≡ old ++ text) × IsToldAtOnce v text
GrowsBy Uncaused old new = ⊥

pub record GrewBy (o : Outcome) (old new : Story) : Type 0 where
  pub text : GrowsBy o (string_bytes old.text) (string_bytes new.text)
  pub refused : new.refused ≡ refused_after old.refused o

-- a text tells a violation, which is no refused resume
abbrev pub IsEndTold : Violation → List ℕ → Type 0
IsEndTold (OfNone step asked ended) text = ⊥
IsEndTold v text = IsToldAtOnce v text

-- It is a page, which is told later.
pub record OwesPage (o : Outcome) (p : Presented) (old new : Story) : Type 0 where
  pub page : o ≡ Violated (ByPage p)
  pub text : new.text ≡ old.text
  pub refused : new.refused ≡ old.refused

-- or it has no cause in this step, or there was no memory
abbrev pub AddsOutcome : Outcome → ℕ → Story → Story → Result (Option Presented) Untold → Type 0
AddsOutcome o step old new (Ok None) = GrewBy o old new
AddsOutcome o step old new (Ok (Some p)) = OwesPage o p old new
AddsOutcome o step old new (Err untold.NoMemory) = Unit {0}
AddsOutcome o step old new (Err (untold.Ended (ending.Unfit at))) = (at ≡ step) × (o ≡ Uncaused)
AddsOutcome o step old new (Err (untold.Ended _)) = ⊥

-- The item was noted in this step, and this was presented for a question that it stopped.
pub record NotesItem (b : Bundle) (asked : Due) (i : Item) (step : ℕ) (old new : Story)
    (r : Result (Option Presented) Untold) : Type 0 where
  pub watch : new.watch ≡ old.watch
  pub due : due_of new.target ≡ due_after asked (due_of old.target) i
  pub ended : new.ended ≡ ended_after old.ended step i
  pub adds : AddsOutcome (outcome_of b step old.ended (due_of old.target) (notes_of old.watch).asked i) step old new r

-- what was told so far, and the last sentence
abbrev pub story_text : Story → List ℕ
story_text s = string_bytes s.text ++ summary (notes_of s.watch) (ended_count s.ended) s.refused
