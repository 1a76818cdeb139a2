-- How far a record is read, and how that ends.
use Rattle.std.proofs.Common.{◌≡◌, ◌≢◌, ℕ, List, [], ◌∷◌, ◌++◌, Option, Some, IfOk, Result, Ok, Err, ap, string_bytes, subst, sym}
use Rattle.cloak_model.specs.declared.image.Bundle.{Bundle}
use Rattle.cloak_model.specs.Items.{Item}
use Rattle.cloak_model.specs.declared.fault.RecordFault.{RecordFault}
use Rattle.record_reader.specs.declared.reader.Reader.{Reader}
use Rattle.read_back.specs.Reading.{ReadsAs}
use Rattle.read_back.specs.declared.ending.Ending.{Ending}
use Rattle.read_back.specs.declared.ending.Ending.TheVariants as ending
use Rattle.read_back.specs.Items.{Finds, StandsAt}
use Rattle.read_back.proofs.ItemsRead.{finds}
use Rattle.run_story.specs.Answering.{BeginsSo, EndsAfter, LacksStory, TellsItem, TellsPage, TellsStory}
use Rattle.run_story.specs.Gathering.{GathersAgain}
use Rattle.run_story.specs.Passages.{IsPageTold, lines_of, page_text}
use Rattle.run_story.specs.Telling.{KeepsStory, Knows, LacksNext, TellsBut, TellsOn}
use Rattle.run_story.specs.declared.deeds.Deeds.{Deeds}
use Rattle.run_story.specs.declared.presented.Presented.{Presented}
use Rattle.run_story.specs.declared.story.Story.{Story}
use Rattle.run_story.specs.declared.untold.Untold.{Untold}
use Rattle.run_story.specs.declared.untold.Untold.TheVariants as untold
use Rattle.run_story.proofs.Again.{gathered_lines}
use Rattle.run_story.proofs.StoryMore.{knows_fit, tells_page}

-- there is no item more
ending_is : (told : Option (List ℕ)) (next : Reader) (items : List Item) (ended : Ending) (before now : ℕ) →
    Finds told next items (Err ended) → ReadsAs before now (Some ended) → EndsAfter told items before now ended
ending_is told next items ending.Whole before now found counts = (found, counts)
ending_is told next items (ending.Unfit step) before now found counts = absurd found
ending_is told next items (ending.Fault fault) before now found counts = (found, counts)
ending_is told next items ending.Unread before now found counts = counts

pub ends_after : (told now : Option (List ℕ)) (was next : Reader) (ended : Ending) (m n k : ℕ) (items : List Item) →
    now ≡ told → n ≡ m → ((front : List Item) → StandsAt now was front → Finds now next front (Err ended)) →
    ReadsAs n k (Some ended) → StandsAt told was items → EndsAfter told items m k ended
ends_after told now was next ended m n k items same counts found reads stands =
    ending_is told next items ended m k (finds told now was next (Err ended) items same found stands)
    (subst (λ (x : ℕ). ReadsAs x k (Some ended)) counts reads)

fault_is_not_whole : (fault : RecordFault) → ending.Fault fault ≢ ending.Whole
fault_is_not_whole fault = λ (same : ending.Fault fault ≡ ending.Whole). cc

unfit_is_not_whole : (step : ℕ) → ending.Unfit step ≢ ending.Whole
unfit_is_not_whole step = λ (same : ending.Unfit step ≡ ending.Whole). cc

unread_is_not_whole : ending.Unread ≢ ending.Whole
unread_is_not_whole = λ (same : ending.Unread ≡ ending.Whole). cc

-- what is told of a record whose reading ended so

pub told_fault : (b : Bundle) (told : Option (List ℕ)) (items : List Item) (s : Story) (before now : ℕ)
    (fault : RecordFault) → Knows b items s → EndsAfter told items before now (ending.Fault fault) →
    LacksStory b told before now (untold.Ended (ending.Fault fault))
told_fault b told items s before now fault knows ends =
    (fault_is_not_whole fault, (record { items = items; file = ends.0; fits = knows_fit b items s knows }, ends.1))

pub told_unread : (b : Bundle) (told : Option (List ℕ)) (items : List Item) (before now : ℕ) →
    EndsAfter told items before now ending.Unread → LacksStory b told before now (untold.Ended ending.Unread)
told_unread b told items before now ends = (unread_is_not_whole, ends)

-- an item of a file was not told
pub lacks_item : (b : Bundle) (told : Option (List ℕ)) (items : List Item) (i : Item) (before now : ℕ) (story : Story)
    (why : Untold) → BeginsSo told (items ++ i ∷ []) → TellsItem b told items i before now story (Err why) →
    LacksStory b told before now why
lacks_item b told items i before now story untold.NoMemory begins lacks = tt
lacks_item b told items i before now story (untold.Ended (ending.Unfit step)) begins lacks =
    (unfit_is_not_whole step, (record { items = items; last = i; file = begins; unfit = lacks.0 }, lacks.1))
lacks_item b told items i before now story (untold.Ended ending.Whole) begins lacks = absurd lacks
lacks_item b told items i before now story (untold.Ended (ending.Fault fault)) begins lacks = absurd lacks
lacks_item b told items i before now story (untold.Ended ending.Unread) begins lacks = (unread_is_not_whole, lacks)

-- an item does not fit, or there is no memory, and nothing failed
pub lacks_next : (b : Bundle) (told : Option (List ℕ)) (items : List Item) (i : Item) (before now : ℕ) (story : Story)
    (why : Untold) → now ≡ before → LacksNext b items i why → TellsItem b told items i before now story (Err why)
lacks_next b told items i before now story untold.NoMemory counts lacks = tt
lacks_next b told items i before now story (untold.Ended (ending.Unfit step)) counts lacks = (lacks, counts)
lacks_next b told items i before now story (untold.Ended ending.Whole) counts lacks = absurd lacks
lacks_next b told items i before now story (untold.Ended (ending.Fault fault)) counts lacks = absurd lacks
lacks_next b told items i before now story (untold.Ended ending.Unread) counts lacks = absurd lacks

-- the page is told by the lines of what was gathered
gathered_page : (b : Bundle) (told : Option (List ℕ)) (p : Presented) (d : Deeds) → (g : GathersAgain b told p d) →
    IsPageTold b told p (page_text p (lines_of p d.left_out d.events.items d.origin))
gathered_page b told p d g = record {
  items = g.items;
  again = g.again;
  lines = ap (page_text p) (gathered_lines b p g.items d g.gathers);
}

-- the page was told that was owed
pub page_told : (b : Bundle) (told : Option (List ℕ)) (items : List Item) (p : Presented) (d : Deeds) (old new : Story)
    (more : List ℕ) (before now : ℕ) (r : Result (Unit {0}) Untold) → TellsBut b told items p old →
    GathersAgain b told p d → more ≡ lines_of p d.left_out d.events.items d.origin → KeepsStory old new → TellsOn r →
    IfOk r (λ done. string_bytes new.text ≡ string_bytes old.text ++ page_text p more) → now ≡ before →
    TellsPage b told items before now new r
page_told b told items p d old new more before now (Ok done) tells g lines keeps on text counts = (
  tells_page b told items p old new (page_text p more) tells keeps
      (subst (λ (l : List ℕ). IsPageTold b told p (page_text p l)) (sym lines) (gathered_page b told p d g)) text,
  counts,
)
page_told b told items p d old new more before now (Err untold.NoMemory) tells g lines keeps on text counts = tt
page_told b told items p d old new more before now (Err (untold.Ended ended)) tells g lines keeps on text counts = absurd on

-- a story was told since the bundle was read
pub tells_since : (b : Bundle) (told now : Option (List ℕ)) (m n k : ℕ) (r : Result Story Untold) → now ≡ told → n ≡ m →
    TellsStory b now n k r → TellsStory b told m k r
tells_since b told now m n k r same counts tells =
    subst (λ (x : ℕ). TellsStory b told x k r) counts
    (subst (λ (t : Option (List ℕ)). TellsStory b t n k r) same tells)
