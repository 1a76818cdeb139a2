-- A record is read and told, as far as its items were taken.
use Rattle.std.proofs.Common.{◌≡◌, ℕ, List, [], ◌∷◌, ◌++◌, length, Option, Result, Ok, Err, subst}
use Rattle.cloak_model.specs.declared.image.Bundle.{Bundle}
use Rattle.cloak_model.specs.Items.{Item}
use Rattle.record_reader.specs.declared.reader.Reader.{Reader}
use Rattle.read_back.proofs.NextItem.{told_begins}
use Rattle.read_back.specs.Items.{Finds, StandsAt}
use Rattle.read_back.proofs.ItemsRead.{finds}
use Rattle.run_story.specs.Answering.{BeginsSo, TellsItem, TellsStory}
use Rattle.run_story.specs.Telling.{Tells}
use Rattle.run_story.specs.declared.story.Story.{Story}
use Rattle.run_story.specs.declared.untold.Untold.{Untold}
use Rattle.run_story.proofs.Ends.{lacks_item}

-- A reader stands after items that a story has taken, so many.
pub record ToldSoFar (b : Bundle) (told : Option (List ℕ)) (reader : Reader) (n : ℕ) (s : Story) : Type 0 where
  pub items : List Item
  pub count : length items ≡ n
  pub stands : StandsAt told reader items
  pub tells : Tells b told items s

-- one item more
pub stands_on : (told now : Option (List ℕ)) (was next : Reader) (i : Item) (items : List Item) → now ≡ told →
    ((front : List Item) → StandsAt now was front → Finds now next front (Ok i)) → StandsAt told was items →
    StandsAt told next (items ++ i ∷ [])
stands_on told now was next i items same found stands = finds told now was next (Ok i) items same found stands

-- the file begins with these items
pub begins_with : (told : Option (List ℕ)) (reader : Reader) (items : List Item) → StandsAt told reader items →
    BeginsSo told items
begins_with told reader items stands = told_begins told reader items stands

-- an item was told of a file that stays
pub tells_item : (b : Bundle) (told now : Option (List ℕ)) (items : List Item) (i : Item) (m k : ℕ) (old new : Story)
    (r : Result (Unit {0}) Untold) → now ≡ told →
    (BeginsSo now (items ++ i ∷ []) → Tells b now items old → TellsItem b now items i m k new r) →
    BeginsSo told (items ++ i ∷ []) → Tells b told items old → TellsItem b told items i m k new r
tells_item b told now items i m k old new r same tells =
    subst (λ (t : Option (List ℕ)). BeginsSo t (items ++ i ∷ []) → Tells b t items old → TellsItem b t items i m k new r)
    same tells

-- the file has an item more, which was not told
pub item_untold : (b : Bundle) (told : Option (List ℕ)) (reader : Reader) (items : List Item) (i : Item) (m n k : ℕ)
    (story : Story) (why : Untold) → StandsAt told reader (items ++ i ∷ []) → n ≡ m →
    TellsItem b told items i n k story (Err why) → TellsStory b told m k (Err why)
item_untold b told reader items i m n k story why stands counts tells =
    lacks_item b told items i m k story why (begins_with told reader (items ++ i ∷ []) stands)
    (subst (λ (x : ℕ). TellsItem b told items i x k story (Err why)) counts tells)
