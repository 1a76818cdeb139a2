-- What of a record was shown as objects, and where reading ended.
use Rattle.std.specs.Prelude.{ℕ, List, Option, Some, Result, Ok, Err}
use Rattle.cloak_base.specs.declared.causes.Failed.{Failed}
use Rattle.cloak_model.specs.Items.{Item}
use Rattle.kernel_report.specs.Putting.{Putting, PutsMore}
use Rattle.read_back.specs.Reading.{IsReadTo, never_unfit}
use Rattle.read_back.specs.declared.ending.Ending.{Ending}
use Rattle.record_text.specs.declared.selection.Selection.{Selection}
use Rattle.record_json.specs.JsonText.{objects}

-- Items were read up to where reading ended, if it did, and shown.
pub record ShowsTo (s : Selection) (told : Option (List ℕ)) (reading reads : ℕ) (old new : Putting)
    (ended : Option Ending) : Type 0 where
  pub items : List Item
  pub read : IsReadTo never_unfit told reading reads items ended
  pub text : PutsMore old new (objects s items).text

-- all was shown and reading ended so; or the output failed, whether or not reading had ended
abbrev pub ShowsObjects : Selection → Option (List ℕ) → ℕ → ℕ → Putting → (Result Unit Failed → Putting) →
    Result Ending Failed → Type 0
ShowsObjects s told reading reads old new (Ok ended) = ShowsTo s told reading reads old (new (Ok tt)) (Some ended)
ShowsObjects s told reading reads old new (Err failed) =
    (ended : Option Ending) × ShowsTo s told reading reads old (new (Err failed)) ended
