-- What becomes of an output with the items that it shows as objects.
use Rattle.std.specs.Prelude.{◌≡◌, List, Result, Ok}
use Rattle.cloak_base.specs.declared.causes.Failed.{Failed}
use Rattle.io_traits.specs.declared.sink.Sink as sinks
use Rattle.cloak_model.specs.Items.{Item}
use Rattle.kernel_report.specs.Putting.{PutsMore, putting}
use Rattle.record_json.specs.JsonText.{objects}
use Rattle.record_json.specs.declared.showing.ObjectsOutput.{ObjectsOutput}

pub record TookAsObjects {O : Type 0} (sink : sinks.Ghosts O) (first now : ObjectsOutput O) (items : List Item)
    (given : Result (Unit {0}) Failed) : Type 0 where
  pub text : PutsMore (putting sink first.out.now (Ok tt)) (putting sink now.out.now given)
      (objects first.selection.now items).text
  pub at : now.place ≡ (objects first.selection.now items).place
  pub same_selection : now.selection ≡ first.selection
  pub same_out : now.out.ghost_name ≡ first.out.ghost_name
