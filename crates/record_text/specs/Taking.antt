-- What becomes of an output with the items that it shows in lines.
use Rattle.std.specs.Prelude.{◌≡◌, List, Result, Ok}
use Rattle.cloak_base.specs.declared.causes.Failed.{Failed}
use Rattle.io_traits.specs.declared.sink.Sink as sinks
use Rattle.cloak_model.specs.Items.{Item}
use Rattle.kernel_report.specs.Putting.{Putting, PutsMore, putting}
use Rattle.record_text.specs.declared.lines.Line.{Line}
use Rattle.record_text.specs.declared.selection.Selection.{Selection}
use Rattle.record_text.specs.declared.showing.LinesOutput.{LinesOutput}
use Rattle.record_text.specs.Lines.{lined, opening_line}

-- these items were shown since, and this line is the last
pub record ShownLines (s : Selection) (old new : Putting) (line : Line) (items : List Item) : Type 0 where
  pub text : PutsMore old new (lined s items).text
  pub last : line ≡ (lined s items).line

pub record TookInLines {O : Type 0} (sink : sinks.Ghosts O) (first now : LinesOutput O) (items : List Item)
    (given : Result (Unit {0}) Failed) : Type 0 where
  pub shows : (old : Putting) →
      PutsMore old (putting sink first.out.now (Ok tt)) (opening_line first.selection.now).text →
      first.line ≡ (opening_line first.selection.now).line →
      ShownLines first.selection.now old (putting sink now.out.now given) now.line items
  pub same_selection : now.selection ≡ first.selection
  pub same_out : now.out.ghost_name ≡ first.out.ghost_name
