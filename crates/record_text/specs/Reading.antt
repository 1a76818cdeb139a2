-- What is shown of a record.
use Rattle.std.specs.Prelude.{ℕ, List, [], ◌++◌, Option, Some, None, Result, Ok, Err, Bool, true, false}
use Rattle.cloak_base.specs.declared.causes.Failed.{Failed}
use Rattle.cloak_model.specs.Items.{Item}
use Rattle.command_parts.specs.declared.status.Status.{Status}
use Rattle.command_parts.specs.declared.status.Status.TheVariants as status
use Rattle.read_back.specs.Reading.{status_of_ending}
use Rattle.read_back.specs.Text.{fault_line}
use Rattle.read_back.specs.declared.ending.Ending.{Ending}
use Rattle.record_text.specs.declared.selection.Selection.{Selection}
use Rattle.record_text.specs.Counting.{chosen, counts_text}
use Rattle.record_text.specs.Lines.{lined, line_end}

-- items as they are shown, up to the end of the last line if reading ended
abbrev pub items_text : Selection → List Item → Option Ending → List ℕ
items_text s items None = (lined s items).text
items_text s items (Some ended) = (lined s items).text ++ line_end (lined s items).line

-- the line that says why a record was not read to its end
abbrev pub ending_text : Option Ending → List ℕ
ending_text None = []
ending_text (Some ended) = fault_line ended

-- the items in lines, or how many are chosen of each kind; and why the record was not read to its end
abbrev pub text_by : Bool → Selection → List Item → Option Ending → List ℕ
text_by true s items ended = counts_text (chosen s items).items ++ ending_text ended
text_by false s items ended = items_text s items ended ++ ending_text ended

-- a record as it is shown
abbrev pub record_text : Selection → List Item → Option Ending → List ℕ
record_text s items ended = text_by s.counts s items ended

-- the status for how reading ended and showing went
abbrev pub status_shown : Ending → Result Unit Failed → Status
status_shown ended (Ok u) = status_of_ending ended
status_shown ended (Err failed) = status.WriteFault
