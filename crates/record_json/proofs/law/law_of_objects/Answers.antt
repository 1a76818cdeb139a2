use Rattle.record_json.proofs.Fits.{object_lines}
use Rattle.record_json.proofs.law.law_of_objects.Goals as goal

pub returns : goal.returns
returns c = object_lines
