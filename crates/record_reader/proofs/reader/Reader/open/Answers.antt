use Rattle.std.proofs.Common.{refl, inl}
use Rattle.cloak_model.specs.RecordFault.{stage_behind}
use Rattle.record_reader.proofs.reader.Reader.open.Goals as goal

pub returns-clause-front : goal.returns-clause-front
unfolding stage_behind
returns-clause-front c = λ file. (record { place = inl (refl, refl); stage_is = refl }, c.none.ensures file)
