-- What the files of a beginning of bytes hold can be told.
use Rattle.cloak_model.specs.Beginning.{Beginning, Fresh, Stored, IsBeginning}
use Rattle.cloak_model.specs.declared.image.Bundle.{Bundle}
use Rattle.range_law.specs.Writing.{IsBeginningOfBytes}

pub is_beginning : (b : Bundle) (from : Beginning) → IsBeginningOfBytes b from → IsBeginning b from
is_beginning b (Fresh stream) all = tt
is_beginning b (Stored keys stream files) all = all.contents
