use Rattle.vector_law.proofs.Vectors.{runs_keep_no_keys}
use Rattle.vector_law.proofs.law_of_vectors.Goals as goal

pub returns : goal.returns
returns c = runs_keep_no_keys
