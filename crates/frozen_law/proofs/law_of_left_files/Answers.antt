use Rattle.frozen_law.proofs.Left.{runs_end_with_keys, runs_leave_contents}
use Rattle.frozen_law.proofs.Vectors.{vectors_are_blocks}
use Rattle.frozen_law.proofs.law_of_left_files.Goals as goal

pub returns-clause-vectors : goal.returns-clause-vectors
returns-clause-vectors c = vectors_are_blocks

pub returns-clause-contents : goal.returns-clause-contents
returns-clause-contents c = runs_leave_contents

pub returns-clause-keys : goal.returns-clause-keys
returns-clause-keys c = runs_end_with_keys
