use Rattle.vector_law.proofs.StoreFiles.{stores_tell_no_key}
use Rattle.vector_law.proofs.law_of_store_files.Goals as goal

pub returns : goal.returns
returns c = stores_tell_no_key
