-- Each row is computed, digests too.
use Rattle.std.proofs.Common.{refl}
use Rattle.sha2.specs.Sha256.{sha256, digest_bytes, hash_after, compress, rounds, schedule, first_words}
use Rattle.cloak_model.specs.Fields.{parts, after_parts}
use Rattle.cloak_model.specs.Hmac.{hmac}
use Rattle.cloak_model.specs.StoredFiles.{store_bytes, table_bytes}
use Rattle.cloak_model.specs.StoreFault.{files_end, files_fields, form_fault, store_fault}
use Rattle.worked_rows.proofs.stores.rows_of_stores.Goals as goal

pub returns-clause-vector : goal.returns-clause-vector
unfolding hmac sha256 digest_bytes hash_after compress rounds schedule first_words
returns-clause-vector c = refl

pub returns-clause-spelled : goal.returns-clause-spelled
unfolding table_bytes
returns-clause-spelled c = record { none = refl; one = refl }

pub returns-clause-faults : goal.returns-clause-faults
unfolding hmac sha256 digest_bytes hash_after compress rounds schedule first_words store_bytes table_bytes store_fault form_fault files_fields files_end parts after_parts
returns-clause-faults c = record { none = refl; next = refl; bit = refl; letter = refl; cut = refl; longer = refl }
