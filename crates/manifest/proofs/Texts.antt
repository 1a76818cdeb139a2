-- The text of a manifest.
use Rattle.std.proofs.Common.{◌≡◌, ◌<◌, ◌≤◌, ◌==◌, ℕ, true, false, List, length, Result, Err, refl}
use Rattle.toml.specs.Data.{Members}
use Rattle.manifest.specs.Faults.{Fault, too_long, no_bytes}
use Rattle.manifest.specs.Images.{longest_manifest, DocumentReads, TextReads}
use Rattle.manifest.proofs.Files.{larger, not_larger}

pub long_text : (text : List ℕ) → longest_manifest < length text → TextReads text (Err too_long)
unfolding TextReads
long_text text long = rw (larger (length text) longest_manifest long) refl

pub empty_text : (text : List ℕ) → length text ≤ longest_manifest → (length text == 0) ≡ true → TextReads text (Err no_bytes)
unfolding TextReads
empty_text text short none = rw (not_larger (length text) longest_manifest short, none) refl

pub short_text : (text : List ℕ) (r : Result Members Fault) → length text ≤ longest_manifest → (length text == 0) ≡ false →
    DocumentReads text r → TextReads text r
unfolding TextReads
short_text text r short some reads = rw (not_larger (length text) longest_manifest short, some) reads
