use Rattle.std.proofs.Common.{ℕ, List, ◌∙◌, ap}
use Rattle.hex.specs.Hex.{encode_lower}
use Rattle.sha2.specs.Sha256.{sha256}
use Rattle.kernel_report.proofs.PutFacts.{then, text_is}
use Rattle.record_text.proofs.items.put_cipher.Goals as goal

pub returns : goal.returns
returns g c = then c.text-so_far.ensures (then c.decimal-so_far.ensures (then c.text-so_far-2.ensures
    (text_is c.digest-2.ensures (ap (λ (d : List ℕ). encode_lower d)
    (c.digest.ensures ∙ ap (λ (b : List ℕ). sha256 b) c.as_slice.ensures)))))
