use Rattle.std.proofs.Common.{ℕ, List, codes, ◌∙◌, ap}
use Rattle.hex.specs.Hex.{encode_lower}
use Rattle.sha2.specs.Sha256.{sha256}
use Rattle.kernel_report.proofs.PutFacts.{then, text_is, PutsMore-none}
use Rattle.record_json.specs.Members.{next_member, with_text}
use Rattle.record_json.proofs.fields.put_cipher.Goals as goal

pub returns : goal.returns
returns g c = then c.put_item_name-so_far.ensures (then c.put_number-so_far.ensures (then
    (text_is c.put_digest.ensures (ap (λ (d : List ℕ). next_member (with_text (codes "sha256") (encode_lower d)))
    (c.digest.ensures ∙ ap (λ (b : List ℕ). sha256 b) c.as_slice.ensures))) (PutsMore-none _)))
