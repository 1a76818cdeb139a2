use Rattle.std.proofs.Common.{ℕ, List, ◌∷◌, [], ◌++◌, ap, sym}
use Rattle.kernel_report.proofs.PutFacts.{then, text_is}
use Rattle.record_json.proofs.Texts.{escape_lower}
use Rattle.record_json.proofs.members.put_quoted_digest.Goals as goal

pub returns : goal.returns
returns g c =
    text_is (then c.text-so_far.ensures (then c.digest-so_far.ensures c.text.ensures))
    (ap (λ (s : List ℕ). 34 ∷ (s ++ 34 ∷ [])) (sym (escape_lower c.args.bytes.now c.fits-bytes)))
