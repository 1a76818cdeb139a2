use Rattle.std.proofs.Common.{ℕ, List, sym, subst}
use Rattle.std.specs.Fmt.{HasWritten}
use Rattle.std.specs.Prelude.{codes}
use Rattle.status_sentence.proofs.Joined.{joined}
use Rattle.status_sentence.proofs.write_old_and_record.Goals as goal

pub returns : goal.returns
returns g c = λ plain ok.
    subst (λ (text : List ℕ). HasWritten {W = g.row.W.Denot} g.W.Write.write_str_gives c.args.f.now text c.write.new.self)
    (sym (joined (codes ", the store file `") c.args.old_name.now (codes "` or the record `") c.args.record_name.now
    (codes "`"))) (c.write.ensures.writes plain ok)
