use Rattle.guest_kernel.proofs.Puts.{text_put}
use Rattle.guest_kernel.proofs.summary.put_text.Goals as goal

pub returns : goal.returns
returns g c =
    text_put _ _ _ c.args.text.now c.put_all.result c.put_all.ensures.ok c.put_all.ensures.err
    c.put_all.ensures.faults
