use Rattle.std.proofs.Common.{◌∙◌, arith}
use Rattle.hostile_kernels.proofs.Made.{made_guest}
use Rattle.hostile_kernels.proofs.making.program.Goals as goal

pub returns : goal.returns
returns c =
    made_guest c.args.guest.now.place _ c.args.guest.now.start c.args.guest.now.words.now _ _ _
    c.new-bytes.ensures.items c.in_ok-put_words.ensures (c.new.ensures ∙ c.in_ok-resize.ensures.items) (omega arith)
