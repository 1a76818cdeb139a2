use Rattle.std.proofs.Common.{◌∙◌, arith}
use Rattle.guest_kernel.proofs.Lengths.{made_program}
use Rattle.guest_kernel.proofs.programs.demo_program.Goals as goal

pub returns : goal.returns
returns c =
    made_program c.args.program c.args.rounds _ _ _ _ c.demo_frame.ensures c.in_ok-bytes.ensures
    (c.new.ensures ∙ c.in_ok-resize.ensures.items) (omega arith)
