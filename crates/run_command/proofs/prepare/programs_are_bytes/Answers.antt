use Rattle.std.proofs.Common.{subst}
use Rattle.cloak_model.specs.declared.image.Program.{Program}
use Rattle.range_law.specs.Writing.{AreBytes}
use Rattle.run_command.proofs.PrepareFacts.{all_so_far, all_at_end}
use Rattle.run_command.proofs.prepare.programs_are_bytes.Goals as goal

pub loop-program-preserved : goal.loop-program-preserved
loop-program-preserved c =
    all_so_far (λ (x : Program). AreBytes x.bytes) c.args.programs.now c.loop-program.program-index c.program-item.result c.program-item.is
    c.loop-program.invariant (subst AreBytes c.as_slice.ensures c.are_bytes.ensures)

pub returns : goal.returns
returns c =
    all_at_end (λ (x : Program). AreBytes x.bytes) c.args.programs.now c.loop-program.program-index c.loop-program-test.false
    c.loop-program.invariant
