use Rattle.cloak_model.specs.Run.{first_moment}
use Rattle.run_command.proofs.ClashFacts.{run_unclashed}
use Rattle.run_command.proofs.EndFacts.{end_of}
use Rattle.image_commands.proofs.demonstrating.end_of_run.Goals as goal

pub returns : goal.returns
returns c = λ b stream o opens stands none.
    end_of b c.args.steps o _ _ _ _
    (c.run_unheard-stopped.ensures (first_moment b o.joint) stands (run_unclashed b c.args.steps o none))
    c.unwrap_or.ensures c.finish.ensures.ends
