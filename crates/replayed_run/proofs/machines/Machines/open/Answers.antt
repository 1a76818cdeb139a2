use Rattle.replayed_run.proofs.Followed.{machines_stand}
use Rattle.replayed_run.proofs.machines.Machines.open.Goals as goal

pub returns : goal.returns
returns c = machines_stand c.args.bundle.now _ c.in_ok-open.ensures c.in_ok-open_programs.ensures
