use Rattle.disk_law.proofs.Runs.{disks_stay}
use Rattle.disk_law.proofs.law_of_disks.Goals as goal

pub returns : goal.returns
returns c = disks_stay
