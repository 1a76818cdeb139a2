use Rattle.replayed_run.proofs.Followed.{resource_is, resource_past}
use Rattle.replayed_run.proofs.machines.Machines.has_resource.Goals as goal

pub returns-then-number-programs : goal.returns-then-number-programs
returns-then-number-programs c = λ b items stand.
    resource_is b items c.args.self.now c.as_slice-programs.result.now c.args.domain c.args.resource
    c.index-programs-number.result c.has_resource.result stand c.as_slice-programs.ensures.value
    c.if-number-programs.true c.index-programs-number.is c.has_resource.ensures

pub returns-else-number-programs : goal.returns-else-number-programs
returns-else-number-programs c = λ b items stand.
    resource_past b items c.args.self.now c.as_slice-programs.result.now c.args.domain c.args.resource stand
    c.as_slice-programs.ensures.value c.if-number-programs.false
