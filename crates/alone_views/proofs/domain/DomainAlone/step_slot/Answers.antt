use Rattle.std.proofs.Common.{rules}
use Rattle.cloak_model.specs.World.{Alone}
use Rattle.hypercalls.specs.Standing.{control_of}
use Rattle.alone_views.proofs.DomainTried.{free_slot, no_step, pages_alone, step_unclashed}
use Rattle.alone_views.proofs.domain.DomainAlone.step_slot.Goals as goal

pub step-requires-clause-serves : goal.step-requires-clause-serves
step-requires-clause-serves c = record { domain = search rules; unused = λ n low none. tt }

pub returns-then-is_some-clause-steps : goal.returns-then-is_some-clause-steps
returns-then-is_some-clause-steps c = λ d h stands side fit.
    let t = c.step.ensures.steps c.args.self.now.side d stands (Alone h) (pages_alone c.args.slot (control_of c.args.self.now.domain) h) side (step_unclashed h c.args.slot d fit) in
    record { domain = t.domain_stands; side = t.world_stands }

pub returns-else-is_some-clause-steps : goal.returns-else-is_some-clause-steps
returns-else-is_some-clause-steps c = λ d h stands side fit.
    no_step c.args.self.now c.args.slot d h
    (free_slot c.args.self.now.domain d c.args.slot c.context.result c.is_some.result stands c.context.ensures.value c.is_some.ensures c.if-is_some.false) stands side
