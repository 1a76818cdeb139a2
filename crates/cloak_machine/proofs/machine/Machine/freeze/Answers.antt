use Rattle.std.proofs.Common.{◌∙◌, ℕ, ap, sym}
use Rattle.frozen_state.specs.FrozenState.{frozen_of}
use Rattle.cloak_machine.proofs.machine.Machine.freeze.Goals as goal

pub returns-clause-state : goal.returns-clause-state
returns-clause-state c m stands drawn room =
    c.freeze.ensures.state m.joint stands.joint drawn room
    ∙ ap (λ (n : ℕ). frozen_of m.joint n c.args.ivs.now) (sym stands.steps)
