use Rattle.std.proofs.Common.{refl, Some, None}
use Rattle.frozen_commands.proofs.saving.leave_state.Goals as goal

pub returns-in-Some : goal.returns-in-Some
returns-in-Some g c = record {
  state = Some c.in-Some.state;
  leaves = c.save_state.ensures;
  is = c.in-Some.ensures.state;
}

pub returns : goal.returns
returns g c = record {
  state = None;
  leaves = record { files = refl; outcome = c.show_lacking.ensures };
  is = c.in-None.ensures.state;
}
