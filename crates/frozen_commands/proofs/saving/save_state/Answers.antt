use Rattle.std.proofs.Common.{refl, inl, inr}
use Rattle.command_parts.specs.Outside.{output}
use Rattle.frozen_commands.proofs.saving.save_state.Goals as goal

pub returns-in-Ok : goal.returns-in-Ok
returns-in-Ok g c =
    let saves = c.in-Ok.ensures.saves in
    record {
      shape = c.state_has_shape.ensures;
      few = c.requires.few;
      output = refl {a = output g.O.Sink c.args.out.now};
      others = saves.others;
      reading = saves.reading;
      outcome = inl (refl, (saves.whole refl, saves.no_fault refl));
    }

pub returns-in-Err : goal.returns-in-Err
returns-in-Err g c =
    let saves = c.in-Err.ensures.saves in
    record {
      shape = c.state_has_shape.ensures;
      few = c.requires.few;
      output = refl {a = output g.O.Sink c.args.out.now};
      others = saves.others;
      reading = saves.reading;
      outcome = inr (refl, (saves.front refl, saves.fault refl));
    }
