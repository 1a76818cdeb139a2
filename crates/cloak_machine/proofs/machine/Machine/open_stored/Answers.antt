use Rattle.std.proofs.Common.{◌∙◌, refl}
use Rattle.cloak_model.specs.Beginning.{Stored}
use Rattle.cloak_machine.proofs.Stepping.{first_stands}
use Rattle.cloak_machine.proofs.machine.Machine.open_stored.Goals as goal

pub returns-clause-opens : goal.returns-clause-opens
returns-clause-opens c contents are =
    let o = c.in-Ok.ensures.opens contents are in record {
      opened = o.opened;
      opens = o.opens;
      stands = first_stands _ _ (Stored _ _ contents) o.opened o.opens o.stands (c.in_ok-schedule.ensures.turns ∙ c.as_slice.ensures)
          c.in_ok-schedule.ensures.place refl c.new.ensures.shows c.in-Ok.ensures.empty;
    }
