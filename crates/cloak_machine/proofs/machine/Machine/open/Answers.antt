use Rattle.std.proofs.Common.{◌∙◌, refl}
use Rattle.cloak_model.specs.Beginning.{Fresh}
use Rattle.cloak_machine.proofs.Stepping.{first_stands}
use Rattle.cloak_machine.proofs.machine.Machine.open.Goals as goal

pub returns-clause-opens : goal.returns-clause-opens
returns-clause-opens c =
    let o = c.in-Ok.ensures.opens in record {
      opened = o.opened;
      opens = o.opens;
      stands = first_stands _ _ (Fresh _) o.opened o.opens o.stands (c.in_ok-schedule.ensures.turns ∙ c.as_slice.ensures)
          c.in_ok-schedule.ensures.place refl c.new.ensures.shows c.in-Ok.ensures.empty;
    }
