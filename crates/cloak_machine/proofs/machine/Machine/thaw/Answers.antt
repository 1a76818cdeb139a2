use Rattle.std.proofs.Common.{◌∙◌, refl}
use Rattle.cloak_machine.proofs.GoingOn.{goes_on}
use Rattle.cloak_machine.proofs.machine.Machine.thaw.Goals as goal

pub returns-clause-thaws : goal.returns-clause-thaws
returns-clause-thaws c =
    let t = c.in-Ok.ensures.thaws in record {
      keys = t.keys;
      rest = t.rest;
      drawn = t.drawn;
      thawable = t.thawable;
      stands = λ j can.
          goes_on _ c.args.b.now c.args.f.steps j (t.stands j can) (c.in_ok-schedule.ensures.turns ∙ c.as_slice.ensures)
          c.in_ok-schedule.ensures.place refl c.new.ensures.shows c.in-Ok.ensures.empty;
    }
