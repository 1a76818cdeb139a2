use Rattle.std.proofs.Common.{◌≡◌, ◌+◌, ◌-◌, ◌*◌, ◌/◌, ◌≤◌, ◌++◌, None, length, min, vec_capacity}
use Rattle.cloak_model.specs.Fields.{first_in}
use Rattle.frozen_state.specs.FrozenFault.{recorded_fields}
use Rattle.frozen_run.specs.Reading.{values, recorded_in, after_recorded}
use Rattle.frozen_run.proofs.reading.recorded.read_recorded.Given as goal

abbrev pub invariant-loop : goal.invariant-loop
invariant-loop l =
    let body = l.body in
    record {
      count : length l.pages.items ≡ l.counter;
      room : vec_capacity l.pages ≡ min l.n ((length body - l.from) / 60);
      value : l.pages.items ++ values (recorded_in body) after_recorded (l.n - l.counter) l.at
          ≡ values (recorded_in body) after_recorded l.n l.from;
      fields : first_in body (recorded_fields body l.programs (l.n - l.counter) l.last l.at)
          ≡ first_in body (recorded_fields body l.programs l.n None l.from);
      at : l.at ≡ l.from + 60 * l.counter;
      within : l.at ≤ length body;
    }
