use Rattle.std.proofs.Common.{◌≡◌, ◌-◌, ◌≤◌, ◌++◌, length, vec_capacity}
use Rattle.cloak_model.specs.Fields.{first_in, parts, after_parts}
use Rattle.frozen_state.specs.FrozenFault.{hart_fields, after_hart}
use Rattle.frozen_run.specs.Reading.{values, hart_in}
use Rattle.frozen_run.proofs.reading.harts.read_harts.Given as goal

abbrev pub invariant-loop : goal.invariant-loop
invariant-loop l =
    let body = l.body in
    record {
      count : length l.harts.items ≡ l.counter;
      room : vec_capacity l.harts ≡ l.n;
      value : l.harts.items ++ values (hart_in body) (after_hart body) (l.n - l.counter) l.at
          ≡ values (hart_in body) (after_hart body) l.n l.from;
      fields : first_in body (parts (hart_fields body l.frames) (after_hart body) (l.n - l.counter) l.at)
          ≡ first_in body (parts (hart_fields body l.frames) (after_hart body) l.n l.from);
      end : after_parts (after_hart body) (l.n - l.counter) l.at ≡ after_parts (after_hart body) l.n l.from;
      within : l.at ≤ length body;
    }
