use Rattle.std.proofs.Common.{◌≡◌, ◌+◌, ◌-◌, ◌*◌, ◌≤◌, ◌++◌, length, take, drop}
use Rattle.cloak_model.specs.Fields.{first_in, number}
use Rattle.frozen_state.specs.Ranges.{kept_bits}
use Rattle.frozen_state.specs.FrozenFault.{csr_fields}
use Rattle.frozen_run.specs.Reading.{values, after_word}
use Rattle.frozen_run.proofs.reading.harts.csrs.Given as goal

abbrev pub invariant-loop-i : goal.invariant-loop-i
invariant-loop-i l =
    let body = l.body in
    record {
      long : length l.csrs ≡ 9;
      value : take l.i l.csrs ++ values (number body) after_word (9 - l.i) l.at
          ≡ values (number body) after_word 9 l.from;
      fields : first_in body (csr_fields body (drop l.i kept_bits) l.at)
          ≡ first_in body (csr_fields body kept_bits l.from);
      at : l.at ≡ l.from + 4 * l.i;
      within : l.at ≤ length body;
    }
