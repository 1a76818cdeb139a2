use Rattle.std.proofs.Common.{◌≡◌, ◌-◌, ◌≤◌, ◌++◌, length, take}
use Rattle.cloak_model.specs.Fields.{first_in, parts, after_parts}
use Rattle.frozen_state.specs.FrozenFault.{maybe_fields, after_maybe}
use Rattle.frozen_run.specs.Reading.{values, maybe_in}
use Rattle.frozen_run.proofs.reading.domains.roots.Given as goal

abbrev pub invariant-loop-i : goal.invariant-loop-i
invariant-loop-i l =
    let body = l.body in
    record {
      long : length l.roots ≡ 8;
      value : take l.i l.roots ++ values (maybe_in body) (after_maybe body) (8 - l.i) l.at
          ≡ values (maybe_in body) (after_maybe body) 8 l.from;
      fields : first_in body (parts (maybe_fields body) (after_maybe body) (8 - l.i) l.at)
          ≡ first_in body (parts (maybe_fields body) (after_maybe body) 8 l.from);
      end : after_parts (after_maybe body) (8 - l.i) l.at ≡ after_parts (after_maybe body) 8 l.from;
      within : l.at ≤ length body;
    }
