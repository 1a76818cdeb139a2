use Rattle.std.proofs.Common.{◌≡◌, ◌+◌, ◌-◌, ◌*◌, ◌≤◌, ◌++◌, ◌∷◌, [], length, take}
use Rattle.cloak_model.specs.Fields.{first_in, number, parts}
use Rattle.frozen_state.specs.FrozenFault.{any_in}
use Rattle.frozen_run.specs.Reading.{values, after_word}
use Rattle.frozen_run.proofs.reading.harts.registers.Given as goal

abbrev pub invariant-loop-i : goal.invariant-loop-i
invariant-loop-i l =
    let body = l.body in
    record {
      long : length l.regs ≡ 32;
      value : take l.i l.regs ++ values (number body) after_word (32 - l.i) l.at
          ≡ 0 ∷ values (number body) after_word 31 l.from;
      fields : first_in body (parts (λ at. any_in body at 4 ∷ []) after_word (32 - l.i) l.at)
          ≡ first_in body (parts (λ at. any_in body at 4 ∷ []) after_word 31 l.from);
      at : l.at + 4 ≡ l.from + 4 * l.i;
      within : l.at ≤ length body;
    }
