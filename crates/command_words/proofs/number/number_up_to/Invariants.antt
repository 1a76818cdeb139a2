use Rattle.std.proofs.Common.{◌≡◌, ◌≤◌, ◌+◌, ◌-◌, ◌*◌, drop, fold}
use Rattle.std.specs.Str.{all_ascii_digits}
use Rattle.command_words.specs.Command.{decimal_value}
use Rattle.command_words.proofs.number.number_up_to.Given as goal

-- the digits so far were digits, and their value is no larger than the limit
abbrev pub invariant-loop-digit : goal.invariant-loop-digit
invariant-loop-digit l = record {
  digits : all_ascii_digits (drop l.digit-index l.digits) ≡ all_ascii_digits l.digits;
  value : fold (λ n c. 10 * n + (c - 48)) l.value (drop l.digit-index l.digits) ≡ decimal_value l.digits;
  low : l.value ≤ l.limit;
}
