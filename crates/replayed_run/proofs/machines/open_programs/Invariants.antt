use Rattle.std.proofs.Common.{◌≡◌, length}
use Rattle.replayed_run.proofs.Followed.{AreOpened}
use Rattle.replayed_run.proofs.machines.open_programs.Given as goal

-- the programs so far were opened
abbrev pub invariant-loop-number : goal.invariant-loop-number
invariant-loop-number l = record {
  count : length l.opened.items ≡ l.number;
  each : AreOpened l.bundle l.opened.items l.number;
}
