-- The names of causes, as the privileged manual has them (scause), and of calls. Cause 24 is that of a context that does
-- not run on the hart which is inside it.
use Rattle.std.specs.Prelude.{ℕ, ◌==◌, List, codes, if◌then◌else◌}
use Rattle.cloak_model.specs.Contexts.{exit_number}
use Rattle.cloak_model.specs.Csr.{timer_cause}

unfoldable pub cause_name : ℕ → List ℕ
cause_name cause =
    if cause == 0 then codes "instruction address misaligned" else
    if cause == 1 then codes "instruction access fault" else
    if cause == 2 then codes "illegal instruction" else
    if cause == 3 then codes "breakpoint" else
    if cause == 4 then codes "load address misaligned" else
    if cause == 5 then codes "load access fault" else
    if cause == 6 then codes "store address misaligned" else
    if cause == 7 then codes "store access fault" else
    if cause == 8 then codes "environment call from U-mode" else
    if cause == 12 then codes "instruction page fault" else
    if cause == 13 then codes "load page fault" else
    if cause == 15 then codes "store page fault" else
    if cause == 24 then codes "it does not run here" else
    if cause == timer_cause then codes "supervisor timer interrupt" else codes "unknown cause"

-- a call to the kernel, or the number that a context ends with
unfoldable pub call_name : ℕ → List ℕ
call_name number =
    if number == 1 then codes "WRITE" else
    if number == 2 then codes "OPEN" else
    if number == 3 then codes "READ" else
    if number == exit_number then codes "EXIT" else codes "call"
