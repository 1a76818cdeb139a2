-- Each row is computed.
use Rattle.std.proofs.Common.{refl}
use Rattle.cloak_base.specs.Pages.{zero_page}
use Rattle.worked_rows.specs.AtomicRows.{steps_of}
use Rattle.worked_rows.proofs.Computing.{instructions, plain_steps, program_runs, joint_runs}
use Rattle.worked_rows.proofs.atomics.rows_of_atomics.Goals as goal

pub returns-clause-words : goal.returns-clause-words
unfolding instructions
returns-clause-words c = record { add = refl; reserve = refl; conditional = refl; none = refl }

pub returns-clause-operations : goal.returns-clause-operations
unfolding instructions
returns-clause-operations c = record { add = refl; xor = refl; or = refl; and = refl; swap = refl; min = refl; max = refl; minu = refl; maxu = refl }

pub returns-clause-hart_reserves : goal.returns-clause-hart_reserves
unfolding plain_steps
returns-clause-hart_reserves c = record { loaded = refl; reserved = refl; behind_store = refl; behind_byte = refl; behind_trap = refl; at_next_word = refl; nothing_reserved = refl; at_once = refl; behind_next_word = refl; behind_other_trap = refl; again = refl }

pub returns-clause-settled_frame : goal.returns-clause-settled_frame
unfolding joint_runs zero_page
returns-clause-settled_frame c =
    record { settled = refl; items = refl; frame = refl; marks = refl; not_owed = refl; stored = refl }

pub returns-clause-context_reserves : goal.returns-clause-context_reserves
unfolding program_runs steps_of
returns-clause-context_reserves c = record { reserved = refl; behind_store = refl; at_once = refl; behind_operation = refl; behind_copy = refl; at_next_word = refl; answers = refl; copy_answers = refl; loads = refl; all_loads = refl }

pub returns-clause-context_traps : goal.returns-clause-context_traps
unfolding program_runs steps_of
returns-clause-context_traps c = record { wents = refl; left = refl; own = refl; other = refl }

pub returns-clause-atomic_loads : goal.returns-clause-atomic_loads
unfolding program_runs steps_of
returns-clause-atomic_loads c = record { reserve = refl; conditional = refl; add = refl; reserve_to_zero = refl; add_to_zero = refl }

pub returns-clause-atomic_faults : goal.returns-clause-atomic_faults
unfolding program_runs
returns-clause-atomic_faults c = record { reserve = record { wents = refl; answers = refl }; conditional = record { wents = refl; answers = refl }; add = record { wents = refl; answers = refl }; reserve_misaligned = record { wents = refl; answers = refl }; conditional_misaligned = record { wents = refl; answers = refl }; add_misaligned = record { wents = refl; answers = refl }; misaligned_first = record { wents = refl; answers = refl } }

pub returns-clause-sums : goal.returns-clause-sums
unfolding joint_runs zero_page
returns-clause-sums c = record { by_turns = refl; loads_by_turns = refl; twice_as_fast = refl; loads_twice_as_fast = refl }
