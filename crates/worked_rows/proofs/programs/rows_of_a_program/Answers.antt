-- Each row is computed.
use Rattle.std.proofs.Common.{refl}
use Rattle.worked_rows.proofs.Computing.{program_runs}
use Rattle.worked_rows.proofs.programs.rows_of_a_program.Goals as goal

pub returns-clause-whole : goal.returns-clause-whole
unfolding program_runs
returns-clause-whole c = record { wents = refl; answers = refl; loads = refl; stored = refl; state = refl; size = refl }

pub returns-clause-load_fault : goal.returns-clause-load_fault
unfolding program_runs
returns-clause-load_fault c = record { wents = refl; answers = refl; context = refl; loads = refl }

pub returns-clause-fetch_fault : goal.returns-clause-fetch_fault
unfolding program_runs
returns-clause-fetch_fault c = record { wents = refl; answers = refl }

pub returns-clause-timer : goal.returns-clause-timer
unfolding program_runs
returns-clause-timer c = record { went = refl }

pub returns-clause-write_three : goal.returns-clause-write_three
unfolding program_runs
returns-clause-write_three c = record { wents = refl; answers = refl; loads = refl; phase = refl }

pub returns-clause-write_none : goal.returns-clause-write_none
unfolding program_runs
returns-clause-write_none c = record { wents = refl; answers = refl; loads = refl }

pub returns-clause-read_too_long : goal.returns-clause-read_too_long
unfolding program_runs
returns-clause-read_too_long c = record { wents = refl; answer = refl; answers = refl }

pub returns-clause-read_crossing : goal.returns-clause-read_crossing
unfolding program_runs
returns-clause-read_crossing c =
    record {
      leaves = refl;
      begins = refl;
      first = refl;
      wents = refl;
      stored = refl;
      done = refl;
      used = refl;
      goes_on = refl;
      next = refl;
      last = refl;
      ended = refl;
      answer = refl;
      loads = refl;
    }

pub returns-clause-unmapped_buffer : goal.returns-clause-unmapped_buffer
unfolding program_runs
returns-clause-unmapped_buffer c =
    record { wents = refl; answers = refl; answer = refl; phase = refl; loads = refl; next = refl }

pub returns-clause-new_refused : goal.returns-clause-new_refused
unfolding program_runs
returns-clause-new_refused c = record { no_page = refl; too_many = refl; full = refl; made = refl; held = refl }

pub returns-clause-map_refused : goal.returns-clause-map_refused
unfolding program_runs
returns-clause-map_refused c =
    record { unaligned = refl; overlap = refl; unknown = refl; unknown_first = refl; mapped = refl }

pub returns-clause-others_refused : goal.returns-clause-others_refused
unfolding program_runs
returns-clause-others_refused c = record { unmap = refl; unknown = refl; resuming = refl }

pub returns-clause-files : goal.returns-clause-files
unfolding program_runs
returns-clause-files c =
    record {
      made = refl;
      again = refl;
      same = refl;
      other_size = refl;
      other_number = refl;
      no_page = refl;
      full =
          refl;
    }

pub returns-clause-threads : goal.returns-clause-threads
unfolding program_runs
returns-clause-threads c = record { first = refl; seventh = refl; full = refl; fork_full = refl; unaligned = refl }

pub returns-clause-last_exit : goal.returns-clause-last_exit
unfolding program_runs
returns-clause-last_exit c =
    record { ending = refl; answers = refl; held = refl; spaces = refl; contexts = refl; page = refl; stopped = refl }

pub returns-clause-other_exit : goal.returns-clause-other_exit
unfolding program_runs
returns-clause-other_exit c = record { went = refl; answers = refl; resources = refl }

pub returns-clause-fork : goal.returns-clause-fork
unfolding program_runs
returns-clause-fork c =
    record {
      went = refl;
      answers = refl;
      parent = refl;
      child = refl;
      held = refl;
      own_page = refl;
      own_copy = refl;
      file = refl;
      same_file = refl;
      copied = refl;
      instruction = refl;
      stored = refl;
      kept = refl;
    }

pub returns-clause-shared_file : goal.returns-clause-shared_file
unfolding program_runs
returns-clause-shared_file c = record { stored = refl; loaded = refl; word = refl; loads = refl }

pub returns-clause-fork_refused : goal.returns-clause-fork_refused
unfolding program_runs
returns-clause-fork_refused c =
    record { made = refl; numbers = refl; enough_numbers = refl; pages = refl; enough_pages = refl; stopped = refl }

pub returns-clause-forked_child : goal.returns-clause-forked_child
unfolding program_runs
returns-clause-forked_child c =
    record {
      other_space = refl;
      own = refl;
      file = refl;
      forks = refl;
      new_child = refl;
      third_copy = refl;
      ending =
          refl;
      held = refl;
      parents = refl;
      childs = refl;
      dropped = refl;
    }

pub returns-clause-root : goal.returns-clause-root
unfolding program_runs
returns-clause-root c = record { first = refl; other = refl; same = refl }
