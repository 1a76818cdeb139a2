-- Each row is computed; the offer that compares the bytes of a frame is told by a lemma.
use Rattle.std.proofs.Common.{refl, ap, false}
use Rattle.cloak_model.specs.Cloaking.{AfterOffer}
use Rattle.cloak_base.specs.Pages.{zero_page}
use Rattle.worked_rows.specs.DomainRows.{page}
use Rattle.worked_rows.specs.MemoryRows.{copied}
use Rattle.worked_rows.proofs.Computing.{joint_runs, program_runs}
use Rattle.worked_rows.proofs.Offers.{offer-shown}
use Rattle.worked_rows.proofs.memory.rows_of_cloaked_memory.Goals as goal

pub returns-clause-own_table : goal.returns-clause-own_table
unfolding joint_runs zero_page
returns-clause-own_table c =
    record {
      answer = refl;
      items = refl;
      owed = refl;
      value = refl;
      entry = refl;
      shown = refl;
      draws = refl;
      settled = refl;
      unchanged = refl;
    }

pub returns-clause-fork_frames : goal.returns-clause-fork_frames
unfolding joint_runs program_runs
returns-clause-fork_frames c = record {
  went = refl;
  items = refl;
  draws = refl;
  owed = refl;
  ram = refl;
  first_plain = refl;
  second_plain = refl;
  first_record = refl;
  second_record = refl;
  fresh_record = refl;
  file_record = refl;
  accepted = ap (λ (o : AfterOffer). o.granted)
      (offer-shown (page 2 0) 9 false copied (record { owed = refl; owing = refl; shown = refl }));
}

pub returns-clause-write_area : goal.returns-clause-write_area
unfolding joint_runs program_runs
returns-clause-write_area c = record { wents = refl; items = refl; loads = refl; area = refl }
