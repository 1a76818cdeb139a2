-- Each row is computed.
use Rattle.std.proofs.Common.{refl}
use Rattle.cloak_base.specs.Pages.{zero_page}
use Rattle.worked_rows.proofs.Computing.{lone_kernels, lone_programs}
use Rattle.worked_rows.proofs.machines_alone.rows_of_machines_alone.Goals as goal

pub returns-clause-whole_halves : goal.returns-clause-whole_halves
unfolding lone_kernels lone_programs zero_page
returns-clause-whole_halves c =
    record { outward = refl; inward = refl; kernel = refl; program = refl; page = refl; steps = refl; fit = refl }

pub returns-clause-forged_leave : goal.returns-clause-forged_leave
unfolding lone_kernels zero_page
returns-clause-forged_leave c = record { kernel = refl; inward = refl }

pub returns-clause-missing_answer : goal.returns-clause-missing_answer
unfolding lone_programs zero_page
returns-clause-missing_answer c = record { program = refl; outward = refl }

pub returns-clause-other_answers : goal.returns-clause-other_answers
unfolding lone_programs zero_page
returns-clause-other_answers c =
    record { wrong_kind = refl; left_over = refl; outside = refl; resumed_twice = refl; others = refl }

pub returns-clause-letter : goal.returns-clause-letter
unfolding lone_kernels zero_page
returns-clause-letter c =
    record {
      made = refl;
      not_yet = refl;
      behind_halt = refl;
      forged_put = refl;
      forged_leave = refl;
      forged_frame =
          refl;
    }
