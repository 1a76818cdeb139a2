-- Runs that compare nothing are computed at once; the others are put together.
use Rattle.std.proofs.Common.{refl}
use Rattle.cloak_model.specs.Bundle.{bundle_bytes}
use Rattle.cloak_model.specs.Exchange.{item_bytes}
use Rattle.cloak_base.specs.Pages.{zero_page}
use Rattle.worked_rows.proofs.Computing.{joint_runs, texts}
use Rattle.worked_rows.proofs.JointRows.{whole_program, other_key, three_draws, two_draws, other_root, after_exit, flipped_bit, nothing_flipped}
use Rattle.worked_rows.proofs.joint_runs.rows_of_joint_runs.Goals as goal

pub returns-clause-whole : goal.returns-clause-whole
returns-clause-whole c = whole_program

pub returns-clause-three_draws : goal.returns-clause-three_draws
returns-clause-three_draws c = three_draws

pub returns-clause-two_draws : goal.returns-clause-two_draws
returns-clause-two_draws c = two_draws

pub returns-clause-no_run : goal.returns-clause-no_run
unfolding joint_runs zero_page
returns-clause-no_run c = record { no_page_draw = refl; no_key = refl }

pub returns-clause-other_key : goal.returns-clause-other_key
returns-clause-other_key c = other_key

pub returns-clause-two_harts : goal.returns-clause-two_harts
unfolding joint_runs zero_page
returns-clause-two_harts c = refl

pub returns-clause-no_context : goal.returns-clause-no_context
unfolding joint_runs zero_page
returns-clause-no_context c = refl

pub returns-clause-no_program : goal.returns-clause-no_program
unfolding joint_runs zero_page
returns-clause-no_program c = refl

pub returns-clause-other_root : goal.returns-clause-other_root
returns-clause-other_root c = other_root

pub returns-clause-after_exit : goal.returns-clause-after_exit
returns-clause-after_exit c = after_exit

pub returns-clause-flipped_bit : goal.returns-clause-flipped_bit
returns-clause-flipped_bit c = flipped_bit

pub returns-clause-nothing_flipped : goal.returns-clause-nothing_flipped
returns-clause-nothing_flipped c = nothing_flipped

pub returns-clause-smallest : goal.returns-clause-smallest
unfolding joint_runs zero_page bundle_bytes item_bytes texts
returns-clause-smallest c =
    record {
      run = refl;
      image = refl;
      again = refl;
      image_size = refl;
      record_bytes = refl;
      record_size = refl;
      pieces = refl;
      report = refl;
    }

pub returns-clause-no_step : goal.returns-clause-no_step
unfolding joint_runs zero_page item_bytes
returns-clause-no_step c = record { run = refl; record_bytes = refl }

pub returns-clause-stop_lines : goal.returns-clause-stop_lines
unfolding texts
returns-clause-stop_lines c =
    record { halt = refl; budget = refl; no_random = refl; page = refl; context = refl; mapping = refl }
