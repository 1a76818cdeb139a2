use Rattle.std.proofs.Common.{refl}
use Rattle.worked_rows.proofs.Computing.{instructions}
use Rattle.worked_rows.proofs.images.rows_of_images.Goals as goal

pub returns : goal.returns
unfolding instructions
returns c = record {
  boot = refl;
  halt = refl;
  program = refl;
  letter = refl;
  flip = refl;
  look = refl;
  remap = refl;
  resume = refl;
  resume_third = refl;
  exit = refl;
  share = refl;
}
