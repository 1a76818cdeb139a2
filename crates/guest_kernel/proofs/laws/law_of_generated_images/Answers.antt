use Rattle.guest_kernel.proofs.Images.{generated_in, generated_fits, length-generated}
use Rattle.guest_kernel.proofs.laws.law_of_generated_images.Goals as goal

pub returns-clause-in_grammar : goal.returns-clause-in_grammar
returns-clause-in_grammar c = generated_in

pub returns-clause-length : goal.returns-clause-length
returns-clause-length c = length-generated

pub returns-clause-fits : goal.returns-clause-fits
returns-clause-fits c = generated_fits
