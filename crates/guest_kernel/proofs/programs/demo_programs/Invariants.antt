use Rattle.std.proofs.Common.{◌≡◌}
use Rattle.std.specs.Prelude.{map}
use Rattle.cloak_model.specs.Opening.{numbers_below}
use Rattle.guest_kernel.specs.Drawing.{rounds_of}
use Rattle.guest_kernel.specs.Generated.{demo_program}
use Rattle.guest_kernel.proofs.programs.demo_programs.Given as goal

-- the programs so far
abbrev pub invariant-loop-program : goal.invariant-loop-program
invariant-loop-program l = l.out.items ≡ map (λ d. demo_program d (rounds_of l.fn.n d)) (numbers_below l.program)
