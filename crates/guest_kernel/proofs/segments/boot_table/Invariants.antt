use Rattle.std.proofs.Common.{◌≡◌, ◌∷◌}
use Rattle.std.specs.Prelude.{map}
use Rattle.std.specs.List.{flat_map}
use Rattle.cloak_model.specs.Bits.{word}
use Rattle.cloak_model.specs.Opening.{numbers_below}
use Rattle.guest_kernel.specs.Layout.{demo_frame}
use Rattle.guest_kernel.specs.Drawing.{hart_count, program_count}
use Rattle.guest_kernel.proofs.segments.boot_table.Given as goal

-- the table up to the frame of the last program so far
abbrev pub invariant-loop-program : goal.invariant-loop-program
invariant-loop-program l =
    l.out.items
    ≡ flat_map word (hart_count l.fn.n ∷ program_count l.fn.n ∷ map demo_frame (numbers_below l.program))
