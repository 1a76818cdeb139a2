-- Where the pages of programs lie as a run begins.
use Rattle.std.specs.Prelude.{ℕ, ◌+◌, nat_le, nat_lt, Bool, true, false, ◌&&◌, List, [], ◌∷◌, if◌then◌else◌}
use Rattle.cloak_model.specs.declared.image.Program.{Program}
use Rattle.joint_machine.specs.declared.placings.Placing.{Placing}

-- where a program is placed
abbrev pub placing : Program → Placing
placing p = record { place = p.place; pages = p.start.pages }

-- a page of one of the programs that are placed so lies in the frame
abbrev pub covers : List Placing → ℕ → Bool
covers [] f = false
covers (p ∷ placings) f =
    if nat_le p.place f && nat_lt f (p.place + p.pages) then true else covers placings f
