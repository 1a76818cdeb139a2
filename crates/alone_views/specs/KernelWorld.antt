-- The world of the memory of a kernel that runs alone.
use Rattle.std.specs.Prelude.{◌≡◌, ℕ, Bool, None, if◌then◌else◌}
use Rattle.cloak_model.specs.Memory.{Seen, stored, with_mark}
use Rattle.cloak_model.specs.World.{World, Flat}
use Rattle.alone_views.specs.declared.kernel_ram.FlatRam.{FlatRam}

-- its frames, with the reservations
abbrev pub seen_by : FlatRam → Seen
seen_by side = record { ram = side.frames.items; marks = side.reservations }

-- these are the world, whatever they were earlier
abbrev pub IsWorld : FlatRam → FlatRam → World → Type 0
IsWorld first side w = w ≡ Flat (seen_by side)

-- what an SC, which stores or does not, leaves of frames and reservations
abbrev pub after_conditional : Bool → ℕ → ℕ → ℕ → Seen → Seen
after_conditional stores hart pa value s =
    let after = if stores then stored pa 4 value s else s in
    record after { marks = with_mark hart None after.marks }
