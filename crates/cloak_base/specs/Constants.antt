-- The fixed numbers of the machine, and the frames of RAM by their addresses.
use Rattle.std.specs.Prelude.{ℕ, ◌+◌, ◌-◌, ◌*◌, ◌/◌, ◌%◌, nat_lt, nat_le, Bool, ◌&&◌}

-- where RAM begins
abbrev pub ram_start : ℕ
ram_start = 0x80000000

-- where RAM of this many frames ends
abbrev pub ram_end : ℕ → ℕ
ram_end frames = ram_start + 4096 * frames

-- the frame of an address
abbrev pub frame_of : ℕ → ℕ
frame_of pa = (pa - ram_start) / 4096

-- the place of an address in its frame
abbrev pub place_of : ℕ → ℕ
place_of pa = (pa - ram_start) % 4096

-- the address lies in RAM of this many frames
abbrev pub is_in_frames : ℕ → ℕ → Bool
is_in_frames frames pa = nat_le ram_start pa && nat_lt (frame_of pa) frames

-- where a hart that runs a context waits
abbrev pub trampoline : ℕ
trampoline = 0x00001000

-- the largest file of an image, in bytes
abbrev pub largest_bundle : ℕ
largest_bundle = 67108864
