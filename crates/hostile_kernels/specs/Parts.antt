-- What an image is made of: words.
use Rattle.std.specs.Prelude.{ℕ, ◌-◌, ◌*◌, List, ◌++◌, length, map, take, replicate}
use Rattle.std.specs.List.{flat_map}
use Rattle.cloak_base.specs.declared.names.Start.{Start}
use Rattle.cloak_model.specs.Bits.{word}
use Rattle.cloak_model.specs.declared.image.Segment.{Segment}
use Rattle.cloak_model.specs.declared.image.KernelImage.{KernelImage}
use Rattle.cloak_model.specs.declared.image.Program.{Program}
use Rattle.cloak_model.specs.declared.image.Bundle.{Bundle}
use Rattle.guest_kernel.specs.Generated.{words_segment}
use Rattle.hostile_kernels.specs.declared.draft.StandingWords.{StandingWords}
use Rattle.hostile_kernels.specs.declared.draft.Guest.{Guest}
use Rattle.hostile_kernels.specs.declared.draft.Draft.{Draft}

-- bytes filled up with zeros to a length
abbrev pub filled : ℕ → List ℕ → List ℕ
filled size bytes = take size bytes ++ replicate (size - length bytes) 0

-- a program under key 0 with these words at the front of its pages, the first of which is in this frame
unfoldable pub guest : ℕ → Start → List ℕ → Program
guest frame start words =
    record { place = frame; start = start; key = 0; bytes = filled (4096 * start.pages) (flat_map word words) }

-- frames, harts, schedule, entry, segments, blocks of a disk of zeros, programs
unfoldable pub image : ℕ → ℕ → List ℕ → ℕ → List Segment → ℕ → List Program → Bundle
image frames harts schedule entry segments blocks programs =
    let k : KernelImage = record {
      frames = frames;
      harts = harts;
      schedule = schedule;
      entry = entry;
      segments = segments;
      disk = replicate (4096 * blocks) 0;
    } in
    record { kernel = k; programs = programs }

-- The parts of a draft.

abbrev pub segment_of : StandingWords → Segment
segment_of s = words_segment s.address s.words.now

abbrev pub guest_of : Guest → Program
guest_of g = guest g.place g.start g.words.now

abbrev pub image_of : Draft → Bundle
image_of d =
    image d.frames d.harts d.schedule.now d.entry (map segment_of d.segments.now) d.blocks (map guest_of d.programs.now)
