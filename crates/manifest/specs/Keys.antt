-- The keys of a manifest.
use Rattle.std.specs.Prelude.{ℕ, List, codes, Option}
use Rattle.toml.specs.Data.{Data, get}
use Rattle.manifest.specs.declared.key.Key.{Key}
use Rattle.manifest.specs.declared.key.Key.TheVariants.{Frames, Harts, Schedule, Entry, Segment, Disk, Program, Address, Text, Bytes, Elf, Blocks, File, Block, Pages, Place, Base, Stack, KeyNumber}

-- a key as it is written
abbrev pub key_name : Key → List ℕ
key_name Frames = codes "frames"
key_name Harts = codes "harts"
key_name Schedule = codes "schedule"
key_name Entry = codes "entry"
key_name Segment = codes "segment"
key_name Disk = codes "disk"
key_name Program = codes "program"
key_name Address = codes "address"
key_name Text = codes "text"
key_name Bytes = codes "bytes"
key_name Elf = codes "elf"
key_name Blocks = codes "blocks"
key_name File = codes "file"
key_name Block = codes "block"
key_name Pages = codes "pages"
key_name Place = codes "place"
key_name Base = codes "base"
key_name Stack = codes "stack"
key_name KeyNumber = codes "key"

-- what stands at a key of a table
abbrev pub stands_at : Key → Data → Option Data
stands_at key part = get (key_name key) part
