-- Where the parts of a generated image stand: this project's choice, which the texts of kernel and demo program share.
use Rattle.std.specs.Prelude.{ℕ, ◌+◌, ◌*◌, List}
use Rattle.cloak_base.specs.Constants.{ram_start}
use Rattle.cloak_base.specs.declared.names.Start.{Start}
use Rattle.guest_kernel.specs.declared.kernel_table.TheConstants.{KERNEL}
use Rattle.guest_kernel.specs.declared.demo_table.TheConstants.{DEMO}

-- the words of the kernel's text
unfoldable pub kernel_words : List ℕ
kernel_words = KERNEL

-- the words of the demo program's text
unfoldable pub demo_words : List ℕ
demo_words = DEMO

-- The kernel's words stand in frame 0, where each hart starts, and its boot table in frame 1.

abbrev pub kernel_address : ℕ
kernel_address = ram_start

abbrev pub boot_table_address : ℕ
boot_table_address = 0x80001000

-- The frame of the page of program d. A program needs 17 frames from there on: one for each of its 16 pages, and the
-- spare one that the kernel moves pages to.
abbrev pub demo_frame : ℕ → ℕ
demo_frame d = 32 + 32 * d

-- a program's one page, which its stack shares from the end on
abbrev pub demo_start : Start
demo_start = record { pages = 1; base = 0x00400000; entry = 0x00400000; sp = 0x00401000 }
