-- The hostile images by their numbers: this project's own. Kernels and programs are the tables of words beside the
-- texts in `src/images`; here stands what is around them.
use Rattle.std.specs.Prelude.{ℕ, ◌+◌, List, [], ◌∷◌, slice_index_or}
use Rattle.cloak_model.specs.declared.image.Segment.{Segment}
use Rattle.cloak_model.specs.declared.image.Program.{Program}
use Rattle.cloak_model.specs.declared.image.Bundle.{Bundle}
use Rattle.guest_kernel.specs.Generated.{words_segment}
use Rattle.hostile_kernels.specs.Parts.{image, guest}
use Rattle.hostile_kernels.specs.declared.shared.TheConstants.{CALLS, POINTER, KERNEL_LEAF}
use Rattle.hostile_kernels.specs.declared.images.answers_too_much.TheConstants as answers_too_much
use Rattle.hostile_kernels.specs.declared.images.changes_running_code.TheConstants as changes_running_code
use Rattle.hostile_kernels.specs.declared.images.exchanges_blocks.TheConstants as exchanges_blocks
use Rattle.hostile_kernels.specs.declared.images.flips_a_bit.TheConstants as flips_a_bit
use Rattle.hostile_kernels.specs.declared.images.forks_over_one_frame.TheConstants as forks_over_one_frame
use Rattle.hostile_kernels.specs.declared.images.gives_a_frame_on.TheConstants as gives_a_frame_on
use Rattle.hostile_kernels.specs.declared.images.interrupts_every_byte.TheConstants as interrupts_every_byte
use Rattle.hostile_kernels.specs.declared.images.lays_a_superpage.TheConstants as lays_a_superpage
use Rattle.hostile_kernels.specs.declared.images.lays_the_area_over_a_page.TheConstants as lays_the_area_over_a_page
use Rattle.hostile_kernels.specs.declared.images.maps_a_page_over_its_table.TheConstants as maps_a_page_over_its_table
use Rattle.hostile_kernels.specs.declared.images.maps_one_frame_three_times.TheConstants as maps_one_frame_three_times
use Rattle.hostile_kernels.specs.declared.images.maps_two_pages_to_one_frame.TheConstants as maps_two_pages_to_one_frame
use Rattle.hostile_kernels.specs.declared.images.passes_a_context_around.TheConstants as passes_a_context_around
use Rattle.hostile_kernels.specs.declared.images.reads_along.TheConstants as reads_along
use Rattle.hostile_kernels.specs.declared.images.reads_back_an_old_page.TheConstants as reads_back_an_old_page
use Rattle.hostile_kernels.specs.declared.images.reads_every_frame.TheConstants as reads_every_frame
use Rattle.hostile_kernels.specs.declared.images.remaps_without_a_fence.TheConstants as remaps_without_a_fence
use Rattle.hostile_kernels.specs.declared.images.resumes_under_another_table.TheConstants as resumes_under_another_table
use Rattle.hostile_kernels.specs.declared.images.resumes_what_ended.TheConstants as resumes_what_ended
use Rattle.hostile_kernels.specs.declared.images.resumes_what_never_was.TheConstants as resumes_what_never_was
use Rattle.hostile_kernels.specs.declared.images.resumes_what_runs.TheConstants as resumes_what_runs
use Rattle.hostile_kernels.specs.declared.images.sets_sum_and_mxr.TheConstants as sets_sum_and_mxr
use Rattle.hostile_kernels.specs.declared.images.shows_a_page_to_another.TheConstants as shows_a_page_to_another
use Rattle.hostile_kernels.specs.declared.images.swaps_honestly.TheConstants as swaps_honestly

-- a kernel's words at 0x80000000, and the words of its page tables, if any
abbrev pub low : List ℕ → List Segment → List Segment
low kernel tables = words_segment 0x80000000 kernel ∷ tables

-- The same with paging: the root table in frame 1 leads to the table of level 0 in frame 2, which has these words.
abbrev pub paged : List ℕ → List ℕ → List Segment
paged kernel table =
    low kernel (words_segment 0x80001004 POINTER.now ∷ words_segment 0x80001800 KERNEL_LEAF.now
    ∷ words_segment 0x80002000 table ∷ [])

-- 64 frames and one hart
abbrev pub small : List Segment → ℕ → List Program → Bundle
small segments blocks programs = image 64 1 (0 ∷ []) 0x80000000 segments blocks programs

-- 64 frames and two harts, which take turns
abbrev pub small_pair : List Segment → List Program → Bundle
small_pair segments programs = image 64 2 (0 ∷ 1 ∷ []) 0x80000000 segments 0 programs

-- A kernel at 0x80400000 with its root table in the frame after it: the entries from 512 on, and a further table.
abbrev pub large : List ℕ → List ℕ → List Segment → List Program → Bundle
large kernel root more programs =
    image 2048 1 (0 ∷ []) 0x80400000 (words_segment 0x80400000 kernel ∷ words_segment 0x80401800 root ∷ more) 0 programs

-- a program of one page in this frame, which begins at its front, with its stack 256 bytes from there
abbrev pub one_page : ℕ → ℕ → List ℕ → Program
one_page frame base words =
    guest frame (record { pages = 1; base = base; entry = base; sp = base + 0x100 }) words

-- a program of two pages, in frames 8 and 9, with its stack in the second one
abbrev pub two_pages : ℕ → List ℕ → Program
two_pages base words = guest 8 (record { pages = 2; base = base; entry = base; sp = base + 0x1100 }) words

-- 0. One bit of a cloaked page is flipped in RAM.
unfoldable pub image_0 : Bundle
image_0 = small (low flips_a_bit.KERNEL.now []) 0 (one_page 8 0x80008000 CALLS.now ∷ [])

-- 1. An older ciphertext of a page is put in its place.
unfoldable pub image_1 : Bundle
image_1 = small (low reads_back_an_old_page.KERNEL.now []) 1 (one_page 8 0x80008000 CALLS.now ∷ [])

-- 2. A page goes through the disk and comes back unchanged.
unfoldable pub image_2 : Bundle
image_2 = small (low swaps_honestly.KERNEL.now []) 1 (one_page 8 0x80008000 swaps_honestly.PROGRAM.now ∷ [])

-- 3. Two harts resume one context.
unfoldable pub image_3 : Bundle
image_3 = small_pair (low resumes_what_runs.KERNEL.now []) (one_page 8 0x80008000 CALLS.now ∷ [])

-- 4. A context is resumed under another page table than its first.
unfoldable pub image_4 : Bundle
image_4 = small (low resumes_under_another_table.KERNEL.now []) 0 (one_page 8 0x80008000 CALLS.now ∷ [])

-- 5. A context is resumed that made EXIT.
unfoldable pub image_5 : Bundle
image_5 = small (low resumes_what_ended.KERNEL.now []) 0 (one_page 8 0x80008000 resumes_what_ended.PROGRAM.now ∷ [])

-- 6. A context is resumed that there never was.
unfoldable pub image_6 : Bundle
image_6 = small (low resumes_what_never_was.KERNEL.now []) 0 (one_page 8 0x80008000 CALLS.now ∷ [])

-- 7. Two cloaked pages are mapped to one frame.
unfoldable pub image_7 : Bundle
image_7 =
    large maps_two_pages_to_one_frame.KERNEL.now maps_two_pages_to_one_frame.ROOT.now []
    (one_page 8 0x80008000 maps_two_pages_to_one_frame.PROGRAM.now ∷ [])

-- 8. A page is mapped to the frame of its own page table.
unfoldable pub image_8 : Bundle
image_8 =
    large maps_a_page_over_its_table.KERNEL.now maps_a_page_over_its_table.ROOT.now
    (words_segment 0x80402000 maps_a_page_over_its_table.TABLE.now ∷ [])
    (one_page 8 0x80008000 maps_a_page_over_its_table.PROGRAM.now ∷ [])

-- 9. The page table is changed under a context, without SFENCE.VMA.
unfoldable pub image_9 : Bundle
image_9 =
    large remaps_without_a_fence.KERNEL.now remaps_without_a_fence.ROOT.now []
    (one_page 8 0x80008000 CALLS.now ∷ [])

-- 10. A second hart reads a page while its program runs.
unfoldable pub image_10 : Bundle
image_10 = small_pair (low reads_along.KERNEL.now []) (one_page 8 0x80008000 CALLS.now ∷ [])

-- 11. More frames are read than a table of 1024 translations holds.
unfoldable pub image_11 : Bundle
image_11 = image 1280 1 (0 ∷ []) 0x80000000 (low reads_every_frame.KERNEL.now []) 0 []

-- 12. A forked child is resumed over the frame of its parent.
unfoldable pub image_12 : Bundle
image_12 =
    small (low forks_over_one_frame.KERNEL.now []) 0 (one_page 8 0x80008000 forks_over_one_frame.PROGRAM.now ∷ [])

-- 13. The area of a call is laid over a cloaked page.
unfoldable pub image_13 : Bundle
image_13 =
    small (paged lays_the_area_over_a_page.KERNEL.now lays_the_area_over_a_page.TABLE.now) 0
    (one_page 8 0x00400000 lays_the_area_over_a_page.PROGRAM.now ∷ [])

-- 14. READ is answered with more bytes than were asked for.
unfoldable pub image_14 : Bundle
image_14 =
    small (low answers_too_much.KERNEL.now (words_segment 0x80009000 answers_too_much.AREA.now ∷ [])) 0
    (one_page 8 0x80008000 answers_too_much.PROGRAM.now ∷ [])

-- 15. A program is shown the page of another one.
unfoldable pub image_15 : Bundle
image_15 =
    small (paged shows_a_page_to_another.KERNEL.now shows_a_page_to_another.TABLE.now) 0
    (one_page 8 0x00400000 CALLS.now ∷ one_page 9 0x00400000 CALLS.now ∷ [])

-- 16. A superpage is laid over all frames, and a second program reads through it.
unfoldable pub image_16 : Bundle
image_16 =
    small (low lays_a_superpage.KERNEL.now (words_segment 0x80001004 lays_a_superpage.SUPERPAGE.now
    ∷ words_segment 0x80001800 KERNEL_LEAF.now ∷ [])) 0
    (one_page 8 0x00408000 CALLS.now ∷ one_page 9 0x00409000 lays_a_superpage.READER.now ∷ [])

-- 17. The timer interrupts a program at each step, even between the bytes of a copy.
unfoldable pub image_17 : Bundle
image_17 =
    small (low interrupts_every_byte.KERNEL.now []) 0 (one_page 8 0x80008000 interrupts_every_byte.PROGRAM.now ∷ [])

-- 18. A context faults on one hart, is interrupted on the other, and goes on on the first.
unfoldable pub image_18 : Bundle
image_18 =
    small_pair (paged passes_a_context_around.KERNEL.now passes_a_context_around.TABLE.now)
    (two_pages 0x00400000 CALLS.now ∷ [])

-- 19. One frame is mapped at three addresses of a program.
unfoldable pub image_19 : Bundle
image_19 =
    small (paged maps_one_frame_three_times.KERNEL.now maps_one_frame_three_times.TABLE.now) 0
    (one_page 8 0x00400000 maps_one_frame_three_times.PROGRAM.now ∷ [])

-- 20. The pages of two programs are exchanged on the disk.
unfoldable pub image_20 : Bundle
image_20 =
    small (low exchanges_blocks.KERNEL.now []) 2
    (one_page 8 0x80008000 CALLS.now ∷ one_page 9 0x80009000 CALLS.now ∷ [])

-- 21. The kernel sets SUM and MXR, and reads a page by the program's own address.
unfoldable pub image_21 : Bundle
image_21 =
    small (paged sets_sum_and_mxr.KERNEL.now sets_sum_and_mxr.TABLE.now) 0
    (two_pages 0x00400000 sets_sum_and_mxr.PROGRAM.now ∷ [])

-- 22. A second hart changes the code of a program while it runs.
unfoldable pub image_22 : Bundle
image_22 =
    small_pair (low changes_running_code.KERNEL.now [])
    (one_page 8 0x80008000 changes_running_code.PROGRAM.now ∷ [])

-- 23. The frame of a program that ended is read, and given to another one.
unfoldable pub image_23 : Bundle
image_23 =
    small (low gives_a_frame_on.KERNEL.now []) 0 (one_page 8 0x80008000 gives_a_frame_on.LEAVER.now
    ∷ one_page 9 0x80009000 gives_a_frame_on.HEIR.now ∷ [])

-- all images, by their numbers
unfoldable pub hostile_images : List Bundle
hostile_images =
    image_0 ∷ image_1 ∷ image_2 ∷ image_3 ∷ image_4 ∷ image_5 ∷ image_6 ∷ image_7 ∷ image_8 ∷ image_9
    ∷ image_10 ∷ image_11 ∷ image_12 ∷ image_13 ∷ image_14 ∷ image_15 ∷ image_16 ∷ image_17 ∷ image_18
    ∷ image_19 ∷ image_20 ∷ image_21 ∷ image_22 ∷ image_23 ∷ []

-- the image of a number, and of one that has none that of 0
abbrev pub hostile_image : ℕ → Bundle
hostile_image i = slice_index_or hostile_images i image_0
