-- The first fault of a file that is no frozen state of an image. The tests stand in their order.
use Rattle.std.specs.Prelude.{ℕ, zero, suc, ◌+◌, ◌*◌, ◌%◌, ◌^◌, ◌==◌, not, ◌&&◌, Bool, true, List, [], ◌∷◌, ◌++◌, length, take, drop, slice_index, Option, Some, None, nat_lt, nat_le, if◌then◌else◌}
use Rattle.std.specs.List.{list_any}
use Rattle.std.specs.Str.{bytes_eq}
use Rattle.sha2.specs.Sha256.{sha256}
use Rattle.cloak_base.specs.Pages.{same_page}
use Rattle.cloak_base.specs.declared.names.PageId.{PageId}
use Rattle.cloak_model.specs.declared.image.KernelImage.{KernelImage}
use Rattle.cloak_model.specs.Fields as grammar
use Rattle.cloak_model.specs.Fields.{first_of, first_in, number, parts, after_parts}
use Rattle.cloak_model.specs.Run.{most_steps}
use Rattle.cloak_model.specs.StoreFault.{long_at, body_of, code_of}
use Rattle.frozen_state.specs.declared.fault.FrozenFault.{FrozenFault}
use Rattle.frozen_state.specs.declared.fault.FrozenFault.TheVariants.{Short, BadMagic, Digest, OtherBundle, Form}
use Rattle.frozen_state.specs.FrozenState.{frozen_magic}
use Rattle.frozen_state.specs.Ranges.{has_only, kept_bits, is_word_in_ram, precedes}

abbrev pub FrozenField : Type 0
FrozenField = grammar.Field FrozenFault

-- A field that is not whole is named by the first byte that is missing; one whose value breaks its rule, by its offset.

abbrev pub any_in : List ℕ → ℕ → ℕ → FrozenField
any_in body at size = grammar.free at size (Form (length body))

abbrev pub ruled_in : List ℕ → ℕ → ℕ → Bool → FrozenField
ruled_in body at size right = grammar.ruled at size (Form (length body)) right (Form at)

abbrev pub byte_below : List ℕ → ℕ → ℕ → FrozenField
byte_below body at limit = ruled_in body at 1 (nat_lt (slice_index body at) limit)

abbrev pub word_below : List ℕ → ℕ → ℕ → FrozenField
word_below body at limit = ruled_in body at 4 (nat_lt (number body at) limit)

-- steps, draws, the digest of the image, refused resumings
abbrev pub header : List ℕ → List FrozenField
header body =
    ruled_in body 8 4 (nat_le (number body 8) most_steps)
    ∷ ruled_in body 12 8 (nat_lt (long_at body 12) (2 ^ 60))
    ∷ any_in body 20 32
    ∷ ruled_in body 52 8 (nat_le (long_at body 52) (number body 8))
    ∷ []

-- nothing, or a word
abbrev pub maybe_fields : List ℕ → ℕ → List FrozenField
maybe_fields body at =
    byte_below body at 2 ∷ (if slice_index body at == 1 then any_in body (at + 1) 4 ∷ [] else [])

abbrev pub after_maybe : List ℕ → ℕ → ℕ
after_maybe body at = at + (if slice_index body at == 1 then 5 else 1)

-- A domain: its violation, its page tables, its page.

unfoldable pub violation_fields : List ℕ → ℕ → ℕ → List FrozenField
violation_fields body frames at =
    byte_below body at 4
    ∷ (if slice_index body at == 1
    then word_below body (at + 1) 16 ∷ word_below body (at + 5) 1024 ∷ word_below body (at + 9) frames ∷ [] else
    if slice_index body at == 2 then any_in body (at + 1) 4 ∷ [] else
    if slice_index body at == 3 then any_in body (at + 1) 4 ∷ any_in body (at + 5) 4 ∷ [] else [])

abbrev pub after_violation : List ℕ → ℕ → ℕ
after_violation body at =
    at
    + (if slice_index body at == 1 then 13 else if slice_index body at == 2 then 5 else
    if slice_index body at == 3 then 9 else 1)

abbrev pub roots_from : List ℕ → ℕ → ℕ
roots_from body at = after_violation body at

-- the vector of the page, with the digest and the page after it
abbrev pub page_from : List ℕ → ℕ → ℕ
page_from body at = after_parts (after_maybe body) 8 (roots_from body at)

abbrev pub domain_fields : List ℕ → ℕ → ℕ → List FrozenField
domain_fields body frames at =
    violation_fields body frames at
    ++ (parts (maybe_fields body) (after_maybe body) 8 (roots_from body at)
    ++ any_in body (page_from body at) 16 ∷ any_in body (page_from body at + 16) 32
    ∷ any_in body (page_from body at + 48) 4096 ∷ [])

abbrev pub after_domain : List ℕ → ℕ → ℕ
after_domain body at = page_from body at + 4144

-- A hart.

unfoldable pub csr_fields : List ℕ → List ℕ → ℕ → List FrozenField
csr_fields body [] at = []
csr_fields body (bits ∷ more) at = ruled_in body at 4 (has_only bits (number body at)) ∷ csr_fields body more (at + 4)

abbrev pub mark_fields : List ℕ → ℕ → ℕ → List FrozenField
mark_fields body frames at =
    byte_below body at 2
    ∷ (if slice_index body at == 1 then ruled_in body (at + 1) 4 (is_word_in_ram frames (number body (at + 1))) ∷ []
    else [])

-- where the registers, the control and status registers and the reservation begin
abbrev pub regs_from : List ℕ → ℕ → ℕ
regs_from body at = after_maybe body (at + 9)

abbrev pub csrs_from : List ℕ → ℕ → ℕ
csrs_from body at = regs_from body at + 124

abbrev pub mark_from : List ℕ → ℕ → ℕ
mark_from body at = csrs_from body at + 36

abbrev pub hart_fields : List ℕ → ℕ → ℕ → List FrozenField
hart_fields body frames at =
    byte_below body at 2
    ∷ ruled_in body (at + 1) 4 (number body (at + 1) % 4 == 0)
    ∷ any_in body (at + 5) 4
    ∷ (maybe_fields body (at + 9)
    ++ (parts (λ at. any_in body at 4 ∷ []) (λ at. at + 4) 31 (regs_from body at)
    ++ (csr_fields body kept_bits (csrs_from body at) ++ mark_fields body frames (mark_from body at))))

abbrev pub after_hart : List ℕ → ℕ → ℕ
after_hart body at = after_maybe body (mark_from body at)

-- Pages.

-- the page whose numbers stand at an offset
abbrev pub page_at : List ℕ → ℕ → PageId
page_at body at = record { domain = number body at; resource = number body (at + 4); page = number body (at + 8) }

-- Domain, resource and page, each below its limit, and then a rule of the whole, which is named by the domain field: an
-- empty field after them. Then vector and digest.
abbrev pub page_fields : List ℕ → ℕ → Bool → ℕ → List FrozenField
page_fields body programs right at =
    word_below body at programs ∷ word_below body (at + 4) 16 ∷ word_below body (at + 8) 1024
    ∷ grammar.ruled (at + 12) 0 (Form (length body)) right (Form at)
    ∷ any_in body (at + 12) 16 ∷ any_in body (at + 28) 32 ∷ []

-- Frames: 4096 bytes, and the page that is owed, which no earlier frame is owed.

abbrev pub owes_page : List ℕ → ℕ → Bool
owes_page body at = slice_index body (at + 4096) == 1

abbrev pub after_frame : List ℕ → ℕ → ℕ
after_frame body at = at + (if owes_page body at then 4157 else 4097)

-- n frames from an offset on; those before are owed these pages
unfoldable pub frames_fields : List ℕ → ℕ → ℕ → List PageId → ℕ → List FrozenField
frames_fields body programs zero seen at = []
frames_fields body programs (suc n) seen at =
    let q = page_at body (at + 4097) in
    any_in body at 4096 ∷ byte_below body (at + 4096) 2
    ∷ (if owes_page body at
    then page_fields body programs (not (list_any (same_page q) seen)) (at + 4097) ++ frames_fields body programs n (q ∷ seen) (after_frame body at)
    else frames_fields body programs n seen (after_frame body at))

-- Recorded pages, rising.

abbrev pub rises : Option PageId → PageId → Bool
rises None q = true
rises (Some p) q = precedes p q

unfoldable pub recorded_fields : List ℕ → ℕ → ℕ → Option PageId → ℕ → List FrozenField
recorded_fields body programs zero before at = []
recorded_fields body programs (suc n) before at =
    let q = page_at body at in
    page_fields body programs (rises before q) at ++ recorded_fields body programs n (Some q) (at + 60)

-- The whole, for a kernel image and a count of programs.

abbrev pub harts_from : List ℕ → ℕ → ℕ
harts_from body programs = after_parts (after_domain body) programs 60

abbrev pub disk_from : List ℕ → KernelImage → ℕ → ℕ
disk_from body k programs = after_parts (after_hart body) k.harts (harts_from body programs)

abbrev pub frames_from : List ℕ → KernelImage → ℕ → ℕ
frames_from body k programs = disk_from body k programs + length k.disk

abbrev pub count_at : List ℕ → KernelImage → ℕ → ℕ
count_at body k programs = after_parts (after_frame body) k.frames (frames_from body k programs)

abbrev pub fields_end : List ℕ → KernelImage → ℕ → ℕ
fields_end body k programs =
    count_at body k programs + 4 + 60 * number body (count_at body k programs)

abbrev pub frozen_fields : List ℕ → KernelImage → ℕ → List FrozenField
frozen_fields body k programs =
    let count = count_at body k programs in
    header body
    ++ (parts (domain_fields body k.frames) (after_domain body) programs 60
    ++ (parts (hart_fields body k.frames) (after_hart body) k.harts (harts_from body programs)
    ++ (any_in body (disk_from body k programs) (length k.disk)
    ∷ (frames_fields body programs k.frames [] (frames_from body k programs)
    ++ (any_in body count 4 ∷ recorded_fields body programs (number body count) None (count + 4))))))

unfoldable pub form_fault : List ℕ → KernelImage → ℕ → Option FrozenFault
form_fault body k programs =
    first_of (first_in body (frozen_fields body k programs))
    (let end = fields_end body k programs in if end == length body then None else Some (Form end))

-- the digest of the image is another one, and stands there whole
abbrev pub is_other_bundle : List ℕ → List ℕ → Bool
is_other_bundle body bundle = nat_le 52 (length body) && not (bytes_eq (take 32 (drop 20 body)) bundle)

-- The tests in their order.
unfoldable pub frozen_fault : List ℕ → KernelImage → ℕ → List ℕ → Option FrozenFault
frozen_fault bundle k programs file =
    if nat_lt (length file) 40 then Some (Short (length file)) else
    if not (bytes_eq (take 8 file) frozen_magic) then Some BadMagic else
    if not (bytes_eq (code_of file) (sha256 (body_of file))) then Some Digest else
    if is_other_bundle (body_of file) bundle then Some OtherBundle else
    form_fault (body_of file) k programs
