-- What stands in the body of a frozen state that has no fault.
use Rattle.std.specs.Prelude.{ℕ, zero, suc, ◌≡◌, ◌≢◌, ◌+◌, ◌==◌, not, List, [], ◌∷◌, length, take, drop, slice_index, Option, Some, None, Result, Ok, Err, if◌then◌else◌}
use Rattle.std.specs.List.{list_any}
use Rattle.cloak_base.specs.Pages.{same_page}
use Rattle.cloak_base.specs.declared.names.Meta.{Meta}
use Rattle.cloak_base.specs.declared.names.Mode.{Mode}
use Rattle.cloak_base.specs.declared.names.Mode.TheVariants.{U, S}
use Rattle.cloak_base.specs.declared.names.PageId.{PageId}
use Rattle.cloak_base.specs.declared.causes.Violation.{Violation}
use Rattle.cloak_base.specs.declared.causes.Violation.TheVariants as violation
use Rattle.cloak_model.specs.declared.image.KernelImage.{KernelImage}
use Rattle.cloak_model.specs.Fields.{number}
use Rattle.cloak_model.specs.StoreFault.{long_at}
use Rattle.frozen_state.specs.declared.fault.FrozenFault.{FrozenFault}
use Rattle.frozen_state.specs.declared.fault.FrozenFault.TheVariants.{NoMemory}
use Rattle.frozen_state.specs.declared.frozen.Frozen.{Frozen}
use Rattle.frozen_state.specs.declared.frozen.FrozenDomain.{FrozenDomain}
use Rattle.frozen_state.specs.declared.frozen.FrozenFrame.{FrozenFrame}
use Rattle.frozen_state.specs.declared.frozen.FrozenHart.{FrozenHart}
use Rattle.frozen_state.specs.declared.frozen.FrozenPage.{FrozenPage}
use Rattle.frozen_state.specs.FrozenFault.{FrozenField, any_in, byte_below, page_at, page_fields, owes_page, after_frame, after_maybe, after_violation, page_from, after_domain, regs_from, csrs_from, mark_from, after_hart, harts_from, disk_from, frames_from, count_at}

-- A function that takes memory returned this first fault, or none if there is none, unless memory ran out.
abbrev pub TellsFirst : {A : Type 0} → Result A FrozenFault → Option FrozenFault → Type 0
TellsFirst (Ok x) first = first ≡ None
TellsFirst (Err fault) first = fault ≢ NoMemory → first ≡ Some fault

-- n values, each from the offset after the one before it
unfoldable pub values : {A : Type 0} → (ℕ → A) → (ℕ → ℕ) → ℕ → ℕ → List A
values value after zero at = []
values value after (suc n) at = value at ∷ values value after n (after at)

-- the offset after a word
abbrev pub after_word : ℕ → ℕ
after_word at = at + 4

-- nothing, or a word
abbrev pub maybe_in : List ℕ → ℕ → Option ℕ
maybe_in body at = if slice_index body at == 1 then Some (number body (at + 1)) else None

abbrev pub meta_in : List ℕ → ℕ → Meta
meta_in body at = record { iv = take 16 (drop at body); digest = take 32 (drop (at + 16) body) }

-- Domains.

-- what ended domain d, if something did
unfoldable pub violation_in : List ℕ → ℕ → ℕ → Option Violation
violation_in body d at =
    if slice_index body at == 1
    then Some (violation.Page
    (record { domain = d; resource = number body (at + 1); page = number body (at + 5) })
    (record { 0 = number body (at + 9) }))
    else if slice_index body at == 2 then Some (violation.Context (number body (at + 1)))
    else if slice_index body at == 3 then Some (violation.Mapping (number body (at + 1)) (number body (at + 5)))
    else None

abbrev pub domain_in : List ℕ → ℕ → ℕ → FrozenDomain
domain_in body d at = record {
  violation = violation_in body d at;
  roots = values (maybe_in body) (after_maybe body) 8 (after_violation body at);
  meta = meta_in body (page_from body at);
  page = take 4096 (drop (page_from body at + 48) body);
}

-- n domains, of which the first is domain d
unfoldable pub domains_in : List ℕ → ℕ → ℕ → ℕ → List FrozenDomain
domains_in body d zero at = []
domains_in body d (suc n) at = domain_in body d at ∷ domains_in body (d + 1) n (after_domain body at)

-- Harts.

abbrev pub mode_in : List ℕ → ℕ → Mode
mode_in body at = if slice_index body at == 0 then U else S

abbrev pub hart_in : List ℕ → ℕ → FrozenHart
hart_in body at = record {
  mode = mode_in body at;
  pc = number body (at + 1);
  timer = number body (at + 5);
  inside = maybe_in body (at + 9);
  regs = 0 ∷ values (number body) after_word 31 (regs_from body at);
  csrs = values (number body) after_word 9 (csrs_from body at);
  mark = maybe_in body (mark_from body at);
}

-- Frames.

-- the page that a frame is owed, with its metadata
abbrev pub owed_in : List ℕ → ℕ → Option (PageId × Meta)
owed_in body at =
    if owes_page body at then Some (page_at body (at + 4097), meta_in body (at + 4097 + 12)) else None

abbrev pub frame_in : List ℕ → ℕ → FrozenFrame
frame_in body at = record { bytes = take 4096 (drop at body); owed = owed_in body at }

-- the fields of one frame, if earlier frames are owed these pages
unfoldable pub frame_fields : List ℕ → ℕ → List PageId → ℕ → List FrozenField
frame_fields body programs seen at =
    any_in body at 4096 ∷ byte_below body (at + 4096) 2
    ∷ (if owes_page body at
    then page_fields body programs (not (list_any (same_page (page_at body (at + 4097))) seen)) (at + 4097)
    else [])

-- the pages that frames are owed, with that of one more frame
abbrev pub seen_after : List ℕ → List PageId → ℕ → List PageId
seen_after body seen at = if owes_page body at then page_at body (at + 4097) ∷ seen else seen

-- Recorded pages.

abbrev pub recorded_in : List ℕ → ℕ → FrozenPage
recorded_in body at = record { page = page_at body at; meta = meta_in body (at + 12) }

abbrev pub after_recorded : ℕ → ℕ
after_recorded at = at + 60

-- The whole.

unfoldable pub frozen_in : List ℕ → KernelImage → ℕ → Frozen
frozen_in body k programs = record {
  steps = number body 8;
  draws = long_at body 12;
  refused = long_at body 52;
  domains = domains_in body 0 programs 60;
  harts = values (hart_in body) (after_hart body) k.harts (harts_from body programs);
  disk = take (length k.disk) (drop (disk_from body k programs) body);
  frames = values (frame_in body) (after_frame body) k.frames (frames_from body k programs);
  recorded = values (recorded_in body) after_recorded (number body (count_at body k programs))
      (count_at body k programs + 4);
}
