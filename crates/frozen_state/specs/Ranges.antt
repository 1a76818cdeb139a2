-- Which frozen states there are of an image: the range of each field.
use Rattle.std.specs.Prelude.{ℕ, ◌≡◌, ◌<◌, ◌≤◌, ◌+◌, ◌-◌, ◌%◌, ◌^◌, ◌==◌, nat_lt, nat_le, bit_and, Bool, true, ◌&&◌, ◌||◌, List, [], ◌∷◌, length, map, slice_get, slice_index, All, AllPairs, IfSome, Option, option_map}
use Rattle.cloak_base.specs.Constants.{ram_start, ram_end}
use Rattle.cloak_base.specs.declared.causes.Violation.{Violation}
use Rattle.cloak_base.specs.declared.causes.Violation.TheVariants as violation
use Rattle.cloak_base.specs.declared.names.Meta.{Meta}
use Rattle.cloak_base.specs.declared.names.PageId.{PageId}
use Rattle.cloak_model.specs.declared.image.KernelImage.{KernelImage}
use Rattle.cloak_model.specs.Run.{most_steps}
use Rattle.frozen_state.specs.declared.frozen.Frozen.{Frozen}
use Rattle.frozen_state.specs.declared.frozen.FrozenFrame.{FrozenFrame}
use Rattle.frozen_state.specs.declared.frozen.FrozenHart.{FrozenHart}
use Rattle.frozen_state.specs.declared.frozen.FrozenPage.{FrozenPage}
use Rattle.frozen_state.specs.FrozenState.{frozen_bytes}
use Rattle.frozen_state.specs.Limits.{IsOnce}

-- Words of harts.

-- a word has no bits but these
abbrev pub has_only : ℕ → ℕ → Bool
has_only bits w = bit_and w bits == w

-- What the nine registers can hold, in their order (RISC-V privileged manual 1.12, 4.1): of sstatus SIE, SPIE, SPP, SUM
-- and MXR; of sie and sip the bit of the timer; stvec and sepc are multiples of 4.
abbrev pub kept_bits : List ℕ
kept_bits =
    (2 ^ 1 + 2 ^ 5 + 2 ^ 8 + 2 ^ 18 + 2 ^ 19) ∷ (2 ^ 5) ∷ (2 ^ 32 - 4) ∷ (2 ^ 32 - 1) ∷ (2 ^ 32 - 4) ∷ (2 ^ 32 - 1)
    ∷ (2 ^ 32 - 1) ∷ (2 ^ 5) ∷ (2 ^ 32 - 1) ∷ []

-- an address of a word in RAM
abbrev pub is_word_in_ram : ℕ → ℕ → Bool
is_word_in_ram frames pa = (pa % 4 == 0) && (nat_le ram_start pa && nat_lt pa (ram_end frames))

pub record IsFrozenHart (frames : ℕ) (h : FrozenHart) : Type 0 where
  pub aligned : h.pc % 4 ≡ 0
  pub csrs : (i : ℕ) → i < 9 → has_only (slice_index kept_bits i) (slice_index h.csrs i) ≡ true
  pub mark : IfSome h.mark (λ pa. is_word_in_ram frames pa ≡ true)

-- Pages.

-- a page that one of this many domains can have
pub record IsPage (programs : ℕ) (q : PageId) : Type 0 where
  pub domain : q.domain < programs
  pub resource : q.resource < 16
  pub page : q.page < 1024

-- a violation that stands with a domain names a page of that domain, if it names one
abbrev pub IsViolationOf : ℕ → ℕ → Violation → Type 0
IsViolationOf frames d (violation.Page page frame) = (page.domain ≡ d) × (page.resource < 16) × (page.page < 1024) × (frame.0 < frames)
IsViolationOf frames d (violation.Context ctx) = Unit {0}
IsViolationOf frames d (violation.Mapping ctx root) = Unit {0}

-- the page that a frame is owed
abbrev pub owed_page : FrozenFrame → Option PageId
owed_page f = option_map (λ (owed : PageId × Meta). owed.0) f.owed

-- p stands before q, by domain, resource and page
abbrev pub precedes : PageId → PageId → Bool
precedes p q =
    nat_lt p.domain q.domain
    || ((p.domain == q.domain)
    && (nat_lt p.resource q.resource || ((p.resource == q.resource) && nat_lt p.page q.page)))

abbrev pub Rises : FrozenPage → FrozenPage → Type 0
Rises p q = precedes p.page q.page ≡ true

-- The whole, of an image with this kernel and this many programs.
pub record IsInRange (k : KernelImage) (programs : ℕ) (f : Frozen) : Type 0 where
  pub steps : f.steps ≤ most_steps
  pub draws : f.draws < 2 ^ 60
  pub refused : f.refused ≤ f.steps
  pub domains : length f.domains ≡ programs
  pub violations : (d : ℕ) → IfSome (slice_get f.domains d) (λ domain. IfSome domain.violation (IsViolationOf k.frames d))
  pub hart_count : length f.harts ≡ k.harts
  pub harts : All (IsFrozenHart k.frames) f.harts
  pub disk : length f.disk ≡ length k.disk
  pub frames : length f.frames ≡ k.frames
  pub owed : All (λ (frame : FrozenFrame). IfSome (owed_page frame) (IsPage programs)) f.frames
  pub owed_once : IsOnce (map owed_page f.frames)
  pub recorded : All (λ (p : FrozenPage). IsPage programs p.page) f.recorded
  pub rising : AllPairs Rises f.recorded

-- These bytes are the file of this state, with this digest of the image's file.
pub record IsFrozen (k : KernelImage) (programs : ℕ) (bundle bytes : List ℕ) (f : Frozen) : Type 0 where
  pub spelled : frozen_bytes f bundle ≡ bytes
  pub in_range : IsInRange k programs f
