-- Reading what was written.
use Rattle.std.specs.Prelude.{ℕ, ◌≡◌, ◌≤◌, ◌%◌, ◌==◌, false, List, ◌++◌, length, drop, map, All, Option, Some, None, IfSome, option_map, if◌then◌else◌}
use Rattle.std.specs.List.{flat_map}
use Rattle.cloak_base.specs.Registers.{register}
use Rattle.cloak_base.specs.declared.names.HartId.{HartId}
use Rattle.cloak_model.specs.declared.context.Phase.{Phase}
use Rattle.cloak_model.specs.declared.context.Phase.TheVariants.{Plain, CopyIn, Waiting, CopyOut}
use Rattle.cloak_model.specs.declared.context.PageWord.{PageWord}
use Rattle.cloak_model.specs.declared.resource.Owner.{Owner}
use Rattle.cloak_model.specs.declared.resource.Owner.TheVariants.{Space, File}
use Rattle.cloak_model.specs.declared.resource.Resource.{Resource}
use Rattle.cloak_model.specs.declared.resource.Region.{Region}
use Rattle.cloak_model.specs.Bits.{word}
use Rattle.cloak_model.specs.Contexts.{Context}
use Rattle.cloak_model.specs.DomainState.{Control}
use Rattle.cloak_model.specs.Record.{IsWord}
use Rattle.cloak_model.specs.Resources.{Resources}
use Rattle.frozen_state.specs.DomainPage.{IsPageOf}
use Rattle.frozen_state.specs.Words.{AreWords}
use Rattle.domain_page.specs.Writing.{HasHart}

-- If the bytes begin with what spells a right value, this value is the answer, or what is kept of it, and the bytes after
-- it are left.
abbrev pub ReadsSpelled : {A B : Type 0} → (A → List ℕ) → (A → Type 0) → (A → B) → List ℕ → List ℕ → B → Type 0
ReadsSpelled {A} spell IsRight kept old new given =
    (x : A) (rest : List ℕ) → IsRight x → old ≡ spell x ++ rest → (given ≡ kept x) × (new ≡ rest)

abbrev pub all : {A : Type 0} → A → A
all x = x

-- The phase of these three numbers, of any.
abbrev pub phase_in : ℕ → ℕ → ℕ → Phase
phase_in number done total =
    if number == 0 then Plain else (if number == 1 then CopyIn done else (if number == 2 then Waiting else CopyOut done total))

-- The hart of a byte.
abbrev pub hart_in : ℕ → Option HartId
hart_in byte = if byte == 255 then None else Some (record { 0 = byte })

-- The owner of these two numbers, of any.
abbrev pub owner_in : ℕ → ℕ → Owner
owner_in tag number = if tag == 1 then Space number else File number

-- Values whose numbers are words.

abbrev pub HasPhaseWords : Phase → Type 0
HasPhaseWords Plain = Unit {0}
HasPhaseWords (CopyIn done) = IsWord done
HasPhaseWords Waiting = Unit {0}
HasPhaseWords (CopyOut done total) = IsWord done × IsWord total

pub record AreRegs (regs : List ℕ) : Type 0 where
  pub count : length regs ≡ 32
  pub zero_register : register regs 0 ≡ 0
  pub words : AreWords regs

abbrev pub regs_bytes : List ℕ → List ℕ
regs_bytes regs = flat_map word (drop 1 regs)

pub record HasFieldWords (word : PageWord) : Type 0 where
  pub resource : IsWord word.resource
  pub page : IsWord word.page
  pub at : IsWord word.at

abbrev pub HasMarkWords : Option PageWord → Type 0
HasMarkWords mark = IfSome mark HasFieldWords

pub record IsReadable (c : Context) : Type 0 where
  pub hart : HasHart c.on
  pub phase : HasPhaseWords c.phase
  pub space : IsWord c.space
  pub pc : IsWord c.pc
  pub aligned : c.pc % 4 ≡ 0
  pub regs : AreRegs c.regs
  pub mark : HasMarkWords c.mark

abbrev pub IsReadableSlot : Option Context → Type 0
IsReadableSlot slot = IfSome slot IsReadable

-- a slot before its reservation is read
abbrev pub unmarked : Option Context → Option Context
unmarked slot = option_map (λ (c : Context). record c { mark = None }) slot

pub record AreEight {A : Type 0} (IsRight : A → Type 0) (xs : List A) : Type 0 where
  pub count : length xs ≡ 8
  pub each : All IsRight xs

-- slots of which all but the reservations was read
pub record AreUnmarked (slots xs : List (Option Context)) : Type 0 where
  pub right : AreEight IsReadableSlot xs
  pub are : slots ≡ map unmarked xs

pub record HasRegionWords (g : Region) : Type 0 where
  pub start : IsWord g.start
  pub pages : IsWord g.pages
  pub resource : IsWord g.resource
  pub first : IsWord g.first

pub record AreRegions (count : ℕ) (regions : List Region) : Type 0 where
  pub counted : length regions ≡ count
  pub few : length regions ≤ 16
  pub each : All HasRegionWords regions

abbrev pub IsReadableSpace : Option (List Region) → Type 0
IsReadableSpace space = IfSome space (λ regions. AreRegions (length regions) regions)

abbrev pub HasOwnerNumber : Owner → Type 0
HasOwnerNumber (Space number) = IsWord number
HasOwnerNumber (File number) = IsWord number

pub record HasResourceWords (held : Resource) : Type 0 where
  pub owner : HasOwnerNumber held.owner
  pub pages : IsWord held.pages

abbrev pub IsReadableNumber : Option Resource → Type 0
IsReadableNumber held = IfSome held HasResourceWords

pub record AreSixteen {A : Type 0} (IsRight : A → Type 0) (xs : List A) : Type 0 where
  pub count : length xs ≡ 16
  pub each : All IsRight xs

-- What is returned of a page.

abbrev pub program_of : ℕ → List (Option Context) → Resources → Control
program_of number contexts resources =
    record { number = number; contexts = contexts; resources = resources; ended = false }

-- Contexts and resources are those of the one program that has this page, whatever its number is.
pub record IsRead (bytes : List ℕ) (contexts : List (Option Context)) (resources : Resources) : Type 0 where
  pub page : (number : ℕ) → IsPageOf number bytes (program_of number contexts resources)
  pub one : (number : ℕ) (d : Control) → IsPageOf number bytes d → d ≡ program_of number contexts resources

-- No program has this page.
abbrev pub IsNoPage : List ℕ → Type 0
IsNoPage bytes = (number : ℕ) (d : Control) → IsPageOf number bytes d → ⊥
