-- A program without its pages as one page of bytes, and which programs such a page can be (this project's rules): the
-- bytes of its state, then the reservation of each slot, then zeros.
use Rattle.std.specs.Prelude.{ℕ, ◌≡◌, ◌-◌, false, List, [], ◌∷◌, ◌++◌, length, replicate, Option, Some, None}
use Rattle.std.specs.List.{flat_map, AllByRecursion}
use Rattle.cloak_model.specs.Bits.{word}
use Rattle.cloak_model.specs.declared.context.PageWord.{PageWord}
use Rattle.cloak_model.specs.Contexts.{Context}
use Rattle.cloak_model.specs.DomainState.{Control, state_bytes}
use Rattle.frozen_state.specs.Limits.{KeepsLimits}
use Rattle.frozen_state.specs.Words.{HasSlotWords, AreFileWords}

-- The page.

-- nothing, or the place of a reserved word
abbrev pub mark_bytes : Option PageWord → List ℕ
mark_bytes None = 0 ∷ []
mark_bytes (Some place) = 1 ∷ (word place.resource ++ (word place.page ++ word place.at))

-- a free slot has no reservation
abbrev pub slot_mark_bytes : Option Context → List ℕ
slot_mark_bytes None = mark_bytes None
slot_mark_bytes (Some c) = mark_bytes c.mark

abbrev pub state_string : Control → List ℕ
state_string d = state_bytes d ++ flat_map slot_mark_bytes d.contexts

-- At most 3480 bytes, and zeros up to 4096. It does not tell the program's number, nor whether it has ended.
unfoldable pub domain_page : Control → List ℕ
domain_page d = let s = state_string d in s ++ replicate (4096 - length s) 0

-- Programs.

-- a program that a run can have, by its number and by its own limits
pub record IsProgram (number : ℕ) (d : Control) : Type 0 where
  pub numbered : d.number ≡ number
  pub limits : KeepsLimits d
  pub words : AllByRecursion HasSlotWords d.contexts
  pub file_words : AreFileWords d.resources

-- These bytes are the domain page of this program, which goes on. A program that has ended has the page of one without
-- contexts, spaces and resources: that it has ended is told by its violation, which stands beside the page.
pub record IsPageOf (number : ℕ) (bytes : List ℕ) (d : Control) : Type 0 where
  pub program : IsProgram number d
  pub goes_on : d.ended ≡ false
  pub spelled : domain_page d ≡ bytes
