-- The lines at the end of reading.
use Rattle.std.proofs.Common.{◌≡◌, ℕ, List, Option, Some, None, Result, refl}
use Rattle.cloak_base.specs.declared.causes.Failed.{Failed}
use Rattle.io_traits.specs.Told.{Puts}
use Rattle.cloak_model.specs.Items.{Item}
use Rattle.read_back.specs.Reading.{FitsAs}
use Rattle.read_back.specs.Text.{fault_line, lines_or_fault}
use Rattle.read_back.specs.declared.ending.Ending.{Ending}
use Rattle.read_back.specs.declared.ending.Ending.TheVariants as ending

-- if reading did not reach the end of a record
pub fault_lines : (old new : Option (List ℕ)) (m n : ℕ) (lines : List ℕ) (e : Ending) (r : Result Unit Failed) →
    (e ≡ ending.Whole → ⊥) → Puts old new m n (fault_line e) r → Puts old new m n (lines_or_fault lines e) r
fault_lines old new m n lines ending.Whole r not puts = absurd (not refl)
fault_lines old new m n lines _ r not puts = puts

-- and if it did, no item was unfit
pub fits_whole : (unfit : List Item → Option ℕ) (items : List Item) (e : Ending) → FitsAs unfit items (Some e) →
    e ≡ ending.Whole → unfit items ≡ None
fits_whole unfit items (ending.Unfit step) fits is = absurd (let clash : ending.Unfit step ≡ ending.Whole = is in cc)
fits_whole unfit items _ fits is = fits
