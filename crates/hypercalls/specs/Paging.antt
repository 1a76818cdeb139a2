-- What is read of a page.
use Rattle.std.specs.Prelude.{ℕ, ◌≡◌, Bool, false, List}
use Rattle.cloak_model.specs.DomainState.{Control}
use Rattle.frozen_state.specs.DomainPage.{IsPageOf}

-- This is the one program with this number and this page, up to what is told of its end beside the page.
pub record IsReadAs (number : ℕ) (ended : Bool) (bytes : List ℕ) (control : Control) : Type 0 where
  pub page : IsPageOf number bytes (record control { ended = false })
  pub told : control.ended ≡ ended
  pub one : (d : Control) → IsPageOf number bytes d → control ≡ record d { ended = ended }
