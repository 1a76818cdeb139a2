-- Which frame is owed which page.
use Rattle.std.proofs.Common.{◌≡◌, ◌∙◌, ℕ, ◌<◌, inl, inr, Bool, true, false, cond, length, Option, Some, None, refl, sym, ap, nat_lt}
use Rattle.std.specs.List.{position_or_len}
use Rattle.std.proofs.lemmas.Bool.{false≢true, ltb-true, cases_lt}
use Rattle.std.proofs.lemmas.List.{get_or_past}
use Rattle.std.proofs.lemmas.List.Sums.{passes_at_first}
use Rattle.std.proofs.lemmas.Option.{none-some, same_Some}
use Rattle.cloak_base.specs.declared.names.PageId.{PageId}
use Rattle.cloak_base.proofs.Pages.{same_page_tells}
use Rattle.cloak_model.specs.Cloaking.{CloakedMemory, owed_in, owes, owing_frame}

pub owes_page : (q : PageId) (o : Option PageId) → owes q o ≡ true → o ≡ Some q
owes_page q None is = absurd (false≢true is)
owes_page q (Some p) is = elim (same_page_tells p q) [
  | inl told ↦ ap Some told.1
  | inr told ↦ absurd (false≢true (sym told.0 ∙ is))
]

-- the frame that is found to be owed a page
pub owing_at : (m : CloakedMemory) (q : PageId) (f : ℕ) → owing_frame m q ≡ Some f → owed_in m f ≡ Some q
owing_at m q f is = by_test (nat_lt at (length m.ledger.owed)) refl is
  where
    at : ℕ
    at = position_or_len (owes q) m.ledger.owed

    by_test : (b : Bool) → nat_lt at (length m.ledger.owed) ≡ b → cond b (Some at) None ≡ Some f → owed_in m f ≡ Some q
    by_test true low found =
        let same : at ≡ f = same_Some at f found in
        ap (owed_in m) (sym same)
        ∙ owes_page q _ (passes_at_first (owes q) m.ledger.owed None (ltb-true at (length m.ledger.owed) low))
    by_test false low found = absurd (none-some f found)

-- what is owed a page has its place
pub owed_within : (m : CloakedMemory) (f : ℕ) (q : PageId) → owed_in m f ≡ Some q → f < length m.ledger.owed
owed_within m f q is = elim (cases_lt f (length m.ledger.owed)) [
  | inl h ↦ h
  | inr h ↦ absurd (none-some q (sym (get_or_past m.ledger.owed f None h) ∙ is))
]
