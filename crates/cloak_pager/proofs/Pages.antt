-- Maps with another value at one page, and the page of zeros.
use Rattle.std.proofs.Common.{◌≡◌, ◌≢◌, ◌⊎◌, ◌<◌, ℕ, Bool, Option, None, Some, ap, sym, inl, inr, arith, if◌then◌else◌}
use Rattle.std.proofs.lemmas.List.{length-replicate}
use Rattle.std.proofs.lemmas.List.Elements.{All-replicate}
use Rattle.std.proofs.lemmas.Bool.Decides.{eqb_tells}
use Rattle.cloak_base.specs.declared.names.PageId.{PageId}
use Rattle.aes_block.specs.Bytes.{IsBytes}
use Rattle.cloak_base.specs.Pages.{zero_page, with_page}
use Rattle.cloak_base.proofs.Pages.{same_page_tells, same_page-self, same_page-other}

-- two numbers are equal or differ
pub same_or_not : (a b : ℕ) → (a ≡ b) ⊎ (a ≢ b)
same_or_not a b = elim (eqb_tells a b) [ inl h ↦ inl h.1 | inr h ↦ inr h.1 ]

-- a map at the page that was changed
pub with_page-same : {A : Type 0} (m : PageId → A) (q : PageId) (v : A) → with_page m q v q ≡ v
with_page-same m q v = ap (λ (b : Bool). if b then v else m q) (same_page-self q)

-- and at another page
pub with_page-other : {A : Type 0} (m : PageId → A) (q : PageId) (v : A) (o : PageId) → o ≢ q → with_page m q v o ≡ m o
with_page-other m q v o n = ap (λ (b : Bool). if b then v else m o) (same_page-other o q n)

-- a page is this one, if there is one, or not
pub is_or_not : (q : Option PageId) (o : PageId) → (q ≡ Some o) ⊎ (q ≢ Some o)
is_or_not None o = inr (λ e. cc)
is_or_not (Some q) o =
    elim (same_page_tells o q) [ inl h ↦ inl (ap (λ (x : PageId). Some x) (sym h.1)) | inr h ↦ inr (λ e. h.1 (cc)) ]

-- a page of zeros is a page
pub IsBytes-zero_page : IsBytes 4096 zero_page
unfolding zero_page
IsBytes-zero_page = record {
  long = length-replicate {A = ℕ} 4096 0;
  bytes = All-replicate (λ x. x < 256) 4096 0 (omega arith);
}
