-- The reservations of the contexts of a program, by their slots.
use Rattle.std.proofs.Common.{◌≡◌, ◌∙◌, ◌⊎◌, inl, inr, ℕ, zero, suc, Bool, true, false, cond, List, [], ◌∷◌, map, slice_set, Option, Some, None, refl, sym, ap}
use Rattle.cloak_model.specs.declared.context.PageWord.{PageWord}
use Rattle.cloak_model.specs.Contexts.{Context, context_at, same_word, is_reserved, unless_reserved}

abbrev pub mark_of : Option Context → Option PageWord
mark_of None = None
mark_of (Some c) = c.mark

abbrev pub mark_at : List (Option Context) → ℕ → Option PageWord
mark_at contexts k = mark_of (context_at contexts k)

-- each reservation was there before
abbrev pub NoMore : List (Option Context) → List (Option Context) → Type 0
NoMore contexts contexts' =
    (k : ℕ) (word : PageWord) → mark_at contexts' k ≡ Some word → mark_at contexts k ≡ Some word

-- each was there before, or is this one, of a slot
abbrev pub OneMore : ℕ → Option PageWord → List (Option Context) → List (Option Context) → Type 0
OneMore slot mark contexts contexts' =
    (k : ℕ) (word : PageWord) → mark_at contexts' k ≡ Some word →
    ((k ≡ slot) × (mark ≡ Some word)) ⊎ (mark_at contexts k ≡ Some word)

pub set_one : (contexts : List (Option Context)) (slot : ℕ) (o : Option Context) →
    OneMore slot (mark_of o) contexts (slice_set contexts slot o)
set_one [] slot o k word is = inr is
set_one (x ∷ contexts) zero o zero word is = inl (refl, is)
set_one (x ∷ contexts) zero o (suc k) word is = inr is
set_one (x ∷ contexts) (suc slot) o zero word is = inr is
set_one (x ∷ contexts) (suc slot) o (suc k) word is = elim (set_one contexts slot o k word is) [
  | inl here ↦ inl (ap (λ (n : ℕ). suc n) here.0, here.1)
  | inr there ↦ inr there
]

none_some : (o : Option PageWord) (word : PageWord) → o ≡ None → o ≡ Some word → ⊥
none_some o word none some = cc

-- a slot without a reservation
pub set_none : (contexts : List (Option Context)) (slot : ℕ) (o : Option Context) → mark_of o ≡ None →
    NoMore contexts (slice_set contexts slot o)
set_none contexts slot o none k word is = elim (set_one contexts slot o k word is) [
  | inl here ↦ absurd (none_some (mark_of o) word none here.1)
  | inr there ↦ there
]

-- a slot whose context has the reservation that it had
pub set_same : (contexts : List (Option Context)) (slot : ℕ) (c k : Context) → context_at contexts slot ≡ Some c →
    k.mark ≡ c.mark → NoMore contexts (slice_set contexts slot (Some k))
set_same contexts slot c k there same n word is = elim (set_one contexts slot (Some k) n word is) [
  | inl here ↦ ap (mark_at contexts) here.0 ∙ ap mark_of there ∙ sym same ∙ here.1
  | inr before ↦ before
]

pub then_one : (slot : ℕ) (mark : Option PageWord) (xs ys zs : List (Option Context)) → NoMore xs ys →
    OneMore slot mark ys zs → OneMore slot mark xs zs
then_one slot mark xs ys zs none one k word is = elim (one k word is) [
  | inl here ↦ inl here
  | inr there ↦ inr (none k word there)
]

pub none_one : (slot : ℕ) (mark : Option PageWord) (xs ys : List (Option Context)) → NoMore xs ys →
    OneMore slot mark xs ys
none_one slot mark xs ys none k word is = inr (none k word is)

-- A word was written in.

pub record Unwritten (place word : PageWord) (mark : Option PageWord) : Type 0 where
  pub was : mark ≡ Some word
  pub other : same_word word place ≡ false

cond_unwritten : (place word : PageWord) (c : Context) (t : Bool) → is_reserved place c.mark ≡ t →
    mark_of (Some (cond t (record c { mark = None }) c)) ≡ Some word → Unwritten place word c.mark
cond_unwritten place word c true test is = absurd cc
cond_unwritten place word c false test is =
    record { was = is; other = ap (is_reserved place) (sym is) ∙ test }

one_unwritten : (place word : PageWord) (o : Option Context) → mark_of (unless_reserved place o) ≡ Some word →
    Unwritten place word (mark_of o)
one_unwritten place word None is = absurd cc
one_unwritten place word (Some c) is = cond_unwritten place word c (is_reserved place c.mark) refl is

-- a reservation that is left is of another word
pub left_unwritten : (place word : PageWord) (contexts : List (Option Context)) (k : ℕ) →
    mark_at (map (unless_reserved place) contexts) k ≡ Some word → Unwritten place word (mark_at contexts k)
left_unwritten place word [] k is = absurd cc
left_unwritten place word (x ∷ contexts) zero is = one_unwritten place word x is
left_unwritten place word (x ∷ contexts) (suc k) is = left_unwritten place word contexts k is
