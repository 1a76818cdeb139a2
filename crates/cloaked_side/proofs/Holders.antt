-- What frames hold after calls on their pager.
use Rattle.std.proofs.Common.{◌≡◌, ℕ, Option, None, Some, List, slice_index_or, inl, inr, refl, ap, sym, ◌∙◌}
use Rattle.std.proofs.Common.{subst}
use Rattle.cloak_base.specs.declared.names.PageId.{PageId}
use Rattle.cloak_pager.specs.State.{PagerState, page_of, owed_under, right_at, held_in, owed_at}
use Rattle.cloak_pager.specs.Turns.{StaysBut}
use Rattle.cloak_pager.specs.declared.frame_right.FrameRight.{FrameRight}
use Rattle.cloak_pager.specs.declared.frame_right.FrameRight.TheVariants.{Spent}
use Rattle.cloak_pager.proofs.Pages.{same_or_not}
use Rattle.cloak_pager.proofs.Stands.{owed_held}
use Rattle.cloaked_side.specs.Holding.{HoldsNoMore}

pub no_more_self : (p : PagerState) → HoldsNoMore p p
no_more_self p = record { held = λ k q e. e; owed = λ k q e. e }

pub no_more_then : (a b c : PagerState) → HoldsNoMore a b → HoldsNoMore b c → HoldsNoMore a c
no_more_then a b c first second = record {
  held = λ k q e. first.held k q (second.held k q e);
  owed = λ k q e. first.owed k q (second.owed k q e);
}

-- all rights stayed
pub no_more_rights : (old new : PagerState) → new.rights ≡ old.rights → HoldsNoMore old new
no_more_rights old new same = record {
  held = λ k q e. sym (ap (λ (rs : List FrameRight). page_of (slice_index_or rs k Spent)) same) ∙ e;
  owed = λ k q e. sym (ap (λ (rs : List FrameRight). owed_under (slice_index_or rs k Spent)) same) ∙ e;
}

never : (o : Option PageId) (q : PageId) → o ≡ None → o ≡ Some q → ⊥
never o q none some = let e : None ≡ Some q = sym none ∙ some in cc

-- a frame was brought outside
pub no_more_emptied : (f : ℕ) (old new : PagerState) → StaysBut f old new → held_in new f ≡ None → HoldsNoMore old new
no_more_emptied f old new stays none = record { held = held; owed = owed }
  where
    held : (k : ℕ) (q : PageId) → held_in new k ≡ Some q → held_in old k ≡ Some q
    held k q e = elim (same_or_not k f) [
      | inl same ↦ absurd (never (held_in new f) q none (subst (λ (n : ℕ). held_in new n ≡ Some q) same e))
      | inr other ↦ sym (ap page_of (stays.rights k other)) ∙ e
    ]

    owed : (k : ℕ) (q : PageId) → owed_at new k ≡ Some q → owed_at old k ≡ Some q
    owed k q e = elim (same_or_not k f) [
      | inl same ↦ absurd (never (held_in new f) q none
          (owed_held (right_at new f) q (subst (λ (n : ℕ). owed_at new n ≡ Some q) same e)))
      | inr other ↦ sym (ap owed_under (stays.rights k other)) ∙ e
    ]

-- a frame that held no page holds none
pub none_still : (old new : PagerState) (f : ℕ) → HoldsNoMore old new → held_in old f ≡ None → held_in new f ≡ None
none_still old new f less none = by_held (held_in new f) refl
  where
    by_held : (o : Option PageId) → held_in new f ≡ o → o ≡ None
    by_held None is = refl
    by_held (Some q) is = absurd (never (held_in old f) q none (less.held f q is))
