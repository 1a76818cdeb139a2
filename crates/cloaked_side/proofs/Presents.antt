-- What a pager that stands for a memory tells of the frames that hold pages.
use Rattle.std.proofs.Common.{◌≡◌, ◌∙◌, ◌<◌, ℕ, Bool, inl, inr, [], Some, None, length, sym, ap, subst}
use Rattle.std.specs.Prelude.{slice_index_or}
use Rattle.std.proofs.lemmas.Bool.{cases_lt}
use Rattle.std.proofs.lemmas.List.{get_or_past}
use Rattle.std.proofs.lemmas.Option.{none-some, same_Some}
use Rattle.cloak_base.specs.declared.names.PageId.{PageId}
use Rattle.cloak_model.specs.Cloaking.{CloakedMemory, owed_in}
use Rattle.cloak_pager.specs.State.{PagerState, page_of, owed_under, right_at, held_in}
use Rattle.cloak_pager.specs.Relation.{StandsForMemory, FrameStands}
use Rattle.cloak_pager.specs.declared.frame_right.FrameRight.{FrameRight}
use Rattle.cloak_pager.specs.declared.frame_right.FrameRight.TheVariants.{Outside, Clean, Changed, Spent}
use Rattle.cloak_pager.proofs.Stands.{owed_held, owed_by_right}
use Rattle.shadow_law.specs.Agreeing.{OwedIsHeld, CleanIsShown}

pub pager_owes : (p : PagerState) (wiped : PageId → Bool) (m : CloakedMemory) → StandsForMemory p wiped m → OwedIsHeld (held_in p) m
pager_owes p wiped m s f q is = owed_held (right_at p f) q (sym (owed_by_right p wiped m s f) ∙ is)

-- a frame that holds a page is one of the pager's
held_within : (p : PagerState) (f : ℕ) (q : PageId) → length p.rights ≡ length p.frames → held_in p f ≡ Some q → f < length p.frames
held_within p f q count is = elim (cases_lt f (length p.rights)) [
  | inl h ↦ subst (λ n. f < n) count h
  | inr h ↦ absurd (none-some q (ap page_of (sym (get_or_past p.rights f Spent h)) ∙ is))
]

shown_by : (p : PagerState) (wiped : PageId → Bool) (m : CloakedMemory) (f : ℕ) (q : PageId) (h : FrameRight) → FrameStands p wiped m f h
    → page_of h ≡ Some q → owed_under h ≡ None → m.ledger.recorded q ≡ Some (slice_index_or m.ram f [])
shown_by p wiped m f q (Outside r) stands is clean = absurd (none-some q is)
shown_by p wiped m f q (Clean r) stands is clean = ap m.ledger.recorded (sym (same_Some r.page q is)) ∙ stands.shown
shown_by p wiped m f q (Changed r) stands is clean = absurd (none-some r.page (sym clean))
shown_by p wiped m f q Spent stands is clean = absurd (none-some q is)

pub pager_shows : (p : PagerState) (wiped : PageId → Bool) (m : CloakedMemory) → StandsForMemory p wiped m → CleanIsShown (held_in p) m
pager_shows p wiped m s = record {
  shown = λ f q held clean. shown_by p wiped m f q (right_at p f) (s.frames f (held_within p f q s.whole.count held)) held
      (sym (owed_by_right p wiped m s f) ∙ clean);
  newest = λ f g q held clean owed.
      let same : f ≡ g = s.whole.one_home f g q held (pager_owes p wiped m s g q owed) in
      none-some q (sym clean ∙ ap (owed_in m) same ∙ owed);
}
