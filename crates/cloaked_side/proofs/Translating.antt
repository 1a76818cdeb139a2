-- The known translations go on agreeing through the calls on a pager.
use Rattle.std.proofs.Common.{◌≡◌, ◌≢◌, ◌∙◌, false, inl, inr, ℕ, Bool, List, slice_index_or, Option, Some, None, refl, sym, ap, subst}
use Rattle.std.proofs.lemmas.Option.{none-some}
use Rattle.cloak_base.specs.Random.{Random}
use Rattle.cloak_base.specs.declared.names.Frame.{Frame}
use Rattle.cloak_base.specs.declared.names.PageId.{PageId}
use Rattle.cloak_model.specs.Cloaking.{CloakedMemory, AfterSettling, settle, offer}
use Rattle.cloak_pager.specs.State.{PagerState, page_of, owed_under, right_at, held_in}
use Rattle.cloak_pager.specs.Relation.{StandsForMemory}
use Rattle.cloak_pager.specs.Turns.{StaysBut, IsReadOnce, touched_by}
use Rattle.cloak_pager.specs.declared.frame_right.FrameRight.{FrameRight}
use Rattle.cloak_pager.specs.declared.frame_right.FrameRight.TheVariants.{Outside, Clean, Changed, Spent}
use Rattle.cloak_pager.specs.declared.touching.Touched.TheVariants.{Quiet, Resealed, Sealed, Wiped}
use Rattle.cloak_pager.proofs.Pages.{same_or_not}
use Rattle.cloak_pager.proofs.Stands.{owed_by_right}
use Rattle.shadow_fold.specs.Agreement.{EntryAgrees}
use Rattle.shadow_fold.specs.Keeping.{Agrees}
use Rattle.shadow_fold.proofs.Agreeing.{keeps_ending}
use Rattle.shadow_fold.specs.declared.entry.Entry.{Entry}
use Rattle.shadow_fold.specs.Entries.{is_target, is_table}
use Rattle.shadow_fold.specs.Table.{Table, ending, killed}
use Rattle.shadow_law.specs.Agreeing.{present, frame}
use Rattle.shadow_law.proofs.Changes.{change_keeps}
use Rattle.shadow_law.proofs.Tables.{touch_agrees, held_agrees, grant_agrees, refuse_agrees}
use Rattle.cloaked_side.specs.Holding.{Holds}
use Rattle.cloaked_side.specs.declared.memory.Memory.{Memory}
use Rattle.cloaked_side.proofs.Presents.{pager_owes, pager_shows}
use Rattle.cloak_model.proofs.Settling.{settle_unowed}

-- frames hold what their rights say
pub held_by_rights : (old new : PagerState) → new.rights ≡ old.rights → held_in new ≡ held_in old
held_by_rights old new same =
    let by_rights : List FrameRight → ℕ → Option PageId = λ rights f. page_of (slice_index_or rights f Spent) in
    ap by_rights same

-- the same frames hold the same pages
pub agrees_held : (held held' : ℕ → Option PageId) (m : CloakedMemory) (t : Table) → held' ≡ held
    → Agrees (present held m) t → Agrees (present held' m) t
agrees_held held held' m t same = subst (λ (h : ℕ → Option PageId). Agrees (present h m) t) (sym same)

pub agrees_rights : (old new : PagerState) (m : CloakedMemory) (t : Table) → new.rights ≡ old.rights
    → Agrees (present (held_in old) m) t → Agrees (present (held_in new) m) t
agrees_rights old new m t same = agrees_held (held_in old) (held_in new) m t (held_by_rights old new same)

pub agrees_read : (old new : PagerState) (m : CloakedMemory) (t : Table) → IsReadOnce old new
    → Agrees (present (held_in old) m) t → Agrees (present (held_in new) m) t
agrees_read old new m t read = agrees_rights old new m t (ap (λ (p : PagerState). p.rights) read)

other_held : (f : ℕ) (old new : PagerState) → StaysBut f old new → (x : ℕ) → x ≢ f → held_in new x ≡ held_in old x
other_held f old new stays x other = ap page_of (stays.rights x other)

-- entries that end leave room for as many frames
pub ending_frames : (ends : Entry → Bool) (t : Table) → (ending ends t).frames ≡ t.frames
unfolding ending
ending_frames ends t = refl

pub killed_frames : (f : Frame) (t : Table) → (killed f t).frames ≡ t.frames
killed_frames f t = ending_frames (is_table f) (ending (is_target f) t) ∙ ending_frames (is_target f) t

-- all frames hold what they held
held_all : (f : ℕ) (old new : PagerState) → StaysBut f old new → held_in new f ≡ held_in old f → held_in new ≡ held_in old
held_all f old new stays here = λ i x. every x i
  where
    every : (x : ℕ) → held_in new x ≡ held_in old x
    every x = elim (same_or_not x f) [
      | inl same ↦ subst (λ (n : ℕ). held_in new n ≡ held_in old n) (sym same) here
      | inr other ↦ other_held f old new stays x other
    ]

-- a touch that did nothing found the frame outside
pub quiet_held : (h : FrameRight) (draw : Option (List ℕ × Random)) → Quiet ≡ touched_by h draw → (page_of h ≡ None) × (owed_under h ≡ None)
quiet_held (Outside r) draw is = (refl, refl)
quiet_held (Clean r) draw is = absurd (let no : Quiet ≡ Resealed = is in cc)
quiet_held (Changed r) (Some d) is = absurd (let no : Quiet ≡ Sealed = is in cc)
quiet_held (Changed r) None is = absurd (let no : Quiet ≡ Wiped = is in cc)
quiet_held Spent draw is = (refl, refl)

pub quiet_agrees : (old new : PagerState) (w : PageId → Bool) (m : CloakedMemory) (f : ℕ) (draw : Option (List ℕ × Random)) (t : Table)
    → StandsForMemory old w m → Quiet ≡ touched_by (right_at old f) draw → StaysBut f old new → held_in new f ≡ None
    → Agrees (present (held_in old) m) t → Agrees (present (held_in new) (settle f m).memory) t
quiet_agrees old new w m f draw t stands quiet stays outside agrees =
    let was = quiet_held (right_at old f) draw quiet in
    subst (λ (n : CloakedMemory). Agrees (present (held_in new) n) t)
    (sym (ap (λ (s : AfterSettling). s.memory) (settle_unowed f m (owed_by_right old w m stands f ∙ was.1))))
    (agrees_held (held_in old) (held_in new) m t (held_all f old new stays (outside ∙ sym was.0)) agrees)

pub touched_agrees : (old new : PagerState) (m : CloakedMemory) (f : ℕ) (t : Table) → StaysBut f old new
    → Agrees (present (held_in old) m) t → Agrees (present (held_in new) (settle f m).memory) (killed (frame f) t)
touched_agrees old new m f t stays = touch_agrees (held_in old) (held_in new) m f t (other_held f old new stays)

-- a frame was settled, and its entries ended
pub settled_agrees : (old new : PagerState) (m : CloakedMemory) (f : Frame) (t u : Table) → StaysBut f.0 old new → u ≡ killed f t
    → Agrees (present (held_in old) m) t → Agrees (present (held_in new) (settle f.0 m).memory) u
settled_agrees old new m f t u stays ended agrees =
    subst (λ (v : Table). Agrees (present (held_in new) (settle f.0 m).memory) v) (sym ended)
    (touched_agrees old new m f.0 t stays agrees)

pub ended_frames : (f : Frame) (t u : Table) → u ≡ killed f t → u.frames ≡ t.frames
ended_frames f t u ended = ap (λ (v : Table). v.frames) ended ∙ killed_frames f t

-- and read then
pub read_agrees : (old new : PagerState) (m : CloakedMemory) (t u : Table) → IsReadOnce old new → u ≡ t
    → Agrees (present (held_in old) m) t → Agrees (present (held_in new) m) u
read_agrees old new m t u read same agrees =
    subst (λ (v : Table). Agrees (present (held_in new) m) v) (sym same) (agrees_read old new m t read agrees)

-- An offer for which there is room. The frame held the page already:
pub offered_again : (old new : PagerState) (w : PageId → Bool) (m : CloakedMemory) (q : PageId) (g : ℕ) (write : Bool) (t : Table)
    → StandsForMemory old w m → StaysBut g old new → held_in old g ≡ Some q → held_in new g ≡ Some q
    → Agrees (present (held_in old) m) t → Agrees (present (held_in new) (offer q g write m).memory) t
offered_again old new w m q g write t stands stays was is agrees =
    agrees_held (held_in old) (held_in new) (offer q g write m).memory t (held_all g old new stays (is ∙ sym was))
    (held_agrees change_keeps (held_in old) m q g write t (pager_owes old w m stands) (pager_shows old w m stands) was agrees)

-- the frame came to hold the page:
pub offered_new : (old new : PagerState) (w : PageId → Bool) (m : CloakedMemory) (q : PageId) (g : ℕ) (write : Bool) (t : Table)
    → StandsForMemory old w m → StaysBut g old new → ((x : ℕ) → held_in old x ≡ Some q → x ≡ g)
    → Agrees (present (held_in old) m) t → Agrees (present (held_in new) (offer q g write m).memory) (killed (frame g) t)
offered_new old new w m q g write t stands stays alone =
    grant_agrees (held_in old) (held_in new) m q g write t (pager_owes old w m stands) alone (other_held g old new stays)

-- it did not, and is outside:
pub offered_vain : (old new : PagerState) (w : PageId → Bool) (m : CloakedMemory) (q : PageId) (g : ℕ) (write : Bool) (t : Table)
    → StandsForMemory old w m → new ≡ old → ((x : ℕ) → held_in old x ≡ Some q → x ≡ g) → held_in old g ≡ None
    → false ≡ (offer q g write m).granted
    → Agrees (present (held_in old) m) t → Agrees (present (held_in new) (offer q g write m).memory) t
offered_vain old new w m q g write t stands same alone outside ends agrees =
    subst (λ (p : PagerState). Agrees (present (held_in p) (offer q g write m).memory) t) (sym same)
    (refuse_agrees (held_in old) m q g write t (pager_owes old w m stands) nowhere outside (sym ends) agrees)
  where
    nowhere : (x : ℕ) → held_in old x ≢ Some q
    nowhere x is = none-some q (sym outside ∙ subst (λ (n : ℕ). held_in old n ≡ Some q) (alone x is) is)

-- entries of a space ended: the memory stands for what it stood for
pub ended_holds : (old new : Memory) (ends : Entry → Bool) → new ≡ record old { shadows = ending ends old.shadows }
    → (m : CloakedMemory) → Holds old m → Holds new m
ended_holds old new ends is m h = subst (λ (x : Memory). Holds x m) (sym is) (record {
  wiped = h.wiped;
  pager = h.pager;
  whole = h.whole;
  stream = h.stream;
  draws = h.draws;
  missed = h.missed;
  agrees = keeps_ending (EntryAgrees (present (held_in old.pager) m)) (EntryAgrees (present (held_in old.pager) m)) ends old.shadows
      (λ e stays agrees. agrees) h.agrees;
  room = ending_frames ends old.shadows ∙ h.room;
  marks = h.marks;
})
