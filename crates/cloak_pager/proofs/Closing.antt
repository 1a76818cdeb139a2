-- Closing frame after frame.
use Rattle.std.proofs.Common.{◌≡◌, ◌≢◌, ◌<◌, ◌≤◌, ◌+◌, ℕ, Bool, List, [], length, refl, ap, sym, ◌∙◌, subst, arith, inl}
use Rattle.std.proofs.Common.{inr}
use Rattle.std.proofs.lemmas.List.{get_or-set_same, length-set, get_or_past}
use Rattle.std.proofs.lemmas.Bool.{cases_lt}
use Rattle.cloak_base.specs.declared.names.PageId.{PageId}
use Rattle.cloak_model.specs.Chain.{cbc}
use Rattle.cloak_model.specs.Cloaking.{CloakedMemory}
use Rattle.protect_meta.specs.Table.{meta_at, domains_of}
use Rattle.cloak_pager.specs.State.{PagerState, IsWholePager, key_for, Names, right_at, bytes_in, page_of}
use Rattle.cloak_pager.specs.Turns.{frame_numbered, StaysBut, CloseTurns, IsClosed, ShowsClosed}
use Rattle.cloak_pager.specs.Relation.{StandsForMemory}
use Rattle.cloak_pager.specs.declared.frame_right.FrameRight.{FrameRight}
use Rattle.cloak_pager.specs.declared.frame_right.FrameRight.TheVariants.{Outside, Clean, Changed, Spent}
use Rattle.cloak_pager.proofs.Pages.{same_or_not}
use Rattle.cloak_pager.proofs.Turned.{outside_is}
use Rattle.cloak_pager.proofs.Touches.{stands_resealed, whole_resealed}
use Rattle.cloak_pager.proofs.Behind.{stays_same, turned_stays}

-- the frames below this one are closed, the others are as they were
pub record ClosedBelow (old now : PagerState) (i : ℕ) : Type 0 where
  pub count : length now.frames ≡ length old.frames
  pub places : length now.rights ≡ length old.rights
  pub outside : (k : ℕ) → k < i → right_at now k ≡ Outside (frame_numbered k)
  pub bytes : (k : ℕ) → k < i → ShowsClosed old k (right_at old k) (bytes_in now k)
  pub right_later : (k : ℕ) → i ≤ k → right_at now k ≡ right_at old k
  pub bytes_later : (k : ℕ) → i ≤ k → bytes_in now k ≡ bytes_in old k
  pub metas_stay : (o : PageId) → meta_at now.table o ≡ meta_at old.table o
  pub domains_stay : domains_of now.table ≡ domains_of old.table
  pub keys_stay : now.keys ≡ old.keys
  pub reads_stay : now.reads ≡ old.reads

pub closed_start : (p : PagerState) → ClosedBelow p p 0
closed_start p = record {
  count = refl;
  places = refl;
  outside = λ k h. absurd (omega arith);
  bytes = λ k h. absurd (omega arith);
  right_later = λ k h. refl;
  bytes_later = λ k h. refl;
  metas_stay = λ o. refl;
  domains_stay = refl;
  keys_stay = refl;
  reads_stay = refl;
}

pub closed_end : (old new : PagerState) (i : ℕ) → IsWholePager old → ClosedBelow old new i → length old.frames ≤ i →
    IsClosed old new
closed_end old new i w c all = record {
  count = c.count;
  outside = λ k h. c.outside k (omega arith);
  empty = λ k.
      elim (cases_lt k (length old.frames)) [
        | inl h ↦ ap page_of (c.outside k (omega arith))
        | inr h ↦ ap page_of (get_or_past new.rights k Spent (rw (c.places, w.count) h))
      ];
  bytes = λ k h. c.bytes k (omega arith);
  metas_stay = c.metas_stay;
  domains_stay = c.domains_stay;
  keys_stay = c.keys_stay;
  reads_stay = c.reads_stay;
}

-- one frame more went outside, and all else stayed
record ClosesFrame (old now next : PagerState) (i : ℕ) : Type 0 where
  stays : StaysBut i now next
  places : length next.rights ≡ length now.rights
  outside : right_at next i ≡ Outside (frame_numbered i)
  bytes : ShowsClosed old i (right_at old i) (bytes_in next i)
  metas : (o : PageId) → meta_at next.table o ≡ meta_at now.table o
  reads : next.reads ≡ now.reads

closed_with : (old now next : PagerState) (i : ℕ) → ClosedBelow old now i → ClosesFrame old now next i →
    ClosedBelow old next (i + 1)
closed_with old now next i c x = record {
  count = x.stays.count ∙ c.count;
  places = x.places ∙ c.places;
  outside = λ k h.
      elim (same_or_not k i) [
        | inl e ↦ subst (λ (x : ℕ). right_at next x ≡ Outside (frame_numbered x)) (sym e) x.outside
        | inr n ↦ x.stays.rights k n ∙ c.outside k (omega arith)
      ];
  bytes = λ k h.
      elim (same_or_not k i) [
        | inl e ↦ subst (λ (x : ℕ). ShowsClosed old x (right_at old x) (bytes_in next x)) (sym e) x.bytes
        | inr n ↦
            let B : List ℕ → Type 0 = λ x. ShowsClosed old k (right_at old k) x in
            subst B (sym (x.stays.bytes k n)) (c.bytes k (omega arith))
      ];
  right_later = λ k h. let n : k ≢ i = omega arith in x.stays.rights k n ∙ c.right_later k (omega arith);
  bytes_later = λ k h. let n : k ≢ i = omega arith in x.stays.bytes k n ∙ c.bytes_later k (omega arith);
  metas_stay = λ o. x.metas o ∙ c.metas_stay o;
  domains_stay = x.stays.domains ∙ c.domains_stay;
  keys_stay = x.stays.keys ∙ c.keys_stay;
  reads_stay = x.reads ∙ c.reads_stay;
}

pub closed_more : (old now next : PagerState) (i : ℕ) → IsWholePager old → ClosedBelow old now i →
    i < length old.frames → CloseTurns (right_at now i) now next i → ClosedBelow old next (i + 1)
closed_more old now next i w c inside turns =
    let T : FrameRight → Type 0 = λ h. CloseTurns h now next i in
    by_right (right_at old i) refl (w.named i inside) (subst T (c.right_later i (omega arith)) turns)
  where
    by_right : (h : FrameRight) → right_at old i ≡ h → Names old.table i h → CloseTurns h now next i →
        ClosedBelow old next (i + 1)
    by_right (Outside r) at named turns =
        let N : PagerState → Type 0 = λ x. ClosedBelow old x (i + 1) in
        let B : FrameRight → Type 0 = λ h. ShowsClosed old i h (bytes_in now i) in
        subst N (sym turns) (closed_with old now now i c (record {
          stays = stays_same i now now refl;
          places = refl;
          outside = c.right_later i (omega arith) ∙ (at ∙ outside_is r i named);
          bytes = subst B (sym at) (c.bytes_later i (omega arith));
          metas = λ o. refl;
          reads = refl;
        }))
    by_right (Clean r) at named turns =
        let t = turns.2 in
        let sealed : List ℕ = cbc (key_for now r.page) turns.0.iv (bytes_in now i) in
        let within : i < length now.frames = rw c.count inside in
        let within' : i < length now.rights = rw (c.places, w.count) inside in
        let B : FrameRight → Type 0 = λ h. ShowsClosed old i h (bytes_in next i) in
        let shows : bytes_in next i ≡ sealed = rw t.frames_are (get_or-set_same now.frames i sealed [] within) in
        let shown : ShowsClosed old i (Clean r) (bytes_in next i) =
        (turns.0, sym (c.metas_stay r.page) ∙ turns.1, shows ∙ rw (c.keys_stay, c.bytes_later i (omega arith)) refl) in
        closed_with old now next i c (record {
          stays = turned_stays i now next sealed _ _ t;
          places = rw (t.rights_are, length-set) refl;
          outside = rw t.rights_are (get_or-set_same now.rights i (Outside (frame_numbered i)) Spent within');
          bytes = subst B (sym at) shown;
          metas = t.metas_are;
          reads = t.reads_stay;
        })
    by_right (Changed r) at named turns = absurd turns
    by_right Spent at named turns = absurd turns

-- Closing a frame changes no memory that the pager stands for.
pub closing_stands : (p p' : PagerState) (f : ℕ) → f < length p.frames → CloseTurns (right_at p f) p p' f →
    (w : PageId → Bool) (m : CloakedMemory) → StandsForMemory p w m → StandsForMemory p' w m
closing_stands p p' f inside turns w m s = by_right (right_at p f) refl turns
  where
    by_right : (h : FrameRight) → right_at p f ≡ h → CloseTurns h p p' f → StandsForMemory p' w m
    by_right (Outside r) at turns = (let S : PagerState → Type 0 = λ x. StandsForMemory x w m in subst S (sym turns) s)
    by_right (Clean r) at turns =
        stands_resealed p p' w m f r s (whole_resealed p p' f r s.whole inside at turns) inside at turns
    by_right (Changed r) at turns = absurd turns
    by_right Spent at turns = absurd turns
