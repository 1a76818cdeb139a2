-- The end of a domain's pages, over plain variables.
use Rattle.std.proofs.Common.{◌≡◌, ◌≢◌, ◌<◌, ◌≤◌, ◌+◌, ℕ, zero, suc, List, [], ◌∷◌, ◌++◌, Some, None, length}
use Rattle.std.proofs.Common.{refl, ap, sym, ◌∙◌, subst, inl, inr, arith}
use Rattle.std.proofs.lemmas.Bool.{cases_lt}
use Rattle.cloak_base.specs.declared.names.PageId.{PageId}
use Rattle.cloak_base.proofs.Pages.{is_of_tells}
use Rattle.cloak_model.specs.AskPages.{settled_if_marked, ask_forget}
use Rattle.cloak_model.specs.Asking.{FollowsFrom, Told}
use Rattle.cloak_model.specs.Ending.{all_marked, settled_for, ask_end}
use Rattle.cloak_model.specs.Exchange.{Piece, Emits, item_pieces}
use Rattle.cloak_model.specs.Fork.{forget_each}
use Rattle.cloak_model.specs.Opening.{numbers_below}
use Rattle.cloak_model.specs.World.{World, items_of, ram_of}
use Rattle.cloak_model.specs.Script.{played}
use Rattle.protect_meta.specs.Table.{MetaRow}
use Rattle.cloak_pager.specs.State.{PagerState, IsWholePager, IsNoneHeld, Names, held_in, page_of, right_at}
use Rattle.cloak_pager.specs.declared.frame_right.FrameRight.{FrameRight}
use Rattle.cloak_pager.specs.declared.frame_right.FrameRight.TheVariants.{Outside, Clean, Changed, Spent}
use Rattle.cloak_pager.proofs.Pages.{same_or_not}
use Rattle.cloak_pager.proofs.Writes.{held_within}
use Rattle.cloaked_side.specs.Ending.{EndsPages}
use Rattle.cloaked_side.specs.Holding.{HoldsNoMore, SameSize, frames_of}
use Rattle.cloaked_side.specs.Seeing.{Sees}
use Rattle.cloaked_side.specs.Telling.{HoldsWorld}
use Rattle.cloaked_side.specs.declared.memory.Memory.{Memory}
use Rattle.cloaked_side.specs.declared.side.Side.{Side}
use Rattle.cloaked_side.proofs.Cleared.{none_held_still}
use Rattle.cloaked_side.proofs.Sided.{count_of}
use Rattle.cloaked_side.proofs.Telling.{emits_world, holds_world}

-- Settling.

settled_last : (d f n : ℕ) (w : World) →
    settled_for d f (suc n) w ≡ settled_if_marked d all_marked (f + n) (settled_for d f n w)
unfolding settled_for
settled_last d f zero w = let here : f ≡ f + 0 = omega arith in ap (λ (k : ℕ). settled_if_marked d all_marked k w) here
settled_last d f (suc n) w =
    let v = settled_if_marked d all_marked f w in
    let here : f + 1 + n ≡ f + suc n = omega arith in
    settled_last d (f + 1) n v ∙ ap (λ (k : ℕ). settled_if_marked d all_marked k (settled_for d (f + 1) n v)) here

pub settled_none : (d : ℕ) (w : World) → w ≡ settled_for d 0 0 w
unfolding settled_for
settled_none d w = refl

-- one frame more is settled
pub settled_next : (d n : ℕ) (w : World) → settled_if_marked d all_marked n (settled_for d 0 n w) ≡ settled_for d 0 (n + 1) w
settled_next d n w =
    let here : n ≡ 0 + n = omega arith in
    let one : suc n ≡ n + 1 = omega arith in
    ap (λ (k : ℕ). settled_if_marked d all_marked k (settled_for d 0 n w)) here ∙ sym (settled_last d 0 n w)
    ∙ ap (λ (k : ℕ). settled_for d 0 k w) one

-- Forgetting.

forgets_last : (d : ℕ) (xs : List ℕ) (n : ℕ) (w : World) →
    played (forget_each d (xs ++ n ∷ [])) w ≡ ask_forget d n (played (forget_each d xs) w).world
unfolding forget_each
forgets_last d [] n w = refl
forgets_last d (x ∷ xs) n w = forgets_last d xs n (ask_forget d x w).world

-- no resource is forgotten
pub forgets_none : {E : Type 0} (gave : E → E → List Piece → Type 0) (first now : Side E) (d : ℕ) (w : World) →
    Sees gave first now w → FollowsFrom (Sees gave first) now (tt {0}) (played (forget_each d (numbers_below 0)) w)
unfolding forget_each
forgets_none gave first now d w sees = record { answer = refl; stands = sees }

-- one resource more is forgotten
pub forgets_next : {E : Type 0} (gave : E → E → List Piece → Type 0) (first new : Side E) (d n : ℕ) (w : World) →
    FollowsFrom (Sees gave first) new (tt {0}) (ask_forget d n (played (forget_each d (numbers_below n)) w).world) →
    FollowsFrom (Sees gave first) new (tt {0}) (played (forget_each d (numbers_below (n + 1))) w)
forgets_next gave first new d n w told =
    let one : suc n ≡ n + 1 = omega arith in
    subst (λ (k : ℕ). FollowsFrom (Sees gave first) new (tt {0}) (played (forget_each d (numbers_below k)) w)) one
    (subst (λ (t : Told (Unit {0})). FollowsFrom (Sees gave first) new (tt {0}) t) (sym (forgets_last d (numbers_below n) n w)) told)

-- no frame holds a page of one resource more
pub held_next : (d n : ℕ) (p p' : PagerState) → HoldsNoMore p p' → ((r : ℕ) → r < n → IsNoneHeld p d r) →
    IsNoneHeld p' d n → (r : ℕ) → r < n + 1 → IsNoneHeld p' d r
held_next d n p p' less before here r low = elim (same_or_not r n) [
  | inl same ↦ subst (λ (k : ℕ). IsNoneHeld p' d k) (sym same) here
  | inr other ↦ none_held_still p p' d r less (before r (omega (arith, low, other)))
]

page_in : (t : MetaRow) (k : ℕ) (q : PageId) (h : FrameRight) → Names t k h → page_of h ≡ Some q → q.resource < 16
page_in t k q (Outside r) named is = (let clash : None ≡ Some q = is in cc)
page_in t k q (Clean r) named is =
    let same : r.page ≡ q = cc in subst (λ (x : PageId). x.resource < 16) same named.1.resource
page_in t k q (Changed r) named is =
    let same : r.page ≡ q = cc in subst (λ (x : PageId). x.resource < 16) same named.1.resource
page_in t k q Spent named is = absurd named

-- there are no more resources
none_past : (p : PagerState) (d r : ℕ) → IsWholePager p → 16 ≤ r → IsNoneHeld p d r
none_past p d r whole high k q e = elim (is_of_tells d r q) [
  | inl here ↦
      let within : k < length p.frames = subst (λ (n : ℕ). k < n) whole.count (held_within p.rights k q e) in
      let low : q.resource < 16 = page_in p.table k q (right_at p k) (whole.named k within) e in
      let is : q.resource ≡ r = here.1.1 in
      absurd (omega (arith, high, low, is))
  | inr other ↦ other.0
]

pub none_of_all : (p : PagerState) (d : ℕ) → IsWholePager p → ((r : ℕ) → r < 16 → IsNoneHeld p d r) → (r : ℕ) → IsNoneHeld p d r
none_of_all p d whole none r = elim (cases_lt r 16) [
  | inl low ↦ none r low
  | inr high ↦ none_past p d r whole high
]

-- Both.

pub asked_end : {E : Type 0} (gave : E → E → List Piece → Type 0) (first old mid new : Side E) (d : ℕ) (w : World) →
    Sees gave first old w →
    ((v : World) → Sees gave first old v → Sees gave first mid (settled_for d 0 (frames_of old.memory.now) v)) →
    ((v : World) → Sees gave first mid v → FollowsFrom (Sees gave first) new (tt {0}) (played (forget_each d (numbers_below 16)) v)) →
    FollowsFrom (Sees gave first) new (tt {0}) (ask_end d w)
unfolding ask_end
asked_end gave first old mid new d w sees settles forgets =
    forgets (settled_for d 0 (length (ram_of w)) w)
    (subst (λ (n : ℕ). Sees gave first mid (settled_for d 0 n w)) (sym (count_of gave first old w sees)) (settles w sees))

-- What was true of a memory behind a reference is true of the one that was given back, whose size is told.

pub others_back : (d : ℕ) (old back new : Memory) → SameSize old back → back ≡ new →
    ((k : ℕ) (q : PageId) → q.domain ≢ d → held_in new.pager k ≡ Some q → held_in old.pager k ≡ Some q) →
    (k : ℕ) (q : PageId) → q.domain ≢ d → held_in back.pager k ≡ Some q → held_in old.pager k ≡ Some q
others_back d old back new size same others k q n e = others k q n (sym (ap (λ (m : Memory). held_in m.pager k) same) ∙ e)

pub none_back : (d : ℕ) (old back new : Memory) → SameSize old back → back ≡ new →
    ((r : ℕ) → IsNoneHeld new.pager d r) → (r : ℕ) → IsNoneHeld back.pager d r
none_back d old back new size same none r = subst (λ (m : Memory). IsNoneHeld m.pager d r) (sym same) (none r)

pub ends_from : {E : Type 0} (gave : E → E → List Piece → Type 0) (first now : Side E) (w : World) (memory : Memory) (e : E) →
    memory ≡ now.memory.now → e ≡ now.emitter.now → Sees gave first now w → EndsPages gave first.emitter.now e memory w
ends_from gave first now w memory e same_memory same_emitter sees = record {
  emits = subst (λ x. Emits gave first.emitter.now x (item_pieces (items_of w))) (sym same_emitter)
      (emits_world gave first now w sees);
  holds = subst (λ x. HoldsWorld x w) (sym same_memory) (holds_world gave first now w sees);
}
