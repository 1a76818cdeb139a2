-- What a side serves, and what is unused and cleared in it, over plain variables.
use Rattle.std.proofs.Common.{◌≡◌, ◌≢◌, ◌<◌, ◌^◌, ℕ, Bool, true, false, cond, List, slice_index_or, nat_lt, length, Some, None}
use Rattle.std.proofs.Common.{refl, ap, sym, ◌∙◌, subst, inl, inr, arith}
use Rattle.std.proofs.lemmas.Bool.{false≢true, ltb-true, cases_lt}
use Rattle.std.proofs.lemmas.List.{get_or_past}
use Rattle.cloak_base.specs.declared.names.PageId.{PageId}
use Rattle.cloak_base.specs.declared.names.Kind.{Kind}
use Rattle.cloak_base.specs.Pages.{is_of}
use Rattle.cloak_base.proofs.Pages.{is_of_tells}
use Rattle.cloak_model.specs.declared.answer.Answer.{Answer}
use Rattle.cloak_model.specs.World.{World, Flat, Cloaked, Alone, is_clashed}
use Rattle.cloak_model.specs.Asking.{FollowsFrom, Told}
use Rattle.cloak_model.specs.AskPages.{ask_reach, ask_get, ask_put, reach_by_table, get_by_table, put_by_table}
use Rattle.cloak_model.specs.Exchange.{Piece}
use Rattle.cloaked_side.specs.Holding.{HoldsNoMore, HoldsNoOther, SameSize, domains_in}
use Rattle.cloak_base.specs.declared.names.SpaceId.{SpaceId}
use Rattle.cloak_model.specs.declared.regime.InsideRegime.{InsideRegime}
use Rattle.shadow_fold.specs.declared.entry.Regime.{Regime}
use Rattle.cloaked_side.specs.Leading.{inside_regime}
use Rattle.cloaked_side.specs.Seeing.{Sees, SeesInside, SeesOutside, IsCleared, IsRegimeFor, IsUnused, served, space_in}
use Rattle.cloaked_side.specs.declared.program_side.ProgramSide.{ProgramSide}
use Rattle.cloaked_side.specs.declared.side.Side.{Side}

served_by : (v n d : ℕ) (b : Bool) → nat_lt v n ≡ b → d < 2 ^ 32 → d ≡ cond b v (2 ^ 32) → (d ≡ v) × (d < n)
served_by v n d true test small is = (is, subst (λ (x : ℕ). x < n) (sym is) (ltb-true v n test))
served_by v n d false test small is = absurd (omega (arith, small, is))

-- a number of 32 bits that a side serves is that of its regime, and one of the memory's domains
pub served_is : {E : Type 0} (side : Side E) (d : ℕ) → d < 2 ^ 32 → d ≡ served side →
    (d ≡ side.domain) × (d < domains_in side.memory.now)
served_is side d small is =
    served_by side.domain (domains_in side.memory.now) d
    (nat_lt side.domain (domains_in side.memory.now)) refl small is

pub served_same : {E : Type 0} (old new : Side E) → SameSize old.memory.now new.memory.now → new.domain ≡ old.domain →
    served new ≡ served old
served_same old new size domain =
    ap (λ (d : ℕ). cond (nat_lt d (domains_in new.memory.now)) d (2 ^ 32)) domain
    ∙ ap (λ (n : ℕ). cond (nat_lt old.domain n) old.domain (2 ^ 32)) size.domains

pub unused_still : {E : Type 0} (old new : Side E) (n : ℕ) → new.domain ≡ old.domain →
    HoldsNoMore old.memory.now.pager new.memory.now.pager → IsUnused old n → IsUnused new n
unused_still old new n domain less unused k q e =
    subst (λ (d : ℕ). is_of d n q ≡ false) (sym domain) (unused k q (less.held k q e))

pub cleared_still : {E : Type 0} (old new : Side E) (r : ℕ) → new.domain ≡ old.domain →
    HoldsNoMore old.memory.now.pager new.memory.now.pager → IsCleared old r → IsCleared new r
cleared_still old new r domain less cleared = record {
  resource = cleared.resource;
  none_owed = λ k q e. subst (λ (d : ℕ). is_of d r q ≡ false) (sym domain)
      (cleared.none_owed k q (less.owed k q e));
}

-- a page of another resource was offered
pub unused_offered : {E : Type 0} (old new : Side E) (q : PageId) (n : ℕ) → new.domain ≡ old.domain →
    HoldsNoOther q old.memory.now.pager new.memory.now.pager → n ≢ q.resource → IsUnused old n → IsUnused new n
unused_offered old new q n domain others not_n unused k p e = elim (is_of_tells new.domain n p) [
  | inl here ↦
      let other : p ≢ q = λ same. not_n (sym here.1.1 ∙ ap (λ (x : PageId). x.resource) same) in
      subst (λ (d : ℕ). is_of d n p ≡ false) (sym domain) (unused k p (others k p other e))
  | inr there ↦ there.0
]

-- a mark that is set is one of those that there are
pub mark_inside : (marked : List Bool) (r : ℕ) → slice_index_or marked r false ≡ true → r < length marked
mark_inside marked r mark = elim (cases_lt r (length marked)) [
  | inl inside ↦ inside
  | inr past ↦ absurd (false≢true (sym (get_or_past marked r false past) ∙ mark))
]

-- The questions that the joint machine answers by its page table.

pub asked_reach : {E : Type 0} (gave : E → E → List Piece → Type 0) (first old new : Side E) (q : PageId) (va : ℕ)
    (kind : Kind) (a : Answer) (w : World) → Sees gave first old w → is_clashed (ask_reach q va kind w).world ≡ false →
    (is_clashed (reach_by_table q va kind w).world ≡ false →
    FollowsFrom (Sees gave first) new a (reach_by_table q va kind w)) →
    FollowsFrom (Sees gave first) new a (ask_reach q va kind w)
unfolding ask_reach
asked_reach gave first old new q va kind a (Flat ram) sees unclashed told = absurd sees
asked_reach gave first old new q va kind a (Alone handed) sees unclashed told = absurd sees
asked_reach gave first old new q va kind a (Cloaked c) sees unclashed told = told unclashed

pub asked_get : {E : Type 0} (gave : E → E → List Piece → Type 0) (first old new : Side E) (va width : ℕ) (a : Answer)
    (w : World) → Sees gave first old w → is_clashed (ask_get va width w).world ≡ false →
    (is_clashed (get_by_table va width w).world ≡ false →
    FollowsFrom (Sees gave first) new a (get_by_table va width w)) →
    FollowsFrom (Sees gave first) new a (ask_get va width w)
unfolding ask_get
asked_get gave first old new va width a (Flat ram) sees unclashed told = absurd sees
asked_get gave first old new va width a (Alone handed) sees unclashed told = absurd sees
asked_get gave first old new va width a (Cloaked c) sees unclashed told = told unclashed

pub asked_put : {E : Type 0} (gave : E → E → List Piece → Type 0) (first old new : Side E) (va width value : ℕ)
    (a : Answer) (w : World) → Sees gave first old w → is_clashed (ask_put va width value w).world ≡ false →
    (is_clashed (put_by_table va width value w).world ≡ false →
    FollowsFrom (Sees gave first) new a (put_by_table va width value w)) →
    FollowsFrom (Sees gave first) new a (ask_put va width value w)
unfolding ask_put
asked_put gave first old new va width value a (Flat ram) sees unclashed told = absurd sees
asked_put gave first old new va width value a (Alone handed) sees unclashed told = absurd sees
asked_put gave first old new va width value a (Cloaked c) sees unclashed told = told unclashed

-- The side still serves the same context, or none.

pub wrap_inside : {E A : Type 0} (gave : E → E → List Piece → Type 0) (first old : Side E) (new : ProgramSide E) (a : A) (told : Told A) →
    new.side.regime ≡ old.regime → ((s : SpaceId) × (space_in old.regime ≡ Some s)) → FollowsFrom (λ side w. Sees gave first side w) new.side a told →
    FollowsFrom (λ asked w. SeesInside gave first asked.side w) new a told
wrap_inside gave first old new a told same space follows =
    record { answer = follows.answer; stands = (follows.stands, (space.0, ap space_in same ∙ space.1)) }

pub wrap_outside : {E A : Type 0} (gave : E → E → List Piece → Type 0) (first old new : Side E) (a : A) (told : Told A) →
    new.regime ≡ old.regime → space_in old.regime ≡ None → FollowsFrom (λ side w. Sees gave first side w) new a told →
    FollowsFrom (λ side w. SeesOutside gave first side w) new a told
wrap_outside gave first old new a told same none follows =
    record { answer = follows.answer; stands = (follows.stands, ap space_in same ∙ none) }

pub seen_outside : {E A : Type 0} (gave : E → E → List Piece → Type 0) (first new : Side E) (a : A) (told : Told A) →
    FollowsFrom (λ side w. SeesOutside gave first side w) new a told → FollowsFrom (λ side w. Sees gave first side w) new a told
seen_outside gave first new a told follows = record { answer = follows.answer; stands = follows.stands.0 }

-- The regime of a context, on a hart that sees memory so.

pub inside_space : (v : InsideRegime) (s : SpaceId) (r : Regime) → r ≡ inside_regime v s → space_in r ≡ Some s
inside_space v s r is = ap space_in is

pub inside_fits : (v : InsideRegime) (s : SpaceId) (r : Regime) → r ≡ inside_regime v s → IsRegimeFor v r
inside_fits v s r is = subst (λ (x : Regime). IsRegimeFor v x) (sym is) (refl, refl, refl)
