-- A memory with other reservations.
use Rattle.std.proofs.Common.{◌≡◌, ◌∙◌, ℕ, Bool, List, Option, None, Some, refl, ap}
use Rattle.cloak_base.specs.declared.names.PageId.{PageId}
use Rattle.cloak_model.specs.Ask.{ask_mark, ask_unmark, ask_marked}
use Rattle.cloak_model.specs.Asking.{FollowsFrom}
use Rattle.cloak_model.specs.Cloaking.{CloakedMemory}
use Rattle.cloak_model.specs.Exchange.{Piece}
use Rattle.cloak_model.specs.Memory.{mark_of, with_mark}
use Rattle.cloak_model.specs.World.{World, Flat, Cloaked, Alone, marks_of, with_marks}
use Rattle.cloak_pager.specs.Relation.{StandsForMemory}
use Rattle.cloak_pager.specs.State.{PagerState}
use Rattle.cloak_pager.proofs.Offers.{stands_same}
use Rattle.cloaked_side.specs.Holding.{Holds}
use Rattle.cloaked_side.specs.Seeing.{Sees}
use Rattle.cloaked_side.specs.declared.memory.Memory.{Memory}
use Rattle.cloaked_side.specs.declared.side.Side.{Side}

-- a pager knows of no reservations
pub stands_remarked : (p : PagerState) (wiped : PageId → Bool) (m : CloakedMemory) (marks : List (Option ℕ)) →
    StandsForMemory p wiped m → StandsForMemory p wiped (record m { marks = marks })
stands_remarked p wiped m marks s =
    stands_same p wiped m (record m { marks = marks }) s refl refl refl refl refl refl refl

-- the memory's reservations changed as those of what it stands for did
pub holds_remarked : (memory : Memory) (new marks : List (Option ℕ)) (m : CloakedMemory) → new ≡ marks → Holds memory m →
    Holds (record memory { reservations = new }) (record m { marks = marks })
holds_remarked memory new marks m is h = record {
  wiped = h.wiped;
  pager = stands_remarked memory.pager h.wiped m marks h.pager;
  whole = h.whole;
  stream = h.stream;
  draws = h.draws;
  missed = h.missed;
  agrees = h.agrees;
  room = h.room;
  marks = is;
}

-- a side with these reservations instead of its own
abbrev pub with_reservations : {E : Type 0} → Side E → List (Option ℕ) → Side E
with_reservations old marks =
    record old { memory = record old.memory { now = record old.memory.now { reservations = marks } } }

sees_remarked : {E : Type 0} (gave : E → E → List Piece → Type 0) (first old : Side E) (new : List (Option ℕ))
    (next : List (Option ℕ) → List (Option ℕ)) (w : World) → new ≡ next old.memory.now.reservations → Sees gave first old w →
    Sees gave first (with_reservations old new) (with_marks (next (marks_of w)) w)
sees_remarked gave first old new next (Flat seen) is sees = absurd sees
sees_remarked gave first old new next (Alone handed) is sees = absurd sees
sees_remarked gave first old new next (Cloaked c) is sees = record {
  holds = holds_remarked old.memory.now new (next c.memory.marks) c.memory (is ∙ ap next sees.holds.marks) sees.holds;
  emits = sees.emits;
  violation = sees.violation;
  domain = sees.domain;
  regime = sees.regime;
  tracks = sees.tracks;
  spends = sees.spends;
  maps = sees.maps;
}

pub marked_told : {E : Type 0} (gave : E → E → List Piece → Type 0) (first old : Side E) (new : List (Option ℕ)) (hart pa : ℕ)
    (w : World) → new ≡ with_mark hart (Some pa) old.memory.now.reservations → Sees gave first old w →
    FollowsFrom (Sees gave first) (with_reservations old new) (tt {0}) (ask_mark hart pa w)
unfolding ask_mark
marked_told gave first old new hart pa w is sees =
    record { answer = refl; stands = sees_remarked gave first old new (with_mark hart (Some pa)) w is sees }

pub unmarked_told : {E : Type 0} (gave : E → E → List Piece → Type 0) (first old : Side E) (new : List (Option ℕ)) (hart : ℕ)
    (w : World) → new ≡ with_mark hart None old.memory.now.reservations → Sees gave first old w →
    FollowsFrom (Sees gave first) (with_reservations old new) (tt {0}) (ask_unmark hart w)
unfolding ask_unmark
unmarked_told gave first old new hart w is sees =
    record { answer = refl; stands = sees_remarked gave first old new (with_mark hart None) w is sees }

-- what a hart has reserved is what the memory has
marks_seen : {E : Type 0} (gave : E → E → List Piece → Type 0) (first now : Side E) (w : World) → Sees gave first now w →
    now.memory.now.reservations ≡ marks_of w
marks_seen gave first now (Flat seen) sees = absurd sees
marks_seen gave first now (Alone handed) sees = absurd sees
marks_seen gave first now (Cloaked c) sees = sees.holds.marks

pub asked_mark : {E : Type 0} (gave : E → E → List Piece → Type 0) (first now : Side E) (hart : ℕ) (mark : Option ℕ) (w : World) →
    mark ≡ mark_of hart now.memory.now.reservations → Sees gave first now w →
    FollowsFrom (Sees gave first) now mark (ask_marked hart w)
unfolding ask_marked
asked_mark gave first now hart mark w is sees =
    record { answer = is ∙ ap (λ marks. mark_of hart marks) (marks_seen gave first now w sees); stands = sees }
