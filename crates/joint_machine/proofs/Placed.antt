-- The pages of programs as a run begins, over plain variables.
use Rattle.std.proofs.Common.{◌≡◌, ◌≢◌, ◌≤◌, ◌+◌, ◌-◌, ◌^◌, ℕ, zero, suc, Bool, true, false, List, [], ◌∷◌, length, slice_index_or, Option, None, Some, is_some, unwrap_or, min, refl, ap, sym, ◌∙◌, subst, arith, add-one, inl, inr}
use Rattle.std.specs.Prelude.{option_and_then, IfSome, map, ◌==◌}
use Rattle.std.proofs.lemmas.Bool.{cases_lt}
use Rattle.cloak_base.specs.declared.names.PageId.{PageId}
use Rattle.cloak_base.specs.declared.names.SpaceId.{SpaceId}
use Rattle.cloak_base.specs.Random.{Random}
use Rattle.cloak_model.specs.declared.image.Program.{Program}
use Rattle.cloak_model.specs.Cloaking.{CloakedMemory, ciphertext_of}
use Rattle.cloak_base.specs.Constants.{frame_of}
use Rattle.cloak_model.specs.Ledger.{next_vector}
use Rattle.cloak_model.specs.Memory.{unless_written}
use Rattle.cloak_model.specs.Opening.{place_pages, place_programs, program_page}
use Rattle.cloak_model.specs.PageMoves.{place, place_with}
use Rattle.protect_meta.specs.Table.{meta_at}
use Rattle.cloak_pager.specs.State.{PagerState, page_of, held_in}
use Rattle.cloak_pager.specs.Turns.{PlaceTurns}
use Rattle.cloak_pager.specs.Relation.{StandsForMemory}
use Rattle.cloak_pager.specs.Asking.{FollowsCall, after_place}
use Rattle.cloak_pager.specs.declared.frame_right.FrameRight.{FrameRight}
use Rattle.cloak_pager.specs.declared.frame_right.FrameRight.TheVariants.{Spent}
use Rattle.cloak_pager.proofs.Pages.{with_page-other}
use Rattle.shadow_fold.specs.Entries.{is_table}
use Rattle.shadow_fold.specs.Keeping.{Agrees}
use Rattle.shadow_fold.specs.Table.{Table, ending}
use Rattle.shadow_law.specs.Agreeing.{present, frame}
use Rattle.shadow_law.proofs.Tables.{write_agrees}
use Rattle.cloaked_side.specs.Holding.{Holds}
use Rattle.cloaked_side.proofs.Translating.{agrees_rights, ending_frames}
use Rattle.cloaked_side.specs.declared.memory.Memory.{Memory}
use Rattle.joint_machine.specs.Starting.{IsReady, KeepsUnplaced, PlacesTo}

-- One page.

-- a page of the resource that holds a program
abbrev pub first_page : ℕ → ℕ → PageId
first_page d n = record { domain = d; resource = 0; page = n }

never : (o : Option PageId) (q : PageId) → o ≡ None → o ≢ Some q
never o q none some = let e : None ≡ Some q = sym none ∙ some in cc

-- other pages have what metadata they had
metas_kept : (draw : Option (List ℕ × Random)) (stream left : Random) (old new : PagerState) (q : PageId) (f : ℕ)
    (bytes : List ℕ) → PlaceTurns draw stream old new left q f bytes → (o : PageId) → o ≢ q →
    meta_at new.table o ≡ meta_at old.table o
metas_kept None stream left old new q f bytes turns o n = ap (λ (p : PagerState). meta_at p.table o) turns.0
metas_kept (Some draw) stream left old new q f bytes turns o n =
    turns.0.metas_are o ∙ with_page-other (meta_at old.table) q _ o n

pub ready_next : (draw : Option (List ℕ × Random)) (stream left : Random) (old new : PagerState) (d n f : ℕ)
    (bytes : List ℕ) → PlaceTurns draw stream old new left (first_page d n) f bytes → new.rights ≡ old.rights →
    IsReady old d n → IsReady new d (n + 1)
ready_next draw stream left old new d n f bytes turns rights ready = record {
  outside = λ k. ap (λ (hs : List FrameRight). page_of (slice_index_or hs k Spent)) rights ∙ ready.outside k;
  rest = λ q here past.
      metas_kept draw stream left old new (first_page d n) f bytes turns q (λ same. absurd (let at : q.page ≡ n = ap (λ (x : PageId). x.page) same in omega (arith, at, past)))
      ∙ ready.rest q here (omega (arith, past));
  later = λ q past.
      metas_kept draw stream left old new (first_page d n) f bytes turns q (λ same. absurd (let at : q.domain ≡ d = ap (λ (x : PageId). x.domain) same in omega (arith, at, past)))
      ∙ ready.later q past;
}

-- what is known of pages of other resources stays
pub unplaced_next : (draw : Option (List ℕ × Random)) (stream left : Random) (old new : PagerState) (d n f : ℕ)
    (bytes : List ℕ) → PlaceTurns draw stream old new left (first_page d n) f bytes → KeepsUnplaced old new
unplaced_next draw stream left old new d n f bytes turns q other =
    metas_kept draw stream left old new (first_page d n) f bytes turns q
    (λ same. other (ap (λ (x : PageId). x.resource) same))

pub unplaced_then : (a b c : PagerState) → KeepsUnplaced a b → KeepsUnplaced b c → KeepsUnplaced a c
unplaced_then a b c first second q other = second q other ∙ first q other

pub unplaced_none : (p : PagerState) → KeepsUnplaced p p
unplaced_none p q other = refl

-- What a placing leaves of the ledger, beside stream and records.
pub record KeepsLedger (m m' : CloakedMemory) : Type 0 where
  pub draws : m'.ledger.draws ≡ min (m.ledger.draws + 1) (2 ^ 64 - 1)
  pub missed : m'.ledger.missed ≡ m.ledger.missed
  pub keys : m'.ledger.keys ≡ m.ledger.keys
  pub root : (s : SpaceId) → m'.ledger.root s ≡ m.ledger.root s
  pub owed : m'.ledger.owed ≡ m.ledger.owed

abbrev pub KeepsLedgerIf : CloakedMemory → Option CloakedMemory → Type 0
KeepsLedgerIf m None = Unit {0}
KeepsLedgerIf m (Some m') = KeepsLedger m m'

keeps_with : (q : PageId) (f : ℕ) (bytes : List ℕ) (draw : Option (List ℕ × Random)) (m : CloakedMemory) →
    KeepsLedgerIf m (place_with q f bytes draw m)
unfolding place_with
keeps_with q f bytes None m = tt
keeps_with q f bytes (Some draw) m = record { draws = refl; missed = refl; keys = refl; root = λ s. refl; owed = refl }

pub keeps_ledger : (q : PageId) (f : ℕ) (bytes : List ℕ) (m : CloakedMemory) → KeepsLedgerIf m (place q f bytes m)
unfolding place
keeps_ledger q f bytes m = keeps_with q f bytes (next_vector m.ledger) m

-- the draws after a placing
abbrev pub draws_if : Bool → ℕ → ℕ
draws_if true n = min (n + 1) (2 ^ 64 - 1)
draws_if false n = n

places_by : (old new : Memory) (given : Bool) (w : PageId → Bool) (m : CloakedMemory) (o : Option CloakedMemory) →
    given ≡ is_some o → StandsForMemory new.pager w (unwrap_or o m) → (unwrap_or o m).ledger.stream ≡ new.stream →
    KeepsLedgerIf m o → (new.missed ≡ false → (q : PageId) → w q ≡ false) → new.missed ≡ old.missed →
    new.draws ≡ draws_if given old.draws → old.draws ≡ m.ledger.draws → old.missed ≡ m.ledger.missed →
    (given ≡ true → IfSome o (λ m'. Agrees (present (held_in new.pager) m') new.shadows)) →
    (given ≡ true → new.shadows.frames ≡ length new.pager.frames) →
    (given ≡ true → IfSome o (λ m'. new.reservations ≡ m'.marks)) → PlacesTo new given o
places_by old new true w m None answer stands stream keeps whole missed draws counted marked agrees room marks = absurd (cc)
places_by old new false w m None answer stands stream keeps whole missed draws counted marked agrees room marks = tt
places_by old new false w m (Some m') answer stands stream keeps whole missed draws counted marked agrees room marks = absurd (cc)
places_by old new true w m (Some m') answer stands stream keeps whole missed draws counted marked agrees room marks = record {
  wiped = w;
  pager = stands;
  whole = whole;
  stream = stream;
  draws = draws ∙ (ap (λ n. min (n + 1) (2 ^ 64 - 1)) counted ∙ sym keeps.draws);
  missed = missed ∙ (marked ∙ sym keeps.missed);
  agrees = agrees refl;
  room = room refl;
  marks = marks refl;
}

-- the translations through the frame of a page that was placed ended
agrees_with : (held : ℕ → Option PageId) (q : PageId) (f : ℕ) (bytes : List ℕ) (draw : Option (List ℕ × Random)) (m : CloakedMemory)
    (t : Table) → Agrees (present held m) t →
    IfSome (place_with q f bytes draw m) (λ m'. Agrees (present held m') (ending (is_table (frame f)) t))
unfolding place_with
agrees_with held q f bytes None m t agrees = tt
agrees_with held q f bytes (Some draw) m t agrees = write_agrees held m f (ciphertext_of m.ledger q draw.0 bytes) t agrees

placed_agrees : (held : ℕ → Option PageId) (q : PageId) (f : ℕ) (bytes : List ℕ) (m : CloakedMemory) (t : Table) →
    Agrees (present held m) t → IfSome (place q f bytes m) (λ m'. Agrees (present held m') (ending (is_table (frame f)) t))
unfolding place
placed_agrees held q f bytes m t agrees = agrees_with held q f bytes (next_vector m.ledger) m t agrees

-- the reservations after a frame was written
abbrev pub unless_in : ℕ → List (Option ℕ) → List (Option ℕ)
unless_in f marks = map (unless_written (λ mark. frame_of mark == f)) marks

-- reservations of words in the frame of a page that was placed ended
marks_with : (q : PageId) (f : ℕ) (bytes : List ℕ) (draw : Option (List ℕ × Random)) (m : CloakedMemory) (marks : List (Option ℕ)) →
    marks ≡ m.marks → IfSome (place_with q f bytes draw m) (λ m'. unless_in f marks ≡ m'.marks)
unfolding place_with
marks_with q f bytes None m marks is = tt
marks_with q f bytes (Some draw) m marks is = ap (unless_in f) is

placed_marks : (q : PageId) (f : ℕ) (bytes : List ℕ) (m : CloakedMemory) (marks : List (Option ℕ)) → marks ≡ m.marks →
    IfSome (place q f bytes m) (λ m'. unless_in f marks ≡ m'.marks)
unfolding place
placed_marks q f bytes m marks is = marks_with q f bytes (next_vector m.ledger) m marks is

-- a page was placed in the memory's pager, or not
pub page_placed : (old new : Memory) (given : Bool) (q : PageId) (f : ℕ) (bytes : List ℕ) →
    FollowsCall old.pager old.stream new.pager new.stream given (after_place q f bytes) → new.missed ≡ old.missed →
    new.draws ≡ draws_if given old.draws → new.pager.rights ≡ old.pager.rights →
    length new.pager.frames ≡ length old.pager.frames →
    (given ≡ true → new.shadows ≡ ending (is_table (frame f)) old.shadows) →
    (given ≡ true → new.reservations ≡ unless_in f old.reservations) →
    (m : CloakedMemory) → Holds old m → PlacesTo new given (place q f bytes m)
page_placed old new given q f bytes meets missed draws rights count ended unmarked m h =
    let v = meets h.wiped m h.pager h.stream in
    places_by old new given h.wiped m (place q f bytes m) v.answer v.stands v.drawn (keeps_ledger q f bytes m)
    (λ none. h.whole (sym missed ∙ none)) missed draws h.draws h.missed
    (λ is. subst (λ (u : Table). IfSome (place q f bytes m) (λ m'. Agrees (present (held_in new.pager) m') u)) (sym (ended is))
    (placed_agrees (held_in new.pager) q f bytes m old.shadows (agrees_rights old.pager new.pager m old.shadows rights h.agrees)))
    (λ is. ap (λ (u : Table). u.frames) (ended is) ∙ ending_frames (is_table (frame f)) old.shadows ∙ h.room ∙ sym count)
    (λ is. subst (λ (marks : List (Option ℕ)). IfSome (place q f bytes m) (λ m'. marks ≡ m'.marks)) (sym (unmarked is))
    (placed_marks q f bytes m old.reservations h.marks))

-- Pages one after another.

then_places : (old new : Memory) (given : Bool) (next : CloakedMemory → Option CloakedMemory) (o : Option CloakedMemory) →
    PlacesTo old true o → ((x : CloakedMemory) → Holds old x → PlacesTo new given (next x)) →
    PlacesTo new given (option_and_then next o)
then_places old new given next None so_far more = absurd so_far
then_places old new given next (Some x) so_far more = more x so_far

pub pages_next : (old new : Memory) (given : Bool) (d i : ℕ) (p : Program) (page : List ℕ) (m : CloakedMemory) →
    page ≡ program_page p.bytes i → PlacesTo old true (place_pages d p i m) →
    ((x : CloakedMemory) → Holds old x → PlacesTo new given (place (first_page d i) (p.place + i) page x)) →
    PlacesTo new given (place_pages d p (i + 1) m)
pages_next old new given d i p page m is so_far more =
    let next = place (first_page d i) (p.place + i) (program_page p.bytes i) in
    subst (λ (n : ℕ). PlacesTo new given (place_pages d p n m)) (sym (add-one i))
    (then_places old new given next (place_pages d p i m) so_far
    (λ x held. subst (λ (bytes : List ℕ). PlacesTo new given (place (first_page d i) (p.place + i) bytes x)) is
    (more x held)))

missed_on : (new : Memory) (next : CloakedMemory → Option CloakedMemory) (o : Option CloakedMemory) →
    PlacesTo new false o → PlacesTo new false (option_and_then next o)
missed_on new next None missed = tt
missed_on new next (Some x) missed = absurd missed

-- if a draw was missing before, it is missing
pub pages_missed : (new : Memory) (d : ℕ) (p : Program) (m : CloakedMemory) (n i : ℕ) → i ≤ n →
    PlacesTo new false (place_pages d p i m) → PlacesTo new false (place_pages d p n m)
pages_missed new d p m zero i before missed =
    subst (λ (k : ℕ). PlacesTo new false (place_pages d p k m)) (let e : i ≡ zero = omega (arith, before) in e) missed
pages_missed new d p m (suc n) i before missed = elim (cases_lt i (suc n)) [
  | inl lt ↦
      missed_on new (place (first_page d n) (p.place + n) (program_page p.bytes n)) (place_pages d p n m)
      (pages_missed new d p m n i (omega (arith, lt)) missed)
  | inr ge ↦
      subst (λ (k : ℕ). PlacesTo new false (place_pages d p k m))
      (let e : i ≡ suc n = omega (arith, ge, before) in e) missed
]

-- Programs one after another.

-- of these programs the rest, of which the first has this number, is left to be placed in this memory
pub record PlacesFrom (memory : Memory) (i : ℕ) (rest programs : List Program) (m : CloakedMemory) : Type 0 where
  pub so_far : CloakedMemory
  pub holds : Holds memory so_far
  pub left : place_programs i rest so_far ≡ place_programs 0 programs m

pub programs_none : (memory : Memory) (rest programs : List Program) (m : CloakedMemory) → rest ≡ programs →
    Holds memory m → PlacesFrom memory 0 rest programs m
programs_none memory rest programs m same holds = record {
  so_far = m;
  holds = holds;
  left = ap (λ (ps : List Program). place_programs 0 ps m) same;
}

next_is : (new : Memory) (i : ℕ) (rest programs : List Program) (m : CloakedMemory) (o : Option CloakedMemory) →
    option_and_then (place_programs (i + 1) rest) o ≡ place_programs 0 programs m →
    PlacesTo new true o → PlacesFrom new (i + 1) rest programs m
next_is new i rest programs m None left places = absurd places
next_is new i rest programs m (Some x) left places = record { so_far = x; holds = places; left = left }

pub programs_next : (old new : Memory) (i : ℕ) (p : Program) (rest programs : List Program) (m : CloakedMemory) →
    PlacesFrom old i (p ∷ rest) programs m →
    ((x : CloakedMemory) → Holds old x → PlacesTo new true (place_pages i p p.start.pages x)) →
    PlacesFrom new (i + 1) rest programs m
programs_next old new i p rest programs m from places =
    next_is new i rest programs m (place_pages i p p.start.pages from.so_far) from.left (places from.so_far from.holds)

pub programs_missed : (old new : Memory) (i : ℕ) (p : Program) (rest programs : List Program) (m : CloakedMemory) →
    PlacesFrom old i (p ∷ rest) programs m →
    ((x : CloakedMemory) → Holds old x → PlacesTo new false (place_pages i p p.start.pages x)) →
    PlacesTo new false (place_programs 0 programs m)
programs_missed old new i p rest programs m from places =
    subst (λ (o : Option CloakedMemory). PlacesTo new false o) from.left
    (missed_on new (place_programs (i + 1) rest) (place_pages i p p.start.pages from.so_far)
    (places from.so_far from.holds))

pub programs_all : (memory : Memory) (i : ℕ) (rest programs : List Program) (m : CloakedMemory) →
    PlacesFrom memory i rest programs m → length rest ≡ 0 → PlacesTo memory true (place_programs 0 programs m)
programs_all memory i [] programs m from end =
    subst (λ (o : Option CloakedMemory). PlacesTo memory true o) from.left from.holds
programs_all memory i (p ∷ rest) programs m from end = absurd (omega (arith, end))

-- Keys and roots.

-- the keys and the page tables that are recorded stay
pub record KeepsFixed (m m' : CloakedMemory) : Type 0 where
  pub keys : m'.ledger.keys ≡ m.ledger.keys
  pub roots : (s : SpaceId) → m'.ledger.root s ≡ m.ledger.root s
  pub owed : m'.ledger.owed ≡ m.ledger.owed

abbrev pub KeepsFixedIf : CloakedMemory → Option CloakedMemory → Type 0
KeepsFixedIf m None = Unit {0}
KeepsFixedIf m (Some m') = KeepsFixed m m'

fixed_of : (m : CloakedMemory) (o : Option CloakedMemory) → KeepsLedgerIf m o → KeepsFixedIf m o
fixed_of m None keeps = tt
fixed_of m (Some m') keeps = record { keys = keeps.keys; roots = keeps.root; owed = keeps.owed }

fixed_before : (m x : CloakedMemory) (o : Option CloakedMemory) → KeepsFixed m x → KeepsFixedIf x o → KeepsFixedIf m o
fixed_before m x None first keeps = tt
fixed_before m x (Some m') first keeps =
    record { keys = keeps.keys ∙ first.keys; roots = λ s. keeps.roots s ∙ first.roots s; owed = keeps.owed ∙ first.owed }

fixed_then : (m : CloakedMemory) (next : CloakedMemory → Option CloakedMemory) (o : Option CloakedMemory) →
    KeepsFixedIf m o → ((x : CloakedMemory) → KeepsFixedIf x (next x)) → KeepsFixedIf m (option_and_then next o)
fixed_then m next None keeps more = tt
fixed_then m next (Some x) keeps more = fixed_before m x (next x) keeps (more x)

pages_fixed : (d : ℕ) (p : Program) (n : ℕ) (m : CloakedMemory) → KeepsFixedIf m (place_pages d p n m)
pages_fixed d p zero m = record { keys = refl; roots = λ s. refl; owed = refl }
pages_fixed d p (suc n) m =
    fixed_then m (place (first_page d n) (p.place + n) (program_page p.bytes n)) (place_pages d p n m) (pages_fixed d p n m)
    (λ x. fixed_of x _ (keeps_ledger (first_page d n) (p.place + n) (program_page p.bytes n) x))

pub programs_fixed : (d : ℕ) (programs : List Program) (m : CloakedMemory) → KeepsFixedIf m (place_programs d programs m)
programs_fixed d [] m = record { keys = refl; roots = λ s. refl; owed = refl }
programs_fixed d (p ∷ programs) m =
    fixed_then m (place_programs (d + 1) programs) (place_pages d p p.start.pages m) (pages_fixed d p p.start.pages m)
    (λ x. programs_fixed (d + 1) programs x)
