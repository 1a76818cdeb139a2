-- A memory that settled a frame.
use Rattle.std.proofs.Common.{◌≡◌, ℕ, ◌+◌, ◌-◌, ◌^◌, Bool, true, false, List, [], ◌∷◌, Option, None, Some, refl, ap}
use Rattle.std.proofs.Common.{sym, ◌∙◌, subst}
use Rattle.std.specs.Prelude.{◌==◌, min, length, map}
use Rattle.std.proofs.lemmas.Bool.{false≢true}
use Rattle.cloak_base.specs.declared.names.PageId.{PageId}
use Rattle.cloak_base.specs.Constants.{frame_of}
use Rattle.cloak_base.specs.Random.{Random}
use Rattle.cloak_model.specs.Cloaking.{CloakedMemory, AfterSettling, settle, settle_if, settle_owed, owed_in}
use Rattle.cloak_model.specs.Exchange.{Piece, Emits, item_pieces}
use Rattle.cloak_model.specs.Memory.{unless_written}
use Rattle.cloak_model.specs.World.{cipher_items}
use Rattle.cloak_pager.specs.State.{PagerState, held_in}
use Rattle.cloak_pager.specs.Relation.{StandsForMemory}
use Rattle.cloak_pager.specs.Asking.{FollowsCall, after_touch, wiped_with}
use Rattle.shadow_fold.specs.Keeping.{Agrees}
use Rattle.shadow_law.specs.Agreeing.{present}
use Rattle.cloaked_side.specs.Holding.{Holds, Settles}
use Rattle.cloaked_side.specs.Tracking.{spent_in}
use Rattle.cloaked_side.specs.declared.memory.Memory.{Memory}
use Rattle.shadow_fold.specs.Reads.{Spends, Spent}

-- the draws after a settling that showed this
abbrev pub draws_by : List (ℕ × List ℕ) → Bool → ℕ → ℕ
draws_by [] missed n = n
draws_by (c ∷ ciphers) true n = n
draws_by (c ∷ ciphers) false n = min (n + 1) (2 ^ 64 - 1)

abbrev pub missed_by : Bool → Bool → Bool
missed_by true before = true
missed_by false before = before

-- the reservations after it: a frame that showed something was written
abbrev pub marks_by : List (ℕ × List ℕ) → List (Option ℕ) → List (Option ℕ)
marks_by [] marks = marks
marks_by (c ∷ ciphers) marks = map (unless_written (λ mark. frame_of mark == c.0)) marks

-- What a settling shows tells what became of the three. One whose draw was missing shows something.
pub record TellsDraws (m : CloakedMemory) (s : AfterSettling) : Type 0 where
  pub draws : s.memory.ledger.draws ≡ draws_by s.ciphers s.missed m.ledger.draws
  pub missed : s.memory.ledger.missed ≡ missed_by s.missed m.ledger.missed
  pub marks : s.memory.marks ≡ marks_by s.ciphers m.marks
  pub shows : s.missed ≡ true → s.ciphers ≡ [] → ⊥

counts_owed : (f : ℕ) (q : PageId) (draw : Option (List ℕ × Random)) (m : CloakedMemory) →
    TellsDraws m (settle_owed f q draw m)
unfolding settle_owed
counts_owed f q None m = record { draws = refl; missed = refl; marks = refl; shows = λ missed none. cc }
counts_owed f q (Some draw) m = record { draws = refl; missed = refl; marks = refl; shows = λ missed none. cc }

counts_if : (f : ℕ) (owed : Option PageId) (m : CloakedMemory) → TellsDraws m (settle_if f owed m)
unfolding settle_if
counts_if f None m = record { draws = refl; missed = refl; marks = refl; shows = λ missed none. cc }
counts_if f (Some q) m = counts_owed f q _ m

pub counts : (f : ℕ) (m : CloakedMemory) → TellsDraws m (settle f m)
unfolding settle
counts f m = counts_if f (owed_in m f) m

unwiped : (missed before : Bool) (owed : Option PageId) (w : PageId → Bool) → missed_by missed before ≡ false →
    (before ≡ false → (q : PageId) → w q ≡ false) → (q : PageId) → wiped_with missed owed w q ≡ false
unwiped true before owed w e none q = absurd (false≢true (sym e))
unwiped false before owed w e none q = none e q

-- A touch of this pager made this of it and of the stream, and showed this. What the memory has is that, read again.
pub settled_so : {E : Type 0} (gave : E → E → List Piece → Type 0) (e e' : E) (old new : Memory) (p : PagerState)
    (left : Random) (f : ℕ) (shown : List (ℕ × List ℕ)) (missed : Bool) →
    FollowsCall old.pager old.stream p left (shown, missed) (after_touch f) →
    ((w : PageId → Bool) (m : CloakedMemory) → StandsForMemory p w m → StandsForMemory new.pager w m) →
    new.stream ≡ left → new.draws ≡ draws_by shown missed old.draws → new.missed ≡ missed_by missed old.missed →
    new.reservations ≡ marks_by shown old.reservations →
    Emits gave e e' (item_pieces (cipher_items shown)) →
    ((m : CloakedMemory) → Holds old m → Agrees (present (held_in new.pager) (settle f m).memory) new.shadows) →
    (new.shadows.frames ≡ old.shadows.frames) → length new.pager.frames ≡ length old.pager.frames →
    (m : CloakedMemory) → Holds old m → Settles gave e e' new (settle f m)
settled_so {E} gave e e' old new p left f shown missed meets again stream draws mark marks emits agrees room count m h =
    let s : AfterSettling = settle f m in
    let v = meets h.wiped m h.pager h.stream in
    let cs : shown ≡ s.ciphers = ap (λ (x : List (ℕ × List ℕ) × Bool). x.0) v.answer in
    let ms : missed ≡ s.missed = ap (λ (x : List (ℕ × List ℕ) × Bool). x.1) v.answer in
    let mark' : new.missed ≡ missed_by s.missed old.missed = mark ∙ ap (λ b. missed_by b old.missed) ms in
    record {
      holds = record {
        wiped = wiped_with s.missed (owed_in m f) h.wiped;
        pager = again _ _ v.stands;
        whole = λ none. unwiped s.missed old.missed (owed_in m f) h.wiped (sym mark' ∙ none) h.whole;
        stream = v.drawn ∙ sym stream;
        draws = draws ∙ ap (λ (x : List (ℕ × List ℕ) × Bool). draws_by x.0 x.1 old.draws) v.answer
            ∙ ap (λ n. draws_by s.ciphers s.missed n) h.draws ∙ sym (counts f m).draws;
        missed = mark' ∙ ap (λ b. missed_by s.missed b) h.missed ∙ sym (counts f m).missed;
        agrees = agrees m h;
        room = room ∙ h.room ∙ sym count;
        marks = marks ∙ ap (λ cs. marks_by cs old.reservations) cs ∙ ap (λ xs. marks_by s.ciphers xs) h.marks
            ∙ sym (counts f m).marks;
      };
      emits = subst (λ (x : List (ℕ × List ℕ)). Emits gave e e' (item_pieces (cipher_items x))) cs emits;
    }

-- It read what it showed.
pub settled_spends : (old : Memory) (p : PagerState) (left : Random) (f : ℕ) (shown : List (ℕ × List ℕ)) (missed : Bool) (n : Spent) →
    FollowsCall old.pager old.stream p left (shown, missed) (after_touch f) → Spends 0 (length shown) (spent_in old) n →
    (m : CloakedMemory) → Holds old m → Spends 0 (length (settle f m).ciphers) (spent_in old) n
settled_spends old p left f shown missed n meets spends m h =
    let v = meets h.wiped m h.pager h.stream in
    subst (λ (cs : List (ℕ × List ℕ)). Spends 0 (length cs) (spent_in old) n)
    (ap (λ (x : List (ℕ × List ℕ) × Bool). x.0) v.answer) spends

-- whether a draw was missing in a settling, if none was before
pub settle_missed : (f : ℕ) (m : CloakedMemory) → m.ledger.missed ≡ false →
    (settle f m).missed ≡ (settle f m).memory.ledger.missed
settle_missed f m none = by_value (settle f m).missed (counts f m).missed
  where
    by_value : (b : Bool) → (settle f m).memory.ledger.missed ≡ missed_by b m.ledger.missed →
        b ≡ (settle f m).memory.ledger.missed
    by_value true e = sym e
    by_value false e = sym (e ∙ none)
