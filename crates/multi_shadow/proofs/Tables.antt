-- Tables by their parts.
use Rattle.std.proofs.Common.{◌≡◌, ◌≤◌, ◌<◌, inl, inr, ℕ, true, false, List, [], ◌∷◌, ◌++◌, length, if◌then◌else◌, ap, sym, subst, arith, ◌∙◌}
use Rattle.std.specs.List.{list_any}
use Rattle.std.specs.List.Sorted.{IsPermutation}
use Rattle.std.proofs.lemmas.Bool.Decides.{leb_tells}
use Rattle.std.proofs.lemmas.List.Sorted.{IsPermutation-to_front, IsPermutation-sym}
use Rattle.cloak_base.specs.declared.names.Kind.{Kind}
use Rattle.shadow_fold.specs.declared.entry.Entry.{Entry}
use Rattle.shadow_fold.specs.declared.entry.Regime.{Regime}
use Rattle.shadow_fold.specs.Entries.{is_for}
use Rattle.shadow_fold.specs.Table.{Table, one_more, looked, is_known, emptied, with_room}

abbrev pub table : ℕ → List Entry → ℕ → ℕ → ℕ → Table
table frames live accesses misses flushes = record { frames = frames; live = live; counts = record { accesses = accesses; misses = misses; flushes = flushes } }

-- an entry that is put at the end is one more
pub pushed : (e : Entry) (old new : List Entry) → new ≡ old ++ e ∷ [] → IsPermutation (e ∷ old) new
pushed e old new is = subst (IsPermutation (e ∷ old)) (sym is) (IsPermutation-sym _ _ (IsPermutation-to_front old e))

-- if 1024 entries are live, there is no room
pub full : (t : Table) → 1024 ≤ length t.live → with_room t ≡ emptied t
unfolding with_room
full t many = elim (leb_tells 1024 (length t.live)) [ inl h ↦ ap (λ b. if b then emptied t else t) h.0 | inr h ↦ absurd (omega (arith, many, h.1)) ]

-- and else there is
pub roomy : (t : Table) → length t.live < 1024 → with_room t ≡ t
unfolding with_room
roomy t few = elim (leb_tells 1024 (length t.live)) [ inl h ↦ absurd (omega (arith, few, h.1)) | inr h ↦ ap (λ b. if b then emptied t else t) h.0 ]

-- then there is room
pub room : (t : Table) → length (with_room t).live < 1024
unfolding with_room emptied
room t = elim (leb_tells 1024 (length t.live)) [
  | inl h ↦ subst (λ b. length (if b then emptied t else t).live < 1024) (sym h.0) (omega arith)
  | inr h ↦ subst (λ b. length (if b then emptied t else t).live < 1024) (sym h.0) h.1
]

-- an access that hits
pub hit : (v : Regime) (page : ℕ) (kind : Kind) (t : Table) (accesses : ℕ) → accesses ≡ one_more t.counts.accesses → is_known v page kind t ≡ true
    → table t.frames t.live accesses t.counts.misses t.counts.flushes ≡ looked v page kind t
unfolding looked
hit v page kind t accesses a known = λ i. table t.frames t.live (a i) (if sym known i then t.counts.misses else one_more t.counts.misses) t.counts.flushes

-- one that misses
pub missed : (v : Regime) (page : ℕ) (kind : Kind) (t : Table) (accesses misses : ℕ) → accesses ≡ one_more t.counts.accesses → misses ≡ one_more t.counts.misses → is_known v page kind t ≡ false
    → table t.frames t.live accesses misses t.counts.flushes ≡ looked v page kind t
unfolding looked
missed v page kind t accesses misses a m unknown = (λ i. table t.frames t.live (a i) (m i) t.counts.flushes) ∙ (λ i. table t.frames t.live (one_more t.counts.accesses) (if sym unknown i then t.counts.misses else one_more t.counts.misses) t.counts.flushes)

pub room_frames : (t : Table) → (with_room t).frames ≡ t.frames
unfolding with_room emptied
room_frames t = elim (leb_tells 1024 (length t.live)) [
  | inl h ↦ ap (λ b. (if b then emptied t else t).frames) h.0
  | inr h ↦ ap (λ b. (if b then emptied t else t).frames) h.0
]

pub unknown_in_room : (v : Regime) (page : ℕ) (kind : Kind) (t : Table) → is_known v page kind t ≡ false → is_known v page kind (with_room t) ≡ false
unfolding with_room emptied is_known
unknown_in_room v page kind t u = elim (leb_tells 1024 (length t.live)) [
  | inl h ↦ ap (λ b. list_any (is_for v page kind) (if b then emptied t else t).live) h.0
  | inr h ↦ ap (λ b. list_any (is_for v page kind) (if b then emptied t else t).live) h.0 ∙ u
]
