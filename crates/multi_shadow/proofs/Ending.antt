-- A table of recent entries and those in an arena, as entries end.
use Rattle.std.proofs.Common.{◌≡◌, ◌≤◌, ◌<◌, ℕ, zero, suc, Bool, true, false, List, [], ◌∷◌, length, slice_get, replicate, filter, not, ◌||◌, Option, Some, None, refl, sym, ap, subst, arith, ◌∙◌}
use Rattle.std.specs.Prelude.{IfSome}
use Rattle.std.proofs.lemmas.List.{length-replicate}
use Rattle.std.proofs.lemmas.Bool.{true≢false}
use Rattle.std.proofs.lemmas.Option.{none-some, same_Some}
use Rattle.chain_arena.specs.declared.chain.Chain.TheVariants as chain
use Rattle.chain_arena.proofs.Counts.{none_lying}
use Rattle.chain_arena.specs.Arena.{Arena, IsTidyArena, empty_arena}
use Rattle.cloak_base.specs.declared.names.Frame.{Frame}
use Rattle.cloak_base.specs.declared.names.Kind.TheVariants.{Fetch, Load, Store}
use Rattle.shadow_fold.specs.declared.entry.Entry.{Entry}
use Rattle.shadow_fold.specs.declared.entry.ShadowCounts.{ShadowCounts}
use Rattle.shadow_fold.specs.Entries.{is_frame, IsWithin}
use Rattle.shadow_fold.specs.Table.{Table, ending}
use Rattle.multi_shadow.specs.Kept.{AreKept}
use Rattle.multi_shadow.specs.Placed.{ArePlaced, AreApart, EndsJust, live_in, number_of, is_head}
use Rattle.multi_shadow.specs.Recent.{AreOfKind, AreWithin, live_of, left_of, no_recent}
use Rattle.multi_shadow.specs.declared.recent.Recent.{Recent}
use Rattle.multi_shadow.specs.declared.shadows.Shadows.TheInside.{Inside}
use Rattle.multi_shadow.proofs.Apart.{fewer_apart}
use Rattle.multi_shadow.proofs.Recents.{still_in, live_left}
use Rattle.multi_shadow.proofs.Slots.{ended_from}

abbrev pub table_of : ℕ → List Entry → ShadowCounts → Table
table_of frames live counts = record { frames = frames; live = live; counts = counts }

-- the same entries end by a like test
pub ends_like : (p q : Entry → Bool) (A B : Arena Entry) → ((e : Entry) → p e ≡ q e) → EndsJust p A B → EndsJust q A B
ends_like p q A B like now = record {
  long = now.long;
  ended = λ s e l. let o = now.ended s e l in (o.0, sym (like e) ∙ o.1);
  kept = λ s e l miss. now.kept s e l (like e ∙ miss);
}

-- entries end by one test and then by another
pub ends_both : (p q : Entry → Bool) (A B C : Arena Entry) → EndsJust p A B → EndsJust q B C
    → EndsJust (λ e. p e || q e) A C
ends_both p q A B C one two = record {
  long = two.long ∙ one.long;
  ended = λ s e l.
      let b = two.ended s e l in let a = one.ended s e b.0 in (a.0, ap (λ t. t || q e) a.1 ∙ b.1);
  kept = λ s e l miss.
      let m = neither (p e) (q e) miss in two.kept s e (one.kept s e l m.0) m.1;
}
  where
    neither : (a b : Bool) → (a || b) ≡ false → (a ≡ false) × (b ≡ false)
    neither true b miss = absurd (true≢false miss)
    neither false b miss = (refl, miss)

-- what lies in the arena after some ended
pub left_lying : (ends : Entry → Bool) (A B : Arena Entry) → EndsJust ends A B
    → live_in B.payloads ≡ filter (λ e. not (ends e)) (live_in A.payloads)
left_lying ends A B now = ended_from ends A.payloads B.payloads now.long now.ended now.kept

-- entries end that pass the test, among the recent ones and in the arena
pub after_ending : (frames : ℕ) (ends : Entry → Bool) (r : Recent) (A B : Arena Entry) (counts : ShadowCounts)
    → EndsJust ends A B
    → table_of frames (live_of (left_of ends r) B) counts ≡ ending ends (table_of frames (live_of r A) counts)
unfolding ending
after_ending frames ends r A B counts now =
    ap (λ l. table_of frames l counts) (live_left ends r A B (left_lying ends A B now))

pub kept_ending : (s : Inside) (ends : Entry → Bool) (r : Recent) (B : Arena Entry) (hits pause : ℕ) → AreKept s
    → r ≡ left_of ends s.recent → ArePlaced B → B.heads ≡ s.arena.heads → EndsJust ends s.arena B
    → AreKept (let t : Inside = record s { arena = B; recent = r; hits = hits; pause = pause } in t)
kept_ending s ends r B hits pause kept is placed heads now =
    subst (λ (r : Recent). AreKept (let t : Inside = record s { arena = B; recent = r; hits = hits; pause = pause } in t)) (sym is) (record {
      slots = now.long ∙ kept.slots;
      heads = kept.heads ∙ sym heads;
      some = kept.some;
      power = kept.power;
      enough = kept.enough;
      placed = placed;
      of_kind = still_in (λ k e. e.kind ≡ k) ends s.recent kept.of_kind;
      recent = still_in (λ k e. IsWithin s.heads e) ends s.recent kept.recent;
      apart = subst AreApart (sym (live_left ends s.recent s.arena B (left_lying ends s.arena B now)))
          (fewer_apart (λ e. not (ends e)) (live_of s.recent s.arena) kept.apart);
    })

pub filter_none : (xs : List Entry) → filter (λ e. false) xs ≡ []
filter_none [] = refl
filter_none (x ∷ xs) = filter_none xs

pub frame_hangs : (f : Frame) (o : Option Frame) → is_head f.0 (number_of o) ≡ is_frame f o
frame_hangs f None = refl
frame_hangs f (Some g) = refl

-- When there is no entry.

pub no_kind : AreOfKind no_recent
no_kind Fetch = tt
no_kind Load = tt
no_kind Store = tt

pub no_within : (n : ℕ) → AreWithin n no_recent
no_within n Fetch = tt
no_within n Load = tt
no_within n Store = tt

pub none_apart : AreApart []
none_apart regime page kind = omega arith

-- All entries end.

pub none_live : (r : Recent) (A B : Arena Entry) → r ≡ no_recent → EndsJust (λ e. true) A B → live_of r B ≡ []
none_live r A B is now =
    ap (λ r. live_of r B) is ∙ left_lying (λ e. true) A B now ∙ filter_none (live_in A.payloads)

pub none_kept : (s : Inside) (r : Recent) (B : Arena Entry) (counts : ShadowCounts) → AreKept s → r ≡ no_recent
    → ArePlaced B → B.heads ≡ s.arena.heads → EndsJust (λ e. true) s.arena B
    → AreKept (let t : Inside = record s { arena = B; recent = r; counts = counts } in t)
none_kept s r B counts kept is placed heads now = record {
  slots = now.long ∙ kept.slots;
  heads = kept.heads ∙ sym heads;
  some = kept.some;
  power = kept.power;
  enough = kept.enough;
  placed = placed;
  of_kind = subst AreOfKind (sym is) no_kind;
  recent = subst (AreWithin s.heads) (sym is) (no_within s.heads);
  apart = subst AreApart (sym (none_live r s.arena B is now)) none_apart;
}

-- An arena in which nothing lies.

nothing_lies : (n s : ℕ) (e : Entry) → slice_get (replicate n None) s ≡ Some (Some e) → ⊥
nothing_lies zero s e is = none-some (Some e) is
nothing_lies (suc n) zero e is = none-some e (same_Some _ _ is)
nothing_lies (suc n) (suc s) e is = nothing_lies n s e is

pub empty_live : (n m : ℕ) (A : Arena Entry) → A ≡ empty_arena n m → live_in A.payloads ≡ []
empty_live n m A is = ap (λ (B : Arena Entry). live_in B.payloads) is ∙ none_lying n

pub empty_long : (n m : ℕ) (A : Arena Entry) → A ≡ empty_arena n m → length A.payloads ≡ n
empty_long n m A is = ap (λ (B : Arena Entry). length B.payloads) is ∙ length-replicate n None

pub empty_placed : (n m : ℕ) (A : Arena Entry) → A ≡ empty_arena n m → IsTidyArena A → ArePlaced A
empty_placed n m A is tidy = record {
  tidy = tidy;
  there = λ c s h e l k. absurd (nothing_lies n s e (sym (ap (λ (B : Arena Entry). slice_get B.payloads s) is) ∙ l));
  only = λ c s h e b p l. absurd (nothing_lies n s e (sym (ap (λ (B : Arena Entry). slice_get B.payloads s) is) ∙ l));
}

pub within_more : (n m : ℕ) (e : Entry) → n ≤ m → IsWithin n e → IsWithin m e
within_more n m e le w = record {
  target = let t = w.target in omega (arith, t, le);
  first = more e.pt1 w.first;
  second = more e.pt0 w.second;
}
  where
    more : (o : Option Frame) → IfSome o (λ f. f.0 < n) → IfSome o (λ f. f.0 < m)
    more None h = h
    more (Some f) h = omega (arith, h, le)
