-- The closing: frame after frame is settled, by rising number.
use Rattle.std.proofs.Common.{◌≡◌, ◌∙◌, ◌<◌, ◌≤◌, ℕ, zero, suc, Bool, true, false, cond, List, [], ◌∷◌, ◌++◌, length, map, filter, take, Option, None, is_some, Ok, refl, sym, ap, ap₂, subst, arith, inl, inr, take_all}
use Rattle.std.specs.Prelude.{slice_index_or}
use Rattle.std.proofs.lemmas.Bool.{cases_lt}
use Rattle.std.proofs.lemmas.List.{get_or_past, append-nil, map-append}
use Rattle.std.proofs.lemmas.List.Elements.{filter-append}
use Rattle.cloak_base.specs.declared.names.PageId.{PageId}
use Rattle.cloak_model.specs.declared.image.Bundle.{Bundle}
use Rattle.cloak_model.specs.Items.{Item}
use Rattle.cloak_model.specs.Items as item
use Rattle.cloak_model.specs.Ahead.{is_owed}
use Rattle.cloak_model.specs.Beginning.{Beginning, opening_from}
use Rattle.cloak_model.specs.Cloaking.{CloakedMemory, owed_in, settle}
use Rattle.cloak_model.specs.Joint.{Turn, cloak_outside, hart_in}
use Rattle.cloak_model.specs.Opening.{RunEdge, numbers_below}
use Rattle.cloak_model.specs.Parts.{Joint}
use Rattle.cloak_model.specs.Run.{Run, joint_after, closing, settled_below, turns_from, first_moment, run_of}
use Rattle.cloak_model.specs.World.{MidStep, cipher_items}
use Rattle.kernel_isolation.proofs.Settlings.{HasPlaces}
use Rattle.kernel_isolation.proofs.Isolated.{until_read, of_opened}
use Rattle.cause_law.specs.Closing.{memory_at_end, closed_memory, owed_frames, ClosingOwesNothing, ClosingShowsOwed, ClosingSparesOthers}
use Rattle.cause_law.proofs.Settled.{shown_if, settles}

-- the item that shows a frame of this RAM
abbrev shows : List (List ℕ) → ℕ → Item
shows ram f = item.Cipher f (slice_index_or ram f [])

-- What the frames below n are after their settling, and what was written.
record Below (n : ℕ) (c c' : MidStep) : Type 0 where
  pub places : HasPlaces c'.memory
  pub count : length c'.memory.ram ≡ length c.memory.ram
  pub clean : (f : ℕ) → f < n → owed_in c'.memory f ≡ None
  pub owed : (f : ℕ) → n ≤ f → owed_in c'.memory f ≡ owed_in c.memory f
  pub spared : (f : ℕ) → is_owed c.memory f ≡ false →
      slice_index_or c'.memory.ram f [] ≡ slice_index_or c.memory.ram f []
  -- by any RAM that is as this below n
  pub written : (ram : List (List ℕ)) →
      ((f : ℕ) → f < n → slice_index_or ram f [] ≡ slice_index_or c'.memory.ram f []) →
      c'.items ≡ c.items ++ map (shows ram) (filter (is_owed c.memory) (numbers_below n))

shown_one : (ram : List (List ℕ)) (owed : Bool) (f : ℕ) (bytes : List ℕ) → slice_index_or ram f [] ≡ bytes →
    cipher_items (shown_if owed f bytes) ≡ map (shows ram) (cond owed (f ∷ []) [])
shown_one ram true f bytes is = ap (λ (l : List ℕ). item.Cipher f l ∷ []) (sym is)
shown_one ram false f bytes is = refl

append_assoc : (a b c : List Item) → (a ++ b) ++ c ≡ a ++ (b ++ c)
append_assoc [] b c = refl
append_assoc (x ∷ a) b c = ap (λ (l : List Item). x ∷ l) (append_assoc a b c)

below : (n : ℕ) (c : MidStep) → HasPlaces c.memory → Below n c (settled_below n c)
unfolding settled_below
below zero c places = record {
  places = places;
  count = refl;
  clean = λ f lt. absurd (omega (arith, lt));
  owed = λ f le. refl;
  spared = λ f none. refl;
  written = λ ram same. sym (append-nil c.items);
}
below (suc n) c places =
    let b = below n c places in
    let c' : MidStep = settled_below n c in
    let s = settles n c'.memory b.places in
    let m : CloakedMemory = (settle n c'.memory).memory in
    let was : owed_in c'.memory n ≡ owed_in c.memory n = b.owed n (omega arith) in
    record {
      places = s.places;
      count = s.count ∙ b.count;
      clean = λ f lt. elim (cases_lt f n) [
        | inl low ↦ s.owed f (λ e. omega (arith, e, low)) ∙ b.clean f low
        | inr high ↦ let e : f ≡ n = omega (arith, lt, high) in
            subst (λ (x : ℕ). owed_in m x ≡ None) (sym e) s.clean
      ];
      owed = λ f le. s.owed f (λ e. omega (arith, e, le)) ∙ b.owed f (omega (arith, le));
      spared = λ f none. elim (cases_lt f n) [
        | inl low ↦ s.ram f (λ e. omega (arith, e, low)) ∙ b.spared f none
        | inr high ↦ elim (cases_lt n f) [
          | inl more ↦ s.ram f (λ e. omega (arith, e, more)) ∙ b.spared f none
          | inr less ↦
              let e : f ≡ n = omega (arith, high, less) in
              subst (λ (x : ℕ). is_owed c.memory x ≡ false →
              slice_index_or m.ram x [] ≡ slice_index_or c.memory.ram x []) (sym e)
              (λ none'. s.spared (ap (λ (o : Option PageId). is_some o) was ∙ none') ∙ b.spared n none') none
        ]
      ];
      written = λ ram same.
          let bytes : List ℕ = slice_index_or m.ram n [] in
          let owed : Bool = is_owed c.memory n in
          let one : cipher_items (settle n c'.memory).ciphers ≡ map (shows ram) (cond owed (n ∷ []) []) =
          ap cipher_items (s.shown ∙ ap (λ (o : Option PageId). shown_if (is_some o) n bytes) was)
          ∙ shown_one ram owed n bytes (same n (omega arith)) in
          let before : List Item = map (shows ram) (filter (is_owed c.memory) (numbers_below n)) in
          ap₂ (λ (x y : List Item). x ++ y)
          (b.written ram (λ f lt. same f (omega (arith, lt)) ∙ s.ram f (λ e. omega (arith, e, lt)))) one
          ∙ (append_assoc c.items before (map (shows ram) (cond owed (n ∷ []) []))
          ∙ ap (λ (l : List Item). c.items ++ l)
          (sym (ap (map (shows ram)) (filter-append (is_owed c.memory) (numbers_below n) (n ∷ []))
          ∙ map-append (shows ram) (filter (is_owed c.memory) (numbers_below n)) (cond owed (n ∷ []) []))));
    }

-- A machine, closed.
record ClosesSo (j : Joint) (o : RunEdge) : Type 0 where
  pub clean : (f : ℕ) → owed_in o.joint.memory f ≡ None
  pub written : o.items ≡ map (shows o.joint.memory.ram) (owed_frames j.memory)
  pub spared : (f : ℕ) → is_owed j.memory f ≡ false →
      slice_index_or o.joint.memory.ram f [] ≡ slice_index_or j.memory.ram f []

closes_so : (j : Joint) → HasPlaces j.memory → ClosesSo j (closing j)
unfolding closing
closes_so j places =
    let c : MidStep = cloak_outside j.memory (hart_in j 0) in
    let n = length j.memory.ram in
    let b = below n c places in
    let c' : MidStep = settled_below n c in
    record {
      clean = λ f. elim (cases_lt f n) [
        | inl low ↦ b.clean f low
        | inr high ↦ get_or_past c'.memory.ledger.owed f None
            (subst (λ (x : ℕ). x ≤ f) (sym (b.places ∙ b.count)) high)
      ];
      written = b.written c'.memory.ram (λ f lt. refl);
      spared = b.spared;
    }

-- The run.

opened_closes : (b : Bundle) (from : Beginning) (budget : ℕ) (o : RunEdge) → opening_from b from ≡ Ok o →
    let r = run_of b budget o in ClosesSo (joint_after r.opened.joint r.turns) r.closed
unfolding run_of
opened_closes b from budget o opens =
    let turns : List Turn = turns_from budget (first_moment b o.joint) in
    let all : take (length turns) turns ≡ turns = take_all (length turns) turns (omega arith) in
    let read = until_read b from budget o opens (length turns) (omega arith) in
    closes_so (joint_after o.joint turns)
    (subst (λ (ts : List Turn). HasPlaces (joint_after o.joint ts).memory) all read.steady.places)

pub closing_owes_nothing : ClosingOwesNothing
closing_owes_nothing b from budget r is =
    of_opened b budget (λ (r : Run). (f : ℕ) → owed_in (closed_memory r) f ≡ None) (opening_from b from) r is
    (λ o opens. (opened_closes b from budget o opens).clean)

pub closing_shows_owed : ClosingShowsOwed
closing_shows_owed b from budget r is =
    of_opened b budget
    (λ (r : Run). r.closed.items ≡ map (shows (closed_memory r).ram) (owed_frames (memory_at_end r)))
    (opening_from b from) r is (λ o opens. (opened_closes b from budget o opens).written)

pub closing_spares_others : ClosingSparesOthers
closing_spares_others b from budget r is =
    of_opened b budget
    (λ (r : Run). (f : ℕ) → is_owed (memory_at_end r) f ≡ false →
    slice_index_or (closed_memory r).ram f [] ≡ slice_index_or (memory_at_end r).ram f [])
    (opening_from b from) r is (λ o opens. (opened_closes b from budget o opens).spared)
