-- No two Ciphers of a run are under one draw.
use Rattle.std.proofs.Common.{◌≡◌, ◌∙◌, ◌⊎◌, inl, inr, ℕ, zero, suc, ◌+◌, ◌-◌, ◌≤◌, ◌<◌, Bool, true, false, cond, List, [], ◌∷◌, length, take, slice_get, Option, Some, None, Ok, refl, sym, ap, subst, arith}
use Rattle.std.proofs.lemmas.Bool.{cases_lt, cases_eq, false≢true}
use Rattle.cloak_model.specs.declared.image.Bundle.{Bundle}
use Rattle.cloak_model.specs.declared.image.Program.{Program}
use Rattle.cloak_model.specs.Items.{Item}
use Rattle.cloak_model.specs.Items as item
use Rattle.cloak_model.specs.Beginning.{Beginning, opening_from}
use Rattle.cloak_model.specs.Joint.{Turn}
use Rattle.cloak_model.specs.Opening.{RunEdge, is_placed}
use Rattle.cloak_model.specs.Run.{Run, run_of}
use Rattle.page_law.specs.Ciphers.{keys_drawn, cipher_count, ciphers_in, pages_of_programs, ciphers_of_steps, draws_before, placing_draw, ItemPlace, InOpening, InStep, InClosing, items_of_turn, item_at, draw_number, HaveOwnDraws, CiphersHaveOwnDraws}
use Rattle.page_law.proofs.Opened.{inside_or_apart, apart_later, OpeningPlaces, opening_places}
use Rattle.page_law.proofs.Ciphers.{nothing_there}
use Rattle.kernel_isolation.proofs.Isolated.{of_opened}

-- The opening: pages of programs are placed under draws of their own.

-- a frame in which a later program was placed, or this one
abbrev Placing : ℕ → Program → List Program → ℕ → Type 0
Placing k p programs f =
    ((is_placed programs f ≡ true)
    × (placing_draw k (p ∷ programs) f ≡ placing_draw (k + p.start.pages) programs f)) ⊎
    ((p.place ≤ f) × ((f < p.place + p.start.pages) × (placing_draw k (p ∷ programs) f ≡ k + (f - p.place))))

placing_by : (k : ℕ) (p : Program) (programs : List Program) (f : ℕ) (later : Bool) → is_placed programs f ≡ later →
    is_placed (p ∷ programs) f ≡ true → Placing k p programs f
placing_by k p programs f true is placed =
    inl (is, ap (λ (b : Bool). cond b (placing_draw (k + p.start.pages) programs f) (k + (f - p.place))) is)
placing_by k p programs f false is placed = elim (inside_or_apart p f) [
  | inl there ↦
      inr (
        there.0,
        (
          there.1,
          ap
              (λ (b : Bool). cond b (placing_draw (k + p.start.pages) programs f) (k + (f - p.place))) is,
        ),
      )
  | inr apart ↦ absurd (false≢true (sym is ∙ (sym (apart_later p programs f apart) ∙ placed)))
]

placing : (k : ℕ) (p : Program) (programs : List Program) (f : ℕ) → is_placed (p ∷ programs) f ≡ true →
    Placing k p programs f
placing k p programs f placed = placing_by k p programs f (is_placed programs f) refl placed

-- such a draw is one of those for these programs
placing_within : (k : ℕ) (programs : List Program) (f : ℕ) → is_placed programs f ≡ true →
    (k ≤ placing_draw k programs f) × (placing_draw k programs f < k + pages_of_programs programs)
placing_within k [] f placed = absurd (false≢true placed)
placing_within k (p ∷ programs) f placed = elim (placing k p programs f placed) [
  | inl later ↦
      let rest = placing_within (k + p.start.pages) programs f later.0 in
      let same = later.1 in
      let low = rest.0 in
      let high = rest.1 in
      (omega (arith, same, low), omega (arith, same, high))
  | inr here ↦
      let low = here.0 in
      let high = here.1.0 in
      let same = here.1.1 in
      (omega (arith, same), omega (arith, same, low, high))
]

-- and two frames have two
placing_apart : (k : ℕ) (programs : List Program) (f g : ℕ) → is_placed programs f ≡ true →
    is_placed programs g ≡ true → placing_draw k programs f ≡ placing_draw k programs g → f ≡ g
placing_apart k [] f g placed placed' is = absurd (false≢true placed)
placing_apart k (p ∷ programs) f g placed placed' is = elim (placing k p programs f placed) [
  | inl later ↦ elim (placing k p programs g placed') [
    | inl later' ↦
        placing_apart (k + p.start.pages) programs f g later.0 later'.0 (sym later.1 ∙ (is ∙ later'.1))
    | inr here' ↦
        let low = (placing_within (k + p.start.pages) programs f later.0).0 in
        let same = later.1 in
        let at = here'.0 in
        let high = here'.1.0 in
        let same' = here'.1.1 in
        absurd (omega (arith, is, low, same, at, high, same'))
  ]
  | inr here ↦ elim (placing k p programs g placed') [
    | inl later' ↦
        let low = (placing_within (k + p.start.pages) programs g later'.0).0 in
        let same' = later'.1 in
        let at = here.0 in
        let high = here.1.0 in
        let same = here.1.1 in
        absurd (omega (arith, is, low, same, at, high, same'))
    | inr here' ↦
        let at = here.0 in
        let at' = here'.0 in
        let same = here.1.1 in
        let same' = here'.1.1 in
        omega (arith, is, at, at', same, same')
  ]
]

-- Among the items of a step.

-- fewer Ciphers stand before a Cipher than there are
fewer_before : (items : List Item) (at f : ℕ) (bytes : List ℕ) → slice_get items at ≡ Some (item.Cipher f bytes) →
    ciphers_in (take at items) < ciphers_in items
fewer_before [] at f bytes is = absurd (nothing_there at (item.Cipher f bytes) is)
fewer_before (i ∷ items) zero f bytes is =
    let same : item.Cipher f bytes ≡ i = cc in
    let one : 1 ≡ cipher_count i = ap (λ (x : Item). cipher_count x) same in omega (arith, one)
fewer_before (i ∷ items) (suc at) f bytes is =
    let rest = fewer_before items at f bytes is in omega (arith, rest)

-- and before two of them not as many
not_as_many : (items : List Item) (at at' f f' : ℕ) (bytes bytes' : List ℕ) →
    slice_get items at ≡ Some (item.Cipher f bytes) → slice_get items at' ≡ Some (item.Cipher f' bytes') →
    ciphers_in (take at items) ≡ ciphers_in (take at' items) → at ≡ at'
not_as_many [] at at' f f' bytes bytes' is is' same = absurd (nothing_there at (item.Cipher f bytes) is)
not_as_many (i ∷ items) zero zero f f' bytes bytes' is is' same = refl
not_as_many (i ∷ items) zero (suc at') f f' bytes bytes' is is' same =
    let found : item.Cipher f bytes ≡ i = cc in
    let one : 1 ≡ cipher_count i = ap (λ (x : Item). cipher_count x) found in absurd (omega (arith, one, same))
not_as_many (i ∷ items) (suc at) zero f f' bytes bytes' is is' same =
    let found : item.Cipher f' bytes' ≡ i = cc in
    let one : 1 ≡ cipher_count i = ap (λ (x : Item). cipher_count x) found in absurd (omega (arith, one, same))
not_as_many (i ∷ items) (suc at) (suc at') f f' bytes bytes' is is' same =
    ap (λ (x : ℕ). suc x)
    (not_as_many items at at' f f' bytes bytes' is is' (omega (arith, same)))

-- Among the steps.

more_behind : (turns : List Turn) (n m : ℕ) (t : Turn) → slice_get turns n ≡ Some t → n < m →
    ciphers_of_steps (take n turns) + ciphers_in t.items ≤ ciphers_of_steps (take m turns)
more_behind turns n zero t is less = absurd (omega (arith, less))
more_behind [] zero (suc m) t is less = absurd cc
more_behind [] (suc n) (suc m) t is less = absurd cc
more_behind (x ∷ turns) zero (suc m) t is less =
    let same : x ≡ t = cc in
    let count : ciphers_in x.items ≡ ciphers_in t.items = ap (λ (y : Turn). ciphers_in y.items) same in
    omega (arith, count)
more_behind (x ∷ turns) (suc n) (suc m) t is less =
    let rest = more_behind turns n m t is (omega (arith, less)) in omega (arith, rest)

pub is_step : (turns : List Turn) (n : ℕ) (t : Turn) → slice_get turns n ≡ Some t → n < length turns
is_step [] zero t is = absurd cc
is_step [] (suc n) t is = absurd cc
is_step (x ∷ turns) zero t is = omega arith
is_step (x ∷ turns) (suc n) t is = (let rest = is_step turns n t is in omega (arith, rest))

-- A Cipher of a step is under a draw before those of what follows.
record IsBefore (b : Bundle) (from : Beginning) (r : Run) (n at f : ℕ) : Type 0 where
  pub step : n < length r.turns
  pub before : (m : ℕ) → n < m → draw_number b from r (InStep n at) f < draws_before b from r m

is_before : (b : Bundle) (from : Beginning) (r : Run) (n at f : ℕ) (bytes : List ℕ) →
    item_at r (InStep n at) ≡ Some (item.Cipher f bytes) → IsBefore b from r n at f
is_before b from r n at f bytes is = by (slice_get r.turns n) refl is
  where
    by : (found : Option Turn) → slice_get r.turns n ≡ found →
        slice_get (items_of_turn found) at ≡ Some (item.Cipher f bytes) → IsBefore b from r n at f
    by None found there = absurd (nothing_there at (item.Cipher f bytes) there)
    by (Some t) found there = record {
      step = is_step r.turns n t found;
      before = λ m less.
          let steps = more_behind r.turns n m t found less in
          let items = fewer_before t.items at f bytes there in
          let same : ciphers_in (take at (items_of_turn (slice_get r.turns n))) ≡ ciphers_in (take at t.items) =
          ap (λ (o : Option Turn). ciphers_in (take at (items_of_turn o))) found in
          omega (arith, steps, items, same);
    }

-- The whole run.

steps_apart : (b : Bundle) (from : Beginning) (r : Run) (n at f n' at' f' : ℕ) (bytes bytes' : List ℕ) →
    item_at r (InStep n at) ≡ Some (item.Cipher f bytes) → item_at r (InStep n' at') ≡ Some (item.Cipher f' bytes') →
    draw_number b from r (InStep n at) f ≡ draw_number b from r (InStep n' at') f' → InStep n at ≡ InStep n' at'
steps_apart b from r n at f n' at' f' bytes bytes' is is' same = elim (cases_eq n n') [
  | inl one ↦
      let is'' : item_at r (InStep n at') ≡ Some (item.Cipher f' bytes') =
      ap (λ (x : ℕ). item_at r (InStep x at')) one ∙ is' in
      let number : draw_number b from r (InStep n at) f ≡ draw_number b from r (InStep n at') f' =
      same ∙ ap (λ (x : ℕ). draw_number b from r (InStep x at') f') (sym one) in
      let items : List Item = items_of_turn (slice_get r.turns n) in
      let places : at ≡ at' = not_as_many items at at' f f' bytes bytes' is is'' (omega (arith, number)) in
      ap (λ (x : ℕ). InStep x at) one ∙ ap (λ (x : ℕ). InStep n' x) places
  | inr other ↦ elim (cases_lt n n') [
    | inl less ↦
        let first = (is_before b from r n at f bytes is).before n' less in absurd (omega (arith, first, same))
    | inr more ↦
        let second = (is_before b from r n' at' f' bytes' is').before n (omega (arith, other, more)) in
        absurd (omega (arith, second, same))
  ]
]

own_draws : (b : Bundle) (from : Beginning) (r : Run) → OpeningPlaces b r.opened.items → HaveOwnDraws b from r
own_draws b from r places = record { not_key = later; apart = apart }
  where
    keys : ℕ
    keys = keys_drawn b.programs from

    within : (at f : ℕ) (bytes : List ℕ) → slice_get r.opened.items at ≡ Some (item.Cipher f bytes) →
        (keys ≤ placing_draw keys b.programs f)
        × (placing_draw keys b.programs f < keys + pages_of_programs b.programs)
    within at f bytes is = placing_within keys b.programs f (places.placed at f bytes is)

    later : (place : ItemPlace) (f : ℕ) (bytes : List ℕ) → item_at r place ≡ Some (item.Cipher f bytes) →
        keys ≤ draw_number b from r place f
    later (InOpening at) f bytes is = (within at f bytes is).0
    later _ f bytes is = omega arith

    apart : (place place' : ItemPlace) (f f' : ℕ) (bytes bytes' : List ℕ) →
        item_at r place ≡ Some (item.Cipher f bytes) → item_at r place' ≡ Some (item.Cipher f' bytes') →
        draw_number b from r place f ≡ draw_number b from r place' f' → place ≡ place'
    apart (InOpening at) (InOpening at') f f' bytes bytes' is is' same =
        let frames : f ≡ f' =
        placing_apart keys b.programs f f' (places.placed at f bytes is) (places.placed at' f' bytes' is') same in
        let is'' = subst (λ (x : ℕ). slice_get r.opened.items at' ≡ Some (item.Cipher x bytes')) (sym frames) is' in
        ap (λ (x : ℕ). InOpening x) (places.once at at' f bytes bytes' is is'')
    apart (InOpening at) (InStep n' at') f f' bytes bytes' is is' same =
        let high = (within at f bytes is).1 in absurd (omega (arith, high, same))
    apart (InOpening at) (InClosing at') f f' bytes bytes' is is' same =
        let high = (within at f bytes is).1 in absurd (omega (arith, high, same))
    apart (InStep n at) (InOpening at') f f' bytes bytes' is is' same =
        let high = (within at' f' bytes' is').1 in absurd (omega (arith, high, same))
    apart (InStep n at) (InStep n' at') f f' bytes bytes' is is' same =
        steps_apart b from r n at f n' at' f' bytes bytes' is is' same
    apart (InStep n at) (InClosing at') f f' bytes bytes' is is' same =
        let s = is_before b from r n at f bytes is in
        let first = s.before (length r.turns) s.step in absurd (omega (arith, first, same))
    apart (InClosing at) (InOpening at') f f' bytes bytes' is is' same =
        let high = (within at' f' bytes' is').1 in absurd (omega (arith, high, same))
    apart (InClosing at) (InStep n' at') f f' bytes bytes' is is' same =
        let s = is_before b from r n' at' f' bytes' is' in
        let first = s.before (length r.turns) s.step in absurd (omega (arith, first, same))
    apart (InClosing at) (InClosing at') f f' bytes bytes' is is' same =
        ap (λ (x : ℕ). InClosing x)
        (not_as_many r.closed.items at at' f f' bytes bytes' is is' (omega (arith, same)))

run_opens : (b : Bundle) (from : Beginning) (budget : ℕ) (o : RunEdge) → opening_from b from ≡ Ok o →
    OpeningPlaces b (run_of b budget o).opened.items
unfolding run_of
run_opens b from budget o opens = opening_places b from o opens

run_has_own_draws : (b : Bundle) (from : Beginning) (budget : ℕ) (o : RunEdge) → opening_from b from ≡ Ok o →
    HaveOwnDraws b from (run_of b budget o)
run_has_own_draws b from budget o opens =
    own_draws b from (run_of b budget o) (run_opens b from budget o opens)

pub ciphers_have_own_draws : CiphersHaveOwnDraws
ciphers_have_own_draws b from budget r is =
    of_opened b budget (HaveOwnDraws b from) (opening_from b from) r is (run_has_own_draws b from budget)
