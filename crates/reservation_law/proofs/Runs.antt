-- The laws of reservations, by the steps of a run one after another.
use Rattle.std.proofs.Common.{◌≡◌, ◌∙◌, ◌<◌, ◌≤◌, ℕ, zero, suc, ◌+◌, ◌-◌, ◌%◌, Bool, true, false, not, List, [], ◌∷◌, ◌++◌, length, take, replicate, slice_get, slice_index, slice_index_or, Option, Some, None, Ok, inl, inr, refl, sym, ap, subst, arith}
use Rattle.std.specs.Prelude.{◌||◌, ◌==◌}
use Rattle.std.specs.List.{AllByRecursion, list_any}
use Rattle.std.proofs.lemmas.Bool.{cases_lt, cases_eq}
use Rattle.std.proofs.lemmas.List.{get_or_past, get_or-replicate, get_or_append_left, get_or-append_right, length-replicate}
use Rattle.cloak_base.specs.declared.causes.Stop.{Stop}
use Rattle.cloak_model.specs.declared.image.Bundle.{Bundle}
use Rattle.cloak_model.specs.declared.image.KernelImage.{KernelImage}
use Rattle.cloak_model.specs.Items.{Item}
use Rattle.cloak_model.specs.Ahead.{with_shown}
use Rattle.cloak_model.specs.Beginning.{Beginning, opening_from}
use Rattle.cloak_model.specs.Cloaking.{seen_in}
use Rattle.cloak_model.specs.Hart.{Hart, started}
use Rattle.cloak_model.specs.Joint.{Moment, Turn, hart_in, joint_step, after_turn, stop_of}
use Rattle.cloak_model.specs.KernelAlone.{kernel_seen}
use Rattle.cloak_model.specs.Memory.{Seen, mark_of, filled}
use Rattle.cloak_base.specs.Constants.{frame_of}
use Rattle.cloak_model.specs.Opening.{RunEdge, started_harts, started_kernel}
use Rattle.cloak_model.specs.Parts.{Joint, KernelPart}
use Rattle.cloak_model.specs.Run.{Run, run_from, unless_stopped, turns_from, joint_after, first_moment, run_of}
use Rattle.kernel_isolation.specs.Isolation.{joint_until}
use Rattle.kernel_isolation.proofs.Isolated.{of_opened}
use Rattle.kernel_isolation.proofs.Opened.{is_opened}
use Rattle.page_law.specs.Ciphers.{items_of_turn}
use Rattle.page_law.proofs.OwnPages.{moment_behind, step_is}
use Rattle.reservation_law.specs.Reservations.{WasReserved, ReservationsAreKept, ConditionalsStoreReserved, BytesStay}
use Rattle.reservation_law.specs.Writes.{meets_word, has_byte, items_extents, hart_of_step, deed_of_step, writes_of_step, outside_deed, spares_word}
use Rattle.reservation_law.proofs.Keeping.{marks_left}
use Rattle.reservation_law.proofs.Items.{in_ram_low}
use Rattle.reservation_law.proofs.Opened.{opened_started}
use Rattle.reservation_law.proofs.Moments.{IsOrderly, step_does, step_orderly}
use Rattle.reservation_law.proofs.Turns.{TurnDoes}
use Rattle.cloak_model.proofs.Opening.{length-started_harts}
use Rattle.cloak_model.proofs.Steps.{after_step}

-- as a test

none_passes : {A : Type 0} (p : A → Bool) (xs : List A) → AllByRecursion (λ (x : A). p x ≡ false) xs →
    not (list_any p xs) ≡ true
none_passes p [] all = refl
none_passes p (x ∷ xs) all = ap (λ (b : Bool). not (b || list_any p xs)) all.0 ∙ none_passes p xs all.1

neither : (a b : Bool) → not (a || b) ≡ true → (a ≡ false) × (not b ≡ true)
neither true b is = absurd cc
neither false b is = (refl, is)

each_fails : {A : Type 0} (p : A → Bool) (xs : List A) → not (list_any p xs) ≡ true →
    AllByRecursion (λ (x : A). p x ≡ false) xs
each_fails p [] none = tt
each_fails p (x ∷ xs) none = let both = neither (p x) (list_any p xs) none in (both.0, each_fails p xs both.1)

-- As a run begins.

started_id : (entry n : ℕ) → (started entry n).id ≡ n
unfolding started
started_id entry n = refl

started_ids : (entry n k : ℕ) → k < n → (slice_index_or (started_harts entry n) k (started 0 0)).id ≡ k
started_ids entry zero k less = absurd (omega (arith, less))
started_ids entry (suc n) k less =
    let first : List Hart = started_harts entry n in
    let last : List Hart = started entry n ∷ [] in
    let count = length-started_harts entry n in
    elim (cases_lt k n) [
      | inl low ↦
          ap (λ (h : Hart). h.id) (get_or_append_left first last (started 0 0) k (omega (arith, low, count)))
          ∙ started_ids entry n k low
      | inr high ↦
          let same : n ≡ k = omega (arith, less, high) in
          subst (λ (m : ℕ). (slice_index_or (first ++ last) m (started 0 0)).id ≡ m) same
          (ap (λ (h : Hart). h.id) (get_or-append_right first last n n (started 0 0) count (omega arith)
          ∙ ap (λ (m : ℕ). slice_index_or last m (started 0 0)) (let none : n - n ≡ 0 = omega arith in none))
          ∙ started_id entry n)
    ]

shown_marks : (ciphers : List (ℕ × List ℕ)) (s : Seen) (k pa : ℕ) → mark_of k (with_shown ciphers s).marks ≡ Some pa →
    mark_of k s.marks ≡ Some pa
shown_marks [] s k pa is = is
shown_marks (c ∷ ciphers) s k pa is =
    (marks_left (λ mark. frame_of mark == c.0) s.marks k pa (shown_marks ciphers (filled c.0 c.1 s) k pa is)).0

none_marked : (n k pa : ℕ) → mark_of k (replicate n None) ≡ Some pa → ⊥
none_marked n k pa is = elim (cases_lt k n) [
  | inl less ↦
      let none : mark_of k (replicate n None) ≡ None = get_or-replicate n k None None less in
      let clash : None ≡ Some pa = sym none ∙ is in cc
  | inr past ↦
      let count = length-replicate {A = Option ℕ} n None in
      let none : mark_of k (replicate n None) ≡ None = get_or_past (replicate n None) k None (omega
      (arith, past, count)) in
      let clash : None ≡ Some pa = sym none ∙ is in cc
]

started_marks : (image : KernelImage) (k pa : ℕ) → mark_of k (started_kernel image).marks ≡ Some pa → ⊥
unfolding started_kernel
started_marks image k pa is = none_marked image.harts k pa is

kernel_ids : (image : KernelImage) (k : ℕ) → k < length (started_kernel image).harts →
    (slice_index_or (started_kernel image).harts k (started 0 0)).id ≡ k
unfolding started_kernel
kernel_ids image k less =
    let count = length-started_harts image.entry image.harts in
    started_ids image.entry image.harts k (omega (arith, less, count))

opened_marks : (b : Bundle) (from : Beginning) (o : RunEdge) → opening_from b from ≡ Ok o → (k pa : ℕ) →
    mark_of k o.joint.memory.marks ≡ Some pa → ⊥
opened_marks b from o opens k pa is =
    let opened = is_opened b from o opens in
    let marks = ap (λ (p : KernelPart). p.marks) opened.part in
    started_marks b.kernel k pa
    (shown_marks opened.ciphers (kernel_seen (started_kernel b.kernel)) k pa
    (subst (λ (l : List (Option ℕ)). mark_of k l ≡ Some pa) marks is))

pub opened_orderly : (b : Bundle) (from : Beginning) (o : RunEdge) → opening_from b from ≡ Ok o → IsOrderly o.joint
opened_orderly b from o opens =
    let opened = is_opened b from o opens in
    let harts : o.joint.harts ≡ (started_kernel b.kernel).harts = ap (λ (p : KernelPart). p.harts) opened.part in
    let begun = opened_started b from o opens in
    record {
      steady = opened.steady;
      ids = subst (λ (l : List Hart). (k : ℕ) → k < length l → (slice_index_or l k (started 0 0)).id ≡ k) (sym harts)
          (kernel_ids b.kernel);
      words = λ k pa is. absurd (opened_marks b from o opens k pa is);
      whole = begun.whole;
      chained = begun.chained;
    }

-- The steps.

none_taken : (j : Joint) (turns : List Turn) → joint_after j (take 0 turns) ≡ j
unfolding joint_after
none_taken j [] = refl
none_taken j (t ∷ turns) = refl

turn_at : (turns : List Turn) (n : ℕ) → suc n ≤ length turns → (t : Turn) × (slice_get turns n ≡ Some t)
turn_at [] n less = absurd (omega (arith, less))
turn_at (x ∷ turns) zero less = (x, refl)
turn_at (x ∷ turns) (suc n) less = turn_at turns n (omega (arith, less))

following : (stop : Option Stop) (later : Moment → List Turn) (m : Moment) (n : ℕ) → IsOrderly m.joint →
    IsOrderly (joint_after m.joint (take n (later m))) →
    IsOrderly (joint_after m.joint (take n (unless_stopped stop later m)))
unfolding joint_after
following None later m n here rest = rest
following (Some cause) later m zero here rest = here
following (Some cause) later m (suc n) here rest = here

orderly_after : (budget n : ℕ) (m : Moment) → IsOrderly m.joint →
    IsOrderly (joint_after m.joint (take n (turns_from budget m)))
unfolding turns_from joint_after
orderly_after zero zero m here = here
orderly_after zero (suc n) m here = here
orderly_after (suc budget) zero m here = here
orderly_after (suc budget) (suc n) m here =
    let t : Turn = joint_step m in
    let next = step_orderly m here in
    following (stop_of t) (turns_from budget) (after_turn m t) n next (orderly_after budget n (after_turn m t) next)

-- a step of this number, from one state of the joint machine to another, with these items
abbrev StepDoes : Bundle → ℕ → Joint → List Item → Joint → Type 0
StepDoes b n j items j' =
    let number = slice_index b.kernel.schedule (n % length b.kernel.schedule) in
    let h = hart_in j number in
    TurnDoes (outside_deed j h h.inside) number j.harts (seen_in j.memory) items j'.harts (seen_in j'.memory)

-- What is known of a run.
record IsKnown (b : Bundle) (r : Run) : Type 0 where
  bare : (k pa : ℕ) → mark_of k (joint_until 0 r).memory.marks ≡ Some pa → ⊥
  orderly : (n : ℕ) → IsOrderly (joint_until n r)
  steps : (n : ℕ) → suc n ≤ length r.turns →
      StepDoes b n (joint_until n r) (items_of_turn (slice_get r.turns n)) (joint_until (suc n) r)

known_step : (b : Bundle) (budget : ℕ) (o : RunEdge) → IsOrderly o.joint → (n : ℕ) →
    let turns = turns_from budget (first_moment b o.joint) in suc n ≤ length turns →
    StepDoes b n (joint_after o.joint (take n turns)) (items_of_turn (slice_get turns n))
    (joint_after o.joint (take (suc n) turns))
known_step b budget o orderly n less =
    let m : Moment = first_moment b o.joint in
    let turns : List Turn = turns_from budget m in
    let found = turn_at turns n less in
    let t : Turn = found.0 in
    let j : Joint = joint_after o.joint (take n turns) in
    let behind : Moment = moment_behind m n turns in
    let step : joint_step behind ≡ t = step_is budget n m t found.1 in
    let number : m.steps + n ≡ n = omega arith in
    let does = subst (λ (k : ℕ). StepDoes b k j (joint_step behind).items (joint_step behind).joint) number
    (step_does behind (orderly_after budget n m orderly)) in
    let does' = subst (λ (x : Turn). StepDoes b n j x.items x.joint) step does in
    subst (λ (o' : Option Turn). StepDoes b n j (items_of_turn o') (joint_after o.joint (take (suc n) turns)))
    (sym found.1)
    (subst (λ (j' : Joint). StepDoes b n j t.items j') (sym (after_step o.joint turns n t found.1)) does')

known_run : (b : Bundle) (from : Beginning) (budget : ℕ) (o : RunEdge) → opening_from b from ≡ Ok o →
    IsKnown b (run_of b budget o)
unfolding run_of
known_run b from budget o opens =
    let orderly = opened_orderly b from o opens in
    record {
      bare = λ k pa is. opened_marks b from o opens k pa
          (subst (λ (j : Joint). mark_of k j.memory.marks ≡ Some pa)
          (none_taken o.joint (turns_from budget (first_moment b o.joint))) is);
      orderly = λ n. orderly_after budget n (first_moment b o.joint) orderly;
      steps = λ n less. known_step b budget o orderly n less;
    }

known : (b : Bundle) (from : Beginning) (budget : ℕ) (r : Run) → run_from b from budget ≡ Ok r → IsKnown b r
known b from budget r is = of_opened b budget (IsKnown b) (opening_from b from) r is (known_run b from budget)

-- The laws.

kept_longer : (b : Bundle) (r : Run) (n hart pa : ℕ) → WasReserved b r n hart pa →
    spares_word pa (writes_of_step b r n) ≡ true → WasReserved b r (suc n) hart pa
kept_longer b r n hart pa was spares = let before = was.before in record {
  step = was.step;
  before = omega (arith, before);
  own = was.own;
  reserved = was.reserved;
  unwritten = λ k from to. elim (cases_eq k n) [
    | inl same ↦ subst (λ (i : ℕ). spares_word pa (writes_of_step b r i) ≡ true) (sym same) spares
    | inr apart ↦ was.unwritten k from (below k n to apart)
  ];
}
  where
    below : (k n : ℕ) → suc k ≤ suc n → (k ≡ n → ⊥) → suc k ≤ n
    below k n to apart = elim (cases_lt k n) [
      | inl less ↦ less
      | inr more ↦ absurd (apart (omega (arith, to, more)))
    ]

was_reserved : (b : Bundle) (r : Run) → IsKnown b r → (n : ℕ) → n ≤ length r.turns → (hart pa : ℕ) →
    mark_of hart (joint_until n r).memory.marks ≡ Some pa → WasReserved b r n hart pa
unfolding deed_of_step
was_reserved b r known zero le hart pa is = absurd (known.bare hart pa is)
was_reserved b r known (suc n) le hart pa is =
    let does = known.steps n le in
    elim (does.marks hart pa is) as (λ _. WasReserved b r (suc n) hart pa) [
      | inl made ↦ record {
        step = n;
        before = omega arith;
        own = sym made.1;
        reserved = made.0;
        unwritten = λ k from to. absurd (omega (arith, from, to));
      }
      | inr there ↦
          let at = (known.orderly n).words hart pa there.0 in
          kept_longer b r n hart pa (was_reserved b r known n (omega (arith, le)) hart pa there.0)
          (none_passes (meets_word pa) (writes_of_step b r n) (there.1 at))
    ]

pub reservations_are_kept : ReservationsAreKept
reservations_are_kept b from budget r is n le hart pa there =
    was_reserved b r (known b from budget r is) n le hart pa there

pub conditionals_store_reserved : ConditionalsStoreReserved
unfolding deed_of_step
conditionals_store_reserved b from budget r is n pa less stores =
    let k = known b from budget r is in
    let kept = (k.steps n less).conditional pa stores in
    let at = (k.orderly n).words (hart_of_step b n) pa kept.0 in
    record {
      kept = was_reserved b r k n (omega (arith, less)) (hart_of_step b n) pa kept.0;
      settled = none_passes (meets_word pa) (items_extents (items_of_turn (slice_get r.turns n))) (kept.1 at);
    }

pub bytes_stay : BytesStay
unfolding deed_of_step
bytes_stay b from budget r is n pa less inside spares =
    let k = known b from budget r is in
    let before : Joint = joint_until n r in
    (k.steps n less).bytes (k.orderly n).whole pa (in_ram_low before.memory.ram pa inside)
    (each_fails (has_byte pa) (writes_of_step b r n) spares)
