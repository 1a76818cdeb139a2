-- Runs with one kernel image and one outward half agree in the kernel's part after every step.
use Rattle.std.proofs.Common.{◌≡◌, ◌∙◌, ◌≤◌, ℕ, zero, suc, List, [], ◌∷◌, ◌++◌, length, take, Option, Some, None, Ok, refl, sym, ap, subst, arith, take_all, append_assoc}
use Rattle.std.specs.List.{AllByRecursion}
use Rattle.std.proofs.lemmas.List.{length-map, take-map}
use Rattle.std.proofs.lemmas.List.Elements.{filter-append}
use Rattle.cloak_base.specs.declared.causes.Stop.{Stop}
use Rattle.cloak_model.specs.declared.image.Bundle.{Bundle}
use Rattle.cloak_model.specs.declared.image.KernelImage.{KernelImage}
use Rattle.cloak_model.specs.Items.{Item}
use Rattle.cloak_model.specs.Items as item
use Rattle.cloak_model.specs.Beginning.{Beginning, opening_from}
use Rattle.cloak_model.specs.Exchange.{steps_items}
use Rattle.cloak_model.specs.Halves.{is_outward, outward_half}
use Rattle.cloak_model.specs.Joint.{Moment, Turn, joint_step, after_turn, stop_of}
use Rattle.cloak_model.specs.KernelAlone.{KernelAlone, kernel_alone}
use Rattle.cloak_model.specs.Opening.{RunEdge}
use Rattle.cloak_model.specs.Parts.{KernelPart, kernel_part}
use Rattle.cloak_model.specs.Record.{IsCipher}
use Rattle.cloak_model.specs.Run.{Run, unless_stopped, turns_from, first_moment, joint_after, run_of, run_from, exchange, run_outward_half}
use Rattle.kernel_isolation.specs.Isolation.{items_by_step, items_until, HasKernel, KernelDependsOnHalf, WritesAnExchange}
use Rattle.kernel_isolation.proofs.Ignoring.{outward_half_suffices}
use Rattle.kernel_isolation.proofs.Turns.{IsSteady, turn_is_alone}
use Rattle.kernel_isolation.proofs.Opened.{is_opened}
use Rattle.kernel_isolation.proofs.Closed.{is_closed}
use Rattle.kernel_isolation.proofs.Markers.{AreOfStep, ciphers_are_ciphers, before_step, before_step_is, closes_at, closes_at_is}
use Rattle.kernel_isolation.proofs.Isolated.{of_opened, until_read, kernel_is_alone, kernel_ends_alone}

-- The items of a run.

turns_of_step : (o : Option Stop) (later : Moment → List Turn) (m : Moment) →
    AllByRecursion AreOfStep (items_by_step (later m)) →
    AllByRecursion AreOfStep (items_by_step (unless_stopped o later m))
turns_of_step None later m all = all
turns_of_step (Some cause) later m all = tt

steps_of_step : (budget : ℕ) (m : Moment) → IsSteady m.joint →
    AllByRecursion AreOfStep (items_by_step (turns_from budget m))
unfolding turns_from
steps_of_step zero m steady = tt
steps_of_step (suc budget) m steady =
    let t : Turn = joint_step m in
    let turn = turn_is_alone m steady in (
      turn.items,
      turns_of_step (stop_of t) (turns_from budget) (after_turn m t)
          (steps_of_step budget (after_turn m t) turn.steady),
    )

-- of the opening and the closing, and of each step
record WritesAsExchange (r : Run) : Type 0 where
  pub opening : AllByRecursion IsCipher r.opened.items
  pub steps : AllByRecursion AreOfStep (items_by_step r.turns)
  pub closing : AllByRecursion IsCipher r.closed.items

writes_of : (b : Bundle) (from : Beginning) (budget : ℕ) (o : RunEdge) → opening_from b from ≡ Ok o →
    WritesAsExchange (run_of b budget o)
unfolding run_of
writes_of b from budget o opens =
    let opened = is_opened b from o opens in
    let m : Moment = first_moment b o.joint in
    let turns : List Turn = turns_from budget m in
    let all : take (length turns) turns ≡ turns = take_all (length turns) turns (omega arith) in
    let read = until_read b from budget o opens (length turns) (omega arith) in
    let closed = is_closed (joint_after o.joint turns)
    (subst (λ (ts : List Turn). IsSteady (joint_after o.joint ts)) all read.steady).places in
    record {
      opening = subst (AllByRecursion IsCipher) (sym opened.items) (ciphers_are_ciphers opened.ciphers);
      steps = steps_of_step budget m opened.steady;
      closing = subst (AllByRecursion IsCipher) (sym closed.items) (ciphers_are_ciphers closed.ciphers);
    }

writes : (b : Bundle) (from : Beginning) (budget : ℕ) (r : Run) → run_from b from budget ≡ Ok r → WritesAsExchange r
writes b from budget r is = of_opened b budget WritesAsExchange (opening_from b from) r is (writes_of b from budget)

pub writes_an_exchange : WritesAnExchange
writes_an_exchange b from budget r is =
    let w = writes b from budget r is in
    record {
      opening = r.opened.items;
      steps = items_by_step r.turns;
      closing = r.closed.items;
      order = refl;
      opening_ciphers = w.opening;
      of_steps = w.steps;
      closing_ciphers = w.closing;
    }

one_cipher : (i : Item) → IsCipher i → AreOfStep (i ∷ [])
one_cipher (item.Cipher frame bytes) is = (refl, tt)
one_cipher i is = absurd cc

opening_of_step : (items : List Item) → AllByRecursion IsCipher items → AreOfStep items
opening_of_step [] all = tt
opening_of_step (i ∷ items) all = ((one_cipher i all.0).0, opening_of_step items all.1)

-- The outward half up to the end of a step, from the whole one.

abbrev until_from : ℕ → List Item → List Item
until_from n half = before_step n half ++ item.Close n ∷ []

half_until : (r : Run) → WritesAsExchange r → (n : ℕ) → n ≤ length r.turns →
    outward_half (items_until n r) ≡ until_from n (run_outward_half r)
half_until r w n le =
    let steps : List (List Item) = items_by_step r.turns in
    let first : List Item = steps_items 1 (items_by_step (take n r.turns)) in
    let rest : List Item = r.closed.items ++ item.End ∷ [] in
    let count : length steps ≡ length r.turns = length-map r.turns (λ (t : Turn). t.items) in
    let same : before_step n (run_outward_half r) ≡ outward_half (r.opened.items ++ first) =
    before_step_is n r.opened.items steps (length steps) rest (opening_of_step r.opened.items w.opening) w.steps
    (omega (arith, count, le))
    ∙ ap (λ (l : List (List Item)). outward_half (r.opened.items ++ steps_items 1 l))
    (take-map (λ (t : Turn). t.items) n r.turns) in
    ap outward_half (sym (append_assoc r.opened.items first (item.Close n ∷ [])))
    ∙ (filter-append is_outward (r.opened.items ++ first) (item.Close n ∷ [])
    ∙ ap (λ (l : List Item). l ++ item.Close n ∷ []) (sym same))

steps_told : (r : Run) → WritesAsExchange r → closes_at (run_outward_half r) ≡ length r.turns
steps_told r w =
    let steps : List (List Item) = items_by_step r.turns in
    closes_at_is r.opened.items steps (length steps) (r.closed.items ++ item.End ∷ [])
    (opening_of_step r.opened.items w.opening) w.steps
    ∙ length-map r.turns (λ (t : Turn). t.items)

-- Two runs.

same_kernel : (k k' : KernelImage) (items items' : List Item) (p p' : KernelPart) → k' ≡ k → items' ≡ items →
    HasKernel (kernel_alone k items) p → HasKernel (kernel_alone k' items') p' → p' ≡ p
same_kernel k k' items items' p p' image half has has' =
    sym has'.same
    ∙ (ap (λ (x : KernelImage). (kernel_alone x items').kernel) image
    ∙ (ap (λ (l : List Item). (kernel_alone k l).kernel) half ∙ has.same))

pub kernel_depends_on_half : KernelDependsOnHalf
kernel_depends_on_half b b' from from' budget budget' r r' is is' image half =
    let w = writes b from budget r is in
    let w' = writes b' from' budget' r' is' in
    let steps : length r'.turns ≡ length r.turns = sym (steps_told r' w') ∙ (ap closes_at half ∙ steps_told r w) in
    let ends = kernel_ends_alone b from budget r is in
    let ends' = kernel_ends_alone b' from' budget' r' is' in
    record {
      steps = steps;
      after = λ n le.
          let le' : n ≤ length r'.turns = subst (λ (x : ℕ). n ≤ x) (sym steps) le in
          same_kernel b.kernel b'.kernel _ _ _ _ image
          (half_until r' w' n le' ∙ (ap (until_from n) half ∙ sym (half_until r w n le)))
          (kernel_is_alone b from budget r is n le) (kernel_is_alone b' from' budget' r' is' n le');
      closed = same_kernel b.kernel b'.kernel (run_outward_half r) (run_outward_half r') _ _ image half
          (subst (λ (s : KernelAlone). HasKernel s (kernel_part r.closed.joint))
          (sym (outward_half_suffices b.kernel (exchange r))) ends)
          (subst (λ (s : KernelAlone). HasKernel s (kernel_part r'.closed.joint))
          (sym (outward_half_suffices b'.kernel (exchange r'))) ends');
    }
