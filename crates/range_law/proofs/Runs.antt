-- A run: each of its items is one of a record, and so what it writes is the record of its exchange.
use Rattle.std.proofs.Common.{◌≡◌, ℕ, zero, suc, ◌+◌, ◌^◌, ◌<◌, ◌≤◌, List, [], ◌∷◌, length, Option, Some, None, Ok, refl, arith}
use Rattle.std.specs.List.{AllByRecursion}
use Rattle.std.proofs.lemmas.List.{length-map}
use Rattle.cloak_base.specs.declared.causes.Stop.{Stop}
use Rattle.cloak_model.specs.declared.image.Bundle.{Bundle}
use Rattle.cloak_model.specs.Items.{Item}
use Rattle.cloak_model.specs.Items as item
use Rattle.cloak_model.specs.Beginning.{Beginning, opening_from}
use Rattle.cloak_model.specs.Bundle.{IsInGrammar}
use Rattle.cloak_model.specs.Exchange.{steps_items}
use Rattle.cloak_model.specs.Joint.{Moment, Turn, joint_step, after_turn, stop_of, cloak_outside, hart_in}
use Rattle.cloak_model.specs.Opening.{RunEdge}
use Rattle.cloak_model.specs.Parts.{Joint}
use Rattle.cloak_model.specs.Record.{IsItem}
use Rattle.cloak_model.specs.Run.{Run, unless_stopped, turns_from, joint_after, settled_below, closing, first_moment, run_of}
use Rattle.cloak_model.specs.World.{MidStep}
use Rattle.kernel_isolation.specs.Isolation.{items_by_step}
use Rattle.kernel_isolation.proofs.Isolated.{of_opened}
use Rattle.kernel_isolation.proofs.TwoRuns.{writes_an_exchange}
use Rattle.range_law.specs.Writing.{IsOfBytes, IsBeginningOfBytes, WritesARecord}
use Rattle.range_law.proofs.Opened.{opened_fits}
use Rattle.range_law.proofs.Turns.{JointFits, turn_fits}
use Rattle.range_law.proofs.Worlds.{CloakFits, settled_cloak}
use Rattle.cloak_base.proofs.Lists.{each_append}

abbrev AreItems : List Item → Type 0
AreItems items = AllByRecursion IsItem items

-- The steps.

record StepsFit (most : ℕ) (j : Joint) (turns : List Turn) : Type 0 where
  pub few : length turns ≤ most
  pub items : AllByRecursion AreItems (items_by_step turns)
  pub joint : JointFits (joint_after j turns)

steps_behind : (o : Option Stop) (most : ℕ) (later : Moment → List Turn) (m : Moment) → JointFits m.joint →
    StepsFit most m.joint (later m) → StepsFit most m.joint (unless_stopped o later m)
unfolding joint_after
steps_behind None most later m fits steps = steps
steps_behind (Some cause) most later m fits steps = record { few = omega arith; items = tt; joint = fits }

steps_fit : (budget : ℕ) (m : Moment) → JointFits m.joint → StepsFit budget m.joint (turns_from budget m)
unfolding turns_from joint_after
steps_fit zero m fits = record { few = omega arith; items = tt; joint = fits }
steps_fit (suc budget) m fits =
    let t : Turn = joint_step m in
    let turn = turn_fits m fits in
    let rest = steps_behind (stop_of t) budget (turns_from budget) (after_turn m t) turn.joint
    (steps_fit budget (after_turn m t) turn.joint) in
    let few = rest.few in
    record { few = omega (arith, few); items = (turn.items, rest.items); joint = rest.joint }

-- The closing.

below_fits : (n : ℕ) (c : MidStep) → CloakFits c → CloakFits (settled_below n c)
unfolding settled_below
below_fits zero c fits = fits
below_fits (suc n) c fits = settled_cloak n (settled_below n c) (below_fits n c fits)

closing_items : (j : Joint) → JointFits j → AreItems (closing j).items
unfolding closing
closing_items j fits =
    (below_fits (length j.memory.ram) (cloak_outside j.memory (hart_in j 0)) (record {
      memory = fits.memory;
      items = tt;
    })).items

-- The run.

record RunFits (most : ℕ) (r : Run) : Type 0 where
  pub few : length r.turns ≤ most
  pub opening : AreItems r.opened.items
  pub steps : AllByRecursion AreItems (items_by_step r.turns)
  pub closing : AreItems r.closed.items

run_of_fits : (b : Bundle) (from : Beginning) (budget : ℕ) → IsInGrammar b → IsOfBytes b → IsBeginningOfBytes b from →
    (o : RunEdge) → opening_from b from ≡ Ok o → RunFits budget (run_of b budget o)
unfolding run_of
run_of_fits b from budget grammar bytes all o opens =
    let opened = opened_fits b from o grammar bytes all opens in
    let steps = steps_fit budget (first_moment b o.joint) opened.joint in
    record {
      few = steps.few;
      opening = opened.items;
      steps = steps.items;
      closing = closing_items _ steps.joint;
    }

steps_items_fit : (number : ℕ) (steps : List (List Item)) → number + length steps < 2 ^ 32 →
    AllByRecursion AreItems steps → AreItems (steps_items number steps)
unfolding steps_items
steps_items_fit number [] few all = tt
steps_items_fit number (x ∷ steps) few all = (
  omega (arith, few),
  each_append IsItem x (steps_items (suc number) steps) all.0
      (steps_items_fit (suc number) steps (omega (arith, few)) all.1),
)

pub writes_a_record : WritesARecord
writes_a_record b from budget r grammar bytes all least is =
    let fits = of_opened b budget (RunFits budget) (opening_from b from) r is
    (run_of_fits b from budget grammar bytes all) in
    let few = fits.few in
    let steps : List (List Item) = items_by_step r.turns in
    let count : length steps ≡ length r.turns = length-map r.turns (λ (t : Turn). t.items) in
    record {
      spells = refl;
      fields = each_append IsItem r.opened.items _ fits.opening
          (each_append IsItem (steps_items 1 steps) _
          (steps_items_fit 1 steps (omega (arith, count, few, least)) fits.steps)
          (omega (arith, count, few, least), each_append IsItem r.closed.items (item.End ∷ []) fits.closing (tt, tt)));
      exchange = writes_an_exchange b from budget r is;
    }
