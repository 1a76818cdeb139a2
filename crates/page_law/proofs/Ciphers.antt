-- The law of Ciphers.
use Rattle.std.proofs.Common.{◌≡◌, ℕ, zero, suc, ◌+◌, List, [], length, take, slice_get, Option, Some, None, Ok, refl, ap, subst, arith, take_all}
use Rattle.cloak_model.specs.declared.image.Bundle.{Bundle}
use Rattle.cloak_model.specs.Items.{Item}
use Rattle.cloak_model.specs.Items as item
use Rattle.cloak_model.specs.Beginning.{Beginning, opening_from}
use Rattle.cloak_model.specs.Bundle.{IsInGrammar}
use Rattle.cloak_model.specs.Cloaking.{CloakedMemory}
use Rattle.cloak_model.specs.Joint.{Turn}
use Rattle.cloak_model.specs.Opening.{RunEdge}
use Rattle.cloak_model.specs.Run.{Run, turns_from, joint_after, first_moment, run_of, closing}
use Rattle.page_law.specs.Ciphers.{keys_drawn, ShowsPage, ShowPages, pages_of_programs, ciphers_of_steps, draws_before, placing_draw, ciphers_in, InOpening, InStep, InClosing, items_of_turn, ShowsPages, CiphersShowPages}
use Rattle.page_law.specs.Keys.{HaveOwnKeys, PagesKeepTheirKeys, ClosingKeepsKeys}
use Rattle.kernel_isolation.specs.Isolation.{joint_until}
use Rattle.kernel_isolation.proofs.Opened.{is_opened}
use Rattle.page_law.proofs.Draws.{HasDrawn, AreShown, each_shown}
use Rattle.page_law.proofs.Opened.{opening_shows}
use Rattle.page_law.proofs.Runs.{TurnsUse, turns_use, behind_steps, steps_count, drawn_behind, step_shown, closing_shown, closing_drawn}
use Rattle.kernel_isolation.proofs.Isolated.{of_opened}

pub nothing_there : (at : ℕ) (i : Item) → slice_get [] at ≡ Some i → ⊥
nothing_there zero i is = cc
nothing_there (suc at) i is = cc

opened_shows : (b : Bundle) (from : Beginning) (budget : ℕ) (o : RunEdge) → IsInGrammar b → opening_from b from ≡ Ok o →
    let r = run_of b budget o in
    (at f : ℕ) (bytes : List ℕ) → slice_get r.opened.items at ≡ Some (item.Cipher f bytes) →
    ShowsPage b.programs from r.opened.joint.memory.plain (placing_draw (keys_drawn b.programs from) b.programs f) bytes
unfolding run_of
opened_shows b from budget o grammar opens = (opening_shows b from o grammar opens).shown

count_is : (b : Bundle) (from : Beginning) (turns : List Turn) (n : ℕ) →
    behind_steps (take n turns) (keys_drawn b.programs from + pages_of_programs b.programs)
    ≡ keys_drawn b.programs from + (pages_of_programs b.programs + ciphers_of_steps (take n turns))
count_is b from turns n =
    let count = steps_count (take n turns) (keys_drawn b.programs from + pages_of_programs b.programs) in
    omega (arith, count)

-- the steps of a run, with the draws that its opening made
record RunUses (b : Bundle) (from : Beginning) (budget : ℕ) (o : RunEdge) : Type 0 where
  pub turns : TurnsUse (length b.programs) o.joint (turns_from budget (first_moment b o.joint))
  pub drawn : HasDrawn (length b.programs) b.programs from (keys_drawn b.programs from + pages_of_programs b.programs)
      o.joint.memory.ledger

run_uses : (b : Bundle) (from : Beginning) (budget : ℕ) (o : RunEdge) → IsInGrammar b → opening_from b from ≡ Ok o →
    RunUses b from budget o
run_uses b from budget o grammar opens =
    let shows = opening_shows b from o grammar opens in
    let count = shows.count in
    record {
      turns = turns_use budget (first_moment b o.joint) (is_opened b from o opens).steady (omega (arith, count));
      drawn = shows.drawn;
    }

steps_show : (b : Bundle) (from : Beginning) (budget : ℕ) (o : RunEdge) → IsInGrammar b → opening_from b from ≡ Ok o →
    let r = run_of b budget o in
    (n : ℕ) (t : Turn) → slice_get r.turns n ≡ Some t →
    ShowPages b.programs from (joint_until n r).memory.plain (draws_before b from r n) t.items
unfolding run_of
steps_show b from budget o grammar opens n t is =
    let turns : List Turn = turns_from budget (first_moment b o.joint) in
    let uses = run_uses b from budget o grammar opens in
    let shown = step_shown b.programs from (keys_drawn b.programs from + pages_of_programs b.programs) n o.joint turns t
    uses.turns uses.drawn is in
    each_shown b.programs from _ _ t.items
    (subst (λ (k : ℕ). AreShown b.programs from (joint_after o.joint (take n turns)).memory.plain k t.items)
    (count_is b from turns n) shown)

-- after n steps
until_drawn : (b : Bundle) (from : Beginning) (budget : ℕ) (o : RunEdge) → IsInGrammar b → opening_from b from ≡ Ok o →
    (n : ℕ) → let r = run_of b budget o in
    HasDrawn (length b.programs) b.programs from (draws_before b from r n) (joint_until n r).memory.ledger
unfolding run_of
until_drawn b from budget o grammar opens n =
    let turns : List Turn = turns_from budget (first_moment b o.joint) in
    let uses = run_uses b from budget o grammar opens in
    let after : CloakedMemory = (joint_after o.joint (take n turns)).memory in
    subst (λ (k : ℕ). HasDrawn (length b.programs) b.programs from k after.ledger) (count_is b from turns n)
    (drawn_behind b.programs from (keys_drawn b.programs from + pages_of_programs b.programs) n o.joint turns uses.turns
    uses.drawn)

all_steps : (b : Bundle) (budget : ℕ) (o : RunEdge) → let r = run_of b budget o in
    closing (joint_until (length r.turns) r) ≡ r.closed
unfolding run_of
all_steps b budget o =
    let turns : List Turn = turns_from budget (first_moment b o.joint) in
    ap (λ (ts : List Turn). closing (joint_after o.joint ts)) (take_all (length turns) turns (omega arith))

closing_shows : (b : Bundle) (from : Beginning) (budget : ℕ) (o : RunEdge) → IsInGrammar b → opening_from b from ≡ Ok o →
    let r = run_of b budget o in let n = length r.turns in
    ShowPages b.programs from (joint_until n r).memory.plain (draws_before b from r n) r.closed.items
closing_shows b from budget o grammar opens =
    let r = run_of b budget o in
    let j = joint_until (length r.turns) r in
    each_shown b.programs from _ _ r.closed.items
    (subst (λ (c : RunEdge). AreShown b.programs from j.memory.plain (draws_before b from r (length r.turns)) c.items)
    (all_steps b budget o)
    (closing_shown b.programs from _ j (until_drawn b from budget o grammar opens (length r.turns))))

-- every Cipher
ciphers_show : (b : Bundle) (from : Beginning) (budget : ℕ) (o : RunEdge) → IsInGrammar b → opening_from b from ≡ Ok o →
    ShowsPages b from (run_of b budget o)
ciphers_show b from budget o grammar opens (InOpening at) frame bytes is =
    opened_shows b from budget o grammar opens at frame bytes is
ciphers_show b from budget o grammar opens (InStep n at) frame bytes is =
    by (slice_get (run_of b budget o).turns n) refl is
  where
    by : (found : Option Turn) → slice_get (run_of b budget o).turns n ≡ found →
        slice_get (items_of_turn found) at ≡ Some (item.Cipher frame bytes) →
        ShowsPage b.programs from (joint_until n (run_of b budget o)).memory.plain
        (draws_before b from (run_of b budget o) n + ciphers_in (take at (items_of_turn found))) bytes
    by None found there = absurd (nothing_there at (item.Cipher frame bytes) there)
    by (Some t) found there = steps_show b from budget o grammar opens n t found at frame bytes there
ciphers_show b from budget o grammar opens (InClosing at) frame bytes is =
    closing_shows b from budget o grammar opens at frame bytes is

pub ciphers_show_pages : CiphersShowPages
ciphers_show_pages b from budget r grammar is =
    of_opened b budget (ShowsPages b from) (opening_from b from) r is
    (λ o opens. ciphers_show b from budget o grammar opens)

-- The law of keys.

pub pages_keep_their_keys : PagesKeepTheirKeys
pages_keep_their_keys b from budget r grammar is n =
    of_opened b budget (λ (x : Run). HaveOwnKeys b.programs from (joint_until n x).memory.ledger) (opening_from b from) r
    is (λ o opens. (until_drawn b from budget o grammar opens n).keys)

closing_has_keys : (b : Bundle) (from : Beginning) (budget : ℕ) (o : RunEdge) → IsInGrammar b → opening_from b from ≡ Ok o →
    HaveOwnKeys b.programs from (run_of b budget o).closed.joint.memory.ledger
closing_has_keys b from budget o grammar opens =
    let r = run_of b budget o in
    let j = joint_until (length r.turns) r in
    subst (λ (c : RunEdge). HaveOwnKeys b.programs from c.joint.memory.ledger) (all_steps b budget o)
    (closing_drawn b.programs from _ j (until_drawn b from budget o grammar opens (length r.turns))).keys

pub closing_keeps_keys : ClosingKeepsKeys
closing_keeps_keys b from budget r grammar is =
    of_opened b budget (λ (x : Run). HaveOwnKeys b.programs from x.closed.joint.memory.ledger) (opening_from b from) r is
    (λ o opens. closing_has_keys b from budget o grammar opens)
