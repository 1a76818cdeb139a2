-- Each page has 4096 bytes at every moment of a run: as many by the law of the latest store, and bytes by that of items.
use Rattle.std.proofs.Common.{◌≡◌, ℕ, ◌<◌, ◌≤◌, length, Ok, sym, subst, inl, inr, arith}
use Rattle.std.proofs.lemmas.Bool.{cases_lt}
use Rattle.cloak_base.specs.declared.names.PageId.{PageId}
use Rattle.cloak_model.specs.declared.image.Bundle.{Bundle}
use Rattle.cloak_model.specs.Beginning.{Beginning}
use Rattle.cloak_model.specs.Bundle.{IsInGrammar}
use Rattle.cloak_model.specs.Parts.{Joint}
use Rattle.cloak_model.specs.Run.{Run, run_from}
use Rattle.range_law.specs.Writing.{AreBytes, IsOfBytes, IsBeginningOfBytes}
use Rattle.range_law.proofs.Bounds.{by_place}
use Rattle.range_law.proofs.Turns.{JointFits, turn_fits}
use Rattle.kernel_isolation.specs.Isolation.{joint_until}
use Rattle.latest_store.proofs.Histories.{runs_give_latest}
use Rattle.limit_law.proofs.Moments.{at_every_moment}
use Rattle.limit_law.proofs.Words.{opened_words}
use Rattle.frozen_law.specs.Pages.{PagesAreWhole}
use Rattle.frozen_law.proofs.Marks.{same_after}
use Rattle.range_law.proofs.Beginnings.{is_beginning}

module _ (b : Bundle) (from : Beginning) (budget : ℕ) (r : Run) (grammar : IsInGrammar b) (bytes : IsOfBytes b)
    (all : IsBeginningOfBytes b from) (is : run_from b from budget ≡ Ok r) where
  are_bytes : (n : ℕ) (q : PageId) → AreBytes ((joint_until n r).memory.plain q)
  are_bytes n q =
      (at_every_moment JointFits b from budget r (opened_words b from grammar bytes all)
      (λ m same fits. (turn_fits m fits).joint) is n).memory.plain q

  among_steps : (n : ℕ) → n ≤ length r.turns → (q : PageId) → length ((joint_until n r).memory.plain q) ≡ 4096
  among_steps n low q = ((runs_give_latest b from budget r grammar (is_beginning b from all) is).pages n low q).whole

  are_whole : (n : ℕ) (q : PageId) → length ((joint_until n r).memory.plain q) ≡ 4096
  are_whole n q = elim (cases_lt n (length r.turns)) [
    | inl low ↦ among_steps n (omega (arith, low)) q
    | inr high ↦
        subst (λ (j : Joint). length (j.memory.plain q) ≡ 4096) (sym (same_after r n high))
        (among_steps (length r.turns) (omega arith) q)
  ]

pub pages_are_whole : PagesAreWhole
pages_are_whole b from budget r grammar bytes all is n q = record {
  long = are_whole b from budget r grammar bytes all is n q;
  bytes = by_place (λ b. b < 256) _ (are_bytes b from budget r grammar bytes all is n q);
}
