-- There are as many of all at every moment of a run, each under its number.
use Rattle.std.proofs.Common.{◌≡◌, ◌∙◌, ℕ, zero, suc, ◌<◌, List, [], ◌∷◌, length, slice_get, slice_index_or, Option, Some, None, IfSome, Ok, refl, sym, ap, arith}
use Rattle.std.proofs.lemmas.List.{length-map, length-set}
use Rattle.cloak_base.specs.declared.causes.Violation.{Violation}
use Rattle.cloak_model.specs.declared.image.Bundle.{Bundle}
use Rattle.cloak_model.specs.Beginning.{Beginning, opening_from}
use Rattle.cloak_model.specs.Cloaking.{CloakedMemory}
use Rattle.cloak_model.specs.DomainState.{Domain}
use Rattle.cloak_model.specs.Ending.{ended_domain}
use Rattle.cloak_model.specs.Hart.{Hart, started}
use Rattle.cloak_model.specs.Joint.{Moment, Turn, end_domain, step_before_end, joint_step}
use Rattle.cloak_model.specs.Opening.{RunEdge, started_kernel, started_joint}
use Rattle.cloak_model.specs.Parts.{Joint}
use Rattle.disk_law.proofs.Turns.{step_keeps}
use Rattle.range_law.proofs.Bounds.{all_get}
use Rattle.kernel_isolation.specs.Isolation.{joint_until}
use Rattle.kernel_isolation.proofs.FilesAdded.{added_keep, files_of, opens_over}
use Rattle.kernel_isolation.proofs.Numbers.{AreFrom, number_at}
use Rattle.limit_law.proofs.Endings.{answers_keep}
use Rattle.limit_law.proofs.Moments.{at_every_moment}
use Rattle.limit_law.proofs.Told.{step_leaves}
use Rattle.reservation_law.proofs.Moments.{IsOrderly, step_does, step_orderly}
use Rattle.reservation_law.proofs.Runs.{opened_orderly}
use Rattle.frozen_law.specs.Sizes.{RunsKeepSizes}
use Rattle.frozen_state.specs.Thawing.{IsHart}
use Rattle.frozen_law.proofs.Counts.{are_counted}
use Rattle.frozen_law.proofs.HartRuns.{JointFits, fits_at}
use Rattle.frozen_law.proofs.Harts.{Fits}
use Rattle.frozen_law.proofs.MarkCounts.{marks_are_counted}
use Rattle.cloak_model.proofs.Opening.{length-started_harts, length-started_domains}

-- Programs.

end_count : (n d : ℕ) (was : Domain) (v : Violation) (t : Turn) → slice_get t.joint.domains d ≡ Some was →
    length t.joint.domains ≡ n → length (end_domain d was v t).joint.domains ≡ n
unfolding end_domain
end_count n d was v t is there = length-set t.joint.domains d (ended_domain was) ∙ there

step_count : (n : ℕ) (m : Moment) → length m.joint.domains ≡ n → length (joint_step m).joint.domains ≡ n
unfolding joint_step
step_count n m here =
    answers_keep (λ (j : Joint). length j.domains ≡ n) (λ t there. there) (end_count n) _ _ (step_before_end m)
    (sym (length-map (step_before_end m).joint.domains (λ (d : Domain). d.control.ended))
    ∙ (ap length (step_leaves m).flags ∙ (length-map m.joint.domains (λ (d : Domain). d.control.ended) ∙ here)))

-- At each moment.

record Counted (b : Bundle) (j : Joint) : Type 0 where
  orderly : IsOrderly j
  harts : length j.harts ≡ b.kernel.harts
  disk : length j.disk ≡ length b.kernel.disk
  programs : length j.domains ≡ length b.programs

step_counted : (b : Bundle) (m : Moment) → Counted b m.joint → Counted b (joint_step m).joint
step_counted b m here = record {
  orderly = step_orderly m here.orderly;
  harts = (step_does m here.orderly).count ∙ here.harts;
  disk = step_keeps m here.orderly.whole here.orderly.chained ∙ here.disk;
  programs = step_count (length b.programs) m here.programs;
}

started_counts : (b : Bundle) (m : CloakedMemory) → let j = started_joint b m in
    (length j.harts ≡ b.kernel.harts) × (length j.disk ≡ length b.kernel.disk)
    × (length j.domains ≡ length b.programs)
unfolding started_joint started_kernel
started_counts b m = (length-started_harts b.kernel.entry b.kernel.harts, refl, length-started_domains 0 b.programs)

opened_counted : (b : Bundle) (from : Beginning) (o : RunEdge) → opening_from b from ≡ Ok o → Counted b o.joint
opened_counted b from o opens =
    let over = opens_over b from o opens in
    let keeps = added_keep (files_of from) (started_joint b over.memory) o.joint over.added in
    let counts = started_counts b over.memory in
    record {
      orderly = opened_orderly b from o opens;
      harts = ap length keeps.harts ∙ counts.0;
      disk = ap length keeps.disk ∙ counts.1;
      programs = keeps.count ∙ counts.2;
    }

-- One of a list.

-- the element that is there, also by its default
there_or : (harts : List Hart) (k : ℕ) (h d : Hart) → slice_get harts k ≡ Some h →
    (k < length harts) × (slice_index_or harts k d ≡ h)
there_or [] k h d is = absurd cc
there_or (x ∷ harts) zero h d is = (omega arith, (let same : x ≡ h = cc in same))
there_or (x ∷ harts) (suc k) h d is =
    let rest = there_or harts k h d is in let low = rest.0 in (omega (arith, low), rest.1)

hart_by : (j : Joint) (k : ℕ) (o : Option Hart) → slice_get j.harts k ≡ o → IsOrderly j → JointFits j →
    IfSome o (IsHart k)
hart_by j k None is orderly fits = tt
hart_by j k (Some h) is orderly fits =
    let there = there_or j.harts k h (started 0 0) is in
    record {
      numbered = ap (λ (x : Hart). x.id) (sym there.1) ∙ orderly.ids k there.0;
      csrs = (all_get Fits j.harts k h fits is).csrs.numbers;
    }

number_by : (domains : List Domain) (d : ℕ) (o : Option Domain) → slice_get domains d ≡ o → AreFrom 0 domains →
    IfSome o (λ program. program.control.number ≡ d)
number_by domains d None is from = tt
number_by domains d (Some program) is from = number_at d domains program from is

pub runs_keep_sizes : RunsKeepSizes
runs_keep_sizes b from budget r grammar is n =
    let j : Joint = joint_until n r in
    let counted = at_every_moment (Counted b) b from budget r (opened_counted b from)
    (λ m same here. step_counted b m here) is n in
    let memory = are_counted b from budget r is n in
    record {
      harts = counted.harts;
      each = λ k. hart_by j k (slice_get j.harts k) refl counted.orderly (fits_at b from budget r grammar is n);
      marks = marks_are_counted b from budget r is n;
      frames = memory.frames;
      owed = memory.places;
      disk = counted.disk;
      programs = counted.programs;
      numbers = λ d. number_by j.domains d (slice_get j.domains d) refl memory.steady.programs;
    }
