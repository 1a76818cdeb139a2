-- What ended is gone, what ended it is told, and refusals are few: over each step of the joint machine, and in a run.
use Rattle.std.proofs.Common.{◌≡◌, ◌∙◌, ℕ, zero, suc, ◌+◌, ◌-◌, ◌^◌, ◌<◌, ◌≤◌, Bool, true, false, List, [], ◌∷◌, length, length-set, replicate, take, slice_get, slice_set, slice_index_or, Option, Some, None, IfSome, Ok, refl, sym, ap, subst, arith}
use Rattle.std.specs.Prelude.{IsSome, IsSomeAnd, is_some}
use Rattle.std.proofs.Math.Nat.{min-le_left, min-le_right}
use Rattle.std.proofs.lemmas.Bool.{false≢true}
use Rattle.cloak_base.specs.declared.causes.Violation.{Violation}
use Rattle.cloak_model.specs.declared.image.Bundle.{Bundle}
use Rattle.cloak_model.specs.declared.image.Program.{Program}
use Rattle.cloak_model.specs.declared.resource.Region.{Region}
use Rattle.cloak_model.specs.Beginning.{Beginning, opening_from}
use Rattle.cloak_model.specs.Bundle.{IsInGrammar}
use Rattle.cloak_model.specs.Cloaking.{CloakedMemory}
use Rattle.cloak_model.specs.DomainState.{Domain, started_control, started_domain}
use Rattle.cloak_model.specs.Ending.{ended_domain}
use Rattle.cloak_model.specs.Joint.{Moment, Turn, end_domain, step_before_end, joint_step, after_turn, stop_of}
use Rattle.cloak_model.specs.Opening.{RunEdge, started_joint, started_domains}
use Rattle.cloak_model.specs.Parts.{Joint}
use Rattle.cloak_model.specs.Run.{Run, turns_from, joint_after, first_moment, run_of}
use Rattle.cloak_model.specs.StoredFiles.{FileContents}
use Rattle.kernel_isolation.specs.Isolation.{joint_until}
use Rattle.kernel_isolation.proofs.FilesAdded.{IsGiven}
use Rattle.kernel_isolation.proofs.Isolated.{of_opened}
use Rattle.resource_map.specs.Kept.{IsInUse}
use Rattle.resource_map.proofs.Lists.{get_or-replicate_none}
use Rattle.frozen_state.specs.Limits.{has_ended}
use Rattle.limit_law.specs.Endings.{HasNothing, EndedAreGone, EndedAreTold, AreFew, RefusalsAreFew}
use Rattle.limit_law.proofs.Endings.{answers_give, answers_keep}
use Rattle.limit_law.proofs.Gone.{Gone, AllGone, step_keeps_gone}
use Rattle.limit_law.proofs.Moments.{IsKept, following, at_every_moment}
use Rattle.limit_law.proofs.Openings.{begins, given_all}
use Rattle.limit_law.proofs.Programs.{AllOf}
use Rattle.limit_law.proofs.RootRuns.{roots_are_of_spaces_in_use}
use Rattle.limit_law.proofs.Runs.{next_is_low}
use Rattle.limit_law.proofs.Told.{flags, LeavesEnded, flags_set, step_leaves}

-- What ended is gone. As a run begins, nothing has ended.

abbrev Lives : Domain → Type 0
Lives d = d.control.ended ≡ false

started_lives : (d : ℕ) (p : Program) → Lives (started_domain d p.start)
unfolding started_domain started_control
started_lives d p = refl

domains_live : (d : ℕ) (programs : List Program) → AllOf Lives (started_domains d programs)
domains_live d [] k = tt
domains_live d (p ∷ programs) zero = started_lives d p
domains_live d (p ∷ programs) (suc k) = domains_live (d + 1) programs k

abbrev JointLives : Joint → Type 0
JointLives j = AllOf Lives j.domains

joint_lives : (b : Bundle) (m : CloakedMemory) → JointLives (started_joint b m)
unfolding started_joint
joint_lives b m = domains_live 0 b.programs

live_gone : (o : Option Domain) → IfSome o Lives → IfSome o Gone
live_gone None lives = tt
live_gone (Some d) lives = λ over. absurd (false≢true (sym lives ∙ over))

abbrev JointGone : Joint → Type 0
JointGone j = AllGone j.domains

opened_gone : (b : Bundle) (from : Beginning) (o : RunEdge) → opening_from b from ≡ Ok o → JointGone o.joint
opened_gone b from o opens d =
    live_gone (slice_get o.joint.domains d)
    (begins JointLives b from (joint_lives b) (λ f x y. given_all Lives f x y (λ was lives. lives)) o opens d)

gone_is_kept : (b : Bundle) → IsInGrammar b → IsKept JointGone b.kernel.schedule
gone_is_kept b grammar m same all = step_keeps_gone m (next_is_low b m grammar same) all

at_domain : (found : Option Domain) (program : Domain) → found ≡ Some program → IfSome found Gone → Gone program
at_domain None program is here = absurd cc
at_domain (Some x) program is here = let same : x ≡ program = cc in subst Gone same here

-- a page table is recorded of a space in use alone
no_space : (o : Option (List Region)) → o ≡ None → IsSome o → ⊥
no_space None none used = false≢true used
no_space (Some regions) none used = absurd cc

none_there : (o : Option Domain) (program : Domain) (space : ℕ) → o ≡ Some program → HasNothing program.control →
    IsSomeAnd o (λ d. IsInUse d.control.resources space) → ⊥
none_there None program space is nothing there = there
none_there (Some x) program space is nothing there =
    let same : x ≡ program = cc in
    no_space _ (nothing.spaces space) (subst (λ (d : Domain). IsInUse d.control.resources space) same there)

root_none : (o : Option ℕ) → (is_some o ≡ true → ⊥) → o ≡ None
root_none None never = refl
root_none (Some satp) never = absurd (never refl)

pub ended_are_gone : EndedAreGone
ended_are_gone b from budget r grammar is n d program there over =
    let nothing = at_domain _ program there
    (at_every_moment JointGone b from budget r (opened_gone b from) (gone_is_kept b grammar) is n d)
    over in
    record {
      nothing = nothing;
      roots = λ s own. root_none ((joint_until n r).memory.ledger.root s) (λ some.
          none_there (slice_get (joint_until n r).domains s.domain) program s.number
          (ap (slice_get (joint_until n r).domains) own ∙ there) nothing
          (roots_are_of_spaces_in_use b from budget r grammar is n s some));
    }

-- What ended it is told. Places beyond the last program are free.

abbrev Tells : List (Option Violation) → List Bool → Type 0
Tells places [] = (d : ℕ) → slice_index_or places d None ≡ None
Tells [] (over ∷ rest) = ⊥
Tells (place ∷ places) (over ∷ rest) = (is_some place ≡ over) × Tells places rest

tells_ended : (places : List (Option Violation)) (domains : List Domain) (d : ℕ) (was : Domain) (v : Violation) →
    slice_get domains d ≡ Some was → Tells places (flags domains) →
    Tells (slice_set places d (Some v)) (flags (slice_set domains d (ended_domain was)))
unfolding ended_domain
tells_ended places [] d was v is tells = absurd cc
tells_ended [] (x ∷ domains) d was v is tells = absurd tells
tells_ended (place ∷ places) (x ∷ domains) zero was v is tells = (refl, tells.1)
tells_ended (place ∷ places) (x ∷ domains) (suc d) was v is tells =
    (tells.0, tells_ended places domains d was v is tells.1)

place_tells : (places : List (Option Violation)) (domains : List Domain) (d : ℕ) → Tells places (flags domains) →
    is_some (slice_index_or places d None) ≡ has_ended (slice_get domains d)
place_tells places [] d tells = ap is_some (tells d)
place_tells [] (x ∷ domains) d tells = absurd tells
place_tells (place ∷ places) (x ∷ domains) zero tells = tells.0
place_tells (place ∷ places) (x ∷ domains) (suc d) tells = place_tells places domains d tells.1

record JointTells (j : Joint) : Type 0 where
  four : length j.ended ≡ 4
  tells : Tells j.ended (flags j.domains)

domains_tell : (n d : ℕ) (programs : List Program) → length programs ≤ n →
    Tells (replicate n None) (flags (started_domains d programs))
domains_tell n d [] few = λ k. get_or-replicate_none n k
domains_tell zero d (p ∷ programs) few = absurd (omega (arith, few))
domains_tell (suc n) d (p ∷ programs) few = (sym (started_lives d p), domains_tell n (d + 1) programs (omega (arith, few)))

joint_tells : (b : Bundle) (m : CloakedMemory) → IsInGrammar b → JointTells (started_joint b m)
unfolding started_joint
joint_tells b m grammar = record { four = refl; tells = domains_tell 4 0 b.programs grammar.few_programs }

given_leaves : (f : FileContents) (x y : Joint) → IsGiven f x y → LeavesEnded x y
given_leaves f x y given =
    subst (LeavesEnded x) given.is
    (record {
      ended = refl;
      refused = refl;
      flags = flags_set x.domains f.domain given.domain _ given.there (record { ended = refl });
    })

end_tells : (d : ℕ) (was : Domain) (v : Violation) (t : Turn) → slice_get t.joint.domains d ≡ Some was →
    JointTells t.joint → JointTells (end_domain d was v t).joint
unfolding end_domain
end_tells d was v t is here = record {
  four = length-set t.joint.ended d (Some v) ∙ here.four;
  tells = tells_ended t.joint.ended t.joint.domains d was v is here.tells;
}

before_tells : (j j' : Joint) → LeavesEnded j j' → JointTells j → JointTells j'
before_tells j j' leaves here = record {
  four = ap length leaves.ended ∙ here.four;
  tells = subst (λ (places : List (Option Violation)). Tells places (flags j'.domains)) (sym leaves.ended)
      (subst (Tells j.ended) (sym leaves.flags) here.tells);
}

step_tells : (m : Moment) → JointTells m.joint → JointTells (joint_step m).joint
unfolding joint_step
step_tells m here =
    answers_keep JointTells (λ t tells. record { four = tells.four; tells = tells.tells }) end_tells _ _ (step_before_end m)
    (before_tells m.joint (step_before_end m).joint (step_leaves m) here)

pub ended_are_told : EndedAreTold
ended_are_told b from budget r grammar is n =
    let here = at_every_moment JointTells b from budget r
    (begins JointTells b from (λ m. joint_tells b m grammar) (λ f x y given. before_tells x y (given_leaves f x y given)))
    (λ m same tells. step_tells m tells) is n in
    record { four = here.four; taken = λ d. place_tells (joint_until n r).ended (joint_until n r).domains d here.tells }

-- Refusals are few.

-- what a step makes of the count
record CountsOn (before after : ℕ) : Type 0 where
  one : after ≤ before + 1
  counted : before < 2 ^ 64 → after < 2 ^ 64

step_counts : (m : Moment) → CountsOn m.joint.refused (joint_step m).joint.refused
unfolding joint_step end_domain
step_counts m =
    answers_give (λ (j : Joint). j.refused ≡ m.joint.refused) (λ (j : Joint). CountsOn m.joint.refused j.refused)
    (λ j same. record { one = omega (arith, same); counted = λ low. omega (arith, same, low) })
    (λ t same.
    let left = min-le_left (t.joint.refused + 1) (2 ^ 64 - 1) in
    let right = min-le_right (t.joint.refused + 1) (2 ^ 64 - 1) in
    record { one = omega (arith, same, left); counted = λ low. omega (arith, right) })
    (λ d was v t is same. record { one = omega (arith, same); counted = λ low. omega (arith, same, low) }) _ _
    (step_before_end m) (step_leaves m).refused

record CountsRefused (before n after : ℕ) : Type 0 where
  by_steps : after ≤ before + n
  counted : after < 2 ^ 64

after_counts : (budget n : ℕ) (m : Moment) → m.joint.refused < 2 ^ 64 →
    CountsRefused m.joint.refused n (joint_after m.joint (take n (turns_from budget m))).refused
unfolding turns_from joint_after
after_counts zero zero m low = record { by_steps = omega arith; counted = low }
after_counts zero (suc n) m low = record { by_steps = omega arith; counted = low }
after_counts (suc budget) zero m low = record { by_steps = omega arith; counted = low }
after_counts (suc budget) (suc n) m low =
    let t : Turn = joint_step m in
    let c = step_counts m in
    let one = c.one in
    let rest = after_counts budget n (after_turn m t) (c.counted low) in
    let more = rest.by_steps in
    following (λ (j : Joint). CountsRefused m.joint.refused (suc n) j.refused) (stop_of t) (turns_from budget) (after_turn m t) n
    (record { by_steps = omega (arith, one); counted = c.counted low })
    (record { by_steps = omega (arith, one, more); counted = rest.counted })

abbrev FewAtAll : Run → Type 0
FewAtAll r = (n : ℕ) → AreFew n (joint_until n r).refused

opened_few : (b : Bundle) (budget : ℕ) (o : RunEdge) → o.joint.refused ≡ 0 → FewAtAll (run_of b budget o)
unfolding run_of
opened_few b budget o none n =
    let few = after_counts budget n (first_moment b o.joint) (omega (arith, none)) in
    let steps = few.by_steps in
    record { by_steps = omega (arith, none, steps); counted = few.counted }

joint_none : (b : Bundle) (m : CloakedMemory) → (started_joint b m).refused ≡ 0
unfolding started_joint
joint_none b m = refl

pub refusals_are_few : RefusalsAreFew
refusals_are_few b from budget r is =
    of_opened b budget FewAtAll (opening_from b from) r is
    (λ o opens. opened_few b budget o
    (begins (λ (j : Joint). j.refused ≡ 0) b from (joint_none b)
    (λ f x y given none. (given_leaves f x y given).refused ∙ none) o opens))
