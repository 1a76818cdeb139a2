-- Draws are few at every moment of a run.
use Rattle.std.proofs.Common.{◌≡◌, ℕ, zero, suc, ◌+◌, ◌-◌, ◌*◌, ◌^◌, ◌≤◌, List, [], ◌∷◌, length, replicate, take, Option, Some, None, IfSome, Ok, refl, ap, subst, arith}
use Rattle.std.specs.Prelude.{All, option_and_then}
use Rattle.std.proofs.Math.Nat.{min-le_left}
use Rattle.std.proofs.lemmas.List.Elements.{All-head, All-tail}
use Rattle.cloak_base.specs.Random.{Random}
use Rattle.cloak_base.specs.declared.names.PageId.{PageId}
use Rattle.cloak_model.specs.declared.image.Bundle.{Bundle}
use Rattle.cloak_model.specs.declared.image.Program.{Program}
use Rattle.cloak_model.specs.Beginning.{Beginning, opening_from}
use Rattle.cloak_model.specs.Bundle.{IsProgramIn, IsInGrammar}
use Rattle.cloak_model.specs.Cloaking.{CloakedMemory}
use Rattle.cloak_model.specs.Joint.{Moment, Turn, joint_step, after_turn, stop_of}
use Rattle.cloak_model.specs.Ledger.{Keys, next_vector}
use Rattle.cloak_model.specs.Opening.{RunEdge, started_joint, started_ledger, started_memory, place_pages, place_programs}
use Rattle.cloak_model.specs.PageMoves.{place, place_with}
use Rattle.cloak_model.specs.Parts.{Joint}
use Rattle.cloak_model.specs.Run.{Run, run_from, run_of, turns_from, first_moment, joint_after}
use Rattle.cloak_model.specs.World.{Cloaked}
use Rattle.kernel_isolation.specs.Isolation.{joint_until}
use Rattle.kernel_isolation.proofs.FilesAdded.{added_keep, files_of, opens_over}
use Rattle.kernel_isolation.proofs.Isolated.{of_opened}
use Rattle.kernel_isolation.proofs.Opened.{is_opened}
use Rattle.kernel_isolation.proofs.Turns.{IsSteady, turn_is_alone}
use Rattle.limit_law.proofs.Memories.{Carries, step_carries}
use Rattle.limit_law.proofs.Moments.{following}
use Rattle.frozen_law.specs.Draws.{DrawsAreFew, DrawsAreBelow}
use Rattle.frozen_law.proofs.Draws.{owing, AreFew, few_wide, settle_few, step_few, end_few}

-- What each step takes from one number to the next.

module _ (P : ℕ → Joint → Type 0) (wider : (k : ℕ) (j : Joint) → P k j → P (suc k) j)
    (kept : (k : ℕ) (m : Moment) → P k m.joint → P (suc k) (joint_step m).joint)
  where
    wide : (n k : ℕ) (j : Joint) → P k j → P (k + n) j
    wide zero k j here = let same : k ≡ k + 0 = omega arith in subst (λ (i : ℕ). P i j) same here
    wide (suc n) k j here =
        let same : suc k + n ≡ k + suc n = omega arith in
        subst (λ (i : ℕ). P i j) same (wide n (suc k) j (wider k j here))

    pub after_counted : (budget n k : ℕ) (m : Moment) → P k m.joint →
        P (k + n) (joint_after m.joint (take n (turns_from budget m)))
    unfolding turns_from joint_after
    after_counted zero zero k m here = wide 0 k m.joint here
    after_counted zero (suc n) k m here = wide (suc n) k m.joint here
    after_counted (suc budget) zero k m here = wide 0 k m.joint here
    after_counted (suc budget) (suc n) k m here =
        let t : Turn = joint_step m in
        let next : P (suc k) t.joint = kept k m here in
        let same : suc k + n ≡ k + suc n = omega arith in
        following (P (k + suc n)) (stop_of t) (turns_from budget) (after_turn m t) n
        (subst (λ (i : ℕ). P i t.joint) same (wide n (suc k) t.joint next))
        (subst (λ (i : ℕ). P i (joint_after t.joint (take n (turns_from budget (after_turn m t))))) same
        (after_counted budget n (suc k) (after_turn m t) next))

-- A step.

few_carries : (n : ℕ) → Carries (AreFew n) (AreFew (n + 2))
few_carries n = record {
  settled = settle_few n;
  later = λ m few. few_wide n (n + 2) m (omega arith) few;
  stepped = λ slot was c places few. step_few n slot was (Cloaked c) few;
  seen = λ s m few. few;
  rooted = λ root m few. few;
  ended = λ d m few. end_few (n + 2) d _ few;
}

record IsFew (k : ℕ) (j : Joint) : Type 0 where
  steady : IsSteady j
  few : AreFew (4096 + 2 * k) j.memory

few_wider : (k : ℕ) (j : Joint) → IsFew k j → IsFew (suc k) j
few_wider k j here = record { steady = here.steady; few = few_wide _ _ j.memory (omega arith) here.few }

few_kept : (k : ℕ) (m : Moment) → IsFew k m.joint → IsFew (suc k) (joint_step m).joint
few_kept k m here = record {
  steady = (turn_is_alone m here.steady).steady;
  few = few_wide (4096 + 2 * k + 2) (4096 + 2 * suc k) (joint_step m).joint.memory (omega arith)
      (step_carries (AreFew (4096 + 2 * k)) (AreFew (4096 + 2 * k + 2)) (few_carries (4096 + 2 * k)) m here.steady.places
      here.few);
}

-- The opening.

and_then_few : (n : ℕ) (f : CloakedMemory → Option CloakedMemory) (o : Option CloakedMemory) (k : ℕ) →
    ((m : CloakedMemory) → AreFew k m → IfSome (f m) (AreFew n)) → IfSome o (AreFew k) →
    IfSome (option_and_then f o) (AreFew n)
and_then_few n f None k later here = tt
and_then_few n f (Some m) k later here = later m here

place_one : (n : ℕ) (q : PageId) (f : ℕ) (bytes : List ℕ) (draw : Option (List ℕ × Random)) (m : CloakedMemory) →
    AreFew n m → IfSome (place_with q f bytes draw m) (AreFew (n + 1))
unfolding place_with
place_one n q f bytes None m few = tt
place_one n q f bytes (Some draw) m few =
    let most = min-le_left (m.ledger.draws + 1) (2 ^ 64 - 1) in omega (arith, most, few)

placed_few : (n : ℕ) (q : PageId) (f : ℕ) (bytes : List ℕ) (m : CloakedMemory) → AreFew n m →
    IfSome (place q f bytes m) (AreFew (n + 1))
unfolding place
placed_few n q f bytes m few = place_one n q f bytes (next_vector m.ledger) m few

wide_some : (a b : ℕ) (o : Option CloakedMemory) → a ≤ b → IfSome o (AreFew a) → IfSome o (AreFew b)
wide_some a b None low few = tt
wide_some a b (Some m) low few = few_wide a b m low few

pages_few : (n d : ℕ) (p : Program) (pages : ℕ) (m : CloakedMemory) → AreFew n m →
    IfSome (place_pages d p pages m) (AreFew (n + pages))
pages_few n d p zero m few = few_wide n (n + 0) m (omega arith) few
pages_few n d p (suc pages) m few =
    wide_some (n + pages + 1) (n + suc pages) _ (omega arith)
    (and_then_few (n + pages + 1) (place _ _ _) (place_pages d p pages m) (n + pages)
    (λ x there. placed_few (n + pages) _ _ _ x there) (pages_few n d p pages m few))

programs_few : (frames n d : ℕ) (programs : List Program) (m : CloakedMemory) → All (IsProgramIn frames) programs →
    AreFew n m → IfSome (place_programs d programs m) (AreFew (n + 1024 * length programs))
programs_few frames n d [] m all few = few_wide n (n + 1024 * 0) m (omega arith) few
programs_few frames n d (p ∷ programs) m all few =
    let is = All-head (IsProgramIn frames) p programs all in
    let most = is.few_pages in
    wide_some (n + 1024 + 1024 * length programs) (n + 1024 * suc (length programs)) _ (omega arith)
    (and_then_few (n + 1024 + 1024 * length programs) (place_programs (d + 1) programs) (place_pages d p p.start.pages m)
    (n + p.start.pages)
    (λ x there. programs_few frames (n + 1024) (d + 1) programs x (All-tail (IsProgramIn frames) p programs all)
    (few_wide (n + p.start.pages) (n + 1024) x (omega (arith, most)) there)) (pages_few n d p p.start.pages m few))

owing_none : (n : ℕ) → owing (replicate n None) ≡ 0
owing_none zero = refl
owing_none (suc n) = let rest = owing_none n in omega (arith, rest)

started_few : (b : Bundle) (keys : Keys) (rest : Random) → AreFew 0 (started_memory b.kernel keys rest)
unfolding started_memory started_ledger
started_few b keys rest = let none = owing_none b.kernel.frames in omega (arith, none)

joint_few : (n : ℕ) (b : Bundle) (m : CloakedMemory) → AreFew n m → AreFew n (started_joint b m).memory
unfolding started_joint
joint_few n b m few = few

opened_few : (b : Bundle) (from : Beginning) (o : RunEdge) → IsInGrammar b → opening_from b from ≡ Ok o → IsFew 0 o.joint
opened_few b from o grammar opens =
    let over = opens_over b from o opens in
    let keeps = added_keep (files_of from) (started_joint b over.memory) o.joint over.added in
    let placed = subst (λ (m : Option CloakedMemory). IfSome m (AreFew (0 + 1024 * length b.programs))) over.placed
    (programs_few b.kernel.frames 0 0 b.programs _ grammar.programs (started_few b over.keys over.stream)) in
    let few : AreFew (0 + 1024 * length b.programs) (started_joint b over.memory).memory =
    joint_few _ b over.memory placed in
    let draws = keeps.memory.draws in
    let owed = ap owing keeps.memory.owed in
    let programs = grammar.few_programs in
    record {
      steady = (is_opened b from o opens).steady;
      few = omega (arith, few, draws, owed, programs);
    }

-- The run.

abbrev FewAtAll : Run → Type 0
FewAtAll r = (n : ℕ) → IsFew n (joint_until n r)

run_few : (b : Bundle) (budget : ℕ) (o : RunEdge) → IsFew 0 o.joint → FewAtAll (run_of b budget o)
unfolding run_of
run_few b budget o here n =
    let same : 0 + n ≡ n = omega arith in
    subst (λ (i : ℕ). IsFew i (joint_after o.joint (take n (turns_from budget (first_moment b o.joint))))) same
    (after_counted IsFew few_wider few_kept budget n 0 (first_moment b o.joint) here)

few_at : (b : Bundle) (from : Beginning) (budget : ℕ) (r : Run) → IsInGrammar b → run_from b from budget ≡ Ok r →
    FewAtAll r
few_at b from budget r grammar is =
    of_opened b budget FewAtAll (opening_from b from) r is
    (λ o opens. run_few b budget o (opened_few b from o grammar opens))

pub draws_are_few : DrawsAreFew
draws_are_few b from budget r grammar is n =
    let here = few_at b from budget r grammar is n in let few = here.few in omega (arith, few)

pub draws_are_below : DrawsAreBelow
draws_are_below b from budget r grammar is n low =
    let few = draws_are_few b from budget r grammar is n in omega (arith, few, low)
