-- Fresh pages are zeros at every moment of a run, and as it was closed.
use Rattle.std.proofs.Common.{◌≡◌, ◌≢◌, ◌∙◌, ℕ, zero, suc, ◌+◌, Bool, true, false, cond, List, [], ◌∷◌, length, Option, Some, None, IfSome, Ok, refl, sym, ap, subst, arith, take_all}
use Rattle.cloak_base.specs.Pages.{zero_page, same_page}
use Rattle.cloak_base.specs.Random.{Random}
use Rattle.cloak_base.specs.declared.causes.Stop.{Stop}
use Rattle.cloak_base.specs.declared.causes.Stop.TheVariants as stop
use Rattle.cloak_base.specs.declared.names.PageId.{PageId}
use Rattle.cloak_model.specs.declared.image.Bundle.{Bundle}
use Rattle.cloak_model.specs.Beginning.{Beginning, opening_from, with_content, with_contents}
use Rattle.cloak_model.specs.Cloaking.{CloakedMemory, settle}
use Rattle.cloak_model.specs.DomainStep.{domain_step}
use Rattle.cloak_model.specs.Ending.{cloak_for}
use Rattle.cloak_model.specs.Joint.{Turn, hart_in, cloak_outside}
use Rattle.cloak_model.specs.Ledger.{Keys}
use Rattle.cloak_model.specs.Opening.{RunEdge, started_ledger, started_memory}
use Rattle.cloak_model.specs.PageMoves.{place_with}
use Rattle.cloak_model.specs.Parts.{Joint}
use Rattle.cloak_model.specs.Run.{Run, run_from, run_of, turns_from, first_moment, joint_after, closing, settled_below}
use Rattle.cloak_model.specs.StoredFiles.{PageContent, FileContents}
use Rattle.cloak_model.specs.World.{MidStep, Cloaked}
use Rattle.domain_isolation.proofs.Steady.{settle_plain}
use Rattle.kernel_isolation.proofs.FilesAdded.{IsGiven}
use Rattle.kernel_isolation.proofs.Isolated.{of_opened}
use Rattle.kernel_isolation.specs.Isolation.{joint_until}
use Rattle.limit_law.proofs.Memories.{Carries, carried_at}
use Rattle.limit_law.proofs.Openings.{begins_in_memory}
use Rattle.limit_law.proofs.Worlds.{in_wide, end_keeps}
use Rattle.cause_law.proofs.Closed.{closing_owes_nothing}
use Rattle.chain_law.specs.Zeros.{UnshownAreZeros, LeftUnshownAreZeros}
use Rattle.chain_law.proofs.Zeros.{both_some, was_none, settle_fresh}
use Rattle.chain_law.proofs.ZeroWorlds.{IsTidy, Knows, tidy_stay, drop_tidy}
use Rattle.chain_law.proofs.ZeroSteps.{step_learns}

-- A step of the joint machine.

abbrev JointTidy : Joint → Type 0
JointTidy j = IsTidy j.memory

settle_tidy : (f : ℕ) (m : CloakedMemory) → IsTidy m → IsTidy (settle f m).memory
settle_tidy f m tidy = tidy_stay m (settle f m).memory (settle_fresh f m) (settle_plain f m) tidy

tidy_carries : Carries IsTidy IsTidy
tidy_carries = record {
  settled = settle_tidy;
  later = λ m tidy. tidy;
  stepped = λ slot was c places tidy.
      in_wide Knows IsTidy (λ m here. here.1) (domain_step slot was (Cloaked c)).world
      ((step_learns slot was (Cloaked c)).by (places, tidy));
  seen = λ s m tidy. tidy;
  rooted = λ root m tidy. tidy;
  ended = λ d m tidy. end_keeps IsTidy settle_tidy drop_tidy d (Cloaked (cloak_for m d)) tidy;
}

-- The opening.

-- a page gets these bytes, and is recorded
shown_zero : (b : Bool) (bytes was zeros : List ℕ) → b ≡ false → was ≡ zeros → cond b bytes was ≡ zeros
shown_zero true bytes was zeros is here = absurd cc
shown_zero false bytes was zeros is here = here

content_tidy : (q : PageId) (c : Option PageContent) (m : CloakedMemory) → IsTidy m → IsTidy (with_content q c m)
content_tidy q None m tidy = tidy
content_tidy q (Some c) m tidy = (
  (λ p. both_some (same_page p q) _ _ _ _ (tidy.0 p)),
  (λ drawn p fresh.
      let was = was_none (same_page p q) _ (m.ledger.recorded p) fresh.0 in
      shown_zero (same_page p q) c.plain (m.plain p) zero_page was.test (tidy.1 drawn p (was.none, fresh.1))),
)

contents_tidy : (d resource page : ℕ) (contents : List (Option PageContent)) (m : CloakedMemory) → IsTidy m →
    IsTidy (with_contents d resource page contents m)
unfolding with_contents
contents_tidy d resource page [] m tidy = tidy
contents_tidy d resource page (c ∷ contents) m tidy =
    contents_tidy d resource (page + 1) contents _
    (content_tidy (record { domain = d; resource = resource; page = page }) c m tidy)

place_tidy : (q : PageId) (f : ℕ) (bytes : List ℕ) (draw : Option (List ℕ × Random)) (m : CloakedMemory) → IsTidy m →
    IfSome (place_with q f bytes draw m) IsTidy
unfolding place_with
place_tidy q f bytes None m tidy = tt
place_tidy q f bytes (Some draw) m tidy = (
  (λ p. both_some (same_page p q) _ _ _ _ (tidy.0 p)),
  (λ drawn p fresh.
      let was = was_none (same_page p q) _ (m.ledger.recorded p) fresh.0 in
      shown_zero (same_page p q) bytes (m.plain p) zero_page was.test (tidy.1 drawn p (was.none, fresh.1))),
)

started_tidy : (b : Bundle) (keys : Keys) (stream : Random) → IsTidy (started_memory b.kernel keys stream)
unfolding started_memory started_ledger
started_tidy b keys stream = ((λ q. refl), (λ drawn q fresh. refl))

given_tidy : (f : FileContents) (x y : Joint) → IsGiven f x y → JointTidy x → JointTidy y
given_tidy f x y given tidy =
    subst JointTidy given.is (contents_tidy f.domain given.resource 0 f.pages x.memory tidy)

-- The run.

pub unshown_are_zeros : UnshownAreZeros
unshown_are_zeros b from budget r is n =
    (carried_at IsTidy tidy_carries b from budget r
    (begins_in_memory IsTidy b from place_tidy (started_tidy b) given_tidy) is n).memory

-- The closing.

below_tidy : (n : ℕ) (c : MidStep) → IsTidy c.memory → IsTidy (settled_below n c).memory
unfolding settled_below
below_tidy zero c tidy = tidy
below_tidy (suc n) c tidy = settle_tidy n (settled_below n c).memory (below_tidy n c tidy)

closing_tidy : (j : Joint) → JointTidy j → JointTidy (closing j).joint
unfolding closing
closing_tidy j tidy = below_tidy (length j.memory.ram) (cloak_outside j.memory (hart_in j 0)) tidy

-- the machine that is closed is that after the last step
closed_so : (b : Bundle) (budget : ℕ) (o : RunEdge) → let r = run_of b budget o in
    r.closed ≡ closing (joint_until (length r.turns) r)
unfolding run_of
closed_so b budget o =
    let turns : List Turn = turns_from budget (first_moment b o.joint) in
    ap (λ (ts : List Turn). closing (joint_after o.joint ts)) (sym (take_all (length turns) turns (omega arith)))

pub closed_is : (b : Bundle) (from : Beginning) (budget : ℕ) (r : Run) → run_from b from budget ≡ Ok r →
    r.closed ≡ closing (joint_until (length r.turns) r)
closed_is b from budget r is =
    of_opened b budget (λ (x : Run). x.closed ≡ closing (joint_until (length x.turns) x)) (opening_from b from) r is
    (λ o opens. closed_so b budget o)

not_missed : (missed : Bool) (s : Stop) → cond missed stop.NoRandom s ≢ stop.NoRandom → missed ≡ false
not_missed true s other = absurd (other refl)
not_missed false s other = refl

abbrev DrawnIf : Run → Type 0
DrawnIf r = r.stop ≢ stop.NoRandom → r.closed.joint.memory.ledger.missed ≡ false

drawn_so : (b : Bundle) (budget : ℕ) (o : RunEdge) → DrawnIf (run_of b budget o)
unfolding run_of
drawn_so b budget o other = not_missed _ _ other

drawn_at_end : (b : Bundle) (from : Beginning) (budget : ℕ) (r : Run) → run_from b from budget ≡ Ok r → DrawnIf r
drawn_at_end b from budget r is = of_opened b budget DrawnIf (opening_from b from) r is (λ o opens. drawn_so b budget o)

pub left_unshown_are_zeros : LeftUnshownAreZeros
left_unshown_are_zeros b from budget r is other =
    let m : CloakedMemory = r.closed.joint.memory in
    let tidy : IsTidy m =
    subst (λ (o : RunEdge). JointTidy o.joint) (sym (closed_is b from budget r is))
    (closing_tidy (joint_until (length r.turns) r) (unshown_are_zeros b from budget r is (length r.turns))) in (
      tidy.0,
      (λ q unrecorded.
          tidy.1 (drawn_at_end b from budget r is other) q (
            unrecorded,
            (λ f owed.
                let clash : None ≡ Some q = sym (closing_owes_nothing b from budget r is f) ∙ owed in cc),
          )),
    )
