-- A program keeps its number, and its spaces keep their regions through a step that says nothing else of them.
use Rattle.std.proofs.Common.{◌≡◌, ◌∙◌, ℕ, Option, Some, None, Result, Ok, Err, inl, refl, ap}
use Rattle.cloak_base.specs.declared.names.PageId.{PageId}
use Rattle.cloak_model.specs.declared.context.Phase.{Phase}
use Rattle.cloak_model.specs.declared.context.Phase.TheVariants.{Plain, CopyIn, Waiting, CopyOut}
use Rattle.cloak_model.specs.declared.context.ResumeFault.{ResumeFault}
use Rattle.cloak_model.specs.declared.context.PageWord.{PageWord}
use Rattle.cloak_model.specs.declared.inside.Copied.{Copied}
use Rattle.cloak_model.specs.declared.inside.Copied.TheVariants as copied
use Rattle.cloak_model.specs.declared.inside.Ran.{Ran}
use Rattle.cloak_model.specs.declared.inside.Ran.TheVariants as ran
use Rattle.cloak_model.specs.declared.inside.Went.{Went}
use Rattle.cloak_model.specs.declared.inside.Went.TheVariants as went
use Rattle.cloak_model.specs.Contexts.{Context}
use Rattle.cloak_model.specs.DomainState.{Control, Domain}
use Rattle.cloak_model.specs.DomainStep.{domain_script, DomainStepped, instruction_ended, copy_ended, after_write, phase_step, step_if, domain_step, interrupt_if, interrupt, answer_taken, resume_told, resume_slot}
use Rattle.cloak_model.specs.Fork.{forked_resources, forked}
use Rattle.cloak_model.specs.Hypercalls.{Stepped, Hypercall, hypercall}
use Rattle.cloak_model.specs.Resources.{Resources, page_at, drop_space}
use Rattle.cloak_model.specs.World.{World}
use Rattle.cloak_model.specs.Script.{played}
use Rattle.cloak_model.proofs.Playing.{by_plain, by_copy_in, by_copy_out, by_ecall}
use Rattle.hypercall_kinds.specs.Kinds.{CallKind, MakesNew, MakesFile, Maps, Unmaps, Forks, EndsSpace, remaps, after}
use Rattle.hypercall_kinds.proofs.ByKinds.{by_kinds}
use Rattle.space_law.proofs.Regions.{KeepsRegions, page_kept, same_regions, other_regions, new_spaces, file_spaces, map_changes, unmap_changes, free_at, new_space_regions}

-- a step that ended so says nothing of a space
abbrev pub Spares : ℕ → Went → Type 0
Spares space (went.Remapped changed) = space ≡ changed → ⊥
Spares space (went.SpaceGone gone s) = space ≡ gone → ⊥
Spares space _ = Unit {0}

pub record Keeps (was now : Control) (how : Went) : Type 0 where
  pub number : now.number ≡ was.number
  pub regions : (space : ℕ) → Spares space how → KeepsRegions was.resources now.resources space

-- a page at an address of a space that is spared stays there
pub keeps_page : (was now : Control) (how : Went) (space va : ℕ) (q : PageId) → Keeps was now how → Spares space how →
    page_at was.number was.resources space va ≡ Some q → page_at now.number now.resources space va ≡ Some q
keeps_page was now how space va q keeps spared has =
    ap (λ (n : ℕ). page_at n now.resources space va) keeps.number
    ∙ page_kept was.number was.resources now.resources space va q (keeps.regions space spared) has

-- what leaves number and resources
pub plain : (was now : Control) (how : Went) → now.number ≡ was.number → now.resources ≡ was.resources → Keeps was now how
plain was now how number same = record {
  number = number;
  regions = λ space spared. same_regions was.resources now.resources (ap (λ (r : Resources). r.spaces) same) space;
}

-- Hypercalls.

abbrev pub StepKeeps : Control → Stepped → Type 0
StepKeeps d s = Keeps d s.control s.went

-- a resource more
pub number_keeps : (d now : Control) → now.number ≡ d.number → now.resources.spaces ≡ d.resources.spaces →
    Keeps d now went.Stay
number_keeps d now number same = record {
  number = number;
  regions = λ space spared. same_regions d.resources now.resources same space;
}

-- regions of the caller's space
remaps_keeps : (slot : ℕ) (c : Context) (d : Control) (r : Resources) →
    ((space : ℕ) → (space ≡ c.space → ⊥) → KeepsRegions d.resources r space) → StepKeeps d (remaps slot c r d)
remaps_keeps slot c d r others = record { number = refl; regions = λ space spared. others space spared }

module _ (h : Hypercall) (slot : ℕ) (c : Context) (d : Control) (w : World) where
  kind_keeps : (k : CallKind h slot c d w) → StepKeeps d (after h slot c d w k).answer
  unfolding forked forked_resources drop_space
  kind_keeps (MakesNew pages) = number_keeps d _ refl (new_spaces _ _ d.resources)
  kind_keeps (MakesFile pages) = number_keeps d _ refl (file_spaces _ _ d.resources)
  kind_keeps (Maps g) = remaps_keeps slot c d _ (map_changes c.space g d.resources)
  kind_keeps (Unmaps start) = remaps_keeps slot c d _ (unmap_changes c.space start d.resources)
  kind_keeps (Forks free new is room slots spaces ok) = record {
    number = refl;
    regions = λ space spared. new_space_regions d.resources new _ space (free_at d.resources new spaces);
  }
  kind_keeps (EndsSpace is none ok) = record {
    number = refl;
    regions = λ space spared. inl (other_regions d.resources c.space None space spared);
  }
  kind_keeps _ = plain _ _ _ refl refl

  hypercall_keeps : StepKeeps d (played (hypercall h slot c d) w).answer
  hypercall_keeps = by_kinds (λ t. StepKeeps d t.answer) h slot c d w kind_keeps

-- The step.

abbrev pub DomainKeeps : Domain → DomainStepped → Type 0
DomainKeeps d s = Keeps d.control s.domain.control s.went

pub instruction_keeps : (slot : ℕ) (d : Domain) (c : Context) (e : Ran) (w : World) →
    DomainKeeps d (played (instruction_ended slot d c e) w).answer
unfolding instruction_ended
instruction_keeps slot d c ran.Ecall w =
    let s = hypercall_keeps _ slot c d.control w in
    by_ecall (λ t. DomainKeeps d t.answer) slot d c w (record { number = s.number; regions = s.regions })
instruction_keeps slot d c _ w = plain _ _ _ refl refl

pub copy_keeps : (slot : ℕ) (d : Domain) (c : Context) (e : Copied) → DomainKeeps d (copy_ended slot d c e)
unfolding copy_ended
copy_keeps slot d c copied.Going = plain _ _ _ refl refl
copy_keeps slot d c _ = plain _ _ _ refl refl

-- a write ends reservations alone
pub after_write_keeps : (d : Domain) (wrote : Option PageWord) (s : DomainStepped) → DomainKeeps d s →
    DomainKeeps d (after_write wrote s)
after_write_keeps d None s keeps = keeps
after_write_keeps d (Some place) s keeps = record { number = keeps.number; regions = keeps.regions }

pub phase_keeps : (phase : Phase) (slot : ℕ) (c : Context) (d : Domain) (w : World) →
    DomainKeeps d (played (phase_step phase slot c d) w).answer
unfolding phase_step
phase_keeps Plain slot c d w =
    by_plain (λ t. DomainKeeps d t.answer) slot c d w (after_write_keeps d _ _ (instruction_keeps slot d _ _ _))
phase_keeps (CopyIn done) slot c d w =
    by_copy_in (λ t. DomainKeeps d t.answer) done slot c d w (copy_keeps slot d _ _)
phase_keeps Waiting slot c d w = plain _ _ _ refl refl
phase_keeps (CopyOut done total) slot c d w =
    by_copy_out (λ t. DomainKeeps d t.answer) done total slot c d w (after_write_keeps d _ _ (copy_keeps slot d _ _))

pub step_if_keeps : (c : Option Context) (slot : ℕ) (d : Domain) (w : World) →
    DomainKeeps d (played (step_if c slot d) w).answer
unfolding step_if
step_if_keeps None slot d w = plain _ _ _ refl refl
step_if_keeps (Some c) slot d w = phase_keeps c.phase slot c d w

pub step_keeps : (slot : ℕ) (d : Domain) (w : World) → DomainKeeps d (domain_step slot d w).answer
unfolding domain_step domain_script
step_keeps slot d w = step_if_keeps _ slot d w

-- Interrupts and resuming.

pub interrupt_by : (c : Option Context) (slot : ℕ) (d : Control) → Keeps d (interrupt_if c slot d).control went.Stay
unfolding interrupt_if
interrupt_by None slot d = plain _ _ _ refl refl
interrupt_by (Some c) slot d = plain _ _ _ refl refl

pub interrupt_keeps : (slot : ℕ) (d : Control) → Keeps d (interrupt slot d).control went.Stay
unfolding interrupt
interrupt_keeps slot d = interrupt_by _ slot d

pub taken_keeps : (slot answer : ℕ) (c : Option Context) (d : Control) → Keeps d (answer_taken slot answer c d) went.Stay
unfolding answer_taken
taken_keeps slot answer None d = plain _ _ _ refl refl
taken_keeps slot answer (Some c) d = plain _ _ _ refl refl

pub resumed_keeps : (slot answer : ℕ) (r : Result (Unit {0}) ResumeFault) (d : Control) →
    Keeps d (resume_told slot answer r d).control went.Stay
unfolding resume_told
resumed_keeps slot answer (Err f) d = plain _ _ _ refl refl
resumed_keeps slot answer (Ok done) d = taken_keeps slot answer _ d

pub resume_keeps : (slot hart answer : ℕ) (d : Control) → Keeps d (resume_slot slot hart answer d).control went.Stay
unfolding resume_slot
resume_keeps slot hart answer d =
    let k = resumed_keeps slot answer _ _ in record { number = k.number; regions = k.regions }
