-- A step of a program completes at most one load.
use Rattle.std.proofs.Common.{◌≤◌, ◌+◌, ℕ, List, [], ◌∷◌, ◌++◌, length, Option, Some, None, arith, length-append}
use Rattle.cloak_model.specs.declared.context.Phase.{Phase}
use Rattle.cloak_model.specs.declared.context.Phase.TheVariants.{Plain, CopyIn, Waiting, CopyOut}
use Rattle.cloak_model.specs.declared.context.PageWord.{PageWord}
use Rattle.cloak_model.specs.declared.inside.Copied.{Copied}
use Rattle.cloak_model.specs.declared.inside.Copied.TheVariants as copied
use Rattle.cloak_model.specs.declared.inside.Ran.{Ran}
use Rattle.cloak_model.specs.declared.inside.Ran.TheVariants as ran
use Rattle.cloak_model.specs.Contexts.{Context}
use Rattle.cloak_model.specs.DomainState.{Domain}
use Rattle.cloak_model.specs.DomainStep.{DomainStepped, instruction_ended, copy_ended, after_write, phase_step, step_if, domain_script, domain_step}
use Rattle.cloak_model.specs.Script.{played}
use Rattle.cloak_model.specs.World.{World}
use Rattle.cloak_model.proofs.Playing.{by_plain, by_copy_in, by_copy_out, by_ecall}

abbrev pub LoadsOnce : Domain → DomainStepped → Type 0
LoadsOnce d made = length made.domain.loads ≤ length d.loads + 1

pub no_load : (n : ℕ) → n ≤ n + 1
no_load n = omega arith

one_load : (d : Domain) (address value : ℕ) → length (d.loads ++ (address, value) ∷ []) ≤ length d.loads + 1
one_load d address value = let e = length-append d.loads ((address, value) ∷ []) in omega (arith, e)

loads_instruction : (slot : ℕ) (d : Domain) (c : Context) (r : Ran) (w : World) →
    LoadsOnce d (played (instruction_ended slot d c r) w).answer
unfolding instruction_ended
loads_instruction slot d c (ran.Loaded address value) w = one_load d address value
loads_instruction slot d c ran.Ecall w = by_ecall (λ t. LoadsOnce d t.answer) slot d c w (no_load (length d.loads))
loads_instruction slot d c _ w = no_load (length d.loads)

loads_copy : (slot : ℕ) (d : Domain) (c : Context) (r : Copied) → LoadsOnce d (copy_ended slot d c r)
unfolding copy_ended
loads_copy slot d c (copied.Loaded address byte) = one_load d address byte
loads_copy slot d c _ = no_load (length d.loads)

-- a write after a step
loads_written : (wrote : Option PageWord) (d : Domain) (s : DomainStepped) → LoadsOnce d s →
    LoadsOnce d (after_write wrote s)
loads_written None d s once = once
loads_written (Some place) d s once = once

loads_phase : (phase : Phase) (slot : ℕ) (c : Context) (d : Domain) (w : World) →
    LoadsOnce d (played (phase_step phase slot c d) w).answer
unfolding phase_step
loads_phase Plain slot c d w =
    by_plain (λ t. LoadsOnce d t.answer) slot c d w (loads_written _ d _ (loads_instruction slot d _ _ _))
loads_phase (CopyIn done) slot c d w =
    by_copy_in (λ t. LoadsOnce d t.answer) done slot c d w (loads_copy slot d _ _)
loads_phase Waiting slot c d w = no_load (length d.loads)
loads_phase (CopyOut done total) slot c d w =
    by_copy_out (λ t. LoadsOnce d t.answer) done total slot c d w (loads_written _ d _ (loads_copy slot d _ _))

loads_if : (c : Option Context) (slot : ℕ) (d : Domain) (w : World) → LoadsOnce d (played (step_if c slot d) w).answer
unfolding step_if
loads_if None slot d w = no_load (length d.loads)
loads_if (Some c) slot d w = loads_phase c.phase slot c d w

pub loads_step : (slot : ℕ) (d : Domain) (w : World) → LoadsOnce d (domain_step slot d w).answer
unfolding domain_step domain_script
loads_step slot d w = loads_if _ slot d w
