-- The record of a run fits, and the machines that run alone end as the run did.
use native.Mathlib.Omega.{arith}
use Rattle.std.proofs.Common.{◌≡◌, ◌∙◌, ◌⊎◌, ◌<◌, ◌≤◌, ◌-◌, ◌^◌, ℕ, List, length, Option, Some, sym, ap, subst, take_all}
use Rattle.cloak_model.specs.declared.image.Bundle.{Bundle}
use Rattle.cloak_model.specs.Beginning.{Beginning}
use Rattle.cloak_model.specs.Parts.{DomainPart, KernelPart, domain_part, kernel_part}
use Rattle.cloak_model.specs.Record.{IsRecord}
use Rattle.cloak_model.specs.Run.{Run, exchange, record_bytes}
use Rattle.cloak_model.specs.DomainAlone.{domain_alone, domain_alone_from}
use Rattle.domain_isolation.specs.Isolation.{HasDomain}
use Rattle.command_parts.specs.declared.status.Status.{Status}
use Rattle.command_parts.specs.Outside.{Outside}
use Rattle.read_back.specs.declared.ending.Ending.TheVariants as ending
use Rattle.read_back.specs.Text.{solo_text, view_text}
use Rattle.completeness.specs.Asked.{WantsMemory}
use Rattle.completeness.specs.ReadingBack.{IsRecordOfRun, RunsAreSoloed, RunsAreViewed}
use Rattle.completeness.specs.Views.{IsRecordFile, ShowsAll}
use Rattle.completeness.proofs.Views.{solos_are_complete, views_are_complete}

record_file : (held : List ℕ → Option (List ℕ)) (name : List ℕ) (b : Bundle) (from : Beginning) (r : Run) →
    IsRecordOfRun held name b from r → IsRecordFile held name (exchange r)
record_file held name b from r of_run =
    let few : length (record_bytes r) < 2 ^ 64 = of_run.few in
    let within : length (record_bytes r) ≤ 2 ^ 64 - 1 = omega (arith, few) in
    record {
      bytes = record_bytes r;
      told = of_run.told;
      is = subst (λ (bytes : List ℕ). IsRecord bytes (exchange r)) (sym (take_all (2 ^ 64 - 1) (record_bytes r) within))
          of_run.reads_back.is_record;
    }

shown : {S O : Type 0} (text other : List ℕ) (answer : Status) (before after : Outside S O) → text ≡ other →
    WantsMemory answer before after ⊎ ShowsAll text answer before after →
    WantsMemory answer before after ⊎ ShowsAll other answer before after
shown {S} {O} text other answer before after same given =
    subst (λ (t : List ℕ). WantsMemory answer before after ⊎ ShowsAll t answer before after) same given

pub runs_are_viewed : (S O : Type 0) → RunsAreViewed S O
runs_are_viewed S O n m b from r answer before after low file of_run given nothing =
    let ends = of_run.reads_back.ends.kernel in
    shown _ (view_text (kernel_part r.closed.joint) (Some ending.Whole)) answer before after
    (ap (λ (k : KernelPart). view_text k (Some ending.Whole)) ends.same)
    (views_are_complete S O n m answer before after low given b (exchange r) file
    (record_file before.files.held m b from r of_run) ends.fits nothing)

pub runs_are_soloed : (S O : Type 0) → RunsAreSoloed S O
runs_are_soloed S O d n m b p part from r answer before after low file has begun there of_run given nothing =
    let ends : HasDomain (domain_alone d b.kernel.schedule p (exchange r)) (domain_part r.closed.joint d) =
    subst (λ (q : DomainPart). HasDomain (domain_alone_from d b.kernel.schedule q (exchange r))
    (domain_part r.closed.joint d)) begun (of_run.reads_back.ends.programs d p has) in
    let both : Some (domain_alone d b.kernel.schedule p (exchange r)).part ≡ Some part = ends.same ∙ there in
    let same : (domain_alone d b.kernel.schedule p (exchange r)).part ≡ part = cc in
    shown _ (solo_text part (Some ending.Whole)) answer before after
    (ap (λ (q : DomainPart). solo_text q (Some ending.Whole)) same)
    (solos_are_complete S O d n m answer before after low given b p (exchange r) file has
    (record_file before.files.held m b from r of_run) ends.fits nothing)
