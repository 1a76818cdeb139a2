-- The laws on two calls of `freeze`, from those on two runs.
use Rattle.std.proofs.Common.{◌≡◌, ◌∙◌, ℕ, List, Some, Ok, refl, sym, ap}
use Rattle.cloak_base.specs.Random.{Random}
use Rattle.cloak_model.specs.declared.image.Bundle.{Bundle}
use Rattle.cloak_model.specs.declared.image.KernelImage.{KernelImage}
use Rattle.cloak_model.specs.Beginning.{Fresh}
use Rattle.cloak_model.specs.Bundle.{IsInGrammar}
use Rattle.cloak_model.specs.DomainAlone.{domain_alone_from, part_from}
use Rattle.cloak_model.specs.Halves.{inward_half, outward_half}
use Rattle.cloak_model.specs.Items.{Item}
use Rattle.cloak_model.specs.KernelAlone.{kernel_alone}
use Rattle.cloak_model.specs.Parts.{DomainPart}
use Rattle.cloak_model.specs.Run.{Run, joint_run}
use Rattle.command_parts.specs.declared.status.Status.{Status}
use Rattle.command_parts.specs.Outside.{Outside}
use Rattle.command_words.specs.Command as spec
use Rattle.domain_isolation.proofs.Halves.{domain_depends_on_half}
use Rattle.kernel_isolation.proofs.TwoRuns.{kernel_depends_on_half}
use Rattle.kernel_isolation.specs.Isolation.{items_until}
use Rattle.run_command.proofs.Lawful.{hosts}
use Rattle.run_command.specs.Answering.{IsLawful}
use Rattle.frozen_commands.specs.TwoRuns.{Ended, Froze, HasMade, KernelsAgree, KernelsAgreeSoFar, Lacked, ProgramsAgree, ProgramsAgreeSoFar, image_read, run_in, run_made, sources_in}

-- The run is that of the image under the stream.
record IsRunOf (b : Bundle) (stream : Random) (r : Run) : Type 0 where
  pub in_grammar : IsInGrammar b
  pub steps : ℕ
  pub joint : joint_run b stream steps ≡ Ok r
  pub lawful : IsLawful b (Fresh stream) r

run_asked : {S O : Type 0} {asked : spec.Asked} {given : Status} {before after : Outside S O}
    (made : HasMade asked given before after) → IsRunOf (sources_in made).bundle (sources_in made).stream (run_in made)
run_asked (Froze is ran) =
    let z = ran.freezes in
    record { in_grammar = z.asks.bundle.is.in_grammar; steps = z.steps; joint = z.joint; lawful = z.lawful }
run_asked (Ended ran) =
    let z = ran.freezes in
    record { in_grammar = z.asks.bundle.is.in_grammar; steps = z.steps; joint = z.joint; lawful = z.lawful }
run_asked (Lacked is ran) =
    let z = ran.freezes in
    record { in_grammar = z.asks.bundle.is.in_grammar; steps = z.steps; joint = z.joint; lawful = z.lawful }

pub kernels_agree : (S O : Type 0) → KernelsAgree S O
kernels_agree S O one other kernel half =
    let a = run_asked one.made in
    let a' = run_asked other.made in
    kernel_depends_on_half (image_read one) (image_read other) (Fresh (sources_in one.made).stream)
    (Fresh (sources_in other.made).stream) a.steps a'.steps (run_made one) (run_made other) a.joint a'.joint kernel half

pub programs_agree : (S O : Type 0) → ProgramsAgree S O
programs_agree S O one other d p there there' schedule half =
    let a = run_asked one.made in
    let a' = run_asked other.made in
    let from = Fresh (sources_in one.made).stream in
    let from' = Fresh (sources_in other.made).stream in
    domain_depends_on_half (image_read one) (image_read other) d p from from' (run_made one) (run_made other)
    (hosts (image_read one) from a.steps (run_made one) a.in_grammar a.joint d p there)
    (hosts (image_read other) from' a'.steps (run_made other) a'.in_grammar a'.joint d p there') schedule refl half

pub kernels_agree_so_far : (S O : Type 0) → KernelsAgreeSoFar S O
kernels_agree_so_far S O one other n le le' kernel half =
    let here = (run_asked one.made).lawful.isolated n le in
    let there = (run_asked other.made).lawful.isolated n le' in
    sym there.kernel.same
    ∙ (ap (λ (k : KernelImage). (kernel_alone k (outward_half (items_until n (run_made other)))).kernel) kernel
    ∙ (ap (λ (items : List Item). (kernel_alone (image_read one).kernel items).kernel) half ∙ here.kernel.same))

pub programs_agree_so_far : (S O : Type 0) → ProgramsAgreeSoFar S O
programs_agree_so_far S O one other n d p le le' there there' schedule half =
    let here = ((run_asked one.made).lawful.isolated n le).programs d p there in
    let away = ((run_asked other.made).lawful.isolated n le').programs d p there' in
    let part : DomainPart = part_from d (Fresh (sources_in one.made).stream) p in
    sym away.same
    ∙ (ap (λ (turns : List ℕ). Some (domain_alone_from d turns part (inward_half d (items_until n (run_made other)))).part)
    schedule
    ∙ (ap (λ (items : List Item). Some (domain_alone_from d (image_read one).kernel.schedule part items).part) half
    ∙ here.same))
