use Rattle.std.proofs.Common.{◌∙◌, ℕ, Ok, ap, subst, sym}
use Rattle.cloak_model.specs.Files.{file_resource}
use Rattle.alone_views.specs.DomainBeginning.{AddsFile}
use Rattle.alone_files.proofs.Given.{file_given, other_file}
use Rattle.alone_files.proofs.giving.give_file.Goals as goal

pub returns-then-domain-number : goal.returns-then-domain-number
returns-then-domain-number c =
    other_file (λ same. c.if-domain-number.true (ap (λ (t : ℕ × ℕ × ℕ). t.0) c.file-domain.ensures ∙ same))

pub returns : goal.returns
returns c =
    let own = sym (ap (λ (t : ℕ × ℕ × ℕ). t.0) c.file-domain.ensures) ∙ c.if-domain-number.false in
    file_given own (λ schedule p begins.
    subst (λ (t : ℕ × ℕ × ℕ). AddsFile c.args.number schedule c.add_file.new.self (Ok c.in-Ok.resource) p
    (file_resource t.1 t.2 p.domain.control.resources)) c.file-domain.ensures
    (c.in-Ok.ensures.adds c.args.number schedule p begins)) c.give_pages.ensures
