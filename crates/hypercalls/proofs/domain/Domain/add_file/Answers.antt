use Rattle.std.proofs.Common.{◌≡◌, ◌<◌, ℕ, Result, ap, subst, sym}
use Rattle.std.specs.Prelude.{IfOk}
use Rattle.cloak_model.specs.declared.resource.MapFault.{MapFault}
use Rattle.cloak_model.specs.DomainState.{Control}
use Rattle.cloak_model.specs.Resources.{Resources, Mapped}
use Rattle.hypercalls.proofs.Filed.{refused_stays, added_free, file_below}
use Rattle.hypercalls.proofs.domain.Domain.add_file.Goals as goal

pub returns-clause-refused : goal.returns-clause-refused
returns-clause-refused c =
    refused_stays c.args.self.now c.add_file.new.self c.args.number c.args.pages _ c.add_file.ensures.value
    c.add_file.ensures.rest

pub returns-clause-freed : goal.returns-clause-freed
returns-clause-freed c =
    added_free c.args.self.now.control.resources c.add_file.new.self.resources c.args.number c.args.pages _
    c.add_file.ensures.value

pub returns-clause-answer : goal.returns-clause-answer
returns-clause-answer c = ap (λ (m : Mapped ℕ). m.answer) c.add_file.ensures.value

pub returns-clause-control : goal.returns-clause-control
returns-clause-control c =
    subst (λ (r : Resources). c.add_file.new.self ≡ record c.args.self.now.control { resources = r })
    (ap (λ (m : Mapped ℕ). m.resources) c.add_file.ensures.value) c.add_file.ensures.rest

pub returns-clause-inside : goal.returns-clause-inside
returns-clause-inside c =
    subst (λ (r : Result ℕ MapFault). IfOk r (λ n. n < 16)) (sym (ap (λ (m : Mapped ℕ). m.answer) c.add_file.ensures.value))
    (file_below c.args.number c.args.pages c.args.self.now.control.resources 16 c.add_file.ensures.numbers)
