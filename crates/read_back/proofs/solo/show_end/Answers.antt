use Rattle.cloak_model.specs.DomainState.{domain_line}
use Rattle.read_back.proofs.Lines.{fault_lines}
use Rattle.read_back.proofs.solo.show_end.Goals as goal

pub returns-in-Whole : goal.returns-in-Whole
returns-in-Whole g c = λ number turns s stands few fits.
    rw c.in-Whole.is (c.report.ensures.puts number turns s stands (fits c.in-Whole.is) few)

pub returns-in_default : goal.returns-in_default
returns-in_default g c = λ number turns s stands few fits.
    fault_lines _ _ _ _ (domain_line s.part.domain) c.args.ending.now c.show_fault.result c.in_default.not-Whole
    c.show_fault.ensures
