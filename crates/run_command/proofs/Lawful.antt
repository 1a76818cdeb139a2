-- A run is lawful, however it begins.
use Rattle.std.proofs.Common.{◌≡◌, ◌∙◌, ◌≤◌, ℕ, List, ◌++◌, Ok, Some, ap, slice_get}
use Rattle.cloak_model.specs.declared.image.Bundle.{Bundle}
use Rattle.cloak_model.specs.declared.image.Program.{Program}
use Rattle.cloak_model.specs.Items.{Item}
use Rattle.cloak_model.specs.Beginning.{Beginning}
use Rattle.cloak_model.specs.Bundle.{IsInGrammar}
use Rattle.cloak_model.specs.DomainAlone.{domain_alone_from, part_from}
use Rattle.cloak_model.specs.KernelAlone.{kernel_alone}
use Rattle.cloak_model.specs.Run.{Run, run_from, exchange, record_bytes, most_steps}
use Rattle.range_law.specs.Writing.{IsOfBytes, IsBeginningOfBytes}
use Rattle.range_law.proofs.Runs.{writes_a_record}
use Rattle.record_law.proofs.Judged.{one_record, not_both}
use Rattle.kernel_isolation.proofs.Isolated.{kernel_ends_alone, kernel_is_alone}
use Rattle.domain_isolation.specs.Isolation.{Hosts}
use Rattle.domain_isolation.proofs.Isolated.{domain_ends_alone, domain_is_alone}
use Rattle.latest_store.proofs.Histories.{runs_give_latest}
use Rattle.latest_store.proofs.Sums.{runs_add_up}
use Rattle.load_law.proofs.Runs.{due_loads_end}
use Rattle.reservation_law.proofs.Runs.{conditionals_store_reserved}
use Rattle.context_law.proofs.Conditionals.{conditionals_end}
use Rattle.context_law.proofs.OtherRegisters.{runs_keep_registers}
use Rattle.context_law.proofs.RunRegisters.{runs_have_registers}
use Rattle.context_law.proofs.Runs.{contexts_store_reserved}
use Rattle.page_law.proofs.Ciphers.{ciphers_show_pages, pages_keep_their_keys}
use Rattle.page_law.proofs.OwnDraws.{ciphers_have_own_draws}
use Rattle.cause_law.proofs.Closed.{closing_owes_nothing}
use Rattle.cause_law.proofs.Runs.{count_has_cause, end_has_cause, listed_have_ended, presented_is_refused, stopped_ends, violation_has_cause}
use Rattle.run_command.specs.Answering.{IsLawful}
use Rattle.run_command.specs.Isolated.{IsIsolated}
use Rattle.run_command.specs.ReadingBack.{ComesToEnds, FitsAlone, ReadsBack}
use Rattle.run_command.specs.Refusing.{RefusesRightly}
use Rattle.run_command.proofs.FrontFacts.{kernel_front_fits, domain_front_fits}
use Rattle.range_law.proofs.Beginnings.{is_beginning}

-- this program is a domain of the run
pub hosts : (b : Bundle) (from : Beginning) (budget : ℕ) (r : Run) → IsInGrammar b → run_from b from budget ≡ Ok r →
    (d : ℕ) (p : Program) → slice_get b.programs d ≡ Some p → Hosts b d p from r
hosts b from budget r grammar runs d p there = record {
  in_grammar = grammar;
  program = there;
  budget = budget;
  runs = runs;
}

comes_to_ends : (b : Bundle) (from : Beginning) (budget : ℕ) (r : Run) → IsInGrammar b →
    run_from b from budget ≡ Ok r → ComesToEnds b from r
comes_to_ends b from budget r grammar runs = record {
  kernel = kernel_ends_alone b from budget r runs;
  programs = λ d p there. domain_ends_alone b d p from r (hosts b from budget r grammar runs d p there);
}

is_isolated : (b : Bundle) (from : Beginning) (budget : ℕ) (r : Run) → IsInGrammar b →
    run_from b from budget ≡ Ok r → IsIsolated b from r
is_isolated b from budget r grammar runs = λ n le. record {
  kernel = kernel_is_alone b from budget r runs n le;
  programs = λ d p there. domain_is_alone b d p from r (hosts b from budget r grammar runs d p there) n le;
}

front_fits : (b : Bundle) (from : Beginning) (r : Run) (front more : List Item) → front ++ more ≡ exchange r →
    ComesToEnds b from r → FitsAlone b from front
front_fits b from r front more whole ends = record {
  kernel = kernel_front_fits b.kernel front more
      (ap (λ (l : List Item). (kernel_alone b.kernel l).unfit) whole ∙ ends.kernel.fits);
  programs = λ d p there. domain_front_fits d b.kernel.schedule (part_from d from p) front more
      (ap (λ (l : List Item). (domain_alone_from d b.kernel.schedule (part_from d from p) l).unfit) whole
      ∙ (ends.programs d p there).fits);
}

reads_back : (b : Bundle) (from : Beginning) (budget : ℕ) (r : Run) → IsInGrammar b → IsOfBytes b →
    IsBeginningOfBytes b from → budget ≤ most_steps → run_from b from budget ≡ Ok r → ReadsBack b from r
reads_back b from budget r grammar bytes all few runs =
    let is = writes_a_record b from budget r grammar bytes all few runs in
    let ends = comes_to_ends b from budget r grammar runs in
    record {
      is_record = is;
      no_other = λ items other. one_record (record_bytes r) items (exchange r) other is;
      no_fault = λ fault has. not_both (record_bytes r) (exchange r) fault is has;
      fits = λ front more whole. front_fits b from r front more whole ends;
      ends = ends;
    }

refuses_rightly : (b : Bundle) (from : Beginning) (budget : ℕ) (r : Run) → run_from b from budget ≡ Ok r →
    RefusesRightly b r
refuses_rightly b from budget r runs = record {
  met = violation_has_cause b from budget r runs;
  ended = end_has_cause b from budget r runs;
  listed = listed_have_ended b from budget r runs;
  counted = count_has_cause b from budget r runs;
  presented = presented_is_refused b from budget r runs;
  stopped = stopped_ends b from budget r runs;
}

pub is_lawful : (b : Bundle) (from : Beginning) (budget : ℕ) (r : Run) → IsInGrammar b → IsOfBytes b →
    IsBeginningOfBytes b from → budget ≤ most_steps → run_from b from budget ≡ Ok r → IsLawful b from r
is_lawful b from budget r grammar bytes all few runs =
    let begins = is_beginning b from all in
    record {
      reads_back = reads_back b from budget r grammar bytes all few runs;
      isolated = is_isolated b from budget r grammar runs;
      latest = runs_give_latest b from budget r grammar begins runs;
      loads = due_loads_end b from budget r grammar begins runs;
      sums = runs_add_up b from budget r grammar runs;
      conditionals = conditionals_store_reserved b from budget r runs;
      inside = contexts_store_reserved b from budget r grammar begins runs;
      attempts = conditionals_end b from budget r grammar begins runs;
      registers = runs_have_registers b from budget r grammar begins runs;
      kept_registers = runs_keep_registers b from budget r runs;
      ciphers = ciphers_show_pages b from budget r grammar runs;
      draws = ciphers_have_own_draws b from budget r runs;
      keys = pages_keep_their_keys b from budget r grammar runs;
      refuses = refuses_rightly b from budget r runs;
      closed = closing_owes_nothing b from budget r runs;
    }
