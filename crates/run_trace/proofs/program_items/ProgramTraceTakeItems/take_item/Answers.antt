use Rattle.std.proofs.Common.{Ok, [], ◌∷◌, ◌++◌}
use Rattle.cloak_model.specs.Items.{item_of}
use Rattle.kernel_report.specs.Putting.{putting}
use Rattle.run_trace.specs.ProgramTaking.{OwnItems}
use Rattle.run_trace.proofs.ProgramTraced.{own_more}
use Rattle.run_trace.proofs.Stopped.{known_so}
use Rattle.run_trace.proofs.program_items.ProgramTraceTakeItems.take_item.Goals as goal

pub returns : goal.returns
returns g c = λ first before few took. record {
  traces = λ k p stands.
      rw (c.go_on.ensures) (known_so
      (OwnItems first.choice.now first.number.value k p c.trace_program_item-shown.new.program
      (before ++ (item_of c.args.item.now) ∷ []) (putting g.O.Sink first.out.now (Ok tt)))
      (putting g.O.Sink c.trace_program_item-shown.new.out) c.trace_program_item-shown.result.0
      c.trace_program_item-shown.result.1
      (own_more c.trace_program_item-shown.result.1 (item_of c.args.item.now) (took.traces k p stands)
      (rw (took.same_choice, took.same_number) at c.trace_program_item-shown.ensures)));
  same_program = took.same_program;
  same_number = took.same_number;
  same_choice = took.same_choice;
  same_out = took.same_out;
}
