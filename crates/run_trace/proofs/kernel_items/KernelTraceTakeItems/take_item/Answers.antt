use Rattle.std.proofs.Common.{Ok, [], ◌∷◌, ◌++◌}
use Rattle.cloak_model.specs.Items.{item_of}
use Rattle.kernel_report.specs.Putting.{putting}
use Rattle.run_trace.specs.KernelTaking.{TracesItems}
use Rattle.run_trace.proofs.KernelTraced.{trace_more}
use Rattle.run_trace.proofs.Stopped.{known_so}
use Rattle.run_trace.proofs.kernel_items.KernelTraceTakeItems.take_item.Goals as goal

pub returns : goal.returns
returns g c = λ first before few took. record {
  traces = λ k stands.
      rw (c.go_on.ensures) (known_so
      (TracesItems first.choice.now k c.trace_item-shown.new.kernel (before ++ (item_of c.args.item.now) ∷ [])
      (putting g.O.Sink first.out.now (Ok tt)))
      (putting g.O.Sink c.trace_item-shown.new.out) c.trace_item-shown.result.0 c.trace_item-shown.result.1
      (trace_more c.trace_item-shown.result.1 (item_of c.args.item.now) (took.traces k stands)
      (λ turns s there fits. rw (took.same_choice) at (c.trace_item-shown.ensures turns s c.requires there fits))));
  same_kernel = took.same_kernel;
  same_choice = took.same_choice;
  same_out = took.same_out;
}
