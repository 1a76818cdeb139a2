use Rattle.std.proofs.Common.{Some, refl, sym}
use Rattle.read_back.specs.Viewing.{unfit_ends}
use Rattle.read_back.proofs.ItemsRead.{fits_so, stops_so}
use Rattle.read_back.proofs.KernelReads.{ends_so}
use Rattle.run_trace.proofs.KernelTraced.{trace_none, traces_to}
use Rattle.run_trace.proofs.kernel_items.trace_kernel_items.Goals as goal

pub for_each_item-requires-clause-none : goal.for_each_item-requires-clause-none
for_each_item-requires-clause-none g c =
    record { traces = λ k stands. trace_none _ stands; same_kernel = refl; same_choice = refl; same_out = refl }

pub returns-in-Ok-clause-traces : goal.returns-in-Ok-clause-traces
returns-in-Ok-clause-traces g c = λ k stands.
    let read = c.in-Ok.ensures.reads in
    let traced = read.taken.traces k stands in
    rw (c.kernel-1.given.1 (sym read.taken.same_kernel), c.out-1.given.1 (sym read.taken.same_out))
    (traces_to traced (fits_so (Some c.in-Ok.ending) traced.given.fits read.read))

pub returns-in-Err-Unfit-clause-traces : goal.returns-in-Err-Unfit-clause-traces
returns-in-Err-Unfit-clause-traces g c = λ k stands.
    let read = rw (c.in-Err-Unfit.field-0-is) at c.in-Err-Unfit.ensures.reads in
    let traced = read.taken.traces k stands in
    rw (c.kernel-1.given.1 (sym read.taken.same_kernel), c.out-1.given.1 (sym read.taken.same_out))
    (traces_to traced (stops_so c.in-Err-Unfit.unfit.step traced.given.fits read.read))

pub returns-in-Err-Failed-clause-traces : goal.returns-in-Err-Failed-clause-traces
returns-in-Err-Failed-clause-traces g c = λ k stands.
    let read = rw (c.in-Err-Failed.field-0-is) at c.in-Err-Failed.ensures.reads in
    let traced = read.taken.traces k stands in
    rw (c.kernel-1.given.1 (sym read.taken.same_kernel), c.out-1.given.1 (sym read.taken.same_out)) (
      unfit_ends traced.0,
      traces_to {last = unfit_ends traced.0} traced.1 (ends_so traced.0 traced.1.given.fits read.read),
    )
