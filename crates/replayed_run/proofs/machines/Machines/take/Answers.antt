use Rattle.std.proofs.Common.{inl, sym, arith}
use Rattle.std.proofs.lemmas.List.{with_items_is}
use Rattle.std.specs.Vec.{with_items}
use Rattle.cloak_model.specs.Items.{item_of}
use Rattle.cloak_model.specs.KernelAlone.{kernel_alone}
use Rattle.replayed_run.proofs.Followed.{kernel_refused, kernel_took, take_alone}
use Rattle.replayed_run.proofs.machines.Machines.take.Goals as goal

pub returns-in-Err : goal.returns-in-Err
returns-in-Err c = λ b items is stand.
    let took = kernel_took _ _ _ b items (item_of c.args.item.now) c.take.new.self c.take.result
    (c.take.ensures.takes b.kernel.schedule (kernel_alone b.kernel items) is stand.kernel) in
    inl (kernel_refused b items (item_of c.args.item.now) c.take.result c.in-Err.unfit took.1 c.in-Err.is)

pub returns : goal.returns
returns c = λ b items is stand.
    let took = kernel_took _ _ _ b items (item_of c.args.item.now) c.take.new.self c.take.result
    (c.take.ensures.takes b.kernel.schedule (kernel_alone b.kernel items) is stand.kernel) in
    let kept = c.give_programs.auto.programs in
    let all = c.as_mut_slice.ensures.len in
    take_alone b items (item_of c.args.item.now) c.args.self.now
    (record { kernel = c.take.new.self; programs = with_items c.args.self.now.programs c.give_programs.new.programs })
    c.give_programs.new.programs c.take.result c.give_programs.result
    (sym (with_items_is c.args.self.now.programs c.give_programs.new.programs (omega (arith, kept, all)))) stand took.0 took.1 c.in_default.is
    c.take.ensures.ending (c.give_programs.ensures b items (rw c.as_mut_slice.ensures.value stand.programs))
