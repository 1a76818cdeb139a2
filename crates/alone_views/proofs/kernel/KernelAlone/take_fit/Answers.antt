use Rattle.std.proofs.Common.{refl, ap}
use Rattle.cloak_model.specs.KernelAlone.{kernel_takes}
use Rattle.cloak_model.specs.Items.{item_of}
use Rattle.alone_views.proofs.KernelItems.{takes_cipher, takes_put, takes_leave, takes_step, takes_close, ignores}
use Rattle.alone_views.proofs.kernel.KernelAlone.take_fit.Goals as goal

pub returns-in-Cipher-clause-gains : goal.returns-in-Cipher-clause-gains
returns-in-Cipher-clause-gains g c turns s ranges stands =
    takes_cipher g.E.Emit.gave c.args.e.now c.args.self.now _ turns s (item_of c.args.i.now) _ _ (ap item_of c.in-Cipher.is)
    c.take_cipher.ensures stands

pub returns-in-Put-clause-gains : goal.returns-in-Put-clause-gains
returns-in-Put-clause-gains g c turns s ranges stands =
    takes_put g.E.Emit.gave c.args.e.now c.args.self.now _ turns s (item_of c.args.i.now) _ _ _ (ap item_of c.in-Put.is) ranges
    c.take_put.ensures.becomes stands

pub returns-in-Leave-clause-gains : goal.returns-in-Leave-clause-gains
returns-in-Leave-clause-gains g c turns s ranges stands =
    takes_leave g.E.Emit.gave c.args.e.now c.args.self.now _ turns s (item_of c.args.i.now) _ (ap item_of c.in-Leave.is)
    c.take_leave.ensures stands

pub returns-in-Step-clause-gains : goal.returns-in-Step-clause-gains
returns-in-Step-clause-gains g c turns s ranges stands =
    takes_step g.E.Emit.gave c.args.e.now _ c.end_step.new.self _ turns s (item_of c.args.i.now) _ (ap item_of c.in-Step.is)
    (c.end_step.ensures.gains turns s stands) c.take_step.ensures.becomes

pub returns-in-Close-clause-gains : goal.returns-in-Close-clause-gains
returns-in-Close-clause-gains g c turns s ranges stands =
    takes_close g.E.Emit.gave c.args.e.now _ _ turns s (item_of c.args.i.now) _ (ap item_of c.in-Close.is)
    (c.end_step-in-Close.ensures.gains turns s stands)

pub returns-in-End-clause-gains : goal.returns-in-End-clause-gains
unfolding kernel_takes
returns-in-End-clause-gains g c turns s ranges stands =
    ignores g.E.Emit.gave c.args.e.now c.args.self.now turns s (item_of c.args.i.now) _ (ap item_of c.in-End.is) refl stands

pub returns-in-Ok-clause-gains : goal.returns-in-Ok-clause-gains
unfolding kernel_takes
returns-in-Ok-clause-gains g c turns s ranges stands =
    ignores g.E.Emit.gave c.args.e.now c.args.self.now turns s (item_of c.args.i.now) _ (ap item_of c.in-Ok.is) refl stands

pub returns-in-Absent-clause-gains : goal.returns-in-Absent-clause-gains
unfolding kernel_takes
returns-in-Absent-clause-gains g c turns s ranges stands =
    ignores g.E.Emit.gave c.args.e.now c.args.self.now turns s (item_of c.args.i.now) _ (ap item_of c.in-Absent.is) refl stands

pub returns-in-Word-clause-gains : goal.returns-in-Word-clause-gains
unfolding kernel_takes
returns-in-Word-clause-gains g c turns s ranges stands =
    ignores g.E.Emit.gave c.args.e.now c.args.self.now turns s (item_of c.args.i.now) _ (ap item_of c.in-Word.is) refl stands

pub returns-in-Timer-clause-gains : goal.returns-in-Timer-clause-gains
unfolding kernel_takes
returns-in-Timer-clause-gains g c turns s ranges stands =
    ignores g.E.Emit.gave c.args.e.now c.args.self.now turns s (item_of c.args.i.now) _ (ap item_of c.in-Timer.is) refl stands

pub returns-in-Resume-clause-gains : goal.returns-in-Resume-clause-gains
unfolding kernel_takes
returns-in-Resume-clause-gains g c turns s ranges stands =
    ignores g.E.Emit.gave c.args.e.now c.args.self.now turns s (item_of c.args.i.now) _ (ap item_of c.in-Resume.is) refl stands

pub returns-in-Stopped-clause-gains : goal.returns-in-Stopped-clause-gains
unfolding kernel_takes
returns-in-Stopped-clause-gains g c turns s ranges stands =
    ignores g.E.Emit.gave c.args.e.now c.args.self.now turns s (item_of c.args.i.now) _ (ap item_of c.in-Stopped.is) refl stands

pub returns-in-Ended-clause-gains : goal.returns-in-Ended-clause-gains
unfolding kernel_takes
returns-in-Ended-clause-gains g c turns s ranges stands =
    ignores g.E.Emit.gave c.args.e.now c.args.self.now turns s (item_of c.args.i.now) _ (ap item_of c.in-Ended.is) refl stands
