use Rattle.std.proofs.Common.{refl, ap, Ok, Err}
use Rattle.cloak_model.specs.Ask.{ask_mark, ask_reserve, ask_value, reserved_at}
use Rattle.alone_views.proofs.KernelRam.{led_follows}
use Rattle.alone_views.proofs.kernel_ram.FlatRamRam.reserve.Goals as goal

pub returns-in-Err-clause-follows : goal.returns-in-Err-clause-follows
unfolding ask_mark ask_reserve ask_value reserved_at
returns-in-Err-clause-follows c =
    led_follows c.args.self.now c.led.new.self _ _ _ (Err c.in-Err.cause) _
    (reserved_at c.args.satp c.args.access c.args.hart) c.in-Err.ensures.follows refl refl

pub returns-in-Ok-clause-follows : goal.returns-in-Ok-clause-follows
unfolding ask_mark ask_reserve ask_value reserved_at
returns-in-Ok-clause-follows c =
    led_follows c.args.self.now c.led.new.self _ _ _ (Ok c.in-Ok.walked) _
    (reserved_at c.args.satp c.args.access c.args.hart) c.in-Ok.ensures.follows (ap Ok c.read_at.ensures)
    (rw c.mark.ensures)
