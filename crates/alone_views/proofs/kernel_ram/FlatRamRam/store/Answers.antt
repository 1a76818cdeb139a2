use Rattle.std.proofs.Common.{refl, ap, Ok, Err}
use Rattle.cloak_model.specs.Ask.{ask_store, ask_store_at, stored_to}
use Rattle.cloak_model.specs.World.{Flat}
use Rattle.alone_views.proofs.KernelRam.{led_follows, seen_stored}
use Rattle.alone_views.proofs.kernel_ram.FlatRamRam.store.Goals as goal

pub returns-in-Err-clause-follows : goal.returns-in-Err-clause-follows
unfolding ask_store ask_store_at stored_to
returns-in-Err-clause-follows c =
    led_follows c.args.self.now c.led.new.self _ _ _ (Err c.in-Err.cause) _
    (stored_to c.args.satp c.args.access c.args.width c.args.v) c.in-Err.ensures.follows refl refl

pub returns-in-Ok-clause-follows : goal.returns-in-Ok-clause-follows
unfolding ask_store ask_store_at stored_to
returns-in-Ok-clause-follows c =
    led_follows c.args.self.now c.led.new.self _ _ _ (Ok c.in-Ok.walked) _
    (stored_to c.args.satp c.args.access c.args.width c.args.v) c.in-Ok.ensures.follows refl
    (ap Flat (seen_stored c.led.new.self c.write_at.new.self _ _ _ c.write_at.ensures.frames c.write_at.ensures.marks))
