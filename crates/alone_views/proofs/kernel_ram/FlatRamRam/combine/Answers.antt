use Rattle.std.proofs.Common.{◌∙◌, ℕ, refl, ap, sym, Ok, Err}
use Rattle.rv_atomic.specs.Combine.{combined}
use Rattle.cloak_model.specs.Memory.{stored}
use Rattle.cloak_model.specs.World.{Flat}
use Rattle.cloak_model.specs.Ask.{ask_combine, ask_value, combined_at}
use Rattle.alone_views.specs.KernelWorld.{seen_by}
use Rattle.alone_views.proofs.KernelRam.{led_follows, seen_stored}
use Rattle.alone_views.proofs.kernel_ram.FlatRamRam.combine.Goals as goal

pub returns-in-Err-clause-follows : goal.returns-in-Err-clause-follows
unfolding ask_combine ask_value combined_at
returns-in-Err-clause-follows c =
    led_follows c.args.self.now c.led.new.self _ _ _ (Err c.in-Err.cause) _
    (combined_at c.args.satp c.args.access c.args.op c.args.operand) c.in-Err.ensures.follows refl refl

pub returns-in-Ok-clause-follows : goal.returns-in-Ok-clause-follows
unfolding ask_combine ask_value combined_at
returns-in-Ok-clause-follows c =
    led_follows c.args.self.now c.led.new.self _ _ _ (Ok c.in-Ok.walked) _
    (combined_at c.args.satp c.args.access c.args.op c.args.operand) c.in-Ok.ensures.follows
    (ap Ok c.read_at-old.ensures)
    (ap (λ (v : ℕ). Flat (stored c.in-Ok.walked.pa 4 v (seen_by c.led.new.self)))
    (sym (c.combine.ensures ∙ ap (λ (old : ℕ). combined c.args.op old c.args.operand) c.read_at-old.ensures))
    ∙ ap Flat (seen_stored c.led.new.self c.write_at.new.self c.in-Ok.walked.pa 4 c.combine.result
    c.write_at.ensures.frames c.write_at.ensures.marks))
