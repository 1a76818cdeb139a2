use Rattle.std.proofs.Common.{◌∙◌, ℕ, Bool, refl, ap, sym, Result, Ok, Err}
use Rattle.cloak_model.specs.Asking.{Told}
use Rattle.cloak_model.specs.World.{Flat}
use Rattle.cloak_model.specs.Ask.{ask_store_conditional, conditional_at}
use Rattle.alone_views.specs.KernelWorld.{seen_by}
use Rattle.alone_views.proofs.KernelRam.{conditional_flat, led_follows}
use Rattle.alone_views.proofs.kernel_ram.FlatRamRam.store_conditional.Goals as goal

pub returns-in-Err-clause-follows : goal.returns-in-Err-clause-follows
unfolding ask_store_conditional conditional_at
returns-in-Err-clause-follows c =
    led_follows c.args.self.now c.led.new.self _ _ _ (Err c.in-Err.cause) _
    (conditional_at c.args.satp c.args.access c.args.hart c.args.v) c.in-Err.ensures.follows refl refl

pub returns-in-Ok-clause-follows : goal.returns-in-Ok-clause-follows
unfolding ask_store_conditional conditional_at
returns-in-Ok-clause-follows c =
    let told = conditional_flat c.store_reserved.result c.args.satp c.args.access c.args.hart c.args.v c.in-Ok.walked
    (seen_by c.led.new.self) (sym c.store_reserved.ensures.stored) in
    led_follows c.args.self.now c.led.new.self _ _ _ (Ok c.in-Ok.walked) _
    (conditional_at c.args.satp c.args.access c.args.hart c.args.v) c.in-Ok.ensures.follows
    (sym (ap (λ (t : Told (Result Bool ℕ)). t.answer) told))
    (ap (λ (t : Told (Result Bool ℕ)). t.world) told ∙ ap Flat (sym c.store_reserved.ensures.seen))
