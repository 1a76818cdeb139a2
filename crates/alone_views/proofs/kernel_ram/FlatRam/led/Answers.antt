-- A walk leaves the frames as they are.
use Rattle.std.proofs.Common.{◌∙◌, ℕ, Err, refl, ap}
use Rattle.cloak_model.specs.Ask.{ask_in_ram}
use Rattle.cloak_model.specs.Walk.{Walk}
use Rattle.alone_views.proofs.KernelRam.{same_length, follows_translate, tested_inside, tested_outside}
use Rattle.alone_views.proofs.kernel_ram.FlatRam.led.Goals as goal

pub returns-in-Err-clause-follows : goal.returns-in-Err-clause-follows
unfolding ask_in_ram
returns-in-Err-clause-follows c = follows_translate c.args.self.now c.walk.new.w _ _ _ _ c.in-Err.ensures.follows refl

pub returns-in-Err-clause-same_count : goal.returns-in-Err-clause-same_count
returns-in-Err-clause-same_count c = same_length _ _ (c.in-Err.ensures.unchanging c.args.self.now _ refl).1

pub returns-then-is_inside-clause-follows : goal.returns-then-is_inside-clause-follows
unfolding ask_in_ram
returns-then-is_inside-clause-follows c =
    follows_translate c.args.self.now c.walk.new.w _ _ _ _ c.in-Ok.ensures.follows
    (tested_inside _ _ _ c.if-is_inside.ensures)

pub returns-then-is_inside-clause-same_count : goal.returns-then-is_inside-clause-same_count
returns-then-is_inside-clause-same_count c = same_length _ _ (c.in-Ok.ensures.unchanging c.args.self.now _ refl).1

pub returns-else-is_inside-clause-follows : goal.returns-else-is_inside-clause-follows
unfolding ask_in_ram
returns-else-is_inside-clause-follows c =
    follows_translate c.args.self.now c.walk.new.w _ _ _ _ c.in-Ok.ensures.follows
    (ap (λ (cause : ℕ). let r : Walk = Err cause in r) c.access_fault.ensures
    ∙ tested_outside _ _ _ c.if-is_inside.ensures)

pub returns-else-is_inside-clause-same_count : goal.returns-else-is_inside-clause-same_count
returns-else-is_inside-clause-same_count c = same_length _ _ (c.in-Ok.ensures.unchanging c.args.self.now _ refl).1
