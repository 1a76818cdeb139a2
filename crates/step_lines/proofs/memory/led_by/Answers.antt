use Rattle.std.proofs.Common.{◌∙◌, ap, sym, Bool, Option, Some, None, ℕ, refl, if◌then◌else◌}
use Rattle.step_lines.specs.Leading.{place_led}
use Rattle.step_lines.proofs.memory.led_by.Goals as goal

pub returns-in-Err : goal.returns-in-Err
returns-in-Err c = ap (place_led c.args.frames.now) (c.in-Err.ensures.unchanging c.walk.new.w _ refl).0

pub returns-then-is_inside : goal.returns-then-is_inside
returns-then-is_inside c =
    ap (λ (b : Bool). let o : Option ℕ = if b then Some c.in-Ok.walked.pa else None in o)
    (sym c.if-is_inside.true ∙ c.is_inside.ensures)
    ∙ ap (place_led c.args.frames.now) (c.in-Ok.ensures.unchanging c.walk.new.w _ refl).0

pub returns-else-is_inside : goal.returns-else-is_inside
returns-else-is_inside c =
    ap (λ (b : Bool). let o : Option ℕ = if b then Some c.in-Ok.walked.pa else None in o)
    (sym c.if-is_inside.false ∙ c.is_inside.ensures)
    ∙ ap (place_led c.args.frames.now) (c.in-Ok.ensures.unchanging c.walk.new.w _ refl).0
