use Rattle.std.proofs.Common.{◌∙◌, refl, ap}
use Rattle.replayed_run.specs.Leading.{frame_led}
use Rattle.replayed_run.proofs.frames.frame_at.Goals as goal

pub returns-in-Ok-clause-value : goal.returns-in-Ok-clause-value
returns-in-Ok-clause-value c =
    c.frame_of.ensures.value ∙ ap (frame_led c.args.frames.now) (c.in-Ok.ensures.unchanging c.walk.new.w _ refl).0

pub returns-in-Err-clause-value : goal.returns-in-Err-clause-value
returns-in-Err-clause-value c = ap (frame_led c.args.frames.now) (c.in-Err.ensures.unchanging c.walk.new.w _ refl).0
