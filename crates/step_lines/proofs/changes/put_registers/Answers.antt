use Rattle.std.proofs.Common.{◌≡◌, ◌+◌, suc, ap, arith}
use Rattle.step_lines.specs.Changes.{register_changes}
use Rattle.step_lines.proofs.Joining.{and_then, effects_are, no_effect}
use Rattle.step_lines.proofs.changes.put_registers.Goals as goal

pub loop-i-init : goal.loop-i-init
loop-i-init g c = no_effect

pub loop-i-preserved : goal.loop-i-preserved
loop-i-preserved g c =
    effects_are (and_then c.loop-i.invariant c.put_register-at.ensures)
    (ap (register_changes c.args.was.now c.args.now.now) (let e : suc c.loop-i.i ≡ c.loop-i.i + 1 = omega arith in e))

pub returns : goal.returns
returns g c =
    effects_are c.loop-i.invariant
    (ap (register_changes c.args.was.now c.args.now.now) (let e : c.loop-i.i ≡ 32 = omega arith in e))
