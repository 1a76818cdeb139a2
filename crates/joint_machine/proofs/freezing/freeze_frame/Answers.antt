use Rattle.std.proofs.Common.{◌∙◌, sym}
use Rattle.joint_machine.proofs.Freezes.{frame_drawn, frame_shown}
use Rattle.joint_machine.proofs.freezing.freeze_frame.Goals as goal

pub returns-in-None-clause-draws : goal.returns-in-None-clause-draws
returns-in-None-clause-draws c m tells keys =
    frame_shown c.args.pager.now m c.args.f.0 c.args.ivs.now c.bytes_of.result tells
    (sym c.requires.settled ∙ sym c.in-None.ensures) c.bytes_of.ensures.bytes

pub returns-in_ok-iv-in-Some-clause-draws : goal.returns-in_ok-iv-in-Some-clause-draws
returns-in_ok-iv-in-Some-clause-draws c m tells keys =
    frame_drawn c.args.pager.now c.freeze_frame-meta.new.self m c.args.f.0 c.in-Some.q c.args.ivs.now c.draw.new.self c.in_ok-iv-in-Some.iv
    c.bytes_of-in-Some.result c.freeze_frame-meta.result tells keys (sym c.requires.settled ∙ sym c.in-Some.ensures)
    c.in_ok-iv-in-Some.ensures c.freeze_frame-meta.ensures.state c.requires.inside c.bytes_of-in-Some.ensures.bytes
