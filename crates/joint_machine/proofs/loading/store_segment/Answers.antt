use Rattle.std.proofs.Common.{◌∙◌, ap, reverse}
use Rattle.joint_machine.proofs.Loaded.{stores_back_none, stores_back_more}
use Rattle.joint_machine.proofs.loading.store_segment.Goals as goal

pub loop-pager-init : goal.loop-pager-init
loop-pager-init c =
    stores_back_none c.args.pager.now c.args.segment c.reverse.new.self.items c.requires.pages c.requires.outside
    c.requires.segment (c.reverse.ensures.items ∙ ap reverse c.into_vec-bytes.ensures)

pub loop-pager-preserved : goal.loop-pager-preserved
loop-pager-preserved c =
    stores_back_more c.args.pager.now c.loop-pager.pager c.store_piece-address.new.pager c.loop-pager.address
    c.store_piece-address.result c.loop-pager.bytes.items c.store_piece-address.new.bytes.items c.args.segment.address
    c.args.segment.bytes c.loop-pager.invariant c.store_piece-address.ensures.within c.store_piece-address.ensures.frames
    c.store_piece-address.ensures.rest
