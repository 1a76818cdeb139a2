-- The bytes of the block are the range that was taken.
use Rattle.std.proofs.Common.{◌∙◌, ◌+◌, ◌-◌, ◌*◌, ℕ, List, take, drop, ap}
use Rattle.host_calls.proofs.disk.Disk.block.Goals as goal
use Rattle.cloak_base.proofs.Lists.{whole_page}

pub returns : goal.returns
returns c =
    whole_page c.in-Ok.bytes.now c.args.self.now c.args.block
    (c.in-Ok.ensures.1.same ∙ ap (λ (disk : List ℕ). take (c.args.block * 4096 + 4096 - c.args.block * 4096) (drop (c.args.block * 4096) disk)) (c.deref.ensures.value ∙ c.self.view_is))
