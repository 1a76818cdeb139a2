-- The bytes of the page are the range that was taken.
use Rattle.std.proofs.Common.{◌∙◌, ◌+◌, ◌-◌, ◌*◌, ℕ, List, take, drop, ap}
use Rattle.plain_pages.proofs.pages.page_bytes.Goals as goal
use Rattle.cloak_base.proofs.Lists.{whole_page}

pub returns : goal.returns
returns c =
    whole_page c.in-Ok.bytes.now c.args.p.now.bytes c.args.page
    (c.in-Ok.ensures.1.same ∙ ap (λ (all : List ℕ). take (c.args.page * 4096 + 4096 - c.args.page * 4096) (drop (c.args.page * 4096) all)) c.as_slice.ensures)
