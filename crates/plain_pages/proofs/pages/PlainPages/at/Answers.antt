use Rattle.std.proofs.Common.{sym, arith}
use Rattle.cloak_base.specs.Pages.{zero_page}
use Rattle.plain_pages.proofs.Kept.{read_zeros}
use Rattle.plain_pages.proofs.pages.PlainPages.at.Goals as goal

pub returns-else-place-len : goal.returns-else-place-len
unfolding zero_page
returns-else-place-len c =
    sym (read_zeros c.self.inside.kept.items c.args.self.now 16384 c.args.place (sym c.self.view_is) c.requires (omega (arith, c.len.ensures)))
