use Rattle.domain_page.proofs.Read.{region_read}
use Rattle.domain_page.proofs.unread.Unread.region.Goals as goal

pub returns : goal.returns
returns c =
    region_read _ _ _ _ _ _ _ _ _ c.word-start.ensures c.word-pages.ensures c.word-resource.ensures c.word-first.ensures
