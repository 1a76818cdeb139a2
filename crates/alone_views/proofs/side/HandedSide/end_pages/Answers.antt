use Rattle.std.proofs.Common.{◌∙◌, ◌+◌, ◌*◌, List, ℕ, [], slice_index_or, ap, sym, arith}
use Rattle.std.proofs.lemmas.List.{get_or-replicate}
use Rattle.cloak_base.specs.Pages.{zero_page}
use Rattle.alone_views.proofs.DomainZeros.{ended_zeros}
use Rattle.alone_views.proofs.side.HandedSide.end_pages.Goals as goal

pub returns-clause-pages : goal.returns-clause-pages
returns-clause-pages c = λ plain resource page low few.
    ap (λ (pages : List (List ℕ)). slice_index_or pages (resource * 1024 + page) []) c.wipe_all.ensures
    ∙ get_or-replicate 16384 (resource * 1024 + page) zero_page [] (omega arith)
    ∙ sym (ended_zeros c.args.self.now.domain plain resource page low)
