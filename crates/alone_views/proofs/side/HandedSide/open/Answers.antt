use Rattle.alone_views.proofs.DomainPlaces.{starts_plain}
use Rattle.alone_views.proofs.side.HandedSide.open.Goals as goal

pub returns-clause-pages : goal.returns-clause-pages
returns-clause-pages c = starts_plain _ c.args.p.now c.requires.few c.in_ok-open.ensures.pages
