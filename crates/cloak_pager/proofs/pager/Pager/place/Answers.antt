use Rattle.std.proofs.Common.{refl, ◌<◌}
use Rattle.std.proofs.lemmas.List.Elements.{All-from_get_or}
use Rattle.aes_block.specs.Bytes.{IsBytes}
use Rattle.cloak_pager.proofs.Placed.{placed_follows, unplaced_follows}
use Rattle.cloak_pager.proofs.Behind.{stays_same, written_stays}
use Rattle.cloak_pager.proofs.pager.Pager.place.Goals as goal

pub returns-in-Some-clause-model : goal.returns-in-Some-clause-model
returns-in-Some-clause-model c =
    let is_page : IsBytes 4096 c.args.bytes.now = record {
      long = c.told-bytes;
      bytes = All-from_get_or (λ b. b < 256) c.args.bytes.now 0 (λ i h. c.fits-bytes i);
    } in
    placed_follows _ c.place_under.new.self c.args.q c.args.f.0 c.args.bytes.now c.in-Some.iv c.args.s.now c.draw.new.self
    c.requires.inside c.requires.outside c.requires.fresh is_page c.in-Some.ensures c.place_under.ensures

pub returns-in-None-clause-model : goal.returns-in-None-clause-model
returns-in-None-clause-model c =
    unplaced_follows _ c.args.q c.args.f.0 c.args.bytes.now c.args.s.now c.draw.new.self c.in-None.ensures.0
    c.in-None.ensures.1

pub returns-in-Some-clause-stays : goal.returns-in-Some-clause-stays
returns-in-Some-clause-stays c =
    written_stays c.args.f.0 c.args.self.now c.place_under.new.self _ _ c.place_under.ensures

pub returns-in-None-clause-stays : goal.returns-in-None-clause-stays
returns-in-None-clause-stays c = stays_same c.args.f.0 c.args.self.now c.args.self.now refl
