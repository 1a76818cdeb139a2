use Rattle.std.proofs.Common.{refl, true, arith}
use Rattle.std.specs.Prelude.{length}
use Rattle.cloak_model.specs.Cloaking.{offer}
use Rattle.cloak_pager.specs.State.{held_in}
use Rattle.cloak_pager.specs.Turns.{StaysBut}
use Rattle.cloaked_side.specs.Tracking.{spent_in}
use Rattle.cloaked_side.proofs.Rooming.{rooms_self, offers_so}
use Rattle.cloaked_side.proofs.Spending.{spends_more, spends_none}
use Rattle.cloaked_side.proofs.Translating.{offered_again}
use Rattle.cloaked_side.proofs.Tracking.{tracks_offer, effect_again}
use Rattle.cloaked_side.proofs.memory.Memory.offer.Goals as goal

pub returns-then-is_ready-clause-offers : goal.returns-then-is_ready-clause-offers
returns-then-is_ready-clause-offers g c =
    let old = c.args.self.now in
    let q = c.args.q in
    let f = c.args.g.0 in
    let write = c.args.write in
    let was = c.if-is_ready.ensures.held refl in
    let stays : StaysBut f old.pager old.pager =
    record { count = refl; domains = refl; keys = refl; rights = λ k n. refl; bytes = λ k n. refl } in
    record {
      offers = λ m h clash.
          offers_so g.E.Emit.gave _ _ old _ true q f write m (rooms_self g.E.Emit.gave c.args.e.now old q f m h)
          (c.if-is_ready.ensures.model refl) refl refl refl refl
          (λ ends. offered_again old.pager old.pager h.wiped m q f write old.shadows h.pager stays was was h.agrees)
          refl refl clash;
      tracks = λ m h space. tracks_offer space _ _ _ _ _ _ q f m true
          (effect_again old.counting old.shadows (held_in old.pager) (held_in old.pager) q f true was (λ k. refl));
      spends = λ m h. spends_more 0 0 0 (length (offer q f write m).ciphers) (spent_in old) (spent_in old) (omega arith)
          (spends_none (spent_in old));
      maps = λ mapped all. all;
    }
