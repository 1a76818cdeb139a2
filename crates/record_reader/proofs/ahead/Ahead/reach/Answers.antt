use Rattle.std.proofs.Common.{ℕ, List, length, refl, subst}
use Rattle.record_reader.specs.Ahead.{HasWhole}
use Rattle.record_reader.proofs.Filled.{window_item, window_filled}
use Rattle.record_reader.proofs.ahead.Ahead.reach.Goals as goal

pub returns-then-has_item-clause-window : goal.returns-then-has_item-clause-window
returns-then-has_item-clause-window g c =
    window_item _ c.args.self.now c.args.at (subst (λ (l : List ℕ). HasWhole (length l) l) c.from.ensures (c.if-has_item.ensures refl))

pub returns-in-Ok-clause-window : goal.returns-in-Ok-clause-window
returns-in-Ok-clause-window g c = window_filled _ c.args.self.now c.args.at c.in-Ok.count c.fill.new.into c.in-Ok.ensures.bytes
