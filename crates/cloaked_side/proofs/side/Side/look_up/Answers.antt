use Rattle.std.proofs.Common.{rules, ◌/◌, false, refl, inl, inr}
use Rattle.cloaked_side.proofs.Known.{entry_follows, entry_leads, looks_missed, missed_unknown}
use Rattle.cloaked_side.proofs.side.Side.look_up.Goals as goal

pub returns-in_default-clause-found : goal.returns-in_default-clause-found
returns-in_default-clause-found g c first w sees viewed =
    looks_missed g.E.Emit.gave first c.args.self.now c.find.new.self c.args.regime.now c.args.va c.args.kind w sees viewed c.find.ensures.counted (search rules)

pub returns-in_default-clause-unknown : goal.returns-in_default-clause-unknown
returns-in_default-clause-unknown g c missed =
    missed_unknown c.args.regime.now (c.args.va / 4096) c.args.kind c.args.self.now.memory.now.shadows c.find.new.self (search rules) c.find.ensures.counted

pub returns-then-not-is_inside-clause-found : goal.returns-then-not-is_inside-clause-found
returns-then-not-is_inside-clause-found g c first w sees viewed =
    entry_follows g.E.Emit.gave first c.args.self.now c.find.new.self w c.args.regime.now c.args.va c.args.kind c.in-Some.e false _ sees viewed c.find.ensures.counted
    (search rules) (search rules) refl

pub returns-then-eq-clause-found : goal.returns-then-eq-clause-found
returns-then-eq-clause-found g c first w sees viewed =
    entry_leads g.E.Emit.gave first c.args.self.now c.find.new.self w c.args.regime.now c.args.va c.args.kind c.in-Some.e c.args.cloaked _ sees viewed c.find.ensures.counted
    (search rules) (search rules) (search rules) (inr (refl, search rules))

pub returns-clause-found : goal.returns-clause-found
returns-clause-found g c first w sees viewed =
    entry_leads g.E.Emit.gave first c.args.self.now c.find.new.self w c.args.regime.now c.args.va c.args.kind c.in-Some.e c.args.cloaked _ sees viewed c.find.ensures.counted
    (search rules) (search rules) (search rules) (inl (search rules))
