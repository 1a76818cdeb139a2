use Rattle.std.proofs.Common.{rules, refl, ap, sym, None}
use Rattle.cloak_model.specs.Ending.{cloak_for}
use Rattle.cloak_model.specs.World.{Cloaked}
use Rattle.cloaked_side.specs.Ending.{ended_world}
use Rattle.cloaked_side.specs.Seeing.{space_in}
use Rattle.cloaked_side.proofs.Ended.{ends_from, others_back, none_back}
use Rattle.cloaked_side.proofs.Sided.{within_self}
use Rattle.cloaked_side.proofs.Telling.{counting_back, goes_back, goes_world, sees_first, size_back, some_back}
use Rattle.cloaked_side.proofs.ending.end_pages.Goals as goal

pub returns-clause-size : goal.returns-clause-size
returns-clause-size g c =
    let kept = c.end_domain.ensures.keeps _ (within_self g.E.Emit.gave _) in
    let lent = sym kept.stays.same_memory in
    size_back c.args.memory.now _ c.end_domain.new.self.memory.now (search rules) kept.stays.size

pub returns-clause-counting : goal.returns-clause-counting
returns-clause-counting g c =
    let kept = c.end_domain.ensures.keeps _ (within_self g.E.Emit.gave _) in
    let lent = sym kept.stays.same_memory in
    counting_back c.args.memory.now _ c.end_domain.new.self.memory.now (returns-clause-size g c) (search rules) kept.stays.counting

pub returns-clause-emits_some : goal.returns-clause-emits_some
returns-clause-emits_some g c =
    let kept = c.end_domain.ensures.keeps _ (within_self g.E.Emit.gave _) in
    let lent = sym kept.stays.same_emitter in
    some_back g.E.Emit.gave c.args.e.now _ c.end_domain.new.self.emitter.now (search rules) kept.stays.emits_some

pub returns-clause-others : goal.returns-clause-others
returns-clause-others g c =
    let kept = c.end_domain.ensures.keeps _ (within_self g.E.Emit.gave _) in
    let lent = sym kept.stays.same_memory in
    others_back c.args.domain c.args.memory.now _ c.end_domain.new.self.memory.now (returns-clause-size g c) (search rules)
    kept.stays.others

pub returns-clause-none : goal.returns-clause-none
returns-clause-none g c =
    let kept = c.end_domain.ensures.keeps _ (within_self g.E.Emit.gave _) in
    let lent = sym kept.stays.same_memory in
    none_back c.args.domain c.args.memory.now _ c.end_domain.new.self.memory.now (returns-clause-size g c) (search rules)
    c.end_domain.ensures.none

pub returns-clause-ends : goal.returns-clause-ends
returns-clause-ends g c m holds =
    let kept = c.end_domain.ensures.keeps _ (within_self g.E.Emit.gave _) in
    let cloak = cloak_for m c.args.domain in
    let sees = sees_first g.E.Emit.gave _ cloak holds refl refl refl refl tt in
    let memory_lent = sym kept.stays.same_memory in
    let emitter_lent = sym kept.stays.same_emitter in
    ends_from g.E.Emit.gave _ c.end_domain.new.self (ended_world m c.args.domain) _ _ (search rules) (search rules)
    (c.end_domain.ensures.told _ (Cloaked cloak) sees).stands

pub returns-clause-goes : goal.returns-clause-goes
returns-clause-goes g c m holds =
    let kept = c.end_domain.ensures.keeps _ (within_self g.E.Emit.gave _) in
    let cloak = cloak_for m c.args.domain in
    let sees = sees_first g.E.Emit.gave _ cloak holds refl refl refl refl tt in
    let memory_lent = sym kept.stays.same_memory in
    let f = c.end_domain.ensures.told _ (Cloaked cloak) sees in
    goes_back _ _ c.end_domain.new.self.memory.now _ (returns-clause-size g c) (search rules)
    (goes_world g.E.Emit.gave _ c.end_domain.new.self None (ended_world m c.args.domain) (ap space_in kept.stays.regime) f.stands)
