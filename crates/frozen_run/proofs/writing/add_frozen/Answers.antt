use Rattle.std.proofs.Common.{[], ap, refl, sym}
use Rattle.frozen_state.specs.FrozenState.{frozen_bytes}
use Rattle.frozen_run.proofs.WritingFacts.{has_none, adds_body, adds_digest, at_end}
use Rattle.frozen_run.proofs.writing.add_frozen.Goals as goal

pub returns-then-failed : goal.returns-then-failed
unfolding frozen_bytes
returns-then-failed g c =
    let gives = c.put_body.ensures.gives in
    let had = gives.more c.args.s.now [] (has_none _ _ refl c.new.ensures) in
    at_end (c.s-1.given.1 (sym c.put_body.ensures.same_shelf))
    (adds_body _ _ _ _ _ _ (ap (λ name. name.now) gives.name) c.if-failed.true had)

pub returns : goal.returns
unfolding frozen_bytes
returns g c =
    let gives = c.put_body.ensures.gives in
    let had = gives.more c.args.s.now [] (has_none _ _ refl c.new.ensures) in
    at_end (c.s-2-1.given.1 (sym c.put_body.ensures.same_shelf))
    (adds_digest _ _ _ _ _ _ _ c.append.result (ap (λ name. name.now) gives.name) c.if-failed.false had
    (c.finalize.ensures _ (had.digest c.if-failed.false)) c.append.ensures.ok c.append.ensures.err
    c.append.ensures.others c.append.ensures.writing c.append.ensures.reading)
