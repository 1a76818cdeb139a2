use Rattle.std.proofs.Common.{◌-◌, ◌≤◌, length, length-drop, ℕ, ◌∙◌, arith}
use Rattle.std.proofs.lemmas.List.{length-take}
use Rattle.record_reader.proofs.Filled.{IfSome-more, filled_room, filled_end, put_length}
use Rattle.record_reader.proofs.ahead.Ahead.fill.Goals as goal

pub loop-count-preserved : goal.loop-count-preserved
loop-count-preserved g c =
    let i = c.loop-count.invariant in
    let within : c.in-Ok.n ≤ c.min-limit.result - c.loop-count.count = omega (arith, c.in-Ok.ensures.count, length-take {A = ℕ}, length-drop {A = ℕ}) in
    let room : c.min-limit.result ≤ length c.loop-count.into = omega (arith, i.limit, i.full, c.told-into) in
    record {
      front = IfSome-more _ _ c.args.at c.loop-count.count c.min-limit.result c.in-Ok.n c.loop-count.into c.read_at.new.into (i.files c.args.name.now) i.front i.few room i.fits within c.in-Ok.ensures.copied;
      few = omega (arith, within, i.few);
      limit = i.limit;
      fits = i.fits;
      full = put_length c.loop-count.count (c.min-limit.result - c.loop-count.count) c.loop-count.into c.read_at.new.into (omega (arith, i.few, room)) c.read_at.auto.into ∙ i.full;
      files = λ name. c.in-Ok.ensures.files name ∙ i.files name;
      reading = c.in-Ok.ensures.counts.0 ∙ i.reading;
      writing = c.in-Ok.ensures.counts.1 ∙ i.writing;
      settled = λ first. c.in-Ok.ensures.settled (i.settled first);
    }

pub returns-after-loop-count-clause-bytes : goal.returns-after-loop-count-clause-bytes
returns-after-loop-count-clause-bytes g c =
    let i = c.loop-count.invariant in
    filled_room _ c.args.at c.loop-count.count c.min-limit.result c.loop-count.into i.limit (omega (arith, c.loop-count-test.false)) i.few (omega arith) i.front

pub returns-then-n-eq0-clause-bytes : goal.returns-then-n-eq0-clause-bytes
returns-then-n-eq0-clause-bytes g c =
    let i = c.loop-count.invariant in
    let room : c.min-limit.result ≤ length c.loop-count.into = omega (arith, i.limit, i.full, c.told-into) in
    filled_end _ _ c.args.at c.loop-count.count c.min-limit.result c.in-Ok.n c.loop-count.into c.read_at.new.into (i.files c.args.name.now) c.if-n-eq0.true (omega (arith, c.loop-count-test.true)) room i.fits i.front c.in-Ok.ensures.copied
