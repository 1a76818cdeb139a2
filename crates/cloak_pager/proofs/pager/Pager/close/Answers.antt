use Rattle.std.proofs.Common.{◌<◌, ◌≤◌, length, arith, subst, refl}
use Rattle.cloak_pager.specs.State.{IsWholePager}
use Rattle.cloak_pager.proofs.Closing.{closed_start, closed_more, closed_end, closing_stands}
use Rattle.cloak_pager.proofs.pager.Pager.close.Goals as goal

pub loop-i-init : goal.loop-i-init
loop-i-init c = record { closed = closed_start _; stands = λ w m s. s }

pub loop-i-preserved : goal.loop-i-preserved
loop-i-preserved c =
    let whole : IsWholePager c.args.self.now = subst IsWholePager c.self.view_is c.self.invariant.whole in
    let there : c.loop-i.i < length c.self.inside.frames =
    rw (← c.self.invariant.whole.count)
    (omega (arith, c.len-i-end.ensures, c.loop-i-test.true, c.self.inside.rights.ok.0)) in
    let inside : c.loop-i.i < length c.args.self.now.frames = rw (← c.self.view_is) there in
    let within : c.loop-i.i < length c.loop-i.self.frames = rw c.loop-i.invariant.closed.count inside in
    record {
      closed =
          closed_more c.args.self.now c.loop-i.self c.close_frame.new.self c.loop-i.i whole c.loop-i.invariant.closed
          inside c.close_frame.ensures;
      stands = λ w m s.
          closing_stands c.loop-i.self c.close_frame.new.self c.loop-i.i within c.close_frame.ensures w m
          (c.loop-i.invariant.stands w m s);
    }

pub returns-clause-model : goal.returns-clause-model
returns-clause-model c = λ w m s. record { answer = refl; stands = c.loop-i.invariant.stands w m s; drawn = refl }

pub returns-clause-state : goal.returns-clause-state
returns-clause-state c =
    let whole : IsWholePager c.args.self.now = subst IsWholePager c.self.view_is c.self.invariant.whole in
    let there : length c.self.inside.frames ≤ c.loop-i.i =
    rw (← c.self.invariant.whole.count)
    (omega (arith, c.len-i-end.ensures, c.loop-i-test.false, c.self.inside.rights.ok.0)) in
    let all : length c.args.self.now.frames ≤ c.loop-i.i = rw (← c.self.view_is) there in
    closed_end c.args.self.now c.loop-i.self c.loop-i.i whole c.loop-i.invariant.closed all
