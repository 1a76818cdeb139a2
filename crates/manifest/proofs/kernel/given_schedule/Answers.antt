use Rattle.std.proofs.Common.{◌≡◌, ◌∙◌, ◌<◌, ℕ, List, [], Vec, Result, Err, sym, ap, length-append, arith}
use Rattle.std.specs.declared.alloc.Global.{Global}
use Rattle.std.proofs.lemmas.List.Elements.{All-push}
use Rattle.toml.specs.View.{items_view}
use Rattle.manifest.specs.declared.fault.FaultyKey.{FaultyKey}
use Rattle.manifest.specs.Faults.{Fault, by_keys}
use Rattle.manifest.specs.Parts.{turns_of}
use Rattle.manifest.proofs.Steps.{key_wrong}
use Rattle.manifest.proofs.Turns.{turn_more, turn_wrong, turns_over}
use Rattle.manifest.proofs.kernel.given_schedule.Goals as goal

pub loop-turn-preserved : goal.loop-turn-preserved
loop-turn-preserved c =
    let so_far = c.loop-turn.invariant in
    let pushed = c.in_ok-push-in-Some.ensures.items in
    record {
      read = rw pushed (sym (turn_more c.args.place.part c.args.harts c.args.turns.now c.loop-turn.turn-index c.turn-item.result
          c.loop-turn.schedule.items c.in-Some.hart c.loop-turn-test.true c.turn-item.is (sym c.in-Some.ensures.read))
          ∙ so_far.read);
      count = rw pushed (simp length-append (omega (arith, so_far.count)));
      turns = rw pushed (All-push (λ h. h < c.args.harts) c.loop-turn.schedule.items c.in-Some.hart so_far.turns (omega (arith, c.in-Some.ensures.range.1)));
    }

pub returns-in-None-clause-read : goal.returns-in-None-clause-read
returns-in-None-clause-read c =
    let at = c.args.place.part in
    let turns = c.args.turns.now in
    key_wrong (λ (v : Vec ℕ Global). v.items)
    (λ (r : Result (List ℕ) Fault). r ≡ by_keys (turns_of at c.args.harts [] (items_view turns))) c.fault-fault.result c.from.result
    (ap by_keys (ap (λ (f : FaultyKey). Err f) c.fault-fault.ensures
    ∙ sym (turn_wrong at c.args.harts turns c.loop-turn.turn-index c.turn-item.result c.loop-turn.schedule.items
    c.loop-turn-test.true c.turn-item.is (sym c.in-None.ensures.read))
    ∙ c.loop-turn.invariant.read))
    c.from.ensures

pub returns-clause-read : goal.returns-clause-read
returns-clause-read c =
    ap by_keys (sym (turns_over c.args.place.part c.args.harts c.args.turns.now c.loop-turn.turn-index
    c.loop-turn.schedule.items c.loop-turn-test.false) ∙ c.loop-turn.invariant.read)
