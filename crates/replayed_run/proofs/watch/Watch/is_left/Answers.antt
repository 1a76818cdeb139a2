use Rattle.std.proofs.Common.{◌≡◌, ◌∙◌, ◌&&◌, ℕ, Bool, not, sym, ap, arith}
use Rattle.replayed_run.specs.Noted.{is_left}
use Rattle.replayed_run.proofs.NotedMore.{left_more, left_none}
use Rattle.replayed_run.proofs.watch.Watch.is_left.Goals as goal

pub loop-slot-init : goal.loop-slot-init
loop-slot-init c = λ b items stand. left_none b items c.args.space

pub loop-slot-preserved : goal.loop-slot-preserved
loop-slot-preserved c = λ b items stand.
    c.without-left.ensures
    ∙ (ap (λ (x : Bool). x && not c.is_in_space.result) (c.loop-slot.invariant b items stand)
    ∙ (ap (λ (x : Bool). is_left b items c.args.space c.loop-slot.slot && not x) (c.is_in_space.ensures b items stand)
    ∙ sym (left_more b items c.args.space c.loop-slot.slot)))

pub returns : goal.returns
returns c = λ b items stand.
    let end : c.loop-slot.slot ≡ 8 = omega arith in
    c.loop-slot.invariant b items stand ∙ ap (λ (n : ℕ). is_left b items c.args.space n) end
