use Rattle.std.proofs.Common.{◌≡◌, ◌∙◌, ◌<◌, ◌+◌, ◌++◌, ◌∷◌, [], ℕ, List, sym, ap, length-append, add-one, arith}
use Rattle.std.proofs.lemmas.List.Elements.{All-push}
use Rattle.manifest.specs.Parts.{harts_in_order}
use Rattle.manifest.proofs.kernel.plain_schedule.Goals as goal

one_more : (turns : List ℕ) (hart : ℕ) → turns ≡ harts_in_order hart → turns ++ hart ∷ [] ≡ harts_in_order (hart + 1)
one_more turns hart order = rw add-one (ap (λ (xs : List ℕ). xs ++ hart ∷ []) order)

pub loop-hart-preserved : goal.loop-hart-preserved
loop-hart-preserved c =
    let turns = c.loop-hart.turns.items in
    let hart = c.loop-hart.hart in
    let so_far = c.loop-hart.invariant in
    let pushed = c.in_ok-push.ensures.items in
    record {
      order = pushed ∙ one_more turns hart so_far.order;
      count = rw pushed (simp length-append (omega (arith, so_far.count)));
      turns = rw pushed (All-push (λ h. h < c.args.harts) turns hart so_far.turns c.loop-hart-test.true);
    }

pub returns-clause-order : goal.returns-clause-order
returns-clause-order c =
    let last : c.loop-hart.hart ≡ c.args.harts = omega (arith, c.loop-hart-test.false, c.loop-hart.auto.hart-end) in
    c.loop-hart.invariant.order ∙ ap harts_in_order (last)

pub returns-clause-count : goal.returns-clause-count
returns-clause-count c =
    omega (arith, c.loop-hart.invariant.count, c.loop-hart-test.false, c.loop-hart.auto.hart-end)

pub returns-clause-turns : goal.returns-clause-turns
returns-clause-turns c = c.loop-hart.invariant.turns
