use Rattle.std.proofs.Common.{◌≡◌, ◌+◌, ◌-◌, suc, sym, ◌∙◌, arith, rules}
use Rattle.asm_text.proofs.LineFacts.{line_behind, line_here}
use Rattle.asm_text.proofs.telling.line_numbered.Goals as goal

pub loop-preserved : goal.loop-preserved
loop-preserved c =
    let one : c.args.number - c.loop.counter ≡ suc (c.args.number - (c.loop.counter + 1)) = omega arith in
    let here = rw one at c.loop.invariant.ahead in
    record {
      is_text = search rules;
      ahead = rw c.behind_line-rest.ensures (sym (line_behind c.loop.rest.now (c.args.number - (c.loop.counter + 1))) ∙ here);
    }

pub returns : goal.returns
returns c =
    let none : c.args.number - c.loop.counter ≡ 0 = omega arith in
    let here = rw none at c.loop.invariant.ahead in
    c.first_line.ensures ∙ (sym (line_here c.loop.rest.now) ∙ here)
