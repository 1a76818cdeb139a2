use Rattle.std.proofs.Common.{◌+◌, ◌<◌, length, ap, ◌∙◌, false-eqb, arith}
use Rattle.rv_asm.specs.Operations.{or_else}
use Rattle.rv_asm.specs.Statements.{statement}
use Rattle.rv_asm.specs.Assembly.{lines_of, size, mark, labels_of, find_in, table}
use Rattle.rv_asm.proofs.Lines.{shorter}
use Rattle.rv_asm.proofs.Found.{next_labels}
use Rattle.rv_asm.proofs.labels.labels.Goals as goal

pub loop-rest-preserved : goal.loop-rest-preserved
loop-rest-preserved c =
    let rest = c.loop-rest.rest.now in
    let line = c.loop-rest.line in
    let place = c.loop-rest.place in
    let some : 0 < length rest = omega (arith, false-eqb _ 0 c.loop-rest-test.ensures) in
    let text_is = c.before-in-loop-rest.ensures in
    let rest_is = c.behind-rest.ensures in
    record {
      found = λ q.
          let old = table c.loop-rest.marks q in
          rw rest_is (next_labels q old (table c.mark_line.new.marks q) line place c.in_ok-place.field-0 rest (find_in (labels_of 0 0 (lines_of c.args.text.now)) q) some
          (c.in_ok-place.ensures.words ∙ ap (λ t. size (statement t)) text_is)
          (c.in_ok-place.ensures.marked q ∙ ap (λ t. or_else old (find_in (mark (line + 1) place (statement t)) q)) text_is)
          (c.loop-rest.invariant.found q));
      lines = omega (arith, shorter rest some, ap length rest_is);
      words = omega (arith, c.in_ok-place.ensures.few);
    }
