use Rattle.std.proofs.Common.{◌≡◌, ◌∙◌, ◌<◌, ◌+◌, ℕ, List, [], ◌++◌, Option, get_or, length, take, ap, arith, rules, sym}
use Rattle.std.specs.List.{flat_map}
use Rattle.std.proofs.lemmas.List.{take_more, flat_map_more}
use Rattle.cloak_base.specs.declared.causes.Violation.{Violation}
use Rattle.cloak_model.specs.Report.{violation_line}
use Rattle.kernel_report.proofs.PutFacts.{then, text_is}
use Rattle.cloak_machine.proofs.end.put_violation_lines.Goals as goal

-- one line more
more_lines : (ended : List (Option Violation)) (i : ℕ) (d : Option Violation) → i < length ended →
    flat_map violation_line (take i ended) ++ violation_line (get_or ended i d)
    ≡ flat_map violation_line (take (i + 1) ended)
more_lines ended i d low =
    flat_map_more violation_line [] (take i ended) (get_or ended i d)
    ∙ ap (flat_map violation_line) (sym (take_more ended i d low))

pub loop-what-preserved : goal.loop-what-preserved
loop-what-preserved g c =
    let low = c.loop-what-test.true in
    let four : length c.args.ended.now ≡ 4 = search rules in
    text_is (then c.loop-what.invariant c.put_violation_line-so_far.ensures)
    (more_lines c.args.ended.now _ _ (omega (arith, low, four)))
