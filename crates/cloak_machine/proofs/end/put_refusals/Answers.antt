use Rattle.std.proofs.Common.{◌≡◌, ◌≢◌, ◌==◌, ◌∙◌, ℕ, Bool, false, List, [], ◌++◌, Option, codes, if◌then◌else◌, ap, arith, sym}
use Rattle.std.specs.List.{flat_map}
use Rattle.std.proofs.lemmas.List.{append-nil}
use Rattle.cloak_base.specs.declared.causes.Violation.{Violation}
use Rattle.cloak_model.specs.Report.{number_line, violation_line, refusal_lines}
use Rattle.kernel_report.proofs.PutFacts.{then as one_after, text_is}
use Rattle.cloak_machine.proofs.end.put_refusals.Goals as goal

none_counted : (ended : List (Option Violation)) (refused : ℕ) → refused ≡ 0 →
    flat_map violation_line ended ≡ refusal_lines ended refused
none_counted ended refused none =
    sym (append-nil (flat_map violation_line ended)) ∙ ap (refusal_lines ended) (sym none)

some_counted : (ended : List (Option Violation)) (refused : ℕ) → refused ≢ 0 →
    flat_map violation_line ended ++ number_line (codes "refused ") refused ≡ refusal_lines ended refused
some_counted ended refused some =
    let counted : (refused == 0) ≡ false = grind arith in
    ap (λ (b : Bool). flat_map violation_line ended ++ (if b then [] else number_line (codes "refused ") refused))
    (sym counted)

pub returns-then-refused-eq0 : goal.returns-then-refused-eq0
returns-then-refused-eq0 g c =
    text_is c.put_violation_lines-so_far.ensures (none_counted c.args.ended.now c.args.refused c.if-refused-eq0.true)

pub returns : goal.returns
returns g c =
    text_is (one_after c.put_violation_lines-so_far.ensures c.put_number.ensures)
    (some_counted c.args.ended.now c.args.refused c.if-refused-eq0.false)
