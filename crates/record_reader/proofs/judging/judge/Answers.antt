use Rattle.std.proofs.Common.{rules, ◌-◌, Ok, length, take, drop, sym, ap, ◌∙◌}
use Rattle.std.proofs.lemmas.Bool.{eqb-true, eqb-false}
use Rattle.cloak_model.specs.RecordFault.{wrong_item}
use Rattle.record_reader.proofs.Windows.{rest, over_none, over_more, none_cut, item_wrong, item_right}
use Rattle.record_reader.proofs.Answering.{judged_whole}
use Rattle.record_reader.proofs.judging.judge.Goals as goal

pub returns-then-is_empty-clause-judged : goal.returns-then-is_empty-clause-judged
returns-then-is_empty-clause-judged c =
    over_none c.args.stage c.args.bytes.now (sym c.is_over.ensures ∙ c.if-is_over.true) (eqb-true _ _ (sym c.is_empty.ensures ∙ c.if-is_empty.true))

pub returns-else-is_empty-clause-judged : goal.returns-else-is_empty-clause-judged
returns-else-is_empty-clause-judged c =
    over_more c.args.stage c.args.bytes.now (sym c.is_over.ensures ∙ c.if-is_over.true) (eqb-false _ _ (sym c.is_empty.ensures ∙ c.if-is_empty.false))

pub returns-then-is_empty-2-clause-judged : goal.returns-then-is_empty-2-clause-judged
returns-then-is_empty-2-clause-judged c =
    none_cut c.args.stage c.args.bytes.now (sym c.is_over.ensures ∙ c.if-is_over.false) (eqb-true _ _ (sym c.is_empty-2.ensures ∙ c.if-is_empty-2.true))

pub returns-in-None-clause-judged : goal.returns-in-None-clause-judged
returns-in-None-clause-judged c =
    ap (λ o. Ok o) c.tag_of-tag.ensures
    ∙ item_right c.args.stage c.args.bytes.now (sym c.is_over.ensures ∙ c.if-is_over.false) (eqb-false _ _ (sym c.is_empty-2.ensures ∙ c.if-is_empty-2.false))
    (sym c.in-None.is ∙ c.wrong_item.ensures ∙ ap (λ o. wrong_item c.args.stage o (take (length c.args.bytes.now - 1) (drop 1 c.args.bytes.now))) c.tag_of-tag.ensures
    ∙ ap (wrong_item c.args.stage _) (rest c.args.bytes.now))

pub returns-in-None-clause-whole : goal.returns-in-None-clause-whole
returns-in-None-clause-whole c = judged_whole c.args.stage c.args.bytes.now _ (search rules) (returns-in-None-clause-judged c)

pub returns-in-Some-clause-judged : goal.returns-in-Some-clause-judged
returns-in-Some-clause-judged c =
    item_wrong c.args.stage c.args.bytes.now _ (sym c.is_over.ensures ∙ c.if-is_over.false) (eqb-false _ _ (sym c.is_empty-2.ensures ∙ c.if-is_empty-2.false))
    (sym c.in-Some.is ∙ c.wrong_item.ensures ∙ ap (λ o. wrong_item c.args.stage o (take (length c.args.bytes.now - 1) (drop 1 c.args.bytes.now))) c.tag_of-tag.ensures
    ∙ ap (wrong_item c.args.stage _) (rest c.args.bytes.now))
