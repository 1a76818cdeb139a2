use Rattle.std.proofs.Common.{◌≡◌, ◌+◌, ◌-◌, ◌^◌, min, Ok, refl, sym, ap, subst, ◌∙◌}
use Rattle.cloak_model.specs.declared.item.Item as code
use Rattle.cloak_model.specs.Record.{IsItem}
use Rattle.cloak_model.specs.RecordFault.{stage_after}
use Rattle.record_law.specs.Items.{item_in}
use Rattle.cloak_model.specs.Items.{item_of}
use Rattle.record_reader.proofs.Windows.{rest}
use Rattle.record_reader.proofs.Answering.{told_wrong, told_none, told_item, item_fits}
use Rattle.record_reader.proofs.reader.Reader.next.Goals as goal

pub returns-in-Err-judge-clause-next : goal.returns-in-Err-judge-clause-next
returns-in-Err-judge-clause-next g c =
    told_wrong _ _ c.args.self.now _ c.items_from.new.ahead c.in-Ok.from c.from-bytes.result.now c.in-Err-judge.wrong c.fault_of.result
    (c.in-Ok.ensures.files c.args.self.now.name.now) c.in-Ok.ensures.magic c.in-Ok.ensures.ahead c.in-Ok-reach.ensures.window c.in-Ok-reach.ensures.ahead c.from-bytes.ensures
    (sym c.in-Err-judge.is ∙ c.judge.ensures.judged) c.fault_of.ensures refl refl

pub returns-in-Ok-None-clause-next : goal.returns-in-Ok-None-clause-next
returns-in-Ok-None-clause-next g c =
    told_none _ _ c.args.self.now _ c.items_from.new.ahead c.in-Ok.from c.from-bytes.result.now
    (c.in-Ok.ensures.files c.args.self.now.name.now) c.in-Ok.ensures.magic c.in-Ok.ensures.ahead c.in-Ok-reach.ensures.window c.in-Ok-reach.ensures.ahead c.from-bytes.ensures
    (ap (λ x. Ok x) (sym c.in-Ok-None.field-0-is) ∙ sym c.in-Ok-None.is ∙ c.judge.ensures.judged) refl refl

pub returns-in-Ok-Some-clause-next : goal.returns-in-Ok-Some-clause-next
returns-in-Ok-Some-clause-next g c =
    told_item _ _ c.args.self.now _ c.items_from.new.ahead c.in-Ok.from c.from-bytes.result.now c.in-Ok-Some.tag _
    (c.in-Ok.ensures.files c.args.self.now.name.now) c.in-Ok.ensures.magic c.in-Ok.ensures.ahead c.in-Ok-reach.ensures.window c.in-Ok-reach.ensures.ahead c.from-bytes.ensures
    c.judge.ensures.each (ap (λ x. Ok x) (sym c.in-Ok-Some.field-0-is) ∙ sym c.in-Ok-Some.is ∙ c.judge.ensures.judged) (c.item_in-item.ensures ∙ ap (item_in c.in-Ok-Some.tag) (rest c.from-bytes.result.now))
    (c.saturating_add-self.ensures ∙ ap (λ k. min (c.in-Ok.from + (1 + k)) (2 ^ 64 - 1)) c.size_of.ensures) c.stage_after-self.ensures

pub returns-in-Ok-Some-clause-item : goal.returns-in-Ok-Some-clause-item
returns-in-Ok-Some-clause-item g c = λ i is.
    subst (λ (k : code.Item). IsItem (item_of k)) (let same : c.item_in-item.result ≡ i = cc in same)
    (item_fits c.args.self.now.stage c.from-bytes.result.now c.in-Ok-Some.tag _ c.judge.ensures.each (ap (λ x. Ok x) (sym c.in-Ok-Some.field-0-is) ∙ sym c.in-Ok-Some.is ∙ c.judge.ensures.judged)
    (c.item_in-item.ensures ∙ ap (item_in c.in-Ok-Some.tag) (rest c.from-bytes.result.now)))
