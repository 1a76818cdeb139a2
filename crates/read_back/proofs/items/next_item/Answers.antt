use Rattle.std.proofs.Common.{◌≡◌, ◌∙◌, Ok, Err, Some, refl, ap}
use Rattle.cloak_model.specs.Items.{item_of}
use Rattle.record_reader.specs.Reading.{item_read}
use Rattle.read_back.proofs.NextItem as read
use Rattle.read_back.proofs.items.next_item.Goals as goal

pub returns-in-Ok-Some-clause-next : goal.returns-in-Ok-Some-clause-next
returns-in-Ok-Some-clause-next g c = λ items behind.
    let is : c.next.result ≡ Ok (Some c.in-Ok-Some.item) = c.in-Ok-Some.is ∙ ap (λ x. Ok x) c.in-Ok-Some.field-0-is in
    read.next_item _ _ c.args.reader.now c.next.new.self c.next.result (item_of c.in-Ok-Some.item)
    refl (ap (λ x. item_read x) is) c.next.ensures.next items behind

pub returns-in-Ok-Some-clause-counts : goal.returns-in-Ok-Some-clause-counts
returns-in-Ok-Some-clause-counts g c =
    read.counted _ _ _ c.next.result _ refl (c.in-Ok-Some.is ∙ ap (λ x. Ok x) c.in-Ok-Some.field-0-is)
    (c.next.ensures.reading c.requires)

pub returns-in-Ok-Some-clause-item : goal.returns-in-Ok-Some-clause-item
returns-in-Ok-Some-clause-item g c =
    c.next.ensures.item c.in-Ok-Some.item (c.in-Ok-Some.is ∙ ap (λ x. Ok x) c.in-Ok-Some.field-0-is)

pub returns-in-Ok-Some-clause-moves : goal.returns-in-Ok-Some-clause-moves
returns-in-Ok-Some-clause-moves g c =
    c.next.ensures.moves c.in-Ok-Some.item (c.in-Ok-Some.is ∙ ap (λ x. Ok x) c.in-Ok-Some.field-0-is)

pub returns-in-Ok-None-clause-next : goal.returns-in-Ok-None-clause-next
returns-in-Ok-None-clause-next g c = λ items behind.
    read.next_none _ _ c.args.reader.now c.next.new.self c.next.result refl
    (c.in-Ok-None.is ∙ ap (λ x. Ok x) c.in-Ok-None.field-0-is) c.next.ensures.next items behind

pub returns-in-Ok-None-clause-counts : goal.returns-in-Ok-None-clause-counts
returns-in-Ok-None-clause-counts g c =
    read.counted _ _ _ c.next.result _ refl (c.in-Ok-None.is ∙ ap (λ x. Ok x) c.in-Ok-None.field-0-is)
    (c.next.ensures.reading c.requires)

pub returns-in-Err-Read-clause-counts : goal.returns-in-Err-Read-clause-counts
returns-in-Err-Read-clause-counts g c =
    read.risen _ _ _ c.next.result refl (c.in-Err-Read.is ∙ ap (λ x. Err x) c.in-Err-Read.field-0-is)
    (c.next.ensures.reading c.requires)

pub returns-in-Err-Record-clause-next : goal.returns-in-Err-Record-clause-next
returns-in-Err-Record-clause-next g c = λ items behind.
    read.next_fault _ _ c.args.reader.now c.next.new.self c.next.result c.in-Err-Record.fault refl
    (c.in-Err-Record.is ∙ ap (λ x. Err x) c.in-Err-Record.field-0-is) c.next.ensures.next items behind

pub returns-in-Err-Record-clause-counts : goal.returns-in-Err-Record-clause-counts
returns-in-Err-Record-clause-counts g c =
    read.counted_fault _ _ _ c.next.result _ refl (c.in-Err-Record.is ∙ ap (λ x. Err x) c.in-Err-Record.field-0-is)
    (c.next.ensures.reading c.requires)
