use Rattle.std.proofs.Common.{◌≡◌, ◌∙◌, rules}
use Rattle.domain_page.proofs.Readable.{slots_readable, spaces_readable, numbers_readable, page_spelled}
use Rattle.domain_page.proofs.reading.parts_of.Goals as goal

pub returns : goal.returns
returns c = λ number d is.
    let same : c.as_slice.result.now ≡ c.args.b.now = search rules in
    let first = c.slots-unmarked.ensures d.contexts _ (slots_readable number d is.program) (same ∙ page_spelled d c.args.b.now is.spelled) in
    let second = c.spaces-spaces.ensures d.resources.spaces _ (spaces_readable number d is.program) first.1 in
    let third = c.resources-held.ensures d.resources.held _ (numbers_readable number d is.program) second.1 in
    let fourth = c.marks-slots.ensures d.contexts _ (record { right = slots_readable number d is.program; are = first.0 }) third.1 in
    record { slots = fourth.0; spaces = second.0; held = third.0 }
