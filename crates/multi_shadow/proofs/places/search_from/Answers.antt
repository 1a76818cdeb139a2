use Rattle.std.proofs.Common.{sym, ◌∙◌}
use Rattle.shadow_fold.specs.Entries.{is_for}
use Rattle.multi_shadow.proofs.Slots.{found}
use Rattle.multi_shadow.proofs.places.search_from.Goals as goal

pub returns-then-is_for : goal.returns-then-is_for
returns-then-is_for c =
    let A = c.args.arena.now in let test = is_for c.args.v.now c.args.page c.args.kind in
    let passes = sym c.is_for.ensures ∙ c.if-is_for.true in
    sym (found test A.payloads c.args.s c.payload_ref-e.result.now c.payload_ref-e.ensures passes
    (c.requires.apart c.args.v.now c.args.page c.args.kind))
