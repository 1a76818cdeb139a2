use Rattle.std.proofs.Common.{◌≡◌, ◌<◌, ◌≤◌, length, take, arith, false, true, ◌∙◌}
use Rattle.std.proofs.lemmas.List.{length-take-le}
use Rattle.system_io.proofs.Writes.{left_after}
use Rattle.system_io.proofs.gathered.Gathered.is_empty.Goals as goal

pub returns-then-self : goal.returns-then-self
returns-then-self c =
    let held = c.self.invariant.1 in
    let room = c.self.inside.room.ok.0 in
    let inside : c.self.inside.filled ≤ length c.self.inside.room.items = omega (arith, held, room) in
    let all = take c.self.inside.filled c.self.inside.room.items in
    let len = length-take-le c.self.inside.filled c.self.inside.room.items inside in
    let more : c.self.inside.written < length all = omega (arith, len, c.if-self.true) in (
      λ (no : false ≡ true). cc,
      λ none. absurd (left_after all c.self.inside.written more (c.self.view_is ∙ none)),
    )
