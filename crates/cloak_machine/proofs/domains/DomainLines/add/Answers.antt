use Rattle.std.proofs.Common.{◌≡◌, ◌∙◌, ◌∷◌, [], map, take, length, ap, rules, arith}
use Rattle.std.proofs.lemmas.List.{take_more_set, map-append}
use Rattle.cloak_machine.specs.Lines.{line_text}
use Rattle.cloak_machine.proofs.domains.DomainLines.add.Goals as goal

pub returns-clause-lines : goal.returns-clause-lines
returns-clause-lines c =
    let old = c.args.self.now in
    let room = c.requires in
    let four : length old.lines ≡ 4 = search rules in
    ap (map line_text) (take_more_set old.lines old.count c.args.line (omega (arith, room, four)))
    ∙ map-append line_text (take old.count old.lines) (c.args.line ∷ [])
