use Rattle.std.proofs.Common.{◌∙◌, map, sym, ap, arith}
use Rattle.std.specs.Prelude.{slice_set}
use Rattle.std.proofs.lemmas.List.{map-set, get_or-map}
use Rattle.run_notes.specs.Marking.{MarksNow, added, none_now}
use Rattle.run_notes.specs.Noting.{hart_marks}
use Rattle.run_notes.proofs.notes.mark_row.Goals as goal

pub returns-then-hart-harts : goal.returns-then-hart-harts
returns-then-hart-harts c =
    let harts = c.args.harts.now in
    let hart = c.args.hart in
    map-set hart_marks harts hart _
    ∙ ap (λ (m : MarksNow). slice_set (map hart_marks harts) hart m)
    (c.add.ensures
    ∙ ap (λ (m : MarksNow). added m c.args.mark)
    (sym (get_or-map hart_marks harts hart c.index-harts-hart.result none_now (omega arith))))
