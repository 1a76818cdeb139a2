use Rattle.std.proofs.Common.{rules, [], ◌≡◌, slice_index_or}
use Rattle.std.proofs.lemmas.Option.{get_or_from_slice_get}
use Rattle.page_states.proofs.transitions.open_page.Goals as goal

pub returns-then-ne-clause-refused_where_not : goal.returns-then-ne-clause-refused_where_not
returns-then-ne-clause-refused_where_not c =
    let here : slice_index_or c.args.s.now c.args.r.0 [] ≡ c.outside.result.now =
    get_or_from_slice_get c.args.s.now c.args.r.0 _ [] c.outside.ensures in
    rw here (search rules)

pub returns-clause-opened_where_recorded : goal.returns-clause-opened_where_recorded
returns-clause-opened_where_recorded c =
    let here : slice_index_or c.args.s.now c.args.r.0 [] ≡ c.outside.result.now =
    get_or_from_slice_get c.args.s.now c.args.r.0 _ [] c.outside.ensures in
    rw here (search rules)
