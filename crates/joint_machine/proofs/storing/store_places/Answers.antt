use Rattle.std.proofs.Common.{◌≡◌, ◌∙◌, ◌+◌, All, take, slice_index_or, ap, sym, subst, arith}
use Rattle.std.specs.Prelude.{sum_by}
use Rattle.std.proofs.lemmas.List.{get_or_default}
use Rattle.std.proofs.lemmas.List.Sums.{sum_by_more_le}
use Rattle.cloak_model.specs.StoredFiles.{StoredFile, Precedes, page_count}
use Rattle.joint_machine.specs.Storing.{known_file, pages_at}
use Rattle.joint_machine.specs.declared.storing.FilePlace.{FilePlace}
use Rattle.joint_machine.proofs.Known.{all_precede, sum_told}
use Rattle.joint_machine.proofs.storing.store_places.Goals as goal

pub store_file-requires-clause-follows : goal.store_file-requires-clause-follows
store_file-requires-clause-follows c =
    let t = c.args.pager.now.table in
    let places = c.args.places.now in
    let i = c.loop-f.f-index in
    let f : FilePlace = slice_index_or places i (record { resource = 0; number = 0; pages = 0 }) in
    subst (All (λ (g : StoredFile). Precedes g (known_file t c.args.number f))) (sym c.loop-f.invariant.told)
    (all_precede t c.args.number c.args.files.now places i f c.requires.follows c.requires.rise c.loop-f-test.true
    (get_or_default places i _ f c.loop-f-test.true))

pub store_file-requires-clause-page_room : goal.store_file-requires-clause-page_room
store_file-requires-clause-page_room c =
    let t = c.args.pager.now.table in
    let places = c.args.places.now in
    let i = c.loop-f.f-index in
    let zero : FilePlace = record { resource = 0; number = 0; pages = 0 } in
    let sum : sum_by page_count c.loop-f.files ≡ sum_by page_count c.args.files.now + sum_by pages_at (take i places) =
    ap (sum_by page_count) c.loop-f.invariant.told ∙ sum_told t c.args.number c.args.files.now (take i places) in
    let more = sum_by_more_le pages_at places i zero c.loop-f-test.true in
    omega (arith, sum, more, c.requires.few_pages, c.requires.page_room, c.requires.domain)
