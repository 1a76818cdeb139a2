use Rattle.std.proofs.Common.{◌∙◌, sym, ap, List, ℕ, ◌++◌, rules}
use Rattle.std.specs.FinMap.{insert}
use Rattle.std.proofs.lemmas.Map.Text.{btree_map_updates_text}
use Rattle.io_traits.specs.Table.{files_of}
use Rattle.io_traits.proofs.Tables.{files_of-set, files_of-same, bytes_of-some, bytes_of-none, IsThere-none}
use Rattle.io_traits.proofs.table.extend.Goals as goal

pub returns-in_err-extend_from_slice-in-Some-clause-err :
    goal.returns-in_err-extend_from_slice-in-Some-clause-err
returns-in_err-extend_from_slice-in-Some-clause-err c =
    let after = c.extend_from_slice.new.self in
    let lender = c.get_mut.follows.lender after in
    let sets = btree_map_updates_text c.args.name.now c.args.files.now lender _
    ((c.get_mut.follows.holds after).3 (search rules)) in
    let same = files_of-same c.args.name.now c.args.files.now lender c.in-Some.file.now after sets
    c.in-Some.ensures.value c.in_err-extend_from_slice-in-Some.ensures.items in
    search (rules, same)

pub returns-in_ok-extend_from_slice-in-Some-clause-ok :
    goal.returns-in_ok-extend_from_slice-in-Some-clause-ok
returns-in_ok-extend_from_slice-in-Some-clause-ok c =
    let after = c.extend_from_slice.new.self in
    let lender = c.get_mut.follows.lender after in
    let sets = btree_map_updates_text c.args.name.now c.args.files.now lender _
    ((c.get_mut.follows.holds after).3 (search rules)) in
    let there = bytes_of-some c.args.files.now c.args.name.now c.in-Some.file.now c.in-Some.ensures.value in
    files_of-set c.args.name.now c.args.files.now lender after sets
    ∙ ap (insert (files_of c.args.files.now) c.args.name.now)
    (c.in_ok-extend_from_slice-in-Some.ensures.items ∙ ap (λ (old : List ℕ). old ++ c.args.bytes.now) (sym there))

pub returns-in-None-clause-ok : goal.returns-in-None-clause-ok
returns-in-None-clause-ok c =
    let none = bytes_of-none c.args.files.now c.args.name.now c.in-None.ensures.value in
    let same = c.get_mut.follows.holds-at-none in rw none (rw same at c.replace.ensures.ok)

pub returns-in-None-clause-there : goal.returns-in-None-clause-there
returns-in-None-clause-there c =
    λ there _. absurd (IsThere-none c.args.files.now c.args.name.now c.in-None.ensures.value there)
