use Rattle.std.proofs.Common.{◌<◌, ◌≤◌, ◌++◌, ◌∙◌, List, map, drop, length, slice_index_or, Option, None, append-nil, ap, arith}
use Rattle.std.proofs.lemmas.List.{drop_all, get_or_default, take_all}
use Rattle.std.proofs.lemmas.List.Edits.{map_over_more}
use Rattle.replayed_run.specs.PagesTold.{forgotten}
use Rattle.replayed_run.specs.declared.pages.Showing.{Showing}
use Rattle.replayed_run.proofs.pages.forget_ended.Goals as goal

pub loop-place-preserved : goal.loop-place-preserved
loop-place-preserved c = λ b items stand.
    let xs = c.args.last.now in
    let ys = c.loop-place.last in
    let i = c.loop-place.place in
    let x : Option Showing = slice_index_or ys i None in
    let low : i < length xs = omega arith in
    let there : i < length ys = omega arith in
    c.forget_at.ensures b items stand
    ∙ map_over_more (forgotten b items c.args.domain) xs ys i x low (c.loop-place.invariant b items stand)
    (get_or_default ys i None x there)

pub returns : goal.returns
returns c = λ b items stand.
    let f = forgotten b items c.args.domain in
    let xs = c.args.last.now in
    let i = c.loop-place.place in
    let past : length xs ≤ i = omega arith in
    c.loop-place.invariant b items stand
    ∙ (ap (λ (l : List (Option Showing)). map f l ++ drop i xs) (take_all i xs past)
    ∙ (ap (λ (l : List (Option Showing)). map f xs ++ l) (drop_all i xs past) ∙ append-nil (map f xs)))
