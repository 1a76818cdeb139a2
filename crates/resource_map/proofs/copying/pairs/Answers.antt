use Rattle.std.proofs.Common.{◌≡◌, ℕ, ◌+◌, ◌<◌, List, [], ◌∷◌, ◌++◌, length, get_or, take, ap, sym, ◌∙◌, arith, rules}
use Rattle.std.specs.Prelude.{zip}
use Rattle.std.proofs.lemmas.List.{take_more, take_all, length_push}
use Rattle.std.proofs.lemmas.Slice.Zip.{zip_turn, zip_end, length-zip, get_or-zip}
use Rattle.resource_map.proofs.copying.pairs.Goals as goal

-- one more pair
zip-more : (ks vs : List ℕ) (i n a b : ℕ) → n ≡ i + 1 → i < length ks → i < length vs → a ≡ get_or ks i 0 → b ≡ get_or vs i 0 → take n (zip ks vs) ≡ take i (zip ks vs) ++ (a, b) ∷ []
zip-more ks vs i n a b next low high first second =
    let long : i < length (zip ks vs) = omega (arith, length-zip ks vs) in
    let pair = get_or-zip ks vs i (0, 0) low high in
    ap (λ (m : ℕ). take m (zip ks vs)) next
    ∙ (take_more (zip ks vs) i (0, 0) long
    ∙ ap (λ (p : ℕ × ℕ). take i (zip ks vs) ++ p ∷ []) (pair ∙ (ap (λ (x : ℕ). (x, get_or vs i 0)) (sym first) ∙ ap (λ (y : ℕ). (a, y)) (sym second))))

pub loop-from-preserved : goal.loop-from-preserved
loop-from-preserved c =
    let ks = c.args.froms.now in
    let vs = c.args.tos.now in
    let turn = zip_turn ks vs c.loop-from.yielded c.into_iter-from-iterator.result c.loop-from.from-iterator c.next.new.self c.next.result (search rules) (search rules) c.loop-from.yielded_by (c.in-Some.from, c.in-Some.to) c.in-Some.is c.next.ensures.steps in
    let long = length_push c.loop-from.yielded (c.in-Some.from, c.in-Some.to) in
    let more = zip-more ks vs (length c.loop-from.yielded) _ c.in-Some.from.now c.in-Some.to.now long turn.0 turn.1 (turn.2 0) (turn.3 0) in (
      c.push.ensures.items ∙ (ap (λ (list : List (ℕ × ℕ)). list ++ (c.in-Some.from.now, c.in-Some.to.now) ∷ []) c.loop-from.invariant.0 ∙ sym more),
      omega arith,
    )

pub returns : goal.returns
returns c =
    let ks = c.args.froms.now in
    let vs = c.args.tos.now in
    let long = zip_end ks vs c.loop-from.yielded c.into_iter-from-iterator.result c.loop-from.from-iterator c.next.new.self c.next.result (search rules) (search rules) c.loop-from.yielded_by c.in-None.is c.next.ensures.steps in
    c.loop-from.invariant.0 ∙ take_all (length c.loop-from.yielded) (zip ks vs) (omega (arith, length-zip ks vs))
