-- The front of a file that was read so far.
use Rattle.std.proofs.Common.{◌≡◌, ◌<◌, ◌≤◌, ℕ, ◌+◌, ◌-◌, List, ◌++◌, length, take, drop, ◌∙◌, ap, sym, subst, arith}
use Rattle.std.proofs.Common.{length-append}
use Rattle.std.proofs.Common.{length-take, length-take-le, take-take, take-add, Option, Some, None, IfSome}
use Rattle.std.proofs.lemmas.List.{take-append-le}
use Rattle.io_traits.specs.Told.{IsCopied}

-- what is taken of a buffer into which bytes were copied
taken : (bytes piece old : List ℕ) (at count m : ℕ) → IsCopied bytes at count old piece → m ≤ count →
    take m piece ≡ take m (drop at bytes)
taken bytes piece old at count m copied few =
    let long = length-take-le count (drop at bytes) copied.within in
    ap (λ (x : List ℕ). take m x) copied.copied
    ∙ (take-append-le m (take count (drop at bytes)) (drop count old) (omega (arith, long, few))
    ∙ take-take m count (drop at bytes) few)

-- bytes that were copied from after a front are those that follow it
front_grows : (bytes items more piece old : List ℕ) (at count m : ℕ) → at ≡ length items →
    IsCopied bytes at count old piece → m ≤ count → items ≡ take (length items) bytes →
    more ≡ items ++ take m piece → more ≡ take (length more) bytes
front_grows bytes items more piece old at count m here copied few front grown =
    let within = copied.within in
    let next : take m piece ≡ take m (drop (length items) bytes) =
    taken bytes piece old at count m copied few ∙ ap (λ n. take m (drop n bytes)) here in
    let whole : more ≡ take (length items + m) bytes =
    grown ∙ ((λ i. front i ++ next i) ∙ sym (take-add (length items) m bytes)) in
    let long : length (take m (drop at bytes)) ≡ m =
    length-take-le m (drop at bytes) (omega (arith, within, few)) in
    let size : length more ≡ length items + m =
    ap (λ (x : List ℕ). length x)
    (grown ∙ ap (λ (x : List ℕ). items ++ x) (taken bytes piece old at count m copied few))
    ∙ length-append items (take m (drop at bytes)) ∙ ap (λ n. length items + n) long in
    whole ∙ ap (λ n. take n bytes) (sym size)

pub front_more : (first now : Option (List ℕ)) (items more piece old : List ℕ) (at count m : ℕ) → now ≡ first →
    at ≡ length items → IfSome now (λ bytes. IsCopied bytes at count old piece) → m ≤ count →
    IfSome first (λ bytes. items ≡ take (length items) bytes) → more ≡ items ++ take m piece →
    IfSome first (λ bytes. more ≡ take (length more) bytes)
front_more (Some bytes) now items more piece old at count m same here copied few front grown =
    front_grows bytes items more piece old at count m here
    (subst (λ (o : Option (List ℕ)). IfSome o (λ b. IsCopied b at count old piece)) same copied) few front grown
front_more None now items more piece old at count m same here copied few front grown = tt

pub few_more : (items more piece : List ℕ) (m size : ℕ) → more ≡ items ++ take m piece →
    length items + m ≤ size → length more ≤ size
few_more items more piece m size grown few =
    let long = ap (λ (x : List ℕ). length x) grown ∙ length-append items (take m piece) in
    let short = length-take m piece in
    omega (arith, long, short, few)
