use Rattle.std.proofs.Common.{◌≡◌, ◌∷◌, [], ◌++◌, ◌<◌, ◌^◌, ℕ, List, map, length, sym, ap, subst, ◌∙◌, append_assoc}
use Rattle.std.proofs.Common.{arith, All}
use Rattle.std.specs.Vec.Iter.{into_iter_items}
use Rattle.std.proofs.lemmas.List.{length_push, map-append}
use Rattle.cloak_model.specs.DomainState as model
use Rattle.cloak_model.specs.DomainState.{domain_line}
use Rattle.cloak_machine.specs.Lines.{lines_kept}
use Rattle.cloak_machine.proofs.DomainOrder.{ends_in, of_last, of_front}
use Rattle.cloak_machine.proofs.domains.DomainLines.of.Goals as goal

-- the count of its loads is told
abbrev IsShort : model.Domain → Type 0
IsShort d = length d.loads < 2 ^ 64

pub loop-domain-preserved : goal.loop-domain-preserved
loop-domain-preserved c =
    let at = c.loop-domain in
    let x = c.in-Some.domain in
    let steps : into_iter_items at.domain-iterator ≡ x ∷ into_iter_items c.next.new.self =
    c.in-Some.ensures.steps.0 in record {
      rest = append_assoc at.yielded (x ∷ []) _ ∙ rw (← steps) at.invariant.rest;
      counted = (let was = at.invariant.counted in
          let gone = c.in-Some.ensures.steps.1 in
          let short = ap length steps in
          omega arith);
      count = (let more = length_push at.yielded x in
          let was = at.invariant.count in
          let added = c.add.ensures.count in
          omega (arith, more, was, added));
      text = λ ds are few.
          let e = ends_in at.yielded x ds are in
          let all : All IsShort (e.front ++ e.last ∷ []) = subst (λ (l : List model.Domain). All IsShort l) e.is few in
          c.add.ensures.lines
          ∙ ap (λ (l : List ℕ). lines_kept at.lines ++ l ∷ [])
          (c.of.ensures e.last e.stands (of_last IsShort e.front e.last all))
          ∙ ap (λ (l : List (List ℕ)). l ++ domain_line e.last ∷ [])
          (at.invariant.text e.front e.are (of_front IsShort e.front e.last all))
          ∙ sym (map-append domain_line e.front (e.last ∷ []))
          ∙ ap (λ (l : List model.Domain). map domain_line l) (sym e.is);
    }
