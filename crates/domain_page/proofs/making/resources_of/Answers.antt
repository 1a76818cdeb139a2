use Rattle.std.proofs.Common.{◌∙◌, map, ap, sym, subst}
use Rattle.std.proofs.lemmas.Bool.{false≢true}
use Rattle.cloak_model.specs.Resources.{Resources}
use Rattle.domain_page.specs.Making.{emptied, CanHold, CanMapAll}
use Rattle.domain_page.proofs.Made.{can_hold, can_map}
use Rattle.domain_page.proofs.making.resources_of.Goals.{else-put_all-via-then-put_all+else-map_spaces, else-put_all-via-else-put_all}
use Rattle.domain_page.proofs.making.resources_of.Goals as goal

pub returns-else-put_all : goal.returns-else-put_all
returns-else-put_all c = λ r held spaces sound apart.
    let emptied_are = ap (λ (o : Resources). o.spaces) c.opened-r.ensures ∙ ap (map emptied) (sym spaces) in
    let hold = subst (CanHold c.opened-r.result) held (can_hold r c.opened-r.result sound emptied_are) in
    let put = c.put_all.ensures.can hold in
    elim c.else-put_all.branch [
      | else-put_all-via-then-put_all+else-map_spaces w ↦
          let now = ap (λ (o : Resources). o.held) (c.put_all.ensures.put put) ∙ sym held in
          let maps = subst (CanMapAll c.put_all.new.r) spaces (can_map r c.put_all.new.r sound apart now) in
          absurd (false≢true (sym w.if-map_spaces.false ∙ w.map_spaces.ensures.can maps))
      | else-put_all-via-else-put_all w ↦ absurd (false≢true (sym w.if-put_all.false ∙ put))
    ]
