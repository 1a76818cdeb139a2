use Rattle.std.proofs.Common.{◌∙◌, ◌+◌, ◌++◌, ◌∷◌, [], List, map, take, ap, sym}
use Rattle.std.proofs.lemmas.List.{map_more}
use Rattle.cloak_model.specs.declared.image.Program.{Program}
use Rattle.joint_machine.specs.Placings.{placing}
use Rattle.joint_machine.specs.declared.placings.Placing.{Placing}
use Rattle.joint_machine.proofs.placings.placings_of.Goals as goal

pub loop-p-preserved : goal.loop-p-preserved
loop-p-preserved c =
    let programs = c.args.programs.now in
    let i = c.loop-p.p-index in
    let p = c.p-item.result in
    record {
      items =
          c.push.ensures.items
          ∙ (ap (λ (xs : List Placing). xs ++ placing p ∷ []) c.loop-p.invariant.items
          ∙ sym (map_more placing programs i p c.loop-p-test.true
          ∙ ap (λ (q : Program). map placing (take i programs) ++ placing q ∷ []) (sym c.p-item.is)));
      count = c.push.ensures.len ∙ ap (λ n. n + 1) c.loop-p.invariant.count;
    }
