use Rattle.std.proofs.Common.{◌≡◌, ◌+◌, ◌++◌, ◌∷◌, [], take, ap, ◌∙◌, sym}
use Rattle.std.specs.List.{flat_map}
use Rattle.std.proofs.lemmas.List.{flat_map_more, take_more}
use Rattle.cloak_model.specs.Bundle.{program_bytes}
use Rattle.guest_bundle.proofs.writing.put_programs.Goals as goal

pub loop-p-preserved : goal.loop-p-preserved
loop-p-preserved c =
    let ps = c.args.programs.now in
    let i = c.loop-p.p-index in
    let one : take (i + 1) ps ≡ take i ps ++ c.p-item.result ∷ [] =
    take_more ps i c.p-item.result c.loop-p-test.true ∙ ap (λ p. take i ps ++ p ∷ []) (sym c.p-item.is) in
    c.in_ok-put_program.ensures ∙ ap (λ t. t ++ program_bytes 2 c.p-item.result) c.loop-p.invariant
    ∙ flat_map_more (program_bytes 2) c.args.out.now.items (take i ps) c.p-item.result
    ∙ ap (λ t. c.args.out.now.items ++ flat_map (program_bytes 2) t) (sym one)
