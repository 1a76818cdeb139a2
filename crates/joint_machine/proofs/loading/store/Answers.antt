use Rattle.std.proofs.Common.{◌<◌, ◌∙◌, sym, refl, subst}
use Rattle.std.proofs.lemmas.List.{get_or_default}
use Rattle.joint_machine.proofs.Loaded.{stores_more}
use Rattle.joint_machine.proofs.loading.store.Goals as goal

pub loop-i-preserved : goal.loop-i-preserved
loop-i-preserved c =
    let bytes = c.args.bytes.now in
    let i = c.loop-i.i in
    let b = c.from.result in
    stores_more c.args.pager.now c.loop-i.pager c.write_outside.new.self c.args.address i _ b bytes c.requires.from_start
    c.loop-i.invariant refl c.loop-i-test.true c.requires.to_end
    (c.from.ensures ∙ get_or_default bytes i 0 b c.loop-i-test.true)
    (subst (λ n. n < 256) (sym c.from.ensures) (c.type_inv.bytes i).fits)
    c.write_outside.ensures.state
