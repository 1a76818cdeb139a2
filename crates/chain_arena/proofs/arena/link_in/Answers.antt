use Rattle.std.proofs.Common.{ℕ, ◌<◌, length, subst, sym, ap, ◌∙◌}
use Rattle.chain_arena.specs.Nodes.{with_next, with_previous}
use Rattle.chain_arena.proofs.Nodes.{length-with_next, length-with_previous, read_next}
use Rattle.chain_arena.proofs.arena.link_in.Goals as goal

pub set_previous-requires : goal.set_previous-requires
set_previous-requires g c =
    subst (λ n. c.args.s < n) (sym (ap length c.set_next.ensures
    ∙ length-with_next c.args.link c.args.s c.get-next.result c.args.block.now)) c.requires.0

pub set_previous-requires-2 : goal.set_previous-requires-2
set_previous-requires-2 g c =
    let is_next = c.get-next.ensures ∙ read_next c.args.link c.args.a c.args.block.now c.get.result.now
    c.get.ensures in
    let long = ap length c.set_previous.ensures
    ∙ length-with_previous c.args.link c.args.s c.args.a c.set_next.new.block ∙ ap length c.set_next.ensures
    ∙ length-with_next c.args.link c.args.s c.get-next.result c.args.block.now in
    subst (λ n. c.get-next.result < n) (sym long)
    (subst (λ i. i < length c.args.block.now) (sym is_next) c.requires.2)

pub set_next-requires-2 : goal.set_next-requires-2
set_next-requires-2 g c =
    let long = ap length c.set_previous-2.ensures
    ∙ length-with_previous c.args.link c.get-next.result c.args.s c.set_previous.new.block
    ∙ ap length c.set_previous.ensures ∙ length-with_previous c.args.link c.args.s c.args.a c.set_next.new.block
    ∙ ap length c.set_next.ensures ∙ length-with_next c.args.link c.args.s c.get-next.result c.args.block.now in
    subst (λ n. c.args.a < n) (sym long) c.requires.1

pub returns : goal.returns
returns g c =
    let k = c.args.link in let s = c.args.s in let a = c.args.a in
    let is_next = c.get-next.ensures ∙ read_next k a c.args.block.now c.get.result.now c.get.ensures in
    c.set_next-2.ensures ∙ ap (with_next k a s) (c.set_previous-2.ensures
    ∙ ap (with_previous k c.get-next.result s) (c.set_previous.ensures ∙ ap (with_previous k s a) c.set_next.ensures))
    ∙ ap (λ (f : ℕ). with_next k a s (with_previous k f s (with_previous k s a (with_next k s f c.args.block.now))))
    is_next
