use Rattle.std.proofs.Common.{None, sym, ap, subst, ◌∙◌}
use Rattle.chain_arena.specs.declared.chain.Chain.TheVariants as chain
use Rattle.chain_arena.specs.Arena.{Stands, unhooked, with_payload, IsTidyArena}
use Rattle.multi_shadow.specs.Placed.{ArePlaced}
use Rattle.multi_shadow.proofs.Removing.{gone_chains, in_bucket, in_target, in_first, in_second, not_first, not_second, still_long, none_left, gone_placed}
use Rattle.multi_shadow.proofs.places.remove.Goals as goal

pub leave-requires-clause-stands : goal.leave-requires-clause-stands
leave-requires-clause-stands c t = in_bucket c.args.arena.now c.requires.placed c.args.s c.payload-e.result c.payload-e.ensures

pub leave-requires-2-clause-long : goal.leave-requires-2-clause-long
leave-requires-2-clause-long c = still_long c.args.arena.now c.leave.new.arena chain.Bucket c.args.s c.leave.ensures c.requires.placed.tidy.heads

pub leave-requires-2-clause-stands : goal.leave-requires-2-clause-stands
leave-requires-2-clause-stands c t = subst (λ B. Stands B chain.Target c.args.s) (sym c.leave.ensures) (in_target c.args.arena.now c.requires.placed c.args.s c.payload-e.result c.payload-e.ensures)

pub leave-requires-3-clause-long : goal.leave-requires-3-clause-long
leave-requires-3-clause-long c =
    still_long c.leave.new.arena c.leave-2.new.arena chain.Target c.args.s c.leave-2.ensures (still_long c.args.arena.now c.leave.new.arena chain.Bucket c.args.s c.leave.ensures c.requires.placed.tidy.heads)

pub leave-requires-3-clause-stands : goal.leave-requires-3-clause-stands
leave-requires-3-clause-stands c t =
    let s = c.args.s in let two = c.leave-2.ensures ∙ ap (λ B. unhooked B chain.Target s) c.leave.ensures in
    subst (λ B. Stands B chain.First s) (sym two) (in_first c.args.arena.now c.requires.placed s c.payload-e.result c.payload-e.ensures (sym c.is_some.ensures ∙ t))

pub leave-requires-3-clause-out : goal.leave-requires-3-clause-out
leave-requires-3-clause-out c t st =
    let s = c.args.s in let two = c.leave-2.ensures ∙ ap (λ B. unhooked B chain.Target s) c.leave.ensures in
    not_first c.args.arena.now c.requires.placed s c.payload-e.result c.payload-e.ensures (sym c.is_some.ensures ∙ t) (subst (λ B. Stands B chain.First s) two st)

pub leave-requires-4-clause-long : goal.leave-requires-4-clause-long
leave-requires-4-clause-long c =
    still_long c.leave-2.new.arena c.leave-3.new.arena chain.First c.args.s c.leave-3.ensures
    (still_long c.leave.new.arena c.leave-2.new.arena chain.Target c.args.s c.leave-2.ensures (still_long c.args.arena.now c.leave.new.arena chain.Bucket c.args.s c.leave.ensures c.requires.placed.tidy.heads))

pub leave-requires-4-clause-stands : goal.leave-requires-4-clause-stands
leave-requires-4-clause-stands c t =
    let s = c.args.s in let three = c.leave-3.ensures ∙ ap (λ B. unhooked B chain.First s) (c.leave-2.ensures ∙ ap (λ B. unhooked B chain.Target s) c.leave.ensures) in
    subst (λ B. Stands B chain.Second s) (sym three) (in_second c.args.arena.now c.requires.placed s c.payload-e.result c.payload-e.ensures (sym c.is_some-2.ensures ∙ t))

pub leave-requires-4-clause-out : goal.leave-requires-4-clause-out
leave-requires-4-clause-out c t st =
    let s = c.args.s in let three = c.leave-3.ensures ∙ ap (λ B. unhooked B chain.First s) (c.leave-2.ensures ∙ ap (λ B. unhooked B chain.Target s) c.leave.ensures) in
    not_second c.args.arena.now c.requires.placed s c.payload-e.result c.payload-e.ensures (sym c.is_some-2.ensures ∙ t) (subst (λ B. Stands B chain.Second s) three st)

pub give_back-requires-clause-apart : goal.give_back-requires-clause-apart
give_back-requires-clause-apart c k st =
    let s = c.args.s in
    let four = c.leave-4.ensures ∙ ap (λ B. unhooked B chain.Second s) (c.leave-3.ensures ∙ ap (λ B. unhooked B chain.First s) (c.leave-2.ensures ∙ ap (λ B. unhooked B chain.Target s) c.leave.ensures)) in
    none_left c.args.arena.now s k (subst (λ B. Stands B k s) four st)

pub returns-clause-placed : goal.returns-clause-placed
returns-clause-placed c =
    let s = c.args.s in
    let four = c.leave-4.ensures ∙ ap (λ B. unhooked B chain.Second s) (c.leave-3.ensures ∙ ap (λ B. unhooked B chain.First s) (c.leave-2.ensures ∙ ap (λ B. unhooked B chain.Target s) c.leave.ensures)) in
    let all = c.give_back.ensures.freed ∙ ap (λ B. with_payload B s None) four in
    subst ArePlaced (sym all) (gone_placed c.args.arena.now s c.requires.placed (subst IsTidyArena all c.give_back.ensures.tidy))

pub returns-clause-chains : goal.returns-clause-chains
returns-clause-chains c =
    let s = c.args.s in
    let four = c.leave-4.ensures ∙ ap (λ B. unhooked B chain.Second s) (c.leave-3.ensures ∙ ap (λ B. unhooked B chain.First s) (c.leave-2.ensures ∙ ap (λ B. unhooked B chain.Target s) c.leave.ensures)) in
    gone_chains c.args.arena.now _ s (c.give_back.ensures.freed ∙ ap (λ B. with_payload B s None) four)
