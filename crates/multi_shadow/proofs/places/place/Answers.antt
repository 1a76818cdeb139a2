use Rattle.std.proofs.Common.{◌<◌, subst}
use Rattle.shadow_fold.specs.Entries.{IsWithin}
use Rattle.multi_shadow.proofs.Placing.{put_placed}
use Rattle.multi_shadow.proofs.places.place.Goals as goal

pub returns-in-Some-clause-placed : goal.returns-in-Some-clause-placed
returns-in-Some-clause-placed c =
    put_placed c.args.arena.now c.take.new.self c.enter_all.new.arena c.in-Some.s c.args.e c.requires.placed c.in-Some.ensures.free
    c.in-Some.ensures.taken c.enter_all.ensures.entered c.enter_all.ensures.tidy
    (subst (λ k. 0 < k) c.requires.heads c.requires.some)
    (subst (λ k. IsWithin k c.args.e) c.requires.heads c.requires.within)
