use Rattle.std.proofs.Common.{refl, inl, inr}
use Rattle.system_io.proofs.Held.{held-kept, held-emptied, held-others}
use Rattle.system_io.proofs.file_shelf.FileShelf.start.Goals as goal

pub returns-in_default-clause-failed : goal.returns-in_default-clause-failed
returns-in_default-clause-failed g c =
    rw (← c.self.view_is) (inl (held-kept g.D.FileSystem.told _ _ c.in_default.ensures.err refl refl c.args.name.now))

pub returns-in_default-clause-others : goal.returns-in_default-clause-others
returns-in_default-clause-others g c =
    rw (← c.self.view_is) (λ other _. held-kept g.D.FileSystem.told _ _ c.in_default.ensures.err refl refl other)

pub returns-clause-emptied : goal.returns-clause-emptied
returns-clause-emptied g c =
    λ _. held-emptied g.D.FileSystem.told _ c.args.name.now c.clear.ensures c.in-Ok.ensures.emptied

pub returns-clause-failed : goal.returns-clause-failed
returns-clause-failed g c =
    inr (held-emptied g.D.FileSystem.told _ c.args.name.now c.clear.ensures c.in-Ok.ensures.emptied)

pub returns-clause-others : goal.returns-clause-others
returns-clause-others g c =
    let for_it = rw (← c.self.view_is) at c.requires.gathered in
    rw (← c.self.view_is)
    (held-others g.D.FileSystem.told _ _ c.args.name.now for_it c.clear.ensures c.in-Ok.ensures.others)
