use Rattle.std.proofs.Common.{None}
use Rattle.std.proofs.lemmas.Map.Text.{btree_map_updates_text}
use Rattle.never_fails.proofs.Handed.{others_stay}
use Rattle.never_fails.proofs.shelf.NeverShelf.forget.Goals as goal

pub returns-clause-others : goal.returns-clause-others
returns-clause-others c =
    others_stay c.args.name.now c.args.self.now.files c.remove.new.self None
    (btree_map_updates_text c.args.name.now c.args.self.now.files c.remove.new.self None c.remove.ensures.updates)
