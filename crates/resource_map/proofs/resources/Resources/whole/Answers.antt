use Rattle.std.proofs.Common.{◌≡◌, rules, subst, sym, Some, None}
use Rattle.std.specs.Prelude.{slice_index_or}
use Rattle.resource_map.proofs.WholePages.{AreWhole, no_space, whole_lookup}
use Rattle.resource_map.proofs.resources.Resources.whole.Goals as goal

pub returns-in-Some : goal.returns-in-Some
returns-in-Some c =
    let is : slice_index_or c.args.self.now.spaces c.args.space None ≡ Some c.in-Some.regions.now = search rules in
    whole_lookup c.args.self.now c.args.space (subst AreWhole (sym is) c.whole.ensures)

pub returns-in_default : goal.returns-in_default
returns-in_default c =
    let is : slice_index_or c.args.self.now.spaces c.args.space None ≡ None = search rules in
    whole_lookup c.args.self.now c.args.space (subst AreWhole (sym is) no_space)
