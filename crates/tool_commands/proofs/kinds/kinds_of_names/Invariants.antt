use Rattle.std.proofs.Common.{◌≡◌, drop, fold, map, Some}
use Rattle.tool_commands.specs.KindNames.{kinds_of_names, with_name}
use Rattle.tool_commands.proofs.kinds.kinds_of_names.Given as goal

-- the kinds so far, with those of the names to come, are those of all names
abbrev pub invariant-loop-name : goal.invariant-loop-name
invariant-loop-name l = record {
  so_far : fold with_name (Some l.kinds) (map (λ name. name.now) (drop l.name-index l.names))
      ≡ kinds_of_names (map (λ name. name.now) l.names);
}
