use Rattle.std.proofs.Common.{◌≡◌, drop}
use Rattle.manifest.specs.Fields.{is_among}
use Rattle.manifest.proofs.fields.is_among.Given as goal

-- none of the keys so far
abbrev pub invariant-loop-key : goal.invariant-loop-key
invariant-loop-key l = is_among (drop l.key-index l.keys) l.name ≡ is_among l.keys l.name
