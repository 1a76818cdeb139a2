-- The front of a file of version 2, which has a fixed length.
use Rattle.std.specs.Prelude.{ℕ, ◌/◌, List, ◌++◌, length, codes}
use Rattle.cloak_model.specs.Bits.{word}
use Rattle.cloak_model.specs.declared.image.Bundle.{Bundle}

abbrev pub header_bytes : Bundle → List ℕ
header_bytes b =
    let k = b.kernel in
    codes "CLOAKBND" ++ (word 2 ++ (word k.frames ++ (word k.harts ++ (word (length k.schedule) ++ (word k.entry
    ++ (word (length k.segments) ++ (word (length k.disk / 4096) ++ word (length b.programs))))))))
