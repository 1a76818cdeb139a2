use Rattle.std.proofs.Common.{◌≡◌, ◌+◌, ◌≤◌, length, take, ap, arith}
use Rattle.std.specs.List.{flat_map}
use Rattle.std.proofs.lemmas.List.Folds.{length-flat_map-take}
use Rattle.cloak_model.specs.Bundle.{program_bytes}
use Rattle.cloak_model.specs.declared.image.Program.{Program}
use Rattle.guest_bundle.proofs.Lengths.{program_bytes-length}
use Rattle.manifest.proofs.room.behind_programs.Goals as goal

pub returns-in_default : goal.returns-in_default
returns-in_default c =
    let item = c.program-item.result in
    let front = length-flat_map-take (program_bytes 2) c.args.programs.now c.loop-program.program-index item c.loop-program-test.true in
    let same = ap (λ (s : Program). length (program_bytes 2 s)) c.program-item.is in
    omega (arith, front, same, program_bytes-length 2 item, c.in_default.ensures, c.loop-program.invariant)

pub returns-in_default-taken : goal.returns-in_default-taken
returns-in_default-taken c =
    let item = c.program-item.result in
    let front = length-flat_map-take (program_bytes 2) c.args.programs.now c.loop-program.program-index item c.loop-program-test.true in
    let same = ap (λ (s : Program). length (program_bytes 2 s)) c.program-item.is in
    omega (
      arith,
      front,
      same,
      program_bytes-length 2 item,
      ap length c.as_slice.ensures,
      c.in-Some.ensures,
      c.in_default-taken.ensures,
      c.loop-program.invariant,
    )
