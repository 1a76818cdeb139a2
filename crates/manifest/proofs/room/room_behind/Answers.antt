use Rattle.std.proofs.Common.{◌≡◌, ◌<◌, ◌+◌, ℕ, List, length, subst, arith}
use Rattle.std.specs.List.{flat_map}
use Rattle.cloak_model.specs.Bundle.{segment_bytes, program_bytes}
use Rattle.cloak_model.specs.declared.image.Segment.{Segment}
use Rattle.cloak_model.specs.declared.image.Program.{Program}
use Rattle.guest_bundle.proofs.Lengths.{bundle_bytes-length}
use Rattle.manifest.proofs.room.room_behind.Goals as goal

pub returns-in_err-turns : goal.returns-in_err-turns
returns-in_err-turns c =
    let b = c.args.bundle.now in
    let whole = bundle_bytes-length 2 b in
    let turns : 67108824 < length b.kernel.schedule =
    subst (λ (xs : List ℕ). 67108824 < length xs) c.as_slice.ensures c.in_err-turns.ensures in
    rw c.from_residual.ensures (omega (arith, whole, turns))

pub returns-in_err-disk : goal.returns-in_err-disk
returns-in_err-disk c =
    let b = c.args.bundle.now in
    let whole = bundle_bytes-length 2 b in
    let turns : length b.kernel.schedule + c.in_ok-turns.turns ≡ 67108824 =
    subst (λ (xs : List ℕ). length xs + c.in_ok-turns.turns ≡ 67108824) c.as_slice.ensures c.in_ok-turns.ensures in
    let disk : c.in_ok-turns.turns < length b.kernel.disk =
    subst (λ (xs : List ℕ). c.in_ok-turns.turns < length xs) c.as_slice-2.ensures c.in_err-disk.ensures in
    rw c.from_residual-in_err-disk.ensures (omega (arith, whole, turns, disk))

pub returns-in_err-segments : goal.returns-in_err-segments
returns-in_err-segments c =
    let b = c.args.bundle.now in
    let whole = bundle_bytes-length 2 b in
    let turns : length b.kernel.schedule + c.in_ok-turns.turns ≡ 67108824 =
    subst (λ (xs : List ℕ). length xs + c.in_ok-turns.turns ≡ 67108824) c.as_slice.ensures c.in_ok-turns.ensures in
    let disk : length b.kernel.disk + c.in_ok-disk.disk ≡ c.in_ok-turns.turns =
    subst (λ (xs : List ℕ). length xs + c.in_ok-disk.disk ≡ c.in_ok-turns.turns) c.as_slice-2.ensures
    c.in_ok-disk.ensures in
    let segments : c.in_ok-disk.disk < length (flat_map segment_bytes b.kernel.segments) =
    subst (λ (xs : List Segment). c.in_ok-disk.disk < length (flat_map segment_bytes xs)) c.as_slice-3.ensures
    c.in_err-segments.ensures in
    rw c.from_residual-in_err-segments.ensures (omega (arith, whole, turns, disk, segments))

pub returns-in_err-programs : goal.returns-in_err-programs
returns-in_err-programs c =
    let b = c.args.bundle.now in
    let whole = bundle_bytes-length 2 b in
    let turns : length b.kernel.schedule + c.in_ok-turns.turns ≡ 67108824 =
    subst (λ (xs : List ℕ). length xs + c.in_ok-turns.turns ≡ 67108824) c.as_slice.ensures c.in_ok-turns.ensures in
    let disk : length b.kernel.disk + c.in_ok-disk.disk ≡ c.in_ok-turns.turns =
    subst (λ (xs : List ℕ). length xs + c.in_ok-disk.disk ≡ c.in_ok-turns.turns) c.as_slice-2.ensures
    c.in_ok-disk.ensures in
    let segments : length (flat_map segment_bytes b.kernel.segments) + c.in_ok-segments.segments ≡ c.in_ok-disk.disk =
    subst (λ (xs : List Segment). length (flat_map segment_bytes xs) + c.in_ok-segments.segments ≡ c.in_ok-disk.disk)
    c.as_slice-3.ensures c.in_ok-segments.ensures in
    let programs : c.in_ok-segments.segments < length (flat_map (program_bytes 2) b.programs) =
    subst (λ (xs : List Program). c.in_ok-segments.segments < length (flat_map (program_bytes 2) xs)) c.as_slice-4.ensures
    c.in_err-programs.ensures in
    rw c.from_residual-in_err-programs.ensures (omega (arith, whole, turns, disk, segments, programs))

pub returns : goal.returns
returns c =
    let b = c.args.bundle.now in
    let whole = bundle_bytes-length 2 b in
    let turns : length b.kernel.schedule + c.in_ok-turns.turns ≡ 67108824 =
    subst (λ (xs : List ℕ). length xs + c.in_ok-turns.turns ≡ 67108824) c.as_slice.ensures c.in_ok-turns.ensures in
    let disk : length b.kernel.disk + c.in_ok-disk.disk ≡ c.in_ok-turns.turns =
    subst (λ (xs : List ℕ). length xs + c.in_ok-disk.disk ≡ c.in_ok-turns.turns) c.as_slice-2.ensures
    c.in_ok-disk.ensures in
    let segments : length (flat_map segment_bytes b.kernel.segments) + c.in_ok-segments.segments ≡ c.in_ok-disk.disk =
    subst (λ (xs : List Segment). length (flat_map segment_bytes xs) + c.in_ok-segments.segments ≡ c.in_ok-disk.disk)
    c.as_slice-3.ensures c.in_ok-segments.ensures in
    let programs : length (flat_map (program_bytes 2) b.programs) + c.in_ok-programs.programs ≡ c.in_ok-segments.segments =
    subst (λ (xs : List Program). length (flat_map (program_bytes 2) xs) + c.in_ok-programs.programs ≡ c.in_ok-segments.segments)
    c.as_slice-4.ensures c.in_ok-programs.ensures in
    omega (arith, whole, turns, disk, segments, programs)
