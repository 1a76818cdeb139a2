-- Where the disk stands in the bytes of a bundle.
use Rattle.std.proofs.Common.{◌≡◌, ◌∙◌, ◌+◌, ◌/◌, ◌<◌, ◌≤◌, ◌^◌, ℕ, List, ◌++◌, length, take, drop, sym, ap, append_assoc, length-append, length-drop, arith, codes}
use Rattle.std.specs.List.{flat_map}
use Rattle.std.proofs.lemmas.List.{drop-drop, drop_at, length-take, take_at}
use Rattle.cloak_model.specs.declared.image.Bundle.{Bundle}
use Rattle.cloak_model.specs.Bits.{word}
use Rattle.cloak_model.specs.Bundle.{IsInGrammar, bundle_bytes, program_bytes, segment_bytes}
use Rattle.guest_bundle.proofs.Lengths.{bundle_bytes-length}
use Rattle.store_command.specs.Leaving.{with_disk}
use Rattle.store_command.specs.Preparing.{disk_at}
use Rattle.store_command.specs.Writing.{with_bytes_at}

-- the header of a bundle, with this many blocks, and what stands after it
headed : ℕ → ℕ → Bundle → List ℕ → List ℕ
headed version blocks b rest =
    let k = b.kernel in
    codes "CLOAKBND" ++ (word version
    ++ (word k.frames ++ (word k.harts ++ (word (length k.schedule) ++ (word k.entry
    ++ (word (length k.segments) ++ (word blocks ++ (word (length b.programs) ++ rest))))))))

-- what stands before the disk
before_disk : ℕ → Bundle → List ℕ
before_disk version b =
    headed version (length b.kernel.disk / 4096) b (b.kernel.schedule ++ flat_map segment_bytes b.kernel.segments)

before_disk-length : (version : ℕ) (b : Bundle) → length (before_disk version b) ≡ disk_at b
unfolding before_disk headed
before_disk-length version b =
    let parts = length-append b.kernel.schedule (flat_map segment_bytes b.kernel.segments) in omega (arith, parts)

-- and after it
after_disk : ℕ → Bundle → List ℕ
after_disk version b = flat_map (program_bytes version) b.programs

parts_of : (version : ℕ) (b : Bundle) →
    bundle_bytes version b ≡ before_disk version b ++ (b.kernel.disk ++ after_disk version b)
unfolding bundle_bytes before_disk after_disk headed
parts_of version b =
    ap (λ (rest : List ℕ). headed version (length b.kernel.disk / 4096) b rest)
    (sym (append_assoc b.kernel.schedule (flat_map segment_bytes b.kernel.segments)
    (b.kernel.disk ++ after_disk version b)))

-- with other bytes in its place
replaced : (front disk rest bytes : List ℕ) (at : ℕ) → length front ≡ at → length bytes ≡ length disk →
    with_bytes_at at bytes (front ++ (disk ++ rest)) ≡ front ++ (bytes ++ rest)
replaced front disk rest bytes at place long =
    let both : length (front ++ disk) ≡ at + length bytes =
    let two = length-append front disk in omega (arith, two, place, long) in
    let left : take at (front ++ (disk ++ rest)) ≡ front = take_at front (disk ++ rest) at place in
    let right : drop (at + length bytes) (front ++ (disk ++ rest)) ≡ rest =
    ap (λ (l : List ℕ). drop (at + length bytes) l) (sym (append_assoc front disk rest))
    ∙ drop_at (front ++ disk) rest (at + length bytes) both in
    λ i. left i ++ (bytes ++ right i)

-- The bytes of a bundle with the bytes of its disk overwritten are those of the bundle with that disk.
pub disk_replaced : (version : ℕ) (b : Bundle) (disk : List ℕ) → length disk ≡ length b.kernel.disk →
    with_bytes_at (disk_at b) disk (bundle_bytes version b) ≡ bundle_bytes version (with_disk disk b)
unfolding before_disk after_disk headed
disk_replaced version b disk long =
    let same : before_disk version b ≡ before_disk version (with_disk disk b) =
    ap (λ n. headed version (n / 4096) b (b.kernel.schedule ++ flat_map segment_bytes b.kernel.segments)) (sym long) in
    ap (λ (l : List ℕ). with_bytes_at (disk_at b) disk l) (parts_of version b)
    ∙ (replaced (before_disk version b) b.kernel.disk (after_disk version b) disk (disk_at b)
    (before_disk-length version b) long
    ∙ (ap (λ (front : List ℕ). front ++ (disk ++ after_disk version b)) same
    ∙ sym (parts_of version (with_disk disk b))))

-- the disk begins within the bytes of a bundle
pub place_small : (b : Bundle) → IsInGrammar b → disk_at b + length b.kernel.disk < 2 ^ 32
place_small b grammar =
    let parts = bundle_bytes-length 1 b in let few = grammar.not_too_large in omega (arith, parts, few)

pub place_within : (version : ℕ) (b : Bundle) → disk_at b + length b.kernel.disk ≤ length (bundle_bytes version b)
place_within version b = let parts = bundle_bytes-length version b in omega (arith, parts)

-- A part of a list that is written back has its place.
pub part_back : (all lent part : List ℕ) (len from count : ℕ) → lent ≡ all → length all ≡ len →
    from + count ≤ length all → length part ≡ count →
    let whole = take from lent ++ (part ++ drop count (drop from lent)) in
    take len (whole ++ drop (length whole) all) ≡ with_bytes_at from part all
part_back all lent part len from count same sized within long =
    let whole = take from lent ++ (part ++ drop count (drop from lent)) in
    let lent_long = ap length same in
    let one = length-append (take from lent) (part ++ drop count (drop from lent)) in
    let two = length-append part (drop count (drop from lent)) in
    let front = length-take from lent in
    let back = length-drop count (drop from lent) in
    let rest = length-drop from lent in
    let exact : length whole ≡ len = omega (arith, lent_long, sized, within, long, one, two, front, back, rest) in
    let after : drop count (drop from lent) ≡ drop (from + length part) all =
    drop-drop count from lent ∙ (λ i. drop (from + sym long i) (same i)) in
    take_at whole (drop (length whole) all) len exact ∙ (λ i. take from (same i) ++ (part ++ after i))
