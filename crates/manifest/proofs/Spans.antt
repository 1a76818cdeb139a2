-- Where parts of memory begin and end.
use Rattle.std.proofs.Common.{◌≡◌, ◌≤◌, ◌<◌, ◌+◌, ◌-◌, ◌^◌, ℕ, List, [], ◌∷◌, get_or, length, map, min, max, fold, All, arith, subst}
use Rattle.std.proofs.lemmas.List.Elements.{All-cons, All-head, All-nil, All-weaker}
use Rattle.std.proofs.lemmas.List.{get_or-map, length-map}
use Rattle.std.proofs.Math.Nat.{div-add-mod}
use Rattle.elf_image.specs.Image.{Part, IsPart}
use Rattle.elf_image.specs.declared.part.ElfPart.{ElfPart}
use Rattle.elf_image.specs.Views.{seen}
use Rattle.manifest.specs.Loading.{lowest, highest, base_of}

-- an address at which all parts begin or before, and one from which on none has an address
lower : (from : ℕ) (parts : List ElfPart) → let low = fold (λ low (p : Part). min low p.address) from (map seen parts) in
    (low ≤ from) × All (λ (p : ElfPart). low ≤ p.address) parts
lower from [] = (omega arith, All-nil (λ (p : ElfPart). from ≤ p.address))
lower from (p ∷ parts) =
    let rest = lower (min from p.address) parts in
    let low = fold (λ low (p : Part). min low p.address) (min from p.address) (map seen parts) in
    (omega (arith, rest.0), All-cons (λ (p : ElfPart). low ≤ p.address) p parts (omega (arith, rest.0)) rest.1)

higher : (from : ℕ) (parts : List ElfPart) →
    let high = fold (λ high (p : Part). max high (p.address + p.size)) from (map seen parts) in
    (from ≤ high) × All (λ (p : ElfPart). p.address + p.size ≤ high) parts
higher from [] = (omega arith, All-nil (λ (p : ElfPart). p.address + p.size ≤ from))
higher from (p ∷ parts) =
    let rest = higher (max from (p.address + p.size)) parts in
    let high = fold (λ high (p : Part). max high (p.address + p.size)) (max from (p.address + p.size)) (map seen parts) in
    (omega (arith, rest.0), All-cons (λ (p : ElfPart). p.address + p.size ≤ high) p parts (omega (arith, rest.0)) rest.1)

pub from_lowest : (parts : List ElfPart) → All (λ (p : ElfPart). lowest (map seen parts) ≤ p.address) parts
from_lowest parts = (lower (2 ^ 32 - 1) parts).1

pub to_highest : (parts : List ElfPart) → All (λ (p : ElfPart). p.address + p.size ≤ highest (map seen parts)) parts
to_highest parts = (higher 0 parts).1

pub in_order : (parts : List ElfPart) → 1 ≤ length parts → lowest (map seen parts) ≤ highest (map seen parts)
in_order [] some = absurd (omega (arith, some))
in_order (p ∷ parts) some =
    let low = All-head (λ (x : ElfPart). lowest (map seen (p ∷ parts)) ≤ x.address) p parts (from_lowest (p ∷ parts)) in
    let high = All-head (λ (x : ElfPart). x.address + x.size ≤ highest (map seen (p ∷ parts))) p parts (to_highest (p ∷ parts)) in
    omega (arith, low, high)

pub base_below : (parts : List ElfPart) → base_of (map seen parts) ≤ lowest (map seen parts)
base_below parts = omega (arith, div-add-mod (lowest (map seen parts)) 4096)

pub from_base : (parts : List ElfPart) (base : ℕ) → base ≡ base_of (map seen parts) → All (λ (p : ElfPart). base ≤ p.address) parts
from_base parts base is =
    All-weaker (λ (p : ElfPart). lowest (map seen parts) ≤ p.address) (λ (p : ElfPart). base ≤ p.address)
    (λ p h. omega (arith, h, is, base_below parts)) parts (from_lowest parts)

-- a part has no more bytes in the file than in memory
pub bytes_within : (parts : List ElfPart) (k : ℕ) (d : ElfPart) → k < length parts → All IsPart (map seen parts) →
    length (get_or parts k d).bytes.now ≤ (get_or parts k d).size
bytes_within parts k d inside each =
    let mapped : k < length (map seen parts) = rw length-map inside in
    let is_part : IsPart (seen (get_or parts k d)) =
    subst IsPart (get_or-map seen parts k d (seen d) inside) (each k (seen d) mapped) in
    is_part.bytes

pub to_top : (parts : List ElfPart) (top : ℕ) → highest (map seen parts) ≤ top → All IsPart (map seen parts) →
    All (λ (p : ElfPart). p.address + length p.bytes.now ≤ top) parts
to_top parts top below each = λ k d inside.
    omega (arith, bytes_within parts k d inside each, below, to_highest parts k d inside)
