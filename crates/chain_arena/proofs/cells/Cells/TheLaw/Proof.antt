-- A `&` to the places lends each value that is written, and not the room after them. Assumes `Logic`.
use mathlib.Core.Path.{sym, subst}
use mathlib.Core.List.{[], ◌++◌}
use lib.ListN.{length}
use base.Fraction.{full_share}
use base.Fml.{Fml, Incl-trans, fsep}
use contract.BorrowLft.{meet_⊑_left}
use denote.RattleType.{RattleType}
use denote.Array.{Array, Array-row_laws}
use denote.ArrayMemory.{Single}
use denote.Param.Laws.{Laws}
use denote.Param.Shared.{copy_shared}
use denote.RawPtr.{RawPtr, lies_at, room_for, ◌+ₚ◌}
use denote.Shares.{Shares-less, Shares-Array}
use denote.Sharing.{said}
use denote.SharingLaws.{beside_shr_laws, said_shr_laws}
use denote.Struct.Laws.{field_copy}
use denote.Struct.Lending.{lent_at, lent_at_shr_laws, Lends-lies, Lends-said, Lends-first, Lends-both, of_Lends}
use Rattle.core.specs.Allocator.{array_of}
use Rattle.core.specs.Mem.{type_size}
use Rattle.core.specs.contracts.marker.PhantomData as marker
use Rattle.std.specs.Prelude.{◌-◌, ◌*◌}
use Rattle.chain_arena.specs.Ownership.{fits}
use Rattle.chain_arena.specs.contracts.cells.Cells as C
use Rattle.chain_arena.proofs.cells.Cells.TheLaw.Statement.{statement}

pub shares : (R : RattleType) (L : Laws R) → statement R L
shares R L =
    of_Lends (C.struct R) (C.the_codes R.Denot R.coded (marker.the_row RawPtr).coded) (C.the_heap R) (C.the_lent R)
    (λ d p.
    let bound = fits R d.places d.values in let k = length d.values in
    beside_shr_laws (said bound) (lent_at (Array R k) d.at d.values) (said_shr_laws bound (tt, tt))
    (lent_at_shr_laws (Array R k) (Array-row_laws R L.shr_laws k) d.at d.values))
    (copy_shared (marker.the_field RawPtr) (field_copy (marker.the_type RawPtr) tt), tt)
    (λ M 𝓤 𝓛 d p.
    let l = (C.the_row R).lives in let k = length d.values in let lent = lent_at (Array R k) d.at d.values in
    let written : Fml = lies_at (Array R k) full_share d.at d.values in
    let rest : Fml = room_for (array_of R (d.places - k)) (d.at +ₚ k * type_size R) in
    let row = Shares-less 𝓛 R R.lives l (Incl-trans (meet_⊑_left (R.lives ++ []) _) (meet_⊑_left R.lives []))
    (L.shares 𝓛) in
    let bound = fits R d.places d.values in
    Lends-both 𝓛 bound (fsep written rest) (said bound) lent l (Lends-said 𝓛 bound (tt, tt) l)
    (Lends-first 𝓛 written rest lent l (Lends-lies 𝓛 (Array R k) l d.at d.values
    (Shares-Array 𝓛 R (subst Single (sym L.one) tt) k l row d.values))))
