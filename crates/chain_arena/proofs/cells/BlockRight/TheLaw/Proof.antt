-- A `&` to the right to free a block lends nothing. Assumes `Logic`.
use denote.RattleType.{RattleType}
use denote.Param.Laws.{Laws}
use denote.Param.Shared.{copy_shared}
use denote.RawPtr.{RawPtr}
use denote.SharingLaws.{nothing_shr_laws}
use denote.Struct.Laws.{field_copy}
use denote.Struct.Lending.{Lends-nothing, of_Lends}
use Rattle.core.specs.contracts.marker.PhantomData as marker
use Rattle.core.specs.declared.alloc.Allocator.{Ghosts}
use Rattle.chain_arena.specs.contracts.cells.BlockRight as D
use Rattle.chain_arena.proofs.cells.BlockRight.TheLaw.Statement.{statement}

pub shares : (R A : RattleType) (g : Ghosts A.Denot) (L : Laws R) (K : Laws A) → statement R A g L K
shares R A g L K =
    let heap = D.the_heap R A g in
    of_Lends (D.struct R A g) (D.the_codes R.Denot A.Denot R.coded A.coded (marker.the_row RawPtr).coded) heap
    (D.the_lent R A g)
    (λ d p. nothing_shr_laws) (copy_shared (marker.the_field RawPtr) (field_copy (marker.the_type RawPtr) tt), tt)
    (λ M 𝓤 𝓛 d p. Lends-nothing 𝓛 (heap d) (D.the_row R A g).lives)
