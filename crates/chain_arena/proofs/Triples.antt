-- The values that an opened block is made of, and three of them as one. Assumes `Logic`.
use mathlib.Core.Path.{refl}
use mathlib.Core.List.{List, [], ◌∷◌}
use seplogic.Ra.Ura.{Ura}
use mir.Val.{Val, vstruct, vcons, vnil}
use base.Logic.{ent, sep, emp}
use base.Fml.{Fml}
use types.Logic.{Logic, sem}
use types.Kit.{‵, ◌$◌, ◌∵◌, !, qed, move, fjoin, fpack, feq_i, done}
use denote.RattleType.{RattleType, Valss}
use denote.RawPtr.{Ptr, ptr_val}
use denote.Shadow.{makes_shadow}
use denote.Steps.{nothing}
use denote.Struct.Declared as Declared
use denote.Struct.Owning.{shape}
use denote.Struct.Struct.{Struct, within}
use denote.Struct.Tuple.{Tuple, tuple_type}
use Rattle.core.proofs.ptr.Rows.{El, R}
use Rattle.std_alloc.proofs.RcSteps.{word}
use Rattle.chain_arena.specs.contracts.cells.Cells as owner
use Rattle.chain_arena.proofs.Memory.{BaseOf, mark}

-- what the one field of the owner owns, and of the right to free: nothing
abbrev pub OwnsMark : El → Fml
OwnsMark E = (Struct (shape (owner.the_type (R E)))).own_val (tt, tt) (mark ∷ [])

pub mark_made : (E : El) {M : Type 1} {𝓤 : Ura M} (𝓛 : Logic 𝓤) → ent 𝓤 (emp 𝓤) (sem 𝓛 (OwnsMark E))
mark_made E 𝓛 = makes_shadow 𝓛 (OwnsMark E) (λ vss. (tt, ((λ uss. (tt, tt)), tt))) (
  (vstruct vnil ∷ [], tt),
  (refl, ((tt, (refl, tt)), tt)),
)

pub word_made : (E : El) {M : Type 1} {𝓤 : Ura M} (𝓛 : Logic 𝓤) (p : Ptr)
    → ent 𝓤 (emp 𝓤) (sem 𝓛 ((BaseOf E.row).own_val (record { ptr = p }) (word p ∷ [])))
word_made E 𝓛 p = makes_shadow 𝓛 ((BaseOf E.row).own_val (record { ptr = p }) (word p ∷ [])) (λ vss. (tt, (tt, tt)))
    ((ptr_val p ∷ [], tt), (refl, (refl, tt)))

abbrev pub three_val : Val → Val → Val → Val
three_val u v w = vstruct (vcons u (vcons v (vcons w vnil)))

module _ {M : Type 1} {𝓤 : Ura M} (𝓛 : Logic 𝓤) (F G H : RattleType) (x : F.Denot) (y : G.Denot) (z : H.Denot)
    (u v w : Val) where
  abbrev Made : List Val
  Made = three_val u v w ∷ []

  pub three_of : ent 𝓤 (sep 𝓤 (sem 𝓛 (F.own_val x (u ∷ [])))
      (sep 𝓤 (sem 𝓛 (G.own_val y (v ∷ []))) (sem 𝓛 (H.own_val z (w ∷ [])))))
      (sem 𝓛 ((Tuple (F ∷ G ∷ H ∷ [])).own_val (x, y, z) Made))
  three_of =
      qed 𝓛 (‵ (F.own_val x (u ∷ [])) ∷ ‵ (G.own_val y (v ∷ [])) ∷ ‵ (H.own_val z (w ∷ [])) ∷ []) ∵
      nothing ! $ move ! (3 ∷ 0 ∷ []) $ fjoin ! $ move ! (2 ∷ 0 ∷ []) $ fjoin ! $ move ! (1 ∷ 0 ∷ []) $ fjoin ! $
      feq_i ! (List Val) Made Made refl $ fjoin ! $
      fpack ! (Valss (F ∷ G ∷ H ∷ [])) (within (Declared.shape (tuple_type (F ∷ G ∷ H ∷ []))) (x, (y, (z, tt))) Made)
      (u ∷ [], (v ∷ [], (w ∷ [], tt))) $ done !
