-- What the walks over the block share. Assumes `Logic`.
--     value_seen     a `&` to each of a row of values is one to the value at the index
--     value_out, value_in     a value is taken out of the row, and put back, or another in its place
--     place_out, one_more     the room's first place is taken out, and a value in it is one of the row
--     all_room_left, all_forgotten     a block is room before its first value is written, and again once it is freed
--     asked     of a `requires` under one type parameter, what its author wrote
use mathlib.Core.Path.{◌≡◌, refl, sym, subst}
use Prim.Native.Nat.{ℕ, zero, suc, ◌+◌, ◌-◌, ◌*◌, ◌<◌, ◌^◌}
use native.Mathlib.Omega.{arith}
use native.Mathlib.Nat.{zero-mul}
use mathlib.Core.List.{List, [], ◌∷◌, ◌++◌}
use lib.ListN.{length, get_or, set, length-append}
use seplogic.Ra.Ura.{Ura}
use base.Fraction.{full_share}
use mir.Syntax.{Args, ty_array, a_type}
use mir.Raw.{raw as bare}
use mir.Val.{Val, vstruct, vcons, vnil}
use base.Logic.{SProp, ent, sep, never, via, fst∗, snd∗}
use base.Fml.{Fml, Lft, froom}
use types.Logic.{Logic, sem}
use types.Kit.{‵, ◌⊛◌, given, ◌$◌, ◌∵◌, !, qed, by, move, drop, keep, use0, use1, use2, split, learn, rewrite, fsplit, fjoin, flt_i, done}
use contract.Monad.{fact, fact_use}
use denote.RattleType.{RattleType}
use denote.Array.{Array}
use denote.Memory.{part_at, shared_of, shares}
use denote.Index.{place, place_is, others, takes, puts, row}
use denote.Param.{layouts, param}
use denote.RawPtr.{block_ptr, null_ptr, room_for, ◌+ₚ◌}
use denote.Slice.{elements_shared}
use Rattle.core.proofs.alloc.Calls.{Al}
use Rattle.core.proofs.ptr.Rows.{El, R, sz, el_x, elτ, apart, whole, empty, snoc, spare}
use Rattle.core.specs.Allocator.{array_of}
use Rattle.std_alloc.proofs.RawLayout.{as_raw, as_written}
use Rattle.std_alloc.proofs.VecSteps.El as Both
use Rattle.std_alloc.proofs.VecSteps.Rows.{all_room}
use Rattle.chain_arena.specs.Ownership.{cells_own}
use Rattle.chain_arena.specs.contracts.cells.Cells as owner
use Rattle.chain_arena.specs.contracts.cells.Base as pointer

-- the rows of the owner and of the pointer, for values of the row X
abbrev pub CellsOf : RattleType → RattleType
CellsOf X = owner.the_row (param 0 X)

abbrev pub BaseOf : RattleType → RattleType
BaseOf X = pointer.the_row (param 0 X)

abbrev pub args : El → Args
args E = layouts (a_type ∷ []) (E.row, tt)

-- the one machine value of a struct whose one field has no bytes
abbrev pub mark : Val
mark = vstruct (vcons (vstruct vnil) vnil)

pub asked : {M : Type 1} (𝓤 : Ura M) (φ ψ : Type 0) (P : SProp 𝓤) {Q : SProp 𝓤} → (ψ → ent 𝓤 P Q)
    → ent 𝓤 (sep 𝓤 P (sep 𝓤 (fact 𝓤 φ) (fact 𝓤 ψ))) Q
asked 𝓤 φ ψ P k =
    let both = sep 𝓤 (fact 𝓤 φ) (fact 𝓤 ψ) in
    fact_use 𝓤 ψ (via 𝓤 both (snd∗ 𝓤 P both) (snd∗ 𝓤 (fact 𝓤 φ) (fact 𝓤 ψ))) (λ x. via 𝓤 P (fst∗ 𝓤 P both) (k x))

module _ (E : El) {M : Type 1} {𝓤 : Ura M} (𝓛 : Logic 𝓤) where
  abbrev X : Type 0
  X = el_x E

  abbrev s : ℕ
  s = sz E

  -- the values xs side by side
  abbrev pub Row : List X → ℕ → ℕ → Fml
  Row xs b o = part_at (Array (R E) (length xs)) full_share xs b o

  -- the room after k of n places
  abbrev pub Room : ℕ → ℕ → ℕ → ℕ → Fml
  Room n k b o = room_for (array_of (R E) (n - k)) (block_ptr b o +ₚ k * s)

  abbrev pub Others : List X → ℕ → ℕ → ℕ → Fml
  Others xs i b o = others (shares (R E)) full_share xs i b o

  pub nowhere : (n : ℕ) (xs : List X) → ent 𝓤 (sem 𝓛 (cells_own (R E) null_ptr n xs)) (never 𝓤)
  nowhere n xs = qed 𝓛 (‵ (cells_own (R E) null_ptr n xs) ∷ []) ∵ fsplit ! $ drop ! $ fsplit ! $ keep ! (0 ∷ []) $
      done !

  at_place : (b : ℕ) (κ : Lft) (xs : List X) (i : ℕ) (d : X) (o : ℕ) → i < length xs
      → ent 𝓤 (sem 𝓛 (elements_shared (R E) xs b o κ)) (sem 𝓛 (shared_of (R E) (get_or xs i d) b (place s o i) κ))
  at_place b κ [] i d o l = absurd (omega arith)
  at_place b κ (x ∷ xs) zero d o l = qed 𝓛 (‵ (elements_shared (R E) (x ∷ xs) b o κ) ∷ []) ∵ fsplit ! $
      keep ! (0 ∷ []) $ done !
  at_place b κ (x ∷ xs) (suc i) d o l = qed 𝓛 (‵ (elements_shared (R E) (x ∷ xs) b o κ) ∷ []) ∵ fsplit ! $ drop ! $
      by ! (at_place b κ xs i d (o + s) (omega arith))

  pub value_seen : (b : ℕ) (κ : Lft) (xs : List X) (i : ℕ) (d : X) (o : ℕ) → i < length xs
      → ent 𝓤 (sem 𝓛 (elements_shared (R E) xs b o κ)) (sem 𝓛 (shared_of (R E) (get_or xs i d) b (i * s + o) κ))
  value_seen b κ xs i d o l =
      subst (λ (k : ℕ). ent 𝓤 (sem 𝓛 (elements_shared (R E) xs b o κ))
      (sem 𝓛 (shared_of (R E) (get_or xs i d) b k κ))) (place_is s o i) (at_place b κ xs i d o l)

  pub value_out : (xs : List X) (i : ℕ) (d : X) (b o : ℕ) → i < length xs
      → ent 𝓤 (sem 𝓛 (Row xs b o)) (sep 𝓤 (sem 𝓛 (part_at (R E) full_share (get_or xs i d) b (i * s + o)))
      (sem 𝓛 (Others xs i b o)))
  value_out xs i d b o l =
      qed 𝓛 (‵ (Row xs b o) ∷ []) ∵ use1 𝓛 (given (length xs ≡ length xs) (‵ (row (R E) full_share xs b o)))
      (apart E 𝓛 full_share (length xs) xs b o) $ learn ! (λ _.
      use1 𝓛 (‵ (part_at (R E) full_share (get_or xs i d) b (place s o i)) ⊛ ‵ (Others xs i b o))
      (takes (shares (R E)) full_share 𝓛 xs i d b o l) $ split ! $
      rewrite ! 0 (λ (k : ℕ). ‵ (part_at (R E) full_share (get_or xs i d) b k)) (place_is s o i) refl $ done !)

  pub value_in : (xs : List X) (i : ℕ) (y : X) (b o : ℕ) → i < length xs
      → ent 𝓤 (sep 𝓤 (sem 𝓛 (part_at (R E) full_share y b (i * s + o))) (sem 𝓛 (Others xs i b o)))
      (sem 𝓛 (Row (set xs i y) b o))
  value_in xs i y b o l =
      qed 𝓛 (‵ (part_at (R E) full_share y b (i * s + o)) ∷ ‵ (Others xs i b o) ∷ []) ∵
      rewrite ! 0 (λ (k : ℕ). ‵ (part_at (R E) full_share y b k)) (sym (place_is s o i)) refl $
      use2 𝓛 (‵ (row (R E) full_share (set xs i y) b o)) (puts (shares (R E)) full_share 𝓛 xs i y b o l) $
      by ! (whole E 𝓛 full_share (length (set xs i y)) (set xs i y) b o refl)

  -- the first place of the room, and the room that is left
  pub place_out : (n k b o : ℕ) → k < n → ent 𝓤 (sem 𝓛 (Room n k b o))
      (sep 𝓤 (sem 𝓛 (froom (elτ E) b (k * s + o))) (sem 𝓛 (Room n (k + 1) b o)))
  place_out n k b o l =
      qed 𝓛 (‵ (Room n k b o) ∷ []) ∵ as_written ! (ty_array (elτ E) (n - k)) b (o + k * s) $
      use1 𝓛 (‵ (froom (elτ E) b (k * s + o)) ⊛ ‵ (froom (ty_array (elτ E) (n - (k + 1))) b (o + (k + 1) * s)))
      (spare E 𝓛 b o k n l) $ split ! $ move ! (1 ∷ []) $
      as_raw ! (ty_array (elτ E) (n - (k + 1))) b (o + (k + 1) * s) $ move ! (1 ∷ 0 ∷ []) $ done !

  -- the owner of the places, of its parts
  pub owner_of : (n : ℕ) (xs : List X) (b o k : ℕ) → length xs ≡ k → k < n + 1 → n * s < 2 ^ 63
      → ent 𝓤 (sep 𝓤 (sem 𝓛 (Row xs b o)) (sem 𝓛 (Room n k b o))) (sem 𝓛 (cells_own (R E) (block_ptr b o) n xs))
  owner_of n xs b o k long most small =
      qed 𝓛 (‵ (Row xs b o) ∷ ‵ (Room n k b o) ∷ []) ∵ move ! (1 ∷ []) $
      rewrite ! 0 (λ (m : ℕ). ‵ (Room n m b o)) (sym long) refl $ move ! (1 ∷ 0 ∷ []) $ fjoin ! $
      flt_i ! (n * s) (2 ^ 63) small $ flt_i ! (length xs) (n + 1) (subst (λ (m : ℕ). m < n + 1) (sym long) most) $
      fjoin ! $ fjoin ! $ done !

  -- a value is written after the others
  pub one_more : (n : ℕ) (xs : List X) (y : X) (b o : ℕ) → length xs < n → n * s < 2 ^ 63
      → ent 𝓤 (sep 𝓤 (sem 𝓛 (part_at (R E) full_share y b (length xs * s + o)))
      (sep 𝓤 (sem 𝓛 (Row xs b o)) (sem 𝓛 (Room n (length xs + 1) b o))))
      (sem 𝓛 (cells_own (R E) (block_ptr b o) n (xs ++ y ∷ [])))
  one_more n xs y b o l small =
      let k = length xs in let ys = xs ++ y ∷ [] in let long : length ys ≡ k + 1 = length-append xs (y ∷ []) in
      qed 𝓛 (‵ (part_at (R E) full_share y b (k * s + o)) ∷ ‵ (Row xs b o) ∷ ‵ (Room n (k + 1) b o) ∷ []) ∵
      move ! (1 ∷ 0 ∷ []) $
      use2 𝓛 (‵ (part_at (Array (R E) (k + 1)) full_share ys b o)) (snoc E 𝓛 b o k xs y) $
      rewrite ! 0 (λ (m : ℕ). ‵ (part_at (Array (R E) m) full_share ys b o)) (sym long) refl $
      by ! (owner_of n ys b o (k + 1) long (omega arith) small)

  -- all values are forgotten: the block is room again
  pub all_forgotten : (Z : Al) (n : ℕ) (xs : List X) (b o : ℕ) → length xs < n + 1
      → ent 𝓤 (sep 𝓤 (sem 𝓛 (Row xs b o)) (sem 𝓛 (Room n (length xs) b o)))
      (sem 𝓛 (froom (bare (ty_array (elτ E) n)) b o))
  all_forgotten Z n xs b o most =
      let k = length xs in let both : Both.El = record { row = E.row; laws = E.laws; al = Z } in
      qed 𝓛 (‵ (Row xs b o) ∷ ‵ (Room n k b o) ∷ []) ∵ move ! (1 ∷ []) $
      as_written ! (ty_array (elτ E) (n - k)) b (o + k * s) $ move ! (1 ∷ 0 ∷ []) $
      use2 𝓛 (‵ (froom (ty_array (elτ E) n) b o)) (all_room both 𝓛 b o k n xs (omega arith)) $
      as_raw ! (ty_array (elτ E) n) b o $ done !

  -- a new block is all room
  pub all_room_left : (n b o : ℕ) → n * s < 2 ^ 63
      → ent 𝓤 (sem 𝓛 (froom (bare (ty_array (elτ E) n)) b o)) (sem 𝓛 (cells_own (R E) (block_ptr b o) n []))
  all_room_left n b o small =
      let after_none : o ≡ o + 0 * s = omega (arith, zero-mul s) in let all : n ≡ n - 0 = omega arith in
      qed 𝓛 (‵ (froom (bare (ty_array (elτ E) n)) b o) ∷ []) ∵
      rewrite ! 0 (λ (x : ℕ × ℕ). ‵ (froom (bare (ty_array (elτ E) x.0)) b x.1)) (λ j. (all j, after_none j)) refl $
      use0 𝓛 (‵ (Row [] b o)) (empty E 𝓛 [] b o refl) $ by ! (owner_of n [] b o 0 refl (omega arith) small)
