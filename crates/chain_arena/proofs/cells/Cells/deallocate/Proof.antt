-- `deallocate` forgets the values, and hands the block back with the allocator's token. Assumes `Logic`.
use mathlib.Core.Path.{◌≡◌, refl, sym, ap, subst, ◌∙◌}
use Prim.Native.Nat.{ℕ, ◌*◌, ◌<◌, ◌^◌}
use native.Mathlib.Omega.{arith}
use mathlib.Core.List.{List, [], ◌∷◌, ◌++◌}
use lib.Dec.{T}
use seplogic.Ra.Ura.{Ura}
use mir.Syntax.{Fn, named, w64, ty_array, ty_unit}
use mir.Raw.{raw as bare}
use mir.MapTy.{inst_fn}
use mir.Val.{Val, vptr, vint, vunit, has_ty, WT}
use base.Logic.{SProp, ent}
use base.Fml.{Lft, Share, Incl-trans, ftrue, flft, froom}
use prog.Capped.{capped_fits}
use prog.Memory.{Memory, align, capped}
use prog.Routine.{Routine}
use prog.Wp.{Env, Calls, Loops, WpFn}
use sound.WpLaws.{FmC, fm_of}
use types.Logic.{Logic}
use contract.BorrowLft.{◌⊑◌}
use contract.Monad.{Fun, fact}
use contract.Running.{tables, tables_of}
use types.Kit.{Item, ‵, raw, ⋆, prop, given, later, ◌⊛◌, at_ret, ◌$◌, ◌∵◌, !, qed, by, move, keep, drop, use1, use2, split, join, group, regoal, rewrite, fsplit, fjoin, feq_i, flt_l, await, learn, suffices, done}
use types.Part.{whole, sub}
use types.Run.{stop, fld, of_opd, unit_lit, bin, size_word, align_word, and_then, no_more, first, blocks, exec, returns, enter}
use types.ByLocal.{alloc_all, pass_all, free_all, look_at, get, get_in, sets, lands_last, is, env}
use denote.Builtin.{RefOf, usize}
use denote.Exit.{yes, no}
use denote.RattleType.{RattleType, owns}
use denote.Param.Laws.{param_laws}
use denote.RawPtr.{Ptr, block_ptr, in_a_block}
use denote.Ref.{Bor, ShrRef}
use denote.Signature.{plain}
use denote.Steps.{nothing}
use denote.Triple.Call.{calls_at_last}
use denote.Triple.Clauses.{Clauses, Ended}
use denote.Triple.Entry.{on_entry}
use denote.Triple.Statement.{Triple}
use denote.Triple.Walked.{needs, Stays, stay_dropped, Goes-dropped, walk_of, ends_at}
use Rattle.core.proofs.alloc.Calls.{Al, second, token, gives_key, Gives, at_gives, Gives-goes, Gives-Gives, Goes-blank}
use Rattle.core.proofs.mem.Param as one_param
use Rattle.core.proofs.ptr.Rows.{El, R, sz, elτ}
use Rattle.core.proofs.slots.Leases.{uncapped, block_ty, block_size, block_align, args, P}
use Rattle.std.proofs.raw_atomic.Walks.{proved_at}
use Rattle.std_alloc.proofs.RcSteps.{word, word-Good}
use Rattle.std_alloc.proofs.VecSteps.Shapes.{after}
use Rattle.chain_arena.specs.Ownership.{cells_own, deed_owns}
use Rattle.chain_arena.specs.Places.{IsDeedOf}
use Rattle.chain_arena.proofs.Memory.{CellsOf, BaseOf, mark, nowhere, all_forgotten}
use Rattle.chain_arena.proofs.cells.Base.TheLaws as base_laws
use Rattle.chain_arena.proofs.cells.Cells.TheLaws as cells_laws
use Rattle.chain_arena.proofs.cells.BlockRight.TheLaws as deed_laws
use Rattle.chain_arena.specs.contracts.cells.BlockRight as deeds
use Rattle.chain_arena.specs.contracts.cells.Cells.deallocate as F
use Rattle.chain_arena.specs.contracts.cells.Cells.deallocate.Key.{name as #self}
use Rattle.chain_arena.proofs.cells.Cells.deallocate.Statement.{statement}
use Rattle.chain_arena.proofs.cells.Cells.deallocate.Code as code

-- the type parameter, as the lemmas on layouts take it
abbrev as_param : El → one_param.El
as_param E = record { row = E.row; laws = E.laws }

module _ (E : El) (Z : Al) where
  abbrev function : Fn
  function = inst_fn (args (as_param E) Z) code.function

  abbrev ended : Ended
  ended = F.ended E.row Z.row Z.g Z.d Z.drops

  abbrev Heap : RattleType
  Heap = P (as_param E) Z

  abbrev DeedOf : RattleType
  DeedOf = deeds.the_row (R E) Heap Z.g

  abbrev stayed : Stays ended.signature.params ended.kept
  stayed = (
    stay_dropped (plain (λ _. CellsOf E.row)) no,
    (
      stay_dropped (RefOf (0 ∷ []) tt (plain (λ _. Heap)) (λ _. tt)) yes,
      (
        stay_dropped (plain (λ _. BaseOf E.row)) no,
        (stay_dropped (plain (λ _. usize)) yes, (stay_dropped (plain (λ _. DeedOf)) no, tt)),
      ),
    ),
  )

module _ (E : El) (Z : Al) {M : Type 1} {𝓤 : Ura M} (𝓛 : Logic 𝓤) (at_mem : Memory → SProp 𝓤)
    (run : Routine → Fun 𝓤) (C : Calls 𝓤 𝓛.H) (Λ : Loops 𝓤 𝓛.H) (fm : FmC 𝓤 𝓛.H 𝓛.laws C)
    (callee : Triple 𝓤 (C (gives_key Z)) (Gives Z 𝓛 at_mem run)) (κ κ₁ κ₂ : Lft) (q q₁ q₂ : Share) (short : κ ⊑ κ₂)
    (rb ro : ℕ)
    (d : (CellsOf E.row).Denot) (a : Z.row.Denot) (base : (BaseOf E.row).Denot) (n : ℕ) (deed : (DeedOf E Z).Denot)
    (us us₁ us₂ us₃ us₄ : List Val) where
  open 𝓛 use {H}

  abbrev heap : Bor Z.row.Denot
  heap = record { ref_ptr = (rb, ro); now = a }

  -- the tokens of the lifetimes in the two type parameters
  abbrev Tokens : Item 𝓤
  Tokens = ‵ (flft κ₁ q₁) ⊛ ‵ (flft κ₂ q₂) ⊛ ‵ ftrue

  abbrev clauses : Clauses 𝓤 (ended E Z)
  clauses = F.clauses E.row Z.row Z.g Z.d Z.drops 𝓛 at_mem run

  abbrev bound : (walk_of 𝓛 (ended E Z) (stayed E Z) clauses).Ghost
  bound = (
    (
      (κ, (κ₁, (κ₂, tt))),
      (q, (q₁, (q₂, tt))),
      (short, tt),
      (d, (heap, (base, (n, (deed, tt))))),
      (us, (us₁, (us₂, (us₃, (us₄, tt))))),
    ),
    tt,
  )

  abbrev Post : Val → SProp 𝓤
  Post = (walk_of 𝓛 (ended E Z) (stayed E Z) clauses).post bound

  abbrev Asks : Type 0
  Asks = (d.at ≡ base.ptr) × (d.places ≡ n) × IsDeedOf deed base.ptr n a

  exits : ent 𝓤 (⋆ 𝓛 (‵ (flft κ q) ∷ Tokens ∷ [])) (Post vunit)
  exits =
      qed 𝓛 (‵ (flft κ q) ∷ Tokens ∷ []) ∵
      suffices ! _ (ends_at 𝓛 (ended E Z) (stayed E Z) clauses bound
      vunit tt (tt, (tt, (tt, (tt, (tt, tt))))) (tt, (tt, (tt, (tt, (tt, tt)))))) $
      join ! $ feq_i ! (List Val) (vunit ∷ []) (vunit ∷ []) refl $ nothing ! $ nothing ! $ fjoin ! $ nothing ! $
      fjoin ! $ nothing ! $ fjoin ! $ nothing ! $ fjoin ! $ nothing ! $ fjoin ! $ join ! $
      move ! (1 ∷ 0 ∷ []) $ join ! $ nothing ! $ move ! (1 ∷ 0 ∷ []) $ done !

  abbrev Before : SProp 𝓤
  Before = on_entry 𝓛 (ended E Z).signature (κ, (κ₁, (κ₂, tt))) (q, (q₁, (q₂, tt)))
      (d, (heap, (base, (n, (deed, tt))))) (us, (us₁, (us₂, (us₃, (us₄, tt)))))

  abbrev Runs : SProp 𝓤
  Runs = WpFn 𝓤 H C Λ (function E Z) (us ++ (us₁ ++ (us₂ ++ (us₃ ++ (us₄ ++ []))))) Post

  walk : us ≡ mark ∷ [] → us₁ ≡ vptr rb ro ∷ [] → us₂ ≡ word base.ptr ∷ [] → us₃ ≡ vint w64 n ∷ [] → us₄ ≡ mark ∷ []
      → n < 2 ^ 64 → κ₂ ⊑ Z.row.lives → Asks
      → ent 𝓤 Before Runs
  walk e₀ e₁ e₂ e₃ e₄ word_fits within asks =
      let s = sz E in let al : ℕ = capped (align (elτ E)) in let τ = ty_array (elτ E) n in let ρ = as_param E in
      qed 𝓛 ((‵ (flft κ q) ⊛ Tokens) ∷ ‵ (owns
      (CellsOf E.row ∷ ShrRef (named 0) κ (Heap E Z) ∷ BaseOf E.row ∷ usize ∷ DeedOf E Z ∷ [])
      (d, (heap, (base, (n, (deed, tt))))) (us, (us₁, (us₂, (us₃, (us₄, tt)))))) ∷ []) ∵
      split ! $ move ! (2 ∷ []) $ fsplit ! $ fsplit ! $ drop ! $ move ! (1 ∷ []) $ fsplit ! $ fsplit ! $ drop ! $
      move ! (1 ∷ []) $ fsplit ! $ drop ! $ fsplit ! $ drop ! $ fsplit ! $ fsplit ! $ drop ! $
      keep ! (3 ∷ 0 ∷ 2 ∷ 4 ∷ 5 ∷ []) $
      -- [the places; the right to free them; the `&` to the allocator; its token; the other tokens]
      in_a_block ! d.at (λ p. cells_own (R E) p d.places d.values) (nowhere E 𝓛 d.places d.values)
      (λ b o e. fsplit ! $ fsplit ! $ flt_l ! (λ most. flt_l ! (λ fit. fsplit ! $
      use2 𝓛 (‵ (froom (bare (ty_array (elτ E) d.places)) b o)) (all_forgotten E 𝓛 Z d.places d.values b o most) $
      rewrite ! 0 (λ (m : ℕ). ‵ (froom (bare (ty_array (elτ E) m)) b o)) asks.1 refl $
      let begins : base.ptr ≡ block_ptr b o = sym asks.0 ∙ e in let owner = asks.2 in
      rewrite ! 1 (λ (x : Z.row.Denot × Ptr × ℕ). ‵ (deed_owns (R E) (token Z x.0) x.1 x.2))
      (λ j. (owner.2 j, (owner.0 ∙ begins) j, owner.1 j)) refl $
      let small : n * s < 2 ^ 63 = subst (λ (m : ℕ). m * s < 2 ^ 63) asks.1 fit in
      let bytes : n * s < 2 ^ 64 = omega arith in
      let y : (Gives Z 𝓛 at_mem run).Ghost = at_gives Z 𝓛 at_mem run κ q (rb, ro) a b o (n * s) al (block_ty ρ n) in
      let start = ap (λ (p : Ptr). word p ∷ []) begins in
      regoal ! (λ (ws : List Val × List Val × List Val × List Val × List Val). prop
      (WpFn 𝓤 H C Λ (function E Z) (ws.0 ++ (ws.1 ++ (ws.2 ++ (ws.3 ++ (ws.4 ++ []))))) Post))
      (λ j. (e₀ j, e₁ j, (e₂ ∙ start) j, e₃ j, e₄ j)) refl $
      enter ! C Λ (function E Z) (mark ∷ vptr rb ro ∷ word (block_ptr b o) ∷ vint w64 n ∷ mark ∷ []) _ $
      alloc_all ! (λ l. pass_all ! refl (
        (tt, (tt, tt)),
        ((tt, tt), (word-Good [] (block_ptr b o), ((tt, record { fits = word_fits }), ((tt, (tt, tt)), tt)))),
      ) $
      let En : Env 𝓤 H = env (function E Z).locals l in first ! $ blocks ! $
      sets ! (of_opd ! (get_in ! (fld ! refl (stop !)) (sub ! 0 refl (whole !)))) refl (tt, tt) $
      sets ! (is ! (bin ! (get ! refl) (size_word !)
      (record { fits = subst (λ (k : ℕ). k < 2 ^ 64) (sym (uncapped n s bytes)) bytes }))
      (ap (vint w64) (uncapped n s bytes))) refl (tt, record { fits = bytes }) $
      group ! 4 $ use1 𝓛 (raw ((Gives Z 𝓛 at_mem run).pre y))
      (Gives-goes Z 𝓛 at_mem run κ q (rb, ro) a (Incl-trans short within) b o (n * s) al (block_ty ρ n)
      (block_size ρ n bytes) (block_align ρ n) bytes (capped_fits (align (elτ E)))) $
      calls_at_last ! fm (Gives Z 𝓛 at_mem run) callee y
      (and_then ! (get ! refl) (and_then ! (get ! refl)
      (and_then ! (get ! refl) (and_then ! (align_word !) (no_more !))))) (λ v.
      use1 𝓛 (later (given (v ≡ vunit) (‵ (flft κ q))))
      (Gives-Gives Z 𝓛 at_mem run κ q (rb, ro) a b o (n * s) al (block_ty ρ n) v) $ await ! tt $ learn ! (λ freed.
      lands_last ! refl (subst (λ (w : Val). T (has_ty ty_unit w) × WT w) (sym freed) (tt, tt)) $
      exec ! C Λ En (after 1 (function E Z).body) (at_ret En Post) $
      sets ! (of_opd ! (unit_lit !)) refl (tt, tt) $ returns ! (look_at ! 0 refl) $ free_all ! refl $
      keep ! (0 ∷ 1 ∷ []) $ by ! exits))))))

pub deallocate_spec : {M : Type 1} → statement M
unfolding tables_of
deallocate_spec 𝓤 𝓛 𝓜 𝓡 wired X W LX LW g d dd met md =
    let E : El = record { row = X; laws = LX } in
    let Z : Al = record { row = W; laws = LW; g = g; d = d; drops = dd } in
    let 𝓣 = tables 𝓤 𝓛.H 𝓜 𝓡 𝓡.env in let LR = param_laws 0 X LX in
    proved_at 𝓛 (ended E Z) (stayed E Z) (F.clauses X W g d dd 𝓛 𝓜.mem 𝓡.returns) 𝓜 𝓡 (
      Goes-blank 𝓛 3 (plain (λ _. CellsOf X)) no
          (λ κs x f. tt),
      (
        Goes-dropped 𝓛 3 (RefOf (0 ∷ []) tt (plain (λ _. Heap E Z)) (λ _. tt)) yes
            (λ κs x f. refl),
        (
          Goes-dropped 𝓛 3 (plain (λ _. BaseOf X)) no (λ κs x f. refl),
          (
            Goes-dropped 𝓛 3 (plain (λ _. usize)) yes
                (λ κs x f. refl),
            (Goes-blank 𝓛 3 (plain (λ _. DeedOf E Z)) no (λ κs x f. tt), tt),
          ),
        ),
      ),
    )
    (#self (args (as_param E) Z)) (function E Z) (code.unfolded 𝓤 𝓛.H 𝓜 𝓡 wired (X, (W, tt)) d dd) (λ y are.
    let a = y.0.3 in let d = a.0 in let r = a.1.0 in let base = a.1.1.0 in let n = a.1.1.1.0 in
    let deed = a.1.1.1.1.0 in let vss = y.0.4 in
    let asks = (d.at ≡ base.ptr) × (d.places ≡ n) × IsDeedOf deed base.ptr n r.now in
    let On = on_entry 𝓛 (ended E Z).signature y.0.0 y.0.1 a vss in
    let places_told = (cells_laws.lowers (R E) LR).val_is d vss.0 are.0 in
    let base_told = (base_laws.lowers (R E) LR).val_is base vss.1.1.0 are.1.1.0 in
    let deed_told = (deed_laws.lowers (R E) (Heap E Z) g LR (param_laws 1 W LW)).val_is deed vss.1.1.1.1.0
    are.1.1.1.1.0 in
    second 𝓤 (y.0.0.1.0 ⊑ X.lives) (y.0.0.1.1.0 ⊑ W.lives) On (fact 𝓤 asks) (λ within. needs 𝓤 asks On
    (walk E Z 𝓛 𝓜.mem 𝓡.returns 𝓣.C 𝓣.Λ (fm_of 𝓤 𝓛.H 𝓛.laws (tables_of 𝓤 𝓛.H 𝓜 𝓣))
    (met.deallocate dd) y.0.0.0 y.0.0.1.0 y.0.0.1.1.0 y.0.1.0 y.0.1.1.0 y.0.1.1.1.0 y.0.2.0 r.ref_ptr.0 r.ref_ptr.1
    d r.now base n deed vss.0 vss.1.0 vss.1.1.0 vss.1.1.1.0 vss.1.1.1.1.0 places_told are.1.0.0 base_told
    are.1.1.1.0.0 deed_told are.1.1.1.0.1 within)))
