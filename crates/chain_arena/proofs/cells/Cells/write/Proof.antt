-- `write` fills the first place of the room. Assumes `Logic`.
use mathlib.Core.Path.{◌≡◌, refl, sym, ap, ◌∙◌}
use Prim.Native.Nat.{ℕ, ◌+◌, ◌*◌, ◌≤◌, ◌<◌, ◌^◌}
use native.Mathlib.Omega.{arith}
use mathlib.Core.List.{List, [], ◌∷◌, ◌++◌}
use lib.ListN.{length}
use seplogic.Ra.Ura.{Ura}
use base.Fraction.{full_share}
use mir.Syntax.{Fn, named, w64}
use mir.MapTy.{inst_fn}
use mir.Val.{Val, vptr, vint, vunit}
use base.Logic.{SProp, ent}
use base.Fml.{Lft, GName, Share, ftrue, fat, flft, froom, fobs, fbor}
use prog.Memory.{Memory}
use prog.Routine.{Routine}
use prog.Wp.{Env, Calls, Loops, WpFn}
use types.Logic.{Logic}
use types.SemTy.{Body as Borrowed}
use contract.BorrowLft.{◌⊑◌}
use contract.Monad.{Fun}
use contract.Running.{tables}
use types.Kit.{‵, ⋆, prop, ◌⊛◌, at_ret, ◌$◌, ◌∵◌, !, qed, by, move, keep, drop, use1, use2, use3, split, join, regoal, rewrite, fsplit, fsplit3, fjoin, fjoin3, feq_i, flt_l, suffices, done}
use types.Part.{whole, sub}
use types.Run.{init, stop, fld, of_opd, unit_lit, bin, size_lit, assigns_last, first, blocks, exec, returns, enter}
use types.ByLocal.{alloc_all, pass_all, free_all, look_at, get, get_in, through, sets, take_at, give_at, env}
use denote.Builtin.{usize}
use denote.Exit.{yes, no}
use denote.RattleType.{RattleType, owns}
use denote.Memory.{mem, part_at}
use denote.Param.{layout}
use denote.Param.Laws.{param_laws}
use denote.RawPtr.{Ptr, block_ptr, in_a_block}
use denote.Ref.{MutBor, MutRef}
use denote.Signature.{plain}
use denote.Steps.{nothing, opens, closes}
use denote.Triple.Clauses.{Clauses, Ended}
use denote.Triple.Entry.{on_entry}
use denote.Triple.Walked.{says, Stays, stay_dropped, stay_ref, Goes-dropped, Goes-ref, walk_of, ends_at}
use Rattle.core.proofs.cell.Inside.{one}
use Rattle.core.proofs.ptr.Rows.{El, R, sz, el_x, elτ, Good, el_in, times_below, one_below}
use Rattle.std.proofs.raw_atomic.Walks.{proved_at}
use Rattle.std_alloc.proofs.RcSteps.{word, word-Good}
use Rattle.std_alloc.proofs.VecSteps.Shapes.{after}
use Rattle.chain_arena.specs.Ownership.{cells_own}
use Rattle.chain_arena.specs.Lends.{with_values}
use Rattle.chain_arena.proofs.Memory.{args, CellsOf, BaseOf, asked, Room, nowhere, place_out, one_more}
use Rattle.chain_arena.proofs.cells.Base.TheLaws as base_laws
use Rattle.chain_arena.specs.contracts.cells.Cells.write as F
use Rattle.chain_arena.specs.contracts.cells.Cells.write.Key.{name as #self}
use Rattle.chain_arena.proofs.cells.Cells.write.Statement.{statement}
use Rattle.chain_arena.proofs.cells.Cells.write.Code as code

module _ (E : El) where
  abbrev function : Fn
  function = inst_fn (args E) code.function

  abbrev ended : Ended
  ended = F.ended E.row

  abbrev stayed : Stays ended.signature.params ended.kept
  stayed = (
    stay_ref (0 ∷ []) tt (plain (λ _. CellsOf E.row)),
    (
      stay_dropped (plain (λ _. BaseOf E.row)) no,
      (stay_dropped (plain (λ _. usize)) yes, (stay_dropped (plain (λ _. R E)) no, tt)),
    ),
  )

module _ (E : El) {M : Type 1} {𝓤 : Ura M} (𝓛 : Logic 𝓤) (at_mem : Memory → SProp 𝓤)
    (run : Routine → Fun 𝓤) (C : Calls 𝓤 𝓛.H) (Λ : Loops 𝓤 𝓛.H)
    (κ κ₁ : Lft) (q q₁ : Share) (short : κ ⊑ κ₁) (rb ro : ℕ) (γ : GName) (d : (CellsOf E.row).Denot)
    (base : (BaseOf E.row).Denot) (i : ℕ) (y : el_x E) (us us₁ us₂ us₃ : List Val) where
  open 𝓛 use {H}

  abbrev Cr : RattleType
  Cr = CellsOf E.row

  abbrev self : MutBor Cr.Denot
  self = record { ref_ptr = (rb, ro); ghost_name = γ; now = d }

  abbrev clauses : Clauses 𝓤 (ended E)
  clauses = F.clauses E.row 𝓛 at_mem run

  abbrev bound : (walk_of 𝓛 (ended E) (stayed E) clauses).Ghost
  bound = (
    (
      (κ, (κ₁, tt)),
      (q, (q₁, tt)),
      (short, tt),
      (self, (base, (i, (y, tt)))),
      (us, (us₁, (us₂, (us₃, tt)))),
    ),
    tt,
  )

  abbrev Post : Val → SProp 𝓤
  Post = (walk_of 𝓛 (ended E) (stayed E) clauses).post bound

  abbrev Asks : Type 0
  Asks = (base.ptr ≡ d.at) × (i ≡ length d.values) × (i < d.places)

  abbrev new : Cr.Denot
  new = with_values d (d.values ++ y ∷ [])

  exits : us ≡ vptr rb ro ∷ [] → ent 𝓤 (⋆ 𝓛
      (‵ (fobs γ (Cr.coded.code new)) ∷ ‵ (fbor κ (Borrowed (mem Cr) rb ro γ)) ∷ ‵ (flft κ q) ∷ ‵ (flft κ₁ q₁) ∷ []))
      (Post vunit)
  exits passed =
      qed 𝓛 (‵ (fobs γ (Cr.coded.code new)) ∷ ‵ (fbor κ (Borrowed (mem Cr) rb ro γ)) ∷ ‵ (flft κ q) ∷ ‵ (flft κ₁ q₁) ∷
      []) ∵
      suffices ! _ (ends_at 𝓛 (ended E) (stayed E) clauses bound vunit tt
      (new, (tt, (tt, (tt, tt)))) (tt, (tt, (tt, (tt, tt))))) $ says ! (refl, refl, refl) $
      feq_i ! (List Val) us (vptr rb ro ∷ []) passed $ fjoin3 ! $ nothing ! $ nothing ! $ fjoin ! $ nothing ! $
      fjoin ! $ nothing ! $ fjoin ! $ move ! (1 ∷ 0 ∷ []) $ fjoin ! $
      feq_i ! (List Val) (vunit ∷ []) (vunit ∷ []) refl $ move ! (1 ∷ 0 ∷ []) $ join ! $ nothing ! $
      move ! (3 ∷ 0 ∷ []) $ join ! $ move ! (2 ∷ 0 ∷ []) $ join ! $ done !

  abbrev Before : SProp 𝓤
  Before = on_entry 𝓛 (ended E).signature (κ, (κ₁, tt)) (q, (q₁, tt)) (self, (base, (i, (y, tt))))
      (us, (us₁, (us₂, (us₃, tt))))

  abbrev Runs : SProp 𝓤
  Runs = WpFn 𝓤 H C Λ (function E) (us ++ (us₁ ++ (us₂ ++ (us₃ ++ [])))) Post

  walk : us ≡ vptr rb ro ∷ [] → us₁ ≡ word base.ptr ∷ [] → us₂ ≡ vint w64 i ∷ [] → i < 2 ^ 64 → (v : Val)
      → us₃ ≡ v ∷ [] → Good E v → Asks
      → ent 𝓤 Before Runs
  walk e₀ e₁ e₂ word_fits v e₃ good asks =
      let s = sz E in let xs = d.values in let n = d.places in let k = length xs in let is_k : i ≡ k = asks.1 in
      let left : i < n = asks.2 in
      let less : k < n = omega arith in let k_fits : k < 2 ^ 64 = omega arith in
      qed 𝓛 ((‵ (flft κ q) ⊛ ‵ (flft κ₁ q₁) ⊛ ‵ ftrue) ∷
      ‵ (owns (MutRef (named 0) κ Cr ∷ BaseOf E.row ∷ usize ∷ R E ∷ []) (self, (base, (i, (y, tt))))
      (us, (us₁, (us₂, (us₃, tt))))) ∷ []) ∵
      split ! $ move ! (1 ∷ []) $ split ! $ move ! (3 ∷ []) $ fsplit ! $ fsplit3 ! $ drop ! $ move ! (2 ∷ []) $
      fsplit ! $ drop ! $ fsplit ! $ drop ! $ fsplit ! $
      rewrite ! 0 (λ (ws : List Val). ‵ ((R E).own_val y ws)) e₃ refl $ keep ! (2 ∷ 3 ∷ 6 ∷ 0 ∷ 4 ∷ []) $
      -- [the `&mut`, in two parts; its token; the value to be written; the other token]
      let index = ap (λ (m : ℕ). vint w64 m ∷ []) is_k in
      regoal ! (λ (ws : List Val × List Val × List Val × List Val). prop
      (WpFn 𝓤 H C Λ (function E) (ws.0 ++ (ws.1 ++ (ws.2 ++ (ws.3 ++ [])))) Post))
      (λ j. (e₀ j, e₁ j, (e₂ ∙ index) j, e₃ j)) refl $
      enter ! C Λ (function E) (vptr rb ro ∷ word base.ptr ∷ vint w64 k ∷ v ∷ []) _ $
      alloc_all ! (λ l. pass_all ! refl (
        (tt, tt),
        (word-Good [] base.ptr, ((tt, record { fits = k_fits }), (good, tt))),
      ) $
      opens ! tt Cr {h = d} rb ro (λ vs. move ! (1 ∷ []) $ fsplit ! $ move ! (1 ∷ []) $
      in_a_block ! d.at (λ p. cells_own (R E) p n xs) (nowhere E 𝓛 n xs) (λ b o e. fsplit ! $ fsplit ! $
      flt_l ! (λ most. flt_l ! (λ small. fsplit ! $ move ! (1 ∷ []) $
      use1 𝓛 (‵ (froom (elτ E) b (k * s + o)) ⊛ ‵ (Room E 𝓛 n (k + 1) b o)) (place_out E 𝓛 n k b o less) $ split ! $
      take_at ! 2 $
      rewrite ! 0 (λ (p : Ptr). ‵ (fat full_share (layout (BaseOf E.row)) (l 2) 0 (word p))) (asks.0 ∙ e) refl $
      give_at ! 2 $
      -- [the place; the room; the row; the mark; the owner's cell; the open `&mut`, in three parts; the value; the
      -- token]
      let at = k * s + o in let some : 0 < n = omega arith in let le : k ≤ n = omega arith in
      let one_fits : s < 2 ^ 64 = omega (arith, one_below n s (2 ^ 63) some small) in
      let far : k * s < 2 ^ 64 = omega (arith, times_below k n s (2 ^ 63) le small) in
      let En : Env 𝓤 H = env (function E).locals l in first ! $ blocks ! $
      sets ! (bin ! (get ! refl) (size_lit ! (record { fits = one_fits }))
      (record { fits = far })) refl (tt, record { fits = far }) $
      sets ! (bin ! (get_in ! (fld ! refl (stop !)) (sub ! 0 refl (whole !))) (get ! refl) tt) refl (tt, tt) $
      sets ! (of_opd ! (get ! refl)) refl good $
      assigns_last ! (of_opd ! (get ! refl)) (through ! refl (stop !)) (init ! 0 refl good) $
      exec ! C Λ En (after 1 (function E).body) (at_ret En Post) $
      sets ! (of_opd ! (unit_lit !)) refl (tt, tt) $
      move ! (0 ∷ 8 ∷ []) $ use2 𝓛 (‵ (part_at (R E) full_share y b at)) (el_in E 𝓛 full_share y b at v) $
      move ! (0 ∷ 2 ∷ 1 ∷ []) $
      use3 𝓛 (‵ (cells_own (R E) (block_ptr b o) n new.values)) (one_more E 𝓛 n xs y b o less small) $
      rewrite ! 0 (λ (p : Ptr). ‵ (cells_own (R E) p n new.values)) (sym e) refl $ move ! (1 ∷ 0 ∷ []) $ fjoin ! $
      move ! (1 ∷ 0 ∷ []) $
      closes ! tt Cr new vs rb ro $ returns ! (look_at ! 0 refl) $ free_all ! refl $ keep ! (0 ∷ 1 ∷ 2 ∷ 3 ∷ []) $
      by ! (exits e₀))))))

pub write_spec : {M : Type 1} → statement M
write_spec 𝓤 𝓛 𝓜 𝓡 wired X LX =
    let E : El = record { row = X; laws = LX } in let 𝓣 = tables 𝓤 𝓛.H 𝓜 𝓡 𝓡.env in
    proved_at 𝓛 (ended E) (stayed E) (F.clauses X 𝓛 𝓜.mem 𝓡.returns) 𝓜 𝓡 (
      Goes-ref 𝓛 2 0 tt (plain (λ _. CellsOf X)),
      (
        Goes-dropped 𝓛 2 (plain (λ _. BaseOf X)) no
            (λ κs x f. refl),
        (
          Goes-dropped 𝓛 2 (plain (λ _. usize)) yes
              (λ κs x f. refl),
          (Goes-dropped 𝓛 2 (plain (λ _. R E)) no (λ κs x f. refl), tt),
        ),
      ),
    )
    (#self (args E)) (function E) (code.unfolded 𝓤 𝓛.H 𝓜 𝓡 wired (X, tt)) (λ z are.
    let κ₁ = z.0.0.1.0 in let r = z.0.3.0 in let d = r.now in let base = z.0.3.1.0 in let i = z.0.3.1.1.0 in
    let y = z.0.3.1.1.1.0 in let vss = z.0.4 in
    let told = (base_laws.lowers (R E) (param_laws 0 X LX)).val_is base vss.1.0 are.1.0 in
    let value = one (layout X) vss.1.1.1.0 (((param_laws 0 X LX).lawful 𝓛).typed y vss.1.1.1.0 are.1.1.1.0) in
    asked 𝓤 (κ₁ ⊑ X.lives) ((base.ptr ≡ d.at) × (i ≡ length d.values) × (i < d.places))
    (on_entry 𝓛 (ended E).signature z.0.0 z.0.1 z.0.3 vss)
    (walk E 𝓛 𝓜.mem 𝓡.returns 𝓣.C 𝓣.Λ z.0.0.0 κ₁ z.0.1.0 z.0.1.1.0 z.0.2.0 r.ref_ptr.0 r.ref_ptr.1 r.ghost_name d base
    i y vss.0 vss.1.0 vss.1.1.0 vss.1.1.1.0
    are.0.0 told are.1.1.0.0 are.1.1.0.1 value.0 value.1 value.2))
