-- `get` lends one of the values that are written. Assumes `Logic`.
use mathlib.Core.Path.{◌≡◌, refl, ap, ◌∙◌}
use Prim.Native.Nat.{ℕ, ◌+◌, ◌*◌, ◌≤◌, ◌<◌, ◌^◌}
use native.Mathlib.Omega.{arith}
use mathlib.Core.List.{List, [], ◌∷◌, ◌++◌}
use lib.ListN.{length, get_or}
use seplogic.Ra.Ura.{Ura}
use mir.Syntax.{Fn, named, w64}
use mir.MapTy.{inst_fn}
use mir.Val.{Val, vptr, vint}
use base.Logic.{SProp, ent}
use base.Fml.{Lft, Share, ftrue, flft}
use prog.Memory.{Memory}
use prog.Routine.{Routine}
use prog.Wp.{Env, Calls, Loops, WpFn}
use types.Logic.{Logic}
use contract.BorrowLft.{◌⊑◌}
use contract.Monad.{Fun, fact}
use contract.Running.{tables}
use types.Kit.{‵, raw, ⋆, prop, ◌⊛◌, at_ret, ◌$◌, ◌∵◌, !, qed, by, move, keep, drop, use1, split, join, regoal, fsplit, fjoin, feq_i, flt_l, suffices, done}
use types.Part.{whole, sub}
use types.Run.{stop, fld, of_opd, bin, size_lit, addr, first, blocks, exec, returns, enter}
use types.ByLocal.{alloc_all, pass_all, free_all, look_at, get, get_in, through, sets, sets_last, env}
use denote.Builtin.{RefOf, usize}
use denote.Exit.{yes, no}
use denote.RattleType.{owns}
use denote.Memory.{hidden_shr, shared_of}
use denote.Opens.{hide, unhide}
use denote.Param.Laws.{param_laws}
use denote.RawPtr.{Ptr, InBlock, block_of, count_of, at_block, block_ptr}
use denote.Ref.{Bor, ShrRef}
use denote.Signature.{plain}
use denote.Steps.{nothing, heard}
use denote.Struct.Lending.{in_block_says}
use denote.Triple.Clauses.{Clauses, Ended}
use denote.Triple.Entry.{on_entry}
use denote.Triple.Walked.{says, Stays, stay_dropped, Goes-dropped, walk_of, ends_at}
use Rattle.core.proofs.ptr.Rows.{El, R, sz, el_x, hd, times_below, one_below}
use Rattle.std.proofs.lemmas.Option.{slice_get-get_or}
use Rattle.std.proofs.raw_atomic.Walks.{proved_at}
use Rattle.std.specs.Prelude.{slice_get, Some}
use Rattle.std_alloc.proofs.RcSteps.{word, word-Good}
use Rattle.std_alloc.proofs.VecSteps.Shapes.{after}
use Rattle.chain_arena.proofs.Memory.{args, CellsOf, BaseOf, asked, value_seen}
use Rattle.chain_arena.proofs.cells.Base.TheLaws as base_laws
use Rattle.chain_arena.specs.contracts.cells.Cells.get as F
use Rattle.chain_arena.specs.contracts.cells.Cells.get.Key.{name as #self}
use Rattle.chain_arena.proofs.cells.Cells.get.Statement.{statement}
use Rattle.chain_arena.proofs.cells.Cells.get.Code as code

module _ (E : El) where
  abbrev function : Fn
  function = inst_fn (args E) code.function

  abbrev ended : Ended
  ended = F.ended E.row

  abbrev stayed : Stays ended.signature.params ended.kept
  stayed = (
    stay_dropped (RefOf (0 ∷ []) tt (plain (λ _. CellsOf E.row)) (λ _. tt)) yes,
    (stay_dropped (plain (λ _. BaseOf E.row)) no, (stay_dropped (plain (λ _. usize)) yes, tt)),
  )

module _ (E : El) {M : Type 1} {𝓤 : Ura M} (𝓛 : Logic 𝓤) (at_mem : Memory → SProp 𝓤)
    (run : Routine → Fun 𝓤) (C : Calls 𝓤 𝓛.H) (Λ : Loops 𝓤 𝓛.H)
    (κ κ₁ : Lft) (q q₁ : Share) (short : κ ⊑ κ₁) (rb ro : ℕ) (d : (CellsOf E.row).Denot) (base : (BaseOf E.row).Denot)
    (i : ℕ) (us us₁ us₂ : List Val) where
  open 𝓛 use {H}

  abbrev self : Bor (CellsOf E.row).Denot
  self = record { ref_ptr = (rb, ro); now = d }

  abbrev clauses : Clauses 𝓤 (ended E)
  clauses = F.clauses E.row 𝓛 at_mem run

  abbrev bound : (walk_of 𝓛 (ended E) (stayed E) clauses).Ghost
  bound = (((κ, (κ₁, tt)), (q, (q₁, tt)), (short, tt), (self, (base, (i, tt))), (us, (us₁, (us₂, tt)))), tt)

  abbrev Post : Val → SProp 𝓤
  Post = (walk_of 𝓛 (ended E) (stayed E) clauses).post bound

  abbrev Asks : Type 0
  Asks = (base.ptr ≡ d.at) × (i < length d.values)

  -- the tokens, and the `&` to the value x at its place
  exits : (b o : ℕ) (x : el_x E) → slice_get d.values i ≡ Some x
      → ent 𝓤 (⋆ 𝓛 (‵ (hidden_shr (R E) κ x b o) ∷ ‵ (flft κ q) ∷ ‵ (flft κ₁ q₁) ∷ [])) (Post (vptr b o))
  exits b o x there =
      qed 𝓛 (‵ (hidden_shr (R E) κ x b o) ∷ ‵ (flft κ q) ∷ ‵ (flft κ₁ q₁) ∷ []) ∵
      suffices ! _ (ends_at 𝓛 (ended E) (stayed E) clauses bound (vptr b o) (record {
        ref_ptr = (b, o);
        now = x;
      }) (tt, (tt, (tt, tt))) (tt, (tt, (tt, tt)))) $ says ! there $
      feq_i ! (List Val) (vptr b o ∷ []) (vptr b o ∷ []) refl $ fjoin ! $ nothing ! $ nothing ! $ fjoin ! $
      nothing ! $ fjoin ! $ nothing ! $ fjoin ! $ join ! $
      nothing ! $ move ! (3 ∷ 0 ∷ []) $ join ! $ move ! (2 ∷ 0 ∷ []) $ join ! $ done !

  abbrev Before : SProp 𝓤
  Before = on_entry 𝓛 (ended E).signature (κ, (κ₁, tt)) (q, (q₁, tt)) (self, (base, (i, tt))) (us, (us₁, (us₂, tt)))

  abbrev Runs : SProp 𝓤
  Runs = WpFn 𝓤 H C Λ (function E) (us ++ (us₁ ++ (us₂ ++ []))) Post

  walk : us ≡ vptr rb ro ∷ [] → us₁ ≡ word base.ptr ∷ [] → us₂ ≡ vint w64 i ∷ [] → i < 2 ^ 64 → Asks
      → ent 𝓤 Before Runs
  walk e₀ e₁ e₂ word_fits asks =
      let b = block_of d.at in let o = count_of d.at in let s = sz E in let at = i * s + o in
      let inside : i < length d.values = asks.1 in
      let z = hd d.values (omega arith) in let x = get_or d.values i z in
      qed 𝓛 ((‵ (flft κ q) ⊛ ‵ (flft κ₁ q₁) ⊛ ‵ ftrue) ∷
      ‵ (owns (ShrRef (named 0) κ (CellsOf E.row) ∷ BaseOf E.row ∷ usize ∷ []) (self, (base, (i, tt)))
      (us, (us₁, (us₂, tt)))) ∷ []) ∵
      split ! $ move ! (1 ∷ []) $ split ! $ move ! (3 ∷ []) $ fsplit ! $ fsplit ! $ drop ! $ keep ! (0 ∷ 4 ∷ 2 ∷ []) $
      -- [the `&`; two tokens]
      unhide ! $ fsplit ! $ drop ! $ fsplit ! $ fsplit ! $ flt_l ! (λ most. flt_l ! (λ small. fsplit ! $
      use1 𝓛 (raw (fact 𝓤 (InBlock d.at))) (in_block_says 𝓛 d.at) $ heard ! (InBlock d.at) (λ inb. fsplit ! $ drop ! $
      use1 𝓛 (‵ (shared_of (R E) x b at κ)) (value_seen E 𝓛 b κ d.values i z o inside) $ hide ! $
      let in_it : i ≤ d.places = omega arith in let some : 0 < d.places = omega arith in
      let one : s < 2 ^ 64 = omega (arith, one_below d.places s (2 ^ 63) some small) in
      let far : i * s < 2 ^ 64 = omega (arith, times_below i d.places s (2 ^ 63) in_it small) in
      let start = ap (λ (p : Ptr). word p ∷ []) (asks.0 ∙ at_block d.at inb) in
      regoal ! (λ (vs : List Val × List Val × List Val).
      prop (WpFn 𝓤 H C Λ (function E) (vs.0 ++ (vs.1 ++ (vs.2 ++ []))) Post))
      (λ j. (e₀ j, (e₁ ∙ start) j, e₂ j)) refl $
      enter ! C Λ (function E) (vptr rb ro ∷ word (block_ptr b o) ∷ vint w64 i ∷ []) _ $
      alloc_all ! (λ l. pass_all ! refl (
        (tt, tt),
        (word-Good [] (block_ptr b o), ((tt, record { fits = word_fits }), tt)),
      ) $
      let En : Env 𝓤 H = env (function E).locals l in first ! $ blocks ! $
      sets ! (bin ! (get ! refl) (size_lit ! (record { fits = one }))
      (record { fits = far })) refl (tt, record { fits = far }) $
      sets ! (bin ! (get_in ! (fld ! refl (stop !)) (sub ! 0 refl (whole !))) (get ! refl) tt) refl (tt, tt) $
      sets_last ! (addr ! (through ! refl (stop !))) refl (tt, tt) $
      exec ! C Λ En (after 1 (function E).body) (at_ret En Post) $
      sets ! (of_opd ! (get ! refl)) refl (tt, tt) $
      returns ! (look_at ! 0 refl) $ free_all ! refl $ keep ! (0 ∷ 1 ∷ 2 ∷ []) $
      by ! (exits b at x (slice_get-get_or d.values i z inside))))))

pub get_spec : {M : Type 1} → statement M
get_spec 𝓤 𝓛 𝓜 𝓡 wired X LX =
    let E : El = record { row = X; laws = LX } in let 𝓣 = tables 𝓤 𝓛.H 𝓜 𝓡 𝓡.env in
    proved_at 𝓛 (ended E) (stayed E) (F.clauses X 𝓛 𝓜.mem 𝓡.returns) 𝓜 𝓡 (
      Goes-dropped 𝓛 2 (RefOf (0 ∷ []) tt (plain (λ _. CellsOf X)) (λ _. tt)) yes
          (λ κs x f. refl),
      (
        Goes-dropped 𝓛 2 (plain (λ _. BaseOf X)) no
            (λ κs x f. refl),
        (Goes-dropped 𝓛 2 (plain (λ _. usize)) yes (λ κs x f. refl), tt),
      ),
    )
    (#self (args E)) (function E) (code.unfolded 𝓤 𝓛.H 𝓜 𝓡 wired (X, tt)) (λ y are.
    let κ = y.0.0.0 in let κ₁ = y.0.0.1.0 in let q = y.0.1.0 in let q₁ = y.0.1.1.0 in let r = y.0.3.0 in
    let d = r.now in let base = y.0.3.1.0 in let i = y.0.3.1.1.0 in let vss = y.0.4 in
    let told = (base_laws.lowers (R E) (param_laws 0 X LX)).val_is base vss.1.0 are.1.0 in
    asked 𝓤 (κ₁ ⊑ X.lives) ((base.ptr ≡ d.at) × (i < length d.values))
    (on_entry 𝓛 (ended E).signature y.0.0 y.0.1 y.0.3 vss)
    (walk E 𝓛 𝓜.mem 𝓡.returns 𝓣.C 𝓣.Λ κ κ₁ q q₁ y.0.2.0 r.ref_ptr.0 r.ref_ptr.1 d base i vss.0 vss.1.0 vss.1.1.0
    are.0.0 told are.1.1.0.0 are.1.1.0.1))
