-- `get_mut` lends one of the values that are written, and the places follow it. Assumes `Logic`.
use mathlib.Core.Path.{◌≡◌, refl, sym, ◌∙◌}
use Prim.Native.Nat.{ℕ, ◌+◌, ◌*◌, ◌≤◌, ◌<◌, ◌^◌}
use native.Mathlib.Omega.{arith}
use mathlib.Core.List.{List, [], ◌∷◌, ◌++◌}
use lib.ListN.{length, get_or, set, length-set}
use seplogic.Ra.Ura.{Ura}
use base.Fraction.{full_share}
use mir.Syntax.{Fn, named, w64}
use mir.MapTy.{inst_fn}
use mir.Val.{Val, vptr, vint}
use base.Logic.{SProp, ent, sep}
use base.Fml.{Fml, Lft, GName, Share, ftrue, fat, fsep, flft}
use prog.Memory.{Memory}
use prog.Routine.{Routine}
use prog.Wp.{Env, Calls, Loops, WpFn}
use types.Logic.{Logic, sem}
use contract.BorrowLft.{◌⊑◌}
use contract.Monad.{Fun}
use contract.Running.{tables}
use types.Kit.{Item, ‵, raw, ⋆, prop, ◌⊛◌, some, later, at_ret, ◌$◌, ◌∵◌, !, qed, by, move, keep, use1, use2, split, join, group, regoal, rewrite, fsplit, fsplit3, fjoin, fpack, flt_l, pick, await, suffices, frame, done}
use types.Part.{whole, sub}
use types.Run.{stop, fld, of_opd, bin, size_lit, addr, first, blocks, exec, returns, enter}
use types.ByLocal.{alloc_all, pass_all, free_all, look_at, get, get_in, through, sets, sets_last, take_at, give_at, env}
use denote.Builtin.{usize}
use denote.Exit.{yes, no}
use denote.Follow.{follows, Part, lends_Part}
use denote.RattleType.{RattleType, owns}
use denote.Memory.{cell_at, mem, part_at, part_of}
use denote.Param.{layout}
use denote.Param.Laws.{param_laws}
use denote.RawPtr.{Ptr, block_ptr, in_a_block}
use denote.Ref.{MutBor, MutRef}
use denote.Signature.{plain, mut_ref_to}
use denote.Steps.{nothing, opens}
use denote.Struct.Owning.{shape}
use denote.Struct.Struct.{Struct}
use denote.Triple.Clauses.{Clauses, Ended}
use denote.Triple.Entry.{on_entry}
use denote.Triple.Walked.{says, Stays, stay_dropped, Goes-dropped, Goes-spent_ref, walk_of, ends_at}
use Rattle.core.proofs.ptr.Rows.{El, R, sz, el_x, hd, times_below, one_below}
use Rattle.std.proofs.lemmas.Option.{slice_get-get_or}
use Rattle.std.proofs.raw_atomic.Walks.{proved_at}
use Rattle.std.specs.Prelude.{slice_get, Some}
use Rattle.std_alloc.proofs.RcSteps.{word, word-Good}
use Rattle.std_alloc.proofs.VecSteps.Shapes.{after}
use Rattle.chain_arena.specs.Ownership.{cells_own}
use Rattle.chain_arena.specs.Lends.{with_values}
use Rattle.chain_arena.proofs.Memory.{args, CellsOf, BaseOf, asked, Row, Room, Others, nowhere, value_out, value_in, owner_of}
use Rattle.chain_arena.proofs.cells.Base.TheLaws as base_laws
use Rattle.chain_arena.specs.contracts.cells.Cells as owner
use Rattle.chain_arena.specs.contracts.cells.Cells.get_mut as F
use Rattle.chain_arena.specs.contracts.cells.Cells.get_mut.Key.{name as #self}
use Rattle.chain_arena.proofs.cells.Cells.get_mut.Statement.{statement}
use Rattle.chain_arena.proofs.cells.Cells.get_mut.Code as code

module _ (E : El) where
  abbrev function : Fn
  function = inst_fn (args E) code.function

  abbrev ended : Ended
  ended = F.ended E.row

  abbrev stayed : Stays ended.signature.params ended.kept
  stayed = (
    stay_dropped (mut_ref_to (0 ∷ []) tt (plain (λ _. CellsOf E.row))) no,
    (stay_dropped (plain (λ _. BaseOf E.row)) no, (stay_dropped (plain (λ _. usize)) yes, tt)),
  )

module _ (E : El) {M : Type 1} {𝓤 : Ura M} (𝓛 : Logic 𝓤) (at_mem : Memory → SProp 𝓤)
    (run : Routine → Fun 𝓤) (C : Calls 𝓤 𝓛.H) (Λ : Loops 𝓤 𝓛.H)
    (κ κ₁ : Lft) (q q₁ : Share) (short : κ ⊑ κ₁) (rb ro : ℕ) (γ : GName) (d : (CellsOf E.row).Denot)
    (base : (BaseOf E.row).Denot) (i : ℕ) (us us₁ us₂ : List Val) where
  open 𝓛 use {H}

  abbrev Cr : RattleType
  Cr = CellsOf E.row

  abbrev self : MutBor Cr.Denot
  self = record { ref_ptr = (rb, ro); ghost_name = γ; now = d }

  abbrev clauses : Clauses 𝓤 (ended E)
  clauses = F.clauses E.row 𝓛 at_mem run

  abbrev bound : (walk_of 𝓛 (ended E) (stayed E) clauses).Ghost
  bound = (((κ, (κ₁, tt)), (q, (q₁, tt)), (short, tt), (self, (base, (i, tt))), (us, (us₁, (us₂, tt)))), tt)

  abbrev Post : Val → SProp 𝓤
  Post = (walk_of 𝓛 (ended E) (stayed E) clauses).post bound

  abbrev Asks : Type 0
  Asks = (base.ptr ≡ d.at) × (i < length d.values)

  -- the owner's value, with w instead of the value that is lent
  abbrev new : el_x E → Cr.Denot
  new w = with_values d (set d.values i w)

  abbrev Mark : List Val → Fml
  Mark vs = (Struct (shape (owner.the_type (R E)))).own_val (tt, tt) vs

  module _ (vs : List Val) (b o : ℕ) where
    -- all but the value
    abbrev Rest : Fml
    Rest = fsep (Others E 𝓛 d.values i b o) (fsep (Room E 𝓛 d.places (length d.values) b o)
        (fsep (Mark vs) (cell_at full_share Cr.mir vs rb ro)))

    back : d.at ≡ block_ptr b o → i < length d.values → length d.values < d.places + 1 → d.places * sz E < 2 ^ 63
        → (w : el_x E) → ent 𝓤 (sep 𝓤 (sem 𝓛 ((mem (R E)).own_at w b (i * sz E + o))) (sem 𝓛 Rest))
        (sem 𝓛 ((mem Cr).own_at (new w) rb ro))
    unfolding part_of
    back e inside most small w =
        let ys = set d.values i w in let n = d.places in
        let long : length ys ≡ length d.values = length-set d.values i w in
        qed 𝓛 (‵ (part_at (R E) full_share w b (i * sz E + o)) ∷ ‵ Rest ∷ []) ∵ move ! (1 ∷ []) $ fsplit3 ! $
        move ! (3 ∷ 0 ∷ []) $
        use2 𝓛 (‵ (Row E 𝓛 ys b o)) (value_in E 𝓛 d.values i w b o inside) $
        use2 𝓛 (‵ (cells_own (R E) (block_ptr b o) n ys)) (owner_of E 𝓛 n ys b o (length d.values) long most small) $
        rewrite ! 0 (λ (p : Ptr). ‵ (cells_own (R E) p n ys)) (sym e) refl $ move ! (1 ∷ []) $ fsplit ! $
        move ! (0 ∷ 2 ∷ []) $ fjoin ! $ move ! (1 ∷ 0 ∷ []) $ fjoin ! $
        fpack ! (List Val) (λ ws. fsep (cell_at full_share Cr.mir ws rb ro) (Cr.own_val (new w) ws)) vs $ done !

  -- the `&mut` to the value, the token of its lifetime, and that the owner's value follows it
  abbrev Lent : Val → MutBor (el_x E) → Item 𝓤
  Lent v r = ‵ ((MutRef (named 0) κ (R E)).own_val r (v ∷ [])) ⊛ ‵ (flft κ q) ⊛
      ‵ (follows Cr (R E) γ r.ghost_name new)

  exits : (v : Val) (r : MutBor (el_x E)) → slice_get d.values i ≡ Some r.now
      → ent 𝓤 (⋆ 𝓛 (Lent v r ∷ ‵ (flft κ₁ q₁) ∷ [])) (Post v)
  exits v r there =
      qed 𝓛 (Lent v r ∷ ‵ (flft κ₁ q₁) ∷ []) ∵
      split ! $ move ! (1 ∷ []) $ split ! $ move ! (2 ∷ 0 ∷ 1 ∷ []) $
      suffices ! _ (ends_at 𝓛 (ended E) (stayed E) clauses bound v r (tt, (tt, (tt, tt))) (tt, (tt, (tt, tt)))) $
      nothing ! $ nothing ! $ fjoin ! $ nothing ! $ fjoin ! $ nothing ! $ fjoin ! $ join ! $
      nothing ! $ move ! (4 ∷ 0 ∷ []) $ join ! $ move ! (2 ∷ 0 ∷ []) $ join ! $ join ! $ frame ! $ says ! there $
      done !

  abbrev Before : SProp 𝓤
  Before = on_entry 𝓛 (ended E).signature (κ, (κ₁, tt)) (q, (q₁, tt)) (self, (base, (i, tt))) (us, (us₁, (us₂, tt)))

  abbrev Runs : SProp 𝓤
  Runs = WpFn 𝓤 H C Λ (function E) (us ++ (us₁ ++ (us₂ ++ []))) Post

  walk : us ≡ vptr rb ro ∷ [] → us₁ ≡ word base.ptr ∷ [] → us₂ ≡ vint w64 i ∷ [] → i < 2 ^ 64 → Asks
      → ent 𝓤 Before Runs
  walk e₀ e₁ e₂ word_fits asks =
      let s = sz E in let xs = d.values in let n = d.places in let inside : i < length xs = asks.1 in
      let z = hd xs (omega arith) in let x = get_or xs i z in
      qed 𝓛 ((‵ (flft κ q) ⊛ ‵ (flft κ₁ q₁) ⊛ ‵ ftrue) ∷
      ‵ (owns (MutRef (named 0) κ Cr ∷ BaseOf E.row ∷ usize ∷ []) (self, (base, (i, tt))) (us, (us₁, (us₂, tt)))) ∷
      []) ∵
      split ! $ move ! (1 ∷ []) $ split ! $ move ! (3 ∷ []) $ fsplit ! $ fsplit3 ! $ keep ! (1 ∷ 2 ∷ 6 ∷ 4 ∷ []) $
      -- [the `&mut`, in two parts; its token; the other token]
      regoal ! (λ (ws : List Val × List Val × List Val).
      prop (WpFn 𝓤 H C Λ (function E) (ws.0 ++ (ws.1 ++ (ws.2 ++ []))) Post)) (λ j. (e₀ j, e₁ j, e₂ j)) refl $
      enter ! C Λ (function E) (vptr rb ro ∷ word base.ptr ∷ vint w64 i ∷ []) _ $
      alloc_all ! (λ l. pass_all ! refl ((tt, tt), (word-Good [] base.ptr, ((tt, record { fits = word_fits }), tt))) $
      opens ! tt Cr {h = d} rb ro (λ vs. move ! (1 ∷ []) $ fsplit ! $ move ! (1 ∷ []) $
      in_a_block ! d.at (λ p. cells_own (R E) p n xs) (nowhere E 𝓛 n xs) (λ b o e. fsplit ! $ fsplit ! $
      flt_l ! (λ most. flt_l ! (λ small. fsplit ! $
      let at = i * s + o in let some_place : 0 < n = omega arith in let le : i ≤ n = omega arith in
      let one_fits : s < 2 ^ 64 = omega (arith, one_below n s (2 ^ 63) some_place small) in
      let far : i * s < 2 ^ 64 = omega (arith, times_below i n s (2 ^ 63) le small) in
      use1 𝓛 (‵ (part_at (R E) full_share x b at) ⊛ ‵ (Others E 𝓛 xs i b o)) (value_out E 𝓛 xs i z b o inside) $
      split ! $
      -- [the value; the others; the room; the mark; the owner's cell; the open `&mut`, in three parts; the token]
      move ! (3 ∷ 4 ∷ []) $ fjoin ! $ move ! (3 ∷ 0 ∷ []) $ fjoin ! $ move ! (2 ∷ 0 ∷ []) $ fjoin ! $
      move ! (1 ∷ 0 ∷ []) $
      take_at ! 2 $
      rewrite ! 0 (λ (p : Ptr). ‵ (fat full_share (layout (BaseOf E.row)) (l 2) 0 (word p))) (asks.0 ∙ e) refl $
      give_at ! 2 $
      let En : Env 𝓤 H = env (function E).locals l in first ! $ blocks ! $
      sets ! (bin ! (get ! refl) (size_lit ! (record { fits = one_fits }))
      (record { fits = far })) refl (tt, record { fits = far }) $
      sets ! (bin ! (get_in ! (fld ! refl (stop !)) (sub ! 0 refl (whole !))) (get ! refl) tt) refl (tt, tt) $
      sets_last ! (addr ! (through ! refl (stop !))) refl (tt, tt) $
      exec ! C Λ En (after 1 (function E).body) (at_ret En Post) $ sets ! (of_opd ! (get ! refl)) refl (tt, tt) $
      let way = back vs b o e inside most small in let seen = Cr.coded.code d in let rest = sem 𝓛 (Rest vs b o) in
      move ! (2 ∷ 3 ∷ 4 ∷ 0 ∷ 1 ∷ []) $ group ! 5 $
      use1 𝓛 (later (some (λ (δ : GName). raw (Part 𝓛 Cr (R E) new (named 0) κ q rb ro b at γ rest way x δ))))
      (lends_Part 𝓛 Cr (R E) new (named 0) κ q rb ro b at γ rest way seen seen x) $
      await ! tt $ pick ! (λ δ. returns ! (look_at ! 0 refl) $ free_all ! refl $ keep ! (0 ∷ 1 ∷ []) $
      by ! (exits (vptr b at) (record {
        ref_ptr = (b, at);
        ghost_name = δ;
        now = x;
      }) (slice_get-get_or xs i z inside))))))))

pub get_mut_spec : {M : Type 1} → statement M
get_mut_spec 𝓤 𝓛 𝓜 𝓡 wired X LX =
    let E : El = record { row = X; laws = LX } in let 𝓣 = tables 𝓤 𝓛.H 𝓜 𝓡 𝓡.env in
    proved_at 𝓛 (ended E) (stayed E) (F.clauses X 𝓛 𝓜.mem 𝓡.returns) 𝓜 𝓡 (
      Goes-spent_ref 𝓛 2 (0 ∷ []) tt (plain (λ _. CellsOf X)),
      (
        Goes-dropped 𝓛 2 (plain (λ _. BaseOf X)) no
            (λ κs x f. refl),
        (Goes-dropped 𝓛 2 (plain (λ _. usize)) yes (λ κs x f. refl), tt),
      ),
    )
    (#self (args E)) (function E) (code.unfolded 𝓤 𝓛.H 𝓜 𝓡 wired (X, tt)) (λ y are.
    let r = y.0.3.0 in let d = r.now in let base = y.0.3.1.0 in let i = y.0.3.1.1.0 in let vss = y.0.4 in
    let told = (base_laws.lowers (R E) (param_laws 0 X LX)).val_is base vss.1.0 are.1.0 in
    asked 𝓤 (y.0.0.1.0 ⊑ X.lives) ((base.ptr ≡ d.at) × (i < length d.values))
    (on_entry 𝓛 (ended E).signature y.0.0 y.0.1 y.0.3 vss)
    (walk E 𝓛 𝓜.mem 𝓡.returns 𝓣.C 𝓣.Λ y.0.0.0 y.0.0.1.0 y.0.1.0 y.0.1.1.0 y.0.2.0 r.ref_ptr.0 r.ref_ptr.1 r.ghost_name
    d base i vss.0 vss.1.0 vss.1.1.0
    are.0.0 told are.1.1.0.0 are.1.1.0.1))
