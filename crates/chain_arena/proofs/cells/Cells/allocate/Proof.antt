-- `allocate` takes a block as room for the places, with the right to free it. Assumes `Logic`.
use mathlib.Core.Path.{◌≡◌, refl, sym, ap, subst}
use mathlib.Core.Bool.{true, false}
use Prim.Native.Nat.{ℕ, ◌*◌, ◌<◌, ◌^◌}
use native.Mathlib.Omega.{arith}
use mathlib.Core.List.{List, [], ◌∷◌, ◌++◌}
use lib.Dec.{lit<}
use seplogic.Ra.Ura.{Ura}
use mir.Syntax.{Fn, Body, named, w64}
use mir.MapTy.{inst_fn}
use mir.Val.{Val, vptr, vint, vstruct, vcons, vnil}
use base.Logic.{SProp, ent}
use base.Fml.{Lft, Share, Incl-trans, ftrue, flft}
use prog.Capped.{capped_fits}
use prog.Memory.{Memory, align, capped}
use prog.Routine.{Routine}
use prog.Wp.{Env, Calls, Loops, WpFn, Wp, after_seq, at_return}
use sound.WpLaws.{FmC, fm_of}
use types.Logic.{Logic}
use contract.BorrowLft.{◌⊑◌}
use contract.Monad.{Fun, fact}
use contract.Running.{tables, tables_of}
use types.Kit.{Item, ‵, raw, ⋆, prop, later, any_q, ◌⊛◌, at_ret, ◌$◌, ◌∵◌, !, qed, by, move, keep, drop, use0, use1, use2, use3, split, join, regoal, fsplit, fjoin, await, suffices, frame, done}
use types.Kit.{Post as After}
use types.Match.{live, vrt, in_variant}
use types.Part.{whole, agg}
use types.Run.{stop, fld, of_opd, lit, bin, size_word, align_word, and_then, no_more, first, exec, returns, enter, switches_on}
use types.ByLocal.{alloc_all, pass_all, free_all, look_at, get, get_in, get_tag, sets, sets_last, lands_as, is, env}
use denote.Builtin.{RefOf, usize}
use denote.Exit.{yes}
use denote.RattleType.{RattleType, owns}
use denote.Param.{layout}
use denote.RawPtr.{Ptr, block_ptr}
use denote.Ref.{Bor, ShrRef}
use denote.Signature.{plain}
use denote.Steps.{nothing, owned}
use denote.Laws.{Is}
use denote.Struct.Declared as Declared
use denote.Struct.Struct.{Struct, Struct-Makes}
use denote.Struct.Tuple.{Tuple}
use denote.Triple.Call.{calls_at}
use denote.Triple.Clauses.{Clauses, Ended}
use denote.Triple.Entry.{on_entry}
use denote.Triple.Statement.{Triple}
use denote.Triple.Walked.{says, needs, Stays, stay_dropped, Goes-dropped, walk_of, ends_at}
use Rattle.core.proofs.alloc.Calls.{Al, second, takes_key, Takes, at_takes, Takes-goes, Takes-gives, Answered, Answer-typed, answers}
use Rattle.core.proofs.mem.Param as one_param
use Rattle.core.proofs.ptr.Rows.{El, R, sz, elτ}
use Rattle.core.proofs.slots.Leases.{uncapped, block_ty, block_size, block_align, args, P}
use Rattle.core.specs.contracts.alloc.AllocError as refusal
use Rattle.core.specs.contracts.result.Result as result
use Rattle.std.proofs.raw_atomic.Walks.{proved_at}
use Rattle.std.specs.Prelude.{IfOk, Ok, Err}
use Rattle.std.specs.Vec.Ownership.{FitsInBlock}
use Rattle.std_alloc.proofs.RcSteps.{Good, first_Good, word, word-Good}
use Rattle.std_alloc.proofs.ResultValues.{ok_of, err_of}
use Rattle.std_alloc.proofs.VecSteps.Shapes.{after, head, arm_body}
use Rattle.chain_arena.specs.Ownership.{cells_own}
use Rattle.chain_arena.specs.Places.{HasPlaces, IsDeedOf}
use Rattle.chain_arena.proofs.Memory.{CellsOf, BaseOf, mark, all_room_left}
use Rattle.chain_arena.proofs.Triples.{OwnsMark, mark_made, word_made, three_val, three_of}
use Rattle.chain_arena.specs.contracts.cells.BlockRight as deeds
use Rattle.chain_arena.specs.contracts.cells.Cells.allocate as F
use Rattle.chain_arena.specs.contracts.cells.Cells.allocate.Key.{name as #self}
use Rattle.chain_arena.proofs.cells.Cells.allocate.Statement.{statement}
use Rattle.chain_arena.proofs.cells.Cells.allocate.Code as code

-- the type parameter, as the lemmas on layouts take it
abbrev as_param : El → one_param.El
as_param E = record { row = E.row; laws = E.laws }

module _ (E : El) (Z : Al) where
  abbrev function : Fn
  function = inst_fn (args (as_param E) Z) code.function

  abbrev ended : Ended
  ended = F.ended E.row Z.row Z.g Z.d Z.drops

  abbrev Heap : RattleType
  Heap = P (as_param E) Z

  abbrev DeedOf : RattleType
  DeedOf = deeds.the_row (R E) Heap Z.g

  abbrev Three : RattleType
  Three = Tuple (BaseOf E.row ∷ CellsOf E.row ∷ DeedOf ∷ [])

  abbrev Out : RattleType
  Out = result.the_row Three refusal.the_row

  abbrev stayed : Stays ended.signature.params ended.kept
  stayed = (
    stay_dropped (RefOf (0 ∷ []) tt (plain (λ _. Heap)) (λ _. tt)) yes,
    (stay_dropped (plain (λ _. usize)) yes, tt),
  )

module _ (E : El) (Z : Al) {M : Type 1} {𝓤 : Ura M} (𝓛 : Logic 𝓤) (at_mem : Memory → SProp 𝓤)
    (run : Routine → Fun 𝓤) (C : Calls 𝓤 𝓛.H) (Λ : Loops 𝓤 𝓛.H) (fm : FmC 𝓤 𝓛.H 𝓛.laws C)
    (callee : Triple 𝓤 (C (takes_key Z)) (Takes Z 𝓛 at_mem run)) (κ κ₁ κ₂ : Lft) (q q₁ q₂ : Share) (short : κ ⊑ κ₂)
    (rb ro : ℕ) (a : Z.row.Denot) (n : ℕ) (us us₁ : List Val) where
  open 𝓛 use {H}

  abbrev heap : Bor Z.row.Denot
  heap = record { ref_ptr = (rb, ro); now = a }

  -- the tokens of the lifetimes in the two type parameters
  abbrev Tokens : Item 𝓤
  Tokens = ‵ (flft κ₁ q₁) ⊛ ‵ (flft κ₂ q₂) ⊛ ‵ ftrue

  abbrev clauses : Clauses 𝓤 (ended E Z)
  clauses = F.clauses E.row Z.row Z.g Z.d Z.drops 𝓛 at_mem run

  abbrev bound : (walk_of 𝓛 (ended E Z) (stayed E Z) clauses).Ghost
  bound = (((κ, (κ₁, (κ₂, tt))), (q, (q₁, (q₂, tt))), (short, tt), (heap, (n, tt)), (us, (us₁, tt))), tt)

  abbrev Post : Val → SProp 𝓤
  Post = (walk_of 𝓛 (ended E Z) (stayed E Z) clauses).post bound

  exits : (r : (Out E Z).Denot) (v : Val) → IfOk r (λ t. HasPlaces t.1 t.0.ptr n [] × IsDeedOf t.2 t.0.ptr n a)
      → ent 𝓤 (⋆ 𝓛 (‵ ((Out E Z).own_val r (v ∷ [])) ∷ ‵ (flft κ q) ∷ Tokens ∷ [])) (Post v)
  exits r v fresh =
      qed 𝓛 (‵ ((Out E Z).own_val r (v ∷ [])) ∷ ‵ (flft κ q) ∷ Tokens ∷ []) ∵
      suffices ! _ (ends_at 𝓛 (ended E Z) (stayed E Z) clauses bound v r (tt, (tt, tt)) (tt, (tt, tt))) $
      says ! fresh $
      move ! (1 ∷ 2 ∷ []) $ join ! $ frame ! $ nothing ! $ nothing ! $ fjoin ! $ nothing ! $ fjoin ! $ done !

  abbrev Before : SProp 𝓤
  Before = on_entry 𝓛 (ended E Z).signature (κ, (κ₁, (κ₂, tt))) (q, (q₁, (q₂, tt))) (heap, (n, tt)) (us, (us₁, tt))

  abbrev Runs : SProp 𝓤
  Runs = WpFn 𝓤 H C Λ (function E Z) (us ++ (us₁ ++ [])) Post

  walk : us ≡ vptr rb ro ∷ [] → us₁ ≡ vint w64 n ∷ [] → n < 2 ^ 64 → κ₂ ⊑ Z.row.lives → FitsInBlock (R E) n
      → ent 𝓤 Before Runs
  walk e₀ e₁ word_fits within fits =
      let s = sz E in let ρ = as_param E in let small : n * s < 2 ^ 63 = fits.0 in
      let bytes : n * s < 2 ^ 64 = omega arith in let al : ℕ = capped (align (elτ E)) in
      qed 𝓛 ((‵ (flft κ q) ⊛ Tokens) ∷ ‵ (owns (ShrRef (named 0) κ (Heap E Z) ∷ usize ∷ []) (heap, (n, tt))
      (us, (us₁, tt))) ∷ []) ∵
      split ! $ move ! (2 ∷ []) $ fsplit ! $ fsplit ! $ drop ! $ keep ! (0 ∷ 2 ∷ 3 ∷ []) $
      -- [the `&` to the allocator; its token; the other tokens]
      regoal ! (λ (ws : List Val × List Val). prop (WpFn 𝓤 H C Λ (function E Z) (ws.0 ++ (ws.1 ++ [])) Post))
      (λ j. (e₀ j, e₁ j)) refl $
      enter ! C Λ (function E Z) (vptr rb ro ∷ vint w64 n ∷ []) _ $
      alloc_all ! (λ l. pass_all ! refl ((tt, tt), ((tt, record { fits = word_fits }), tt)) $
      let En : Env 𝓤 H = env (function E Z).locals l in let last = after 3 (function E Z).body in
      let cases : Body = head (after 2 (function E Z).body) in
      let Then : After 𝓤 H = any_q (after_seq 𝓤 H (Wp 𝓤 H C Λ En last (at_return 𝓤 H En Post))
      (at_return 𝓤 H En Post)) in
      let y : (Takes Z 𝓛 at_mem run).Ghost = at_takes Z 𝓛 at_mem run κ q (rb, ro) a (n * s) al (block_ty ρ n) in
      sets ! (is ! (bin ! (get ! refl) (size_word !)
      (record { fits = subst (λ (k : ℕ). k < 2 ^ 64) (sym (uncapped n s bytes)) bytes }))
      (ap (vint w64) (uncapped n s bytes))) refl (tt, record { fits = bytes }) $
      use2 𝓛 (raw ((Takes Z 𝓛 at_mem run).pre y))
      (Takes-goes Z 𝓛 at_mem run κ q (rb, ro) a (Incl-trans short within) (n * s) al (block_ty ρ n)
      (block_size ρ n bytes) (block_align ρ n) bytes (capped_fits (align (elτ E)))) $
      calls_at ! fm (Takes Z 𝓛 at_mem run) callee y
      (and_then ! (get ! refl) (and_then ! (get ! refl) (and_then ! (align_word !) (no_more !)))) (λ v.
      use1 𝓛 (later (raw (Answered Z 𝓛 at_mem run a (block_ty ρ n) v) ⊛ ‵ (flft κ q)))
      (Takes-gives Z 𝓛 at_mem run κ q (rb, ro) a (n * s) al (block_ty ρ n) v) $ await ! tt $ split ! $
      answers Z ! at_mem run a (block_ty ρ n) v
      (λ b o e.
      -- [the room; the right to free it; the token of the `&`; the other tokens]
      let p : Ptr = block_ptr b o in
      let base : (BaseOf E.row).Denot = record { ptr = p } in
      let cells : (CellsOf E.row).Denot = record { mark = record {}; at = p; places = n; values = [] } in
      let deed : (DeedOf E Z).Denot = record { mark = record {}; at = p; places = n; alloc = a } in
      let made : Val = three_val (word p) mark mark in
      let typed : Good (layout (Three E Z)) made = (tt, ((tt, tt), ((tt, tt), ((tt, tt), tt)))) in
      let ok = first_Good (layout (Three E Z)) made typed in let out : Val = live 0 (vcons made vnil) in
      lands_as ! e refl (Answer-typed true b o) $ first ! $
      switches_on ! (get_tag ! (vrt ! refl (fld ! refl (stop !))) (whole !)) $ exec ! C Λ En (arm_body 0 cases) Then $
      sets ! (of_opd ! (get_in ! (vrt ! refl (fld ! refl (stop !))) (in_variant ! 0 0 refl refl (whole !)))) refl
      (tt, tt) $ sets ! (of_opd ! (get ! refl)) refl (tt, tt) $
      sets ! (agg ! (and_then ! (get ! refl) (no_more !))) refl (word-Good [] p) $
      sets ! (agg ! (no_more !)) refl (tt, tt) $
      sets ! (agg ! (and_then ! (get ! refl) (no_more !))) refl (tt, (tt, tt)) $
      sets ! (agg ! (no_more !)) refl (tt, tt) $
      sets ! (agg ! (and_then ! (get ! refl) (no_more !))) refl (tt, (tt, tt)) $
      sets ! (agg ! (and_then ! (get ! refl) (and_then ! (get ! refl) (and_then ! (get ! refl) (no_more !))))) refl
      typed $
      sets_last ! (agg ! (and_then ! (lit ! tt) (and_then ! (get ! refl) (no_more !)))) refl ok $
      exec ! C Λ En last (at_ret En Post) $ sets ! (of_opd ! (get ! refl)) refl ok $
      use1 𝓛 (‵ (cells_own (R E) p n [])) (all_room_left E 𝓛 n b o small) $ use0 𝓛 (‵ (OwnsMark E)) (mark_made E 𝓛) $
      fjoin ! $ move ! (1 ∷ []) $
      use0 𝓛 (‵ (OwnsMark E)) (mark_made E 𝓛) $ fjoin ! $
      use0 𝓛 (‵ ((BaseOf E.row).own_val base (word p ∷ []))) (word_made E 𝓛 p) $ move ! (0 ∷ 2 ∷ 1 ∷ []) $
      use3 𝓛 (‵ ((Three E Z).own_val (base, cells, deed) (made ∷ [])))
      (three_of 𝓛 (BaseOf E.row) (CellsOf E.row) (DeedOf E Z) base cells deed (word p) mark mark) $
      use1 𝓛 (‵ ((Out E Z).own_val (Ok (base, cells, deed)) (out ∷ [])))
      (ok_of 𝓛 (Three E Z) refusal.the_row (base, cells, deed) made) $
      returns ! (look_at ! 0 refl) $ free_all ! refl $ keep ! (0 ∷ 1 ∷ 2 ∷ []) $
      by ! (exits (Ok (base, cells, deed)) out ((refl, refl, refl), (refl, refl, refl))))
      (λ e.
      let Refusal : RattleType = Struct (Declared.shape refusal.the_type) in
      let none : Val = live 1 (vcons (vstruct vnil) vnil) in
      lands_as ! e refl (Answer-typed false 0 0) $ first ! $
      switches_on ! (get_tag ! (vrt ! refl (fld ! refl (stop !))) (whole !)) $ exec ! C Λ En (arm_body 1 cases) Then $
      sets ! (of_opd ! (get_in ! (vrt ! refl (fld ! refl (stop !))) (in_variant ! 1 0 refl refl (whole !)))) refl
      (tt, tt) $
      sets_last ! (agg ! (and_then ! (lit ! tt) (and_then ! (get ! refl) (no_more !)))) refl (
        tt,
        (
          record {
            fits =
                lit< tt;
          },
          (tt, tt),
        ),
      ) $
      exec ! C Λ En last (at_ret En Post) $ sets ! (of_opd ! (get ! refl)) refl (
        tt,
        (
          record {
            fits =
                lit< tt;
          },
          (tt, tt),
        ),
      ) $
      owned ! Refusal (Is Refusal) (Struct-Makes 𝓛 (Declared.shape refusal.the_type) tt) tt
      (vstruct vnil ∷ []) (tt, (refl, tt)) $
      use1 𝓛 (‵ ((Out E Z).own_val (Err (record {})) (none ∷ [])))
      (err_of 𝓛 (Three E Z) refusal.the_row (record {}) (vstruct vnil)) $
      returns ! (look_at ! 0 refl) $ free_all ! refl $ keep ! (0 ∷ 1 ∷ 2 ∷ []) $
      by ! (exits (Err (record {})) none tt))))

pub allocate_spec : {M : Type 1} → statement M
unfolding tables_of
allocate_spec 𝓤 𝓛 𝓜 𝓡 wired X W LX LW g d dd met md =
    let E : El = record { row = X; laws = LX } in
    let Z : Al = record { row = W; laws = LW; g = g; d = d; drops = dd } in let 𝓣 = tables 𝓤 𝓛.H 𝓜 𝓡 𝓡.env in
    proved_at 𝓛 (ended E Z) (stayed E Z) (F.clauses X W g d dd 𝓛 𝓜.mem 𝓡.returns) 𝓜 𝓡 (
      Goes-dropped 𝓛 3 (RefOf (0 ∷ []) tt (plain (λ _. Heap E Z)) (λ _. tt)) yes
          (λ κs x f. refl),
      (Goes-dropped 𝓛 3 (plain (λ _. usize)) yes (λ κs x f. refl), tt),
    )
    (#self (args (as_param E) Z)) (function E Z) (code.unfolded 𝓤 𝓛.H 𝓜 𝓡 wired (X, (W, tt)) d dd) (λ y are.
    let r = y.0.3.0 in let n = y.0.3.1.0 in let vss = y.0.4 in let asks = FitsInBlock (R E) n in
    let On = on_entry 𝓛 (ended E Z).signature y.0.0 y.0.1 y.0.3 vss in
    second 𝓤 (y.0.0.1.0 ⊑ X.lives) (y.0.0.1.1.0 ⊑ W.lives) On (fact 𝓤 asks) (λ within. needs 𝓤 asks On
    (walk E Z 𝓛 𝓜.mem 𝓡.returns 𝓣.C 𝓣.Λ (fm_of 𝓤 𝓛.H 𝓛.laws (tables_of 𝓤 𝓛.H 𝓜 𝓣))
    (met.allocate dd) y.0.0.0 y.0.0.1.0 y.0.0.1.1.0 y.0.1.0 y.0.1.1.0 y.0.1.1.1.0 y.0.2.0 r.ref_ptr.0 r.ref_ptr.1
    r.now n vss.0 vss.1.0 are.0.0 are.1.0.0 are.1.0.1 within)))
