-- What it says that an entry is for an access.
use Rattle.std.proofs.Common.{◌≡◌, ◌==◌, ℕ, Bool, true, false, refl, sym, inl, inr, ◌∙◌}
use Rattle.std.specs.Bool.{beq}
use Rattle.std.specs.Cmp.{booleans_Decides}
use Rattle.std.proofs.lemmas.Bool.{false≢true, and_parts}
use Rattle.std.proofs.lemmas.Bool.Decides.{eqb_tells}
use Rattle.cloak_base.specs.declared.names.Kind.{Kind}
use Rattle.cloak_base.specs.declared.names.Kind.TheVariants.{Fetch, Load, Store}
use Rattle.cloak_base.specs.declared.names.Mode.{Mode}
use Rattle.cloak_base.specs.declared.names.Mode.TheVariants.{U, S}
use Rattle.cloak_base.specs.declared.names.SpaceId.{SpaceId}
use Rattle.cloak_model.specs.Contexts.{same_space}
use Rattle.shadow_fold.specs.declared.entry.Entry.{Entry}
use Rattle.shadow_fold.specs.declared.entry.Regime.{Regime}
use Rattle.shadow_fold.specs.declared.entry.Regime.TheVariants.{Outside, Inside}
use Rattle.shadow_fold.specs.Entries.{same_mode, same_kind, same_regime, is_for}

pub eqb_equal : (x y : ℕ) → (x == y) ≡ true → x ≡ y
eqb_equal x y e = elim (eqb_tells x y) [ inl h ↦ h.1 | inr h ↦ absurd (false≢true (sym h.0 ∙ e)) ]

pub eqb_self : (x : ℕ) → (x == x) ≡ true
eqb_self x = elim (eqb_tells x x) [ inl h ↦ h.0 | inr h ↦ absurd (h.1 refl) ]

beq_equal : (a b : Bool) → beq a b ≡ true → a ≡ b
beq_equal a b e = (booleans_Decides a b).0 e

mode_equal : (a b : Mode) → same_mode a b ≡ true → a ≡ b
mode_equal U U e = refl
mode_equal U S e = absurd (false≢true e)
mode_equal S U e = absurd (false≢true e)
mode_equal S S e = refl

pub kind_equal : (a b : Kind) → same_kind a b ≡ true → a ≡ b
kind_equal Fetch Fetch e = refl
kind_equal Fetch Load e = absurd (false≢true e)
kind_equal Fetch Store e = absurd (false≢true e)
kind_equal Load Fetch e = absurd (false≢true e)
kind_equal Load Load e = refl
kind_equal Load Store e = absurd (false≢true e)
kind_equal Store Fetch e = absurd (false≢true e)
kind_equal Store Load e = absurd (false≢true e)
kind_equal Store Store e = refl

pub space_equal : (a b : SpaceId) → same_space a b ≡ true → a ≡ b
space_equal a b e =
    let h = and_parts _ _ e in let d = eqb_equal _ _ h.0 in let n = eqb_equal _ _ h.1 in
    λ i. record { domain = d i; number = n i }

pub regime_equal : (a b : Regime) → same_regime a b ≡ true → a ≡ b
regime_equal (Outside satp mode sum mxr) (Outside satp' mode' sum' mxr') e =
    let h = and_parts _ _ e in let k = and_parts _ _ h.1 in let l = and_parts _ _ k.1 in
    λ i. Outside (eqb_equal satp satp' h.0 i) (mode_equal mode mode' k.0 i) (beq_equal sum sum' l.0 i) (beq_equal mxr mxr' l.1 i)
regime_equal (Outside satp mode sum mxr) (Inside satp' sum' mxr' space') e = absurd (false≢true e)
regime_equal (Inside satp sum mxr space) (Outside satp' mode' sum' mxr') e = absurd (false≢true e)
regime_equal (Inside satp sum mxr space) (Inside satp' sum' mxr' space') e =
    let h = and_parts _ _ e in let k = and_parts _ _ h.1 in let l = and_parts _ _ k.1 in
    λ i. Inside (eqb_equal satp satp' h.0 i) (beq_equal sum sum' k.0 i) (beq_equal mxr mxr' l.0 i) (space_equal space space' l.1 i)

-- an entry for an access is of its regime, page and kind
pub is_for-key : (regime : Regime) (page : ℕ) (kind : Kind) (e : Entry) → is_for regime page kind e ≡ true
    → (e.regime ≡ regime) × (e.page ≡ page) × (e.kind ≡ kind)
unfolding is_for
is_for-key regime page kind e is =
    let h = and_parts _ _ is in let k = and_parts _ _ h.1 in
    (regime_equal e.regime regime h.0, eqb_equal e.page page k.0, kind_equal e.kind kind k.1)
