-- What is asked of shadow entries.
use Rattle.std.specs.Prelude.{ℕ, ◌==◌, ◌<◌, Bool, true, false, ◌&&◌, ◌||◌, Option, Some, None, IfSome}
use Rattle.std.specs.Bool.{beq}
use Rattle.cloak_base.specs.declared.names.Frame.{Frame}
use Rattle.cloak_base.specs.declared.names.Kind.{Kind}
use Rattle.cloak_base.specs.declared.names.Kind.TheVariants.{Fetch, Load, Store}
use Rattle.cloak_base.specs.declared.names.Mode.{Mode}
use Rattle.cloak_base.specs.declared.names.Mode.TheVariants.{U, S}
use Rattle.cloak_base.specs.declared.names.SpaceId.{SpaceId}
use Rattle.cloak_model.specs.Contexts.{same_space}
use Rattle.shadow_fold.specs.declared.entry.Entry.{Entry}
use Rattle.shadow_fold.specs.declared.entry.Regime.{Regime}
use Rattle.shadow_fold.specs.declared.entry.Regime.TheVariants.{Outside, Inside}

abbrev pub same_mode : Mode → Mode → Bool
same_mode U U = true
same_mode S S = true
same_mode _ _ = false

abbrev pub same_kind : Kind → Kind → Bool
same_kind Fetch Fetch = true
same_kind Load Load = true
same_kind Store Store = true
same_kind _ _ = false

abbrev pub same_regime : Regime → Regime → Bool
same_regime (Outside satp mode sum mxr) (Outside satp' mode' sum' mxr') =
    (satp == satp') && (same_mode mode mode' && (beq sum sum' && beq mxr mxr'))
same_regime (Inside satp sum mxr space) (Inside satp' sum' mxr' space') =
    (satp == satp') && (beq sum sum' && (beq mxr mxr' && same_space space space'))
same_regime _ _ = false

-- the entry is of this regime, page and kind
unfoldable pub is_for : Regime → ℕ → Kind → Entry → Bool
is_for regime page kind e = same_regime e.regime regime && ((e.page == page) && same_kind e.kind kind)

-- the entry leads to the frame
unfoldable pub is_target : Frame → Entry → Bool
is_target f e = e.frame.0 == f.0

abbrev pub is_frame : Frame → Option Frame → Bool
is_frame f None = false
is_frame f (Some g) = g.0 == f.0

-- the frame is one of the entry's table frames
unfoldable pub is_table : Frame → Entry → Bool
is_table f e = is_frame f e.pt1 || is_frame f e.pt0

abbrev pub sees_space : SpaceId → Regime → Bool
sees_space s (Outside satp mode sum mxr) = false
sees_space s (Inside satp sum mxr space) = same_space space s

-- the entry is of a regime of the space
unfoldable pub is_of_space : SpaceId → Entry → Bool
is_of_space s e = sees_space s e.regime

-- the frames of the entry are below n
pub record IsWithin (n : ℕ) (e : Entry) : Type 0 where
  pub target : e.frame.0 < n
  pub first : IfSome e.pt1 (λ f. f.0 < n)
  pub second : IfSome e.pt0 (λ f. f.0 < n)
