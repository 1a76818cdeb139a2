-- The entries that a step of a program makes are of pages that its space has.
use Rattle.std.proofs.Common.{◌≡◌, ◌∙◌, ℕ, ◌*◌, ◌/◌, Option, Some, None, sym, subst, arith}
use Rattle.cloak_base.specs.declared.names.PageId.{PageId}
use Rattle.cloak_base.specs.declared.names.SpaceId.{SpaceId}
use Rattle.cloak_model.specs.Contexts.{Context, context_at}
use Rattle.cloak_model.specs.DomainState.{Control}
use Rattle.cloak_model.specs.Hypercalls.{Hypercall, hypercall}
use Rattle.cloak_model.specs.Resources.{page_at}
use Rattle.cloak_model.specs.World.{World, Cloaked}
use Rattle.cloak_model.specs.Script.{played}
use Rattle.hypercall_kinds.specs.Kinds.{CallKind, Stops, Forks, EndsSpace, after}
use Rattle.hypercall_kinds.proofs.ByKinds.{by_kinds}
use Rattle.space_law.specs.Mapping.{MakesMapped}
use Rattle.script_fold.proofs.Walks.{Walked, step_walks}
use Rattle.space_law.proofs.Questions.{LiesAt, Maps, maps_refl, maps_trans, asks_reach, asks_write, asks_get, asks_put, asks_clear, asks_copies, asks_forgets}

module _ (mapped : SpaceId → ℕ → Option PageId) (s : Option SpaceId) where
  -- what a hypercall asks makes no entry
  maps_kind : (h : Hypercall) (slot : ℕ) (c : Context) (d : Control) (w : World) (k : CallKind h slot c d w) →
      Maps mapped s w (after h slot c d w k).world
  maps_kind h slot c d w (Stops other) = asks_clear mapped s d.number _ w
  maps_kind h slot c d w (Forks free new is room slots spaces ok) =
      maps_trans mapped s w _ _ (asks_clear mapped s d.number _ w) (asks_copies mapped s d.number _ _)
  maps_kind h slot c d w (EndsSpace is none ok) =
      maps_trans mapped s w _ _ (asks_clear mapped s d.number _ w) (asks_forgets mapped s d.number _ _)
  maps_kind h slot c d w _ = maps_refl mapped s w

  pub maps_hypercall : (h : Hypercall) (slot : ℕ) (c : Context) (d : Control) (w : World) →
      Maps mapped s w (played (hypercall h slot c d) w).world
  maps_hypercall h slot c d w = by_kinds (λ t. Maps mapped s w t.world) h slot c d w (maps_kind h slot c d w)

pub same_page_start : (va : ℕ) → 4096 * (va / 4096) / 4096 ≡ va / 4096
same_page_start va = omega arith

walked : (mapped : SpaceId → ℕ → Option PageId) (s : Option SpaceId) →
    Walked (LiesAt mapped s) 0 (λ n w v. Maps mapped s w v)
walked mapped s = record {
  same = maps_refl mapped s;
  chained = λ a b u v w first second. maps_trans mapped s u v w first second;
  wider = λ a b w v low maps. maps;
  few = omega arith;
  reach = λ q va lies kind w. asks_reach mapped s q va kind w lies;
  get = asks_get mapped s;
  put = asks_put mapped s;
  store = λ q va lies kind at width value w is ok.
      maps_trans mapped s w _ _ (asks_reach mapped s q va kind w lies) (asks_write mapped s q at width value _);
}

same_context : (found : Option Context) (c e : Context) → found ≡ Some c → found ≡ Some e → c ≡ e
same_context (Some x) c e first second = cc
same_context None c e first second = absurd cc

pub makes_mapped : MakesMapped
makes_mapped mapped s slot d c k there whole same all =
    (step_walks (LiesAt mapped (Some s)) 0 (λ n w v. Maps mapped (Some s) w v) (walked mapped (Some s)) d
    (λ h slot' c' w. maps_hypercall mapped (Some s) h slot' c' d.control w) slot (Cloaked k)
    (λ e is va q lies. same (4096 * (va / 4096)) ∙ whole va (4096 * (va / 4096)) (same_page_start va)
    ∙ subst (λ (x : Context). page_at d.control.number d.control.resources x.space va ≡ Some q)
    (sym (same_context (context_at d.control.contexts slot) c e there is)) lies)).by all
