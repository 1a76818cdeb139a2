-- What questions, droppings and the copies of a fork do, a hypercall does.
use Rattle.std.proofs.Common.{◌≡◌, ℕ}
use Rattle.cloak_base.specs.declared.names.PageId.{PageId}
use Rattle.cloak_model.specs.declared.answer.Answer.TheVariants as told
use Rattle.cloak_model.specs.AskPages.{ask_forget}
use Rattle.cloak_model.specs.Contexts.{Context}
use Rattle.cloak_model.specs.DomainState.{Control}
use Rattle.cloak_model.specs.Fork.{marked, private_numbers, copies, copy_each}
use Rattle.cloak_model.specs.Hypercalls.{Hypercall, hypercall}
use Rattle.cloak_model.specs.Script.{played}
use Rattle.cloak_model.specs.World.{World}
use Rattle.hypercall_kinds.specs.Kinds.{cleared, CallKind, Stops, Forks, EndsSpace, after}
use Rattle.hypercall_kinds.proofs.ByKinds.{by_kinds}
use Rattle.script_fold.proofs.Endings.{keeps_forgets}
use Rattle.frozen_law.proofs.Questions.{Kept, clear_keeps}

module _ (P : PageId → Type 0) (R : ℕ → World → World → Type 0) (k : Kept P R)
    (forget : (d n : ℕ) (w : World) → R 0 w (ask_forget d n w).world)
  where
    module _ (d : Control)
        (copy : (c : Context) (w : World) → (cleared c d w).answer ≡ told.Ok →
        R 0 w (played (copy_each d.number (copies c.space d.resources)) (cleared c d w).world).world)
      where
        kind_keeps : (h : Hypercall) (slot : ℕ) (c : Context) (w : World) (kind : CallKind h slot c d w) →
            R 0 w (after h slot c d w kind).world
        kind_keeps h slot c w (Stops other) = clear_keeps P R k d.number (marked c.space d.resources) w
        kind_keeps h slot c w (Forks free new is room slots spaces ok) = copy c w ok
        kind_keeps h slot c w (EndsSpace is none ok) =
            k.chained 0 0 _ _ _ (clear_keeps P R k d.number (marked c.space d.resources) w)
            (keeps_forgets (R 0) k.same (λ u v x first second. k.chained 0 0 u v x first second) forget d.number
            (private_numbers c.space d.resources) (cleared c d w).world)
        kind_keeps h slot c w _ = k.same w

        pub hypercall_keeps : (h : Hypercall) (slot : ℕ) (c : Context) (w : World) →
            R 0 w (played (hypercall h slot c d) w).world
        hypercall_keeps h slot c w = by_kinds (λ t. R 0 w t.world) h slot c d w (kind_keeps h slot c w)
