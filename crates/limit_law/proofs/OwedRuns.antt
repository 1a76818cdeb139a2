-- No page is owed by two frames: over each step, and in a run.
use Rattle.std.proofs.Common.{◌≡◌, ℕ, List, replicate, Option, Some, None, IfSome, sym, subst, ◌∙◌}
use Rattle.cloak_base.specs.Random.{Random}
use Rattle.cloak_base.specs.declared.names.PageId.{PageId}
use Rattle.cloak_model.specs.Cloaking.{CloakedMemory}
use Rattle.cloak_model.specs.Ledger.{Keys}
use Rattle.cloak_model.specs.Opening.{started_ledger, started_memory}
use Rattle.cloak_model.specs.PageMoves.{copy_pages, drop_pages, place_with}
use Rattle.cloak_model.specs.declared.image.KernelImage.{KernelImage}
use Rattle.kernel_isolation.proofs.FilesAdded.{given_keeps}
use Rattle.resource_map.proofs.Lists.{get_or-replicate_none}
use Rattle.frozen_state.specs.Limits.{IsOnce}
use Rattle.limit_law.specs.Owed.{PagesAreOwedOnce}
use Rattle.limit_law.proofs.Memories.{each_carries, carried_at}
use Rattle.limit_law.proofs.Openings.{begins_in_memory}
use Rattle.limit_law.proofs.Owed.{Keeps, settle_once, offer_once}
use Rattle.limit_law.proofs.Worlds.{EachKeeps}

changes : EachKeeps Keeps
unfolding copy_pages drop_pages
changes = record {
  settles = settle_once;
  offers = offer_once;
  stores = λ pa width value m once. once;
  writes = λ plain m once. once;
  copies = λ domain from to m once. once;
  drops = λ domain resource m once. once;
}

-- The opening.

place_once : (q : PageId) (f : ℕ) (bytes : List ℕ) (draw : Option (List ℕ × Random)) (m : CloakedMemory) → Keeps m →
    IfSome (place_with q f bytes draw m) Keeps
unfolding place_with
place_once q f bytes None m once = tt
place_once q f bytes (Some draw) m once = once

none_some : (q : PageId) → None ≡ Some q → ⊥
none_some q e = cc

none_once : (n : ℕ) → IsOnce (replicate n None)
none_once n f g q a b = absurd (none_some q (sym (get_or-replicate_none n f) ∙ a))

started_once : (image : KernelImage) (keys : Keys) (stream : Random) → Keeps (started_memory image keys stream)
unfolding started_memory started_ledger
started_once image keys stream = none_once image.frames

-- The run.

pub pages_are_owed_once : PagesAreOwedOnce
pages_are_owed_once b from budget r is n =
    (carried_at Keeps (each_carries Keeps changes (λ s m once. once) (λ root m once. once)) b from budget r
    (begins_in_memory Keeps b from place_once (started_once b.kernel)
    (λ f x y given once. subst IsOnce (sym (given_keeps f x y given).memory.owed) once)) is n).memory
