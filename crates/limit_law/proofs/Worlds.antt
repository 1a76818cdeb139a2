-- What each change of a memory keeps, each change of a world keeps, and so does a step of a program.
use Rattle.std.proofs.Common.{ℕ, Bool, List}
use Rattle.cloak_base.specs.declared.names.PageId.{PageId}
use Rattle.cloak_model.specs.Items.{Item}
use Rattle.cloak_model.specs.AskPages.{ask_copy, ask_forget}
use Rattle.cloak_model.specs.Cloaking.{CloakedMemory, seen_in, with_seen, offer}
use Rattle.cloak_model.specs.DomainState.{Domain}
use Rattle.cloak_model.specs.DomainStep.{domain_step}
use Rattle.cloak_model.specs.Ending.{ask_end}
use Rattle.cloak_model.specs.Events.{Event}
use Rattle.cloak_model.specs.Memory.{stored}
use Rattle.cloak_model.specs.PageMoves.{copy_pages, drop_pages}
use Rattle.cloak_model.specs.World.{World, Cloaked, noted, stored_at, settled, written, with_plain}
use Rattle.kernel_isolation.proofs.Ahead.{SettleKeeps}
use Rattle.script_fold.proofs.Folding.{step_keeps}
use Rattle.script_fold.proofs.Questions.{Kept}
use Rattle.script_fold.proofs.ByQuestions.{kept_by}
use Rattle.script_fold.proofs.Endings.{keeps_end}

-- of the memory of a world
abbrev pub InWorld : (CloakedMemory → Type 0) → World → Type 0
InWorld P (Cloaked c) = P c.memory
InWorld P _ = Unit {0}

pub in_wide : (P Q : CloakedMemory → Type 0) → ((m : CloakedMemory) → P m → Q m) → (w : World) → InWorld P w →
    InWorld Q w
in_wide P Q wide (Cloaked c) here = wide c.memory here
in_wide P Q wide _ here = tt

-- what holds of a world's memory holds of that of the next world
pub record KeepsIn (P : CloakedMemory → Type 0) (w v : World) : Type 0 where
  pub by : InWorld P w → InWorld P v

-- what a store into a frame keeps
abbrev pub StoreKeeps : (CloakedMemory → Type 0) → Type 0
StoreKeeps P =
    (pa width value : ℕ) (m : CloakedMemory) → P m → P (with_seen (stored pa width value (seen_in m)) m)

-- and dropping the pages of a resource
abbrev pub DropKeeps : (CloakedMemory → Type 0) → Type 0
DropKeeps P = (domain resource : ℕ) (m : CloakedMemory) → P m → P (drop_pages domain resource m)

module _ (P : CloakedMemory → Type 0) where
  pub kept_same : (w : World) → KeepsIn P w w
  kept_same w = record { by = λ here. here }

  pub kept_then : (u v w : World) → KeepsIn P u v → KeepsIn P v w → KeepsIn P u w
  kept_then u v w first second = record { by = λ here. second.by (first.by here) }

  pub kept_noted : (events : List Event) (w : World) → KeepsIn P w (noted events w)
  kept_noted events (Cloaked c) = record { by = λ here. here }
  kept_noted events _ = record { by = λ here. tt }

  pub kept_written : (i : Item) (w : World) → KeepsIn P w (written i w)
  kept_written i (Cloaked c) = record { by = λ here. here }
  kept_written i _ = record { by = λ here. tt }

  pub kept_settled : SettleKeeps P → (f : ℕ) (w : World) → KeepsIn P w (settled f w)
  kept_settled settles f (Cloaked c) = record { by = settles f c.memory }
  kept_settled settles f _ = record { by = λ here. tt }

  pub kept_stored : StoreKeeps P → (pa width value : ℕ) (w : World) → KeepsIn P w (stored_at pa width value w)
  kept_stored stores pa width value (Cloaked c) = record { by = stores pa width value c.memory }
  kept_stored stores pa width value _ = record { by = λ here. tt }

  kept_dropped : DropKeeps P → (d resource : ℕ) (w : World) → KeepsIn P w (ask_forget d resource w).world
  unfolding ask_forget
  kept_dropped drops d resource (Cloaked c) = record { by = drops d resource c.memory }
  kept_dropped drops d resource _ = record { by = λ here. tt }

  -- the end of a domain settles frames and drops pages
  pub end_keeps : SettleKeeps P → DropKeeps P → (d : ℕ) (w : World) → InWorld P w → InWorld P (ask_end d w).world
  end_keeps settles drops d w =
      (keeps_end (KeepsIn P) (record { same = kept_same; chained = kept_then; settled = kept_settled settles })
      (kept_dropped drops) d w).by

-- What each change of a memory keeps that a program makes.
pub record EachKeeps (P : CloakedMemory → Type 0) : Type 0 where
  pub settles : SettleKeeps P
  pub offers : (q : PageId) (g : ℕ) (write : Bool) (m : CloakedMemory) → P m → P (offer q g write m).memory
  pub stores : StoreKeeps P
  pub writes : (plain : PageId → List ℕ) (m : CloakedMemory) → P m → P (record m { plain = plain })
  pub copies : (domain from to : ℕ) (m : CloakedMemory) → P m → P (copy_pages domain from to m)
  pub drops : DropKeeps P

module _ (P : CloakedMemory → Type 0) (k : EachKeeps P) where
  kept_plain : (domain : ℕ) (plain : PageId → List ℕ) (w : World) → KeepsIn P w (with_plain domain plain w)
  kept_plain domain plain (Cloaked c) = record { by = k.writes plain c.memory }
  kept_plain domain plain _ = record { by = λ here. tt }

  kept_copied : (d from to : ℕ) (w : World) → KeepsIn P w (ask_copy d from to w).world
  unfolding ask_copy
  kept_copied d from to (Cloaked c) = record { by = k.copies d from to c.memory }
  kept_copied d from to _ = record { by = λ here. tt }

  pub kept_in : Kept (KeepsIn P)
  kept_in = record {
    same = kept_same P;
    chained = kept_then P;
    settled = kept_settled P k.settles;
    stored_at = kept_stored P k.stores;
    noted = kept_noted P;
    written = kept_written P;
    with_plain = kept_plain;
    offered = λ q g write c. record { by = k.offers q g write c.memory };
    mismatched = λ q g c. record { by = λ here. here };
    told = λ h rest. record { by = λ here. tt };
    unfit = λ h. record { by = λ here. tt };
  }

  pub step_in : (slot : ℕ) (d : Domain) (w : World) → InWorld P w → InWorld P (domain_step slot d w).world
  step_in slot d w =
      (step_keeps (KeepsIn P) slot d
      (kept_by (KeepsIn P) kept_in kept_copied (kept_dropped P k.drops) d.control.number) w).by
