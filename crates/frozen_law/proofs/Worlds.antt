-- What each change of a memory does to a count, each change of a world does: an offer adds one at most.
use Rattle.std.proofs.Common.{ℕ, Bool, ◌+◌, ◌≤◌, arith}
use Rattle.cloak_base.specs.declared.names.PageId.{PageId}
use Rattle.cloak_model.specs.Cloaking.{CloakedMemory, offer}
use Rattle.cloak_model.specs.World.{World, Cloaked}
use Rattle.kernel_isolation.proofs.Ahead.{SettleKeeps}
use Rattle.limit_law.proofs.Worlds.{InWorld, in_wide, KeepsIn, StoreKeeps, kept_same, kept_noted, kept_written, kept_settled, kept_stored}
use Rattle.frozen_law.proofs.Questions.{Kept}

-- the count of a memory: a larger one does, too
pub record EachAdds (K : PageId → Type 0) (P : ℕ → CloakedMemory → Type 0) : Type 0 where
  pub wider : (a b : ℕ) (m : CloakedMemory) → a ≤ b → P a m → P b m
  pub settles : (n : ℕ) → SettleKeeps (P n)
  pub stores : (n : ℕ) → StoreKeeps (P n)
  pub offers : (n : ℕ) (q : PageId) → K q → (g : ℕ) (write : Bool) (m : CloakedMemory) → P n m →
      P (n + 1) (offer q g write m).memory

-- the count of a world's memory grows by so much at most
pub record Adds (P : ℕ → CloakedMemory → Type 0) (a : ℕ) (w v : World) : Type 0 where
  pub by : (n : ℕ) → InWorld (P n) w → InWorld (P (n + a)) v

module _ (K : PageId → Type 0) (P : ℕ → CloakedMemory → Type 0) (k : EachAdds K P) where
  wide_in : (a b : ℕ) (w : World) → a ≤ b → InWorld (P a) w → InWorld (P b) w
  wide_in a b w low here = in_wide (P a) (P b) (λ m. k.wider a b m low) w here

  pub none_more : (w v : World) → ((n : ℕ) → KeepsIn (P n) w v) → Adds P 0 w v
  none_more w v keeps = record { by = λ n here. wide_in n (n + 0) v (omega arith) ((keeps n).by here) }

  adds_same : (w : World) → Adds P 0 w w
  adds_same w = none_more w w (λ n. kept_same (P n) w)

  adds_then : (a b : ℕ) (u v w : World) → Adds P a u v → Adds P b v w → Adds P (a + b) u w
  adds_then a b u v w first second = record {
    by = λ n here. wide_in (n + a + b) (n + (a + b)) w (omega arith) (second.by (n + a) (first.by n here));
  }

  pub adding : Kept K (Adds P)
  adding = record {
    same = adds_same;
    chained = adds_then;
    wider = λ a b w v low adds. record { by = λ n here. wide_in (n + a) (n + b) v (omega (arith, low)) (adds.by n here) };
    settled = λ f w. none_more w _ (λ n. kept_settled (P n) (k.settles n) f w);
    stored_at = λ pa width value w. none_more w _ (λ n. kept_stored (P n) (k.stores n) pa width value w);
    noted = λ events w. none_more w _ (λ n. kept_noted (P n) events w);
    written = λ i w. none_more w _ (λ n. kept_written (P n) i w);
    offered = λ q own g write c. record { by = λ n here. k.offers n q own g write c.memory here };
    mismatched = λ q g c. none_more (Cloaked c) _ (λ n. record { by = λ here. here });
    told = λ h rest. record { by = λ n here. tt };
    unfit = λ h. record { by = λ n here. tt };
  }
