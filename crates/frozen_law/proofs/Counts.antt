-- There are as many frames at every moment of a run, and as many places of owed pages.
use Rattle.std.proofs.Common.{◌≡◌, ◌∙◌, ℕ, List, length, Option, Some, None, IfSome, Ok, sym, ap}
use Rattle.std.proofs.lemmas.List.{length-replicate, length-set}
use Rattle.cloak_base.specs.Random.{Random}
use Rattle.cloak_base.specs.declared.names.PageId.{PageId}
use Rattle.cloak_model.specs.declared.image.Bundle.{Bundle}
use Rattle.cloak_model.specs.Beginning.{Beginning}
use Rattle.cloak_model.specs.Cloaking.{CloakedMemory, settle_owed, settle, settle_frame_if}
use Rattle.cloak_model.specs.Ledger.{Keys, next_vector}
use Rattle.cloak_model.specs.Opening.{started_ledger, started_memory}
use Rattle.cloak_model.specs.PageMoves.{copy_pages, drop_pages, place_with}
use Rattle.cloak_model.specs.Parts.{Joint}
use Rattle.cloak_model.specs.Run.{Run, run_from}
use Rattle.kernel_isolation.specs.Isolation.{joint_until}
use Rattle.kernel_isolation.proofs.FilesAdded.{given_keeps}
use Rattle.kernel_isolation.proofs.Turns.{IsSteady}
use Rattle.cloak_model.proofs.Offering.{SettlesKept, settle_keeps, settle_frame_keeps, OfferKeeps, offer_keeps}
use Rattle.limit_law.proofs.Memories.{each_carries, carried_at}
use Rattle.limit_law.proofs.Openings.{begins_in_memory}
use Rattle.limit_law.proofs.Worlds.{EachKeeps}

abbrev pub HasCount : ℕ → CloakedMemory → Type 0
HasCount n m = length m.ledger.owed ≡ n

owed_count : (n f : ℕ) (q : PageId) (draw : Option (List ℕ × Random)) (m : CloakedMemory) → HasCount n m →
    HasCount n (settle_owed f q draw m).memory
unfolding settle_owed
owed_count n f q None m here = length-set m.ledger.owed f None ∙ here
owed_count n f q (Some draw) m here = length-set m.ledger.owed f None ∙ here

settles_count : (n : ℕ) → SettlesKept (HasCount n)
settles_count n f q m is here = owed_count n f q (next_vector m.ledger) m here

pub settle_count : (n f : ℕ) (m : CloakedMemory) → HasCount n m → HasCount n (settle f m).memory
settle_count n f m here = settle_keeps (HasCount n) (settles_count n) f m here

pub frame_count : (n : ℕ) (o : Option ℕ) (m : CloakedMemory) → HasCount n m → HasCount n (settle_frame_if o m).memory
frame_count n o m here = settle_frame_keeps (HasCount n) (settles_count n) o m here

offers_count : (n : ℕ) (q : PageId) → OfferKeeps q (HasCount n) (HasCount n)
offers_count n q = record {
  settles = settles_count n;
  compares = λ a b m here. here;
  takes = λ g m clean here. length-set m.ledger.owed g (Some q) ∙ here;
  stays = λ m here. here;
}

changes : (n : ℕ) → EachKeeps (HasCount n)
unfolding copy_pages drop_pages
changes n = record {
  settles = settle_count n;
  offers = λ q g write m here. offer_keeps (offers_count n q) g write m here;
  stores = λ pa width value m here. here;
  writes = λ plain m here. here;
  copies = λ d from to m here. here;
  drops = λ d resource m here. here;
}

-- The run.

place_count : (n : ℕ) (q : PageId) (f : ℕ) (bytes : List ℕ) (draw : Option (List ℕ × Random)) (m : CloakedMemory) →
    HasCount n m → IfSome (place_with q f bytes draw m) (HasCount n)
unfolding place_with
place_count n q f bytes None m here = tt
place_count n q f bytes (Some draw) m here = here

started_count : (b : Bundle) (keys : Keys) (rest : Random) → HasCount b.kernel.frames (started_memory b.kernel keys rest)
unfolding started_memory started_ledger
started_count b keys rest = length-replicate b.kernel.frames None

-- the count of owed pages' places, and of the frames of RAM
pub record AreCounted (n : ℕ) (j : Joint) : Type 0 where
  pub steady : IsSteady j
  pub places : length j.memory.ledger.owed ≡ n
  pub frames : length j.memory.ram ≡ n

pub are_counted : (b : Bundle) (from : Beginning) (budget : ℕ) (r : Run) → run_from b from budget ≡ Ok r → (n : ℕ) →
    AreCounted b.kernel.frames (joint_until n r)
are_counted b from budget r is n =
    let k = b.kernel.frames in
    let here = carried_at (HasCount k) (each_carries (HasCount k) (changes k) (λ s m here. here) (λ root m here. here)) b
    from budget r (begins_in_memory (HasCount k) b from (place_count k) (started_count b)
    (λ f x y given here. ap length (given_keeps f x y given).memory.owed ∙ here)) is n in
    record { steady = here.steady; places = here.memory; frames = sym here.steady.places ∙ here.memory }
