-- What is recorded of pages tells their newest bytes, after each step of a program.
use Rattle.std.proofs.Common.{◌≡◌, ◌∙◌, ℕ, Bool, List, [], ◌∷◌, zip, length, refl, sym}
use Rattle.std.specs.Prelude.{All}
use Rattle.std.proofs.lemmas.Bool.{false≢true}
use Rattle.std.proofs.lemmas.List.{length-set}
use Rattle.std.proofs.lemmas.List.Elements.{All-head, All-tail}
use Rattle.cloak_base.specs.Constants.{frame_of}
use Rattle.cloak_base.specs.declared.names.Kind.TheVariants.{Store}
use Rattle.cloak_base.specs.declared.names.PageId.{PageId}
use Rattle.cloak_model.specs.declared.answer.Answer.TheVariants as told
use Rattle.cloak_model.specs.AskPages.{ask_reach, ask_write, ask_copy, ask_forget}
use Rattle.cloak_model.specs.Cloaking.{CloakedMemory}
use Rattle.cloak_model.specs.Contexts.{Context}
use Rattle.cloak_model.specs.DomainState.{Control, Domain}
use Rattle.cloak_model.specs.DomainStep.{domain_step}
use Rattle.cloak_model.specs.Ending.{ask_end}
use Rattle.cloak_model.specs.Fork.{marked, private_numbers, free_numbers, copies, copy_each}
use Rattle.cloak_model.specs.PageMoves.{copy_pages, drop_pages}
use Rattle.cloak_model.specs.World.{World, Cloaked}
use Rattle.cloak_model.specs.Script.{played}
use Rattle.hypercall_kinds.specs.Kinds.{cleared}
use Rattle.kernel_isolation.proofs.Settlings.{HasPlaces}
use Rattle.chain_law.proofs.Zeros.{keeps_places, settle_fresh, offer_offered}
use Rattle.limit_law.proofs.Worlds.{InWorld, in_wide, end_keeps}
use Rattle.frozen_law.proofs.Worlds.{EachAdds, Adds, adding}
use Rattle.chain_law.proofs.ZeroWorlds.{IfOk, reach_grants, clear_clears, NoneOwedIn, MarkedClear, copy_owes}
use Rattle.frozen_law.specs.Records.{RecordsTell}
use Rattle.frozen_law.proofs.Ends.{hypercall_keeps}
use Rattle.frozen_law.proofs.Questions.{Kept, reach_keeps, clear_keeps}
use Rattle.frozen_law.proofs.Records.{IsOwed, settle_tell, offer_tell, offer_owes, newest_tell, copy_tell, drop_tell}
use Rattle.frozen_law.proofs.Walks.{AnyPage, any_page, Stores, step_keeps}
use Rattle.chain_law.proofs.ZeroSteps.{IsMarked, private_marked}

-- The changes of a world.

abbrev pub Knows : CloakedMemory → Type 0
Knows m = HasPlaces m × RecordsTell m

abbrev KnowsIn : World → Type 0
KnowsIn w = InWorld Knows w

places_of : (w : World) → KnowsIn w → InWorld HasPlaces w
places_of = in_wide Knows HasPlaces (λ m knows. knows.0)

abbrev Learns : ℕ → World → World → Type 0
Learns = Adds (λ n. Knows)

knows_adds : EachAdds AnyPage (λ n. Knows)
knows_adds = record {
  wider = λ a b m low knows. knows;
  settles = λ n f m knows. (keeps_places m _ (settle_fresh f m) knows.0, settle_tell f m knows.1);
  stores = λ n pa width value m knows. (knows.0 ∙ sym (length-set m.ram (frame_of pa) _), knows.1);
  offers = λ n q own g write m knows.
      (keeps_places m _ (offer_offered q g write m).stay knows.0, offer_tell q g write m knows.1);
}

changes : Kept AnyPage Learns
changes = adding AnyPage (λ n. Knows) knows_adds

-- A page that was reached for a store is owed to a frame.

reach_owed : (q : PageId) (va : ℕ) (w : World) → KnowsIn w → IfOk (IsOwed q) (ask_reach q va Store w)
reach_owed q va w knows =
    reach_grants (IsOwed q) q Store (λ g m low. offer_owes (length m.ledger.owed) q g m refl low) va w (places_of w knows)

write_knows : (q : PageId) (at width value : ℕ) (w : World) → InWorld (IsOwed q) w → KnowsIn w →
    KnowsIn (ask_write q at width value w).world
unfolding ask_write
write_knows q at width value (Cloaked c) owed knows = (knows.0, newest_tell q _ c.memory owed knows.1)
write_knows q at width value _ owed knows = tt

stores : Stores AnyPage Learns
stores q own va Store at width value w is ok = record {
  by = λ n knows.
      write_knows q at width value (ask_reach q va Store w).world (reach_owed q va w knows ok)
      ((reach_keeps AnyPage Learns changes q own va Store w).by n knows);
}
stores q own va _ at width value w is ok = absurd (false≢true is)

-- Forks and ends.

learns_copy : (domain from to : ℕ) (w : World) → NoneOwedIn domain from w → Learns 0 w (ask_copy domain from to w).world
unfolding ask_copy copy_pages
learns_copy domain from to (Cloaked c) none = record { by = λ n knows. (knows.0, copy_tell domain from to c.memory none knows.1) }
learns_copy domain from to _ none = record { by = λ n knows. tt }

learns_forget : (d n : ℕ) (w : World) → Learns 0 w (ask_forget d n w).world
unfolding ask_forget drop_pages
learns_forget d n (Cloaked c) = record { by = λ k knows. (knows.0, drop_tell d n c.memory knows.1) }
learns_forget d n _ = record { by = λ k knows. tt }

learns_copies : (domain : ℕ) (marks : List Bool) (numbers free : List ℕ) (w : World) → All (IsMarked marks) numbers →
    MarkedClear domain marks w → Learns 0 w (played (copy_each domain (zip numbers free)) w).world
unfolding copy_each
learns_copies domain marks [] free w all clear = changes.same w
learns_copies domain marks (n ∷ numbers) [] w all clear = changes.same w
learns_copies domain marks (n ∷ numbers) (to ∷ free) w all clear =
    changes.chained 0 0 _ _ _ (learns_copy domain n to w (clear n (All-head (IsMarked marks) n numbers all)))
    (learns_copies domain marks numbers free (ask_copy domain n to w).world (All-tail (IsMarked marks) n numbers all)
    (λ resource is. copy_owes domain n to w resource (clear resource is)))

learns_fork : (d : Control) (c : Context) (w : World) → (cleared c d w).answer ≡ told.Ok →
    Learns 0 w (played (copy_each d.number (copies c.space d.resources)) (cleared c d w).world).world
learns_fork d c w ok =
    let r = d.resources in
    record {
      by = λ n knows.
          (learns_copies d.number (marked c.space r) (private_numbers c.space r) (free_numbers r) (cleared c d w).world
          (private_marked c.space r) (clear_clears d.number (marked c.space r) w (places_of w knows) ok)).by n
          ((clear_keeps AnyPage Learns changes d.number (marked c.space r) w).by n knows);
    }

-- The step, and the end of a domain.

pub step_tells : (slot : ℕ) (d : Domain) (w : World) → InWorld Knows w →
    InWorld RecordsTell (domain_step slot d w).world
step_tells slot d w knows =
    in_wide Knows RecordsTell (λ m knows. knows.1) (domain_step slot d w).world
    ((step_keeps AnyPage Learns changes stores d (any_page d.control.number d.control.resources)
    (hypercall_keeps AnyPage Learns changes learns_forget d.control (learns_fork d.control)) slot w).by 0 knows)

pub end_tells : (d : ℕ) (w : World) → InWorld RecordsTell w → InWorld RecordsTell (ask_end d w).world
end_tells = end_keeps RecordsTell settle_tell drop_tell
