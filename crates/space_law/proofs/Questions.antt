-- The entries that questions make are of pages that lie in the space of the context that asks; of a hart outside they are
-- of no page.
use Rattle.std.proofs.Common.{◌≡◌, ℕ, ◌*◌, ◌/◌, Bool, true, false, cond, List, [], ◌∷◌, ◌++◌, Option, Some, None}
use Rattle.cloak_base.specs.declared.names.Kind.{Kind}
use Rattle.cloak_base.specs.declared.names.PageId.{PageId}
use Rattle.cloak_base.specs.declared.names.SpaceId.{SpaceId}
use Rattle.cloak_model.specs.declared.access.Access.{Access}
use Rattle.cloak_model.specs.declared.access.Walked.{Walked}
use Rattle.cloak_model.specs.declared.answer.Answer.{Answer}
use Rattle.cloak_model.specs.declared.answer.Answer.TheVariants as told
use Rattle.cloak_model.specs.Items.{Item}
use Rattle.cloak_model.specs.Ask.{opened}
use Rattle.cloak_model.specs.AskPages.{answer_item, replies, offer_events, inside_access, put_at, ask_reach, ask_write, ask_get, ask_put, ask_clear, ask_copy, ask_forget}
use Rattle.cloak_model.specs.Cloaking.{CloakedMemory, settle, offer}
use Rattle.cloak_model.specs.Events.{Event, Look, Touch, Born, Read, Write, Drop}
use Rattle.cloak_model.specs.Events.{Offer as offers}
use Rattle.cloak_model.specs.Fork.{copy_each, forget_each}
use Rattle.cloak_base.specs.Constants.{frame_of}
use Rattle.cloak_model.specs.World.{World, Flat, Cloaked, Alone, regime_of, events_of, noted, settled, stored_at, filled_frame, written, with_plain, with_marks}
use Rattle.cloak_model.specs.Script.{played}
use Rattle.script_fold.proofs.Endings.{keeps_forgets}
use Rattle.script_fold.proofs.KernelWalks.{Reaches}
use Rattle.script_fold.proofs.Questions.{Settles, Opens, Replies, Offers, keeps_reached_page, keeps_get, keeps_stored, keeps_clear}
use Rattle.shadow_fold.specs.Agreement.{IsMapped}
use Rattle.shadow_fold.specs.Births.{MakeAll}

-- the entries that a context of a space, or a hart outside, makes by events are of pages that lie there
abbrev pub AreMapped : (SpaceId → ℕ → Option PageId) → Option SpaceId → List Event → Type 0
AreMapped mapped s events = MakeAll (IsMapped mapped) s events

-- page q lies in a space where the page of an address starts, and none lies outside
abbrev pub LiesAt : (SpaceId → ℕ → Option PageId) → Option SpaceId → PageId → ℕ → Type 0
LiesAt mapped None q va = ⊥
LiesAt mapped (Some s) q va = mapped s (4096 * (va / 4096)) ≡ Some q

-- From one world to the other: if all entries that were made so far are mapped, so are all after.
pub record Maps (mapped : SpaceId → ℕ → Option PageId) (s : Option SpaceId) (w v : World) : Type 0 where
  pub by : AreMapped mapped s (events_of w) → AreMapped mapped s (events_of v)

-- an entry of a page that lies at the address of its access
page_mapped : (mapped : SpaceId → ℕ → Option PageId) (s : Option SpaceId) (satp : ℕ) (a : Access) (walked : Walked)
    (q : PageId) → LiesAt mapped s q a.va → AreMapped mapped s (Born satp a walked (Some q) ∷ [])
page_mapped mapped None satp a walked q lies = absurd lies
page_mapped mapped (Some s) satp a walked q lies = (lies, tt)

module _ (mapped : SpaceId → ℕ → Option PageId) (s : Option SpaceId) where
  pub maps_refl : (w : World) → Maps mapped s w w
  maps_refl w = record { by = λ all. all }

  pub maps_trans : (u v w : World) → Maps mapped s u v → Maps mapped s v w → Maps mapped s u w
  maps_trans u v w p q = record { by = λ all. q.by (p.by all) }

  pub are_append : (old new : List Event) → AreMapped mapped s old → AreMapped mapped s new →
      AreMapped mapped s (old ++ new)
  are_append [] new all are = are
  are_append (e ∷ old) new all are = (all.0, are_append old new all.1 are)

  -- Memory.

  pub maps_noted : (events : List Event) (w : World) → AreMapped mapped s events → Maps mapped s w (noted events w)
  maps_noted events (Cloaked c) are = record { by = λ all. are_append c.events events all are }
  maps_noted events _ are = record { by = λ all. all }

  pub maps_settled : (f : ℕ) (w : World) → Maps mapped s w (settled f w)
  maps_settled f (Cloaked c) = record { by = λ all. are_append c.events (Touch f ∷ []) all (tt, tt) }
  maps_settled f _ = record { by = λ all. all }

  pub maps_stored : (pa width value : ℕ) (w : World) → Maps mapped s w (stored_at pa width value w)
  maps_stored pa width value (Cloaked c) = record {
    by = λ all. are_append c.events (Write (frame_of pa) ∷ []) all (tt, tt);
  }
  maps_stored pa width value _ = record { by = λ all. all }

  pub maps_filled : (f : ℕ) (bytes : List ℕ) (w : World) → Maps mapped s w (filled_frame f bytes w)
  maps_filled f bytes (Cloaked c) = record { by = λ all. are_append c.events (Write f ∷ []) all (tt, tt) }
  maps_filled f bytes _ = record { by = λ all. all }

  pub maps_written : (i : Item) (w : World) → Maps mapped s w (written i w)
  maps_written i (Flat ram) = record { by = λ all. all }
  maps_written i _ = record { by = λ all. all }

  pub maps_plain : (domain : ℕ) (plain : PageId → List ℕ) (w : World) → Maps mapped s w (with_plain domain plain w)
  maps_plain domain plain (Flat ram) = record { by = λ all. all }
  maps_plain domain plain _ = record { by = λ all. all }

  pub maps_marks : (marks : List (Option ℕ)) (w : World) → Maps mapped s w (with_marks marks w)
  maps_marks marks (Flat seen) = record { by = λ all. all }
  maps_marks marks _ = record { by = λ all. all }

  -- its entry is of no page
  maps_opened : (satp : ℕ) (a : Access) (walked : Walked) (w : World) → Maps mapped s w (opened satp a walked w)
  maps_opened satp a walked w =
      maps_trans w _ _ (maps_settled (frame_of walked.pa) w) (maps_noted (Born satp a walked None ∷ []) _ (tt, tt))

  pub map_settles : Settles (Maps mapped s)
  map_settles = record { same = maps_refl; chained = maps_trans; settled = maps_settled }

  pub map_opens : Opens (Maps mapped s)
  map_opens = record {
    settles = map_settles;
    looked = λ satp a w. maps_noted (Look satp a ∷ []) w (tt, tt);
    opened = maps_opened;
    read = λ f w. maps_noted (Read f ∷ []) w (tt, tt);
  }

  -- Answers.

  pub maps_replies : (a : Answer) (w : World) → Maps mapped s w (replies a w).world
  unfolding replies
  maps_replies a w = maps_written (answer_item (regime_of w).domain a) w

  map_replies : Replies (Maps mapped s)
  map_replies = record {
    opens = map_opens;
    replied = maps_replies;
    told = λ h rest. record { by = λ all. all };
    unfit = λ h. record { by = λ all. all };
  }

  -- A page is reached.

  refused_mapped : (missed : Bool) (q : PageId) (g : ℕ) →
      AreMapped mapped s (cond missed (Touch g) (offers q g false) ∷ [])
  refused_mapped true q g = (tt, tt)
  refused_mapped false q g = (tt, tt)

  offer_mapped : (q : PageId) (g : ℕ) (m : CloakedMemory) (granted : Bool) →
      AreMapped mapped s (offer_events q g m granted)
  offer_mapped q g m true = (tt, tt)
  offer_mapped q g m false = refused_mapped (settle g m).missed q g

  map_offers : (q : PageId) (va : ℕ) → LiesAt mapped s q va → Offers (Maps mapped s) q va
  map_offers q va lies = record {
    offered = λ g write c. record {
      by = λ all. are_append c.events _ all (offer_mapped q g c.memory (offer q g write c.memory).granted);
    };
    granted = λ kind walked w.
        maps_noted _ w (page_mapped mapped s (regime_of w).satp (inside_access w va kind) walked q lies);
    mismatched = λ g c. record { by = λ all. all };
  }

  -- The questions.

  pub asks_reach : (q : PageId) (va : ℕ) (kind : Kind) (w : World) → LiesAt mapped s q va →
      Maps mapped s w (ask_reach q va kind w).world
  asks_reach q va kind w lies = keeps_reached_page (Maps mapped s) map_replies q va (map_offers q va lies) kind w

  pub asks_write : (q : PageId) (at width value : ℕ) (w : World) → Maps mapped s w (ask_write q at width value w).world
  unfolding ask_write
  asks_write q at width value w = maps_plain _ _ w

  pub asks_get : (va width : ℕ) (w : World) → Maps mapped s w (ask_get va width w).world
  asks_get va width w = keeps_get (Maps mapped s) map_replies va width w

  maps_put_at : (pa width value : ℕ) (w : World) → Maps mapped s w (put_at pa width value w).world
  unfolding put_at
  maps_put_at pa width value w =
      maps_trans _ _ _ (maps_stored pa width value w) (maps_trans _ _ _ (maps_written _ _) (maps_replies told.Ok _))

  pub asks_put : (va width value : ℕ) (w : World) → Maps mapped s w (ask_put va width value w).world
  asks_put va width value w =
      keeps_stored (Maps mapped s) map_replies width (λ pa value' v. maps_put_at pa width value' v) va value w

  pub asks_clear : (domain : ℕ) (marked : List Bool) (w : World) → Maps mapped s w (ask_clear domain marked w).world
  asks_clear domain marked w = keeps_clear (Maps mapped s) map_replies domain marked w

  pub maps_copy : (domain from to : ℕ) (w : World) → Maps mapped s w (ask_copy domain from to w).world
  unfolding ask_copy
  maps_copy domain from to (Flat ram) = maps_refl (Flat ram)
  maps_copy domain from to _ = record { by = λ all. all }

  pub maps_forget : (domain resource : ℕ) (w : World) → Maps mapped s w (ask_forget domain resource w).world
  unfolding ask_forget
  maps_forget domain resource (Flat ram) = maps_refl (Flat ram)
  maps_forget domain resource (Cloaked c) = record {
    by = λ all. are_append c.events (Drop domain resource ∷ []) all (tt, tt);
  }
  maps_forget domain resource (Alone h) = record { by = λ all. all }

  pub asks_copies : (domain : ℕ) (list : List (ℕ × ℕ)) (w : World) →
      Maps mapped s w (played (copy_each domain list) w).world
  unfolding copy_each
  asks_copies domain [] w = maps_refl w
  asks_copies domain (copy ∷ rest) w =
      maps_trans _ _ _ (maps_copy domain copy.0 copy.1 w) (asks_copies domain rest _)

  pub asks_forgets : (domain : ℕ) (list : List ℕ) (w : World) →
      Maps mapped s w (played (forget_each domain list) w).world
  asks_forgets domain list w = keeps_forgets (Maps mapped s) maps_refl maps_trans maps_forget domain list w

  -- What a hart outside reaches.

  pub map_reaches : Reaches (Maps mapped s)
  map_reaches = record {
    opens = map_opens;
    stored_at = maps_stored;
    marked = λ hart mark w. maps_marks _ w;
    filled = maps_filled;
  }
