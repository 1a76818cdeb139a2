-- How often frames may be read in a step: once for each answer that tells bytes of a frame, once for each frame that the
-- kernel is shown, and twice for each look that misses.
use Rattle.std.specs.Prelude.{ℕ, zero, suc, ◌≡◌, ◌+◌, ◌*◌, ◌≤◌, Bool, true, false, List, ◌++◌, map, Option}
use Rattle.std.specs.List.{count_by}
use Rattle.cloak_base.specs.declared.names.SpaceId.{SpaceId}
use Rattle.cloak_model.specs.Items.{Item}
use Rattle.cloak_model.specs.Events.{Event, Look, Read, Space}
use Rattle.cloak_model.specs.Record.{is_cipher}
use Rattle.shadow_fold.specs.Table.{one_more}

-- What a step asked, for a context of this space, or outside: the events of its questions, and what was written; and the
-- spaces whose regions it changed, or which it ended.
pub record AskedByStep : Type 0 where
  pub space : Option SpaceId
  pub events : List Event
  pub items : List Item
  pub changed : List SpaceId

-- all its events
abbrev pub events_in : AskedByStep → List Event
events_in a = a.events ++ map (λ s. Space s) a.changed

abbrev pub is_read : Event → Bool
is_read (Read f) = true
is_read _ = false

-- the reads that what was asked calls for, but for those of page tables
abbrev pub reads_due : AskedByStep → ℕ
reads_due a = count_by is_read a.events + count_by is_cipher a.items

-- the looks among events
abbrev pub is_look : Event → Bool
is_look (Look satp a) = true
is_look _ = false

abbrev pub looks_in : List Event → ℕ
looks_in events = count_by is_look events

-- how often frames were read, and how many looks missed
pub record Spent : Type 0 where
  pub reads : ℕ
  pub misses : ℕ

-- a count after that many more, up to its last number
unfoldable pub counted_up : ℕ → ℕ → ℕ
counted_up zero n = n
counted_up (suc more) n = one_more (counted_up more n)

-- From one to the other some looks missed, at most `looks` of them, and each was counted. There were at most `due` reads
-- besides two for each of these looks, of which `left` are left.
pub record SpendsFor (looks left due : ℕ) (old new : Spent) : Type 0 where
  pub missed : ℕ
  pub few : missed ≤ looks
  pub counted : new.misses ≡ counted_up missed old.misses
  pub reads : new.reads + left ≤ old.reads + due + 2 * missed

-- the same without a look
abbrev pub Spends : ℕ → ℕ → Spent → Spent → Type 0
Spends left due old new = SpendsFor 0 left due old new
