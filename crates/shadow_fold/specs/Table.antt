-- A table of shadow entries, and the counts.
use Rattle.std.specs.Prelude.{ℕ, ◌+◌, ◌-◌, ◌^◌, min, nat_le, Bool, not, List, [], ◌∷◌, length, filter, if◌then◌else◌}
use Rattle.std.specs.List.{list_any}
use Rattle.cloak_base.specs.declared.names.Frame.{Frame}
use Rattle.cloak_base.specs.declared.names.Kind.{Kind}
use Rattle.shadow_fold.specs.declared.entry.Entry.{Entry}
use Rattle.shadow_fold.specs.declared.entry.ShadowCounts.{ShadowCounts}
use Rattle.shadow_fold.specs.declared.entry.Regime.{Regime}
use Rattle.shadow_fold.specs.Entries.{is_for, is_target, is_table}

pub record Table : Type 0 where
  -- how many frames there are
  pub frames : ℕ
  -- the live entries, in no order that matters
  pub live : List Entry
  pub counts : ShadowCounts

-- no entry is live, and nothing was counted
abbrev pub empty_table : ℕ → Table
empty_table frames = record { frames = frames; live = []; counts = record { accesses = 0; misses = 0; flushes = 0 } }

-- one more, up to the last count
abbrev pub one_more : ℕ → ℕ
one_more n = min (n + 1) (2 ^ 64 - 1)

-- a live entry is of this regime, page and kind
unfoldable pub is_known : Regime → ℕ → Kind → Table → Bool
is_known regime page kind t = list_any (is_for regime page kind) t.live

-- an access, and a miss if no live entry is of its regime, page and kind
unfoldable pub looked : Regime → ℕ → Kind → Table → Table
looked regime page kind t = record t {
  counts = record t.counts {
    accesses = one_more t.counts.accesses;
    misses = if is_known regime page kind t then t.counts.misses else one_more t.counts.misses;
  };
}

-- the entries that pass the test end
unfoldable pub ending : (Entry → Bool) → Table → Table
ending ends t = record t { live = filter (λ e. not (ends e)) t.live }

-- the entries end that lead to the frame, or through it
abbrev pub killed : Frame → Table → Table
killed f t = ending (is_table f) (ending (is_target f) t)

-- all entries end, and that is counted
unfoldable pub emptied : Table → Table
emptied t = record t { live = []; counts = record t.counts { flushes = one_more t.counts.flushes } }

-- with room for one more entry: if 1024 are live, all end
unfoldable pub with_room : Table → Table
with_room t = if nat_le 1024 (length t.live) then emptied t else t

-- with these live entries
abbrev pub with_live : List Entry → Table → Table
with_live entries t = record t { live = entries }

-- the entry becomes live, if none is of its regime, page and kind
unfoldable pub born : Entry → Table → Table
born e t = if is_known e.regime e.page e.kind t then t else with_live (e ∷ (with_room t).live) (with_room t)
