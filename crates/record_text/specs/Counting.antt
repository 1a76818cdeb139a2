-- How many items of each kind are chosen of a record.
use Rattle.std.specs.Prelude.{◌≡◌, ℕ, List, [], ◌∷◌, ◌++◌, codes, Option, Some, None, if◌then◌else◌}
use Rattle.std.specs.List.{count_by, flat_map, fold}
use Rattle.cloak_model.specs.Report.{number_line}
use Rattle.cloak_model.specs.Items.{Item}
use Rattle.record_text.specs.declared.counts.KindCounts.{KindCounts}
use Rattle.record_text.specs.declared.selection.Selection.{Selection}
use Rattle.record_text.specs.declared.place.RecordPlace.{RecordPlace}
use Rattle.record_text.specs.declared.place.RecordPlace.TheVariants as place
use Rattle.record_text.specs.Kinds.{NamedKind, has_item, is_of_kind, kind_names, place_marked}
use Rattle.record_text.specs.Kinds.{only_cipher, only_put, only_leave, only_ok, only_absent, only_word, only_timer, only_resume, only_stopped, only_ended}

-- Items that are chosen, and the place of what comes next.
pub record Chosen : Type 0 where
  pub items : List Item
  pub place : RecordPlace

abbrev pub chosen_more_by : Selection → Chosen → Item → Option RecordPlace → Chosen
chosen_more_by s c i (Some p) = record { items = c.items; place = p }
chosen_more_by s c i None = if has_item s c.place i then record { items = c.items ++ i ∷ []; place = c.place } else c

abbrev pub chosen_more : Selection → Chosen → Item → Chosen
chosen_more s c i = chosen_more_by s c i (place_marked i)

abbrev pub none_chosen : Chosen
none_chosen = record { items = []; place = place.Opening }

-- those of a record, in their order
unfoldable pub chosen : Selection → List Item → Chosen
chosen s items = fold (chosen_more s) none_chosen items

-- a line for each kind
abbrev pub counts_text : List Item → List ℕ
counts_text items =
    flat_map (λ (k : NamedKind). number_line (k.name ++ codes " ") (count_by (is_of_kind k.kind) items)) kind_names

-- These are how many of some items there are of each kind.
pub record AreCounts (c : KindCounts) (items : List Item) : Type 0 where
  pub cipher : c.cipher ≡ count_by (is_of_kind only_cipher) items
  pub put : c.put ≡ count_by (is_of_kind only_put) items
  pub leave : c.leave ≡ count_by (is_of_kind only_leave) items
  pub ok : c.ok ≡ count_by (is_of_kind only_ok) items
  pub absent : c.absent ≡ count_by (is_of_kind only_absent) items
  pub word : c.word ≡ count_by (is_of_kind only_word) items
  pub timer : c.timer ≡ count_by (is_of_kind only_timer) items
  pub resume : c.resume ≡ count_by (is_of_kind only_resume) items
  pub stopped : c.stopped ≡ count_by (is_of_kind only_stopped) items
  pub ended : c.ended ≡ count_by (is_of_kind only_ended) items
