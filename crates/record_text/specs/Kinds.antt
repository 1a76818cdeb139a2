-- Kinds of items, with their names, and what of a record is chosen.
use Rattle.std.specs.Prelude.{ℕ, ◌^◌, ◌-◌, ◌==◌, ◌&&◌, Bool, true, false, List, [], ◌∷◌, codes, nat_le, Option, Some, None}
use Rattle.cloak_model.specs.Items.{Item}
use Rattle.cloak_model.specs.Items as item
use Rattle.record_text.specs.declared.kinds.Kinds.{Kinds}
use Rattle.record_text.specs.declared.place.RecordPlace.{RecordPlace}
use Rattle.record_text.specs.declared.place.RecordPlace.TheVariants as place
use Rattle.record_text.specs.declared.selection.Selection.{Selection}

-- an item is of one of these kinds; a marker is of none
abbrev pub is_of_kind : Kinds → Item → Bool
is_of_kind k (item.Cipher frame bytes) = k.cipher
is_of_kind k (item.Put address width value) = k.put
is_of_kind k (item.Leave s) = k.leave
is_of_kind k (item.Step number) = false
is_of_kind k (item.Close steps) = false
is_of_kind k item.End = false
is_of_kind k (item.Ok domain) = k.ok
is_of_kind k (item.Absent domain cause) = k.absent
is_of_kind k (item.Word domain value) = k.word
is_of_kind k (item.Timer domain) = k.timer
is_of_kind k (item.Resume domain ctx answer) = k.resume
is_of_kind k (item.Stopped domain) = k.stopped
is_of_kind k (item.Ended domain) = k.ended

abbrev pub no_kind : Kinds
no_kind = record {
  cipher = false;
  put = false;
  leave = false;
  ok = false;
  absent = false;
  word = false;
  timer = false;
  resume = false;
  stopped = false;
  ended = false;
}

abbrev pub only_cipher : Kinds
only_cipher = record no_kind { cipher = true }

abbrev pub only_put : Kinds
only_put = record no_kind { put = true }

abbrev pub only_leave : Kinds
only_leave = record no_kind { leave = true }

abbrev pub only_ok : Kinds
only_ok = record no_kind { ok = true }

abbrev pub only_absent : Kinds
only_absent = record no_kind { absent = true }

abbrev pub only_word : Kinds
only_word = record no_kind { word = true }

abbrev pub only_timer : Kinds
only_timer = record no_kind { timer = true }

abbrev pub only_resume : Kinds
only_resume = record no_kind { resume = true }

abbrev pub only_stopped : Kinds
only_stopped = record no_kind { stopped = true }

abbrev pub only_ended : Kinds
only_ended = record no_kind { ended = true }

-- a kind under its name
pub record NamedKind : Type 0 where
  pub name : List ℕ
  pub kind : Kinds

abbrev pub kind_names : List NamedKind
kind_names =
    record { name = codes "cipher"; kind = only_cipher }
    ∷ record { name = codes "put"; kind = only_put }
    ∷ record { name = codes "leave"; kind = only_leave }
    ∷ record { name = codes "ok"; kind = only_ok }
    ∷ record { name = codes "absent"; kind = only_absent }
    ∷ record { name = codes "word"; kind = only_word }
    ∷ record { name = codes "timer"; kind = only_timer }
    ∷ record { name = codes "resume"; kind = only_resume }
    ∷ record { name = codes "stopped"; kind = only_stopped }
    ∷ record { name = codes "ended"; kind = only_ended }
    ∷ []

-- What of a record is chosen.

-- each item, if no kinds are chosen
abbrev pub has_chosen_kind : Option Kinds → Item → Bool
has_chosen_kind None i = true
has_chosen_kind (Some kinds) i = is_of_kind kinds i

-- the closing is after the last step that there can be
abbrev pub has_place : Selection → RecordPlace → Bool
has_place s place.Opening = s.from == 0
has_place s (place.Step number) = nat_le s.from number && nat_le number s.to
has_place s (place.Closing steps) = s.to == 2 ^ 32 - 1
has_place s place.End = s.to == 2 ^ 32 - 1

-- an item of this place, which is no marker
abbrev pub has_item : Selection → RecordPlace → Item → Bool
has_item s p i = has_chosen_kind s.only i && has_place s p

-- the place that a marker begins
abbrev pub place_marked : Item → Option RecordPlace
place_marked (item.Step number) = Some (place.Step number)
place_marked (item.Close steps) = Some (place.Closing steps)
place_marked item.End = Some place.End
place_marked other = None
