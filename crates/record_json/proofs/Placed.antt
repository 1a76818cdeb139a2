-- The line of an item at a place.
use Rattle.std.proofs.Common.{◌≡◌, ℕ, List, [], ◌∷◌, ◌++◌, codes}
use Rattle.std.specs.List.{flat_map}
use Rattle.record_text.specs.declared.place.RecordPlace.{RecordPlace}
use Rattle.record_text.specs.declared.place.RecordPlace.TheVariants as place
use Rattle.record_json.specs.Members.{Member, begun_with, json_line, next_member, with_number, with_text}
use Rattle.record_json.specs.Objects.{numbered_place, place_members}
use Rattle.record_json.proofs.Texts.{line_parts}

numbered_line : (name : List ℕ) (step : ℕ) (ms : List Member) →
    begun_with (numbered_place name step) ++ (flat_map next_member ms ++ codes "}\n")
    ≡ json_line (numbered_place name step ++ ms)
numbered_line name step ms = line_parts (with_text (codes "place") name) (with_number (codes "step") step ∷ []) ms

pub placed_line : (p : RecordPlace) (ms : List Member) →
    begun_with (place_members p) ++ (flat_map next_member ms ++ codes "}\n") ≡ json_line (place_members p ++ ms)
placed_line place.Opening ms = numbered_line (codes "opening") 0 ms
placed_line (place.Step number) ms = numbered_line (codes "step") number ms
placed_line (place.Closing steps) ms = numbered_line (codes "closing") steps ms
placed_line place.End ms = line_parts (with_text (codes "place") (codes "end")) [] ms
