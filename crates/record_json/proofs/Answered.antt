-- What a record that was shown as objects is answered.
use Rattle.std.proofs.Common.{◌≡◌, ℕ, List, Bool, sym, subst}
use Rattle.command_parts.specs.Outside.{Outside}
use Rattle.command_parts.specs.declared.status.Status.{Status}
use Rattle.read_back.specs.Reading.{ShowsRecord, never_unfit}
use Rattle.record_text.specs.declared.selection.Selection.{Selection}
use Rattle.record_json.specs.JsonText.{json_by, json_text}

-- the text by whether counts are asked for
pub as_asked : {S O : Type 0} (s : Selection) (b : Bool) (name : List ℕ) (answer : Status) (before after : Outside S O) →
    s.counts ≡ b → ShowsRecord never_unfit (json_by b s) name answer before after →
    ShowsRecord never_unfit (json_text s) name answer before after
as_asked {S} {O} s b name answer before after is shows =
    subst (λ (x : Bool). ShowsRecord never_unfit (json_by x s) name answer before after) (sym is) shows
