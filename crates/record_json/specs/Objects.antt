-- An item of a record as an object. Its first members say where it stands: the place, and the step, which is 0 in the
-- opening and the number of all steps in the closing. The next is the item's name, and then come its fields, by their names
-- in the format of a record. Numbers are decimal; of a frame's bytes there is the SHA-256 digest in hexadecimal.
use Rattle.std.specs.Prelude.{ℕ, List, [], ◌∷◌, ◌++◌, codes}
use Rattle.hex.specs.Hex.{encode_lower}
use Rattle.sha2.specs.Sha256.{sha256}
use Rattle.cloak_base.specs.declared.causes.Shown.{Shown}
use Rattle.cloak_model.specs.Items.{Item}
use Rattle.cloak_model.specs.Items as item
use Rattle.record_text.specs.declared.place.RecordPlace.{RecordPlace}
use Rattle.record_text.specs.declared.place.RecordPlace.TheVariants as place
use Rattle.record_json.specs.Members.{Member, with_number, with_numbers, with_text}

-- at this place, and in this step
abbrev pub numbered_place : List ℕ → ℕ → List Member
numbered_place name step = with_text (codes "place") name ∷ with_number (codes "step") step ∷ []

abbrev pub end_place : List Member
end_place = with_text (codes "place") (codes "end") ∷ []

abbrev pub place_members : RecordPlace → List Member
place_members place.Opening = numbered_place (codes "opening") 0
place_members (place.Step number) = numbered_place (codes "step") number
place_members (place.Closing steps) = numbered_place (codes "closing") steps
place_members place.End = end_place

-- an item of this name, with these fields
abbrev pub named_item : List ℕ → List Member → List Member
named_item name fields = with_text (codes "item") name ∷ fields

-- an item of this name that a program was answered
abbrev pub inward_item : List ℕ → ℕ → List Member → List Member
inward_item name domain fields = named_item name (with_number (codes "program") domain ∷ fields)

-- what the kernel is shown in a frame
abbrev pub cipher_members : ℕ → List ℕ → List Member
cipher_members frame bytes =
    named_item (codes "cipher")
    (with_number (codes "frame") frame ∷ with_text (codes "sha256") (encode_lower (sha256 bytes)) ∷ [])

-- what a program stores where the kernel sees it
abbrev pub put_members : ℕ → ℕ → ℕ → List Member
put_members address width value =
    named_item (codes "put")
    (with_number (codes "address") address ∷ with_number (codes "width") width ∷ with_number (codes "value") value ∷ [])

abbrev pub leave_members : Shown → List Member
leave_members s =
    named_item (codes "leave")
    (with_number (codes "cause") s.cause ∷ with_number (codes "stval") s.stval ∷ with_number (codes "context") s.ctx
    ∷ with_number (codes "number") s.number ∷ with_numbers (codes "arguments") s.args ∷ [])

abbrev pub resume_members : ℕ → ℕ → ℕ → List Member
resume_members domain ctx answer =
    inward_item (codes "resume") domain
    (with_number (codes "context") ctx ∷ with_number (codes "answer") answer ∷ [])

unfoldable pub item_members : Item → List Member
item_members (item.Cipher frame bytes) = cipher_members frame bytes
item_members (item.Put address width value) = put_members address width value
item_members (item.Leave s) = leave_members s
item_members (item.Step number) = named_item (codes "step") []
item_members (item.Close steps) = named_item (codes "close") []
item_members item.End = named_item (codes "end") []
item_members (item.Ok domain) = inward_item (codes "ok") domain []
item_members (item.Absent domain cause) = inward_item (codes "absent") domain (with_number (codes "cause") cause ∷ [])
item_members (item.Word domain value) = inward_item (codes "word") domain (with_number (codes "value") value ∷ [])
item_members (item.Timer domain) = inward_item (codes "timer") domain []
item_members (item.Resume domain ctx answer) = resume_members domain ctx answer
item_members (item.Stopped domain) = inward_item (codes "stopped") domain []
item_members (item.Ended domain) = inward_item (codes "ended") domain []

-- an item at a place
abbrev pub placed_members : RecordPlace → Item → List Member
placed_members p i = place_members p ++ item_members i
