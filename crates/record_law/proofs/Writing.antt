-- The bytes of the record among the pieces of a run.
use Rattle.std.proofs.Common.{◌≡◌, ◌∙◌, ℕ, suc, List, [], ◌∷◌, ◌++◌, length, refl, sym, ap, append_assoc}
use Rattle.std.proofs.lemmas.List.{append-nil}
use Rattle.std.specs.Prelude.{map, codes}
use Rattle.std.specs.List.{flat_map}
use Rattle.cloak_model.specs.Items.{Item}
use Rattle.cloak_model.specs.Items as item
use Rattle.cloak_model.specs.Exchange.{Piece, shown, recorded_bytes, item_pieces, shown_each, item_bytes, steps_items, record_magic}
use Rattle.cloak_model.specs.Joint.{Turn}
use Rattle.cloak_model.specs.Run.{Run, turn_pieces, turns_pieces, due, record_bytes, report_of}
use Rattle.cloak_model.proofs.Pieces.{recorded_bytes-append}

bytes_of_items : (items : List Item) → recorded_bytes (item_pieces items) ≡ flat_map item_bytes items
bytes_of_items [] = refl
bytes_of_items (i ∷ items) = ap (λ rest. item_bytes i ++ rest) (bytes_of_items items)

nothing_recorded : (bytes : List ℕ) → recorded_bytes (shown_each bytes) ≡ []
nothing_recorded [] = refl
nothing_recorded (b ∷ bytes) = nothing_recorded bytes

flat_map-append : (xs ys : List Item) → flat_map item_bytes (xs ++ ys) ≡ flat_map item_bytes xs ++ flat_map item_bytes ys
flat_map-append [] ys = refl
flat_map-append (x ∷ xs) ys = ap (λ rest. item_bytes x ++ rest) (flat_map-append xs ys) ∙ sym (append_assoc (item_bytes x) (flat_map item_bytes xs) (flat_map item_bytes ys))

bytes_of_turn : (number : ℕ) (t : Turn) → recorded_bytes (turn_pieces number t) ≡ flat_map item_bytes (item.Step number ∷ t.items)
bytes_of_turn number t =
    recorded_bytes-append (item_pieces (item.Step number ∷ t.items)) (shown_each t.console)
    ∙ ap (λ rest. recorded_bytes (item_pieces (item.Step number ∷ t.items)) ++ rest) (nothing_recorded t.console)
    ∙ append-nil _ ∙ bytes_of_items (item.Step number ∷ t.items)

abbrev items_of_turn : Turn → List Item
items_of_turn t = t.items

bytes_of_turns : (number : ℕ) (turns : List Turn) → recorded_bytes (turns_pieces number turns) ≡ flat_map item_bytes (steps_items number (map items_of_turn turns))
unfolding turns_pieces steps_items
bytes_of_turns number [] = refl
bytes_of_turns number (t ∷ turns) =
    recorded_bytes-append (turn_pieces number t) (turns_pieces (suc number) turns)
    ∙ ap (λ front. front ++ recorded_bytes (turns_pieces (suc number) turns)) (bytes_of_turn number t)
    ∙ ap (λ rest. flat_map item_bytes (item.Step number ∷ t.items) ++ rest) (bytes_of_turns (suc number) turns)
    ∙ sym (flat_map-append (item.Step number ∷ t.items) (steps_items (suc number) (map items_of_turn turns)))

length-turns : (turns : List Turn) → length (map items_of_turn turns) ≡ length turns
length-turns [] = refl
length-turns (t ∷ turns) = ap suc (length-turns turns)

-- pieces whose record is known, and others
joined_bytes : (ps qs : List Piece) (xs ys : List Item) → recorded_bytes ps ≡ flat_map item_bytes xs → recorded_bytes qs ≡ flat_map item_bytes ys →
    recorded_bytes (ps ++ qs) ≡ flat_map item_bytes (xs ++ ys)
joined_bytes ps qs xs ys p q =
    recorded_bytes-append ps qs ∙ ap (λ front. front ++ recorded_bytes qs) p ∙ ap (λ rest. flat_map item_bytes xs ++ rest) q ∙ sym (flat_map-append xs ys)

then_shown : (items : List Item) (a b : List ℕ) → recorded_bytes (item_pieces items ++ (shown a ∷ shown b ∷ [])) ≡ flat_map item_bytes items
then_shown items a b = recorded_bytes-append (item_pieces items) (shown a ∷ shown b ∷ []) ∙ append-nil (recorded_bytes (item_pieces items)) ∙ bytes_of_items items

in_order : (opening closing : List Item) (turns : List Turn) (a b : List ℕ) →
    recorded_bytes (item_pieces opening ++ (turns_pieces 1 turns ++ (item_pieces (item.Close (length turns) ∷ (closing ++ item.End ∷ [])) ++ (shown a ∷ shown b ∷ []))))
    ≡ flat_map item_bytes (opening ++ (steps_items 1 (map items_of_turn turns) ++ (item.Close (length (map items_of_turn turns)) ∷ (closing ++ item.End ∷ []))))
in_order opening closing turns a b =
    let last : ℕ → List Item = λ n. item.Close n ∷ (closing ++ item.End ∷ []) in
    let steps = steps_items 1 (map items_of_turn turns) in
    joined_bytes (item_pieces opening) (turns_pieces 1 turns ++ (item_pieces (last (length turns)) ++ (shown a ∷ shown b ∷ []))) opening (steps ++ last (length turns)) (bytes_of_items opening)
    (joined_bytes (turns_pieces 1 turns) (item_pieces (last (length turns)) ++ (shown a ∷ shown b ∷ [])) steps (last (length turns)) (bytes_of_turns 1 turns) (then_shown (last (length turns)) a b))
    ∙ ap (λ n. flat_map item_bytes (opening ++ (steps ++ last n))) (sym (length-turns turns))

pub writes_its_record : (r : Run) → recorded_bytes (due r) ≡ record_bytes r
unfolding due
writes_its_record r = ap (λ rest. record_magic ++ rest) (in_order r.opened.items r.closed.items r.turns (codes "\n") (report_of r))
