-- What is recorded and what is shown of pieces after pieces.
use Rattle.std.proofs.Common.{◌≡◌, ◌∙◌, ℕ, List, [], ◌∷◌, ◌++◌, append_assoc, refl, sym, ap}
use Rattle.std.proofs.lemmas.List.{append-nil}
use Rattle.cloak_model.specs.Exchange.{Piece, recorded, shown, recorded_bytes, shown_bytes}

pub recorded_bytes-append : (ps qs : List Piece) → recorded_bytes (ps ++ qs) ≡ recorded_bytes ps ++ recorded_bytes qs
recorded_bytes-append [] qs = refl
recorded_bytes-append (recorded bytes ∷ ps) qs =
    ap (λ (l : List ℕ). bytes ++ l) (recorded_bytes-append ps qs)
    ∙ sym (append_assoc bytes (recorded_bytes ps) (recorded_bytes qs))
recorded_bytes-append (shown bytes ∷ ps) qs = recorded_bytes-append ps qs

pub shown_bytes-append : (ps qs : List Piece) → shown_bytes (ps ++ qs) ≡ shown_bytes ps ++ shown_bytes qs
shown_bytes-append [] qs = refl
shown_bytes-append (recorded bytes ∷ ps) qs = shown_bytes-append ps qs
shown_bytes-append (shown bytes ∷ ps) qs =
    ap (λ (l : List ℕ). bytes ++ l) (shown_bytes-append ps qs)
    ∙ sym (append_assoc bytes (shown_bytes ps) (shown_bytes qs))

-- what is shown last is not recorded
pub recorded-last : (ps : List Piece) (text : List ℕ) → recorded_bytes (ps ++ shown text ∷ []) ≡ recorded_bytes ps
recorded-last ps text = recorded_bytes-append ps (shown text ∷ []) ∙ append-nil (recorded_bytes ps)

pub shown-last : (ps : List Piece) (text : List ℕ) →
    shown_bytes (ps ++ shown text ∷ []) ≡ shown_bytes ps ++ text
shown-last ps text =
    shown_bytes-append ps (shown text ∷ []) ∙ ap (λ (l : List ℕ). shown_bytes ps ++ l) (append-nil text)

-- what is only recorded is not shown
pub shown-recorded : (ps : List Piece) (bytes : List ℕ) → shown_bytes (ps ++ recorded bytes ∷ []) ≡ shown_bytes ps
shown-recorded ps bytes = shown_bytes-append ps (recorded bytes ∷ []) ∙ append-nil (shown_bytes ps)
