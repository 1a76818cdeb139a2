-- What is given to an emitter, one after another.
use Rattle.std.proofs.Common.{ℕ, List, [], ◌++◌, append_assoc, sym, subst}
use Rattle.std.proofs.lemmas.List.{append-nil, map-append}
use Rattle.cloak_model.specs.Items.{Item}
use Rattle.cloak_model.specs.Items.{Cipher}
use Rattle.cloak_model.specs.World.{cipher_items}
use Rattle.cloak_model.specs.Exchange.{Piece, Emits, EmitsSome, item_pieces, recorded, item_bytes}

-- nothing was given
pub emits_none : {E : Type 0} (gave : E → E → List Piece → Type 0) (e : E) → Emits gave e e []
emits_none gave e = record {
  more =
      λ first before given. subst (λ (pieces : List Piece). gave first e pieces) (sym (append-nil before)) given;
}

-- pieces, and then others
pub emits_then : {E : Type 0} {gave : E → E → List Piece → Type 0} {e f h : E} {ps qs : List Piece} →
    Emits gave e f ps → Emits gave f h qs → Emits gave e h (ps ++ qs)
emits_then {E} {gave} {e} {f} {h} {ps} {qs} first second = record {
  more = λ start before given.
      subst (λ (pieces : List Piece). gave start h pieces) (append_assoc before ps qs)
      (second.more start (before ++ ps) (first.more start before given));
}

-- items, and then others
pub emits_items : {E : Type 0} {gave : E → E → List Piece → Type 0} {e f h : E} (is js : List Item) →
    Emits gave e f (item_pieces is) → Emits gave f h (item_pieces js) → Emits gave e h (item_pieces (is ++ js))
emits_items {E} {gave} {e} {f} {h} is js first second =
    subst (λ (pieces : List Piece). Emits gave e h pieces) (sym (map-append (λ i. recorded (item_bytes i)) is js))
    (emits_then first second)

-- ciphers, and then others
pub emits_ciphers : {E : Type 0} {gave : E → E → List Piece → Type 0} {e f h : E} (cs ds : List (ℕ × List ℕ)) →
    Emits gave e f (item_pieces (cipher_items cs)) → Emits gave f h (item_pieces (cipher_items ds)) →
    Emits gave e h (item_pieces (cipher_items (cs ++ ds)))
emits_ciphers {E} {gave} {e} {f} {h} cs ds first second =
    subst (λ (is : List Item). Emits gave e h (item_pieces is))
    (sym (map-append (λ (c : ℕ × List ℕ). Cipher c.0 c.1) cs ds))
    (emits_items (cipher_items cs) (cipher_items ds) first second)

-- some pieces, and then others
pub some_then : {E : Type 0} {gave : E → E → List Piece → Type 0} {e f h : E} → EmitsSome gave e f → EmitsSome gave f h →
    EmitsSome gave e h
some_then {E} {gave} {e} {f} {h} first second = (first.0 ++ second.0, emits_then first.1 second.1)
