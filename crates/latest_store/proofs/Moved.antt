-- What moves make of pages, and that they have the bytes of the history then.
use Rattle.std.proofs.Common.{◌≡◌, ◌∙◌, ℕ, ◌-◌, ◌%◌, Bool, true, false, ◌&&◌, cond, List, [], ◌∷◌, ◌++◌, length, get_or, refl, sym, ap, subst, append_assoc, append-nil}
use Rattle.std.specs.Prelude.{◌==◌}
use Rattle.std.specs.Int.{w32, to_le_bytes}
use Rattle.cloak_base.specs.Pages.{zero_page, same_page, is_of, page_in, with_page, with_resource, with_copied}
use Rattle.cloak_base.proofs.Pages.{same_page-decides}
use Rattle.cloak_base.specs.declared.names.PageId.{PageId}
use Rattle.rv_atomic.specs.Combine.{combined}
use Rattle.cloak_model.specs.Memory.{value_in, with_value_in}
use Rattle.latest_store.specs.Moves.{Move, Makes, Stores, Combines, Copies, Zeros, Drops, Loads, covers, latest, latest_value, loads_of, with_moves}
use Rattle.latest_store.specs.LatestStore.{IsLatest}
use Rattle.latest_store.proofs.Values.{IsPlace, stored_byte, stored_whole, zero_page_at, zero_page_whole, read_value}

-- every page has the bytes of a history
abbrev pub Agrees : List Move → (PageId → List ℕ) → Type 0
Agrees history plain = (q : PageId) → IsLatest history q (plain q)

-- what a move makes of pages
abbrev pub moved : Move → (PageId → List ℕ) → PageId → List ℕ
moved (Makes p bytes) plain = with_page plain p bytes
moved (Stores p from width value) plain = with_page plain p (with_value_in (plain p) from width value)
moved (Combines p from op operand) plain =
    with_page plain p (with_value_in (plain p) from 4 (combined op (value_in (plain p) from 4) operand))
moved (Copies domain from to) plain = with_copied plain domain from to
moved (Drops domain resource) plain = with_resource plain domain resource zero_page
moved _ plain = plain

abbrev pub moved_by : List Move → (PageId → List ℕ) → PageId → List ℕ
moved_by [] plain = plain
moved_by (m ∷ moves) plain = moved_by moves (moved m plain)

-- the loads among moves, with what the pages gave
abbrev pub given : Move → (PageId → List ℕ) → List (ℕ × ℕ)
given (Loads q address width) plain = (address, value_in (plain q) (address % 4096) width) ∷ []
given _ plain = []

abbrev pub given_by : List Move → (PageId → List ℕ) → List (ℕ × ℕ)
given_by [] plain = []
given_by (m ∷ moves) plain = given m plain ++ given_by moves (moved m plain)

-- Moves of a domain after a history, with whole pages and places inside pages; what is made as zeros was zeros.
abbrev pub IsSound : ℕ → List Move → Move → Type 0
IsSound d history (Makes p bytes) = (p.domain ≡ d) × (length bytes ≡ 4096)
IsSound d history (Stores p from width value) = (p.domain ≡ d) × IsPlace from width
IsSound d history (Combines p from op operand) = (p.domain ≡ d) × IsPlace from 4
IsSound d history (Copies domain from to) = domain ≡ d
IsSound d history (Zeros domain resource) =
    (domain ≡ d) × ((q : PageId) → is_of domain resource q ≡ true → (at : ℕ) → latest history q at ≡ 0)
IsSound d history (Drops domain resource) = domain ≡ d
IsSound d history (Loads q address width) = q.domain ≡ d

abbrev pub AreSound : ℕ → List Move → List Move → Type 0
AreSound d history [] = Unit {0}
AreSound d history (m ∷ moves) = IsSound d history m × AreSound d (m ∷ history) moves

-- One move.

whole_either : (b : Bool) (x y : List ℕ) → length x ≡ 4096 → length y ≡ 4096 → length (cond b x y) ≡ 4096
whole_either true x y p q = p
whole_either false x y p q = q

byte_either : (b : Bool) (x y : List ℕ) (at u v : ℕ) → get_or x at 0 ≡ u → get_or y at 0 ≡ v →
    get_or (cond b x y) at 0 ≡ cond b u v
byte_either true x y at u v p q = p
byte_either false x y at u v p q = q

-- a store to this page, or to another
store_either : (test covered : Bool) (new old : List ℕ) (at b v : ℕ) →
    (test ≡ true → get_or new at 0 ≡ cond covered b v) → get_or old at 0 ≡ v →
    get_or (cond test new old) at 0 ≡ cond (test && covered) b v
store_either true covered new old at b v here there = here refl
store_either false covered new old at b v here there = there

-- zeros that were zeros
zero_either : (b : Bool) (x : ℕ) → (b ≡ true → x ≡ 0) → x ≡ cond b 0 x
zero_either true x is = is refl
zero_either false x is = refl

store_agrees : (p : PageId) (from width value : ℕ) (history : List Move) (plain : PageId → List ℕ) →
    IsPlace from width → Agrees history plain →
    Agrees (Stores p from width value ∷ history) (moved (Stores p from width value) plain)
unfolding latest
store_agrees p from width value history plain place agrees = λ q. record {
  whole = whole_either (same_page q p) _ (plain q) (stored_whole (plain p) from width value (agrees p).whole place)
      (agrees q).whole;
  each = λ at.
      store_either (same_page q p) (covers from width at) (with_value_in (plain p) from width value) (plain q) at
      (get_or (to_le_bytes w32 value) (at - from) 0) (latest history q at)
      (λ same. stored_byte (plain p) from width value at (agrees p).whole place
      ∙ ap (λ (v : ℕ). cond (covers from width at) (get_or (to_le_bytes w32 value) (at - from) 0) v)
      ((agrees p).each at ∙ ap (λ (r : PageId). latest history r at) (sym ((same_page-decides q p).0 same))))
      ((agrees q).each at);
}

pub move_agrees : (d : ℕ) (m : Move) (history : List Move) (plain : PageId → List ℕ) → IsSound d history m →
    Agrees history plain → Agrees (m ∷ history) (moved m plain)
unfolding latest
move_agrees d (Makes p bytes) history plain sound agrees = λ q. record {
  whole = whole_either (same_page q p) bytes (plain q) sound.1 (agrees q).whole;
  each = λ at. byte_either (same_page q p) bytes (plain q) at _ _ refl ((agrees q).each at);
}
move_agrees d (Stores p from width value) history plain sound agrees =
    store_agrees p from width value history plain sound.1 agrees
-- it is the store of what is made of the latest word
move_agrees d (Combines p from op operand) history plain sound agrees = λ q.
    let value : ℕ = combined op (latest_value history p from 4) operand in
    let stored = store_agrees p from 4 value history plain sound.1 agrees q in
    let word = read_value history p (plain p) from 4 (agrees p) in
    subst (λ (old : ℕ). IsLatest (Combines p from op operand ∷ history) q
    (with_page plain p (with_value_in (plain p) from 4 (combined op old operand)) q)) (sym word)
    (record { whole = stored.whole; each = stored.each })
move_agrees d (Copies domain from to) history plain sound agrees = λ q. record {
  whole = whole_either (is_of domain to q) _ _ (agrees (page_in from q)).whole (agrees q).whole;
  each = λ at. byte_either (is_of domain to q) _ _ at _ _ ((agrees (page_in from q)).each at) ((agrees q).each at);
}
move_agrees d (Zeros domain resource) history plain sound agrees = λ q. record {
  whole = (agrees q).whole;
  each = λ at.
      (agrees q).each at
      ∙ zero_either (is_of domain resource q) (latest history q at) (λ is. sound.1 q is at);
}
move_agrees d (Drops domain resource) history plain sound agrees = λ q. record {
  whole = whole_either (is_of domain resource q) zero_page _ zero_page_whole (agrees q).whole;
  each = λ at. byte_either (is_of domain resource q) zero_page _ at _ _ (zero_page_at at) ((agrees q).each at);
}
move_agrees d (Loads p address width) history plain sound agrees = λ q. record {
  whole = (agrees q).whole;
  each = λ at. (agrees q).each at;
}

-- the completed loads that a history has of a domain, one move later
abbrev LoadsMore : ℕ → ℕ → Move → List Move → (PageId → List ℕ) → Type 0
LoadsMore d e m history plain =
    loads_of e (m ∷ history) ≡ loads_of e history ++ cond (d == e) (given m plain) []

none_more : (b : Bool) (before : List (ℕ × ℕ)) → before ≡ before ++ cond b [] []
none_more true before = sym (append-nil before)
none_more false before = sym (append-nil before)

one_more : (b : Bool) (before : List (ℕ × ℕ)) (load load' : ℕ × ℕ) → load ≡ load' →
    cond b (before ++ load ∷ []) before ≡ before ++ cond b (load' ∷ []) []
one_more true before load load' same = ap (λ (x : ℕ × ℕ). before ++ x ∷ []) same
one_more false before load load' same = sym (append-nil before)

move_loads : (d e : ℕ) (m : Move) (history : List Move) (plain : PageId → List ℕ) → IsSound d history m →
    Agrees history plain → LoadsMore d e m history plain
unfolding loads_of
move_loads d e (Loads q address width) history plain sound agrees =
    let before = loads_of e history in
    let value = latest_value history q (address % 4096) width in
    ap (λ (x : ℕ). cond (x == e) (before ++ (address, value) ∷ []) before) sound
    ∙ one_more (d == e) before (address, value) (address, value_in (plain q) (address % 4096) width)
    (ap (λ (v : ℕ). let load : ℕ × ℕ = (address, v) in load)
    (sym (read_value history q (plain q) (address % 4096) width (agrees q))))
move_loads d e _ history plain sound agrees = none_more (d == e) (loads_of e history)

-- Moves one after another.

pub moves_agree : (d : ℕ) (moves history : List Move) (plain : PageId → List ℕ) → AreSound d history moves →
    Agrees history plain → Agrees (with_moves moves history) (moved_by moves plain)
moves_agree d [] history plain sound agrees = agrees
moves_agree d (m ∷ moves) history plain sound agrees =
    moves_agree d moves (m ∷ history) (moved m plain) sound.1 (move_agrees d m history plain sound.0 agrees)

both_more : (b : Bool) (before xs ys : List (ℕ × ℕ)) →
    (before ++ cond b xs []) ++ cond b ys [] ≡ before ++ cond b (xs ++ ys) []
both_more true before xs ys = append_assoc before xs ys
both_more false before xs ys = append-nil (before ++ [])

pub moves_load : (d e : ℕ) (moves history : List Move) (plain : PageId → List ℕ) → AreSound d history moves →
    Agrees history plain →
    loads_of e (with_moves moves history) ≡ loads_of e history ++ cond (d == e) (given_by moves plain) []
moves_load d e [] history plain sound agrees = none_more (d == e) (loads_of e history)
moves_load d e (m ∷ moves) history plain sound agrees =
    moves_load d e moves (m ∷ history) (moved m plain) sound.1 (move_agrees d m history plain sound.0 agrees)
    ∙ ap (λ (l : List (ℕ × ℕ)). l ++ cond (d == e) (given_by moves (moved m plain)) [])
    (move_loads d e m history plain sound.0 agrees)
    ∙ both_more (d == e) (loads_of e history) (given m plain) (given_by moves (moved m plain))
