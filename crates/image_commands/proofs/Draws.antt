-- The random stream of a number has no end, so a run under it opens.
use Rattle.std.proofs.Common.{◌≡◌, ℕ, zero, suc, ◌+◌, List, [], ◌∷◌, ◌++◌, Option, Some, None, Err}
use Rattle.std.specs.Prelude.{option_and_then, option_map}
use Rattle.cloak_base.specs.Random.{Random, handed, keyed, numbered, next_draw}
use Rattle.cloak_base.specs.declared.names.PageId.{PageId}
use Rattle.cloak_model.specs.declared.image.Bundle.{Bundle}
use Rattle.cloak_model.specs.declared.image.Program.{Program}
use Rattle.cloak_model.specs.Cloaking.{CloakedMemory}
use Rattle.cloak_model.specs.Opening.{Lack, drawn_keys, key_count, keys_for, opened_by, opened_with, opening}
use Rattle.cloak_model.specs.Opening.{place_pages, place_programs}
use Rattle.cloak_model.specs.Opening.{program_page, started_ledger, started_memory}
use Rattle.cloak_model.specs.PageMoves.{place, place_with}

-- a key stream, which has no end
abbrev IsKeyed : Random → Type 0
IsKeyed (handed bytes) = ⊥
IsKeyed (keyed g) = Unit {0}

-- a draw, after which the stream has no end
abbrev DrawsKeyed : Option (List ℕ × Random) → Type 0
DrawsKeyed None = ⊥
DrawsKeyed (Some draw) = IsKeyed draw.1

-- a memory in which pages were placed, and whose stream has no end
abbrev PlacesKeyed : Option CloakedMemory → Type 0
PlacesKeyed None = ⊥
PlacesKeyed (Some m) = IsKeyed m.ledger.stream

drawn : (r : Random) → IsKeyed r → DrawsKeyed (next_draw r)
unfolding next_draw
drawn (handed bytes) none = absurd none
drawn (keyed g) endless = tt

placed_with : (q : PageId) (f : ℕ) (bytes : List ℕ) (m : CloakedMemory) (draw : Option (List ℕ × Random)) →
    DrawsKeyed draw → PlacesKeyed (place_with q f bytes draw m)
unfolding place_with
placed_with q f bytes m None none = absurd none
placed_with q f bytes m (Some draw) endless = endless

placed : (q : PageId) (f : ℕ) (bytes : List ℕ) (m : CloakedMemory) → IsKeyed m.ledger.stream →
    PlacesKeyed (place q f bytes m)
unfolding place
placed q f bytes m endless = placed_with q f bytes m (next_draw m.ledger.stream) (drawn m.ledger.stream endless)

then_placed : (next : CloakedMemory → Option CloakedMemory) (o : Option CloakedMemory) →
    ((m : CloakedMemory) → IsKeyed m.ledger.stream → PlacesKeyed (next m)) → PlacesKeyed o →
    PlacesKeyed (option_and_then next o)
then_placed next None each none = absurd none
then_placed next (Some m) each endless = each m endless

pages_placed : (d : ℕ) (p : Program) (n : ℕ) (m : CloakedMemory) → IsKeyed m.ledger.stream →
    PlacesKeyed (place_pages d p n m)
pages_placed d p zero m endless = endless
pages_placed d p (suc n) m endless =
    let q : PageId = record { domain = d; resource = 0; page = n } in
    then_placed (place q (p.place + n) (program_page p.bytes n)) (place_pages d p n m)
    (placed q (p.place + n) (program_page p.bytes n)) (pages_placed d p n m endless)

programs_placed : (d : ℕ) (programs : List Program) (m : CloakedMemory) → IsKeyed m.ledger.stream →
    PlacesKeyed (place_programs d programs m)
programs_placed d [] m endless = endless
programs_placed d (p ∷ programs) m endless =
    then_placed (place_programs (d + 1) programs) (place_pages d p p.start.pages m)
    (programs_placed (d + 1) programs) (pages_placed d p p.start.pages m endless)

lacks_no_page : (b : Bundle) (o : Option CloakedMemory) (lack : Lack) → PlacesKeyed o → opened_with b o ≡ Err lack → ⊥
unfolding opened_with
lacks_no_page b None lack none lacks = none
lacks_no_page b (Some m) lack endless lacks = let clash = lacks in cc

-- Keys are drawn one after another.

-- keys were drawn, and the stream has no end
abbrev DrawsKeys : Option (List (List ℕ) × Random) → Type 0
DrawsKeys None = ⊥
DrawsKeys (Some keys) = IsKeyed keys.1

next_key : (keys : List (List ℕ)) (draw : Option (List ℕ × Random)) → DrawsKeyed draw →
    DrawsKeys (option_map (λ (d : List ℕ × Random). (keys ++ d.0 ∷ [], d.1)) draw)
next_key keys None none = absurd none
next_key keys (Some draw) endless = endless

one_key_more : (drawn_before : Option (List (List ℕ) × Random)) → DrawsKeys drawn_before →
    DrawsKeys (option_and_then (λ (keys : List (List ℕ) × Random).
    option_map (λ (draw : List ℕ × Random). (keys.0 ++ draw.0 ∷ [], draw.1)) (next_draw keys.1)) drawn_before)
one_key_more None none = absurd none
one_key_more (Some keys) endless = next_key keys.0 (next_draw keys.1) (drawn keys.1 endless)

keys_drawn : (n : ℕ) (r : Random) → IsKeyed r → DrawsKeys (drawn_keys n r)
unfolding drawn_keys
keys_drawn zero r endless = endless
keys_drawn (suc n) r endless = one_key_more (drawn_keys n r) (keys_drawn n r endless)

lacks_no_draw : (b : Bundle) (draw : Option (List (List ℕ) × Random)) (lack : Lack) → DrawsKeys draw →
    opened_by b draw ≡ Err lack → ⊥
unfolding opened_by started_memory started_ledger
lacks_no_draw b None lack none lacks = none
lacks_no_draw b (Some draw) lack endless lacks =
    let first = started_memory b.kernel (keys_for b.programs draw.0) draw.1 in
    lacks_no_page b (place_programs 0 b.programs first) lack (programs_placed 0 b.programs first endless) lacks

-- under the stream of a number no run lacks a key or the draw of a page
pub lacks_nothing : (b : Bundle) (n : ℕ) (lack : Lack) → opening b (numbered n) ≡ Err lack → ⊥
unfolding numbered
lacks_nothing b n lack lacks =
    let count = key_count b.programs in
    lacks_no_draw b (drawn_keys count (numbered n)) lack (keys_drawn count (numbered n) tt) lacks
