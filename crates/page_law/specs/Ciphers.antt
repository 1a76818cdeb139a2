-- What the kernel is shown of pages: each Cipher of a run shows the newest bytes of a page, under its program's key and
-- a draw of its own, or zeros if the random stream has ended.
use Rattle.std.specs.Prelude.{ℕ, zero, suc, ◌≡◌, ◌≤◌, ◌+◌, ◌-◌, List, [], ◌∷◌, length, take, slice_get, slice_index_or, Option, Some, None, option_map, option_and_then, Ok, if◌then◌else◌}
use Rattle.cloak_base.specs.Random.{Random, next_draw}
use Rattle.cloak_base.specs.Pages.{zero_page}
use Rattle.cloak_base.specs.declared.names.PageId.{PageId}
use Rattle.cloak_model.specs.declared.image.Bundle.{Bundle}
use Rattle.cloak_model.specs.declared.image.Program.{Program}
use Rattle.cloak_model.specs.Items.{Item}
use Rattle.cloak_model.specs.Items.{Cipher}
use Rattle.cloak_model.specs.Beginning.{Beginning, Fresh, Stored}
use Rattle.cloak_model.specs.Bundle.{IsInGrammar}
use Rattle.cloak_model.specs.Chain.{cbc}
use Rattle.cloak_model.specs.Joint.{Turn}
use Rattle.cloak_model.specs.Opening.{is_placed, key_count}
use Rattle.cloak_model.specs.Run.{Run, run_from}
use Rattle.kernel_isolation.specs.Isolation.{joint_until}

-- The draws of a stream are numbered from 0.

-- a draw with the stream after it: none if fewer than 16 bytes are left there
abbrev pub numbered_draw : ℕ → Random → Option (List ℕ × Random)
numbered_draw zero stream = next_draw stream
numbered_draw (suc n) stream = option_and_then (λ (d : List ℕ × Random). next_draw d.1) (numbered_draw n stream)

abbrev pub draw_at : ℕ → Random → Option (List ℕ)
draw_at n stream = option_map (λ (d : List ℕ × Random). d.0) (numbered_draw n stream)

-- The draws and the keys of a run, by how it begins.

-- the random stream
abbrev pub stream_of : Beginning → Random
stream_of (Fresh stream) = stream
stream_of (Stored keys stream files) = stream

-- how many draws were made for the keys of these programs: none if the keys are handed in
abbrev pub keys_drawn : List Program → Beginning → ℕ
keys_drawn programs (Fresh stream) = key_count programs
keys_drawn programs (Stored keys stream files) = 0

-- the key of this number: the draw that has it, or the key at that place of those that are handed in
abbrev pub numbered_key : ℕ → Beginning → Option (List ℕ)
numbered_key n (Fresh stream) = draw_at n stream
numbered_key n (Stored keys stream files) = Some (slice_index_or keys n [])

-- What a frame shows of a page with these bytes: under a draw its ciphertext, and if there is no such draw zeros.
abbrev pub shown_under : List ℕ → Option (List ℕ) → List ℕ → List ℕ
shown_under key None bytes = zero_page
shown_under key (Some draw) bytes = cbc key draw bytes

-- These bytes show a page of one of these programs, with these newest bytes, under the draw of this number and the key
-- that has the number of its program's key.
pub record ShowsPage (programs : List Program) (from : Beginning) (plain : PageId → List ℕ) (n : ℕ) (shown : List ℕ) :
    Type 0 where
  pub page : PageId
  pub program : Program
  pub is_of : slice_get programs page.domain ≡ Some program
  pub key : List ℕ
  pub is_key : numbered_key program.key from ≡ Some key
  pub same : shown ≡ shown_under key (draw_at n (stream_of from)) (plain page)

-- Items are counted by their Ciphers.

abbrev pub cipher_count : Item → ℕ
cipher_count (Cipher frame bytes) = 1
cipher_count _ = 0

abbrev pub ciphers_in : List Item → ℕ
ciphers_in [] = 0
ciphers_in (i ∷ items) = cipher_count i + ciphers_in items

-- Each Cipher of these items shows a page of these programs, with these newest bytes: the first under the draw of this
-- number, and each later one under the next.
abbrev pub ShowPages : List Program → Beginning → (PageId → List ℕ) → ℕ → List Item → Type 0
ShowPages programs from plain n items =
    (at frame : ℕ) (bytes : List ℕ) → slice_get items at ≡ Some (Cipher frame bytes) →
    ShowsPage programs from plain (n + ciphers_in (take at items)) bytes

-- A run.

-- how many pages programs begin with
abbrev pub pages_of_programs : List Program → ℕ
pages_of_programs [] = 0
pages_of_programs (p ∷ programs) = p.start.pages + pages_of_programs programs

-- how many Ciphers steps wrote
abbrev pub ciphers_of_steps : List Turn → ℕ
ciphers_of_steps [] = 0
ciphers_of_steps (t ∷ turns) = ciphers_in t.items + ciphers_of_steps turns

-- the number of the next draw after the opening and the first n steps: the first were those for the keys, then there was
-- one for each page that was placed, and one for each Cipher of a step
abbrev pub draws_before : Bundle → Beginning → Run → ℕ → ℕ
draws_before b from r n =
    keys_drawn b.programs from + (pages_of_programs b.programs + ciphers_of_steps (take n r.turns))

-- the number of the draw under which the page in a frame was placed: the pages of these programs are placed one after
-- another, the first under this draw, and what is placed later in one frame stays
abbrev pub placing_draw : ℕ → List Program → ℕ → ℕ
placing_draw n [] f = n
placing_draw n (p ∷ programs) f =
    if is_placed programs f then placing_draw (n + p.start.pages) programs f else n + (f - p.place)

-- Where an item stands: after this many items of the opening, of the step after this many steps, or of the closing.
pub data ItemPlace : Type 0 where
  InOpening : ℕ → ItemPlace
  InStep : ℕ → ℕ → ItemPlace
  InClosing : ℕ → ItemPlace

-- what a step wrote, if there is one
abbrev pub items_of_turn : Option Turn → List Item
items_of_turn None = []
items_of_turn (Some t) = t.items

-- the item at a place of a run
abbrev pub item_at : Run → ItemPlace → Option Item
item_at r (InOpening at) = slice_get r.opened.items at
item_at r (InStep n at) = slice_get (items_of_turn (slice_get r.turns n)) at
item_at r (InClosing at) = slice_get r.closed.items at

-- the newest bytes of each page as the opening, a step or the closing found them
abbrev pub plain_at : Run → ItemPlace → PageId → List ℕ
plain_at r (InOpening at) = r.opened.joint.memory.plain
plain_at r (InStep n at) = (joint_until n r).memory.plain
plain_at r (InClosing at) = (joint_until (length r.turns) r).memory.plain

-- The draw of a Cipher of this frame: that of the placing, and later the next one that was not made.
abbrev pub draw_number : Bundle → Beginning → Run → ItemPlace → ℕ → ℕ
draw_number b from r (InOpening at) frame = placing_draw (keys_drawn b.programs from) b.programs frame
draw_number b from r (InStep n at) frame =
    draws_before b from r n + ciphers_in (take at (items_of_turn (slice_get r.turns n)))
draw_number b from r (InClosing at) frame =
    draws_before b from r (length r.turns) + ciphers_in (take at r.closed.items)

-- The laws.

-- Each Cipher of a run shows a page of a program, with the newest bytes that it had then, under the program's key and
-- its own draw.
abbrev pub ShowsPages : Bundle → Beginning → Run → Type 0
ShowsPages b from r =
    (place : ItemPlace) (frame : ℕ) (bytes : List ℕ) → item_at r place ≡ Some (Cipher frame bytes) →
    ShowsPage b.programs from (plain_at r place) (draw_number b from r place frame) bytes

-- It is the law of the run of an image in the grammar, however it begins.
abbrev pub CiphersShowPages : Type 0
CiphersShowPages =
    (b : Bundle) (from : Beginning) (budget : ℕ) (r : Run) → IsInGrammar b → run_from b from budget ≡ Ok r →
    ShowsPages b from r

-- Two Ciphers of a run under one draw are one Cipher, and none is under a draw that is a key.
pub record HaveOwnDraws (b : Bundle) (from : Beginning) (r : Run) : Type 0 where
  pub not_key : (place : ItemPlace) (frame : ℕ) (bytes : List ℕ) → item_at r place ≡ Some (Cipher frame bytes) →
      keys_drawn b.programs from ≤ draw_number b from r place frame
  pub apart : (place place' : ItemPlace) (frame frame' : ℕ) (bytes bytes' : List ℕ) →
      item_at r place ≡ Some (Cipher frame bytes) → item_at r place' ≡ Some (Cipher frame' bytes') →
      draw_number b from r place frame ≡ draw_number b from r place' frame' → place ≡ place'

abbrev pub CiphersHaveOwnDraws : Type 0
CiphersHaveOwnDraws =
    (b : Bundle) (from : Beginning) (budget : ℕ) (r : Run) → run_from b from budget ≡ Ok r → HaveOwnDraws b from r
