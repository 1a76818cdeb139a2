-- What is noted of a run: what each call makes of it.
use Rattle.std.specs.Prelude.{ℕ, ◌≡◌, ◌+◌, ◌*◌, ◌==◌, Bool, true, false, min, List, map, slice_set, slice_index_or, Option, Some, None, if◌then◌else◌}
use Rattle.std.specs.List.{list_all}
use Rattle.cloak_base.specs.declared.names.PageId.{PageId}
use Rattle.cloak_base.specs.declared.causes.Shown.{Shown}
use Rattle.run_notes.specs.Marking as marking
use Rattle.run_notes.specs.Marking.{MarksNow, mark_of, marks_now}
use Rattle.run_notes.specs.Moving as moving
use Rattle.run_notes.specs.Moving.{MovesNow, moves_now}
use Rattle.run_notes.specs.Rowing.{RowsNow, marked_at, put_at, rows_now, set_at, sight_at}
use Rattle.run_notes.specs.Sights.{bare, cipher, held, is_whole_cipher, stored}
use Rattle.run_notes.specs.declared.look.CipherId.{CipherId}
use Rattle.run_notes.specs.declared.look.Look.{Look}
use Rattle.run_notes.specs.declared.look.Look.TheVariants as look
use Rattle.run_notes.specs.declared.look.Sight.{Sight}
use Rattle.run_notes.specs.declared.marks.Mark.{Mark}
use Rattle.run_notes.specs.declared.marks.MarkKind.TheVariants as kind
use Rattle.run_notes.specs.declared.notes.HartRow.{HartRow}
use Rattle.run_notes.specs.declared.moves.Move.{Move}
use Rattle.run_notes.specs.declared.notes.Notes.{Notes}
use Rattle.run_notes.specs.declared.notes.PageNow.{PageNow}
use Rattle.run_notes.specs.declared.plan.Weight.{Weight}

-- What is noted, but for bars and turns, and for what the console and the run's end are.
pub record NotesNow : Type 0 where
  pub step : ℕ
  pub frames : RowsNow
  pub blocks : RowsNow
  pub harts : List MarksNow
  pub frame_weights : List Weight
  pub block_weights : List Weight
  pub pages : List PageNow
  pub moves : MovesNow
  pub ended : List (Option ℕ)

abbrev pub hart_marks : HartRow → MarksNow
hart_marks h = marks_now h.marks

abbrev pub notes_now : Notes → NotesNow
notes_now n = record {
  step = n.step;
  frames = rows_now n.frames;
  blocks = rows_now n.blocks;
  harts = map hart_marks n.harts.items;
  frame_weights = n.frame_weights.items;
  block_weights = n.block_weights.items;
  pages = n.pages.items;
  moves = moves_now n.moves;
  ended = n.ended;
}

-- Weights.

abbrev pub no_weight : Weight
no_weight = record { marks = 0; is_shown = false }

abbrev pub weight_at : List Weight → ℕ → Weight
weight_at weights at = slice_index_or weights at no_weight

-- one mark more
abbrev pub heavier_at : List Weight → ℕ → List Weight
heavier_at weights at =
    let w = weight_at weights at in slice_set weights at (record w { marks = min (w.marks + 1) 4294967295 })

-- it has a row
abbrev pub shown_at : List Weight → ℕ → List Weight
shown_at weights at = slice_set weights at (record (weight_at weights at) { is_shown = true })

-- no one is heavier
abbrev pub heaviest_at : List Weight → ℕ → List Weight
heaviest_at weights at = slice_set weights at (record (weight_at weights at) { marks = 4294967295 })

-- Frames and harts.

abbrev pub with_frame : ℕ → Sight → NotesNow → NotesNow
with_frame frame s n = record n { frames = set_at n.frames frame s }

abbrev pub with_frame_mark : ℕ → Mark → NotesNow → NotesNow
with_frame_mark frame mark n =
    record n { frames = marked_at n.frames frame mark; frame_weights = heavier_at n.frame_weights frame }

abbrev pub with_frame_shown : ℕ → NotesNow → NotesNow
with_frame_shown frame n = record n { frame_weights = shown_at n.frame_weights frame }

abbrev pub with_hart_mark : ℕ → Mark → NotesNow → NotesNow
with_hart_mark hart mark n =
    record n { harts = slice_set n.harts hart (marking.added (slice_index_or n.harts hart marking.none_now) mark) }

-- Pages.

abbrev pub no_page : PageNow
no_page = record { shown = 0; frame = 0; takes = None; found = None }

-- where a page stands among all: 4 programs, of each 16 resources, of each 1,024 pages
abbrev pub page_place : PageId → ℕ
page_place q = (q.domain * 16 + q.resource) * 1024 + q.page

abbrev pub page_at : NotesNow → PageId → PageNow
page_at n q = slice_index_or n.pages (page_place q) no_page

abbrev pub with_page : PageId → PageNow → NotesNow → NotesNow
with_page q now n = record n { pages = slice_set n.pages (page_place q) now }

-- The kernel reaches a frame: a page that is in use there as it was shown is ciphertext again.

abbrev pub touched_by : Look → Option PageId → ℕ → NotesNow → NotesNow
touched_by look.Used (Some page) frame n = with_frame frame (cipher (page_at n page).takes) n
touched_by _ page frame n = n

abbrev pub touched : ℕ → NotesNow → NotesNow
touched frame n = let s = sight_at n.frames frame in touched_by s.look s.page frame n

-- Something is stored into a frame where the kernel sees it.

abbrev pub with_store : ℕ → NotesNow → NotesNow
with_store frame n =
    let t = touched frame n in with_frame frame (stored (sight_at t.frames frame)) t

-- there is ciphertext as it was made, so the store changes it
abbrev pub is_attacked : ℕ → NotesNow → Bool
is_attacked frame n = is_whole_cipher (sight_at (touched frame n).frames frame).look

-- The kernel stores: this is marked, if it changes ciphertext.
abbrev pub with_kernel_store : ℕ → NotesNow → NotesNow
with_kernel_store frame n =
    if is_attacked frame n then with_frame_mark frame (mark_of kind.Altered n.step) (with_store frame n) else
    with_store frame n

-- A program stores in the open: this is marked, with the program, and the frame has a row.
abbrev pub with_program_store : ℕ → ℕ → NotesNow → NotesNow
with_program_store frame domain n =
    let s = with_frame_shown frame (with_store frame n) in
    with_frame_mark frame (record (mark_of kind.Put n.step) { number = domain })
    (record s { frames = put_at s.frames frame })

-- A page was presented in a frame that is not the one recorded: this is marked there, and no frame is heavier.
abbrev pub with_stopped : ℕ → PageId → NotesNow → NotesNow
with_stopped frame page n =
    let m = with_frame_mark frame (record (mark_of kind.Stopped n.step) { page = Some page }) (with_frame_shown frame n) in
    record m { frame_weights = heaviest_at m.frame_weights frame }

-- A context left: this is marked at its hart, with what was shown.
abbrev pub with_left : ℕ → Shown → NotesNow → NotesNow
with_left hart s n =
    with_hart_mark hart (record (mark_of kind.Left n.step) { number = s.number; cause = s.cause }) n

-- The kernel is shown bytes in a frame, which has a row. They are zeros, or the next ciphertext of the page that is in use there,
-- if it is known; this is marked.

abbrev pub is_wiped : List ℕ → Bool
is_wiped bytes = list_all (λ byte. byte == 0) bytes

abbrev pub next_number : PageNow → ℕ
next_number now = min (now.shown + 1) 4294967295

abbrev pub with_shown_page : PageId → ℕ → ℕ → NotesNow → NotesNow
with_shown_page q number frame n =
    let id : CipherId = record { page = q; number = number } in
    with_frame_mark frame (record (mark_of kind.Shown n.step) { page = Some q; number = number })
    (with_frame frame (cipher (Some id))
    (with_page q (record (page_at n q) { shown = number; frame = frame; takes = Some id }) n))

abbrev pub with_shown_as : Bool → Option PageId → ℕ → NotesNow → NotesNow
with_shown_as true page frame n =
    with_frame_mark frame (mark_of kind.Shown n.step) (with_frame frame (bare look.Zeros) n)
with_shown_as false None frame n =
    with_frame_mark frame (mark_of kind.Shown n.step) (with_frame frame (bare look.Cipher) n)
with_shown_as false (Some q) frame n = with_shown_page q (next_number (page_at n q)) frame n

abbrev pub with_shown : ℕ → List ℕ → NotesNow → NotesNow
with_shown frame bytes n =
    with_shown_as (is_wiped bytes) (held (sight_at n.frames frame)) frame (with_frame_shown frame n)

-- A frame goes to a block of the disk, or a block comes into a frame. The first 24 moves are kept.

abbrev pub moved : ℕ → ℕ → Bool → NotesNow → NotesNow
moved frame block true n = with_frame_mark frame (record (mark_of kind.Written n.step) { number = block })
    (record n { blocks = set_at n.blocks block (sight_at n.frames frame) })
moved frame block false n = with_frame_mark frame (record (mark_of kind.Read n.step) { number = block })
    (with_frame frame (sight_at n.blocks block) n)

abbrev pub with_kept_move : Move → NotesNow → NotesNow
with_kept_move m n = record n {
  block_weights = shown_at (heavier_at n.block_weights m.block) m.block;
  moves = moving.added n.moves m;
}

abbrev pub with_move : ℕ → ℕ → Bool → NotesNow → NotesNow
with_move frame block is_write n =
    with_kept_move (record { step = n.step; frame = frame; block = block; is_write = is_write })
    (moved frame block is_write (touched frame n))

-- A program ended by a violation: its step is known, and this is marked at the hart.
pub record EndsProgram (hart domain : ℕ) (before after : NotesNow) : Type 0 where
  pub ended : after.ended ≡ slice_set before.ended domain (Some before.step)
  pub mark : after.harts ≡ (with_hart_mark hart (record (mark_of kind.Stopped before.step) { number = domain }) before).harts

-- A program is gone: no hart has another mark, and no other program ended.
pub record LosesProgram (before after : NotesNow) : Type 0 where
  pub step : after.step ≡ before.step
  pub ended : after.ended ≡ before.ended
  pub harts : after.harts ≡ before.harts
