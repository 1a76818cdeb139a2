-- What was done to a page that was presented, and to the frames in which it was shown and presented: the events, in their
-- order, of the items of a record.
use Rattle.std.specs.Prelude.{ℕ, zero, suc, ◌-◌, ◌/◌, ◌^◌, ◌==◌, ◌&&◌, ◌||◌, min, Bool, true, false, List, [], ◌∷◌, ◌++◌, length, drop, slice_index, slice_get, Option, Some, None, bytes_eq, if◌then◌else◌}
use Rattle.std.specs.List.{fold}
use Rattle.cloak_base.specs.Pages.{same_page}
use Rattle.cloak_base.specs.Registers.{register}
use Rattle.cloak_model.specs.declared.image.Bundle.{Bundle}
use Rattle.cloak_model.specs.Items.{Item}
use Rattle.cloak_model.specs.Items as item
use Rattle.cloak_model.specs.Hart.{Hart}
use Rattle.cloak_model.specs.KernelAlone as model
use Rattle.cloak_model.specs.KernelAlone.{kernel_alone}
use Rattle.cloak_model.specs.Parts.{KernelPart}
use Rattle.replayed_run.specs.Leading.{disk_call, frame_for}
use Rattle.replayed_run.specs.Noted.{noted_in}
use Rattle.replayed_run.specs.PagesTold.{showing_told}
use Rattle.replayed_run.specs.declared.frames.DiskCall.{DiskCall}
use Rattle.replayed_run.specs.declared.pages.Showing.{Showing}
use Rattle.run_story.specs.Carrying.{Carrying, carrying_moved, carrying_shown, is_carried, none_carried}
use Rattle.run_story.specs.declared.deeds.FrameChange.{FrameChange}
use Rattle.run_story.specs.declared.deeds.PageDeed.{PageDeed}
use Rattle.run_story.specs.declared.deeds.PageDeed.TheVariants as deed
use Rattle.run_story.specs.declared.deeds.PageEvent.{PageEvent}
use Rattle.run_story.specs.declared.presented.Presented.{Presented}

abbrev pub event : ℕ → PageDeed → PageEvent
event step done = record { step = step; deed = done }

-- The frames of interest.

-- the one in which the page was last shown; if none is known, the one that was presented
abbrev pub frame_shown : ℕ → Option Showing → ℕ
frame_shown frame None = frame
frame_shown frame (Some showing) = showing.frame

abbrev pub shown_in : Presented → ℕ
shown_in p = frame_shown p.found.frame p.showing

abbrev pub is_of_interest : Presented → ℕ → Bool
is_of_interest p frame = (frame == p.found.frame) || (frame == shown_in p)

-- What a showing adds.

-- it is the last one of the page in question
abbrev pub is_last : Option Showing → Showing → Bool
is_last None showing = false
is_last (Some last) showing =
    same_page last.page showing.page && ((last.frame == showing.frame) && (last.step == showing.step))

-- it is of the page in question, or of another one in a frame of interest
abbrev pub shown_events : Presented → Showing → List PageEvent
shown_events p s =
    if same_page s.page p.found.page || is_of_interest p s.frame
    then event s.step (deed.Shown s.page s.frame) ∷ []
    else []

abbrev pub showing_events : Presented → Option Showing → List PageEvent
showing_events p None = []
showing_events p (Some s) =
    if is_last p.showing s then event s.step (deed.LastShown s) ∷ [] else shown_events p s

-- where the bytes that were found had last been shown
abbrev pub origin_after : Presented → Option Showing → Option Showing → Option Showing
origin_after p origin None = origin
origin_after p origin (Some s) = if bytes_eq s.digest p.digest then Some s else origin

-- What a step of the kernel adds.

-- the places below n at which two frames differ
unfoldable pub changed_places : List ℕ → List ℕ → ℕ → List ℕ
changed_places was now zero = []
changed_places was now (suc n) =
    changed_places was now n ++ (if slice_index was n == slice_index now n then [] else n ∷ [])

-- how they differ: at these places
abbrev pub change_at : List ℕ → List ℕ → List ℕ → Option FrameChange
change_at was now [] = None
change_at was now (place ∷ more) = Some (record {
  place = place;
  was = slice_index was place;
  now = slice_index now place;
  count = length (place ∷ more);
})

abbrev pub change_of : List ℕ → List ℕ → Option FrameChange
change_of was now = change_at was now (changed_places was now 4096)

abbrev pub change_between : Option (List ℕ) → Option (List ℕ) → Option FrameChange
change_between (Some was) (Some now) = change_of was now
change_between (Some was) None = None
change_between None now = None

-- how a frame differs from what it was
abbrev pub frame_change : List (List ℕ) → List (List ℕ) → ℕ → Option FrameChange
frame_change was now frame = change_between (slice_get was frame) (slice_get now frame)

-- A step changed a frame. One of a hart outside that makes a host call on the disk stores nothing else, and another one stores;
-- in one of a hart inside the context stores, at an address that is not cloaked.
abbrev pub change_events : ℕ → ℕ → Option ℕ → Option DiskCall → ℕ → Option FrameChange → List PageEvent
change_events step hart ctx (Some call) frame change = []
change_events step hart ctx None frame None = []
change_events step hart ctx None frame (Some change) = event step (deed.Stored hart ctx frame change) ∷ []

-- a host call that was done answers 0
abbrev pub done_by : Option DiskCall → Option Hart → Option DiskCall
done_by None now = None
done_by (Some call) None = None
done_by (Some call) (Some now) = if register now.regs 10 == 0 then Some call else None

-- a block was moved, to or from a frame of interest or a place that has bytes of the page
abbrev pub moving_events : Presented → Carrying → ℕ → ℕ → Option DiskCall → List PageEvent
moving_events p c step hart None = []
moving_events p c step hart (Some call) =
    if is_of_interest p call.frame || is_carried c call then event step (deed.Moved hart call) ∷ [] else []

-- the frame that was presented changed, if it is another one than that in which the page was last shown
abbrev pub presented_events : Presented → ℕ → ℕ → Option ℕ → Option DiskCall → List (List ℕ) → List (List ℕ) →
    List PageEvent
presented_events p step hart ctx call was now =
    if shown_in p == p.found.frame
    then []
    else change_events step hart ctx call p.found.frame (frame_change was now p.found.frame)

-- a third frame changed, into which bytes of the page were read
abbrev pub third_events : Option ℕ → ℕ → ℕ → Option ℕ → Option DiskCall → List (List ℕ) → List (List ℕ) →
    List PageEvent
third_events None step hart ctx call was now = []
third_events (Some frame) step hart ctx call was now = change_events step hart ctx call frame (frame_change was now frame)

-- where the address leads
abbrev pub leads_in : Presented → List (List ℕ) → Option ℕ
leads_in p ram = frame_for ram p.tables p.found.address p.found.kind

abbrev pub frame_eq : Option ℕ → Option ℕ → Bool
frame_eq None None = true
frame_eq (Some a) (Some b) = a == b
frame_eq None (Some b) = false
frame_eq (Some a) None = false

-- the address leads elsewhere
abbrev pub leading_events : Presented → ℕ → Option ℕ → Option ℕ → Option ℕ → List PageEvent
leading_events p step ctx from to =
    if frame_eq from to then [] else event step (deed.Leads ctx p.found.address from to) ∷ []

-- What this hart did in a step, by the kernel before and after it: by its own instruction, for which it made this call on the
-- disk; or by a store of this context, which it is inside.
abbrev pub step_events : Presented → Carrying → ℕ → ℕ → Option ℕ → Option DiskCall → KernelPart → KernelPart → List PageEvent
step_events p c step hart ctx call was now =
    moving_events p c step hart (done_by call (slice_get now.harts hart))
    ++ (change_events step hart ctx call (shown_in p) (frame_change was.ram now.ram (shown_in p))
    ++ (presented_events p step hart ctx call was.ram now.ram
    ++ (third_events c.third step hart ctx call was.ram now.ram
    ++ leading_events p step ctx (leads_in p was.ram) (leads_in p now.ram))))

abbrev pub hart_events : Presented → Carrying → ℕ → ℕ → Option Hart → KernelPart → KernelPart → List PageEvent
hart_events p c step hart None was now = []
hart_events p c step hart (Some h) was now = step_events p c step hart None (disk_call was.ram h) was now

-- a hart that is outside made its step
abbrev pub made_events : Presented → Carrying → ℕ → model.KernelStage → KernelPart → KernelPart → List PageEvent
made_events p c step (model.Outside hart) was now = hart_events p c step hart (slice_get was.harts hart) was now
made_events p c step model.Between was now = []
made_events p c step (model.Inside hart ctx) was now = []
made_events p c step model.Left was now = []

-- a context that runs stored where the kernel sees it
abbrev pub put_events : Presented → Carrying → ℕ → model.KernelStage → KernelPart → KernelPart → List PageEvent
put_events p c step (model.Inside hart ctx) was now = step_events p c step hart (Some ctx) None was now
put_events p c step model.Between was now = []
put_events p c step (model.Outside hart) was now = []
put_events p c step model.Left was now = []

-- What a step moves.

abbrev pub call_of : List (List ℕ) → Option Hart → Option DiskCall
call_of ram None = None
call_of ram (Some h) = disk_call ram h

-- a hart that is outside made its step
abbrev pub made_move : model.KernelStage → KernelPart → KernelPart → Option DiskCall
made_move (model.Outside hart) was now = done_by (call_of was.ram (slice_get was.harts hart)) (slice_get now.harts hart)
made_move model.Between was now = None
made_move (model.Inside hart ctx) was now = None
made_move model.Left was now = None

abbrev pub moved : Presented → Option DiskCall → Carrying → Carrying
moved p None c = c
moved p (Some call) c = carrying_moved (is_of_interest p call.frame) call c

-- What the items of a record add: a showing, a store of a program, and as a step begins what the one before it did.

abbrev pub item_events : Bundle → Presented → Carrying → List Item → Item → List PageEvent
item_events b p c items (item.Step number) =
    made_events p c (noted_in b items).notes.step (kernel_alone b.kernel items).stage (kernel_alone b.kernel items).kernel
    (kernel_alone b.kernel (items ++ item.Step number ∷ [])).kernel
item_events b p c items (item.Put address width value) =
    put_events p c (noted_in b items).notes.step (kernel_alone b.kernel items).stage (kernel_alone b.kernel items).kernel
    (kernel_alone b.kernel (items ++ item.Put address width value ∷ [])).kernel
item_events b p c items i = showing_events p (showing_told b items i)

-- Where bytes of the page are after an item, by what it shows and what the step moved that it ends.

abbrev pub is_shown : Presented → Option Showing → Bool
is_shown p None = false
is_shown p (Some s) = same_page s.page p.found.page

abbrev pub carrying_after : Presented → Item → Option Showing → Option DiskCall → Carrying → Carrying
carrying_after p (item.Cipher frame bytes) showing move c = carrying_shown frame (is_shown p showing) c
carrying_after p (item.Step number) showing move c = moved p move c
carrying_after p _ showing move c = c

-- after these items, of which this is the last
abbrev pub carrying_next : Bundle → Presented → Carrying → List Item → Item → Carrying
carrying_next b p c items i =
    carrying_after p i (showing_told b items i)
    (made_move (kernel_alone b.kernel items).stage (kernel_alone b.kernel items).kernel
    (kernel_alone b.kernel (items ++ i ∷ [])).kernel) c

-- The items so far, all that was done, where the bytes that were found had last been shown, and where bytes of the page are.
pub record Done : Type 0 where
  pub items : List Item
  pub events : List PageEvent
  pub origin : Option Showing
  pub carrying : Carrying

abbrev pub nothing_done : Bundle → Done
nothing_done b = record {
  items = [];
  events = [];
  origin = None;
  carrying = none_carried b.kernel.frames (length b.kernel.disk / 4096);
}

unfoldable pub done_more : Bundle → Presented → Done → Item → Done
done_more b p d i = record {
  items = d.items ++ i ∷ [];
  events = d.events ++ item_events b p d.carrying d.items i;
  origin = origin_after p d.origin (showing_told b d.items i);
  carrying = carrying_next b p d.carrying d.items i;
}

-- what these items do
abbrev pub done_in : Bundle → Presented → List Item → Done
done_in b p items = fold (done_more b p) (nothing_done b) items

-- The last sixteen are told, and how many there were before.

abbrev pub last_events : List PageEvent → List PageEvent
last_events all = drop (length all - 16) all

abbrev pub left_out : List PageEvent → ℕ
left_out all = min (length all - 16) (2 ^ 64 - 1)
