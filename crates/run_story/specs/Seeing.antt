-- How it is seen what a step of the kernel did: two frames and a way through the page tables, before it and after it.
use Rattle.std.specs.Prelude.{ℕ, ◌≡◌, ◌+◌, ◌-◌, ◌^◌, ◌==◌, min, false, List, [], length, drop, slice_get, Option, Some, None, if◌then◌else◌}
use Rattle.cloak_model.specs.declared.image.Bundle.{Bundle}
use Rattle.cloak_model.specs.Items.{Item}
use Rattle.cloak_model.specs.Items as item
use Rattle.cloak_model.specs.KernelAlone.{kernel_alone}
use Rattle.cloak_model.specs.Parts.{KernelPart}
use Rattle.replayed_run.specs.Noted.{noted_in}
use Rattle.replayed_run.specs.declared.frames.DiskCall.{DiskCall}
use Rattle.run_story.specs.Carrying.{Carrying, carrying_of}
use Rattle.run_story.specs.Deeds.{done_by, leads_in, made_events, made_move, put_events, shown_in, step_events}
use Rattle.run_story.specs.declared.deeds.Deeds.{Deeds}
use Rattle.run_story.specs.declared.deeds.FrameChange.{FrameChange}
use Rattle.run_story.specs.declared.deeds.PageEvent.{PageEvent}
use Rattle.run_story.specs.declared.deeds.SeenFrame.{SeenFrame}
use Rattle.run_story.specs.declared.deeds.StepAhead.{StepAhead}
use Rattle.run_story.specs.declared.presented.Presented.{Presented}

-- one place more at which two frames differ
abbrev pub change_more : Option FrameChange → ℕ → ℕ → ℕ → FrameChange
change_more None place was now = record { place = place; was = was; now = now; count = 1 }
change_more (Some first) place was now = record first { count = first.count + 1 }

-- what a frame had, if there was such a frame
abbrev pub seen_bytes : SeenFrame → Option (List ℕ)
seen_bytes seen = if seen.is_there then Some seen.bytes else None

-- The frames of which changes are told were seen, of these frames.
pub record SeesFrames (ram : List (List ℕ)) (d : Deeds) : Type 0 where
  pub shown : seen_bytes d.shown_in ≡ slice_get ram (shown_in d.target)
  pub presented : (shown_in d.target == d.target.found.frame) ≡ false →
      seen_bytes d.presented_in ≡ slice_get ram d.target.found.frame
  pub third : (frame : ℕ) → d.carriers.third ≡ Some frame → seen_bytes d.third_in ≡ slice_get ram frame

-- and where the address leads
pub record SeesStep (ram : List (List ℕ)) (d : Deeds) (ahead : StepAhead) : Type 0 where
  pub frames : SeesFrames ram d
  pub leads : ahead.leads ≡ leads_in d.target ram

-- What is ahead: the step of a hart outside, or a store of a context.

abbrev pub SeesAhead : List (List ℕ) → Deeds → Option StepAhead → Type 0
SeesAhead ram d None = Unit {0}
SeesAhead ram d (Some ahead) = SeesStep ram d ahead

-- what it does, by the kernel before it and after it
abbrev pub ahead_events : Presented → Carrying → Option StepAhead → KernelPart → KernelPart → List PageEvent
ahead_events p c None was now = []
ahead_events p c (Some ahead) was now = step_events p c ahead.step ahead.hart ahead.ctx ahead.call was now

-- and what it moves
abbrev pub ahead_move : Option StepAhead → KernelPart → Option DiskCall
ahead_move None now = None
ahead_move (Some ahead) now = done_by ahead.call (slice_get now.harts ahead.hart)

-- What is ahead does this, moves that, and is seen.
pub record StandsAhead (does : KernelPart → List PageEvent) (moves : KernelPart → Option DiskCall) (was : KernelPart)
    (d : Deeds) (ahead : Option StepAhead) : Type 0 where
  pub sees : SeesAhead was.ram d ahead
  pub events : (now : KernelPart) → ahead_events d.target (carrying_of d.carriers) ahead was now ≡ does now
  pub move : (now : KernelPart) → ahead_move ahead now ≡ moves now

-- what an item does after these items, or the step that it ends, by the kernel after it
abbrev pub ended_events : Bundle → Presented → Carrying → List Item → Item → KernelPart → List PageEvent
ended_events b p c items (item.Step number) now =
    made_events p c (noted_in b items).notes.step (kernel_alone b.kernel items).stage
    (kernel_alone b.kernel items).kernel now
ended_events b p c items (item.Put address width value) now =
    put_events p c (noted_in b items).notes.step (kernel_alone b.kernel items).stage
    (kernel_alone b.kernel items).kernel now
ended_events b p c items _ now = []

-- and what it moves
abbrev pub ended_move : Bundle → List Item → Item → KernelPart → Option DiskCall
ended_move b items (item.Step number) now =
    made_move (kernel_alone b.kernel items).stage (kernel_alone b.kernel items).kernel now
ended_move b items _ now = None

-- What stays.

-- all but the frames that were seen
pub record KeepsDeeds (old new : Deeds) : Type 0 where
  pub target : new.target ≡ old.target
  pub events : new.events.items ≡ old.events.items
  pub left_out : new.left_out ≡ old.left_out
  pub origin : new.origin ≡ old.origin
  pub carriers : new.carriers ≡ old.carriers

-- the page in question, where bytes of it are, and the frames that were seen
pub record KeepsTarget (old new : Deeds) : Type 0 where
  pub target : new.target ≡ old.target
  pub shown_in : new.shown_in ≡ old.shown_in
  pub presented_in : new.presented_in ≡ old.presented_in
  pub third_in : new.third_in ≡ old.third_in
  pub carriers : new.carriers ≡ old.carriers

-- There is room for one event more after these.
pub record HasRoom (all : List PageEvent) (d : Deeds) : Type 0 where
  pub events : d.events.items ≡ drop (length all - 15) all
  pub left_out : d.left_out ≡ min (length all - 15) (2 ^ 64 - 1)
