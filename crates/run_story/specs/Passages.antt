-- The sentences of a story.
use Rattle.std.specs.Prelude.{ℕ, ◌≡◌, ◌/◌, ◌==◌, ◌++◌, length, Bool, true, false, List, [], ◌∷◌, codes, decimal, Option, Some, None, IfSome, string_bytes, if◌then◌else◌}
use Rattle.std.specs.List.{flat_map}
use Rattle.hex.specs.Hex.{encode_lower}
use Rattle.cloak_model.specs.Report.{hexadecimal}
use Rattle.cloak_base.specs.declared.names.Kind.{Kind}
use Rattle.cloak_base.specs.declared.names.Kind.TheVariants as kind
use Rattle.cloak_base.specs.declared.names.PageId.{PageId}
use Rattle.cloak_model.specs.declared.image.Bundle.{Bundle}
use Rattle.cloak_model.specs.Items.{Item}
use Rattle.record_reader.specs.Ahead.{readable}
use Rattle.read_back.specs.Reading.{BeginsWith}
use Rattle.replayed_run.specs.Noted.{lacks_draw}
use Rattle.replayed_run.specs.declared.contexts.FirstTable.{FirstTable}
use Rattle.replayed_run.specs.declared.contexts.ToldContext.{ToldContext}
use Rattle.replayed_run.specs.declared.frames.DiskCall.{DiskCall}
use Rattle.replayed_run.specs.declared.frames.PresentedPage.{PresentedPage}
use Rattle.replayed_run.specs.declared.notes.Asking.{Asking}
use Rattle.replayed_run.specs.declared.notes.Notes.{Notes}
use Rattle.replayed_run.specs.declared.pages.Showing.{Showing}
use Rattle.run_story.specs.Deeds.{Done, done_in, last_events, left_out}
use Rattle.run_story.specs.Told.{ByPage, ByQuestion, ByResume, OfNone, Violation}
use Rattle.run_story.specs.declared.deeds.FrameChange.{FrameChange}
use Rattle.run_story.specs.declared.deeds.PageDeed.{PageDeed}
use Rattle.run_story.specs.declared.deeds.PageDeed.TheVariants as deed
use Rattle.run_story.specs.declared.deeds.PageEvent.{PageEvent}
use Rattle.run_story.specs.declared.presented.AskedResume.{AskedResume}
use Rattle.run_story.specs.declared.presented.Presented.{Presented}
use Rattle.run_story.specs.declared.presented.Refused.{Refused}
use Rattle.run_story.specs.declared.presented.Refused.TheVariants as refused
use Rattle.run_story.specs.declared.telling.Passage.{Passage}
use Rattle.run_story.specs.declared.telling.Passage.TheVariants as passage

-- a hart asked to resume a context
abbrev pub asking_text : ℕ → ℕ → ℕ → List ℕ
asking_text step hart ctx =
    (codes "A violation at step " ++ decimal step ++ codes ": the kernel, on hart " ++ decimal hart ++ codes ", ")
    ++ (codes "asked to resume context " ++ decimal ctx ++ codes ".\n")

-- so its program ended
abbrev pub end_text : ℕ → List ℕ
end_text ctx = codes "So program " ++ decimal (ctx / 8) ++ codes " ended.\n"

-- Why a context was not resumed.

abbrev pub resumed_text : Option ToldContext → List ℕ
resumed_text (Some told) = codes ", where it was resumed at step " ++ decimal told.resumed ++ codes ".\n"
resumed_text None = codes ".\n"

abbrev pub ended_text : Option ℕ → List ℕ
ended_text (Some step) = codes "it ended at step " ++ decimal step ++ codes ".\n"
ended_text None = codes "the record has no such context.\n"

abbrev pub gone_text : Option ToldContext → List ℕ
gone_text (Some told) = ended_text told.ended
gone_text None = ended_text None

abbrev pub mapping_text : ℕ → FirstTable → List ℕ
mapping_text satp first =
    codes "The page table of the hart is "
    ++ (hexadecimal satp
    ++ (codes " (satp), and the context's space was first resumed under "
    ++ (hexadecimal first.satp ++ (codes ", at step " ++ decimal first.step ++ codes ".\n"))))

abbrev pub context_rule : List ℕ
context_rule = codes "The rule: a context that is resumed is there, and runs on no hart.\n"

-- and the rule that asking for it broke
abbrev pub why_text : ℕ → Refused → List ℕ
why_text satp (refused.Running on told) =
    (codes "The context runs on hart " ++ decimal on.0) ++ (resumed_text told ++ context_rule)
why_text satp (refused.Gone told) =
    codes "The context is not there: " ++ (gone_text told ++ context_rule)
why_text satp (refused.Mapping first) =
    mapping_text satp first
    ++ codes "The rule: each space of a program is resumed under one page table, the first one.\n"

abbrev pub resume_text : AskedResume → Refused → List ℕ
resume_text asking why =
    asking_text asking.step asking.hart asking.ctx ++ (why_text asking.satp why ++ end_text asking.ctx)

-- Why no program was left to end.
abbrev pub left_text : ℕ → Option ℕ → List ℕ
left_text ctx None = codes "there is no program " ++ decimal (ctx / 8) ++ codes ".\n"
left_text ctx (Some step) =
    codes "program " ++ decimal (ctx / 8) ++ codes " ended at step " ++ decimal step ++ codes ".\n"

abbrev pub none_text : ℕ → Asking → Option ℕ → List ℕ
none_text step asked ended =
    asking_text step asked.hart asked.ctx ++ (codes "The resume was refused: " ++ left_text asked.ctx ended)

-- A page of which no more is told.
abbrev pub question_text : ℕ → ℕ → List ℕ
question_text step ctx =
    (codes "A violation at step " ++ decimal step ++ codes ": what the kernel presented for a page of program "
    ++ decimal (ctx / 8) ++ codes " ")
    ++ (codes "is not what was last shown of that page.\n" ++ end_text ctx)

-- A page of which more is known: the access that was stopped, what was done before, and what was found.

abbrev pub access_name : Kind → List ℕ
access_name kind.Fetch = codes "fetched an instruction"
access_name kind.Load = codes "loaded"
access_name kind.Store = codes "stored"

abbrev pub page_name : PageId → List ℕ
page_name q =
    codes "page " ++ decimal q.page ++ codes " of resource " ++ decimal q.resource ++ codes " of program "
    ++ decimal q.domain

-- the access that was stopped, and the frame to which it led
abbrev pub access_text : PresentedPage → List ℕ
access_text p =
    access_name p.kind
    ++ (codes " at "
    ++ (hexadecimal p.address
    ++ (codes ", which is "
    ++ (page_name p.page ++ (codes ".\nThe kernel's page table leads there to frame " ++ decimal p.frame)))))

-- the step of a context
abbrev pub running_text : ℕ → ℕ → ℕ → List ℕ
running_text step hart ctx =
    codes "A violation at step " ++ decimal step ++ codes ": context " ++ decimal ctx ++ codes ", on hart "
    ++ decimal hart ++ codes ", "

-- of which page the frame should have had the bytes
abbrev pub whose_page : Option Showing → List ℕ
whose_page (Some showing) = codes "the page.\n"
whose_page None = codes "the page, or of the page from which a fork copied it, up to that fork.\n"

abbrev pub whose_text : Option Showing → List ℕ
whose_text showing = codes ", and what that frame has is not what was last shown of " ++ whose_page showing

-- What was done.

-- a byte in two hexadecimal digits
abbrev pub byte_text : ℕ → List ℕ
byte_text n = encode_lower (n ∷ [])

abbrev pub step_name : ℕ → List ℕ
step_name n = if n == 0 then codes "opening" else codes "step " ++ decimal n

abbrev pub frame_name : Option ℕ → List ℕ
frame_name (Some frame) = codes "frame " ++ decimal frame
frame_name None = codes "no frame"

-- a host call on the disk
abbrev pub call_name : DiskCall → List ℕ
call_name c =
    if c.is_write
    then codes "wrote frame " ++ decimal c.frame ++ codes " to block " ++ decimal c.block
    else codes "read block " ++ decimal c.block ++ codes " into frame " ++ decimal c.frame

-- the first byte that a store changed, and how many
abbrev pub first_changed : FrameChange → List ℕ
first_changed c =
    codes "byte " ++ decimal c.place ++ codes " was " ++ byte_text c.was ++ codes " and became " ++ byte_text c.now

abbrev pub change_text : FrameChange → List ℕ
change_text c =
    if c.count == 1
    then first_changed c
    else first_changed c ++ (codes ", and so on, " ++ decimal c.count ++ codes " bytes in all")

-- a store of the kernel, or of a context where the kernel sees it
abbrev pub stored_text : ℕ → Option ℕ → ℕ → FrameChange → List ℕ
stored_text hart None frame change =
    codes "the kernel, on hart " ++ decimal hart ++ codes ", stored to frame " ++ decimal frame ++ codes ": "
    ++ change_text change
stored_text hart (Some ctx) frame change =
    codes "context " ++ decimal ctx ++ codes ", on hart " ++ decimal hart ++ codes ", stored in the open to frame "
    ++ decimal frame ++ codes ": " ++ change_text change

abbrev pub table_changed : Option ℕ → List ℕ
table_changed None = codes "the kernel changed its page table: "
table_changed (Some ctx) = codes "context " ++ decimal ctx ++ codes " changed the kernel's page table: "

abbrev pub deed_text : PageDeed → List ℕ
deed_text (deed.LastShown showing) =
    (page_name showing.page ++ codes " was last shown, in frame " ++ decimal showing.frame ++ codes ", ")
    ++ (codes "as ciphertext with the digest " ++ encode_lower showing.digest)
deed_text (deed.Shown page frame) = page_name page ++ codes " was shown, in frame " ++ decimal frame
deed_text (deed.Moved hart call) = codes "the kernel, on hart " ++ decimal hart ++ codes ", " ++ call_name call
deed_text (deed.Stored hart ctx frame change) = stored_text hart ctx frame change
deed_text (deed.Leads ctx address from to) =
    table_changed ctx
    ++ (hexadecimal address ++ (codes " led to " ++ frame_name from ++ codes ", and now leads to " ++ frame_name to))

abbrev pub event_text : PageEvent → List ℕ
event_text e = codes "  " ++ step_name e.step ++ codes ": " ++ deed_text e.deed ++ codes "\n"

-- events, of which this many earlier ones are left out
abbrev pub left_out_text : ℕ → List ℕ
left_out_text n =
    if n == 0 then [] else codes "  (earlier events that are left out: " ++ decimal n ++ codes ")\n"

abbrev pub events_text : ℕ → List PageEvent → List ℕ
events_text n events = left_out_text n ++ flat_map event_text events

-- What was found.

-- where those bytes had last been shown
abbrev pub origin_place : ℕ → List ℕ
origin_place n = if n == 0 then codes " at the opening\n" else codes " at step " ++ decimal n ++ codes "\n"

abbrev pub origin_text : Option Showing → List ℕ
origin_text (Some showing) = codes "shown of " ++ page_name showing.page ++ origin_place showing.step
origin_text None = codes "not shown in this run before\n"

abbrev pub found_text : Presented → Option Showing → List ℕ
found_text p origin =
    (codes "  step " ++ decimal p.step ++ codes ": the program asked for the page, and found in frame "
    ++ decimal p.found.frame ++ codes " ")
    ++ ((codes "bytes with the digest " ++ encode_lower p.digest ++ codes ", which were ") ++ origin_text origin)

abbrev pub page_rule : List ℕ
page_rule =
    codes "The rule: a frame that the kernel presents for a cloaked page has exactly the bytes that were last shown of that page.\n"

-- the lines of a page, with these events and this origin
abbrev pub lines_of : Presented → ℕ → List PageEvent → Option Showing → List ℕ
lines_of p n events origin =
    whose_text p.showing ++ (events_text n events ++ (found_text p origin ++ page_rule))

-- the lines of a page, by all that was done before
abbrev pub page_lines : Presented → Done → List ℕ
page_lines p d = lines_of p (left_out d.events) (last_events d.events) d.origin

abbrev pub page_text : Presented → List ℕ → List ℕ
page_text p more = running_text p.step p.hart p.ctx ++ (access_text p.found ++ (more ++ end_text p.ctx))

abbrev pub passage_text : Passage → List ℕ
passage_text (passage.Resume asking why) = resume_text asking why
passage_text (passage.Gone step asked ended) = none_text step asked ended
passage_text (passage.Page p more) = page_text p (string_bytes more)
passage_text (passage.Question step ctx) = question_text step ctx

-- The last sentence, by what is noted of the run, and the numbers of programs that ended and of resumes that were refused.

-- how a run ended in which a draw was missing or not, and which halted with this value
abbrev pub end_reason : Bool → Option ℕ → List ℕ
end_reason true halted = codes "for want of randomness"
end_reason false (Some value) = codes "by a halt with " ++ decimal value
end_reason false None = codes "by its number of steps"

abbrev pub no_violation : ℕ → Bool → Option ℕ → List ℕ
no_violation steps missed halted =
    (codes "There was no violation: the run has " ++ decimal steps ++ codes " steps, and ended ")
    ++ (end_reason missed halted ++ codes ".\n")

abbrev pub violations_counted : ℕ → ℕ → ℕ → List ℕ
violations_counted steps ended refused =
    (codes "The run has " ++ decimal steps ++ codes " steps; programs that ended: " ++ decimal ended ++ codes "; ")
    ++ (codes "resumes that were refused: " ++ decimal refused ++ codes ".\n")

abbrev pub summary : Notes → ℕ → ℕ → List ℕ
summary n ended refused =
    if ended == 0
    then (if refused == 0 then no_violation n.step (lacks_draw n) n.halted else violations_counted n.step ended refused)
    else violations_counted n.step ended refused

-- Violations as they are told.

-- a violation is told by this text, without what was done before
abbrev pub IsToldAtOnce : Violation → List ℕ → Type 0
IsToldAtOnce (ByQuestion step ctx) text = text ≡ question_text step ctx
IsToldAtOnce (ByPage p) text = ⊥
IsToldAtOnce (ByResume asking why) text = text ≡ resume_text asking why
IsToldAtOnce (OfNone step asked ended) text = text ≡ none_text step asked ended

-- The items before a question, read once more: those with which the file begins, if its bytes are told.
pub record AreReadAgain (file : Option (List ℕ)) (before : ℕ) (items : List Item) : Type 0 where
  pub front : IfSome file (λ bytes. BeginsWith (readable bytes) items × (length items ≡ before))

-- a page is told by this text, with all that was done before
pub record IsPageTold (b : Bundle) (file : Option (List ℕ)) (p : Presented) (text : List ℕ) : Type 0 where
  pub items : List Item
  pub again : AreReadAgain file p.before items
  pub lines : text ≡ page_text p (page_lines p (done_in b p items))

-- a violation of a record file is told by this text
abbrev pub IsToldBy : Bundle → Option (List ℕ) → Violation → List ℕ → Type 0
IsToldBy b file (ByPage p) text = IsPageTold b file p text
IsToldBy b file v text = IsToldAtOnce v text

-- The text has a passage for each of these violations, in order, and nothing else.
abbrev pub AreToldBy : Bundle → Option (List ℕ) → List Violation → List ℕ → Type 0
AreToldBy b file [] text = text ≡ []
AreToldBy b file (v ∷ vs) text =
    (first : List ℕ) × (rest : List ℕ) × (text ≡ first ++ rest) × IsToldBy b file v first × AreToldBy b file vs rest
