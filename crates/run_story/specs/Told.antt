-- What is told of a run: what was presented in each step by which a program ended, and each violation.
use Rattle.std.specs.Prelude.{ℕ, ◌≡◌, ◌⊎◌, ◌+◌, ◌-◌, ◌^◌, ◌==◌, min, List, [], ◌∷◌, ◌++◌, length, slice_index_or, slice_set, Option, Some, None, is_some, if◌then◌else◌}
use Rattle.std.specs.List.{count_by, fold}
use Rattle.cloak_base.specs.declared.names.HartId.{HartId}
use Rattle.cloak_model.specs.declared.image.Bundle.{Bundle}
use Rattle.cloak_model.specs.Items.{Item}
use Rattle.cloak_model.specs.Items as item
use Rattle.cloak_model.specs.Contexts.{domain_of}
use Rattle.cloak_model.specs.KernelAlone as model
use Rattle.cloak_model.specs.KernelAlone.{kernel_alone, kernel_hart}
use Rattle.replayed_run.specs.Alone.{FitsAlone, IsUnfitAlone, has_program, standing_told, words_of}
use Rattle.replayed_run.specs.ContextsTold.{table_of, told_of}
use Rattle.replayed_run.specs.Noted.{noted_in}
use Rattle.replayed_run.specs.declared.contexts.FirstTable.{FirstTable}
use Rattle.replayed_run.specs.declared.machines.HartWords.{HartWords}
use Rattle.replayed_run.specs.declared.machines.StandingContext.{StandingContext}
use Rattle.replayed_run.specs.declared.notes.Asking.{Asking}
use Rattle.replayed_run.specs.declared.notes.Notes.{Notes}
use Rattle.run_story.specs.Presenting.{presented_in}
use Rattle.run_story.specs.declared.presented.AskedResume.{AskedResume}
use Rattle.run_story.specs.declared.presented.Presented.{Presented}
use Rattle.run_story.specs.declared.presented.Refused.{Refused}
use Rattle.run_story.specs.declared.presented.Refused.TheVariants as refused

-- What was presented in the step that is open, by which a program may end.
pub data Due : Type 0 where
  Nothing : Due
  -- for a question of this context, of which no more is known
  Question : ℕ → Due
  -- for a question for a page
  Page : Presented → Due
  -- a context, to be resumed, and why it is not
  Resume : AskedResume → Refused → Due

pub data Violation : Type 0 where
  -- in this step a program ended by a question of this context, of which no more is known
  ByQuestion : ℕ → ℕ → Violation
  -- a program ended by the page that was presented so
  ByPage : Presented → Violation
  -- a program ended by the context that was to be resumed
  ByResume : AskedResume → Refused → Violation
  -- in this step a context was asked for whose program is not there, or ended in that step
  OfNone : ℕ → Asking → Option ℕ → Violation

-- What an item tells.
pub data Outcome : Type 0 where
  Quiet : Outcome
  Violated : Violation → Outcome
  -- it ends a program or a step for which there is no cause
  Uncaused : Outcome

pub record Told : Type 0 where
  pub items : List Item
  pub due : Due
  -- the step in which each of four programs ended
  pub ended : List (Option ℕ)
  -- how many resumes were refused since their program was not left, up to 2^64 - 1
  pub refused : ℕ
  pub violations : List Violation
  -- the step of the first item without a cause
  pub uncaused : Option ℕ

-- Why a context is not resumed.

-- its space has another page table
abbrev pub refused_by_table : ℕ → Option FirstTable → Option Refused
refused_by_table satp None = None
refused_by_table satp (Some first) = if first.satp == satp then None else Some (refused.Mapping first)

-- it runs
abbrev pub refused_by_hart : Notes → ℕ → ℕ → ℕ → Option HartId → Option Refused
refused_by_hart n ctx satp space (Some on) = Some (refused.Running on (told_of n.contexts ctx))
refused_by_hart n ctx satp space None = refused_by_table satp (table_of n.contexts space)

-- it is not there
abbrev pub refused_for : Notes → ℕ → ℕ → Option StandingContext → Option Refused
refused_for n ctx satp None = Some (refused.Gone (told_of n.contexts ctx))
refused_for n ctx satp (Some c) = refused_by_hart n ctx satp c.space c.on

-- What is presented.

-- a hart asks for a context so
abbrev pub asking_of : ℕ → ℕ → HartWords → AskedResume
asking_of step hart w = record { step = step; hart = hart; ctx = w.ctx; satp = w.satp }

abbrev pub due_for : AskedResume → Option Refused → Due
due_for asking None = Nothing
due_for asking (Some why) = Resume asking why

-- a context of this program is asked for, and not resumed
abbrev pub resume_due : Bundle → List Item → Notes → ℕ → ℕ → HartWords → Due
resume_due b items n d hart w =
    if domain_of w.ctx == d
    then due_for (asking_of n.step hart w) (refused_for n w.ctx w.satp (standing_told b items w.ctx))
    else Nothing

-- a page, of a question of this program
abbrev pub own_due : ℕ → Due → Due
own_due d (Question ctx) = if domain_of ctx == d then Question ctx else Nothing
own_due d (Page p) = if domain_of p.ctx == d then Page p else Nothing
own_due d (Resume asking why) = Nothing
own_due d Nothing = Nothing

-- By what a program of this number ends, if it does after these items.
abbrev pub due_at : Bundle → List Item → Notes → Due → ℕ → model.KernelStage → Due
due_at b items n due d (model.Outside hart) =
    resume_due b items n d hart (words_of (kernel_hart (kernel_alone b.kernel items).kernel hart))
due_at b items n due d model.Between = own_due d due
due_at b items n due d (model.Inside hart ctx) = own_due d due
due_at b items n due d model.Left = own_due d due

-- with this item
abbrev pub due_met : Bundle → List Item → Notes → Due → Item → Due
due_met b items n due (item.Ended d) = due_at b items n due d (kernel_alone b.kernel items).stage
due_met b items n due _ = due

-- A question of a context was stopped, and this is known of the page that was presented for it.
abbrev pub page_due : ℕ → Option Presented → Due
page_due ctx None = Question ctx
page_due ctx (Some p) = Page p

-- it was one of the context that runs
abbrev pub question_due : model.KernelStage → (ℕ → ℕ → Option Presented) → Due
question_due (model.Inside hart ctx) presented = page_due ctx (presented hart ctx)
question_due (model.Outside hart) presented = Nothing
question_due model.Between presented = Nothing
question_due model.Left presented = Nothing

-- What was presented for the last question of these items, before which there were so many.
abbrev pub question_in : Bundle → List Item → ℕ → Due
question_in b items before =
    question_due (kernel_alone b.kernel items).stage (λ hart ctx. presented_in b items before hart ctx)

-- What is presented after an item, if this was presented for a question that it stopped, and this was met with it.
abbrev pub due_after : Due → Due → Item → Due
due_after asked due (item.Stopped d) = asked
due_after asked due (item.Step number) = Nothing
due_after asked due (item.Close steps) = Nothing
due_after asked due _ = due

-- What is told.

-- a program ended; if by a resume, it is told as the step ends
abbrev pub end_outcome : ℕ → Due → Outcome
end_outcome step Nothing = Uncaused
end_outcome step (Question ctx) = Violated (ByQuestion step ctx)
end_outcome step (Page p) = Violated (ByPage p)
end_outcome step (Resume asking why) = Quiet

-- a context was asked for, and no program ended by that
abbrev pub none_outcome : Bundle → ℕ → Asking → Option ℕ → Outcome
none_outcome b step asked (Some at) = Violated (OfNone step asked (Some at))
none_outcome b step asked None =
    if has_program b (domain_of asked.ctx) then Uncaused else Violated (OfNone step asked None)

abbrev pub asked_outcome : Bundle → ℕ → List (Option ℕ) → Option Asking → Outcome
asked_outcome b step ended None = Quiet
asked_outcome b step ended (Some asked) = none_outcome b step asked (slice_index_or ended (domain_of asked.ctx) None)

-- a program ended by a resume of this context, and this one was asked for
abbrev pub resume_outcome : AskedResume → Refused → Option Asking → Outcome
resume_outcome asking why None = Uncaused
resume_outcome asking why (Some asked) =
    if asking.ctx == asked.ctx then Violated (ByResume asking why) else Uncaused

-- a step ended, in which this context was asked for
abbrev pub step_outcome : Bundle → ℕ → List (Option ℕ) → Due → Option Asking → Outcome
step_outcome b step ended Nothing asked = asked_outcome b step ended asked
step_outcome b step ended (Question ctx) asked = asked_outcome b step ended asked
step_outcome b step ended (Page p) asked = asked_outcome b step ended asked
step_outcome b step ended (Resume asking why) asked = resume_outcome asking why asked

-- what an item tells in this step, if this was met with it, and this context was asked for as the step ended
abbrev pub outcome_of : Bundle → ℕ → List (Option ℕ) → Due → Option Asking → Item → Outcome
outcome_of b step ended due asked (item.Ended d) = end_outcome step due
outcome_of b step ended due asked (item.Step number) = step_outcome b step ended due asked
outcome_of b step ended due asked (item.Close steps) = step_outcome b step ended due asked
outcome_of b step ended due asked _ = Quiet

-- What is told with an item more.

abbrev pub ended_after : List (Option ℕ) → ℕ → Item → List (Option ℕ)
ended_after ended step (item.Ended d) = slice_set ended d (Some step)
ended_after ended step _ = ended

abbrev pub violations_after : List Violation → Outcome → List Violation
violations_after violations (Violated v) = violations ++ v ∷ []
violations_after violations Quiet = violations
violations_after violations Uncaused = violations

abbrev pub refused_after : ℕ → Outcome → ℕ
refused_after refused (Violated (OfNone step asked ended)) = min (refused + 1) (2 ^ 64 - 1)
refused_after refused (Violated (ByQuestion step ctx)) = refused
refused_after refused (Violated (ByPage p)) = refused
refused_after refused (Violated (ByResume asking why)) = refused
refused_after refused Quiet = refused
refused_after refused Uncaused = refused

abbrev pub uncaused_after : Option ℕ → ℕ → Outcome → Option ℕ
uncaused_after (Some at) step outcome = Some at
uncaused_after None step Uncaused = Some step
uncaused_after None step Quiet = None
uncaused_after None step (Violated v) = None

unfoldable pub told_with : Told → List Item → ℕ → Due → List (Option ℕ) → Outcome → Told
told_with t items step due ended outcome = record {
  items = items;
  due = due;
  ended = ended;
  refused = refused_after t.refused outcome;
  violations = violations_after t.violations outcome;
  uncaused = uncaused_after t.uncaused step outcome;
}

-- after these items this one
unfoldable pub told_next : Bundle → List Item → Told → Item → Told
told_next b items t i =
    let step = (noted_in b items).notes.step in
    let met = due_met b items (noted_in b items).notes t.due i in
    let now = items ++ i ∷ [] in
    told_with t now step (due_after (question_in b now (length items)) met i) (ended_after t.ended step i)
    (outcome_of b step t.ended met (noted_in b now).notes.asked i)

abbrev pub told_more : Bundle → Told → Item → Told
told_more b t i = told_next b t.items t i

abbrev pub none_told : Told
none_told = record {
  items = [];
  due = Nothing;
  ended = None ∷ None ∷ None ∷ None ∷ [];
  refused = 0;
  violations = [];
  uncaused = None;
}

-- What these items tell.
abbrev pub told_in : Bundle → List Item → Told
told_in b items = fold (told_more b) none_told items

-- how many programs ended
abbrev pub ended_count : List (Option ℕ) → ℕ
ended_count ended = count_by is_some ended

-- Which items fit.

-- Each item fits the kernel alone and each program alone, and each end of a program or a step has its cause.
pub record Fits (b : Bundle) (items : List Item) : Type 0 where
  pub alone : FitsAlone b items
  pub caused : (told_in b items).uncaused ≡ None

-- After items that fit, this one does not, at this step.
pub record IsUnfitNext (b : Bundle) (items : List Item) (i : Item) (step : ℕ) : Type 0 where
  pub before : Fits b items
  pub unfit : IsUnfitAlone b (items ++ i ∷ []) step ⊎ ((told_in b (items ++ i ∷ [])).uncaused ≡ Some step)
