-- The question for a page that is told stands before the items' end.
use Rattle.std.proofs.Common.{◌≡◌, ◌<◌, ◌==◌, ℕ, Bool, true, false, if◌then◌else◌, List, [], ◌∷◌, ◌++◌, length, length-append, slice_index_or, Option, Some, None, refl, subst, arith}
use Rattle.std.specs.List.{fold}
use Rattle.std.specs.Prelude.{slice_get}
use Rattle.cloak_model.specs.declared.image.Bundle.{Bundle}
use Rattle.cloak_model.specs.Items.{Item}
use Rattle.cloak_model.specs.Items as item
use Rattle.cloak_model.specs.Contexts.{domain_of}
use Rattle.cloak_model.specs.KernelAlone as model
use Rattle.cloak_model.specs.KernelAlone.{kernel_alone, kernel_hart}
use Rattle.replayed_run.specs.Alone.{standing_told, words_of}
use Rattle.replayed_run.specs.Leading.{presented_by, tables_in}
use Rattle.replayed_run.specs.Noted.{noted_in}
use Rattle.replayed_run.specs.PagesTold.{last_shown, paged_in}
use Rattle.replayed_run.specs.Questions.{questioned_in}
use Rattle.replayed_run.specs.declared.frames.PresentedPage.{PresentedPage}
use Rattle.replayed_run.specs.declared.frames.Tables.{Tables}
use Rattle.replayed_run.specs.declared.machines.HartWords.{HartWords}
use Rattle.replayed_run.specs.declared.notes.Asking.{Asking}
use Rattle.replayed_run.specs.declared.notes.Notes.{Notes}
use Rattle.replayed_run.specs.declared.pages.Showing.{Showing}
use Rattle.run_story.specs.Presenting.{presented_for, presented_in, presented_under, presented_unless}
use Rattle.run_story.specs.Told.{ByPage, ByQuestion, ByResume, Due, Nothing, OfNone, Outcome, Page, Question, Quiet, Resume, Told, Uncaused, Violated, asked_outcome, asking_of, due_after, due_at, due_for, due_met, end_outcome, none_outcome, none_told, outcome_of, own_due, page_due, question_due, question_in, refused_for, resume_due, resume_outcome, step_outcome, told_in, told_more, told_next, told_with}
use Rattle.run_story.specs.declared.presented.AskedResume.{AskedResume}
use Rattle.run_story.specs.declared.presented.Presented.{Presented}
use Rattle.run_story.specs.declared.presented.Refused.{Refused}
use Rattle.run_story.specs.declared.presented.StoppedQuestion.{StoppedQuestion}
use Rattle.run_story.proofs.ToldMore.{outcome_next, told_items}

-- fewer than n items stand before the question of a page that is due
abbrev IsBefore : ℕ → Due → Type 0
IsBefore n (Page p) = p.before < n
IsBefore n Nothing = Unit {0}
IsBefore n (Question ctx) = Unit {0}
IsBefore n (Resume asking why) = Unit {0}

-- What is known of a page, before whose question n items stand.

abbrev StandsAfter : ℕ → Option Presented → Type 0
StandsAfter n None = Unit {0}
StandsAfter n (Some p) = p.before ≡ n

unless_after : (same : Bool) (p : Presented) (n : ℕ) → p.before ≡ n → StandsAfter n (presented_unless same p)
unless_after true p n is = tt
unless_after false p n is = is

under_after : (question : StoppedQuestion) (found : PresentedPage) (showing : Option Showing) (tables : Option Tables)
    (bytes : Option (List ℕ)) → StandsAfter question.before (presented_under question found showing tables bytes)
under_after question found showing (Some tables) (Some bytes) = unless_after _ _ question.before refl
under_after question found showing (Some tables) None = tt
under_after question found showing None bytes = tt

for_after : (b : Bundle) (items : List Item) (question : StoppedQuestion) (found : Option PresentedPage) →
    StandsAfter question.before (presented_for b items question found)
for_after b items question None = tt
for_after b items question (Some found) =
    under_after question found (last_shown (paged_in b items).pages found.page) (tables_in (kernel_alone b.kernel items))
    (slice_get (kernel_alone b.kernel items).kernel.ram found.frame)

in_after : (b : Bundle) (items : List Item) (n hart ctx : ℕ) → StandsAfter n (presented_in b items n hart ctx)
in_after b items n hart ctx =
    for_after b items (record { step = (noted_in b items).notes.step; hart = hart; ctx = ctx; before = n })
    (presented_by (kernel_alone b.kernel items) (questioned_in b items).questions.last)

page_before : (ctx n m : ℕ) (p : Option Presented) → n < m → StandsAfter n p → IsBefore m (page_due ctx p)
page_before ctx n m None less is = tt
page_before ctx n m (Some p) less is = omega (arith, is, less)

question_before : (stage : model.KernelStage) (n m : ℕ) (presented : ℕ → ℕ → Option Presented) → n < m →
    ((hart ctx : ℕ) → StandsAfter n (presented hart ctx)) → IsBefore m (question_due stage presented)
question_before (model.Inside hart ctx) n m presented less is =
    page_before ctx n m (presented hart ctx) less (is hart ctx)
question_before (model.Outside hart) n m presented less is = tt
question_before model.Between n m presented less is = tt
question_before model.Left n m presented less is = tt

in_before : (b : Bundle) (items : List Item) (n m : ℕ) → n < m → IsBefore m (question_in b items n)
in_before b items n m less =
    question_before (kernel_alone b.kernel items).stage n m (λ hart ctx. presented_in b items n hart ctx) less
    (λ hart ctx. in_after b items n hart ctx)

-- What is met with an item.

if_before : (test : Bool) (due : Due) (n : ℕ) → IsBefore n due → IsBefore n (if test then due else Nothing)
if_before true due n is = is
if_before false due n is = tt

own_before : (d : ℕ) (due : Due) (n : ℕ) → IsBefore n due → IsBefore n (own_due d due)
own_before d (Question ctx) n is = if_before _ (Question ctx) n is
own_before d (Page p) n is = if_before _ (Page p) n is
own_before d (Resume asking why) n is = tt
own_before d Nothing n is = tt

asked_before : (asking : AskedResume) (why : Option Refused) (n : ℕ) → IsBefore n (due_for asking why)
asked_before asking None n = tt
asked_before asking (Some why) n = tt

resume_before : (b : Bundle) (items : List Item) (notes : Notes) (d n hart : ℕ) (w : HartWords) →
    IsBefore n (resume_due b items notes d hart w)
resume_before b items notes d n hart w =
    let asking = asking_of notes.step hart w in
    let why = refused_for notes w.ctx w.satp (standing_told b items w.ctx) in
    if_before (domain_of w.ctx == d) (due_for asking why) n (asked_before asking why n)

at_before : (b : Bundle) (items : List Item) (notes : Notes) (due : Due) (d n : ℕ) (stage : model.KernelStage) →
    IsBefore n due → IsBefore n (due_at b items notes due d stage)
at_before b items notes due d n (model.Outside hart) is =
    resume_before b items notes d n hart (words_of (kernel_hart (kernel_alone b.kernel items).kernel hart))
at_before b items notes due d n model.Between is = own_before d due n is
at_before b items notes due d n (model.Inside hart ctx) is = own_before d due n is
at_before b items notes due d n model.Left is = own_before d due n is

met_before : (b : Bundle) (items : List Item) (notes : Notes) (due : Due) (n : ℕ) (i : Item) → IsBefore n due →
    IsBefore n (due_met b items notes due i)
met_before b items notes due n (item.Ended d) is =
    at_before b items notes due d n (kernel_alone b.kernel items).stage is
met_before b items notes due n _ is = is

-- What is due after items.

after_before : (asked met : Due) (n : ℕ) (i : Item) → IsBefore n asked → IsBefore n met → IsBefore n (due_after asked met i)
after_before asked met n (item.Stopped d) before is = before
after_before asked met n (item.Step number) before is = tt
after_before asked met n (item.Close steps) before is = tt
after_before asked met n _ before is = is

later : (due : Due) (n m : ℕ) → n < m → IsBefore n due → IsBefore m due
later (Page p) n m less is = omega (arith, less, is)
later Nothing n m less is = tt
later (Question ctx) n m less is = tt
later (Resume asking why) n m less is = tt

next_before : (b : Bundle) (t : Told) (i : Item) → IsBefore (length t.items) t.due →
    IsBefore (length (told_more b t i).items) (told_more b t i).due
unfolding told_next told_with
next_before b t i is =
    let now = t.items ++ i ∷ [] in
    let size = length-append t.items (i ∷ []) in
    let less : length t.items < length now = omega (arith, size) in
    let notes = (noted_in b t.items).notes in
    after_before (question_in b now (length t.items)) (due_met b t.items notes t.due i) (length now) i
    (in_before b now (length t.items) (length now) less)
    (later (due_met b t.items notes t.due i) (length t.items) (length now) less
    (met_before b t.items notes t.due (length t.items) i is))

told_before : (b : Bundle) (t : Told) (items : List Item) → IsBefore (length t.items) t.due →
    IsBefore (length (fold (told_more b) t items).items) (fold (told_more b) t items).due
told_before b t [] is = is
told_before b t (i ∷ items) is = told_before b (told_more b t i) items (next_before b t i is)

due_before : (b : Bundle) (items : List Item) → IsBefore (length items) (told_in b items).due
due_before b items =
    subst (λ (l : List Item). IsBefore (length l) (told_in b items).due) (told_items b items) (told_before b none_told items tt)

-- What an item tells.

abbrev TellsBefore : ℕ → Outcome → Type 0
TellsBefore n (Violated (ByPage p)) = p.before < n
TellsBefore n (Violated (ByQuestion step ctx)) = Unit {0}
TellsBefore n (Violated (ByResume asking why)) = Unit {0}
TellsBefore n (Violated (OfNone step asked ended)) = Unit {0}
TellsBefore n Quiet = Unit {0}
TellsBefore n Uncaused = Unit {0}

end_tells : (step n : ℕ) (due : Due) → IsBefore n due → TellsBefore n (end_outcome step due)
end_tells step n Nothing is = tt
end_tells step n (Question ctx) is = tt
end_tells step n (Page p) is = is
end_tells step n (Resume asking why) is = tt

none_if : (test : Bool) (step n : ℕ) (asked : Asking) →
    TellsBefore n (if test then Uncaused else Violated (OfNone step asked None))
none_if true step n asked = tt
none_if false step n asked = tt

none_tells : (b : Bundle) (step n : ℕ) (asked : Asking) (ended : Option ℕ) → TellsBefore n (none_outcome b step asked ended)
none_tells b step n asked (Some at) = tt
none_tells b step n asked None = none_if _ step n asked

asked_tells : (b : Bundle) (step n : ℕ) (ended : List (Option ℕ)) (asked : Option Asking) →
    TellsBefore n (asked_outcome b step ended asked)
asked_tells b step n ended None = tt
asked_tells b step n ended (Some asked) = none_tells b step n asked (slice_index_or ended (domain_of asked.ctx) None)

resume_if : (test : Bool) (n : ℕ) (asking : AskedResume) (why : Refused) →
    TellsBefore n (if test then Violated (ByResume asking why) else Uncaused)
resume_if true n asking why = tt
resume_if false n asking why = tt

resume_tells : (n : ℕ) (asking : AskedResume) (why : Refused) (asked : Option Asking) →
    TellsBefore n (resume_outcome asking why asked)
resume_tells n asking why None = tt
resume_tells n asking why (Some asked) = resume_if _ n asking why

step_tells : (b : Bundle) (step n : ℕ) (ended : List (Option ℕ)) (due : Due) (asked : Option Asking) →
    TellsBefore n (step_outcome b step ended due asked)
step_tells b step n ended Nothing asked = asked_tells b step n ended asked
step_tells b step n ended (Question ctx) asked = asked_tells b step n ended asked
step_tells b step n ended (Page p) asked = asked_tells b step n ended asked
step_tells b step n ended (Resume asking why) asked = resume_tells n asking why asked

outcome_tells : (b : Bundle) (step n : ℕ) (ended : List (Option ℕ)) (due : Due) (asked : Option Asking) (i : Item) →
    IsBefore n due → TellsBefore n (outcome_of b step ended due asked i)
outcome_tells b step n ended due asked (item.Ended d) is = end_tells step n due is
outcome_tells b step n ended due asked (item.Step number) is = step_tells b step n ended due asked
outcome_tells b step n ended due asked (item.Close steps) is = step_tells b step n ended due asked
outcome_tells b step n ended due asked _ is = tt

-- the question of a page that an item tells stands before
pub page_within : (b : Bundle) (items : List Item) (i : Item) (p : Presented) →
    outcome_next b items i ≡ Violated (ByPage p) → p.before < length (items ++ i ∷ [])
page_within b items i p is =
    let notes = (noted_in b items).notes in
    let here : p.before < length items =
    subst (λ (o : Outcome). TellsBefore (length items) o) is
    (outcome_tells b notes.step (length items) (told_in b items).ended (due_met b items notes (told_in b items).due i)
    (noted_in b (items ++ i ∷ [])).notes.asked i
    (met_before b items notes (told_in b items).due (length items) i (due_before b items))) in
    let size = length-append items (i ∷ []) in
    omega (arith, here, size)
