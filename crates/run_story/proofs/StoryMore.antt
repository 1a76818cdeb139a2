-- A story takes an item more.
use Rattle.std.proofs.Common.{◌≡◌, ℕ, Bool, true, false, if◌then◌else◌, List, [], ◌∷◌, ◌++◌, length, Option, Some, None, is_some, Result, Ok, Err, sym, ap, subst, ◌∙◌, inl, inr, string_bytes, eq-eqb}
use Rattle.std.proofs.lemmas.Bool.{false≢true}
use Rattle.cloak_model.specs.Contexts.{domain_of}
use Rattle.cloak_model.specs.declared.image.Bundle.{Bundle}
use Rattle.cloak_model.specs.Items.{Item}
use Rattle.read_back.specs.declared.ending.Ending.TheVariants as ending
use Rattle.replayed_run.specs.Alone.{IsUnfitAlone, has_program}
use Rattle.replayed_run.specs.Noted.{noted_in}
use Rattle.replayed_run.specs.Watching.{Watches, notes_of}
use Rattle.replayed_run.specs.declared.notes.Asking.{Asking}
use Rattle.replayed_run.specs.declared.notes.Notes.{Notes}
use Rattle.replayed_run.specs.declared.watch.Watch.{Watch}
use Rattle.run_story.specs.Passages.{AreToldBy, IsPageTold}
use Rattle.run_story.specs.Telling.{AddsOutcome, GrowsBy, KeepsStory, Knows, LacksNext, NotesItem, StoryTakes, Tells, TellsBut, due_of}
use Rattle.run_story.specs.Told.{ByPage, ByResume, Due, Fits, IsUnfitNext, OfNone, Outcome, Uncaused, Violated, Violation, due_after, due_met, ended_after, none_outcome, outcome_of, question_in, refused_after, resume_outcome, told_in, uncaused_after, violations_after}
use Rattle.run_story.specs.declared.presented.AskedResume.{AskedResume}
use Rattle.run_story.specs.declared.presented.Presented.{Presented}
use Rattle.run_story.specs.declared.presented.Refused.{Refused}
use Rattle.run_story.specs.declared.story.Story.{Story}
use Rattle.run_story.specs.declared.untold.Untold.{Untold}
use Rattle.run_story.specs.declared.untold.Untold.TheVariants as untold
use Rattle.run_story.proofs.Before.{page_within}
use Rattle.run_story.proofs.ToldMore.{due_more, ended_more, grows_caused, outcome_next, refused_more, told_grows, told_more_text, uncaused_more, violations_more}

-- the items so far fit
pub knows_fit : (b : Bundle) (items : List Item) (s : Story) → Knows b items s → Fits b items
knows_fit b items s knows = record { alone = knows.watches.machines.fits; caused = knows.caused }

-- The watch took an item, before which the target was set to what was met with it.
pub record Met (b : Bundle) (items : List Item) (i : Item) (step : ℕ) (old mid : Story) : Type 0 where
  pub at : step ≡ (notes_of old.watch).step
  pub due : due_of mid.target ≡ due_met b items (notes_of old.watch) (due_of old.target) i
  pub ended : mid.ended ≡ old.ended
  pub refused : mid.refused ≡ old.refused
  pub text : mid.text ≡ old.text
  pub watches : Watches b (items ++ i ∷ []) mid.watch

abbrev pub noted_outcome : Bundle → Item → ℕ → Story → Outcome
noted_outcome b i step mid = outcome_of b step mid.ended (due_of mid.target) (notes_of mid.watch).asked i

-- with it the rest was noted
abbrev pub NotesNext : Bundle → List Item → Item → ℕ → Story → Story → Result (Option Presented) Untold → Type 0
NotesNext b items i step mid new r =
    NotesItem b (question_in b (items ++ i ∷ []) (length items)) i step mid new r

step_is : (b : Bundle) (items : List Item) (i : Item) (step : ℕ) (old mid : Story) → Knows b items old →
    Met b items i step old mid → step ≡ (noted_in b items).notes.step
step_is b items i step old mid knows met = met.at ∙ ap (λ (n : Notes). n.step) knows.watches.notes

due_is : (b : Bundle) (items : List Item) (i : Item) (step : ℕ) (old mid : Story) → Knows b items old →
    Met b items i step old mid → due_of mid.target ≡ due_met b items (noted_in b items).notes (told_in b items).due i
due_is b items i step old mid knows met =
    met.due
    ∙ (ap (λ (n : Notes). due_met b items n (due_of old.target) i) knows.watches.notes
    ∙ ap (λ (d : Due). due_met b items (noted_in b items).notes d i) knows.due)

ended_is : (b : Bundle) (items : List Item) (i : Item) (step : ℕ) (old mid : Story) → Knows b items old →
    Met b items i step old mid → mid.ended ≡ (told_in b items).ended
ended_is b items i step old mid knows met = met.ended ∙ knows.ended

-- what the item tells by the definition
outcome_is : (b : Bundle) (items : List Item) (i : Item) (step : ℕ) (old mid : Story) → Knows b items old →
    Met b items i step old mid → noted_outcome b i step mid ≡ outcome_next b items i
outcome_is b items i step old mid knows met =
    let due = due_met b items (noted_in b items).notes (told_in b items).due i in
    ap (λ (n : ℕ). outcome_of b n mid.ended (due_of mid.target) (notes_of mid.watch).asked i)
    (step_is b items i step old mid knows met)
    ∙ (ap (λ (e : List (Option ℕ)). outcome_of b (noted_in b items).notes.step e (due_of mid.target)
    (notes_of mid.watch).asked i) (ended_is b items i step old mid knows met)
    ∙ (ap (λ (d : Due). outcome_of b (noted_in b items).notes.step (told_in b items).ended d (notes_of mid.watch).asked i)
    (due_is b items i step old mid knows met)
    ∙ ap (λ (n : Notes). outcome_of b (noted_in b items).notes.step (told_in b items).ended due n.asked i)
    met.watches.notes))

-- what is known with the item, if it has its cause
knows_more : (b : Bundle) (items : List Item) (i : Item) (step : ℕ) (old mid new : Story)
    (r : Result (Option Presented) Untold) → Knows b items old → Met b items i step old mid →
    NotesNext b items i step mid new r →
    new.refused ≡ refused_after mid.refused (noted_outcome b i step mid) →
    uncaused_after None (noted_in b items).notes.step (outcome_next b items i) ≡ None → Knows b (items ++ i ∷ []) new
knows_more b items i step old mid new r knows met notes refused caused = record {
  watches = subst (λ (w : Watch). Watches b (items ++ i ∷ []) w) (sym notes.watch) met.watches;
  due = notes.due
      ∙ (ap (λ (d : Due). due_after (question_in b (items ++ i ∷ []) (length items)) d i)
      (due_is b items i step old mid knows met) ∙ sym (due_more b items i));
  ended = notes.ended
      ∙ (ap (λ (e : List (Option ℕ)). ended_after e step i) (ended_is b items i step old mid knows met)
      ∙ (ap (λ (n : ℕ). ended_after (told_in b items).ended n i) (step_is b items i step old mid knows met)
      ∙ sym (ended_more b items i)));
  refused = refused
      ∙ (ap (λ (n : ℕ). refused_after n (noted_outcome b i step mid)) (met.refused ∙ knows.refused)
      ∙ (ap (λ (o : Outcome). refused_after (told_in b items).refused o) (outcome_is b items i step old mid knows met)
      ∙ sym (refused_more b items i)));
  caused = uncaused_more b items i knows.caused ∙ caused;
}

-- it was told
tells_more : (b : Bundle) (file : Option (List ℕ)) (items : List Item) (i : Item) (step : ℕ) (old mid new : Story) →
    Tells b file items old → Met b items i step old mid → NotesNext b items i step mid new (Ok None) →
    Tells b file (items ++ i ∷ []) new
tells_more b file items i step old mid new tells met notes =
    let is = outcome_is b items i step old mid tells.knows met in
    let grows : GrowsBy (outcome_next b items i) (string_bytes mid.text) (string_bytes new.text) =
    subst (λ (o : Outcome). GrowsBy o (string_bytes mid.text) (string_bytes new.text)) is notes.adds.text in
    record {
      knows = knows_more b items i step old mid new (Ok None) tells.knows met notes notes.adds.refused
          (grows_caused (outcome_next b items i) (noted_in b items).notes.step _ _ grows);
      text = subst (λ (vs : List Violation). AreToldBy b file vs (string_bytes new.text)) (sym (violations_more b items i))
          (told_grows b file (outcome_next b items i) (told_in b items).violations (string_bytes mid.text)
          (string_bytes new.text)
          (subst (λ t. AreToldBy b file (told_in b items).violations (string_bytes t)) (sym met.text) tells.text) grows);
    }

-- it is a page, which is told later
owes_more : (b : Bundle) (file : Option (List ℕ)) (items : List Item) (i : Item) (step : ℕ) (old mid new : Story)
    (p : Presented) → Tells b file items old → Met b items i step old mid →
    NotesNext b items i step mid new (Ok (Some p)) → TellsBut b file (items ++ i ∷ []) p new
owes_more b file items i step old mid new p tells met notes =
    let is : outcome_next b items i ≡ Violated (ByPage p) =
    sym (outcome_is b items i step old mid tells.knows met) ∙ notes.adds.page in
    record {
      knows = knows_more b items i step old mid new (Ok (Some p)) tells.knows met notes
          (notes.adds.refused ∙ sym (ap (λ (o : Outcome). refused_after mid.refused o) notes.adds.page))
          (ap (λ (o : Outcome). uncaused_after None (noted_in b items).notes.step o) is);
      before = (told_in b items).violations;
      violations = violations_more b items i
          ∙ ap (λ (o : Outcome). violations_after (told_in b items).violations o) is;
      text = subst (λ t. AreToldBy b file (told_in b items).violations (string_bytes t)) (sym (notes.adds.text ∙ met.text))
          tells.text;
      within = page_within b items i p is;
    }

-- it has no cause
uncaused_next : (b : Bundle) (items : List Item) (i : Item) (step at : ℕ) (old mid new : Story) → Knows b items old →
    Met b items i step old mid → NotesNext b items i step mid new (Err (untold.Ended (ending.Unfit at))) →
    IsUnfitNext b items i at
uncaused_next b items i step at old mid new knows met notes = record {
  before = knows_fit b items old knows;
  unfit = inr (uncaused_more b items i knows.caused
      ∙ (ap (λ (o : Outcome). uncaused_after None (noted_in b items).notes.step o)
      (sym (outcome_is b items i step old mid knows met) ∙ notes.adds.1)
      ∙ ap (λ (n : ℕ). Some n) (sym (notes.adds.0 ∙ step_is b items i step old mid knows met))));
}

pub story_takes : (b : Bundle) (file : Option (List ℕ)) (items : List Item) (i : Item) (step : ℕ) (old mid new : Story)
    (r : Result (Option Presented) Untold) → Tells b file items old → Met b items i step old mid →
    NotesNext b items i step mid new r → StoryTakes b file items i new r
story_takes b file items i step old mid new (Ok None) tells met notes =
    tells_more b file items i step old mid new tells met notes
story_takes b file items i step old mid new (Ok (Some p)) tells met notes =
    owes_more b file items i step old mid new p tells met notes
story_takes b file items i step old mid new (Err untold.NoMemory) tells met notes = tt
story_takes b file items i step old mid new (Err (untold.Ended (ending.Unfit at))) tells met notes =
    uncaused_next b items i step at old mid new tells.knows met notes
story_takes b file items i step old mid new (Err (untold.Ended ending.Whole)) tells met notes = absurd notes.adds
story_takes b file items i step old mid new (Err (untold.Ended (ending.Fault fault))) tells met notes = absurd notes.adds
story_takes b file items i step old mid new (Err (untold.Ended ending.Unread)) tells met notes = absurd notes.adds

-- the item was noted, before which there are so many
pub notes_next : (b : Bundle) (items : List Item) (i : Item) (step before : ℕ) (mid new : Story)
    (r : Result (Option Presented) Untold) → length items ≡ before →
    NotesItem b (question_in b (items ++ i ∷ []) before) i step mid new r → NotesNext b items i step mid new r
notes_next b items i step before mid new r count notes =
    subst (λ (n : ℕ). NotesItem b (question_in b (items ++ i ∷ []) n) i step mid new r) (sym count) notes

-- an item that a machine did not take
pub lacks_unfit : (b : Bundle) (items : List Item) (i : Item) (s : Story) (step : ℕ) → Knows b items s →
    IsUnfitAlone b (items ++ i ∷ []) step → LacksNext b items i (untold.Ended (ending.Unfit step))
lacks_unfit b items i s step knows unfit = record { before = knows_fit b items s knows; unfit = inl unfit }

-- a page was told that was owed
pub tells_page : (b : Bundle) (file : Option (List ℕ)) (items : List Item) (p : Presented) (old new : Story)
    (text : List ℕ) → TellsBut b file items p old → KeepsStory old new → IsPageTold b file p text →
    string_bytes new.text ≡ string_bytes old.text ++ text → Tells b file items new
tells_page b file items p old new text tells keeps is grown = record {
  knows = record {
    watches = subst (λ (w : Watch). Watches b items w) (sym keeps.watch) tells.knows.watches;
    due = ap due_of keeps.target ∙ tells.knows.due;
    ended = keeps.ended ∙ tells.knows.ended;
    refused = keeps.refused ∙ tells.knows.refused;
    caused = tells.knows.caused;
  };
  text = subst (λ (vs : List Violation). AreToldBy b file vs (string_bytes new.text)) (sym tells.violations)
      (told_more_text b file tells.before (ByPage p) (string_bytes old.text) (string_bytes new.text) text tells.text grown is);
}

-- What one call adds.

-- text and count of refusals stayed before
pub adds_from : (o : Outcome) (step : ℕ) (old mid new : Story) (r : Result (Option Presented) Untold) →
    mid.text ≡ old.text → mid.refused ≡ old.refused → AddsOutcome o step mid new r → AddsOutcome o step old new r
adds_from o step old mid new (Ok None) text refused adds = record {
  text = subst (λ t. GrowsBy o (string_bytes t) (string_bytes new.text)) text adds.text;
  refused = adds.refused ∙ ap (λ (n : ℕ). refused_after n o) refused;
}
adds_from o step old mid new (Ok (Some p)) text refused adds = record {
  page = adds.page;
  text = adds.text ∙ text;
  refused = adds.refused ∙ refused;
}
adds_from o step old mid new (Err untold.NoMemory) text refused adds = tt
adds_from o step old mid new (Err (untold.Ended (ending.Unfit at))) text refused adds = adds
adds_from o step old mid new (Err (untold.Ended ending.Whole)) text refused adds = absurd adds
adds_from o step old mid new (Err (untold.Ended (ending.Fault fault))) text refused adds = absurd adds
adds_from o step old mid new (Err (untold.Ended ending.Unread)) text refused adds = absurd adds

-- the program of the context ended before
pub none_ended : (b : Bundle) (step : ℕ) (asked : Asking) (e r : Option ℕ) → r ≡ e → is_some r ≡ true →
    none_outcome b step asked e ≡ Violated (OfNone step asked r)
none_ended b step asked (Some at) r is some = ap (λ (x : Option ℕ). Violated (OfNone step asked x)) (sym is)
none_ended b step asked None r is some =
    absurd (false≢true (subst (λ (x : Option ℕ). is_some {T = ℕ} x ≡ true) is some))

-- there is no such program
pub none_past : (b : Bundle) (step : ℕ) (asked : Asking) (e r : Option ℕ) → r ≡ e →
    has_program b (domain_of asked.ctx) ≡ false → none_outcome b step asked e ≡ Violated (OfNone step asked r)
none_past b step asked (Some at) r is past = ap (λ (x : Option ℕ). Violated (OfNone step asked x)) (sym is)
none_past b step asked None r is past =
    ap (λ (t : Bool). if t then Uncaused else Violated (OfNone step asked None)) past
    ∙ ap (λ (x : Option ℕ). Violated (OfNone step asked x)) (sym is)

-- the context was asked for that a program ended by
pub resume_is : (asking : AskedResume) (why : Refused) (asked : Option Asking) (a : Asking) → asked ≡ Some a →
    asking.ctx ≡ a.ctx → resume_outcome asking why asked ≡ Violated (ByResume asking why)
resume_is asking why asked a is same =
    ap (λ (o : Option Asking). resume_outcome asking why o) is
    ∙ ap (λ (t : Bool). if t then Violated (ByResume asking why) else Uncaused) (eq-eqb asking.ctx a.ctx same)
