-- What items tell with one more.
use Rattle.std.proofs.Common.{◌≡◌, ℕ, List, [], ◌∷◌, ◌++◌, length, Option, None, refl, sym, ap, subst, ◌∙◌, append_assoc, append-nil}
use Rattle.std.specs.List.{fold}
use Rattle.std.proofs.lemmas.List.Sums.{fold-append}
use Rattle.cloak_model.specs.declared.image.Bundle.{Bundle}
use Rattle.cloak_model.specs.Items.{Item}
use Rattle.replayed_run.specs.Noted.{noted_in}
use Rattle.run_story.specs.Passages.{AreToldBy, IsToldAtOnce, IsToldBy}
use Rattle.run_story.specs.Telling.{GrowsBy}
use Rattle.run_story.specs.Told.{ByPage, ByQuestion, ByResume, OfNone, Outcome, Quiet, Told, Uncaused, Violated, Violation, due_after, due_met, ended_after, none_told, outcome_of, question_in, refused_after, told_in, told_more, told_next, told_with, uncaused_after, violations_after}

-- the items that were told
items_told : (b : Bundle) (t : Told) (items : List Item) → (fold (told_more b) t items).items ≡ t.items ++ items
unfolding told_next told_with
items_told b t [] = sym (append-nil t.items)
items_told b t (i ∷ items) = items_told b (told_more b t i) items ∙ append_assoc t.items (i ∷ []) items

pub told_items : (b : Bundle) (items : List Item) → (told_in b items).items ≡ items
told_items b items = items_told b none_told items

-- One item more.

-- what it tells
abbrev pub outcome_next : Bundle → List Item → Item → Outcome
outcome_next b items i =
    outcome_of b (noted_in b items).notes.step (told_in b items).ended
    (due_met b items (noted_in b items).notes (told_in b items).due i) (noted_in b (items ++ i ∷ [])).notes.asked i

told_in_more : (b : Bundle) (items : List Item) (i : Item) →
    told_in b (items ++ i ∷ []) ≡ told_next b items (told_in b items) i
told_in_more b items i =
    fold-append (told_more b) none_told items (i ∷ [])
    ∙ ap (λ (l : List Item). told_next b l (told_in b items) i) (told_items b items)

pub due_more : (b : Bundle) (items : List Item) (i : Item) →
    (told_in b (items ++ i ∷ [])).due
    ≡ due_after (question_in b (items ++ i ∷ []) (length items))
    (due_met b items (noted_in b items).notes (told_in b items).due i) i
unfolding told_next told_with
due_more b items i = ap (λ (t : Told). t.due) (told_in_more b items i)

pub ended_more : (b : Bundle) (items : List Item) (i : Item) →
    (told_in b (items ++ i ∷ [])).ended ≡ ended_after (told_in b items).ended (noted_in b items).notes.step i
unfolding told_next told_with
ended_more b items i = ap (λ (t : Told). t.ended) (told_in_more b items i)

pub refused_more : (b : Bundle) (items : List Item) (i : Item) →
    (told_in b (items ++ i ∷ [])).refused ≡ refused_after (told_in b items).refused (outcome_next b items i)
unfolding told_next told_with
refused_more b items i = ap (λ (t : Told). t.refused) (told_in_more b items i)

pub violations_more : (b : Bundle) (items : List Item) (i : Item) →
    (told_in b (items ++ i ∷ [])).violations ≡ violations_after (told_in b items).violations (outcome_next b items i)
unfolding told_next told_with
violations_more b items i = ap (λ (t : Told). t.violations) (told_in_more b items i)

pub uncaused_more : (b : Bundle) (items : List Item) (i : Item) → (told_in b items).uncaused ≡ None →
    (told_in b (items ++ i ∷ [])).uncaused ≡ uncaused_after None (noted_in b items).notes.step (outcome_next b items i)
unfolding told_next told_with
uncaused_more b items i caused =
    ap (λ (t : Told). t.uncaused) (told_in_more b items i)
    ∙ ap (λ (u : Option ℕ). uncaused_after u (noted_in b items).notes.step (outcome_next b items i)) caused

-- Texts.

-- a passage more
told_append : (b : Bundle) (file : Option (List ℕ)) (vs : List Violation) (text : List ℕ) (v : Violation)
    (last : List ℕ) → AreToldBy b file vs text → IsToldBy b file v last → AreToldBy b file (vs ++ v ∷ []) (text ++ last)
told_append b file [] text v last are is =
    (last, [], ap (λ (t : List ℕ). t ++ last) are ∙ sym (append-nil last), is, refl)
told_append b file (w ∷ vs) text v last are is = (
  are.0,
  are.1 ++ last,
  ap (λ (t : List ℕ). t ++ last) are.2 ∙ append_assoc are.0 are.1 last,
  are.3,
  told_append b file vs are.1 v last are.4 is,
)

pub told_more_text : (b : Bundle) (file : Option (List ℕ)) (vs : List Violation) (v : Violation) (old new last : List ℕ) →
    AreToldBy b file vs old → new ≡ old ++ last → IsToldBy b file v last → AreToldBy b file (vs ++ v ∷ []) new
told_more_text b file vs v old new last are grown is =
    subst (λ (t : List ℕ). AreToldBy b file (vs ++ v ∷ []) t) (sym grown) (told_append b file vs old v last are is)

-- what is told at once is told of each file
at_once : (b : Bundle) (file : Option (List ℕ)) (v : Violation) (text : List ℕ) → IsToldAtOnce v text →
    IsToldBy b file v text
at_once b file (ByQuestion step ctx) text is = is
at_once b file (ByPage p) text is = absurd is
at_once b file (ByResume asking why) text is = is
at_once b file (OfNone step asked ended) text is = is

pub told_grows : (b : Bundle) (file : Option (List ℕ)) (o : Outcome) (vs : List Violation) (old new : List ℕ) →
    AreToldBy b file vs old → GrowsBy o old new → AreToldBy b file (violations_after vs o) new
told_grows b file Quiet vs old new are grows = subst (λ (t : List ℕ). AreToldBy b file vs t) (sym grows) are
told_grows b file (Violated v) vs old new are grows =
    told_more_text b file vs v old new grows.0 are grows.1 (at_once b file v grows.0 grows.2)
told_grows b file Uncaused vs old new are grows = absurd grows

-- what was told has its cause
pub grows_caused : (o : Outcome) (step : ℕ) (old new : List ℕ) → GrowsBy o old new → uncaused_after None step o ≡ None
grows_caused Quiet step old new grows = refl
grows_caused (Violated v) step old new grows = refl
grows_caused Uncaused step old new grows = absurd grows
