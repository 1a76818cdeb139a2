-- What is noted of items and one more.
use Rattle.std.proofs.Common.{◌≡◌, ◌+◌, ◌*◌, ◌/◌, ◌&&◌, ℕ, Bool, true, false, not, List, [], ◌∷◌, ◌++◌, Option, Some, add-one, refl, sym, ap, ◌∙◌, append_assoc, append-nil}
use Rattle.std.specs.List.{fold}
use Rattle.std.proofs.lemmas.List.Sums.{fold-append}
use Rattle.cloak_model.specs.declared.image.Bundle.{Bundle}
use Rattle.cloak_model.specs.Items.{Item}
use Rattle.cloak_model.specs.declared.outcome.Kernel.{Kernel}
use Rattle.cloak_model.specs.KernelAlone as model
use Rattle.cloak_model.specs.KernelAlone.{kernel_alone, kernel_hart}
use Rattle.alone_views.specs.KernelEnding.{plain_ending}
use Rattle.replayed_run.specs.Alone.{standing_told, words_of}
use Rattle.replayed_run.specs.ContextsTold.{resumed_at}
use Rattle.replayed_run.specs.Machines.{StandAlone}
use Rattle.replayed_run.specs.Noted.{Noted, asked_at_end, asked_from, asked_unless, halted_at_end, halted_by, halted_from, is_in_space, is_left, no_notes, noted_in, noted_more, notes_after, resume_noted}
use Rattle.replayed_run.specs.PagesTold.{Paged, PagesTold, opened_pages, paged_in, paged_more, pages_after, pages_of}
use Rattle.replayed_run.specs.Questions.{Questioned, no_questions, question_for, questioned_in, questioned_more, questions_after}
use Rattle.replayed_run.specs.Watching.{Watches, notes_of}
use Rattle.replayed_run.specs.declared.machines.HartWords.{HartWords}
use Rattle.replayed_run.specs.declared.machines.StandingContext.{StandingContext}
use Rattle.replayed_run.specs.declared.notes.Notes.{Notes}
use Rattle.replayed_run.specs.declared.questions.Questions.{Questions}
use Rattle.replayed_run.specs.declared.watch.Watch.{Watch}

-- the items that were noted
items_noted : (b : Bundle) (n : Noted) (items : List Item) → (fold (noted_more b) n items).items ≡ n.items ++ items
unfolding noted_more
items_noted b n [] = sym (append-nil n.items)
items_noted b n (i ∷ items) = items_noted b (noted_more b n i) items ∙ append_assoc n.items (i ∷ []) items

pub noted_items : (b : Bundle) (items : List Item) → (noted_in b items).items ≡ items
noted_items b items = items_noted b (record { items = []; notes = no_notes }) items

-- one item more
pub noted_in_more : (b : Bundle) (items : List Item) (i : Item) →
    noted_in b (items ++ i ∷ []) ≡ noted_more b (noted_in b items) i
noted_in_more b items i = fold-append (noted_more b) (record { items = []; notes = no_notes }) items (i ∷ [])

notes_more : (b : Bundle) (items : List Item) (i : Item) →
    (noted_in b (items ++ i ∷ [])).notes ≡ notes_after b items (items ++ i ∷ []) (noted_in b items).notes i
unfolding noted_more
notes_more b items i =
    ap (λ (n : Noted). n.notes) (noted_in_more b items i)
    ∙ ap (λ (l : List Item). notes_after b l (l ++ i ∷ []) (noted_in b items).notes i) (noted_items b items)

-- the items that were questioned
items_questioned : (b : Bundle) (n : Questioned) (items : List Item) →
    (fold (questioned_more b) n items).items ≡ n.items ++ items
unfolding questioned_more
items_questioned b n [] = sym (append-nil n.items)
items_questioned b n (i ∷ items) = items_questioned b (questioned_more b n i) items ∙ append_assoc n.items (i ∷ []) items

questioned_items : (b : Bundle) (items : List Item) → (questioned_in b items).items ≡ items
questioned_items b items = items_questioned b (record { items = []; questions = no_questions }) items

questions_more : (b : Bundle) (items : List Item) (i : Item) →
    (questioned_in b (items ++ i ∷ [])).questions
    ≡ questions_after (questioned_in b items).questions
    (question_for b items (questioned_in b items).questions.answers i) i
unfolding questioned_more
questions_more b items i =
    let q = (questioned_in b items).questions in
    ap (λ (n : Questioned). n.questions)
    (fold-append (questioned_more b) (record { items = []; questions = no_questions }) items (i ∷ []))
    ∙ ap (λ (l : List Item). questions_after q (question_for b l q.answers i) i) (questioned_items b items)

-- the questions with an item more
pub asked_more : (b : Bundle) (items : List Item) (i : Item) (old new : Questions) →
    old ≡ (questioned_in b items).questions → new ≡ questions_after old (question_for b items old.answers i) i →
    new ≡ (questioned_in b (items ++ i ∷ [])).questions
asked_more b items i old new was asked =
    asked
    ∙ (ap (λ (q : Questions). questions_after q (question_for b items q.answers i) i) was ∙ sym (questions_more b items i))

-- the items after which the pages are told
items_paged : (b : Bundle) (n : Paged) (items : List Item) → (fold (paged_more b) n items).items ≡ n.items ++ items
unfolding paged_more
items_paged b n [] = sym (append-nil n.items)
items_paged b n (i ∷ items) = items_paged b (paged_more b n i) items ∙ append_assoc n.items (i ∷ []) items

paged_items : (b : Bundle) (items : List Item) → (paged_in b items).items ≡ items
paged_items b items = items_paged b (record { items = []; pages = opened_pages b.kernel.frames b.programs }) items

pages_more : (b : Bundle) (items : List Item) (i : Item) →
    (paged_in b (items ++ i ∷ [])).pages ≡ pages_after b items (items ++ i ∷ []) (paged_in b items).pages i
unfolding paged_more
pages_more b items i =
    let p = (paged_in b items).pages in
    ap (λ (n : Paged). n.pages)
    (fold-append (paged_more b) (record { items = []; pages = opened_pages b.kernel.frames b.programs }) items (i ∷ []))
    ∙ ap (λ (l : List Item). pages_after b l (l ++ i ∷ []) p i) (paged_items b items)

-- the machines took an item, and it was noted
pub watches_more : (b : Bundle) (items : List Item) (i : Item) (old new : Watch) → Watches b items old →
    StandAlone b (items ++ i ∷ []) new.machines →
    notes_of new ≡ notes_after b items (items ++ i ∷ []) (notes_of old) i →
    new.questions ≡ questions_after old.questions (question_for b items old.questions.answers i) i →
    pages_of new.pages ≡ pages_after b items (items ++ i ∷ []) (pages_of old.pages) i →
    Watches b (items ++ i ∷ []) new
watches_more b items i old new watched stand noted asked paged = record {
  machines = stand;
  notes = noted ∙ (ap (λ (n : Notes). notes_after b items (items ++ i ∷ []) n i) watched.notes ∙ sym (notes_more b items i));
  questions = asked_more b items i old.questions new.questions watched.questions asked;
  pages = paged
      ∙ (ap (λ (p : PagesTold). pages_after b items (items ++ i ∷ []) p i) watched.pages ∙ sym (pages_more b items i));
}

-- for which context a hart asked, by how the last plain step ended

asked_as : (s : model.KernelAlone) (stage : model.KernelStage) (ending : Kernel) →
    ((number : ℕ) → stage ≡ model.Outside number → ending ≡ plain_ending number s) →
    asked_from stage (λ hart. ending) ≡ asked_from stage (λ hart. plain_ending hart s)
asked_as s (model.Outside hart) ending ends = ap (λ (e : Kernel). asked_from (model.Outside hart) (λ h. e)) (ends hart refl)
asked_as s model.Between ending ends = refl
asked_as s (model.Inside hart ctx) ending ends = refl
asked_as s model.Left ending ends = refl

pub asked_told : (s : model.KernelAlone) (stage : model.KernelStage) (ending : Kernel) (resumed : Bool) → s.stage ≡ stage →
    ((number : ℕ) → s.stage ≡ model.Outside number → ending ≡ plain_ending number s) →
    asked_unless resumed stage ending ≡ asked_at_end resumed s
asked_told s stage ending true is ends = refl
asked_told s stage ending false is ends =
    asked_as s stage ending (λ number at. ends number (is ∙ at))
    ∙ ap (λ (p : model.KernelStage). asked_from p (λ hart. plain_ending hart s)) (sym is)

-- with which value a hart halted, by how the last plain step ended

pub halted_told : (s : model.KernelAlone) (stage : model.KernelStage) (ending : Kernel) → s.stage ≡ stage →
    ((number : ℕ) → s.stage ≡ model.Outside number → ending ≡ plain_ending number s) →
    halted_from stage (λ hart. ending) ≡ halted_at_end s
halted_told s (model.Outside hart) ending is ends =
    ap (λ (e : Kernel). halted_by e) (ends hart is)
    ∙ ap (λ (p : model.KernelStage). halted_from p (λ number. plain_ending number s)) (sym is)
halted_told s model.Between ending is ends =
    ap (λ (p : model.KernelStage). halted_from p (λ number. plain_ending number s)) (sym is)
halted_told s (model.Inside hart ctx) ending is ends =
    ap (λ (p : model.KernelStage). halted_from p (λ number. plain_ending number s)) (sym is)
halted_told s model.Left ending is ends =
    ap (λ (p : model.KernelStage). halted_from p (λ number. plain_ending number s)) (sym is)

-- a context that a hart outside resumed
pub resumed_told : (b : Bundle) (items : List Item) (n : Notes) (ctx hart : ℕ) (c : StandingContext) (words : HartWords) →
    (kernel_alone b.kernel items).stage ≡ model.Outside hart → standing_told b items ctx ≡ Some c →
    words ≡ words_of (kernel_hart (kernel_alone b.kernel items).kernel hart) →
    resumed_at n.contexts ctx c.space words.satp n.step
    ≡ resume_noted n ctx (kernel_alone b.kernel items).stage (kernel_alone b.kernel items) (standing_told b items ctx)
resumed_told b items n ctx hart c words at there is =
    let s = kernel_alone b.kernel items in
    ap (λ (w : HartWords). resumed_at n.contexts ctx c.space w.satp n.step) is
    ∙ (ap (λ (o : Option StandingContext). resume_noted n ctx (model.Outside hart) s o) (sym there)
    ∙ ap (λ (p : model.KernelStage). resume_noted n ctx p s (standing_told b items ctx)) (sym at))

-- one context more is looked at
pub left_more : (b : Bundle) (items : List Item) (space n : ℕ) →
    is_left b items space (n + 1)
    ≡ (is_left b items space n && not (is_in_space space (standing_told b items (space / 8 * 8 + n))))
unfolding is_left
left_more b items space n = ap (λ (k : ℕ). is_left b items space k) (add-one n)

pub left_none : (b : Bundle) (items : List Item) (space : ℕ) → true ≡ is_left b items space 0
unfolding is_left
left_none b items space = refl
