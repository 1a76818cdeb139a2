use Rattle.std.proofs.Common.{◌∙◌, ℕ, ◌++◌, [], ◌∷◌, false, sym, ap, Option}
use Rattle.cloak_model.specs.Items.{Item, item_of}
use Rattle.cloak_model.specs.KernelAlone.{kernel_alone}
use Rattle.alone_views.specs.KernelEnding.{is_end}
use Rattle.alone_views.specs.KernelStages.{stood_stage}
use Rattle.replayed_run.specs.Noted.{asked_at_end, halted_from, notes_after}
use Rattle.replayed_run.specs.declared.notes.Asking.{Asking}
use Rattle.replayed_run.specs.declared.notes.Notes.{Notes}
use Rattle.replayed_run.proofs.NotedMore.{asked_told, halted_told}
use Rattle.replayed_run.proofs.watch.Watch.note.Goals as goal

pub returns-in-Step-clause-notes : goal.returns-in-Step-clause-notes
returns-in-Step-clause-notes c = λ b items took.
    let n = c.args.self.now.notes in
    let s = kernel_alone b.kernel items in
    let stage = stood_stage c.args.stage in
    let ending = c.args.self.now.machines.kernel.ending in
    let begun : Notes → Notes = λ m. record m { step = c.in-Step.number; has_resumed = false } in
    let ended : Option Asking → Option ℕ → Notes = λ a h. begun (record n { asked = a; halted = h }) in
    let noted : Item → Notes = λ i. notes_after b items (items ++ item_of c.args.item.now ∷ []) n i in
    let ends = took.took.step.ends (ap is_end (ap item_of c.in-Step.is)) in
    c.note_begin.ensures.notes
    ∙ (ap begun c.note_end.ensures.notes
    ∙ (ap (λ (a : Option Asking). ended a (halted_from stage (λ hart. ending)))
    (asked_told s stage ending n.has_resumed took.stage ends)
    ∙ (ap (λ (h : Option ℕ). ended (asked_at_end n.has_resumed s) h) (halted_told s stage ending took.stage ends)
    ∙ sym (ap noted (ap item_of c.in-Step.is)))))

pub returns-in-Close-clause-notes : goal.returns-in-Close-clause-notes
returns-in-Close-clause-notes c = λ b items took.
    let n = c.args.self.now.notes in
    let s = kernel_alone b.kernel items in
    let stage = stood_stage c.args.stage in
    let ending = c.args.self.now.machines.kernel.ending in
    let ended : Option Asking → Option ℕ → Notes = λ a h. record n { asked = a; halted = h } in
    let noted : Item → Notes = λ i. notes_after b items (items ++ item_of c.args.item.now ∷ []) n i in
    let ends = took.took.step.ends (ap is_end (ap item_of c.in-Close.is)) in
    c.note_end-in-Close.ensures.notes
    ∙ (ap (λ (a : Option Asking). ended a (halted_from stage (λ hart. ending)))
    (asked_told s stage ending n.has_resumed took.stage ends)
    ∙ (ap (λ (h : Option ℕ). ended (asked_at_end n.has_resumed s) h) (halted_told s stage ending took.stage ends)
    ∙ sym (ap noted (ap item_of c.in-Close.is))))

pub returns-in-Cipher-clause-notes : goal.returns-in-Cipher-clause-notes
returns-in-Cipher-clause-notes c = λ b items took.
    let noted : Item → Notes = λ i. notes_after b items (items ++ item_of c.args.item.now ∷ []) c.args.self.now.notes i in
    c.note_missed.ensures.notes ∙ sym (ap noted (ap item_of c.in-Cipher.is))

pub returns-in-Resume-clause-notes : goal.returns-in-Resume-clause-notes
returns-in-Resume-clause-notes c = λ b items took.
    let noted : Item → Notes = λ i. notes_after b items (items ++ item_of c.args.item.now ∷ []) c.args.self.now.notes i in
    c.note_resume.ensures.notes b (items ++ item_of c.args.item.now ∷ []) took.took.stands ∙ sym (ap noted (ap item_of c.in-Resume.is))

pub returns-in-Leave-clause-notes : goal.returns-in-Leave-clause-notes
returns-in-Leave-clause-notes c = λ b items took.
    let noted : Item → Notes = λ i. notes_after b items (items ++ item_of c.args.item.now ∷ []) c.args.self.now.notes i in
    c.note_leave.ensures.notes b (items ++ item_of c.args.item.now ∷ []) took.took.stands ∙ sym (ap noted (ap item_of c.in-Leave.is))

pub returns-in-Stopped-clause-notes : goal.returns-in-Stopped-clause-notes
returns-in-Stopped-clause-notes c = λ b items took.
    let noted : Item → Notes = λ i. notes_after b items (items ++ item_of c.args.item.now ∷ []) c.args.self.now.notes i in
    sym (ap noted (ap item_of c.in-Stopped.is))

pub returns-in-Ended-clause-notes : goal.returns-in-Ended-clause-notes
returns-in-Ended-clause-notes c = λ b items took.
    let noted : Item → Notes = λ i. notes_after b items (items ++ item_of c.args.item.now ∷ []) c.args.self.now.notes i in
    sym (ap noted (ap item_of c.in-Ended.is))
