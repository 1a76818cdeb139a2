-- What is answered, by what was chosen of a record, and by what was read of words.
use Rattle.std.proofs.Common.{◌≡◌, ℕ, Bool, List, Option, inl, inr, subst, sym, string_bytes}
use Rattle.record_text.specs.declared.selection.Selection.{Selection}
use Rattle.clap.specs.Walk.{Text}
use Rattle.command_parts.specs.Outside.{Outside}
use Rattle.command_parts.specs.declared.status.Status.{Status}
use Rattle.tool_words.specs.ToolRequest.{ReadsTool, tool_asked_of}
use Rattle.tool_words.specs.declared.request.ToolWords.{ToolWords}
use Rattle.tool_words.specs.declared.request.ToolWords.TheVariants.{Asks, Help, Faulty}
use Rattle.run_trace.specs.declared.choice.TraceChoice.{TraceChoice}
use Rattle.tool_commands.specs.declared.choosing.WordsMeant.{WordsMeant}
use Rattle.tool_commands.specs.ToolAnswering.{DisasmMeans, DrawFrom, OldAsked, ReadAnswers, ShowAnswers, ShowsSelection, TraceFrom, WordsAnswers}

pub shows_meant : {S O : Type 0} (json : Bool) (meant same : Option Selection) (record_name : List ℕ)
    (before after : Outside S O) (answer : Status) → meant ≡ same →
    ShowAnswers json meant record_name before after answer → ShowAnswers json same record_name before after answer
shows_meant json meant same record_name before after answer is answers =
    subst (λ (chosen : Option Selection). ShowAnswers json chosen record_name before after answer) is answers

-- objects or lines, as it is asked
pub shows_as : {S O : Type 0} (json is : Bool) (meant : Selection) (record_name : List ℕ) (before after : Outside S O)
    (answer : Status) → json ≡ is → ShowsSelection is meant record_name before after answer →
    ShowsSelection json meant record_name before after answer
shows_as json is meant record_name before after answer same shows =
    subst (λ (b : Bool). ShowsSelection b meant record_name before after answer) (sym same) shows

pub disasm_meant : {S O : Type 0} (meant same : WordsMeant) (words_name : List ℕ) (before after : Outside S O)
    (answer : Status) → meant ≡ same → DisasmMeans meant words_name before after answer →
    DisasmMeans same words_name before after answer
disasm_meant meant same words_name before after answer is answers =
    subst (λ (words : WordsMeant). DisasmMeans words words_name before after answer) is answers

pub traces_meant : {S O : Type 0} (bundle_name record_name : List ℕ) (program : Option ℕ) (old was : OldAsked)
    (meant same : TraceChoice) (before after : Outside S O) (answer : Status) → old ≡ was → meant ≡ same →
    TraceFrom old bundle_name record_name program meant before after answer →
    TraceFrom was bundle_name record_name program same before after answer
traces_meant bundle_name record_name program old was meant same before after answer is_old is traces =
    subst (λ (asked : OldAsked). TraceFrom asked bundle_name record_name program same before after answer) is_old
    (subst (λ (choice : TraceChoice). TraceFrom old bundle_name record_name program choice before after answer) is traces)

pub draw_meant : {S O : Type 0} (meant same : Bool) (bundle_name record_name out_name : List ℕ) (before after : Outside S O)
    (answer : Status) → meant ≡ same → DrawFrom meant bundle_name record_name out_name before after answer →
    DrawFrom same bundle_name record_name out_name before after answer
draw_meant meant same bundle_name record_name out_name before after answer is answers =
    subst (λ (taken : Bool). DrawFrom taken bundle_name record_name out_name before after answer) is answers

pub answers_read : {S O : Type 0} (words : List Text) (read : ToolWords) (before after : Outside S O) (answer : Status) →
    ReadsTool words read → ReadAnswers read before after answer → WordsAnswers words before after answer
answers_read words (Asks request) before after answer reads answers =
    inl (record { asked = tool_asked_of request; asks = reads; answers = answers })
answers_read words (Help text) before after answer reads answers =
    inr (inl (reads, record { text = string_bytes text; says = answers }))
answers_read words (Faulty text) before after answer reads answers =
    inr (inr (inl (reads, record { text = string_bytes text; says = answers })))
