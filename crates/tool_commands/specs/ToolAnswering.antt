-- How the tools answer, by what the words ask for.
use Rattle.std.specs.Prelude.{ℕ, ◌≡◌, ◌⊎◌, ◌||◌, Bool, true, false, List, Option, Some, None, codes, string_bytes}
use Rattle.std.specs.Str.{bytes_eq}
use Rattle.io_traits.specs.Told.{SameFiles}
use Rattle.clap.specs.Walk.{Text}
use Rattle.asm_text.specs.Commanded.{AsmAnswers}
use Rattle.manifest.specs.Packing.{PackAnswers}
use Rattle.cloak_model.specs.Items.{Item}
use Rattle.record_json.specs.JsonText.{json_text}
use Rattle.record_text.specs.Reading.{record_text}
use Rattle.record_text.specs.declared.selection.Selection.{Selection}
use Rattle.read_back.specs.Reading.{ShowsRecord, never_unfit}
use Rattle.read_back.specs.declared.ending.Ending.{Ending}
use Rattle.draw_command.specs.Drawing.{DrawAnswers}
use Rattle.run_story.specs.Answering.{ExplainAnswers}
use Rattle.rv_asm.specs.Words.{magnitude}
use Rattle.disassembly.specs.Disassembling.{DisasmAnswers}
use Rattle.disassembly.specs.ImageParts.{DisasmsPart}
use Rattle.disassembly.specs.declared.part.ImagePart.{ImagePart}
use Rattle.disassembly.specs.declared.part.ImagePart.TheVariants as part
use Rattle.std.specs.Option.{option_map_or}
use Rattle.command_words.specs.Command.{OldFiles}
use Rattle.run_trace.specs.Answering.{TraceAnswers}
use Rattle.run_trace.specs.AnsweringOver.{TraceOverAnswers}
use Rattle.run_trace.specs.declared.choice.TraceChoice.{TraceChoice}
use Rattle.command_parts.specs.Outside.{Outside}
use Rattle.command_parts.specs.declared.status.Status.{Status}
use Rattle.command_parts.specs.declared.status.Status.TheVariants as status
use Rattle.tool_words.specs.ToolCommand.{ToolAsked, Asm, Disasm, Pack, Show, Trace, Draw, Explain, AreFaulty, AreNotTaken, AsksTool}
use Rattle.tool_words.specs.ToolRequest.{tool_asked_of}
use Rattle.tool_words.specs.declared.request.ToolWords.{ToolWords}
use Rattle.tool_words.specs.declared.request.ToolWords.TheVariants.{Asks, Help, Faulty}
use Rattle.tool_commands.specs.KindNames.{selection_asked}
use Rattle.tool_commands.specs.declared.choosing.WordsMeant.{WordsMeant}
use Rattle.tool_commands.specs.declared.choosing.WordsMeant.TheVariants.{FileFrom, PartOf, NoAddress, Several}
use Rattle.tool_commands.specs.ToolSaying.{Says}
use Rattle.command_parts.specs.Refusing.{LacksMemory}

-- a name is that of no kind
abbrev pub kinds_line : List ℕ
kinds_line = codes "error: --only has an unknown kind\n"

-- as objects of JSON, or in lines
abbrev pub shown_text : (json : Bool) → Selection → List Item → Option Ending → List ℕ
shown_text true meant = json_text meant
shown_text false meant = record_text meant

-- What is meant of the record of this name was shown, up to its end or its first fault, and no file was changed.
pub record ShowsSelection {S O : Type 0} (json : Bool) (meant : Selection) (record_name : List ℕ) (before after : Outside S O)
    (answer : Status) : Type 0 where
  pub shows : ShowsRecord never_unfit (shown_text json meant) record_name answer before after
  pub kept : SameFiles before.files.held after.files.held
  pub writing : after.files.writing ≡ before.files.writing

abbrev pub ShowAnswers : {S O : Type 0} → (json : Bool) → Option Selection → List ℕ → Outside S O → Outside S O → Status →
    Type 0
ShowAnswers json None record_name before after answer = Says kinds_line status.Usage before after answer
ShowAnswers json (Some meant) record_name before after answer = ShowsSelection json meant record_name before after answer

-- the address that is meant: 0 without an option, or what the text is as a number of the assembler
abbrev pub base_asked : Option (List ℕ) → Option ℕ
base_asked None = Some 0
base_asked (Some text) = magnitude text

-- the text is no address
abbrev pub base_line : List ℕ
base_line = codes "error: --base is not an address\n"

-- more than one is asked for of an address, a segment and a program
abbrev pub several_line : List ℕ
several_line = codes "error: of --base, --segment and --program only one may be given\n"

-- a part of an image, unless an address is asked for, too
abbrev pub part_asked : Option (List ℕ) → ImagePart → WordsMeant
part_asked None p = PartOf p
part_asked (Some text) p = Several

-- Which words are meant: those of a file, if its first address is one; or those of a part of an image.
abbrev pub words_asked : Option (List ℕ) → (segment program : Option ℕ) → WordsMeant
words_asked base None None = option_map_or FileFrom (base_asked base) NoAddress
words_asked base (Some number) None = part_asked base (part.Segment number)
words_asked base None (Some number) = part_asked base (part.Program number)
words_asked base (Some segment) (Some program) = Several

abbrev pub DisasmMeans : {S O : Type 0} → WordsMeant → List ℕ → Outside S O → Outside S O → Status → Type 0
DisasmMeans (FileFrom base) words_name before after answer = DisasmAnswers base words_name before after answer
DisasmMeans (PartOf p) words_name before after answer = DisasmsPart p words_name before after answer
DisasmMeans NoAddress words_name before after answer = Says base_line status.Usage before after answer
DisasmMeans Several words_name before after answer = Says several_line status.Usage before after answer

-- The steps of the run of the record of this name were shown, or why that cannot be, and no file was changed.
pub record ShowsTrace {S O : Type 0} (bundle_name record_name : List ℕ) (program : Option ℕ) (choice : TraceChoice)
    (before after : Outside S O) (answer : Status) : Type 0 where
  pub answers : TraceAnswers bundle_name record_name program choice before after answer
  pub kept : SameFiles before.files.held after.files.held
  pub writing : after.files.writing ≡ before.files.writing

-- the cloaked files that a run went on from: all three are named, or none
abbrev pub OldAsked : Type 0
OldAsked = Option (Option OldFiles)

unfoldable pub old_asked : (old secret : Option (List ℕ)) → (counter : Option ℕ) → OldAsked
old_asked None None None = Some None
old_asked None None (Some counter) = None
old_asked None (Some secret) counter = None
old_asked (Some old) None counter = None
old_asked (Some old) (Some secret) None = None
old_asked (Some old) (Some secret) (Some counter) =
    Some (Some (record { old_name = old; secret_name = secret; counter = counter }))

abbrev pub old_line : List ℕ
old_line = codes "error: --files, --secret and --counter are given together, and with --program\n"

-- the side of a program that began with files
pub record ShowsOver {S O : Type 0} (bundle_name record_name : List ℕ) (number : ℕ) (old : OldFiles) (choice : TraceChoice)
    (before after : Outside S O) (answer : Status) : Type 0 where
  pub answers : TraceOverAnswers bundle_name record_name number old choice before after answer
  pub kept : SameFiles before.files.held after.files.held
  pub writing : after.files.writing ≡ before.files.writing

-- the side of a program without files, or of the kernel; or of a program that began with files
abbrev pub TraceFrom : {S O : Type 0} → OldAsked → (bundle_name record_name : List ℕ) → (program : Option ℕ) → TraceChoice →
    Outside S O → Outside S O → Status → Type 0
TraceFrom None bundle_name record_name program choice before after answer =
    Says old_line status.Usage before after answer
TraceFrom (Some None) bundle_name record_name program choice before after answer =
    ShowsTrace bundle_name record_name program choice before after answer
TraceFrom (Some (Some old)) bundle_name record_name None choice before after answer =
    Says old_line status.Usage before after answer
TraceFrom (Some (Some old)) bundle_name record_name (Some number) choice before after answer =
    ShowsOver bundle_name record_name number old choice before after answer

abbrev pub choice_asked : (from to : ℕ) → (hart : Option ℕ) → TraceChoice
choice_asked from to hart = record { from = from; to = to; hart = hart }

-- The violations of the run of the record of this name were told, or why that cannot be, and no file was changed.
pub record ExplainsRun {S O : Type 0} (bundle_name record_name : List ℕ) (before after : Outside S O) (answer : Status) : Type 0 where
  pub answers : ExplainAnswers bundle_name record_name before after answer
  pub kept : SameFiles before.files.held after.files.held
  pub writing : after.files.writing ≡ before.files.writing

-- a picture would take the place of the image or of the record
abbrev pub is_taken : (out_name bundle_name record_name : List ℕ) → Bool
is_taken out_name bundle_name record_name = bytes_eq out_name bundle_name || bytes_eq out_name record_name

abbrev pub taken_line : List ℕ
taken_line = codes "error: OUT is BUNDLE or RECORD\n"

abbrev pub DrawFrom : {S O : Type 0} → Bool → (bundle_name record_name out_name : List ℕ) → Outside S O → Outside S O →
    Status → Type 0
DrawFrom true bundle_name record_name out_name before after answer = Says taken_line status.Usage before after answer
DrawFrom false bundle_name record_name out_name before after answer =
    DrawAnswers bundle_name record_name out_name before after answer

-- How the tools answer what is asked of them.
abbrev pub ToolAnswers : {S O : Type 0} → ToolAsked → Outside S O → Outside S O → Status → Type 0
ToolAnswers (Asm text_name words_name) before after answer = AsmAnswers text_name words_name before after answer
ToolAnswers (Disasm words_name base segment program) before after answer =
    DisasmMeans (words_asked base segment program) words_name before after answer
ToolAnswers (Pack manifest bundle_name) before after answer = PackAnswers manifest bundle_name before after answer
ToolAnswers (Show record_name from to only counts json) before after answer =
    ShowAnswers json (selection_asked from to only counts) record_name before after answer
ToolAnswers (Trace bundle_name record_name program from to hart named) before after answer =
    TraceFrom (old_asked named.old named.secret named.counter) bundle_name record_name program (choice_asked from to hart)
    before after answer
ToolAnswers (Draw bundle_name record_name out_name) before after answer =
    DrawFrom (is_taken out_name bundle_name record_name) bundle_name record_name out_name before after answer
ToolAnswers (Explain bundle_name record_name) before after answer = ExplainsRun bundle_name record_name before after answer

-- how they answer what was read of words
abbrev pub ReadAnswers : {S O : Type 0} → ToolWords → Outside S O → Outside S O → Status → Type 0
ReadAnswers (Asks request) before after answer = ToolAnswers (tool_asked_of request) before after answer
ReadAnswers (Help text) before after answer = Says (string_bytes text) status.Done before after answer
ReadAnswers (Faulty text) before after answer = Says (string_bytes text) status.Usage before after answer

-- The words are taken, and this was answered to what they ask for.
pub record DoesAsked {S O : Type 0} (words : List Text) (before after : Outside S O) (answer : Status) : Type 0 where
  pub asked : ToolAsked
  pub asks : AsksTool words asked
  pub answers : ToolAnswers asked before after answer

-- a text of `clap`
pub record SaysSomething {S O : Type 0} (meant : Status) (before after : Outside S O) (answer : Status) : Type 0 where
  pub text : List ℕ
  pub says : Says text meant before after answer

-- How the tools answer words, of which the first is the program's name.
abbrev pub WordsAnswers : {S O : Type 0} → List Text → Outside S O → Outside S O → Status → Type 0
WordsAnswers words before after answer =
    DoesAsked words before after answer
    ⊎ ((AreNotTaken words true × SaysSomething status.Done before after answer)
    ⊎ ((AreFaulty words × SaysSomething status.Usage before after answer)
    ⊎ LacksMemory before after answer))
