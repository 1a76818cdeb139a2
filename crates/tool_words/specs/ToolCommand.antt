-- What is asked of the tools.
use Rattle.std.specs.Prelude.{ℕ, ◌≡◌, ◌⊎◌, ◌^◌, ◌-◌, ◌==◌, ◌&&◌, Bool, true, false, List, [], codes, length, nat_lt}
use Rattle.std.specs.Prelude.{Option, Some, None, option_and_then, option_map, if◌then◌else◌}
use Rattle.std.specs.List.{list_all, slice_split}
use Rattle.std.specs.Option.{option_map_or}
use Rattle.std.specs.Char.{digit_value}
use Rattle.std.specs.Str.{bytes_eq}
use Rattle.std.specs.Str.Parse.{digits_value, without_leading_plus}
use Rattle.clap.specs.Words.{IsAmong, Row, Text, fault_of, first_of, one_of, subcommand_of}
use Rattle.clap.specs.declared.error.kind.ErrorKind.{ErrorKind}
use Rattle.clap.specs.declared.error.kind.ErrorKind.TheVariants.{DisplayHelp, DisplayVersion}
use Rattle.command_words.specs.Command.{is, needed_text}
use Rattle.tool_words.specs.ToolForms.{tools_form}

-- what options name of the cloaked files that a run went on from: the store file, its secret and its counter
pub record OldNamed : Type 0 where
  pub old : Option (List ℕ)
  pub secret : Option (List ℕ)
  pub counter : Option ℕ

pub data ToolAsked : Type 0 where
  -- the words of an assembler text, written to a file
  Asm : (text_name words_name : List ℕ) → ToolAsked
  -- a file of words as assembler text, with an address for the first of them; or the words of a segment, or of a program, of
  -- an image
  Disasm : (words_name : List ℕ) → (base : Option (List ℕ)) → (segment program : Option ℕ) → ToolAsked
  -- the bundle that a manifest means, written to a file
  Pack : (manifest bundle_name : List ℕ) → ToolAsked
  -- the text of a record from one step to another, with the items only of kinds that are named, or how many there are; or
  -- the same as objects of JSON
  Show : (record_name : List ℕ) → (from to : ℕ) → (only : Option (List (List ℕ))) → (counts json : Bool) → ToolAsked
  -- the steps of the run of a bundle that wrote a record, of the kernel's side or of that of a program, of one hart or all
  Trace : (bundle record_name : List ℕ) → (program : Option ℕ) → (from to : ℕ) → (hart : Option ℕ) → OldNamed → ToolAsked
  -- the run of a bundle that wrote a record as a picture, written to a file
  Draw : (bundle record_name out_name : List ℕ) → ToolAsked
  -- the violations of the run of a bundle that wrote a record
  Explain : (bundle record_name : List ℕ) → ToolAsked

abbrev pub is_step : List ℕ → Bool
is_step digits =
    nat_lt 0 (length digits)
    && (list_all (λ d. nat_lt (digit_value d) 10) digits && nat_lt (digits_value 10 digits) (2 ^ 32))

-- a step, or another if the text is none (the command takes no such text)
abbrev pub step_or : ℕ → List ℕ → ℕ
step_or otherwise text =
    if is_step (without_leading_plus text) then digits_value 10 (without_leading_plus text) else otherwise

-- the step that an option names, or the one that is meant without it
abbrev pub step_named : (name : List ℕ) → ℕ → List Row → ℕ
step_named name otherwise rows = option_map_or (step_or otherwise) (one_of name rows) otherwise

-- the number of a text, if it is one of 32 bits
abbrev pub number_in : List ℕ → Option ℕ
number_in text =
    if is_step (without_leading_plus text) then Some (digits_value 10 (without_leading_plus text)) else None

-- the number that an option names, if it is given
abbrev pub number_named : (name : List ℕ) → List Row → Option ℕ
number_named name rows = option_and_then number_in (one_of name rows)

-- the flag is given
abbrev pub is_flagged : (name : List ℕ) → List Row → Bool
is_flagged name rows = option_map_or (λ text. bytes_eq text (codes "true")) (first_of name rows) false

-- names with commas (44) between
abbrev pub names_in : List ℕ → List (List ℕ)
names_in text = slice_split (λ b. b == 44) text

-- the last step that there can be
abbrev pub last_step : ℕ
last_step = 2 ^ 32 - 1

-- the first step that is meant: `--follow` names it too, if `--from` is not given
abbrev pub first_step : List Row → ℕ
first_step rows = step_named (codes "from") (step_named (codes "follow") 0 rows) rows

abbrev pub show_asked : List Row → ToolAsked
show_asked rows =
    Show (needed_text (codes "RECORD") rows) (first_step rows)
    (step_named (codes "to") last_step rows) (option_map names_in (first_of (codes "only") rows))
    (is_flagged (codes "counts") rows) (is_flagged (codes "json") rows)

abbrev pub disasm_asked : List Row → ToolAsked
disasm_asked rows =
    Disasm (needed_text (codes "FILE") rows) (first_of (codes "base") rows) (number_named (codes "segment") rows)
    (number_named (codes "program") rows)

abbrev pub old_named : List Row → OldNamed
old_named rows = record {
  old = first_of (codes "files") rows;
  secret = first_of (codes "secret") rows;
  counter = number_named (codes "counter") rows;
}

abbrev pub trace_asked : List Row → ToolAsked
trace_asked rows =
    Trace (needed_text (codes "BUNDLE") rows) (needed_text (codes "RECORD") rows) (number_named (codes "program") rows)
    (step_named (codes "from") 0 rows) (step_named (codes "to") last_step rows) (number_named (codes "hart") rows)
    (old_named rows)

-- What a command asks with the texts that it found. There are no more than these seven.
unfoldable pub tool_asked_with : Text → List Row → ToolAsked
tool_asked_with name rows =
    if is (codes "asm") name then Asm (needed_text (codes "TEXT") rows) (needed_text (codes "OUT") rows) else
    if is (codes "disasm") name then disasm_asked rows else
    if is (codes "pack") name then Pack (needed_text (codes "MANIFEST") rows) (needed_text (codes "BUNDLE") rows) else
    if is (codes "show") name then show_asked rows else
    if is (codes "trace") name then trace_asked rows else
    if is (codes "draw") name
    then Draw (needed_text (codes "BUNDLE") rows) (needed_text (codes "RECORD") rows) (needed_text (codes "OUT") rows) else
    Explain (needed_text (codes "BUNDLE") rows) (needed_text (codes "RECORD") rows)

-- what the words ask for, of which the first is the program's name
abbrev pub tool_asked_by : List Text → Option ToolAsked
tool_asked_by words = option_map (λ found. tool_asked_with found.0 found.1) (subcommand_of tools_form words)

-- The words are taken, and ask for this.
pub record AsksTool (words : List Text) (asked : ToolAsked) : Type 0 where
  pub taken : fault_of tools_form words ≡ []
  pub asks : tool_asked_by words ≡ Some asked

-- help or the version is asked for
abbrev pub is_help : ErrorKind → Bool
is_help DisplayHelp = true
is_help DisplayVersion = true
is_help other = false

-- The words are not taken, since help is asked for, or for another reason.
pub record AreNotTaken (words : List Text) (for_help : Bool) : Type 0 where
  pub kind : ErrorKind
  pub among : IsAmong kind (fault_of tools_form words)
  pub helps : is_help kind ≡ for_help

-- (Without a command they are not taken, so the second is never so.)
abbrev pub AreFaulty : List Text → Type 0
AreFaulty words = AreNotTaken words false ⊎ (tool_asked_by words ≡ None)
