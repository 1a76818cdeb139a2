-- The words of a command line, and what they ask for. The first word is the command's name, and the words are read
-- by the simple command of `clap` that the command is.
use Rattle.std.specs.Prelude.{ℕ, ◌+◌, ◌-◌, ◌*◌, nat_le, Bool, false, ◌&&◌, ◌||◌, List, [], ◌∷◌, length, fold, codes}
use Rattle.std.specs.Prelude.{Option, Some, None, IsSome, unwrap_or, Result, Ok, Err, if◌then◌else◌}
use Rattle.clap.specs.Words.{App, Kinds, Row, fault_of, first_of, matches_of}
use Rattle.cloak_model.specs.Run.{most_steps}
use Rattle.command_words.specs.declared.usage_fault.UsageFault.{UsageFault}
use Rattle.command_words.specs.declared.usage_fault.UsageFault.TheVariants.{NoCommand, UnknownCommand, WrongWords, NoRandomness, WrongNumber, SameName, SameSource}
use Rattle.command_words.specs.declared.command_name.CommandName.{CommandName}
use Rattle.command_words.specs.declared.command_name.CommandName.TheVariants as name
use Rattle.command_words.specs.Forms.{form_of}
use Rattle.std.specs.Str.{bytes_eq, all_ascii_digits}

-- the line that says what is wrong with the words
abbrev pub usage_line : UsageFault → List ℕ
usage_line NoCommand = codes "usage: no command\n"
usage_line UnknownCommand = codes "usage: unknown command\n"
usage_line WrongWords = codes "usage: words\n"
usage_line NoRandomness = codes "usage: randomness\n"
usage_line WrongNumber = codes "usage: number\n"
usage_line SameName = codes "usage: same name\n"
usage_line SameSource = codes "usage: same name\n"

-- where a run takes its randomness: the stream of a number, or the bytes of a file
pub data Randomness : Type 0 where
  Numbered : ℕ → Randomness
  FromFile : List ℕ → Randomness

-- the most bytes of a file that a run takes for its randomness
abbrev pub longest_stream : ℕ
longest_stream = 16777216

-- the files of a run over cloaked files: the bundle, the record, the store file that is read and the one that is written,
-- the bundle with the disk of the end, and the secret file
pub record StoreNames : Type 0 where
  pub bundle : List ℕ
  pub record_name : List ℕ
  pub old_name : List ℕ
  pub new_name : List ℕ
  pub next_name : List ℕ
  pub secret_name : List ℕ

-- the files of a run that is frozen: the bundle, the record, the frozen state that is written, and the vectors under which
-- programs and owed pages are shown in it
pub record FreezeNames : Type 0 where
  pub bundle : List ℕ
  pub record_name : List ℕ
  pub state_name : List ℕ
  pub vectors_name : List ℕ

-- the files of a run that goes on: the bundle, the record of its rest, and the frozen state
pub record ThawNames : Type 0 where
  pub bundle : List ℕ
  pub record_name : List ℕ
  pub state_name : List ℕ

-- the cloaked files that a run went on from: the store file that it read, its counter, and the secret file
pub record OldFiles : Type 0 where
  pub old_name : List ℕ
  pub secret_name : List ℕ
  pub counter : ℕ

-- what is asked for
pub data Asked : Type 0 where
  Faulty : UsageFault → Asked
  -- the joint run of a bundle, with the name of its record, its budget of steps, and its randomness
  Run : (bundle record_name : List ℕ) → (steps : ℕ) → Randomness → Asked
  -- what the kernel of a bundle, alone, makes of a record
  View : (bundle record_name : List ℕ) → Asked
  -- what a program of a bundle, by its number and alone, makes of a record
  Solo : (domain : ℕ) → (bundle record_name : List ℕ) → Asked
  -- the same of the record of a run that went on from cloaked files
  SoloOver : (domain : ℕ) → (bundle record_name : List ℕ) → OldFiles → Asked
  -- the generated bundle of a number, written to a file
  Gen : (number : ℕ) → (bundle_name : List ℕ) → Asked
  -- the joint run of the generated bundle of a number, without files
  Demo : (number steps : ℕ) → Asked
  -- the counts of the joint run of a bundle, with its budget of steps and its randomness
  Stats : (bundle : List ℕ) → (steps : ℕ) → Randomness → Asked
  -- the bundle of a file, written in version 2 to a file, which may be the same
  Upgrade : (old_name new_name : List ℕ) → Asked
  -- the joint run of a bundle over the cloaked files that a store file with this counter tells of, with its budget of steps
  -- and its randomness
  Store : StoreNames → (counter steps : ℕ) → Randomness → Asked
  -- this many steps of the joint run of a bundle, with its randomness; then its state is frozen
  Freeze : FreezeNames → (steps : ℕ) → Randomness → Asked
  -- the rest of a run from its frozen state, with a budget of steps, and the randomness of the whole run
  Thaw : ThawNames → (steps : ℕ) → Randomness → Asked

-- the word is this text
abbrev pub is : List ℕ → List ℕ → Bool
is text w = bytes_eq w text

-- the value of decimal digits
abbrev pub decimal_value : List ℕ → ℕ
decimal_value digits = fold (λ n c. 10 * n + (c - 48)) 0 digits

-- a number: 1 to 20 decimal digits, whose value is at most a limit
abbrev pub number_up_to : ℕ → List ℕ → Option ℕ
number_up_to limit w =
    if nat_le 1 (length w) && (nat_le (length w) 20 && (all_ascii_digits w && nat_le (decimal_value w) limit))
    then Some (decimal_value w) else None

-- the last number of a random stream
abbrev pub last_stream : ℕ
last_stream = 18446744073709551615

-- the run of a bundle: with its record, if that has a name, and otherwise for its counts
abbrev pub asked_run : (bundle : List ℕ) → (record_name : Option (List ℕ)) → (steps : ℕ) → Randomness → Asked
asked_run bundle (Some record_name) steps randomness = Run bundle record_name steps randomness
asked_run bundle None steps randomness = Stats bundle steps randomness

abbrev pub randomness_of_number : Option ℕ → Result Randomness UsageFault
randomness_of_number None = Err WrongNumber
randomness_of_number (Some number) = Ok (Numbered number)

-- Exactly one option is to name the randomness.
unfoldable pub given_randomness : (stream number : Option (List ℕ)) → Result Randomness UsageFault
given_randomness None None = Err NoRandomness
given_randomness (Some name) None = Ok (FromFile name)
given_randomness None (Some text) = randomness_of_number (number_up_to last_stream text)
given_randomness (Some name) (Some text) = Err NoRandomness

-- a run whose values are read
abbrev pub run_of_values : List ℕ → Option (List ℕ) → Option ℕ → Result Randomness UsageFault → Asked
run_of_values bundle record_name steps (Err fault) = Faulty fault
run_of_values bundle record_name None (Ok randomness) = Faulty WrongNumber
run_of_values bundle record_name (Some steps) (Ok randomness) = asked_run bundle record_name steps randomness

abbrev pub run_of_texts : (bundle : List ℕ) → (record_name : Option (List ℕ)) → (steps : List ℕ) →
    (stream number : Option (List ℕ)) → Asked
run_of_texts bundle record_name steps stream number =
    run_of_values bundle record_name (number_up_to most_steps steps) (given_randomness stream number)

-- the last counter of a store file over which a run may go on, as the next one has one more
abbrev pub last_counter : ℕ
last_counter = 18446744073709551614

-- two of the files that are written have one name
abbrev pub writes_one_twice : StoreNames → Bool
writes_one_twice names =
    bytes_eq names.record_name names.new_name
    || (bytes_eq names.record_name names.next_name || bytes_eq names.new_name names.next_name)

-- the random bytes come from the file of this name
abbrev pub is_drawn_from : Randomness → List ℕ → Bool
is_drawn_from (Numbered number) name = false
is_drawn_from (FromFile stream) name = bytes_eq stream name

-- a run over cloaked files whose values are read; the names are compared last: first of the files that are written, and
-- then of the random stream and the secret
abbrev pub store_of_values : StoreNames → (counter steps : Option ℕ) → Result Randomness UsageFault → Asked
store_of_values names counter steps (Err fault) = Faulty fault
store_of_values names None steps (Ok randomness) = Faulty WrongNumber
store_of_values names (Some counter) None (Ok randomness) = Faulty WrongNumber
store_of_values names (Some counter) (Some steps) (Ok randomness) =
    if writes_one_twice names then Faulty SameName else
    if is_drawn_from randomness names.secret_name then Faulty SameSource else Store names counter steps randomness

-- a run that is frozen, whose values are read; the names are compared last: first of the two files that are written, and
-- then of the random stream and the vectors
abbrev pub freeze_of_values : FreezeNames → (steps : Option ℕ) → Result Randomness UsageFault → Asked
freeze_of_values names steps (Err fault) = Faulty fault
freeze_of_values names None (Ok randomness) = Faulty WrongNumber
freeze_of_values names (Some steps) (Ok randomness) =
    if bytes_eq names.record_name names.state_name then Faulty SameName else
    if is_drawn_from randomness names.vectors_name then Faulty SameSource else Freeze names steps randomness

-- a run that goes on, whose values are read
abbrev pub thaw_of_values : ThawNames → (steps : Option ℕ) → Result Randomness UsageFault → Asked
thaw_of_values names steps (Err fault) = Faulty fault
thaw_of_values names None (Ok randomness) = Faulty WrongNumber
thaw_of_values names (Some steps) (Ok randomness) = Thaw names steps randomness

-- the last number of a program
abbrev pub last_domain : ℕ
last_domain = 3

abbrev pub old_of_counter : (old_name secret_name : List ℕ) → Option ℕ → Result (Option OldFiles) UsageFault
old_of_counter old_name secret_name None = Err WrongNumber
old_of_counter old_name secret_name (Some counter) =
    Ok (Some (record { old_name = old_name; secret_name = secret_name; counter = counter }))

-- Either a store file with its secret and its counter is named, or none of the three.
unfoldable pub old_of_texts : (old secret counter : Option (List ℕ)) → Result (Option OldFiles) UsageFault
old_of_texts None None None = Ok None
old_of_texts None None (Some counter) = Err WrongWords
old_of_texts None (Some secret) counter = Err WrongWords
old_of_texts (Some old) None counter = Err WrongWords
old_of_texts (Some old) (Some secret) None = Err WrongWords
old_of_texts (Some old) (Some secret) (Some counter) = old_of_counter old secret (number_up_to last_counter counter)

abbrev pub asked_solo : (domain : ℕ) → (bundle record_name : List ℕ) → Option OldFiles → Asked
asked_solo domain bundle record_name None = Solo domain bundle record_name
asked_solo domain bundle record_name (Some old) = SoloOver domain bundle record_name old

abbrev pub solo_of_values :
    Option ℕ → (bundle record_name : List ℕ) → Result (Option OldFiles) UsageFault → Asked
solo_of_values domain bundle record_name (Err fault) = Faulty fault
solo_of_values None bundle record_name (Ok old) = Faulty WrongNumber
solo_of_values (Some domain) bundle record_name (Ok old) = asked_solo domain bundle record_name old

abbrev pub gen_of_number : Option ℕ → (bundle_name : List ℕ) → Asked
gen_of_number None bundle_name = Faulty WrongNumber
gen_of_number (Some number) bundle_name = Gen number bundle_name

abbrev pub demo_of_numbers : (number steps : Option ℕ) → Asked
demo_of_numbers (Some number) (Some steps) = Demo number steps
demo_of_numbers (Some number) None = Faulty WrongNumber
demo_of_numbers None steps = Faulty WrongNumber

-- the text of a position or of an option that a command needs: the command refuses words in which it is missing
abbrev pub needed_text : (name : List ℕ) → List Row → List ℕ
needed_text name rows = unwrap_or (first_of name rows) []

-- What a command asks with the texts of its positions and options.
unfoldable pub asked_with : CommandName → List Row → Asked
asked_with name.Run rows =
    run_of_texts (needed_text (codes "BUNDLE") rows) (Some (needed_text (codes "RECORD") rows))
    (needed_text (codes "steps") rows) (first_of (codes "stream") rows) (first_of (codes "number") rows)
asked_with name.View rows = View (needed_text (codes "BUNDLE") rows) (needed_text (codes "RECORD") rows)
asked_with name.Solo rows =
    solo_of_values (number_up_to last_domain (needed_text (codes "DOMAIN") rows))
    (needed_text (codes "BUNDLE") rows) (needed_text (codes "RECORD") rows)
    (old_of_texts (first_of (codes "files") rows) (first_of (codes "secret") rows) (first_of (codes "counter") rows))
asked_with name.Gen rows =
    gen_of_number (number_up_to last_stream (needed_text (codes "NUMBER") rows)) (needed_text (codes "BUNDLE") rows)
asked_with name.Demo rows =
    demo_of_numbers (number_up_to last_stream (needed_text (codes "NUMBER") rows))
    (number_up_to most_steps (needed_text (codes "steps") rows))
asked_with name.Stats rows =
    run_of_texts (needed_text (codes "BUNDLE") rows) None
    (needed_text (codes "steps") rows) (first_of (codes "stream") rows) (first_of (codes "number") rows)
asked_with name.Upgrade rows = Upgrade (needed_text (codes "OLD") rows) (needed_text (codes "NEW") rows)
asked_with name.Store rows =
    store_of_values (record {
      bundle = needed_text (codes "BUNDLE") rows;
      record_name = needed_text (codes "RECORD") rows;
      old_name = needed_text (codes "OLD") rows;
      new_name = needed_text (codes "NEW") rows;
      next_name = needed_text (codes "NEXT") rows;
      secret_name = needed_text (codes "secret") rows;
    })
    (number_up_to last_counter (needed_text (codes "counter") rows)) (number_up_to most_steps (needed_text (codes "steps") rows))
    (given_randomness (first_of (codes "stream") rows) (first_of (codes "number") rows))
asked_with name.Freeze rows =
    freeze_of_values (record {
      bundle = needed_text (codes "BUNDLE") rows;
      record_name = needed_text (codes "RECORD") rows;
      state_name = needed_text (codes "STATE") rows;
      vectors_name = needed_text (codes "ivs") rows;
    })
    (number_up_to most_steps (needed_text (codes "steps") rows))
    (given_randomness (first_of (codes "stream") rows) (first_of (codes "number") rows))
asked_with name.Thaw rows =
    thaw_of_values (record {
      bundle = needed_text (codes "BUNDLE") rows;
      record_name = needed_text (codes "RECORD") rows;
      state_name = needed_text (codes "STATE") rows;
    })
    (number_up_to most_steps (needed_text (codes "steps") rows))
    (given_randomness (first_of (codes "stream") rows) (first_of (codes "number") rows))

-- the command of this name
abbrev pub command_named : List ℕ → Option CommandName
command_named w =
    if is (codes "run") w then Some name.Run else
    if is (codes "view") w then Some name.View else
    if is (codes "solo") w then Some name.Solo else
    if is (codes "gen") w then Some name.Gen else
    if is (codes "demo") w then Some name.Demo else
    if is (codes "stats") w then Some name.Stats else
    if is (codes "upgrade") w then Some name.Upgrade else
    if is (codes "store") w then Some name.Store else
    if is (codes "freeze") w then Some name.Freeze else
    if is (codes "thaw") w then Some name.Thaw else None

-- the texts that a command finds in the words, if it refuses nothing
abbrev pub unless_refused : Kinds → List Row → Option (List Row)
unless_refused [] rows = Some rows
unless_refused (kind ∷ kinds) rows = None

abbrev pub found_in : App → List (List ℕ) → Option (List Row)
found_in form words = unless_refused (fault_of form words) (matches_of form words)

abbrev pub asked_by : CommandName → Option (List Row) → Asked
asked_by command None = Faulty WrongWords
asked_by command (Some rows) = asked_with command rows

abbrev pub asked_of_command : Option CommandName → List (List ℕ) → Asked
asked_of_command None words = Faulty UnknownCommand
asked_of_command (Some command) words = asked_by command (found_in (form_of command) words)

-- What the words ask for.
unfoldable pub words_of : List (List ℕ) → Asked
words_of [] = Faulty NoCommand
words_of (command ∷ words) = asked_of_command (command_named command) (command ∷ words)

-- The first of the words is the name of a command. Only what a command takes is read with memory.
abbrev pub NamesCommand : List (List ℕ) → Type 0
NamesCommand [] = ⊥
NamesCommand (first ∷ words) = IsSome (command_named first)
