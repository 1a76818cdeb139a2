-- What a person is told of a status other than 0, besides what the program shows: one sentence, with the names of the
-- files if the words name them. What the words ask for is not known if there was no memory to read them.
use Rattle.std.specs.Prelude.{ℕ, List, [], ◌++◌, codes, decimal, Option, Some, None}
use Rattle.command_words.specs.Command as spec
use Rattle.command_words.specs.declared.usage_fault.UsageFault.{UsageFault}
use Rattle.command_words.specs.declared.usage_fault.UsageFault.TheVariants as usage
use Rattle.command_parts.specs.declared.status.Status.{Status}
use Rattle.command_parts.specs.declared.status.Status.TheVariants as status

-- a file, by what it is and its name
abbrev pub bundle_named : List ℕ → List ℕ
bundle_named name = codes "the bundle `" ++ name ++ codes "`"

abbrev pub record_named : List ℕ → List ℕ
record_named name = codes "the record `" ++ name ++ codes "`"

abbrev pub files_named : (bundle record_name : List ℕ) → List ℕ
files_named bundle record_name = codes "the bundle `" ++ bundle ++ codes "` or the record `" ++ record_name ++ codes "`"

-- the bundle that is read
abbrev pub bundle_of : Option spec.Asked → List ℕ
bundle_of (Some (spec.Run bundle record_name steps randomness)) = bundle_named bundle
bundle_of (Some (spec.View bundle record_name)) = bundle_named bundle
bundle_of (Some (spec.Solo domain bundle record_name)) = bundle_named bundle
bundle_of (Some (spec.SoloOver domain bundle record_name old)) = bundle_named bundle
bundle_of (Some (spec.Stats bundle steps randomness)) = bundle_named bundle
bundle_of (Some (spec.Upgrade old_name new_name)) = bundle_named old_name
bundle_of (Some (spec.Store names counter steps randomness)) = bundle_named names.bundle
bundle_of (Some (spec.Freeze names steps randomness)) = bundle_named names.bundle
bundle_of (Some (spec.Thaw names steps randomness)) = bundle_named names.bundle
bundle_of _ = codes "the bundle"

-- the record that is read
abbrev pub record_of : Option spec.Asked → List ℕ
record_of (Some (spec.View bundle record_name)) = record_named record_name
record_of (Some (spec.Solo domain bundle record_name)) = record_named record_name
record_of (Some (spec.SoloOver domain bundle record_name old)) = record_named record_name
record_of _ = codes "the record"

-- the random bytes of a run
abbrev pub randomness_named : spec.Randomness → List ℕ
randomness_named (spec.FromFile name) = codes "the stream `" ++ name ++ codes "`"
randomness_named (spec.Numbered number) = codes "the random stream"

abbrev pub or_vectors : List ℕ → List ℕ
or_vectors name = codes " or the vectors `" ++ name ++ codes "`"

abbrev pub stream_of : Option spec.Asked → List ℕ
stream_of (Some (spec.Run bundle record_name steps randomness)) = randomness_named randomness
stream_of (Some (spec.Stats bundle steps randomness)) = randomness_named randomness
stream_of (Some (spec.Store names counter steps randomness)) = randomness_named randomness
stream_of (Some (spec.Freeze names steps randomness)) = randomness_named randomness ++ or_vectors names.vectors_name
stream_of (Some (spec.Thaw names steps randomness)) = randomness_named randomness
stream_of _ = codes "the random stream"

-- that the random bytes are too few: a run that is frozen has two sources of them
abbrev pub too_few : Option spec.Asked → List ℕ
too_few (Some (spec.Freeze names steps randomness)) = codes " have too few bytes for this run"
too_few _ = codes " has too few bytes for this run"

-- the files that a run reads
abbrev pub sources_named : (bundle : List ℕ) → spec.Randomness → List ℕ
sources_named bundle (spec.Numbered number) = bundle_named bundle
sources_named bundle (spec.FromFile name) =
    codes "the bundle `" ++ bundle ++ codes "` or the stream `" ++ name ++ codes "`"

-- the files that a run over cloaked files reads
abbrev pub bundle_and_secret : (bundle secret : List ℕ) → List ℕ
bundle_and_secret bundle secret = codes "the bundle `" ++ bundle ++ codes "`, the secret `" ++ secret ++ codes "`"

abbrev pub store_last : List ℕ → List ℕ
store_last old = codes " or the store file `" ++ old ++ codes "`"

abbrev pub last_sources : (old : List ℕ) → spec.Randomness → List ℕ
last_sources old (spec.Numbered number) = store_last old
last_sources old (spec.FromFile name) = codes ", the store file `" ++ old ++ codes "` or the stream `" ++ name ++ codes "`"

abbrev pub store_sources_named : spec.StoreNames → spec.Randomness → List ℕ
store_sources_named names randomness =
    bundle_and_secret names.bundle names.secret_name ++ last_sources names.old_name randomness

-- the files that a run that is frozen reads, after the bundle
abbrev pub vectors_and_stream : (vectors : List ℕ) → spec.Randomness → List ℕ
vectors_and_stream vectors (spec.Numbered number) = or_vectors vectors
vectors_and_stream vectors (spec.FromFile name) =
    codes ", the vectors `" ++ vectors ++ codes "` or the stream `" ++ name ++ codes "`"

-- the files that a run that goes on reads, after the bundle
abbrev pub state_and_stream : (state : List ℕ) → spec.Randomness → List ℕ
state_and_stream state (spec.Numbered number) = codes " or the state `" ++ state ++ codes "`"
state_and_stream state (spec.FromFile name) =
    codes ", the state `" ++ state ++ codes "` or the stream `" ++ name ++ codes "`"

-- the store file and the record that are read back
abbrev pub old_and_record : (old record_name : List ℕ) → List ℕ
old_and_record old record_name =
    codes ", the store file `" ++ old ++ codes "` or the record `" ++ record_name ++ codes "`"

-- the files that are read
abbrev pub read_of : Option spec.Asked → List ℕ
read_of (Some (spec.Run bundle record_name steps randomness)) = sources_named bundle randomness
read_of (Some (spec.Stats bundle steps randomness)) = sources_named bundle randomness
read_of (Some (spec.View bundle record_name)) = files_named bundle record_name
read_of (Some (spec.Solo domain bundle record_name)) = files_named bundle record_name
read_of (Some (spec.SoloOver domain bundle record_name old)) =
    bundle_and_secret bundle old.secret_name ++ old_and_record old.old_name record_name
read_of (Some (spec.Upgrade old_name new_name)) = bundle_named old_name
read_of (Some (spec.Store names counter steps randomness)) = store_sources_named names randomness
read_of (Some (spec.Freeze names steps randomness)) =
    bundle_named names.bundle ++ vectors_and_stream names.vectors_name randomness
read_of (Some (spec.Thaw names steps randomness)) =
    bundle_named names.bundle ++ state_and_stream names.state_name randomness
read_of _ = codes "a file"

-- a bundle that is written, and the output
abbrev pub written_bundle : List ℕ → List ℕ
written_bundle name = codes "the bundle `" ++ name ++ codes "` or the output"

-- the files that a run over cloaked files writes, and the output
abbrev pub record_and_store : (record_name new : List ℕ) → List ℕ
record_and_store record_name new = codes "the record `" ++ record_name ++ codes "`, the store file `" ++ new ++ codes "`"

abbrev pub next_bundle : List ℕ → List ℕ
next_bundle next = codes ", the bundle `" ++ next ++ codes "` or the output"

-- the state that a run that is frozen writes, and the output
abbrev pub written_state : List ℕ → List ℕ
written_state name = codes ", the state `" ++ name ++ codes "` or the output"

-- a record that is written, and the output
abbrev pub written_record : List ℕ → List ℕ
written_record name = codes "the record `" ++ name ++ codes "` or the output"

-- what is written
abbrev pub written_of : Option spec.Asked → List ℕ
written_of (Some (spec.Run bundle record_name steps randomness)) = written_record record_name
written_of (Some (spec.Gen number bundle_name)) = written_bundle bundle_name
written_of (Some (spec.Upgrade old_name new_name)) = written_bundle new_name
written_of (Some (spec.Store names counter steps randomness)) =
    record_and_store names.record_name names.new_name ++ next_bundle names.next_name
written_of (Some (spec.Freeze names steps randomness)) =
    record_named names.record_name ++ written_state names.state_name
written_of (Some (spec.Thaw names steps randomness)) = written_record names.record_name
written_of (Some _) = codes "the output"
written_of None = codes "a file or the output"

-- what is wrong with the words
abbrev pub usage_of : UsageFault → List ℕ
usage_of usage.NoCommand =
    codes "there is no command: the commands are run, view, solo, gen, demo, stats, upgrade, store, freeze and thaw"
usage_of usage.UnknownCommand =
    codes "the first word is not a command: the commands are run, view, solo, gen, demo, stats, upgrade, store, "
    ++ codes "freeze and thaw"
usage_of usage.WrongWords = codes "these are not the words that the command takes"
usage_of usage.NoRandomness = codes "a run takes its random bytes from exactly one of --number and --stream"
usage_of usage.WrongNumber = codes "a number is not written in decimal digits, or is out of its range"
usage_of usage.SameName = codes "two of the files that are written have one name"
usage_of usage.SameSource = codes "--stream names the file of --secret or --ivs, and keys in it would be shown as vectors"

abbrev pub words_fault_of : Option spec.Asked → List ℕ
words_fault_of (Some (spec.Faulty fault)) = usage_of fault
words_fault_of (Some (spec.Solo domain bundle record_name)) =
    codes "program " ++ decimal domain ++ codes " is not in the bundle `" ++ bundle ++ codes "`"
words_fault_of (Some (spec.SoloOver domain bundle record_name old)) =
    codes "program " ++ decimal domain ++ codes " is not in the bundle `" ++ bundle ++ codes "`"
words_fault_of (Some (spec.Thaw names steps randomness)) =
    codes "with the steps before the state `" ++ names.state_name
    ++ codes "` the run would have more than 1000000000 steps"
words_fault_of _ = codes "the words are faulty"

-- what is wrong with the bundle, which `upgrade` also refuses if it would be too large in version 2
abbrev pub fault_of_bundle : Option spec.Asked → List ℕ
fault_of_bundle (Some (spec.Upgrade old_name new_name)) = codes " is not a guest image, or is too large in version 2"
fault_of_bundle _ = codes " is not a guest image"

-- why a run does not go on over cloaked files
abbrev pub store_and_secret : (old secret : List ℕ) → List ℕ
store_and_secret old secret =
    codes "the run cannot go on over the store file `" ++ old ++ codes "` with the secret `" ++ secret ++ codes "`"

abbrev pub and_counter : ℕ → List ℕ
and_counter counter = codes " and the counter " ++ decimal counter ++ codes ", and the line before says why"

abbrev pub store_of : Option spec.Asked → List ℕ
store_of (Some (spec.Store names counter steps randomness)) =
    store_and_secret names.old_name names.secret_name ++ and_counter counter
store_of (Some (spec.SoloOver domain bundle record_name old)) =
    store_and_secret old.old_name old.secret_name ++ and_counter old.counter
store_of _ = codes "the run cannot go on over the store file"

-- what a record may be that is none of a run without the cloaked files of an earlier one
abbrev pub files_hint : Option spec.Asked → List ℕ
files_hint (Some (spec.Solo domain bundle record_name)) =
    codes ", or of a run over cloaked files, which --files, --secret and --counter name"
files_hint _ = []

-- that a run was frozen
abbrev pub frozen_of : Option spec.Asked → List ℕ
frozen_of (Some (spec.Freeze names steps randomness)) =
    codes "the run is frozen, and `thaw` goes on from the state `" ++ names.state_name ++ codes "`"
frozen_of _ = codes "the run is frozen"

-- why a run does not go on from a state
abbrev pub state_of : Option spec.Asked → List ℕ
state_of (Some (spec.Thaw names steps randomness)) =
    codes "no run goes on from the state `" ++ names.state_name ++ codes "`, and the line `state` says why"
state_of _ = codes "no run goes on from the state"

-- what is said between the program's name and the line feed
abbrev pub cause_of : Option spec.Asked → Status → List ℕ
cause_of asked status.Done = []
cause_of asked status.Violation =
    codes "the kernel broke a rule of cloaking: a program was ended, or a resume was refused"
cause_of asked status.Usage = words_fault_of asked
cause_of asked status.BadBundle = bundle_of asked ++ fault_of_bundle asked
    ++ codes ", and the line `bundle` says why (a file that is not there is read as an empty one)"
cause_of asked status.ReadFault = read_of asked ++ codes " cannot be read"
cause_of asked status.WriteFault = written_of asked ++ codes " cannot be written, and what was written before stands"
cause_of asked status.NoMemory = codes "there is not enough memory"
cause_of asked status.NoRandom = stream_of asked ++ too_few asked
cause_of asked status.BadRecord = record_of asked ++ codes " is damaged, or is not of "
    ++ bundle_of asked ++ files_hint asked ++ codes ", and the line `record` says where"
    ++ codes " (one without magic may be the rest of a frozen run, to be put after its first part)"
cause_of asked status.BadStore = store_of asked
cause_of asked status.Frozen = frozen_of asked
cause_of asked status.BadState = state_of asked

-- The sentence. The status 0 has none.
abbrev pub sentence : Option spec.Asked → Status → List ℕ
sentence asked status.Done = []
sentence asked other = codes "cloak: " ++ cause_of asked other ++ codes "\n"
