-- What is said on standard error of a status.
use Rattle.std.specs.Prelude.{ℕ, List, [], ◌++◌, codes}
use Rattle.command_parts.specs.declared.status.Status.{Status}
use Rattle.command_parts.specs.declared.status.Status.TheVariants as status

abbrev pub tool_sentence : Status → List ℕ
tool_sentence status.Usage = codes "tools: the words are faulty (tools help says which there are)\n"
tool_sentence status.BadBundle = codes "tools: a text, a manifest or an image is faulty; standard output says why\n"
tool_sentence status.ReadFault = codes "tools: a file could not be read\n"
tool_sentence status.WriteFault = codes "tools: a file or the output could not be written\n"
tool_sentence status.NoMemory = codes "tools: there is not enough memory\n"
tool_sentence status.BadRecord =
    codes "tools: the file is not a record, or does not fit the image; standard output says where (of a run over cloaked "
    ++ codes "files only trace takes these, by --files, --secret and --counter)\n"
tool_sentence status.BadStore =
    codes "tools: no run goes on over the store file with this secret and this counter, and it was shown why\n"
tool_sentence answer = []
