-- What is read of the words.
use Rattle.std.specs.Prelude.{ℕ, ◌≡◌, ◌≢◌, true, false, List, Vec, map, option_map}
use Rattle.std.specs.Borrow.{Bor}
use Rattle.std.specs.declared.alloc.Global.{Global}
use Rattle.clap.specs.Words.{Text}
use Rattle.clap.specs.declared.error.kind.ErrorKind.{ErrorKind}
use Rattle.clap.specs.declared.error.kind.ErrorKind.TheVariants.{OutOfMemory}
use Rattle.tool_words.specs.ToolCommand as spec
use Rattle.tool_words.specs.declared.request.DisasmRequest.{DisasmRequest}
use Rattle.tool_words.specs.declared.request.ShowRequest.{ShowRequest}
use Rattle.tool_words.specs.declared.request.OldNamed.{OldNamed}
use Rattle.tool_words.specs.declared.request.TraceRequest.{TraceRequest}
use Rattle.tool_words.specs.declared.request.ToolRequest.{ToolRequest}
use Rattle.tool_words.specs.declared.request.ToolRequest.TheVariants.{Asm, Disasm, Pack, Show, Trace, Draw, Explain}
use Rattle.tool_words.specs.declared.request.ToolWords.{ToolWords}
use Rattle.tool_words.specs.declared.request.ToolWords.TheVariants.{Asks, Help, Faulty}

abbrev pub names_of : Vec (Bor (List ℕ)) Global → List (List ℕ)
names_of names = map (λ name. name.now) names.items

abbrev pub asked_of_show : ShowRequest → spec.ToolAsked
asked_of_show show =
    spec.Show show.record_name.now show.from show.to (option_map names_of show.only) show.counts show.json

abbrev pub asked_of_disasm : DisasmRequest → spec.ToolAsked
asked_of_disasm disasm =
    spec.Disasm disasm.words.now (option_map (λ text. text.now) disasm.base) disasm.segment disasm.program

abbrev pub old_named_of : OldNamed → spec.OldNamed
old_named_of named = record {
  old = option_map (λ text. text.now) named.old;
  secret = option_map (λ text. text.now) named.secret;
  counter = named.counter;
}

abbrev pub asked_of_trace : TraceRequest → spec.ToolAsked
asked_of_trace trace =
    spec.Trace trace.bundle.now trace.record_name.now trace.program trace.from trace.to trace.hart (old_named_of trace.old)

abbrev pub tool_asked_of : ToolRequest → spec.ToolAsked
tool_asked_of (Asm text words) = spec.Asm text.now words.now
tool_asked_of (Disasm disasm) = asked_of_disasm disasm
tool_asked_of (Pack manifest bundle) = spec.Pack manifest.now bundle.now
tool_asked_of (Show show) = asked_of_show show
tool_asked_of (Trace trace) = asked_of_trace trace
tool_asked_of (Draw bundle record_name out) = spec.Draw bundle.now record_name.now out.now
tool_asked_of (Explain bundle record_name) = spec.Explain bundle.now record_name.now

-- What is read of words. The texts are those of `clap`.
abbrev pub ReadsTool : List Text → ToolWords → Type 0
ReadsTool words (Asks request) = spec.AsksTool words (tool_asked_of request)
ReadsTool words (Help text) = spec.AreNotTaken words true
ReadsTool words (Faulty text) = spec.AreFaulty words

-- Words that are not taken for a fault of this kind, of which want of memory is none: help, or what is wrong.
abbrev pub SaysFault : ErrorKind → ToolWords → Type 0
SaysFault kind (Asks request) = ⊥
SaysFault kind (Help text) = (spec.is_help kind ≡ true) × (kind ≢ OutOfMemory)
SaysFault kind (Faulty text) = (spec.is_help kind ≡ false) × (kind ≢ OutOfMemory)
