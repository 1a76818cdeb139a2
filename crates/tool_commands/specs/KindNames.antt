-- Which kinds of items names mean, and what of a record is meant.
use Rattle.std.specs.Prelude.{ℕ, ◌||◌, Bool, true, List, codes, fold, if◌then◌else◌}
use Rattle.std.specs.Prelude.{Option, Some, None, option_and_then, option_map}
use Rattle.command_words.specs.Command.{is}
use Rattle.record_text.specs.Kinds.{no_kind, only_cipher, only_put, only_leave, only_ok, only_absent}
use Rattle.record_text.specs.Kinds.{only_word, only_timer, only_resume, only_stopped, only_ended}
use Rattle.record_text.specs.declared.kinds.Kinds.{Kinds}
use Rattle.record_text.specs.declared.selection.Selection.{Selection}

-- what the kernel could see
abbrev pub outward_kinds : Kinds
outward_kinds = record no_kind { cipher = true; put = true; leave = true }

-- what programs were answered
abbrev pub inward_kinds : Kinds
inward_kinds =
    record no_kind { ok = true; absent = true; word = true; timer = true; resume = true; stopped = true; ended = true }

abbrev pub kinds_named : List ℕ → Option Kinds
kinds_named name =
    if is (codes "cipher") name then Some only_cipher else
    if is (codes "put") name then Some only_put else
    if is (codes "leave") name then Some only_leave else
    if is (codes "ok") name then Some only_ok else
    if is (codes "absent") name then Some only_absent else
    if is (codes "word") name then Some only_word else
    if is (codes "timer") name then Some only_timer else
    if is (codes "resume") name then Some only_resume else
    if is (codes "stopped") name then Some only_stopped else
    if is (codes "ended") name then Some only_ended else
    if is (codes "outward") name then Some outward_kinds else
    if is (codes "inward") name then Some inward_kinds else None

abbrev pub joined_kinds : Kinds → Kinds → Kinds
joined_kinds a b = record {
  cipher = a.cipher || b.cipher;
  put = a.put || b.put;
  leave = a.leave || b.leave;
  ok = a.ok || b.ok;
  absent = a.absent || b.absent;
  word = a.word || b.word;
  timer = a.timer || b.timer;
  resume = a.resume || b.resume;
  stopped = a.stopped || b.stopped;
  ended = a.ended || b.ended;
}

-- kinds with those of one more name, if there are some of this name
abbrev pub with_name : Option Kinds → List ℕ → Option Kinds
with_name kinds name = option_and_then (λ so_far. option_map (joined_kinds so_far) (kinds_named name)) kinds

-- the kinds of all names, if each means some
abbrev pub kinds_of_names : List (List ℕ) → Option Kinds
kinds_of_names names = fold with_name (Some no_kind) names

abbrev pub selection_with : (from to : ℕ) → Bool → Option Kinds → Selection
selection_with from to counts kinds = record { from = from; to = to; only = kinds; counts = counts }

-- what of a record is meant, unless a name is that of no kind
abbrev pub selection_asked : (from to : ℕ) → Option (List (List ℕ)) → Bool → Option Selection
selection_asked from to None counts = Some (selection_with from to counts None)
selection_asked from to (Some names) counts =
    option_map (λ kinds. selection_with from to counts (Some kinds)) (kinds_of_names names)
