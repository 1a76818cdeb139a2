use Rattle.std.proofs.Common.{rules}
use Rattle.std.proofs.lemmas.List.{take_all, drop_all}
use Rattle.std.proofs.lemmas.List.Edits.{map_over_more}
use Rattle.cloak_model.specs.Memory.{unless_written}
use Rattle.host_calls.specs.Written.{is_written}
use Rattle.host_calls.proofs.reservations.end_written.Goals as goal

pub loop-word-preserved : goal.loop-word-preserved
loop-word-preserved c = search (rules, map_over_more (unless_written (is_written c.args.written)))

pub returns : goal.returns
returns c = search (rules, take_all, drop_all)
