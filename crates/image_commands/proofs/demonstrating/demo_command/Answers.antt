use Rattle.std.proofs.Common.{◌∙◌, ap}
use Rattle.cloak_base.specs.Random.{numbered}
use Rattle.guest_kernel.specs.Generated.{generated}
use Rattle.command_parts.proofs.FaultFacts.{raised}
use Rattle.run_command.specs.Running.{status_of}
use Rattle.image_commands.proofs.Runs.{shows_all, shows_front}
use Rattle.image_commands.proofs.demonstrating.demo_command.Goals as goal

pub returns-in-Ok-show_demo : goal.returns-in-Ok-show_demo
returns-in-Ok-show_demo g c =
    let n = c.args.number in
    let opens = c.in-Ok.ensures.opens in
    shows_all n c.end_of_run-end.result _ _ c.args.steps opens
    (λ none. c.end_of_run-end.ensures (generated n) (numbered n) opens.opened opens.opens opens.stands none)
    c.in-Ok-show_demo.ensures.0 c.in-Ok-show_demo.ensures.1
    (c.stop_status.ensures ∙ ap (status_of c.end_of_run-end.result.stop) c.is_refused.ensures)

pub returns : goal.returns
returns g c =
    let n = c.args.number in
    let opens = c.in-Ok.ensures.opens in
    shows_front n c.end_of_run-end.result _ _ c.args.steps opens
    (λ none. c.end_of_run-end.ensures (generated n) (numbered n) opens.opened opens.opens opens.stands none)
    (record { front_shown = c.in-Err.ensures.0; faults = raised c.in-Err.ensures.1 c.requires.output })
