use Rattle.std.proofs.Common.{length, ◌∙◌}
use Rattle.cloak_model.specs.Run.{first_moment}
use Rattle.cloak_machine.proofs.GoingOn.{opening_owes}
use Rattle.run_command.proofs.EndFacts.{end_of}
use Rattle.run_command.proofs.ClashFacts.{run_unclashed}
use Rattle.shadow_fold.specs.Fold.{fresh_fold}
use Rattle.stats_command.proofs.CountFacts.{counts_told}
use Rattle.stats_command.proofs.counting.count_run.Goals as goal

pub returns : goal.returns
returns c = λ b stream o opens stands none.
    let m = first_moment b o.joint in
    let calm = run_unclashed b c.args.steps o none in
    let still = c.count_accesses.ensures.stands m stands in
    let fresh = fresh_fold (length o.joint.memory.ram) in
    let started = c.count_accesses.ensures.counts c.requires.fresh m stands (opening_owes b stream o opens) in
    let ends = end_of b c.args.steps o _ _ _ _ (c.run_counted-stopped.ensures.makes m still calm) c.unwrap_or.ensures
    c.finish-end.ensures.ends in
    record {
      stop = ends.stop;
      refused = c.is_refused.ensures ∙ ends.refused;
      counts = counts_told b c.args.steps o _
          (c.counts-counts.ensures.counted _ (c.run_counted-stopped.ensures.counts m fresh still started calm));
    }
