use Rattle.std.proofs.Common.{refl}
use Rattle.completeness.proofs.Runs.{runs_are_complete}
use Rattle.completeness.proofs.law_of_runs_that_never_fail.Goals as goal

pub returns-clause-nothing : goal.returns-clause-nothing
returns-clause-nothing c = λ s s' o o'. record { reading = refl; writing = refl; faults = refl }

pub returns-clause-runs : goal.returns-clause-runs
returns-clause-runs c = λ n r k x answer s s' o o' given b stream file told.
    runs_are_complete _ _ n r k x answer _ _ given b stream file told
    (record { reading = refl; writing = refl; faults = refl })
