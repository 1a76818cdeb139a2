-- What each command results in if no call on files or output fails.
use Rattle.command_words.specs.Command as spec
use Rattle.command_parts.specs.declared.status.Status.{Status}
use Rattle.command_parts.specs.NoRun.{IsRefused}
use Rattle.command_parts.specs.Outside.{Outside, NothingRose}
use Rattle.completeness.specs.Freezes.{CompletesFreeze}
use Rattle.completeness.specs.Images.{CompletesDemo, CompletesGen}
use Rattle.completeness.specs.Runs.{CompletesRun}
use Rattle.completeness.specs.Stats.{CompletesStats}
use Rattle.completeness.specs.Upgrades.{CompletesUpgrade}
use Rattle.completeness.specs.Stores.{CompletesStore}
use Rattle.completeness.specs.Thaws.{CompletesThaw}
use Rattle.completeness.specs.SoloOvers.{CompletesSoloOver}
use Rattle.completeness.specs.Views.{CompletesSolo, CompletesView}

-- By what the words ask for: faulty ones are refused with their line.
abbrev pub IsComplete : {S O : Type 0} → spec.Asked → Status → Outside S O → Outside S O → Type 0
IsComplete (spec.Faulty fault) answer before after =
    NothingRose before after → IsRefused (spec.Faulty fault) answer before after
IsComplete (spec.Run bundle record_name steps randomness) answer before after =
    CompletesRun bundle record_name steps randomness answer before after
IsComplete (spec.View bundle record_name) answer before after = CompletesView bundle record_name answer before after
IsComplete (spec.Solo domain bundle record_name) answer before after =
    CompletesSolo domain bundle record_name answer before after
IsComplete (spec.SoloOver domain bundle record_name old) answer before after =
    CompletesSoloOver domain bundle record_name old answer before after
IsComplete (spec.Gen number bundle_name) answer before after = CompletesGen number bundle_name answer before after
IsComplete (spec.Demo number steps) answer before after = CompletesDemo number steps answer before.output after.output
IsComplete (spec.Stats bundle steps randomness) answer before after =
    CompletesStats bundle steps randomness answer before after
IsComplete (spec.Upgrade old_name new_name) answer before after =
    CompletesUpgrade old_name new_name answer before after
IsComplete (spec.Store names counter steps randomness) answer before after =
    CompletesStore names counter steps randomness answer before after
IsComplete (spec.Freeze names steps randomness) answer before after =
    CompletesFreeze names steps randomness answer before after
IsComplete (spec.Thaw names steps randomness) answer before after =
    CompletesThaw names steps randomness answer before after
