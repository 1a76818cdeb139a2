-- What a step of a copy made of a context.
use Rattle.cloak_model.specs.Contexts.{Context}
use Rattle.cloak_model.specs.Calls.{Copy}
use Rattle.shim_calls.specs.declared.copies.CopyStep.{CopyStep}

-- the context after a step of its copy, which ended so
abbrev pub after_copy : Context → CopyStep → Copy
after_copy c step = record { context = c; ending = step.ending; wrote = step.wrote }
