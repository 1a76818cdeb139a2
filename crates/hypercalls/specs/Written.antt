-- What a write in a cloaked page does to contexts.
use Rattle.std.specs.Prelude.{map, Option, Some, None}
use Rattle.cloak_model.specs.declared.context.PageWord.{PageWord}
use Rattle.cloak_model.specs.Contexts.{unless_reserved}
use Rattle.cloak_model.specs.DomainState.{Control}

-- contexts and resources once a word was written in, if one was: each reservation of it ends
abbrev pub written_in : Option PageWord → Control → Control
written_in None d = d
written_in (Some word) d = record d { contexts = map (unless_reserved word) d.contexts }
