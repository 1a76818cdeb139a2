-- What the words of `freeze` ask for: a run that begins, and the vectors under which its state is frozen.
use Rattle.std.specs.Prelude.{ℕ, ◌≡◌, List, Option, Err}
use Rattle.cloak_base.specs.Random.{Random}
use Rattle.cloak_model.specs.declared.image.Bundle.{Bundle}
use Rattle.cloak_model.specs.Opening.{Lack, opening}
use Rattle.command_words.specs.Command as spec
use Rattle.command_parts.specs.Bundles.{IsInFileAs}
use Rattle.command_parts.specs.Outside.{FilesOutside}
use Rattle.command_parts.specs.Streams.{IsOfFile, IsStream}

-- What a run that is frozen takes from the files that the words name.
pub record FreezeSources : Type 0 where
  pub version : ℕ
  pub bytes : List ℕ
  pub bundle : Bundle
  pub stream : Random
  pub vectors : Random

-- The words ask for the run of this bundle, to be frozen under these vectors.
pub record AsksFrozen (names : spec.FreezeNames) (randomness : spec.Randomness) (held : List ℕ → Option (List ℕ))
    (s : FreezeSources) : Type 0 where
  pub bundle : IsInFileAs s.version (held names.bundle) s.bytes s.bundle
  pub stream : IsStream held randomness s.stream
  pub vectors : IsOfFile (held names.vectors_name) s.vectors

-- The opening of the run finds too few random bytes.
pub record IsFreezeLack {S : Type 0} (asked : spec.Asked) (lack : Lack) (before after : FilesOutside S) : Type 0 where
  pub names : spec.FreezeNames
  pub steps : ℕ
  pub randomness : spec.Randomness
  pub freeze : asked ≡ spec.Freeze names steps randomness
  pub sources : FreezeSources
  pub asks : AsksFrozen names randomness before.held sources
  pub lacks : opening sources.bundle sources.stream ≡ Err lack
  pub reading : after.reading ≡ before.reading
