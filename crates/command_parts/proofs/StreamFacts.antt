-- A stream whose bytes are told is one.
use Rattle.std.proofs.Common.{◌≡◌, ◌∙◌, List, Option, take, ap, sym, subst, ℕ}
use Rattle.std.specs.Prelude.{IfSome}
use Rattle.cloak_base.specs.Random.{Random, handed}
use Rattle.command_words.specs.Command as spec
use Rattle.command_parts.specs.Streams.{IsStream, IsToldStream}

pub same_stream : (held : List ℕ → Option (List ℕ)) (from : spec.Randomness) (s stream : Random) →
    IsToldStream held from s → IsStream held from stream → stream ≡ s
same_stream held (spec.Numbered number) s stream told is = is ∙ sym told
same_stream held (spec.FromFile name) s stream told is =
    let bytes : is.bytes ≡ take spec.longest_stream told.0 =
    subst (λ (t : Option (List ℕ)). IfSome t (λ file. is.bytes ≡ take spec.longest_stream file)) told.1 is.front in
    is.handed_in ∙ (ap handed bytes ∙ sym told.2)
