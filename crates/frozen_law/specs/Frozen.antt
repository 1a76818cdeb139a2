-- A state with which a run is frozen is in range, and its machine can go on.
use Rattle.std.specs.Prelude.{ℕ, ◌≡◌, ◌≤◌, false, length, Some, Ok}
use Rattle.cloak_base.specs.Random.{Random}
use Rattle.cloak_model.specs.declared.image.Bundle.{Bundle}
use Rattle.cloak_model.specs.Beginning.{Fresh}
use Rattle.cloak_model.specs.Bundle.{IsInGrammar}
use Rattle.cloak_model.specs.Run.{Run, run_from, most_steps}
use Rattle.frozen_state.specs.declared.frozen.Frozen.{Frozen}
use Rattle.frozen_state.specs.FrozenState.{frozen_of}
use Rattle.frozen_state.specs.Ranges.{IsInRange}
use Rattle.frozen_state.specs.Thawing.{CanGoOn}
use Rattle.range_law.specs.Writing.{IsOfBytes, IsStreamOfBytes}
use Rattle.kernel_isolation.specs.Isolation.{joint_until}
use Rattle.frozen_law.specs.Missed.{NoneStopped}

-- The law, of the fresh run of an image in the grammar, with bytes in the image and in the stream: at each moment to which
-- no step stopped it and no two pages clashed, up to the most steps that a run may have, whatever vectors it is frozen
-- with.
abbrev pub FrozenStatesGoOn : Type 0
FrozenStatesGoOn =
    (b : Bundle) (stream : Random) (budget : ℕ) (r : Run) → IsInGrammar b → IsOfBytes b → IsStreamOfBytes stream →
    run_from b (Fresh stream) budget ≡ Ok r → (n : ℕ) → n ≤ most_steps → NoneStopped n r →
    (joint_until n r).memory.ledger.clashed ≡ false → (ivs : Random) (f : Frozen) →
    frozen_of (joint_until n r) n ivs ≡ Some f →
    IsInRange b.kernel (length b.programs) f × CanGoOn b stream f (joint_until n r)
