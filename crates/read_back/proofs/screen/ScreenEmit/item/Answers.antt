use Rattle.read_back.proofs.ScreenFacts.{emits_recorded}
use Rattle.read_back.proofs.screen.ScreenEmit.item.Goals as goal

pub returns : goal.returns
returns g c = emits_recorded _ _ _
