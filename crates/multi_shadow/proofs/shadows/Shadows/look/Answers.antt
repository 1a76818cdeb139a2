use Rattle.multi_shadow.specs.Placed.{live_in}
use Rattle.multi_shadow.specs.Recent.{recent_entries}
use Rattle.multi_shadow.proofs.Apart.{behind_apart}
use Rattle.multi_shadow.proofs.shadows.Shadows.look.Goals as goal

pub search-requires-clause-apart : goal.search-requires-clause-apart
search-requires-clause-apart c =
    let s = c.self.inside in behind_apart (recent_entries s.recent) (live_in s.arena.payloads) c.self.invariant.apart
