use Rattle.shadow_fold.proofs.Follows.{follows_events}
use Rattle.shadow_fold.proofs.laws.law_of_following.Goals as goal

pub returns : goal.returns
returns c = follows_events
